-- What a word stands for, and how many terms follow it: SPECIFICATION 3.1; its numbers are those of `Bounds`.
-- Then the laws: the word of each symbol has its kind, and a kind tells its word.
use Rattle.std.specs.Prelude.{ℕ, ◌+◌, ◌-◌, ◌<◌, ◌≤◌, ◌≡◌, List, Bool, true, false, cond, ◌&&◌, eqb, leb, ltb, length, get_or}
use Rattle.std.proofs.Math.Path.{refl}
use native.Mathlib.Omega.{arith}
use borrow.Author.Tests.{ne_eqb, lt-ltb, le-ltb, le-leb, lt-leb, eqb-true, leb-true, ltb-true}
use Rattle.room.specs.Parts.{Apart, earlier, later}
use Rattle.terms.specs.Bounds.{Bounds, Proper, EMPTY, MEMBER}
use Rattle.terms.specs.Lists.{cases, and_left, and_right, and_both}
use Rattle.terms.specs.declared.kind.Kind.{Kind}
use Rattle.terms.specs.declared.kind.Kind.TheVariants.{Empty, Member, Unknown, Functor, Nothing}

-- is w one of the words from a first one on, so many?
unfoldable pub within : ℕ → ℕ → ℕ → Bool
within first many w = leb first w && ltb w (first + many)

unfoldable pub kind : Bounds → ℕ → Kind
kind b w =
    cond (eqb w EMPTY) Empty
    (cond (eqb w MEMBER) Member
    (cond (within b.first_unknown b.unknown_words w) (Unknown (w - b.first_unknown))
    (cond (within b.first_functor b.functor_words w) (Functor (w - b.first_functor))
    Nothing)))

-- how many terms follow a word: the member and the rest, or the arguments
unfoldable pub takes : Bounds → List ℕ → ℕ → ℕ
takes b arities w =
    cond (eqb w MEMBER) 2
    (cond (within b.first_unknown b.unknown_words w) 0
    (cond (ltb w b.first_functor) 0 (get_or arities (w - b.first_functor) 0)))

-- ---- a kind tells its word

pub data Means (b : Bounds) (w : ℕ) : Kind → Type 0 where
  means_empty : w ≡ EMPTY → Means b w Empty
  means_member : w ≡ MEMBER → Means b w Member
  means_unknown : {i : ℕ} → w ≡ b.first_unknown + i → i < b.unknown_words → Means b w (Unknown i)
  means_functor : {k : ℕ} → w ≡ b.first_functor + k → k < b.functor_words → Means b w (Functor k)
  means_nothing : Means b w Nothing

within-from : (first many w : ℕ) → within first many w ≡ true → first ≤ w
unfolding within
within-from first many w t = leb-true first w (and_left _ _ t)

within_many : (first many w : ℕ) → within first many w ≡ true → w - first < many
unfolding within
within_many first many w t =
    let lo = leb-true first w (and_left _ _ t) in
    let hi = ltb-true w (first + many) (and_right (leb first w) _ t) in
    omega arith

pub means : (b : Bounds) (w : ℕ) → Means b w (kind b w)
unfolding kind
means b w =
    cases (eqb w EMPTY) (λ t. rw t (means_empty (eqb-true w EMPTY t)))
    (λ s. cases (eqb w MEMBER) (λ t. rw (s, t) (means_member (eqb-true w MEMBER t)))
    (λ r. cases (within b.first_unknown b.unknown_words w)
    (λ t. rw (s, r, t) (means_unknown {i = w - b.first_unknown} (let lo = within-from b.first_unknown b.unknown_words w t in omega arith) (within_many _ _ w t)))
    (λ q. cases (within b.first_functor b.functor_words w)
    (λ t. rw (s, r, q, t) (means_functor {k = w - b.first_functor} (let lo = within-from b.first_functor b.functor_words w t in omega arith) (within_many _ _ w t)))
    (λ t. rw (s, r, q, t) means_nothing))))

module _ (b : Bounds) {w : ℕ} where
  told : {k : Kind} → k ≡ kind b w → Means b w k
  told e = rw e (means b w)

  pub empty_told : Empty ≡ kind b w → w ≡ EMPTY
  empty_told e = go (told e)
    where
      go : Means b w Empty → w ≡ EMPTY
      go (means_empty e) = e

  pub member_told : Member ≡ kind b w → w ≡ MEMBER
  member_told e = go (told e)
    where
      go : Means b w Member → w ≡ MEMBER
      go (means_member e) = e

  pub unknown_told : {i : ℕ} → Unknown i ≡ kind b w → (w ≡ b.first_unknown + i) × (i < b.unknown_words)
  unknown_told {i} e = go (told e)
    where
      go : Means b w (Unknown i) → (w ≡ b.first_unknown + i) × (i < b.unknown_words)
      go (means_unknown e h) = (e, h)

  pub functor_told : {k : ℕ} → Functor k ≡ kind b w → (w ≡ b.first_functor + k) × (k < b.functor_words)
  functor_told {k} e = go (told e)
    where
      go : Means b w (Functor k) → (w ≡ b.first_functor + k) × (k < b.functor_words)
      go (means_functor e h) = (e, h)

-- ---- the words of symbols

-- every functor of the table and each of the first n unknowns has a word of its own
pub record Worded (b : Bounds) (arities : List ℕ) (n : ℕ) : Type 0 where
  pub proper : Proper b
  pub functors : length arities ≤ b.functor_words
  pub unknowns : n ≤ b.unknown_words

pub within-between : (first many w : ℕ) → first ≤ w → w < first + many → within first many w ≡ true
unfolding within
within-between first many w l m = and_both (le-leb first w l) (lt-ltb w (first + many) m)

pub within_first : (first many i : ℕ) → i < many → within first many (first + i) ≡ true
within_first first many i h = within-between first many (first + i) (omega arith) (omega arith)

pub within-before : (first many w : ℕ) → w < first → within first many w ≡ false
unfolding within
within-before first many w h = rw (lt-leb first w h)

pub within-after : (first many w : ℕ) → first + many ≤ w → within first many w ≡ false
unfolding within
within-after first many w h = rw (le-leb first w (omega arith), le-ltb w (first + many) h)

-- two ranges apart: a word of the one is none of the other
pub within_apart : {first many other more : ℕ} → Apart first many other more → {k : ℕ} → k < more → within first many (other + k) ≡ false
within_apart (earlier a) l = within-after _ _ _ (omega arith)
within_apart (later a) l = within-before _ _ _ (omega arith)

pub apart_words : {first many other more : ℕ} → Apart first many other more → {i k : ℕ} → i < many → k < more → other + k ≡ first + i → ⊥
apart_words (earlier a) h l e = omega arith
apart_words (later a) h l e = omega arith

pub kind-nothing : (b : Bounds) (w : ℕ) → 2 ≤ w → within b.first_unknown b.unknown_words w ≡ false → within b.first_functor b.functor_words w ≡ false
    → kind b w ≡ Nothing
unfolding kind
kind-nothing b w h u f = rw (ne_eqb w EMPTY (λ e. omega arith), ne_eqb w MEMBER (λ e. omega arith), u, f)

-- what follows a word, by where it lies: below the functors' words nothing but after the member mark, and from there on, where it is no unknown's, by the table
module _ (b : Bounds) (arities : List ℕ) {w : ℕ} (n : w ≡ MEMBER → ⊥) where
  pub takes_none : w < b.first_functor → takes b arities w ≡ 0
  unfolding takes
  takes_none l = cases (within b.first_unknown b.unknown_words w) (λ t. rw (ne_eqb w MEMBER n, t)) (λ t. rw (ne_eqb w MEMBER n, t, lt-ltb w b.first_functor l))

  pub takes_table : within b.first_unknown b.unknown_words w ≡ false → b.first_functor ≤ w → takes b arities w ≡ get_or arities (w - b.first_functor) 0
  unfolding takes
  takes_table u l = rw (ne_eqb w MEMBER n, u, le-ltb w b.first_functor l)

module _ {b : Bounds} (proper : Proper b) where
  pub kind_unknown : (i : ℕ) → i < b.unknown_words → kind b (b.first_unknown + i) ≡ Unknown i
  unfolding kind
  kind_unknown i h =
      let e : b.first_unknown + i - b.first_unknown ≡ i = omega arith in
      rw (ne_eqb (b.first_unknown + i) EMPTY (λ e. omega arith), ne_eqb (b.first_unknown + i) MEMBER (λ e. omega arith), within_first b.first_unknown b.unknown_words i h, e)

  pub kind_functor : (k : ℕ) → k < b.functor_words → kind b (b.first_functor + k) ≡ Functor k
  unfolding kind
  kind_functor k h =
      let e : b.first_functor + k - b.first_functor ≡ k = omega arith in
      rw (
        ne_eqb (b.first_functor + k) EMPTY (λ e. omega arith),
        ne_eqb (b.first_functor + k) MEMBER (λ e. omega arith),
        within_apart proper.apart h,
        within_first b.first_functor b.functor_words k h,
        e,
      )

  pub kind_of_unknown : (w : ℕ) → b.first_unknown ≤ w → w < b.first_unknown + b.unknown_words → kind b w ≡ Unknown (w - b.first_unknown)
  kind_of_unknown w l m =
      let e : b.first_unknown + (w - b.first_unknown) ≡ w = omega arith in
      rw e at (kind_unknown (w - b.first_unknown) (omega arith))

  pub kind_of_functor : (w : ℕ) → b.first_functor ≤ w → w < b.first_functor + b.functor_words → kind b w ≡ Functor (w - b.first_functor)
  kind_of_functor w l m =
      let e : b.first_functor + (w - b.first_functor) ≡ w = omega arith in
      rw e at (kind_functor (w - b.first_functor) (omega arith))

  module _ (arities : List ℕ) where
    pub takes_empty : takes b arities EMPTY ≡ 0
    takes_empty = takes_none b arities (λ e. omega arith) (omega arith)

    pub takes_member : takes b arities MEMBER ≡ 2
    unfolding takes
    takes_member = refl

    pub takes_unknown : (i : ℕ) → i < b.unknown_words → takes b arities (b.first_unknown + i) ≡ 0
    unfolding takes
    takes_unknown i h = rw (ne_eqb (b.first_unknown + i) MEMBER (λ e. omega arith), within_first b.first_unknown b.unknown_words i h)
