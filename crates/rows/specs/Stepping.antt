-- Which step an equation calls for, read off the words of its two sides: `classify`, said of words.
use Rattle.std.specs.Prelude.{ℕ, ◌+◌, ◌<◌, ◌≡◌, Bool, false, cond, ◌&&◌, get_or}
use Rattle.std.proofs.Math.Path.{refl, ap}
use Rattle.std.proofs.Common.{sym, ◌∙◌, arith}
use mathlib.Core.List.{List, [], append-nil}
use Rattle.std.proofs.Math.Bool.{true, not}
use Rattle.std.proofs.Math.Dec.{eqb}
use borrow.Author.Tests.{eq-eqb, ne_eqb, eqb-true, eqb-false}
use Rattle.terms.specs.Bounds.{Bounds, EMPTY, MEMBER}
use Rattle.terms.specs.Laws.Flat.{eqb_shift}
use Rattle.terms.specs.Kind.{within, Worded}
use Rattle.terms.specs.Lists.{any, cases}
use Rattle.terms.specs.Term.{Term, unknown, words, members, kernel, occurs}
use Rattle.terms.specs.Shape.{is_unknown, number}
use Rattle.terms.specs.Formed.{Formed, formed_unknown, formed_empty, formed_with, formed_functor}
use Rattle.terms.specs.Laws.FormedParts.{formed_kernel}
use Rattle.terms.specs.Laws.Flat.{eqb_shift}
use Rattle.walks.specs.declared.occurrence.Occurrence.{Occurrence}
use Rattle.walks.specs.declared.occurrence.Occurrence.TheVariants.{Absent, Tail, Inside}
use Rattle.walks.specs.Occurrence.{in_rest, in_rest-occurrence, occurrence_by}
use Rattle.search.specs.declared.steps.Tails.{Tails}
use Rattle.search.specs.declared.steps.Tails.TheVariants.{Different}
use Rattle.search.specs.declared.steps.Step.{Step}
use Rattle.search.specs.declared.steps.Step.TheVariants.{Drop, Bind, Postpone, Decompose, Split, Dead}
use Rattle.search.specs.Classify.{tails_by, tails, only_tail, meet_by, meet, classify}
use Rattle.rows.specs.Terms.Stripped.{kernel_at, kernel_at_words, kernel_place}
use Rattle.rows.specs.Terms.MemberWords.{head_word, head_words, head_kernel, head_unknown}

unfoldable pub unknown_word : Bounds → ℕ → Bool
unknown_word b w = within b.first_unknown b.unknown_words w

-- the tails, by the first words of the two kernels
unfoldable pub tails_of : Bounds → ℕ → ℕ → Tails
tails_of b l r = tails_by (unknown_word b l) (unknown_word b r) (eqb l r)

unfoldable pub kernel_word : Bounds → (arities ws : List ℕ) → ℕ
kernel_word b arities ws = get_or ws (kernel_at b arities ws) 0

-- X = t by where X occurs in t
unfoldable pub meet_where : Occurrence → Tails → Step
meet_where Absent k = Bind k
meet_where Tail k = Postpone k
meet_where Inside k = Dead

-- X = t, of whose tails so much is known
unfoldable pub meet_words : Bounds → List ℕ → ℕ → List ℕ → Tails → Step
meet_words b arities x ws k = meet_where (in_rest b arities x ws 0) k

-- neither side is an unknown
unfoldable pub compare_words : Bounds → (arities left right : List ℕ) → Step
compare_words b arities left right =
    cond (eqb (get_or left 0 0) (get_or right 0 0))
    (cond (eqb (get_or left 0 0) EMPTY) Drop
    (cond (eqb (get_or left 0 0) MEMBER) (Split (tails_of b (kernel_word b arities left) (kernel_word b arities right))) Decompose))
    Dead

unfoldable pub step_by : Bool → Bool → Bounds → (arities left right : List ℕ) → Step
step_by true true b arities left right = cond (eqb (get_or left 0 0) (get_or right 0 0)) Drop (Bind Different)
step_by true false b arities left right = meet_words b arities (get_or left 0 0) right (tails_of b (get_or left 0 0) (kernel_word b arities right))
step_by false true b arities left right = meet_words b arities (get_or right 0 0) left (tails_of b (kernel_word b arities left) (get_or right 0 0))
step_by false false b arities left right = compare_words b arities left right

unfoldable pub step_of : Bounds → (arities left right : List ℕ) → Step
step_of b arities left right = step_by (unknown_word b (get_or left 0 0)) (unknown_word b (get_or right 0 0)) b arities left right

met_where : (o tail : Bool) (k : Tails) → meet_where (cond o (cond tail Tail Inside) Absent) k ≡ meet_by o tail k
unfolding meet_where meet_by
met_where true true k = refl
met_where true false k = refl
met_where false tail k = refl

-- ---- the words of formed terms

module _ {b : Bounds} {arities : List ℕ} {n : ℕ} (worded : Worded b arities n) where
  first_word : (t : Term) → get_or (words b t) 0 0 ≡ head_word b t
  first_word t = ap (λ (ws : List ℕ). get_or ws 0 0) (sym (append-nil (words b t))) ∙ head_words b t []

  kernel_at_term : {t : Term} → Formed arities n t → kernel_at b arities (words b t) ≡ kernel_place t
  kernel_at_term {t} f = ap (kernel_at b arities) (sym (append-nil (words b t))) ∙ kernel_at_words worded f []

  kernel_word_term : {t : Term} → Formed arities n t → kernel_word b arities (words b t) ≡ head_word b (kernel t)
  unfolding kernel_word
  kernel_word_term {t} f = rw (kernel_at_term f) (head_kernel b t)

  -- which word they have matters where both are unknowns
  same_heads : {s r : Term} → Formed arities n s → Formed arities n r
      → tails_by (is_unknown s) (is_unknown r) (eqb (head_word b s) (head_word b r)) ≡ tails_by (is_unknown s) (is_unknown r) (eqb (number s) (number r))
  unfolding tails_by is_unknown number head_word
  same_heads (formed_unknown {i = i} f) (formed_unknown {i = j} g) = ap (tails_by true true) (eqb_shift b.first_unknown i j)
  same_heads (formed_unknown f) formed_empty = refl
  same_heads (formed_unknown f) (formed_with g k) = refl
  same_heads (formed_unknown f) (formed_functor g e k) = refl
  same_heads formed_empty (formed_unknown g) = refl
  same_heads formed_empty formed_empty = refl
  same_heads formed_empty (formed_with g k) = refl
  same_heads formed_empty (formed_functor g e k) = refl
  same_heads (formed_with f h) (formed_unknown g) = refl
  same_heads (formed_with f h) formed_empty = refl
  same_heads (formed_with f h) (formed_with g k) = refl
  same_heads (formed_with f h) (formed_functor g e k) = refl
  same_heads (formed_functor f d h) (formed_unknown g) = refl
  same_heads (formed_functor f d h) formed_empty = refl
  same_heads (formed_functor f d h) (formed_with g k) = refl
  same_heads (formed_functor f d h) (formed_functor g e k) = refl

  pub tails_of_heads : {s r : Term} → Formed arities n s → Formed arities n r → tails_of b (head_word b s) (head_word b r) ≡ tails_by (is_unknown s) (is_unknown r) (eqb (number s) (number r))
  unfolding tails_of unknown_word
  tails_of_heads f g = rw (head_unknown worded f, head_unknown worded g) (same_heads f g)

  meet_term : {x : ℕ} → x < n → {t : Term} → Formed arities n t → (k : Tails) → meet_words b arities (b.first_unknown + x) (words b t) k ≡ meet x t k
  unfolding meet_words meet only_tail
  meet_term {x} h {t} f k =
      ap (λ (ws : List ℕ). meet_where (in_rest b arities (b.first_unknown + x) ws 0) k) (sym (append-nil (words b t)))
      ∙ ap (λ (o : Occurrence). meet_where o k) (in_rest-occurrence worded x (omega (arith, worded.unknowns)) f [] ∙ occurrence_by x t)
      ∙ met_where (occurs x t) (is_unknown (kernel t) && eqb (number (kernel t)) x && not (any (occurs x) (members t))) k

  -- an unknown on the left, or on the right alone
  left_unknown : {x : ℕ} → x < n → {u : Term} → Formed arities n u
      → meet_words b arities (b.first_unknown + x) (words b u) (tails_of b (b.first_unknown + x) (kernel_word b arities (words b u))) ≡ meet x u (tails (unknown x) u)
  unfolding head_word tails kernel
  left_unknown {x} h {u} g = rw (kernel_word_term g, tails_of_heads (formed_unknown h) (formed_kernel g)) (meet_term h g _)

  right_unknown : {y : ℕ} → y < n → {t : Term} → Formed arities n t
      → meet_words b arities (b.first_unknown + y) (words b t) (tails_of b (kernel_word b arities (words b t)) (b.first_unknown + y)) ≡ meet y t (tails t (unknown y))
  unfolding head_word tails kernel
  right_unknown {y} h {t} f = rw (kernel_word_term f, tails_of_heads (formed_kernel f) (formed_unknown h)) (meet_term h f _)

  two_unknowns : (x y : ℕ) → cond (eqb (b.first_unknown + x) (b.first_unknown + y)) Drop (Bind Different) ≡ classify (unknown x) (unknown y)
  unfolding classify meet meet_by occurs
  two_unknowns x y =
      rw (eqb_shift b.first_unknown x y)
      (cases (eqb x y) (λ e. rw e) (λ e. rw (e, ne_eqb y x (λ q. eqb-false x y e (sym q)))))

  functors : (k j : ℕ) (s : Step) → cond (eqb (b.first_functor + k) (b.first_functor + j)) (cond (eqb (b.first_functor + k) EMPTY) Drop (cond (eqb (b.first_functor + k) MEMBER) s Decompose)) Dead ≡ cond (eqb k j) Decompose Dead
  functors k j s =
      cases (eqb k j)
      (λ e. rw (
        e,
        eq-eqb (b.first_functor + k) (b.first_functor + j) (ap (λ (i : ℕ). b.first_functor + i) (eqb-true k j e)),
        ne_eqb (b.first_functor + k) EMPTY (λ q. omega (arith, worded.proper.functors_after_marks)),
        ne_eqb (b.first_functor + k) MEMBER (λ q. omega (arith, worded.proper.functors_after_marks)),
      ))
      (λ e. rw (e, ne_eqb (b.first_functor + k) (b.first_functor + j) (λ q. eqb-false k j e (omega arith))))

  differ : (l r : ℕ) (s : Step) → (l ≡ r → ⊥) → cond (eqb l r) s Dead ≡ Dead
  differ l r s d = rw (ne_eqb l r d)

  two_sets : {t u : Term} → Formed arities n t → Formed arities n u → tails_of b (kernel_word b arities (words b t)) (kernel_word b arities (words b u)) ≡ tails t u
  unfolding tails
  two_sets f g = rw (kernel_word_term f, kernel_word_term g) (tails_of_heads (formed_kernel f) (formed_kernel g))

  by_kinds : {t u : Term} → Formed arities n t → Formed arities n u → step_by (is_unknown t) (is_unknown u) b arities (words b t) (words b u) ≡ classify t u
  unfolding step_by is_unknown classify words compare_words
  by_kinds (formed_unknown {i = x} f) (formed_unknown {i = y} g) = two_unknowns x y
  by_kinds (formed_unknown f) formed_empty = left_unknown f formed_empty
  by_kinds (formed_unknown f) (formed_with g k) = left_unknown f (formed_with g k)
  by_kinds (formed_unknown f) (formed_functor g e k) = left_unknown f (formed_functor g e k)
  by_kinds formed_empty (formed_unknown g) = right_unknown g formed_empty
  by_kinds (formed_with f h) (formed_unknown g) = right_unknown g (formed_with f h)
  by_kinds (formed_functor f d h) (formed_unknown g) = right_unknown g (formed_functor f d h)
  by_kinds formed_empty formed_empty = refl
  by_kinds formed_empty (formed_with g k) = refl
  by_kinds formed_empty (formed_functor {k = j} g e k) = differ 0 (b.first_functor + j) _ (λ q. omega (arith, worded.proper.functors_after_marks))
  by_kinds (formed_with f h) formed_empty = refl
  by_kinds (formed_with f h) (formed_with g k) = ap Split (two_sets (formed_with f h) (formed_with g k))
  by_kinds (formed_with f h) (formed_functor {k = j} g e k) = differ 1 (b.first_functor + j) _ (λ q. omega (arith, worded.proper.functors_after_marks))
  by_kinds (formed_functor {k = i} f d h) formed_empty = differ (b.first_functor + i) 0 _ (λ q. omega (arith, worded.proper.functors_after_marks))
  by_kinds (formed_functor {k = i} f d h) (formed_with g k) = differ (b.first_functor + i) 1 _ (λ q. omega (arith, worded.proper.functors_after_marks))
  by_kinds (formed_functor {k = i} f d h) (formed_functor {k = j} g e k) = functors i j _

  pub step_of_words : {t u : Term} → Formed arities n t → Formed arities n u → step_of b arities (words b t) (words b u) ≡ classify t u
  unfolding step_of unknown_word
  step_of_words {t} {u} f g = rw (first_word t, first_word u, head_unknown worded f, head_unknown worded g) (by_kinds f g)
