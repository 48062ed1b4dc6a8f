-- A set in words: each member after its mark, then the kernel. So the kernel's place is after the members' words, and what is asked of members and
-- kernel is asked of these two parts.
use Rattle.std.specs.Prelude.{ℕ, ◌+◌, ◌<◌, ◌≡◌, length, take, get_or}
use Rattle.std.proofs.Math.Path.{refl}
use Rattle.std.proofs.Common.{ap, sym, ◌∙◌, arith, take_at, get_or-append-add}
use mathlib.Core.List.{List, [], ◌∷◌, ◌++◌, append_assoc, append-nil}
use Rattle.std.proofs.Math.ListN.{length-append}
use Rattle.terms.specs.Bounds.{Bounds, UnknownsFirst, MEMBER}
use Rattle.terms.specs.Kind.{within, within_first, within-before, within_apart, Worded}
use Rattle.terms.specs.Lists.{any}
use Rattle.terms.specs.Term.{Term, unknown, empty, with, functor, words, members, kernel, over, occurs}
use Rattle.terms.specs.Shape.{is_unknown}
use Rattle.terms.specs.Formed.{Formed, formed_unknown, formed_empty, formed_with, formed_functor}
use Rattle.terms.specs.Laws.Flat.{length_words}
use Rattle.rows.specs.Terms.HeldWords.{holds, holds-append, holds_words, mark_other}
use Rattle.rows.specs.Terms.Stripped.{kernel_place}

unfoldable pub member_words : Bounds → List Term → List ℕ
member_words b [] = []
member_words b (m ∷ ms) = MEMBER ∷ (words b m ++ member_words b ms)

-- the first word of a term
unfoldable pub head_word : Bounds → Term → ℕ
head_word b (unknown i) = b.first_unknown + i
head_word b empty = 0
head_word b (with m r) = 1
head_word b (functor k ts) = b.first_functor + k

module _ (b : Bounds) where
  pub words_over : (ms : List Term) (k : Term) → words b (over ms k) ≡ member_words b ms ++ words b k
  unfolding over words member_words
  words_over [] k = refl
  words_over (m ∷ ms) k =
      rw (words_over ms k) (ap (λ (ws : List ℕ). MEMBER ∷ ws) (sym (append_assoc (words b m) (member_words b ms) (words b k))))

  pub members-append : (ms ns : List Term) → member_words b (ms ++ ns) ≡ member_words b ms ++ member_words b ns
  unfolding member_words
  members-append [] ns = refl
  members-append (m ∷ ms) ns =
      rw (members-append ms ns) (ap (λ (ws : List ℕ). MEMBER ∷ ws) (sym (append_assoc (words b m) (member_words b ms) (member_words b ns))))

  pub words_members : (t : Term) → words b t ≡ member_words b (members t) ++ words b (kernel t)
  unfolding words member_words members kernel
  words_members (unknown i) = refl
  words_members empty = refl
  words_members (with m r) =
      rw (words_members r) (ap (λ (ws : List ℕ). MEMBER ∷ ws) (sym (append_assoc (words b m) (member_words b (members r)) (words b (kernel r)))))
  words_members (functor k ts) = refl

  pub length-members : (t : Term) → length (member_words b (members t)) ≡ kernel_place t
  unfolding member_words members kernel_place
  length-members (unknown i) = refl
  length-members empty = refl
  length-members (with m r) = omega (arith, length-append (words b m) (member_words b (members r)), length_words b m, length-members r)
  length-members (functor k ts) = refl

  pub take-members : (t : Term) → take (kernel_place t) (words b t) ≡ member_words b (members t)
  take-members t = rw (words_members t) (take_at (member_words b (members t)) (words b (kernel t)) (kernel_place t) (length-members t))

  pub head_words : (t : Term) (ws : List ℕ) → get_or (words b t ++ ws) 0 0 ≡ head_word b t
  unfolding words head_word
  head_words (unknown i) ws = refl
  head_words empty ws = refl
  head_words (with m r) ws = refl
  head_words (functor k ts) ws = refl

  pub head_kernel : (t : Term) → get_or (words b t) (kernel_place t) 0 ≡ head_word b (kernel t)
  head_kernel t =
      let e : get_or (words b t) (kernel_place t) 0 ≡ get_or (member_words b (members t) ++ words b (kernel t)) (length (member_words b (members t)) + 0) 0 =
      rw (words_members t, ← length-members t) (ap (λ (k : ℕ). get_or (member_words b (members t) ++ words b (kernel t)) k 0) (omega arith)) in
      e ∙ get_or-append-add (member_words b (members t)) (words b (kernel t)) 0 0 ∙ ap (λ (ws : List ℕ). get_or ws 0 0) (sym (append-nil (words b (kernel t)))) ∙ head_words (kernel t) []

module _ {b : Bounds} (order : UnknownsFirst b) {x : ℕ} (h : x < b.unknown_words) where
  pub holds-members : (ms : List Term) → holds (b.first_unknown + x) (member_words b ms) ≡ any (occurs x) ms
  unfolding member_words holds any
  holds-members [] = refl
  holds-members (m ∷ ms) =
      rw (mark_other order h 1 (omega arith)) (holds-append (b.first_unknown + x) (words b m) (member_words b ms) ∙ rw (holds_words order h m, holds-members ms))

module _ {b : Bounds} {arities : List ℕ} {n : ℕ} (worded : Worded b arities n) where
  pub head_unknown : {t : Term} → Formed arities n t → within b.first_unknown b.unknown_words (head_word b t) ≡ is_unknown t
  unfolding head_word is_unknown
  head_unknown (formed_unknown {i = i} h) = within_first b.first_unknown b.unknown_words i (omega (arith, worded.unknowns))
  head_unknown formed_empty = within-before b.first_unknown b.unknown_words 0 (omega (arith, worded.proper.unknowns_after_marks))
  head_unknown (formed_with f g) = within-before b.first_unknown b.unknown_words 1 (omega (arith, worded.proper.unknowns_after_marks))
  head_unknown (formed_functor {k = k} h e f) = within_apart worded.proper.apart (omega (arith, worded.functors))
