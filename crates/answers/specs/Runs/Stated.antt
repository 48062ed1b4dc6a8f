-- An answer's words state their bindings and no others. So values that meet an answer meet whatever bindings its words state.
use Rattle.std.specs.Prelude.{ℕ, ◌≡◌}
use Rattle.std.proofs.Math.Path.{sym}
use Rattle.std.proofs.Common.{◌∙◌}
use mathlib.Core.List.{List, append-nil, head-eq_of_cons-eq, tail-eq_of_cons-eq}
use Rattle.terms.specs.Bounds.{Bounds}
use Rattle.terms.specs.Kind.{Worded}
use Rattle.terms.specs.Lists.{All}
use Rattle.terms.specs.Formed.{Question}
use Rattle.terms.specs.Answers.{Binding, binding_words, answer_words}
use Rattle.terms.specs.Listing.{Bound, bindings_determine}
use Rattle.laws.specs.Laws.{◌≈◌}
use Rattle.laws.specs.Values.{Values, value}
use Rattle.answers.specs.Fits.{States, Meets}

module _ {b : Bounds} {arities : List ℕ} {n : ℕ} (worded : Worded b arities n) where
  answer_determined : {ms ns : List Binding} → All (Bound arities n) ms → All (Bound arities n) ns → answer_words b ms ≡ answer_words b ns → ms ≡ ns
  unfolding answer_words
  answer_determined {ms} {ns} f g e =
      (bindings_determine worded f g (head-eq_of_cons-eq e) (append-nil (binding_words b ms) ∙ tail-eq_of_cons-eq e ∙ sym (append-nil (binding_words b ns)))).0

pub stated_once : {b : Bounds} {q : Question} {answer : List ℕ} → Worded b q.arities b.path_unknowns → (s t : States b q answer) → s.bindings ≡ t.bindings
stated_once worded s t = answer_determined worded s.formed t.formed (sym s.words ∙ t.words)

pub meets_stated : {b : Bounds} {q : Question} {σ : Values} {answer : List ℕ} → Worded b q.arities b.path_unknowns → (s : States b q answer) → Meets b q σ answer
    → All (λ n. σ n.name ≈ value σ n.value) s.bindings
meets_stated worded s m = rw (stated_once worded m.states s) at m.met
