-- No split loses values. Where both sides are equal under values, let each member whose value is in the other tail's value pick that tail: then the
-- picks' equations hold, and what becomes of the tails holds too, by what the laws say of members and kernels. Where both tails are
-- unknowns, the new one takes what their values share.
use Rattle.std.specs.Prelude.{ℕ, ◌<◌, ◌≡◌, List, [], ◌++◌, map}
use Rattle.std.proofs.Math.Path.{refl}
use Rattle.std.proofs.Common.{ap, ap₂, sym, ◌∙◌, arith}
use Rattle.std.proofs.lemmas.List.{map-append}
use Rattle.std.proofs.Math.Bool.{false}
use Rattle.std.proofs.lemmas.Bool.{false≢true}
use Rattle.std.proofs.Math.Dec.{eqb}
use borrow.Author.Tests.{ne_eqb}
use Rattle.terms.specs.Lists.{Any, both, All-append}
use Rattle.terms.specs.Term.{Term, unknown, empty, with, functor, subst, members, kernel, over}
use Rattle.terms.specs.Shape.{is_unknown, number}
use Rattle.terms.specs.Formed.{Formed, Equation}
use Rattle.laws.specs.Laws.{◌≈◌, ≈sym, ≈trans}
use Rattle.laws.specs.Values.{Values, value, given, GroundValues, Solves}
use Rattle.laws.proofs.Members.{kernel-over, kernel-kernel}
use Rattle.laws.specs.ValuesPut.{value-bound}
use Rattle.terms.specs.Laws.FormedParts.{formed_kernel, unknown_below}
use Rattle.laws.proofs.Tails.{Met, met, those_in, shared, formed_shared, complete_neither, complete_left, complete_right, complete_different_left, complete_different_right, complete_same}
use Rattle.search.specs.declared.steps.Tails.{Tails}
use Rattle.search.specs.State.{State, pend}
use Rattle.search.specs.Children.{joining, settle, split}
use Rattle.search.specs.StepView.{Tailed, neither, left, right, different, same}
use Rattle.answers.specs.Steps.Meaning.{MeetsState, MeetsNode, meets_live, written, values-over}
use Rattle.answers.specs.Steps.StateChanges.{after_added, after-renewed, after-pile_up}
use Rattle.answers.specs.Steps.Binding.{never_dead, complete_bound, complete_then_bound}
use Rattle.answers.specs.Steps.Picks.{split-any, best_joining, best_equations}
use Rattle.answers.specs.Steps.Forming.{kernel-subst}
use Rattle.answers.specs.Steps.Kept.{Kept}
use Rattle.answers.specs.Steps.Renewing.{given_other, given_new, holds_new, meets_new, Reaches, renew}

-- a term's tail: it has no members of its own, and only an unknown's value may have some
record Tail (σ : Values) (arities : List ℕ) (n : ℕ) (s : Term) : Type 0 where
  itself : kernel s ≡ s
  bare : is_unknown s ≡ false → members (value σ s) ≡ []
  formed : Formed arities n s

bare_value : (σ : Values) (t : Term) → is_unknown (kernel t) ≡ false → members (value σ (kernel t)) ≡ []
unfolding is_unknown kernel members value
bare_value σ (unknown i) u = absurd (false≢true (sym u))
bare_value σ empty u = refl
bare_value σ (with m r) u = bare_value σ r u
bare_value σ (functor k ts) u = refl

tail_of : {arities : List ℕ} {n : ℕ} (σ : Values) {t : Term} → Formed arities n t → Tail σ arities n (kernel t)
tail_of σ {t} f = record { itself = kernel-kernel t; bare = bare_value σ t; formed = formed_kernel f }

-- x is bound to members over a tail that is not x
pub other_tail : {x : ℕ} (U : List Term) (r : Term) → kernel r ≡ r → (r ≡ unknown x → ⊥) → kernel (over U r) ≡ unknown x → ⊥
other_tail U r k d e = d (sym k ∙ sym (kernel-over U r) ∙ e)

known_apart : {x : ℕ} {r : Term} → is_unknown r ≡ false → r ≡ unknown x → ⊥
unfolding is_unknown
known_apart b e = false≢true (sym b ∙ ap is_unknown e)

pub new_apart : {n x : ℕ} → x < n → unknown n ≡ unknown x → ⊥
new_apart {n} {x} l e = let k : n ≡ x = cc in omega arith

module _ (σ : Values) where
  module _ {arities : List ℕ} (T U : List Term) {ts us : List Term} {es : List Equation} {st : State} (solved : Solves σ es) (meets : MeetsState σ st) where
    complete_settle : {s r : Term} {k : Tails} → Tail σ arities st.next s → Tail σ arities st.next r
        → ((x y : ℕ) → s ≡ unknown x → r ≡ unknown y → σ st.next ≡ shared (σ x) (σ y))
        → map (value σ) T ≡ those_in (value σ r) ts → map (value σ) U ≡ those_in (value σ s) us → Met ts us (value σ s) (value σ r)
        → Tailed s r k → MeetsNode σ (settle k s r T U es st)
    unfolding settle number value kernel pend
    complete_settle left_tail right_tail new eT eU m (neither a b) =
        meets_live (record { pending = All-append solved (both (complete_neither m (left_tail.bare a) (right_tail.bare b)) meets.pending); pile = meets.pile; bindings = meets.bindings })
    complete_settle left_tail right_tail new eT eU m (left {x = x} {r = r} b) =
        let h : σ x ≈ value σ (over U r) = values-over σ U r eU (complete_left m (right_tail.bare b)) in
        complete_bound σ x (over U r) _ (after_added σ solved meets) h (never_dead σ x (over U r) h (other_tail U r right_tail.itself (known_apart b)))
    complete_settle left_tail right_tail new eT eU m (right {s = s} {y = y} a) =
        let h : σ y ≈ value σ (over T s) = values-over σ T s eT (complete_right m (left_tail.bare a)) in
        complete_bound σ y (over T s) _ (after_added σ solved meets) h (never_dead σ y (over T s) h (other_tail T s left_tail.itself (known_apart a)))
    complete_settle left_tail right_tail new eT eU m (different {x = x} {y = y} d) =
        let N : Term = unknown st.next in
        let e : σ st.next ≡ shared (σ x) (σ y) = new x y refl refl in
        let h : σ x ≈ value σ (over U N) = values-over σ U N eU (rw e (complete_different_left m)) in
        let g : σ y ≈ value σ (over T N) = values-over σ T N eT (rw e (complete_different_right m)) in
        let f : σ y ≈ value σ (subst x (over U N) (over T N)) = ≈trans g (≈sym (value-bound σ x (over U N) (over T N) h)) in
        let apart_x : unknown st.next ≡ unknown x → ⊥ = new_apart (unknown_below left_tail.formed) in
        let apart_y : unknown st.next ≡ unknown y → ⊥ = new_apart (unknown_below right_tail.formed) in
        let ne : eqb st.next x ≡ false = ne_eqb _ _ (λ q. apart_x (ap unknown q)) in
        let tail : kernel (subst x (over U N) (over T N)) ≡ N = kernel-subst x (over U N) (over T N) ne (kernel-over T N) in
        complete_then_bound σ y (subst x (over U N) (over T N)) _
        (complete_bound σ x (over U N) _ (after-renewed σ (after_added σ solved meets)) h (never_dead σ x (over U N) h (other_tail U N refl apart_x))) f
        (never_dead σ y (subst x (over U N) (over T N)) f (λ q. apart_y (sym tail ∙ q)))
    complete_settle left_tail right_tail new eT eU m (same {x = x}) =
        meets_live (after-pile_up σ {x = x} (T ++ U) (rw (map-append (value σ) T U, eT, eU) (complete_same ts us (σ x))) (after_added σ solved meets))

pub complete_split : {arities table : List ℕ} {n : ℕ} (σ : Values) {t u : Term} {k : Tails} {st : State} → Formed arities st.next t → Formed arities st.next u → Kept arities n st
    → Tailed (kernel t) (kernel u) k → GroundValues table σ → value σ t ≈ value σ u → MeetsState σ st → Any (Reaches table st.next σ) (split k t u st)
unfolding number
complete_split {arities} σ {t} {u} {k} {st} f g kept d grounded h m =
    split-any τ k t u (value τ (kernel t)) (value τ (kernel u)) st (tail_of τ f).bare (tail_of τ g).bare sets.each_t sets.each_u
    (λ ps qs c e.
    renew grounded (formed_shared (σ y) (grounded x))
    (complete_settle τ (joining ps) (joining qs) (All-append (best_equations (λ t u l. l) c) (best_equations (λ u t l. ≈sym l) e)) (meets_new σ v kept m) (tail_of τ f) (tail_of τ g) new
    (best_joining c) (best_joining e) sets d))
  where
    x : ℕ
    x = number (kernel t)

    y : ℕ
    y = number (kernel u)

    v : Term
    v = shared (σ x) (σ y)

    τ : Values
    τ = given st.next v σ

    sets : Met (map (value τ) (members t)) (map (value τ) (members u)) (value τ (kernel t)) (value τ (kernel u))
    sets = met (rw (written τ t, written τ u) at (holds_new σ st.next v (record { left = t; right = u }) (record { left = f; right = g }) h))

    unchanged : {i : ℕ} {s : Term} → Formed arities st.next s → s ≡ unknown i → σ (number s) ≡ τ i
    unchanged {i} fs e = rw e (sym (given_other st.next v σ i (unknown_below (rw e at fs))))

    new : (i j : ℕ) → kernel t ≡ unknown i → kernel u ≡ unknown j → τ st.next ≡ shared (τ i) (τ j)
    new i j p q = given_new st.next v σ ∙ ap₂ shared (unchanged (formed_kernel f) p) (unchanged (formed_kernel g) q)
