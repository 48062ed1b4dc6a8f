-- The whole tree. Below a node whose values all solve the question, every answer's values do (`visits-true`). Values that meet a node fit an answer
-- below it, or reach a node deeper than lent (`visits_none_lost`): no count of levels is assumed to be enough.
use Prim.Native.Nat.{ℕ, ◌+◌, suc, zero, ◌≤◌, ◌<◌}
use Rattle.std.specs.Prelude.{◌≡◌, refl, ltb}
use Rattle.std.proofs.Common.{◌∙◌, le_refl, arith}
use mathlib.Core.List.{List, [], ◌∷◌, flat_map}
use borrow.Author.Tests.{ltb-true, ltb-false}
use Rattle.terms.specs.Bounds.{Bounds}
use Rattle.terms.specs.Kind.{Worded}
use Rattle.terms.specs.Lists.{All, Any, none, both, here, there, cases, All-map, All-both, All_of_flat_map, Any_with, Any_of_flat_map}
use Rattle.terms.specs.Formed.{Formed, Equation, Question, sides}
use Rattle.terms.specs.Answers.{Binding, answer_words}
use Rattle.terms.specs.Listing.{Bound}
use Rattle.laws.specs.Values.{Values, Solves}
use Rattle.search.specs.State.{State, Node, dead, live, Entry}
use Rattle.search.specs.Children.{children}
use Rattle.search.specs.Run.{Visit, answer_by, visit, dead_visit, visits, root, found}
use Rattle.answers.specs.Steps.Meaning.{HoldsEntry, HoldsBinding, MeetsNode, meets_live, of_live, of_dead}
use Rattle.answers.specs.Steps.Kept.{FormedEquation, Kept, KeptNode, kept_live, kept-children, bound_wider}
use Rattle.answers.specs.Steps.Sound.{sound_children}
use Rattle.answers.specs.Steps.Renewing.{Reaches}
use Rattle.answers.specs.Steps.Complete.{Onward, answered, onward, complete_children}
use Rattle.terms.specs.Lists.{All_for_each}
use Rattle.answers.specs.Fits.{States, Meets, Fits}
use Rattle.answers.specs.Runs.Stated.{meets_stated}

module _ (b : Bounds) (q : Question) where
  -- an answer states bindings, and all values that meet it solve the question
  abbrev pub IsTrue : List ℕ → Type 0
  IsTrue answer = States b q answer × ((σ : Values) → Meets b q σ answer → Solves σ q.equations)

  -- all values that meet a node solve it
  abbrev pub Leads : Node → Type 0
  Leads node = (σ : Values) → MeetsNode σ node → Solves σ q.equations

  -- an answer with few enough unknowns states its bindings
  states : {n : ℕ} (bs : List Binding) → n ≤ b.path_unknowns → All (Bound q.arities n) bs → States b q (answer_words b bs)
  states bs l f = record { bindings = bs; formed = All-map (bound_wider l) f; words = refl }

  -- ---- every answer true

  module _ (worded : Worded b q.arities b.path_unknowns) where
    answer-true : {n : ℕ} (es : List Equation) (ns : List Entry) (bs : List Binding) → n ≤ b.path_unknowns → All (Bound q.arities n) bs
        → ((σ : Values) → Solves σ es → All (HoldsEntry σ) ns → All (HoldsBinding σ) bs → Solves σ q.equations) → All IsTrue (found b (answer_by es ns bs))
    unfolding answer_by found states
    answer-true [] [] bs l f h = let s = states bs l f in both (s, λ σ m. h σ none none (meets_stated worded s m)) none
    answer-true [] (n ∷ ns) bs l f h = none
    answer-true (e ∷ es) ns bs l f h = none

    pub visits-true : {n : ℕ} (levels d : ℕ) (node : Node) → KeptNode q.arities n node → Leads node
        → All (λ v. v.next ≤ b.path_unknowns → All IsTrue (found b v.answer)) (visits levels d node)
    unfolding visits visit dead_visit found
    visits-true zero d node k h = none
    visits-true (suc levels) d dead k h = both (λ l. none) none
    visits-true (suc levels) d (live st) (kept_live k) h =
        both (λ l. answer-true st.pending st.pile st.bindings l k.bindings (λ σ es ns bs. h σ (meets_live (record { pending = es; pile = ns; bindings = bs }))))
        (All_of_flat_map (visits levels (suc d)) (λ c p. visits-true levels (suc d) c p.0 (λ σ m. h σ (meets_live (p.1 σ m))))
        (All-both (kept-children k) (All_for_each (children st) (λ σ. sound_children σ k))))

  -- ---- none lost

  module _ (table : List ℕ) (σ : Values) where
    farther : {n m : ℕ} {τ : Values} {node : Node} → n ≤ m → ((i : ℕ) → i < n → τ i ≡ σ i) → Reaches table m τ node → Reaches table n σ node
    farther l s r = record { values = r.values; grounded = r.grounded; same = λ i h. r.same i (omega arith) ∙ s i h; meets = r.meets }

    fits-answer : (st : State) → Kept q.arities q.unknowns st → Reaches table q.unknowns σ (live st) → st.pending ≡ [] → st.pile ≡ [] → st.next ≤ b.path_unknowns
        → Any (Fits b q table σ) (found b (answer_by st.pending st.pile st.bindings))
    unfolding answer_by found states
    fits-answer st k r e f l =
        rw (e, f)
        (here (record { values = r.values; grounded = r.grounded; same = r.same; meets = record { states = states st.bindings l k.bindings; met = of_live (λ m. m.bindings) r.meets } }))

    pub visits_none_lost : (lent levels d : ℕ) (node : Node) → KeptNode q.arities q.unknowns node → d ≤ suc lent → lent + 2 ≤ d + levels → Reaches table q.unknowns σ node
        → Any (λ v. v.depth ≤ lent → v.next ≤ b.path_unknowns → Any (Fits b q table σ) (found b v.answer)) (visits levels d node)
    unfolding visits visit dead_visit
    visits_none_lost lent zero d node k h g r = absurd (omega arith)
    visits_none_lost lent (suc levels) d dead k h g r = of_dead r.meets
    visits_none_lost lent (suc levels) d (live st) (kept_live k) h g r =
        cases (ltb lent d) (λ e. here (λ l. let z = ltb-true lent d e in absurd (omega arith)))
        (λ e. go (complete_children r.values r.grounded k (of_live (λ m. m) r.meets))
        (λ c kept s. visits_none_lost lent levels (suc d) c kept (let z = ltb-false lent d e in omega arith) (omega arith) s))
      where
        Found : Visit → Type 0
        Found v = v.depth ≤ lent → v.next ≤ b.path_unknowns → Any (Fits b q table σ) (found b v.answer)

        go : Onward table r.values st (children st)
            → ((c : Node) → KeptNode q.arities q.unknowns c → Reaches table q.unknowns σ c → Any Found (visits levels (suc d) c))
            → Any Found (visit d st ∷ flat_map (visits levels (suc d)) (children st))
        go (answered e f) rec = here (λ l m. fits-answer st k r e f m)
        go (onward a) rec = there (Any_of_flat_map (visits levels (suc d)) (λ c p. rec c p.0 (farther k.in_use r.same p.1)) (Any_with (kept-children k) a))

-- ---- the root

kept-sides : {arities : List ℕ} {n : ℕ} (es : List Equation) → All (Formed arities n) (sides es) → All (FormedEquation arities n) es
unfolding sides
kept-sides [] h = none
kept-sides (e ∷ es) (both l (both r h)) = both (record { left = l; right = r }) (kept-sides es h)

pub kept-root : (q : Question) → All (Formed q.arities q.unknowns) (sides q.equations) → KeptNode q.arities q.unknowns (root q)
unfolding root
kept-root q f = kept_live (record { in_use = le_refl q.unknowns; pending = kept-sides q.equations f; pile = none; bindings = none })

pub root_leads : (b : Bounds) (q : Question) → Leads b q (root q)
unfolding root
root_leads b q σ m = of_live (λ k. k.pending) m

pub meets-root : {σ : Values} (q : Question) → Solves σ q.equations → MeetsNode σ (root q)
unfolding root
meets-root q h = meets_live (record { pending = h; pile = none; bindings = none })
