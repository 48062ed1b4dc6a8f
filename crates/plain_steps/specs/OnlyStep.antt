-- The step that the first equation calls for, where it leaves no choice: what is asked of each function that takes one, and that the child's row then
-- holds the only child.
use Rattle.std.specs.Prelude.{ℕ, ◌+◌, ◌-◌, ◌<◌, refl, false}
use Rattle.std.proofs.Math.Path.{◌≡◌, ap, sym}
use Rattle.std.proofs.Common.{◌∙◌}
use mathlib.Core.List.{List, [], ◌∷◌, ◌++◌}
use native.Mathlib.Omega.{arith}
use Rattle.std.proofs.Math.ListN.{length, get_or}
use Rattle.room.specs.Room.{seg, get_or-seg}
use Rattle.room.specs.Layout.{HEADER}
use Rattle.terms.specs.Bounds.{edition_one, edition_one_proper, FIRST_UNKNOWN, FIRST_FUNCTOR}
use Rattle.terms.specs.Kind.{takes}
use Rattle.terms.proofs.KindLaws.{takes_functor}
use Rattle.terms.specs.Term.{Term, Terms, functor, words, size, occurs, list}
use Rattle.terms.specs.Formed.{Equation, Formed, formed_unknown, formed_functor}
use Rattle.terms.specs.Shape.{arguments}
use Rattle.terms.specs.Laws.Flat.{size_positive}
use Rattle.search.specs.State.{State, Node, live, dead, pend, piled}
use Rattle.search.specs.Classify.{classify}
use Rattle.search.specs.Children.{bound, bound_state, pairwise}
use Rattle.search.specs.Children as children
use Rattle.search.specs.StepView.{Sided, as_written, turned_round, Stepped, binds, postpones, decomposes, take_bind, take_postpone}
use Rattle.search.proofs.StepView.{stepped}
use Rattle.search.specs.declared.steps.Tails.{Tails}
use Rattle.search.specs.declared.steps.Step.{Step}
use Rattle.search.specs.declared.steps.Step.TheVariants.{Drop, Bind, Postpone, Decompose, Dead}
use Rattle.rows.specs.declared.parts.Rest.{Rest}
use Rattle.rows.specs.declared.parts.Made.{Made}
use Rattle.rows.specs.declared.parts.Made.TheVariants as made
use Rattle.rows.specs.declared.first.Subject.{Subject}
use Rattle.rows.specs.Header.{header_of}
use Rattle.rows.specs.Bind.{FinishParts, bound_pending, bound_pile, bound_body}
use Rattle.binding.specs.Keep.{kept_piece, kept_header}
use Rattle.rows.specs.Finished.{Finished, bound_header}
use Rattle.rows.specs.Row.{Makes, Beside, header_for, becomes}
use Rattle.rows.specs.First.{rest_after, subject_in}
use Rattle.plain_steps.specs.StepParts.{postponed, PostponeParts, DecomposeParts, paired, decomposed}
use Rattle.binding.specs.At.{Held, SubjectAt, first_formed, subject-found, left_stands}
use Rattle.plain_steps.specs.Singles.{drop-parts, drop-made, bind_first-parts, bind_made, postpone_first-parts, postpone_made}
use Rattle.plain_steps.specs.Decomposed.{decompose_first-parts, decompose_made}

-- the state that the row holds has e for its first equation, and the numbers are those of e
pub record StepFor (arities l : List ℕ) (from to scratch lent right end next : ℕ) (rest : Rest) (s : Subject) (step : Step) (st : State) (e : Equation) (es : List Equation) : Type 0 where
  pub held : Held arities l from to scratch lent st
  pub cut : st.pending ≡ e ∷ es
  pub right_is : right ≡ size e.left
  pub end_is : end ≡ size e.left + size e.right
  pub rest_is : rest ≡ rest_after from (header_for st) (size e.left + size e.right)
  pub subject_is : s ≡ subject_in edition_one (seg l (from + HEADER) (size e.left + size e.right)) (from + HEADER) (size e.left) (size e.left + size e.right)
  pub step_is : step ≡ classify e.left e.right
  pub next_is : next ≡ st.next

-- there is such a state
pub record StepAt (arities l : List ℕ) (from to scratch lent right end next : ℕ) (rest : Rest) (s : Subject) (step : Step) : Type 0 where
  pub state : State
  pub first : Equation
  pub others : List Equation
  pub here : StepFor arities l from to scratch lent right end next rest s step state first others

-- what the function that takes the step says, of each such state and its only child
pub record Taken (arities l : List ℕ) (from to scratch lent right end next : ℕ) (rest : Rest) (s : Subject) (step : Step) (a : Made) (r : List ℕ) : Type 0 where
  pub taken : (st : State) (e : Equation) (es : List Equation) (node : Node) → StepFor arities l from to scratch lent right end next rest s step st e es
      → children.take step e.left e.right (pend es st) ≡ node ∷ [] → Makes edition_one l to lent node a r
  pub beside : (st : State) (e : Equation) (es : List Equation) → StepFor arities l from to scratch lent right end next rest s step st e es → Beside l r to lent scratch

only : {n m : Node} → ◌≡◌ {A = List Node} (n ∷ []) (m ∷ []) → n ≡ m
only e = cc

-- ---- what each step tells of the sides

pub record Binding (l r : Term) : Type 0 where
  pub x : ℕ
  pub t : Term
  pub sided : Sided x t l r
  pub absent : occurs x t ≡ false

pub record Postponing (l r : Term) : Type 0 where
  pub x : ℕ
  pub t : Term
  pub sided : Sided x t l r

pub record Functors (l r : Term) : Type 0 where
  pub k : ℕ
  pub ts : Terms
  pub us : Terms
  pub left : l ≡ functor k ts
  pub right : r ≡ functor k us

pub binding : {l r : Term} {k : Tails} → Stepped l r (Bind k) → Binding l r
binding (binds {x = x} {t = t} s o) = record { x = x; t = t; sided = s; absent = o }

pub postponing : {l r : Term} {k : Tails} → Stepped l r (Postpone k) → Postponing l r
postponing (postpones {x = x} {t = t} s o) = record { x = x; t = t; sided = s }

pub functors : {l r : Term} → Stepped l r Decompose → Functors l r
functors (decomposes {k = k} {ts = ts} {us = us}) = record { k = k; ts = ts; us = us; left = refl; right = refl }

only-decomposed : {l r : Term} (st : State) {node : Node} (v : Functors l r) → children.take Decompose l r st ≡ node ∷ []
    → live (pend (pairwise (list v.ts) (list v.us) ++ st.pending) st) ≡ node
unfolding children.take arguments
only-decomposed st v o = only (rw (v.left, v.right) at o)

module _ {arities l : List ℕ} {from to scratch lent right end next : ℕ} {rest : Rest} {s : Subject} {step : Step} {st : State} {e : Equation} {es : List Equation}
    (S : StepFor arities l from to scratch lent right end next rest s step st e es) where
  abbrev H : Held arities l from to scratch lent st
  H = S.held

  view : (k : Step) → step ≡ k → Stepped e.left e.right k
  view k q = rw (sym S.step_is ∙ q) at (stepped e.left e.right)

  -- the unknown is one of the state's
  small : {x : ℕ} {t : Term} → Sided x t e.left e.right → x < FIRST_UNKNOWN
  small {x} {t} d = let f = first_formed H.sound S.cut in by_side d f.0 f.1
    where
      by_side : {a c : Term} → Sided x t a c → Formed arities st.next a → Formed arities st.next c → x < FIRST_UNKNOWN
      by_side as_written (formed_unknown h) g = omega (arith, S.held.sound.few)
      by_side (turned_round n) f (formed_unknown h) = omega (arith, S.held.sound.few)

  at_subject : {x : ℕ} {t : Term} → Sided x t e.left e.right → SubjectAt l s x t from (size e.left + size e.right)
  at_subject d = rw S.subject_is (subject-found H S.cut d)

  -- ---- drop

  pub drop_arm_parts : FinishParts l rest from 0 to 0 lent FIRST_UNKNOWN next
  drop_arm_parts = rw (S.rest_is, S.next_is) (drop-parts H S.cut)

  pub drop_arm : {a : Made} {r : List ℕ} {node : Node} → step ≡ Drop → Finished l to 0 lent (kept_piece l rest from 0) (header_of (kept_header rest 0 0 next)) a r
      → children.take step e.left e.right (pend es st) ≡ node ∷ [] → Makes edition_one l to lent node a r
  unfolding children.take
  drop_arm {node = node} q F o =
      let n : live (pend es st) ≡ node = only (rw q at o) in
      rw (← n) (drop-made H S.cut (rw (S.rest_is, S.next_is) at F))

  -- ---- bind

  pub bind_arm_parts : {k : Tails} → step ≡ Bind k → FinishParts l rest s.by s.m to 0 lent s.x next
  bind_arm_parts q = let v = binding (view _ q) in rw (S.rest_is, S.next_is) (bind_first-parts H S.cut (at_subject v.sided) (small v.sided))

  pub bind_arm : {k : Tails} {a : Made} {r : List ℕ} {node : Node} → step ≡ Bind k
      → Finished l to 0 lent (bound_body edition_one arities l rest s.x s.by s.m)
      (header_of (bound_header rest (0 + length (bound_pending edition_one arities l rest s.x s.by s.m)) (length (bound_pile edition_one arities l rest s.x s.by s.m)) s.m next)) a r
      → children.take step e.left e.right (pend es st) ≡ node ∷ [] → Makes edition_one l to lent node a r
  unfolding bound
  bind_arm {k} {node = node} q F o =
      let v = binding (view _ q) in
      let n : live (bound_state v.x v.t (pend es st)) ≡ node =
      only (sym (take_bind k (pend es st) v.sided ∙ rw v.absent) ∙ (rw q at o)) in
      rw (← n) (bind_made H S.cut (at_subject v.sided) (small v.sided) (rw (S.rest_is, S.next_is) at F))

  -- ---- postpone

  pub postpone_arm_parts : {k : Tails} → step ≡ Postpone k → PostponeParts l rest s scratch to lent next
  postpone_arm_parts q = let v = postponing (view _ q) in rw (S.rest_is, S.next_is) (postpone_first-parts H S.cut (at_subject v.sided) (small v.sided))

  pub postpone_arm : {k : Tails} {a : Made} {r : List ℕ} {node : Node} → step ≡ Postpone k
      → Finished (postponed l s scratch) to 0 lent (kept_piece (postponed l s scratch) rest scratch (s.m + 1)) (header_of (kept_header rest 0 (s.m + 1) next)) a r
      → children.take step e.left e.right (pend es st) ≡ node ∷ [] → Makes edition_one l to lent node a r
  postpone_arm {k} {node = node} q F o =
      let v = postponing (view _ q) in
      let n : live (piled v.x v.t (pend es st)) ≡ node = only (sym (take_postpone k (pend es st) v.sided) ∙ (rw q at o)) in
      rw (← n) (postpone_made H S.cut (at_subject v.sided) (small v.sided) (rw (S.rest_is, S.next_is) at F))

  -- ---- decompose

  pub decompose_arm_parts : step ≡ Decompose → DecomposeParts l rest (from + HEADER + 1) (right - 1) (from + HEADER + right + 1) (end - right - 1) to lent next
  decompose_arm_parts q = let v = functors (view _ q) in rw (S.rest_is, S.next_is, S.right_is, S.end_is) (decompose_first-parts H S.cut v.left v.right)

  -- the functor's word, and its arity
  arity : {c : ℕ} (v : Functors e.left e.right) → c ≡ takes edition_one arities (get_or l (from + HEADER) 0) → c ≡ get_or arities v.k 0
  unfolding words edition_one
  arity v f =
      let p : from + HEADER + 0 ≡ from + HEADER = omega arith in
      let w : get_or l (from + HEADER) 0 ≡ FIRST_FUNCTOR + v.k =
      ap (λ (j : ℕ). get_or l j 0) (sym p) ∙ sym (get_or-seg l (from + HEADER) (size e.left) 0 (size_positive e.left))
      ∙ ap (λ (ws : List ℕ). get_or ws 0 0) (left_stands H.holds S.cut ∙ ap (words edition_one) v.left) in
      f ∙ rw w (takes_functor edition_one_proper arities v.k (omega (arith, declared (rw v.left at (first_formed H.sound S.cut).0), H.sound.functors)))
    where
      declared : {k : ℕ} {ts : Terms} → Formed arities st.next (functor k ts) → k < length arities
      declared (formed_functor h c g) = h

  pub decompose_arm : {c : ℕ} {a : Made} {r : List ℕ} {node : Node} → step ≡ Decompose → c ≡ takes edition_one arities (get_or l (from + HEADER) 0)
      → Finished (decomposed edition_one arities l c (from + HEADER + 1) (right - 1) (from + HEADER + right + 1) (end - right - 1) to) to
      (length (paired edition_one arities c (seg l (from + HEADER + 1) (right - 1)) (seg l (from + HEADER + right + 1) (end - right - 1)))) lent
      (kept_piece (decomposed edition_one arities l c (from + HEADER + 1) (right - 1) (from + HEADER + right + 1) (end - right - 1) to) rest (from + HEADER + 1) 0)
      (header_of (kept_header rest (length (paired edition_one arities c (seg l (from + HEADER + 1) (right - 1)) (seg l (from + HEADER + right + 1) (end - right - 1)))) 0 next)) a r
      → children.take step e.left e.right (pend es st) ≡ node ∷ [] → Makes edition_one l to lent node a r
  unfolding pend
  decompose_arm {node = node} q f F o =
      let v = functors (view _ q) in
      let n : live (pend (pairwise (list v.ts) (list v.us) ++ es) st) ≡ node = only-decomposed (pend es st) v (rw q at o) in
      rw (← n) (decompose_made H S.cut v.left v.right (arity v f) (rw (S.rest_is, S.next_is, S.right_is, S.end_is) at F))

  -- both sides have words
  pub sides_positive : (0 < right) × (right < end)
  sides_positive = (omega (arith, S.right_is, size_positive e.left), omega (arith, S.right_is, S.end_is, size_positive e.right))

  -- ---- a dead end

  pub dead_arm : {node : Node} → step ≡ Dead → children.take step e.left e.right (pend es st) ≡ node ∷ [] → Makes edition_one l to lent node made.Dead l
  unfolding children.take becomes
  dead_arm {node} q o =
      let n : dead ≡ node = only (rw q at o) in
      rw (← n) (record { long = refl; below = refl; tells = refl; holds = λ u f g. absurd (never g) })
    where
      never : ◌≡◌ {A = Made} made.Dead made.Live → ⊥
      never g = let z : ◌≡◌ {A = ℕ} 0 1 = cc in omega arith
