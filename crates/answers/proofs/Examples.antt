-- The theorems applied to the specimens (SPECIFICATION 11), so that none is empty: from the done run of {a|x0} = {b|x0} that x0 = {a,b,c} solves it and
-- x0 = {a} does not; that x0 = {a|x0} is solvable; that a member may be both matched and in the rest; that x0 = {x0} and x0 = g(x0) have no
-- solution over any functor table; and that what an unfinished run lists is true.
use Prim.Native.Nat.{ℕ, suc, zero, ◌<◌, ◌≤◌}
use Rattle.std.specs.Prelude.{◌≡◌, List, [], ◌∷◌, ◌↔◌, leb, length, get_or}
use Rattle.std.proofs.Math.Path.{refl}
use Rattle.std.proofs.Common.{leb-true, arith}
use Rattle.terms.specs.Bounds.{edition_one, edition_one_proper, SYMBOLS, ARITY, PATH_UNKNOWNS}
use Rattle.terms.specs.Lists.{All, Any, none, both, here, there, all, all→, All-map}
use Rattle.terms.specs.Term.{Term, unknown, with, functor, words, members, over, count}
use Rattle.terms.specs.Term as term
use Rattle.terms.specs.Formed.{Formed, formed_unknown, formed_empty, formed_with, formed_functor, formed_none, formed_more, Ground, Question, Good, sides, row}
use Rattle.terms.specs.Laws.Substitution.{formed_wider}
use Rattle.terms.specs.Answers.{Binding, answer_words}
use Rattle.laws.specs.Laws.{◌≈◌, ≈refl, ≈trans, In}
use Rattle.laws.specs.Equal.{computing_equal}
use Rattle.laws.proofs.Agree.{agree}
use Rattle.laws.proofs.Apart.{functor_parts}
use Rattle.laws.specs.Values.{Values, value, in_order, GroundValues, Solves, solves_test, holds_test}
use Rattle.laws.specs.ValuesPut.{value-below}
use Rattle.laws.proofs.Solving.{solves_agree, ground_in_order}
use Rattle.terms.specs.Laws.FormedParts.{formed_over}
use Rattle.search.specs.declared.ends.End.TheVariants.{Done, Steps}
use Rattle.search.specs.Run.{Loan, ran}
use Rattle.search.specs.Specimens.{a, b, c, g, x0, set, arities, asks, lending, ample, computing}
use Rattle.terms.specs.Lists.{All-first, All-rest}
use Rattle.answers.specs.Fits.{States, Fits}
use Rattle.answers.proofs.DemandTwo.{every_answer-true, no_answer_lost}
use Rattle.answers.proofs.SolvedExactly.{demand_two, done-without_answers}
use Rattle.answers.proofs.Runs.Listed.{answers_worded}
use Rattle.answers.specs.Runs.Stated.{meets_stated}
use Rattle.answers.specs.Steps.PileSays.{has_members}

-- ---- the specimens' terms and questions are good

constant : {n : ℕ} (k : ℕ) → k < length arities → 0 ≡ get_or arities k 0 → Formed arities n (functor k term.none)
unfolding count
constant k l e = formed_functor l e formed_none

a_formed : {n : ℕ} → Formed arities n a
a_formed = constant 0 (omega arith) refl

b_formed : {n : ℕ} → Formed arities n b
b_formed = constant 1 (omega arith) refl

c_formed : {n : ℕ} → Formed arities n c
c_formed = constant 2 (omega arith) refl

x0_formed : {n : ℕ} → Formed arities (suc n) x0
x0_formed = formed_unknown {i = 0} (omega arith)

x1_formed : Formed arities 2 (unknown 1)
x1_formed = formed_unknown {i = 1} (omega arith)

good : {t u : Term} → Formed arities 1 t → Formed arities 1 u → length (row edition_one (t ∷ u ∷ [])) ≤ SYMBOLS → Good edition_one (asks 1 t u)
unfolding edition_one sides all
good left right h =
    record {
      unknowns = omega arith;
      functors = omega arith;
      arities = All-map (λ k e. leb-true k ARITY e) (all→ (λ k. leb k ARITY) arities refl);
      equations = omega arith;
      formed = both left (both right none);
      symbols = h;
    }

-- ---- one answer, x0 = t, where t may mention x1

abbrev first_is : Term → List Binding
first_is t = record { name = 0; value = t } ∷ []

record OneAnswer (l r t : Term) : Type 0 where
  good : Good edition_one (asks 1 l r)
  done : (ran edition_one (asks 1 l r) ample).end ≡ Done
  listed : (ran edition_one (asks 1 l r) ample).answers ≡ answer_words edition_one (first_is t) ∷ []
  formed : Formed arities 2 t

only : {P : List ℕ → Type 0} {l : List ℕ} → Any P (l ∷ []) → P l
only (here h) = h
only (there h) = elim h [ ]

states : {l r t : Term} → Formed arities 2 t → States edition_one (asks 1 l r) (answer_words edition_one (first_is t))
unfolding edition_one
states {t = t} f =
    let first : 0 < PATH_UNKNOWNS = omega arith in
    record { bindings = first_is t; formed = both (record { name = first; value = formed_wider (omega arith) f }) none; words = refl }

-- x0 = v solves the question exactly if some ground value of x1 makes v the value of t
module _ {l r t : Term} (one : OneAnswer l r t) {v : Term} (grounded : Ground arities v) where
  fit_of_x1 : {w : Term} → Ground arities w → v ≈ value (in_order (v ∷ w ∷ [])) t → Fits edition_one (asks 1 l r) arities (in_order (v ∷ [])) (answer_words edition_one (first_is t))
  unfolding edition_one in_order states
  fit_of_x1 {w} f h =
      record {
        values = in_order (v ∷ w ∷ []);
        grounded = ground_in_order (both grounded (both f none));
        same = same;
        meets = record { states = states one.formed; met = both h none };
      }
    where
      same : (i : ℕ) → i < 1 → in_order (v ∷ w ∷ []) i ≡ in_order (v ∷ []) i
      same zero k = refl
      same (suc i) k = absurd (omega arith)

  x1_of_fit : Fits edition_one (asks 1 l r) arities (in_order (v ∷ [])) (answer_words edition_one (first_is t)) → (w : Term) × Ground arities w × (v ≈ value (in_order (v ∷ w ∷ [])) t)
  unfolding edition_one in_order states
  x1_of_fit f = (f.values 1, f.grounded 1, go (meets_stated (answers_worded edition_one_proper one.good) (states one.formed) f.meets))
    where
      agrees : (i : ℕ) → i < 2 → f.values i ≈ in_order (v ∷ f.values 1 ∷ []) i
      agrees zero k = rw (f.same 0 (omega arith)) ≈refl
      agrees (suc zero) k = ≈refl
      agrees (suc (suc i)) k = absurd (omega arith)

      go : All (λ n. f.values n.name ≈ value f.values n.value) (first_is t) → v ≈ value (in_order (v ∷ f.values 1 ∷ [])) t
      go (both h none) = ≈trans (rw (f.same 0 (omega arith)) at h) (value-below f.values (in_order (v ∷ f.values 1 ∷ [])) one.formed agrees)

  solves_exactly : Solves (in_order (v ∷ [])) (asks 1 l r).equations ↔ ((w : Term) × Ground arities w × (v ≈ value (in_order (v ∷ w ∷ [])) t))
  solves_exactly =
      let d = demand_two edition_one edition_one_proper (asks 1 l r) one.good ample one.done arities (in_order (v ∷ [])) (ground_in_order (both grounded none)) in
      (λ h. x1_of_fit (only (rw one.listed at (d.0 h))), λ p. d.1 (rw one.listed (here (fit_of_x1 p.1 p.2))))

-- ---- {a|x0} = {b|x0}: its answer is x0 = {a,b|x1}

a_or_b : OneAnswer (with a x0) (with b x0) (with a (with b (unknown 1)))
unfolding computing row
a_or_b =
    record {
      good = good (formed_with a_formed x0_formed) (formed_with b_formed x0_formed) (omega arith);
      done = refl;
      listed = refl;
      formed = formed_with a_formed (formed_with b_formed x1_formed);
    }

pub abc_solves : Solves (in_order (set (a ∷ b ∷ c ∷ []) ∷ [])) (asks 1 (with a x0) (with b x0)).equations
unfolding over value in_order computing_equal
abc_solves =
    (solves_exactly a_or_b (formed_over (both a_formed (both b_formed (both c_formed none))) formed_empty)).1
    (set (c ∷ []), formed_over (both c_formed none) formed_empty, (agree _ _).1 refl)

b-not_in_a : In b (a ∷ []) → ⊥
b-not_in_a (here h) = let e = (functor_parts h).0 in omega arith
b-not_in_a (there h) = elim h [ ]

pub a_does_not_solve : Solves (in_order (set (a ∷ []) ∷ [])) (asks 1 (with a x0) (with b x0)).equations → ⊥
unfolding over value in_order members
a_does_not_solve h =
    let p = (solves_exactly a_or_b (formed_over (both a_formed none) formed_empty)).0 h in
    b-not_in_a (All-first (All-rest (has_members (a ∷ b ∷ []) p.0 p.2)))

-- ---- x0 = {a|x0}: its answer is x0 = {a|x1}

a_in_itself : OneAnswer x0 (with a x0) (with a (unknown 1))
unfolding computing row
a_in_itself = record { good = good x0_formed (formed_with a_formed x0_formed) (omega arith); done = refl; listed = refl; formed = formed_with a_formed x1_formed }

pub a_in_itself_solvable : Solves (in_order (set (a ∷ []) ∷ [])) (asks 1 x0 (with a x0)).equations
unfolding over value in_order computing_equal
a_in_itself_solvable = (solves_exactly a_in_itself (formed_over (both a_formed none) formed_empty)).1 (set [], formed_empty, (agree _ _).1 refl)

-- ---- {a|x0} = {a,b}: with x0 = {a,b} the right side's a is both matched by the left's a and in the left's rest, and is not lost

abbrev pub in_both : Question
in_both = asks 1 (with a x0) (set (a ∷ b ∷ []))

pub matched_and-in_rest : Any (Fits edition_one in_both arities (in_order (set (a ∷ b ∷ []) ∷ []))) (ran edition_one in_both ample).answers
unfolding computing row in_order value solves_test holds_test computing_equal
matched_and-in_rest =
    let fine : Good edition_one in_both = good (formed_with a_formed x0_formed) (formed_with a_formed (formed_with b_formed formed_empty)) (omega arith) in
    no_answer_lost edition_one edition_one_proper in_both fine ample refl arities (in_order (set (a ∷ b ∷ []) ∷ []))
    (ground_in_order (both (formed_with a_formed (formed_with b_formed formed_empty)) none)) ((solves_agree _ _).1 refl)

-- ---- x0 = {x0} and x0 = g(x0) have no answer

pub no_set_is_its_member : (table : List ℕ) (σ : Values) → GroundValues table σ → Solves σ (asks 1 x0 (set (x0 ∷ []))).equations → ⊥
unfolding computing row
no_set_is_its_member table σ grounded =
    let fine : Good edition_one (asks 1 x0 (set (x0 ∷ []))) = good x0_formed (formed_with x0_formed formed_empty) (omega arith) in
    done-without_answers edition_one edition_one_proper (asks 1 x0 (set (x0 ∷ []))) fine ample refl table σ grounded refl

pub no_term_is_its_argument : (table : List ℕ) (σ : Values) → GroundValues table σ → Solves σ (asks 1 x0 (g x0)).equations → ⊥
unfolding computing row count
no_term_is_its_argument table σ grounded =
    let fine : Good edition_one (asks 1 x0 (g x0)) = good x0_formed (formed_functor (omega arith) refl (formed_more x0_formed formed_none)) (omega arith) in
    done-without_answers edition_one edition_one_proper (asks 1 x0 (g x0)) fine ample refl table σ grounded refl

-- ---- {x0,x0} = {a}, with steps for the first of its two answers: the run is not done, and what it lists is true

abbrev pub twice : Question
twice = asks 1 (set (x0 ∷ x0 ∷ [])) (set (a ∷ []))

abbrev six_steps : Loan
six_steps = lending 6 20 100 100

unfinished : (ran edition_one twice six_steps).end ≡ Steps
unfolding computing
unfinished = refl

listed_so_far : (ran edition_one twice six_steps).answers ≡ answer_words edition_one (first_is a) ∷ []
unfolding computing
listed_so_far = refl

pub true_so_far : (σ : Values) → σ 0 ≈ a → Solves σ twice.equations
unfolding edition_one row words over value states
true_so_far σ h =
    let fine : Good edition_one twice = good (formed_with x0_formed (formed_with x0_formed formed_empty)) (formed_with a_formed formed_empty) (omega arith) in
    All-first (rw listed_so_far at (every_answer-true edition_one edition_one_proper twice fine six_steps)) σ (record { states = states a_formed; met = both h none })
