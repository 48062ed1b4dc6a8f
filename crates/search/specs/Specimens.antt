-- The specimens of SPECIFICATION 11 and the limit cases of x0 = {a|x0}, and some of our own: one table, under one claim that is computed.
use Rattle.std.specs.Prelude.{ℕ, ◌≡◌, refl, Bool, true, false, ◌&&◌, not, eqb}
use mathlib.Core.List.{List, [], ◌∷◌, flat_map}
use Rattle.terms.specs.Bounds.{edition_one}
use Rattle.terms.specs.Lists.{all, any, product}
use Rattle.terms.specs.Term.{Term, unknown, empty, with, functor, none, more, words, size, occurs, subst, members, kernel, over, list}
use Rattle.terms.specs.Shape.{is_unknown, number, arguments}
use Rattle.terms.specs.Formed.{Equation, Question}
use Rattle.terms.specs.Answers.{binding_words, answer_words, listed}
use Rattle.laws.specs.Equal.{is_this_unknown, is_empty, is_this_functor, pass, tests, equal}
use Rattle.search.specs.declared.ends.End.TheVariants.{Space}
use Rattle.search.specs.Ends.{end_number}
use Rattle.search.specs.State.{pend, piled, renewed, size_equations, size_entries, size_bindings, state_size}
use Rattle.search.specs.Classify.{tails_by, tails, only_tail, meet_by, meet, classify}
use Rattle.search.specs.Children.{replace_in, entries, others, released, kept, bound_state, bound, then_bound, tail_pick, picks_of_t, picks_of_u, new_equations, joining, pile_up, settle, split, subject, object, pairwise, take, joined, join, children_by, children}
use Rattle.search.specs.Run.{Loan, Outcome, Visit, states, Verdict, stops, overflows, goes_on, answer_by, visit, dead_visit, visits, root, found, found_size, ends, verdict, spend, after, scan, ran}

-- ---- the specimens' letters: a is f0, b is f1, c is f2, and g is f3 with one argument

abbrev pub a : Term
a = functor 0 none

abbrev pub b : Term
b = functor 1 none

abbrev pub c : Term
c = functor 2 none

abbrev pub g : Term → Term
g t = functor 3 (more t none)

abbrev pub x0 : Term
x0 = unknown 0

abbrev pub x1 : Term
x1 = unknown 1

abbrev pub set : List Term → Term
set ts = over ts empty

abbrev pub arities : List ℕ
arities = 0 ∷ 0 ∷ 0 ∷ 1 ∷ []

-- one equation in the first n unknowns, or two
abbrev pub asks : ℕ → Term → Term → Question
asks n t u = record { unknowns = n; arities = arities; equations = record { left = t; right = u } ∷ [] }

abbrev pub asks_both : ℕ → Equation → Equation → Question
asks_both n e f = record { unknowns = n; arities = arities; equations = e ∷ f ∷ [] }

abbrev pub nothing_asked : Question
nothing_asked = record { unknowns = 0; arities = arities; equations = [] }

abbrev pub lending : ℕ → ℕ → ℕ → ℕ → Loan
lending steps depth size space = record { steps = steps; depth = depth; size = size; space = space }

-- a node of depth 1 and size 9 that is an answer, with so many unknowns on its path
abbrev pub due : ℕ → Visit
due next = record { depth = 1; size = 9; next = next; answer = states [] }

abbrev pub ample : Loan
ample = lending 1000 20 100 100

-- ---- the table

pub data Line : Type 0 where
  -- two ground terms, and whether they are equal
  compares : Term → Term → Bool → Line
  -- a question, what is lent, and the end's number, the visited number and the answers' words
  gives : Question → Loan → ℕ → ℕ → List (List ℕ) → Line
  -- a due node, what is left of the loan, and the number of the end that it brings
  ends_with : Loan → Visit → ℕ → Line

unfoldable pub same_bool : Bool → Bool → Bool
same_bool true c = c
same_bool false c = not c

unfoldable pub same_words : List ℕ → List ℕ → Bool
same_words [] [] = true
same_words [] (w ∷ ws) = false
same_words (v ∷ vs) [] = false
same_words (v ∷ vs) (w ∷ ws) = eqb v w && same_words vs ws

unfoldable pub same_lists : List (List ℕ) → List (List ℕ) → Bool
same_lists [] [] = true
same_lists [] (l ∷ ls) = false
same_lists (k ∷ ks) [] = false
same_lists (k ∷ ks) (l ∷ ls) = same_words k l && same_lists ks ls

unfoldable pub outcome_is : Outcome → ℕ → ℕ → List (List ℕ) → Bool
outcome_is o end visited answers = eqb (end_number o.end) end && eqb o.visited visited && same_lists o.answers answers

unfoldable pub stops_with : Verdict → ℕ → Bool
stops_with (stops e) end = eqb (end_number e) end
stops_with overflows end = eqb (end_number Space) end
stops_with goes_on end = false

unfoldable pub right : Line → Bool
right (compares t u same) = same_bool (equal t u) same
right (gives q l end visited answers) = outcome_is (ran edition_one q l) end visited answers
right (ends_with l v end) = stops_with (verdict edition_one l v) end

pub table : List Line
table =
    compares (set (a ∷ [])) (set (a ∷ a ∷ [])) true
    ∷ compares (set (set (a ∷ []) ∷ a ∷ [])) (set (a ∷ [])) false
    ∷ compares (set (a ∷ set (b ∷ []) ∷ c ∷ [])) (set (set (a ∷ b ∷ []) ∷ c ∷ [])) false
    ∷ compares (with a b) (set (a ∷ [])) false
    ∷ gives (asks 1 x0 (with a x0)) ample 0 3 ((1 ∷ 0 ∷ 1 ∷ 2000 ∷ 1001 ∷ []) ∷ [])
    ∷ gives (asks 1 (with a x0) (with b x0)) ample 0 9 ((1 ∷ 0 ∷ 1 ∷ 2000 ∷ 1 ∷ 2001 ∷ 1001 ∷ []) ∷ [])
    ∷ gives (asks 1 x0 (set (x0 ∷ []))) ample 0 2 []
    ∷ gives (asks 1 x0 (g x0)) ample 0 2 []
    ∷ gives nothing_asked ample 0 1 ((0 ∷ []) ∷ [])
    ∷ gives (asks 2 (set (x0 ∷ x1 ∷ [])) (set (a ∷ b ∷ []))) ample 0 75 ((2 ∷ 0 ∷ 2000 ∷ 1 ∷ 2001 ∷ []) ∷ (2 ∷ 0 ∷ 2001 ∷ 1 ∷ 2000 ∷ []) ∷ [])
    ∷ gives (asks 1 x0 (with a x0)) (lending 3 2 4 5) 0 3 ((1 ∷ 0 ∷ 1 ∷ 2000 ∷ 1001 ∷ []) ∷ [])
    ∷ gives (asks 1 x0 (with a x0)) (lending 2 2 4 5) 20 2 []
    ∷ gives (asks 1 x0 (with a x0)) (lending 3 1 4 5) 21 2 []
    ∷ gives (asks 1 x0 (with a x0)) (lending 3 2 3 5) 22 0 []
    ∷ gives (asks 1 x0 (with a x0)) (lending 3 2 4 4) 23 3 []
    -- two entries of one unknown are joined; two unknowns share a new one
    ∷ gives (asks_both 1 (record { left = x0; right = with a x0 }) (record { left = x0; right = with b x0 })) ample 0 4 ((1 ∷ 0 ∷ 1 ∷ 2000 ∷ 1 ∷ 2001 ∷ 1001 ∷ []) ∷ [])
    ∷ gives (asks 2 (with a x0) (with b x1)) ample 0 8 ((2 ∷ 0 ∷ 1 ∷ 2001 ∷ 1002 ∷ 1 ∷ 1 ∷ 2000 ∷ 1002 ∷ []) ∷ [])
    -- an unknown inside a member, beside the tail and in what a tail would be bound to
    ∷ gives (asks 1 x0 (with (set (x0 ∷ [])) x0)) ample 0 2 []
    ∷ gives (asks 1 (with a x0) (set (set (x0 ∷ []) ∷ []))) ample 0 4 []
    -- a pile entry whose unknown gets bound is looked at again: x0 = {a|x0} with x0 = {b}
    ∷ gives (asks_both 1 (record { left = x0; right = with a x0 }) (record { left = x0; right = set (b ∷ []) })) ample 0 8 []
    -- every end is due: they are told in their order
    ∷ ends_with (lending 0 0 8 0) (due 513) 20
    ∷ ends_with (lending 1 0 8 0) (due 513) 21
    ∷ ends_with (lending 1 1 8 0) (due 513) 24
    ∷ ends_with (lending 1 1 8 0) (due 512) 22
    ∷ ends_with (lending 1 1 9 0) (due 512) 23
    ∷ []

-- a key: to unfold it is to unfold every definition that a run computes by
unfoldable pub computing : Unit {0}
unfolding edition_one right same_bool outcome_is stops_with same_words same_lists all any is_this_unknown is_empty is_this_functor pass tests equal words size occurs subst members kernel over list pend piled renewed size_equations size_entries size_bindings state_size is_unknown number tails_by tails only_tail meet_by meet classify replace_in entries others released kept bound_state bound then_bound tail_pick picks_of_t picks_of_u product new_equations joining pile_up settle split subject object arguments pairwise take joined join children_by children answer_by visit dead_visit visits root binding_words answer_words listed found found_size ends verdict spend after scan ran flat_map
computing = tt

pub table_right : all right table ≡ true
unfolding table computing
table_right = refl
