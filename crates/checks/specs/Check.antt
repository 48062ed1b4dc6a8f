-- The check of lent words, in its three forms: a question, a row of ground terms, a list of answers. SPECIFICATION 3.5.
-- All three are one walk over the words with what is still due: answers, bindings of the answer at hand, and terms.
use Rattle.std.specs.Prelude.{ℕ, zero, suc, ◌+◌, ◌*◌, List, [], ◌∷◌, Bool, true, false, cond, ◌||◌, eqb, ltb, length, get_or, Result, Ok, Err}
use Rattle.terms.specs.Bounds.{Bounds}
use Rattle.terms.specs.Kind.{kind}
use Rattle.terms.specs.Lists.{any}
use Rattle.terms.specs.declared.kind.Kind.{Kind}
use Rattle.terms.specs.declared.kind.Kind.TheVariants.{Empty, Member, Unknown, Functor, Nothing}
use Rattle.terms.specs.declared.refusal.Cause.{Cause}
use Rattle.terms.specs.declared.refusal.Cause.TheVariants.{Limit, WordsStop, WordsMeaningless, WordsUndeclared, WordsLeft}
use Rattle.terms.specs.declared.refusal.Refusal.{Refusal}

-- what a check answers: nothing is wrong, or the first fault
abbrev pub Checked : Type 0
Checked = Result (Unit {0}) Refusal

-- how many terms follow a word where a term is due, or why it can't stand there
abbrev pub Follow : Type 0
Follow = Result ℕ Cause

abbrev pub refused : Cause → ℕ → Checked
refused cause place = Err (record { cause = cause; place = place })

-- what follows a word of a kind, with n unknowns allowed
unfoldable pub follows : List ℕ → ℕ → Kind → Follow
follows arities n Empty = Ok 0
follows arities n Member = Ok 2
follows arities n (Unknown i) = cond (ltb i n) (Ok 0) (Err WordsUndeclared)
follows arities n (Functor k) = cond (ltb k (length arities)) (Ok (get_or arities k 0)) (Err WordsUndeclared)
follows arities n Nothing = Err WordsMeaningless

unfoldable pub follow : Bounds → List ℕ → ℕ → ℕ → Follow
follow b arities n w = follows arities n (kind b w)

-- after a word of a term at a place: on with the terms that follow it, or the fault
unfoldable pub after : Follow → ℕ → (ℕ → Checked) → Checked
after (Ok m) place on = on m
after (Err cause) place on = refused cause place

-- the words from a place on; an answer begins with its number of bindings, a binding with its unknown's number
unfoldable pub checked : Bounds → List ℕ → ℕ → List ℕ → (place answers bindings terms : ℕ) → Checked
checked b arities n [] place answers bindings terms = cond (eqb (answers + bindings + terms) 0) (Ok tt) (refused WordsStop place)
checked b arities n (w ∷ ws) place answers bindings (suc terms) =
    after (follow b arities n w) place (λ m. checked b arities n ws (place + 1) answers bindings (terms + m))
checked b arities n (w ∷ ws) place answers (suc bindings) zero =
    cond (ltb w n) (checked b arities n ws (place + 1) answers bindings 1) (refused WordsUndeclared place)
checked b arities n (w ∷ ws) place (suc answers) zero zero = checked b arities n ws (place + 1) answers w 0
checked b arities n (w ∷ ws) place zero zero zero = refused WordsLeft place

-- above a limit: refused at a place, before anything else is looked at
unfoldable pub above : Bool → ℕ → Checked → Checked
above true place else = refused Limit place
above false place else = else

unfoldable pub arities_above : Bounds → List ℕ → Bool
arities_above b arities = ltb b.functors (length arities) || any (ltb b.arity) arities

unfoldable pub counts_above : Bounds → ℕ → List ℕ → ℕ → Bool
counts_above b unknowns arities equations = ltb b.unknowns unknowns || (arities_above b arities || ltb b.equations equations)

-- the words of so many terms, in no more words than a call may lend
unfoldable pub check_terms : Bounds → List ℕ → (unknowns terms : ℕ) → List ℕ → Checked
check_terms b arities n terms ws = above (ltb b.symbols (length ws)) b.symbols (checked b arities n ws 0 0 0 terms)

-- a question: two terms for each equation
unfoldable pub check_question : Bounds → (unknowns : ℕ) (arities : List ℕ) (equations : ℕ) → List ℕ → Checked
check_question b unknowns arities equations ws = above (counts_above b unknowns arities equations) 0 (check_terms b arities unknowns (2 * equations) ws)

-- a row of so many ground terms
unfoldable pub check_row : Bounds → (arities : List ℕ) (terms : ℕ) → List ℕ → Checked
check_row b arities terms ws = above (arities_above b arities) 0 (check_terms b arities 0 terms ws)

-- a list of so many answers, whose words have no bound
unfoldable pub check_answers : Bounds → (arities : List ℕ) (answers : ℕ) → List ℕ → Checked
check_answers b arities answers ws = above (arities_above b arities) 0 (checked b arities b.path_unknowns ws 0 answers 0 0)

-- what a call over checked words answers: the refusal told, or what it finds
unfoldable pub after_check : {A : Type 0} → Checked → (Refusal → A) → A → A
after_check (Ok _) tell found = found
after_check (Err r) tell found = tell r
