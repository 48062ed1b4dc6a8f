-- What the code finds of the first equation, said of lists.
use Prim.Native.Nat.{ℕ, ◌+◌, ◌-◌, ◌≤◌}
use mathlib.Core.Path.{◌≡◌, ap}
use mathlib.Core.List.{List}
use mathlib.Core.Bool.{true, false}
use native.Mathlib.Omega.{arith}
use lib.ListN.{length, take, drop, get_or, length-drop}
use lib.Seq.{length-take-le, take-length}
use Rattle.terms.specs.Bounds.{edition_one, FIRST_UNKNOWN, UNKNOWN_WORDS}
use Rattle.terms.specs.Kind.{within}
use Rattle.terms.specs.Laws.Walk.{span-le}
use Rattle.search.specs.declared.steps.Step.{Step}
use Rattle.rows.specs.declared.first.First.{First}
use Rattle.rows.specs.declared.first.Subject.{Subject}
use Rattle.rows.specs.Terms.Ended.{term_end}
use Rattle.rows.specs.Stepping.{unknown_word, step_of}
use Rattle.rows.specs.First.{first_in, subject_by, subject_in}

pub term_within : (arities ws : List ℕ) {k : ℕ} → k ≡ term_end edition_one arities ws → k ≤ length ws
term_within arities ws {k} e = omega (arith, span-le edition_one arities ws 1)

-- the words from a place on, as the code lends them
pub others : (ws : List ℕ) (k : ℕ) → take (length ws - k) (drop k ws) ≡ drop k ws
others ws k = rw (← length-drop k ws) (take-length (drop k ws))

pub length-first : (ws : List ℕ) {k : ℕ} → k ≤ length ws → length (take k ws) ≡ k
length-first ws {k} h = length-take-le k ws h

-- the second side, in the words from the right side on
module _ (arities ws : List ℕ) {right n : ℕ} (e : right ≡ term_end edition_one arities ws) (f : n ≡ term_end edition_one arities (take (length ws - right) (drop right ws))) where
  pub second-within : right + n ≤ length ws
  second-within =
      omega (arith, term_within arities ws e, term_within arities (take (length ws - right) (drop right ws)) f, ap length (others ws right), length-drop right ws)

  pub second-length : length (take n (take (length ws - right) (drop right ws))) ≡ n
  second-length = length-take-le n (take (length ws - right) (drop right ws)) (term_within arities (take (length ws - right) (drop right ws)) f)

  pub first_found : {step : Step} → step ≡ step_of edition_one arities (take right ws) (take n (take (length ws - right) (drop right ws)))
      → ◌≡◌ {A = First} (record { step = step; right = right; end = right + n }) (first_in edition_one arities ws)
  unfolding first_in
  first_found g =
      let f' : n ≡ term_end edition_one arities (drop right ws) = rw (others ws right) at f in
      rw (rw (others ws right) at g, f', e)

module _ (ws : List ℕ) (at right end : ℕ) where
  pub subject-left : {l : ℕ} → l ≡ get_or ws 0 0 → within FIRST_UNKNOWN UNKNOWN_WORDS l ≡ true → ◌≡◌ {A = Subject} (record { x = l; by = at + right; m = end - right }) (subject_in edition_one ws at right end)
  unfolding subject_in subject_by unknown_word edition_one
  subject-left e p = let q = rw e at p in rw (e, q)

  pub subject-right : {l x : ℕ} → l ≡ get_or ws 0 0 → within FIRST_UNKNOWN UNKNOWN_WORDS l ≡ false → x ≡ get_or ws right 0 → ◌≡◌ {A = Subject} (record { x = x; by = at; m = right }) (subject_in edition_one ws at right end)
  unfolding subject_in subject_by unknown_word edition_one
  subject-right e p f = let q = rw e at p in rw (f, q)
