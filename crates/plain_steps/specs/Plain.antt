-- The steps that leave no choice, told from splits.
use Rattle.std.specs.Prelude.{ℕ, ◌≡◌, refl}
use Rattle.std.proofs.Common.{sym, ap, ◌∙◌, arith}
use Rattle.search.specs.declared.steps.Tails.{Tails}
use Rattle.search.specs.declared.steps.Step.{Step}
use Rattle.search.specs.declared.steps.Step.TheVariants.{Drop, Bind, Postpone, Decompose, Split, Dead}
use Rattle.plain_steps.specs.declared.plain.Plain.{Plain}
use Rattle.plain_steps.specs.declared.plain.Plain.TheVariants as plain
use Rattle.plain_steps.specs.declared.plain.Way.{Way}
use Rattle.plain_steps.specs.declared.plain.Way.TheVariants as way

unfoldable pub of_plain : Plain → Step
of_plain plain.Drop = Drop
of_plain (plain.Bind k) = Bind k
of_plain (plain.Postpone k) = Postpone k
of_plain plain.Decompose = Decompose
of_plain plain.Dead = Dead

unfoldable pub way_of : Step → Way
way_of Drop = way.Plain plain.Drop
way_of (Bind k) = way.Plain (plain.Bind k)
way_of (Postpone k) = way.Plain (plain.Postpone k)
way_of Decompose = way.Plain plain.Decompose
way_of (Split k) = way.Split k
way_of Dead = way.Plain plain.Dead

-- ---- a way has one step

unfoldable step_of : Way → Step
step_of (way.Split k) = Split k
step_of (way.Plain p) = of_plain p

step_back : (s : Step) → step_of (way_of s) ≡ s
unfolding step_of way_of of_plain
step_back Drop = refl
step_back (Bind k) = refl
step_back (Postpone k) = refl
step_back Decompose = refl
step_back (Split k) = refl
step_back Dead = refl

pub split_step : (s : Step) {k : Tails} → way_of s ≡ way.Split k → s ≡ Split k
unfolding step_of
split_step s e = sym (step_back s) ∙ ap step_of e

pub plain_step : (s : Step) {p : Plain} → way_of s ≡ way.Plain p → s ≡ of_plain p
unfolding step_of
plain_step s e = sym (step_back s) ∙ ap step_of e

pub no_split : (p : Plain) (k : Tails) → of_plain p ≡ Split k → ⊥
unfolding of_plain
no_split plain.Drop k e = let z : ◌≡◌ {A = ℕ} 0 1 = cc in omega arith
no_split (plain.Bind j) k e = let z : ◌≡◌ {A = ℕ} 0 1 = cc in omega arith
no_split (plain.Postpone j) k e = let z : ◌≡◌ {A = ℕ} 0 1 = cc in omega arith
no_split plain.Decompose k e = let z : ◌≡◌ {A = ℕ} 0 1 = cc in omega arith
no_split plain.Dead k e = let z : ◌≡◌ {A = ℕ} 0 1 = cc in omega arith
