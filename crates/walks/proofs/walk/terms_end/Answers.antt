use mathlib.Core.Path.{◌≡◌, refl, sym, ◌∙◌}
use lib.ListN.{drop}
use native.Mathlib.Omega.{arith}
use Rattle.terms.specs.Bounds.{edition_one}
use Rattle.terms.specs.Laws.Walk.{span-zero}
use Rattle.walks.proofs.Walking.{span-out, span_step}
use Rattle.walks.proofs.walk.terms_end.Goals as goal

pub loop-due-init : goal.loop-due-init
loop-due-init c = (refl, c.requires)

pub returns-then-words-end : goal.returns-then-words-end
returns-then-words-end c =
    sym (c.loop-due.invariant.0 ∙ span-out edition_one _ c.args.words.now c.loop-due.end _ c.loop-due.invariant.1 c.if-words-end.true)

pub loop-due-preserved : goal.loop-due-preserved
loop-due-preserved c = (c.loop-due.invariant.0 ∙ span_step edition_one _ _ _ (omega arith) c.terms_after.ensures _ c.loop-due-test.true, omega arith)

pub returns : goal.returns
returns c =
    let z : c.loop-due.due ≡ 0 = omega arith in
    sym (rw z at c.loop-due.invariant.0 ∙ omega (arith, span-zero edition_one c.args.arities.now (drop c.loop-due.end c.args.words.now)))
