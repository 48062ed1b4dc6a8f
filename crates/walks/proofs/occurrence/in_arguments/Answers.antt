use mathlib.Core.Path.{◌≡◌, sym, ◌∙◌}
use native.Mathlib.Omega.{arith}
use Rattle.terms.specs.Bounds.{edition_one}
use Rattle.walks.specs.Occurrence.{no_terms}
use Rattle.walks.proofs.Walking.{terms_out, terms_here, terms_step}
use Rattle.walks.proofs.occurrence.in_arguments.Goals as goal

pub returns-then-due-eq0 : goal.returns-then-due-eq0
returns-then-due-eq0 c =
    let z : c.loop-word.due ≡ 0 = omega arith in
    sym (rw z at c.loop-word.invariant.0 ∙ no_terms _ _ _ _)

pub returns-then-word-unknown : goal.returns-then-word-unknown
returns-then-word-unknown c = sym (c.loop-word.invariant.0 ∙ terms_here edition_one _ _ _ c.loop-word-test.true _ _ (omega arith) c.if-word-unknown.true)

pub loop-word-preserved : goal.loop-word-preserved
loop-word-preserved c = (
  c.loop-word.invariant.0
      ∙ terms_step edition_one _ _ _ c.loop-word-test.true (c.from.ensures ∙ c.terms_after.ensures) _ _ (omega arith) c.if-word-unknown.false,
  omega arith,
)

pub returns-after-loop-word : goal.returns-after-loop-word
returns-after-loop-word c = sym (c.loop-word.invariant.0 ∙ terms_out edition_one _ _ _ _ _ c.loop-word-test.false)
