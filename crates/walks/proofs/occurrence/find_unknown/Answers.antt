use mathlib.Core.Path.{sym, ◌∙◌}
use Prim.Native.Nat.{◌+◌}
use lib.ListN.{length}
use native.Mathlib.Omega.{arith}
use Rattle.std.proofs.lemmas.Slice.{between_to_end}
use Rattle.terms.specs.Bounds.{edition_one}
use Rattle.walks.proofs.Walking.{rest-here, rest_step, rest_tail, rest_member, rest-arguments, rest_out}
use Rattle.walks.proofs.occurrence.find_unknown.Goals.{then-due-gt0+else-word-unknown, else-due-gt0+else-word-unknown-2+else-word-ne-MEMBER}
use Rattle.walks.proofs.occurrence.find_unknown.Goals as goal

pub returns-then-word-unknown : goal.returns-then-word-unknown
returns-then-word-unknown c = sym (c.loop-place.invariant.0 ∙ rest-here edition_one _ _ _ c.loop-place-test.true _ _ c.if-due-gt0.true c.if-word-unknown.true)

pub loop-place-preserved : goal.loop-place-preserved
loop-place-preserved c =
    elim c.if-due-gt0.branch [
      | then-due-gt0+else-word-unknown w ↦ (
        rw w.due-is
            (c.loop-place.invariant.0
            ∙ rest_step edition_one _ _ _ c.loop-place-test.true (w.from.ensures ∙ w.terms_after.ensures) _ _ w.if-due-gt0.true w.if-word-unknown.false),
        omega arith,
      )
      | else-due-gt0+else-word-unknown-2+else-word-ne-MEMBER w ↦ (
        rw w.due-is
            (c.loop-place.invariant.0
            ∙ rest_member edition_one _ _ _ c.loop-place-test.true _ _ (omega arith) w.if-word-unknown-2.false w.if-word-ne-MEMBER.false),
        omega arith,
      )
    ]

pub returns-then-word-unknown-2 : goal.returns-then-word-unknown-2
returns-then-word-unknown-2 c = sym (c.loop-place.invariant.0 ∙ rest_tail edition_one _ _ _ c.loop-place-test.true _ _ (omega arith) c.if-word-unknown-2.true)

pub returns-then-word-ne-MEMBER : goal.returns-then-word-ne-MEMBER
returns-then-word-ne-MEMBER c =
    let words = c.args.words.now in
    rw (between_to_end words (c.loop-place.place + 1) (length words) (omega arith)) at c.in_arguments.ensures
    ∙ sym (c.loop-place.invariant.0
    ∙ rest-arguments edition_one _ _ _ c.loop-place-test.true c.terms_after-then-word-ne-MEMBER.ensures _ _ (omega arith) c.if-word-unknown-2.false c.if-word-ne-MEMBER.true)

pub returns : goal.returns
returns c = sym (c.loop-place.invariant.0 ∙ rest_out edition_one _ _ _ _ _ c.loop-place-test.false)
