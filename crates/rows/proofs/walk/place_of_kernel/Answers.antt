use Rattle.rows.specs.Terms.Stripped.{stripped_mark, stripped-stop, stripped-out, stripped_on}
use native.Mathlib.Omega.{arith}
use lib.ListN.{length}
use mathlib.Core.Path.{◌≡◌, refl, sym, ◌∙◌}
use Rattle.rows.proofs.walk.place_of_kernel.Goals.{then-due-gt0, else-due-gt0+else-word-ne-MEMBER}
use Rattle.rows.proofs.walk.place_of_kernel.Goals as goal

pub loop-place-init : goal.loop-place-init
loop-place-init c = (refl, omega arith)

pub loop-place-preserved : goal.loop-place-preserved
loop-place-preserved c =
    elim c.if-due-gt0.branch [
      | then-due-gt0 w ↦ (
        rw w.due-is
            (c.loop-place.invariant.0 ∙ rw (w.from.ensures, w.terms_after.ensures) (stripped_on _ _ _ _ c.loop-place-test.true _ w.if-due-gt0.true)),
        omega arith,
      )
      | else-due-gt0+else-word-ne-MEMBER w ↦ (
        let z : c.loop-place.due ≡ 0 = omega arith in
            rw w.due-is (rw z at c.loop-place.invariant.0 ∙ stripped_mark _ _ _ _ c.loop-place-test.true w.if-word-ne-MEMBER.false),
        omega arith,
      )
    ]

pub returns-then-word-ne-MEMBER : goal.returns-then-word-ne-MEMBER
returns-then-word-ne-MEMBER c =
    let z : c.loop-place.due ≡ 0 = omega arith in
    sym (rw z at c.loop-place.invariant.0 ∙ stripped-stop _ _ _ _ c.loop-place-test.true c.if-word-ne-MEMBER.true)

pub returns : goal.returns
returns c =
    let end : length c.args.words.now ≡ c.loop-place.place = omega arith in
    end ∙ sym (c.loop-place.invariant.0 ∙ stripped-out _ _ _ _ _ c.loop-place-test.false)
