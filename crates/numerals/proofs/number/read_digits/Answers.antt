use native.Mathlib.Omega.{arith}
use mathlib.Core.Path.{◌≡◌, refl, sym, ◌∙◌}
use Prim.Native.Nat.{◌+◌, ◌-◌}
use borrow.Author.Rules.{rules}
use Rattle.numerals.proofs.DigitTests.{digit_there, digits-end, digits_full, digits_more, room, room_less, room_most}
use Rattle.numerals.proofs.number.read_digits.Goals as goal

pub loop-init : goal.loop-init
unfolding room
loop-init c = (refl, c.requires)

pub overflow_mul-v : goal.overflow_mul-v
overflow_mul-v c =
    let r = room_most _ _ c.loop.invariant.1 in
    search rules

pub overflow_add-v : goal.overflow_add-v
overflow_add-v c =
    let r = room_most _ _ c.loop.invariant.1 in
    let h = c.in-Some.ensures.below in
    search rules

pub overflow_add-p : goal.overflow_add-p
overflow_add-p c = omega (arith, digit_there _ _ c.in-Some.ensures.exact c.in-Some.ensures.below)

pub loop-preserved : goal.loop-preserved
loop-preserved c =
    let z : 4 - (c.loop.counter + 1) ≡ 4 - c.loop.counter - 1 = omega arith in
    rw z (
      c.loop.invariant.0
          ∙ digits_more _ _ c.in-Some.ensures.exact _ _ _ (λ e. absurd (omega arith)) c.in-Some.ensures.below,
      room_less _ _ _ (λ e. absurd (omega arith)) c.loop.invariant.1 c.in-Some.ensures.below,
    )

pub returns-in-None : goal.returns-in-None
returns-in-None c =
    sym (c.loop.invariant.0 ∙ digits-end _ _ c.in-None.ensures.exact _ _ _ (omega arith))

pub returns-in-Some-digit_at : goal.returns-in-Some-digit_at
returns-in-Some-digit_at c =
    sym
    (c.loop.invariant.0
    ∙ digits_full _ _ c.in-Some-digit_at.ensures.exact _ _ _ (omega arith) c.in-Some-digit_at.ensures.below)

pub returns-in-None-digit_at : goal.returns-in-None-digit_at
returns-in-None-digit_at c =
    sym (c.loop.invariant.0 ∙ digits-end _ _ c.in-None-digit_at.ensures.exact _ _ _ (omega arith))
