-- `pick_loop::pass::pick_from`: the laws of a first child in `PassedDead`.
use native.Mathlib.Omega.{arith}
use Rattle.std.proofs.Common.{ap, ◌∙◌}
use Rattle.pick_loop.proofs.PassedDead.{first-due, first-asked, first_node, first_ended, first-told}
use Rattle.only_child.specs.Next.{made_of}
use Rattle.pick_loop.proofs.pass.pick_from.Goals as goal

pub returns-then-most-eq0 : goal.returns-then-most-eq0
returns-then-most-eq0 c = λ p P. first-due P (omega (arith, c.if-most-eq0.true))

pub split-made-requires : goal.split-made-requires
split-made-requires c = first-asked c.requires.here (omega (arith, c.if-most-eq0.false))

pub pick_after-requires : goal.pick_after-requires
pick_after-requires c =
    let if1 = c.if-most-eq0.false in
    record { p = _; here = first_ended c.requires.here (omega (arith, if1)) c.split-made.ensures (c.reached.ensures ∙ ap made_of c.in-None.is) }

pub returns-in-None : goal.returns-in-None
returns-in-None c = λ p P.
    let h = c.if-most-eq0.false in
    let M = c.split-made.ensures in
    first-told P (omega arith) M (c.pick_after.ensures p (first_ended P (omega arith) M (c.reached.ensures ∙ ap made_of c.in-None.is)))

pub returns-in-Some : goal.returns-in-Some
returns-in-Some c =
    let if1 = c.if-most-eq0.false in
    λ p P. first_node P (omega (arith, if1)) c.split-made.ensures _ (c.reached.ensures ∙ ap made_of c.in-Some.is)
