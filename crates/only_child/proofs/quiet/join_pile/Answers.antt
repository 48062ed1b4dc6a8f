-- `only_child::quiet::join_pile`: the laws of `JoinAsked`, one at each place where it returns.
use native.Mathlib.Omega.{arith}
use Rattle.only_child.proofs.JoinAsked.{answer-told, quiet_parts, join_passed, join-due, join-asked, join-told}
use Rattle.only_child.proofs.quiet.join_pile.Goals as goal

pub returns-then-header-eq0 : goal.returns-then-header-eq0
returns-then-header-eq0 c = λ st Q. answer-told Q (omega (arith, c.if-header-eq0.true))

pub returns-then-number-gt0 : goal.returns-then-number-gt0
returns-then-number-gt0 c = λ st Q. join_passed Q (omega (arith, c.if-header-eq0.false)) (omega (arith, c.if-number-gt0.true))

pub returns-then-most-eq0 : goal.returns-then-most-eq0
returns-then-most-eq0 c = λ st Q. join-due Q (omega (arith, c.if-header-eq0.false)) (omega (arith, c.if-number-gt0.false)) (omega (arith, c.if-most-eq0.true))

pub rest_of-rest-requires : goal.rest_of-rest-requires
rest_of-rest-requires c = quiet_parts c.requires.1

pub join-requires : goal.join-requires
join-requires c =
    join-asked c.requires.1 (omega (arith, c.if-header-eq0.false)) (omega (arith, c.if-most-eq0.false)) c.rest_of-rest.ensures

pub returns : goal.returns
returns c =
    let if1 = c.if-header-eq0.false in
    let if2 = c.if-number-gt0.false in
    let if3 = c.if-most-eq0.false in
    λ st Q. join-told Q (omega (arith, if1)) (omega (arith, if2)) (omega (arith, if3)) c.rest_of-rest.ensures c.join.ensures c.told_of.ensures
