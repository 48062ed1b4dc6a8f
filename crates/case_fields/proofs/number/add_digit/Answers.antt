use Rattle.std.proofs.Common.{arith}
use Rattle.std.proofs.lemmas.Bool.Decides.{nat_tests}
use Rattle.std.proofs.lemmas.Grind.{common_steps}
use Rattle.case_fields.specs.DecimalField.{more}
use Rattle.case_fields.proofs.number.add_digit.Goals as goal

pub returns-then-not-is_ascii_digit : goal.returns-then-not-is_ascii_digit
unfolding more
returns-then-not-is_ascii_digit c = grind (arith, common_steps, nat_tests)

pub returns-in_err-checked_mul : goal.returns-in_err-checked_mul
unfolding more
returns-in_err-checked_mul c = rw c.from_residual.ensures (grind (arith, common_steps, nat_tests))

pub returns : goal.returns
unfolding more
returns c = grind (arith, common_steps, nat_tests)
