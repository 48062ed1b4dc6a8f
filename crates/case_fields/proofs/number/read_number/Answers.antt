use Rattle.std.proofs.Common.{◌∙◌, sym, rules}
use Rattle.case_fields.proofs.DecimalDigits.{number-some, number_none, digit-next, digit_none, digits-end}
use Rattle.case_fields.proofs.number.read_number.Goals as goal

pub returns-then-is_empty : goal.returns-then-is_empty
returns-then-is_empty c = sym (number_none c.args.field.now (search rules))

pub loop-byte-init : goal.loop-byte-init
loop-byte-init c = number-some c.args.field.now (search rules)

pub loop-byte-preserved : goal.loop-byte-preserved
loop-byte-preserved c =
    let l = c.loop-byte in
    sym (digit-next c.args.field.now l.value l.byte-index c.add_digit.result _ c.loop-byte-test.true c.add_digit.ensures c.in_ok-value.was) ∙ l.invariant

pub returns-in_err-value : goal.returns-in_err-value
returns-in_err-value c =
    let l = c.loop-byte in
    rw c.from_residual.ensures
    (sym (digit_none c.args.field.now l.value l.byte-index c.add_digit.result c.loop-byte-test.true c.add_digit.ensures c.in_err-value.was) ∙ l.invariant)

pub returns : goal.returns
returns c = sym (digits-end c.args.field.now c.loop-byte.value c.loop-byte.byte-index (search rules)) ∙ c.loop-byte.invariant
