use Rattle.std.proofs.Common.{◌≡◌, drop}
use Rattle.std.specs.Prelude.{Some}
use Rattle.case_fields.specs.DecimalField.{with_digits, number_of}
use Rattle.case_fields.proofs.number.read_number.Given as goal

abbrev pub invariant-loop-byte : goal.invariant-loop-byte
invariant-loop-byte l = with_digits (Some l.value) (drop l.byte-index l.field) ≡ number_of l.field
