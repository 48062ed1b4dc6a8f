use Rattle.std.proofs.Common.{◌≡◌, ◌+◌, ◌-◌, ◌≤◌, length}
use Rattle.case_fields.specs.Line.{count, field_of}
use Rattle.case_fields.proofs.line.field.Given as goal

abbrev pub invariant-loop : goal.invariant-loop
invariant-loop l = (length l.rest ≤ length l.line) × (count 9 l.rest + l.counter ≡ count 9 l.line) × (field_of (l.n - l.counter) l.rest ≡ field_of l.n l.line)
