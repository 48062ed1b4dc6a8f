use Rattle.std.proofs.Common.{length, ◌≡◌, ◌≤◌}
use Rattle.depths.proofs.tell_lines.Given as goal

abbrev pub invariant-loop-letter : goal.invariant-loop-letter
invariant-loop-letter g l = (l.n ≤ length l.row) × (length l.row ≡ length l.initial.row)
