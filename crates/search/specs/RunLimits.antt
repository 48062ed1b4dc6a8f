-- The run limits, and which lent numbers are within them: SPECIFICATION 6.1.
use Rattle.std.specs.Prelude.{ℕ, cond, ltb, Option, Some, None}
use Rattle.search.specs.declared.limits.Limits.{Limits}

abbrev pub most_steps : ℕ
most_steps = 1000000000

abbrev pub most_depth : ℕ
most_depth = 1024

abbrev pub most_size : ℕ
most_size = 8192

abbrev pub lent : ℕ → ℕ → ℕ → Option Limits
lent steps depth size =
    cond (ltb most_steps steps) None
    (cond (ltb most_depth depth) None
    (cond (ltb most_size size) None
    (Some (record { steps = steps; depth = depth; size = size }))))
