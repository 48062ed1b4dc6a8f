-- What a run is lent, the room that it needs, and what its outcome tells.
use Rattle.std.specs.Prelude.{ℕ, ◌+◌, ◌*◌, length}
use Rattle.room.specs.Layout.{HEADER, SPARE_ROWS}
use Rattle.terms.specs.Answers.{listed}
use Rattle.search.specs.declared.limits.Limits.{Limits}
use Rattle.search.specs.Run.{Loan, Outcome}
use Rattle.results.specs.declared.ran.Ending.{Ending}

unfoldable pub loan : Limits → (space : ℕ) → Loan
loan limits space = record { steps = limits.steps; depth = limits.depth; size = limits.size; space = space }

-- the words that the room must have
unfoldable pub needed : Limits → ℕ
needed limits = (limits.depth + SPARE_ROWS) * (limits.size + HEADER)

-- the outcome's end and numbers
unfoldable pub ending : Outcome → Ending
ending o = record { end = o.end; counts = record { visited = o.visited; answers = length o.answers; words = length (listed o.answers) } }
