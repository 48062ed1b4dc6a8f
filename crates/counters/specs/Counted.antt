-- What the running record becomes: nodes more, or an answer more.
use Rattle.std.specs.Prelude.{ℕ, ◌+◌}
use Rattle.results.specs.declared.ran.Record.{Record}

-- so many nodes more
abbrev pub counted : Record → ℕ → Record
counted r k = record { visited = r.visited + k; answers = r.answers; words = r.words }

-- one answer more, of so many words
abbrev pub noted : Record → ℕ → Record
noted r n = record { visited = r.visited; answers = r.answers + 1; words = r.words + n }
