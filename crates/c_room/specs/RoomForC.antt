-- The words of a run's room, as C asks for them.
use Rattle.std.specs.Prelude.{ℕ, ◌+◌, ◌*◌, ◌≤◌, ◌<◌, ◌≡◌, Option, Some, None}
use Rattle.std.proofs.Common.{lt-ltb, le-ltb}
use Rattle.room.specs.Layout.{HEADER, SPARE_ROWS}
use Rattle.search.specs.RunLimits.{lent, most_depth, most_size}
use Rattle.search.specs.declared.limits.Limits.{Limits}
use Rattle.results.specs.Loans.{needed}

-- none where a limit is exceeded
abbrev pub room_of : Option Limits → ℕ
room_of (Some limits) = needed limits
room_of None = 0

abbrev pub room_words : (depth size : ℕ) → ℕ
room_words depth size = room_of (lent 0 depth size)

-- within the limits so many words are needed, and above them none is told
pub room_granted : (depth size : ℕ) → depth ≤ most_depth → size ≤ most_size → room_words depth size ≡ (depth + SPARE_ROWS) * (size + HEADER)
unfolding needed
room_granted depth size d s = rw (le-ltb most_depth depth d, le-ltb most_size size s)

pub room_too_deep : (depth size : ℕ) → most_depth < depth → room_words depth size ≡ 0
room_too_deep depth size d = rw (lt-ltb most_depth depth d)
