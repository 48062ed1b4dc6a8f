-- How a run's room is laid out: rows of a header and a body, as many as the lent depth and some more, of which the last seven are scratch. The names of
-- numbers are the code's.
use Rattle.std.specs.Prelude.{ℕ, ◌+◌, ◌*◌}

-- the words of a row's header
abbrev pub HEADER : ℕ
HEADER = 8

-- the rows beside those of the lent depth: the root's, and seven of scratch
abbrev pub SPARE_ROWS : ℕ
SPARE_ROWS = 8

-- the words of a row
abbrev pub stride : (size : ℕ) → ℕ
stride size = size + HEADER

-- The rows of scratch. The first three are those of a split that stands open: the places of the left side's members, those of the right side's, and the picks.
abbrev pub right_row : (size scratch : ℕ) → ℕ
right_row size scratch = scratch + stride size

abbrev pub picks_row : (size scratch : ℕ) → ℕ
picks_row size scratch = scratch + stride size + stride size

-- the numbers of a split's sides, after its picks
abbrev pub sides_at : (size scratch : ℕ) → ℕ
sides_at size scratch = picks_row size scratch + size

-- a value or an entry that a child is made with, or where both tails are bound, {U|N}
abbrev pub value_row : (size scratch : ℕ) → ℕ
value_row size scratch = scratch + stride size + stride size + stride size

-- {T|N}, and the same with the left tail replaced
abbrev pub second_row : (size scratch : ℕ) → ℕ
second_row size scratch = scratch + stride size + stride size + stride size + stride size

abbrev pub shared_row : (size scratch : ℕ) → ℕ
shared_row size scratch = scratch + stride size + stride size + stride size + stride size + stride size

-- the row of the state between two bindings
abbrev pub between_row : (size scratch : ℕ) → ℕ
between_row size scratch = scratch + stride size + stride size + stride size + stride size + stride size + stride size

-- the rows after those of a split, where a step without a choice lays out what it needs
abbrev pub aside_row : (size scratch : ℕ) → ℕ
aside_row size scratch = scratch + 3 * stride size
