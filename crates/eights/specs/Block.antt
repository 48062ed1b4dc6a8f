-- How many words are copied at one go.
use Rattle.std.specs.Prelude.{ℕ}

abbrev pub BLOCK : ℕ
BLOCK = 8
