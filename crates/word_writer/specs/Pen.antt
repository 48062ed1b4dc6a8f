-- What it means that bytes are written at a place of a buffer: they are stored as far as the buffer reaches, and counted to the end.
-- Numbers end somewhere, so the count stops at the largest; no buffer is that long.
use Rattle.std.specs.Prelude.{ℕ, ◌+◌, ◌≤◌, min, ◌≡◌, List, length}
use Rattle.std.proofs.lemmas.List.Edits.{sets}

-- the largest number of 64 bits
abbrev pub most : ℕ
most = 18446744073709551615

-- how long a text is, as far as numbers reach
unfoldable pub counted : ℕ → ℕ
counted n = min n most

pub record Wrote (before : List ℕ) (at : ℕ) (bytes after : List ℕ) (next : ℕ) : Type 0 where
  -- the buffer's length is a number that is counted to
  pub short : length before ≤ most
  pub stored : after ≡ sets before at bytes
  pub reached : next ≡ counted (at + length bytes)
