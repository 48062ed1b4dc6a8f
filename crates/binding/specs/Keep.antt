-- What a child's row has after its new equations where nothing is bound: the rest of the parent's row, with so many words more at the end of the pile.
use Rattle.std.specs.Prelude.{ℕ, ◌+◌, List, ◌++◌}
use Rattle.room.specs.Room.{seg}
use Rattle.rows.specs.declared.parts.Rest.{Rest}
use Rattle.rows.specs.declared.header.Header.{Header}

unfoldable pub kept_piece : (room : List ℕ) → Rest → (by m : ℕ) → List ℕ
kept_piece r rest by m =
    seg r rest.at (rest.pending + rest.pile) ++ (seg r by m ++ seg r (rest.at + (rest.pending + rest.pile)) rest.bound)

unfoldable pub kept_header : Rest → (written m next : ℕ) → Header
kept_header rest written m next = record {
  pending = written + rest.pending;
  pile = rest.pile + m;
  body = written + (rest.pending + rest.pile + m + rest.bound);
  bindings = rest.bindings;
  next = next;
}
