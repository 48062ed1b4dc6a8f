-- What is put into the answer words: the answer of a row, word for word.
use Prim.Native.Nat.{ℕ, ◌+◌, ◌-◌, ◌≤◌}
use mathlib.Core.Path.{◌≡◌, ◌∙◌}
use mathlib.Core.List.{List}
use native.Mathlib.Omega.{arith}
use native.Mathlib.Numerals.{add-one}
use lib.ListN.{length, take, drop, get_or, set}
use Rattle.room.specs.Room.{seg, put, length-seg}
use Rattle.room.specs.Layout.{HEADER}
use Rattle.answer_record.specs.Noting.{listed_by}

pub part_length : (row : List ℕ) (n : ℕ) → HEADER + n ≤ length row → length (take (HEADER + n - HEADER) (drop HEADER row)) ≡ n
unfolding seg
part_length row n h = let e : HEADER + n - HEADER ≡ n = omega arith in rw e (length-seg row HEADER n h)

pub listed_so : (row : List ℕ) (n : ℕ) (a : List ℕ) (used : ℕ) {last : List ℕ} → last ≡ put (set a used (get_or row 3 0)) (used + 1) (take (HEADER + n - HEADER) (drop HEADER row))
    → last ≡ put a used (listed_by row n)
unfolding listed_by seg put
listed_so row n a used h = let e : HEADER + n - HEADER ≡ n = omega arith in h ∙ rw (e, add-one)
