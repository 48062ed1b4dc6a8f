-- What a turn of a copying loop does, said of lists: the loops of `copy`, `copy_in` and, in `eights`, `copy_before` share it.
use mathlib.Core.Path.{◌≡◌, refl}
use mathlib.Core.List.{List}
use Prim.Native.Nat.{ℕ, ◌+◌, ◌≤◌, ◌<◌}
use native.Mathlib.Omega.{arith}
use lib.ListN.{length, get_or, set, length-set}
use Rattle.room.specs.Room.{seg, put, Within, length-put, length-seg, seg-zero, seg-append, seg-more, put-nil, put-put, put-more}
use Rattle.room.specs.Parts.{CopyParts, apart_part, get_or-put, seg-put}

-- r is r₀ with j of the n words that s has at k written at to
pub record Copying (r₀ s : List ℕ) (k n to : ℕ) (r : List ℕ) (j : ℕ) : Type 0 where
  pub room : r ≡ put r₀ to (seg s k j)
  pub count : j ≤ n
  pub long : length r ≡ length r₀

pub none_copied : (r₀ s : List ℕ) (k n to : ℕ) → Copying r₀ s k n to r₀ 0
none_copied r₀ s k n to = record { room = rw (seg-zero, put-nil); count = omega arith; long = refl }

module _ {r₀ s r : List ℕ} {k n to j : ℕ} (C : Copying r₀ s k n to r j) (h : Within s k n) where
  pub word_copied : (w : ℕ) → j < n → w ≡ get_or s (k + j) 0 → Copying r₀ s k n to (set r (to + j) w) (j + 1)
  word_copied w f e =
      let l : length (seg s k j) ≡ j = length-seg s k j (omega arith) in
      record {
        room = rw (e, C.room, seg-more s k j (omega arith), ← put-more r₀ to (seg s k j) (get_or s (k + j) 0), l);
        count = omega arith;
        long = simp length-set C.long;
      }

  pub all_copied : n ≤ j → r ≡ put r₀ to (seg s k n)
  all_copied f = let e : j ≡ n = omega arith in rw e at C.room

-- ---- inside one room

module _ {r₀ r : List ℕ} {from n to j : ℕ} (P : CopyParts r₀ from n to) (C : Copying r₀ r₀ from n to r j) where
  -- a word that is still to be copied is as it was
  pub unread : j < n → get_or r (from + j) 0 ≡ get_or r₀ (from + j) 0
  unread h =
      let l : length (seg r₀ from j) ≡ j = length-seg r₀ from j (omega arith) in
      rw C.room (get_or-put (seg r₀ from j) r₀ (rw l (apart_part P.apart (omega arith) (omega arith) (omega arith) (omega arith))))

  -- and so are k words
  pub unread-part : (k : ℕ) → j + k ≤ n → seg r (from + j) k ≡ seg r₀ (from + j) k
  unread-part k h =
      let l : length (seg r₀ from j) ≡ j = length-seg r₀ from j (omega arith) in
      rw C.room (seg-put (seg r₀ from j) r₀ (rw l (apart_part P.apart (omega arith) (omega arith) (omega arith) (omega arith))))

  pub part_moved : (k : ℕ) (r' : List ℕ) → j + k ≤ n → r' ≡ put r (to + j) (seg r (from + j) k) → Copying r₀ r₀ from n to r' (j + k)
  part_moved k r' h q =
      let l : length (seg r₀ from j) ≡ j = length-seg r₀ from j (omega (arith, P.from_within)) in
      record {
        room = rw (q, unread-part k h, C.room, seg-append r₀ from j k, ← put-put (seg r₀ from j) r₀ (seg r₀ (from + j) k) to, l);
        count = h;
        long = rw (q, length-put) C.long;
      }

  pub word_moved : j < n → Copying r₀ r₀ from n to (set r (to + j) (get_or r (from + j) 0)) (j + 1)
  word_moved h = word_copied C P.from_within (get_or r (from + j) 0) h (unread h)
