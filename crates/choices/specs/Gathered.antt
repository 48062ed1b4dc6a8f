-- What a child's picks gather from its parent's row, read off the noted places: the members that join the other side's tail, each with its mark,
-- and the sides of the new equations. Then where the parts of the room lie that are read and written.
use Prim.Native.Nat.{ℕ, zero, suc, ◌+◌, ◌-◌, ◌<◌, ◌≤◌}
use Rattle.std.specs.Prelude.{◌≡◌, List, [], ◌++◌, Bool, true, false, cond, ltb, get_or}
use native.Mathlib.Omega.{arith}
use Rattle.room.specs.Room.{seg, Within}
use Rattle.room.specs.Parts.{Apart}

-- f i, f (i + 1), .., k of them
unfoldable pub gathered : (ℕ → List ℕ) → (k i : ℕ) → List ℕ
gathered f zero i = []
gathered f (suc k) i = f i ++ gathered f k (i + 1)

module _ (l : List ℕ) (body : ℕ) where
  -- the words of the member whose place is noted at a place
  unfoldable pub member_piece : ℕ → List ℕ
  member_piece at = seg l (body + (get_or l at 0 + 1)) (get_or l (at + 1) 0 - (get_or l at 0 + 1))

  -- and its mark before them
  unfoldable pub marked_piece : ℕ → List ℕ
  marked_piece at = seg l (body + get_or l at 0) (get_or l (at + 1) 0 - get_or l at 0)

  module _ (owns picks : ℕ) where
    -- the i-th of the members, if it picked none of the others
    unfoldable pub joins_piece : (others i : ℕ) → List ℕ
    joins_piece others i = cond (ltb (get_or l (picks + i) 0) others) [] (marked_piece (owns + i))

    unfoldable pub joining_piece : (n others : ℕ) → List ℕ
    joining_piece n others = gathered (joins_piece others) n 0

    -- its equation with the other that it picked; turned, the other is on the left
    unfoldable pub meets_piece : Bool → (others count i : ℕ) → List ℕ
    meets_piece turned others count i =
        cond (ltb (get_or l (picks + i) 0) count)
        (cond turned
        (member_piece (others + get_or l (picks + i) 0) ++ member_piece (owns + i))
        (member_piece (owns + i) ++ member_piece (others + get_or l (picks + i) 0))) []

    unfoldable pub meeting_piece : Bool → (n others count : ℕ) → List ℕ
    meeting_piece turned n others count = gathered (meets_piece turned others count) n 0

  -- the equations of the n t's picks, then those of the k u's
  unfoldable pub equations_piece : (ts n us k picks : ℕ) → List ℕ
  equations_piece ts n us k picks = meeting_piece ts picks false n us k ++ meeting_piece us (picks + n) true k ts n

-- the places of n members rise, up to an end
pub record Noted (l : List ℕ) (end at n : ℕ) : Type 0 where
  pub within : Within l at (n + 1)
  pub rises : (i : ℕ) → i < n → get_or l (at + i) 0 < get_or l (at + i + 1) 0
  pub ends : (i : ℕ) → i < n → get_or l (at + i + 1) 0 ≤ end

pub record TailParts (l : List ℕ) (body places picks n to : ℕ) : Type 0 where
  pub end : ℕ
  pub noted : Noted l end places n
  pub body_within : Within l body end
  pub picks_within : Within l picks n
  pub to_within : Within l to end
  pub places_apart : Apart places (n + 1) to end
  pub body_apart : Apart body end to end
  pub picks_apart : Apart picks n to end

-- one member is written, in at most capacity words
pub record SideParts (l : List ℕ) (body at by m to capacity : ℕ) : Type 0 where
  pub rises : get_or l at 0 < get_or l (at + 1) 0
  pub body_within : Within l body (get_or l (at + 1) 0)
  pub at_within : Within l at 2
  pub by_within : Within l by m
  pub to_within : Within l to capacity
  pub body_apart : Apart body (get_or l (at + 1) 0) to capacity
  pub at_apart : Apart at 2 to capacity
  pub by_apart : Apart by m to capacity

-- the equations of one side's picks are written
pub record MeetParts (l : List ℕ) (body owns n others count picks by m to capacity : ℕ) : Type 0 where
  pub end : ℕ
  pub body_within : Within l body end
  pub body_apart : Apart body end to capacity
  pub owns_noted : Noted l end owns n
  pub owns_apart : Apart owns (n + 1) to capacity
  pub others_noted : Noted l end others count
  pub others_apart : Apart others (count + 1) to capacity
  pub picks_within : Within l picks n
  pub picks_apart : Apart picks n to capacity
  pub by_within : Within l by m
  pub by_apart : Apart by m to capacity
  pub to_within : Within l to capacity

module _ (f : ℕ → List ℕ) where
  pub gathered_none : (k i : ℕ) → k ≡ 0 → gathered f k i ≡ []
  unfolding gathered
  gathered_none k i e = rw e

  -- the next one
  pub gathered_next : (n i : ℕ) → i < n → gathered f (n - i) i ≡ f i ++ gathered f (n - (i + 1)) (i + 1)
  unfolding gathered
  gathered_next n i h = let e : n - i ≡ suc (n - (i + 1)) = omega arith in rw e
