-- What is written elsewhere changes nothing of what a child's picks gather.
use Prim.Native.Nat.{ℕ, zero, suc, ◌+◌, ◌-◌, ◌<◌, ◌≤◌}
use mathlib.Core.Path.{◌≡◌, refl, ap, ◌∙◌}
use mathlib.Core.List.{List}
use mathlib.Core.Bool.{Bool}
use native.Mathlib.Omega.{arith}
use lib.Dec.{ltb}
use lib.ListN.{length, get_or}
use borrow.Author.Tests.{ltb-true}
use Rattle.room.specs.Room.{seg, put, length-put}
use Rattle.room.specs.Parts.{Apart, apart_part, get_or-put, seg-put}
use Rattle.choices.specs.Gathered.{gathered, meets_piece, meeting_piece, Noted, MeetParts}
use Rattle.choices.proofs.EquationsWritten.{own_parts, other_parts, same_member}
use Rattle.terms.specs.Lists.{cases}

-- the same parts, one after the other
pub gathered_same : (f g : ℕ → List ℕ) (k i : ℕ) → ((j : ℕ) → i ≤ j → j < i + k → f j ≡ g j) → gathered f k i ≡ gathered g k i
unfolding gathered
gathered_same f g zero i h = refl
gathered_same f g (suc k) i h =
    let e = h i (omega arith) (omega arith) in
    let s = gathered_same f g k (i + 1) (λ j a b. h j (omega arith) (omega arith)) in
    rw (e, s)

pub noted-after : {l : List ℕ} {end at n : ℕ} → Noted l end at n → (r out : List ℕ) (i : ℕ) → r ≡ put l i out → Apart at (n + 1) i (length out) → Noted r end at n
noted-after {l} {end} {at} {n} N r out i e a =
    let same : (j : ℕ) → j < n + 1 → get_or r (at + j) 0 ≡ get_or l (at + j) 0 =
    λ j h. rw e (get_or-put out l (apart_part a (omega arith) (omega arith) (omega arith) (omega arith))) in
    let next : (j : ℕ) → j < n → get_or r (at + j + 1) 0 ≡ get_or l (at + j + 1) 0 =
    λ j h. rw e (get_or-put out l (apart_part a (omega arith) (omega arith) (omega arith) (omega arith))) in
    let long : length r ≡ length l = ap length e ∙ length-put l i out in
    record {
      within = rw long N.within;
      rises = λ j h. rw (same j (omega arith), next j h) (N.rises j h);
      ends = λ j h. rw (next j h) (N.ends j h);
    }

module _ {l : List ℕ} {body owns n others count picks by m to capacity : ℕ} (P : MeetParts l body owns n others count picks by m to capacity)
    (r out : List ℕ) (i : ℕ) (e : r ≡ put l i out) (h : to ≤ i) (k : i + length out ≤ to + capacity) where
  -- a part of what is written to
  pub meet-after : (j : ℕ) → j ≤ capacity → MeetParts r body owns n others count picks by m (to + j) (capacity - j)
  meet-after j c =
      let long : length r ≡ length l = ap length e ∙ length-put l i out in
      record {
        end = P.end;
        body_within = rw long P.body_within;
        body_apart = apart_part P.body_apart (omega arith) (omega arith) (omega arith) (omega arith);
        owns_noted = noted-after P.owns_noted r out i e (apart_part P.owns_apart (omega arith) (omega arith) h k);
        owns_apart = apart_part P.owns_apart (omega arith) (omega arith) (omega arith) (omega arith);
        others_noted = noted-after P.others_noted r out i e (apart_part P.others_apart (omega arith) (omega arith) h k);
        others_apart = apart_part P.others_apart (omega arith) (omega arith) (omega arith) (omega arith);
        picks_within = rw long P.picks_within;
        picks_apart = apart_part P.picks_apart (omega arith) (omega arith) (omega arith) (omega arith);
        by_within = rw long P.by_within;
        by_apart = apart_part P.by_apart (omega arith) (omega arith) (omega arith) (omega arith);
        to_within = rw long (omega (arith, P.to_within));
      }

  pub value_after : seg r by m ≡ seg l by m
  value_after = rw e (seg-put out l (apart_part P.by_apart (omega arith) (omega arith) h k))

  meets-after : (turned : Bool) (j : ℕ) → j < n → meets_piece r body owns picks turned others count j ≡ meets_piece l body owns picks turned others count j
  unfolding meets_piece
  meets-after turned j b =
      let d : ℕ = get_or l (picks + j) 0 in
      let same : get_or r (picks + j) 0 ≡ d = rw e (get_or-put out l (apart_part P.picks_apart (omega arith) (omega arith) h k)) in
      let own = same_member (own_parts P j b) r out i e h k in
      rw same
      (cases (ltb d count)
      (λ t. let other = same_member (other_parts P d (ltb-true d count t)) r out i e h k in rw (t, own, other))
      (λ f. rw f))

  pub meeting_after : (turned : Bool) → meeting_piece r body owns picks turned n others count ≡ meeting_piece l body owns picks turned n others count
  unfolding meeting_piece
  meeting_after turned = gathered_same _ _ n 0 (λ j a b. meets-after turned j (omega arith))
