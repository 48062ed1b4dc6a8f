-- The new equations written one after the other.
use Rattle.std.proofs.Common.{Option, Some, None}
use Prim.Native.Nat.{ℕ, ◌+◌, ◌-◌, ◌<◌, ◌≤◌}
use mathlib.Core.Path.{◌≡◌, sym, ap, ◌∙◌}
use mathlib.Core.List.{List, [], ◌++◌, append_assoc, append-nil}
use mathlib.Core.Bool.{Bool, true, false, cond}
use native.Mathlib.Omega.{arith}
use lib.Dec.{ltb}
use lib.ListN.{length, get_or}
use borrow.Author.Tests.{lt-ltb, le-ltb}
use Rattle.room.specs.Room.{seg, put, length-put}
use Rattle.room.specs.Parts.{ReplaceParts, apart_part, get_or-put, seg-put}
use Rattle.room.specs.Replaced.{replaced, replaced-nil, replaced-append}
use Rattle.replace.specs.Fitting.{fitting, told, further}
use Rattle.rows.specs.Wrote.{Wrote, wrote_nothing, wrote_replaced, wrote_more, wrote_length, full_more, done-fits, done-length}
use Rattle.choices.specs.Gathered.{gathered, gathered_none, gathered_next, member_piece, meets_piece, meeting_piece, SideParts, MeetParts}

-- ---- one side

module _ {l : List ℕ} {body at by m to capacity : ℕ} (P : SideParts l body at by m to capacity) {p q : ℕ} (f : p ≡ get_or l at 0) (g : q ≡ get_or l (at + 1) 0) where
  pub side-parts : ReplaceParts l (body + (p + 1)) (q - (p + 1)) by m to capacity
  side-parts = record {
    from_within = omega (arith, P.body_within, P.rises);
    by_within = P.by_within;
    to_within = P.to_within;
    from_apart = apart_part P.body_apart (omega arith) (omega (arith, P.rises)) (omega arith) (omega arith);
    by_apart = P.by_apart;
  }

  pub side-written : (x : ℕ) {a : Option ℕ} {r : List ℕ} → a ≡ told capacity (replaced x (seg l by m) (seg l (body + (p + 1)) (q - (p + 1))))
      → r ≡ put l to (fitting x (seg l by m) capacity (seg l (body + (p + 1)) (q - (p + 1)))) → Wrote l to capacity (replaced x (seg l by m) (member_piece l body at)) a r
  unfolding member_piece
  side-written x e k =
      rw (← f, ← g) (wrote_replaced x (seg l by m) (seg l (body + (p + 1)) (q - (p + 1))) e k)

-- ---- two sides

-- the words that a side is read from are the same in r
module _ {l : List ℕ} {body at by m to capacity : ℕ} (P : SideParts l body at by m to capacity) (r out : List ℕ) (i : ℕ) (e : r ≡ put l i out) (h : to ≤ i) (k : i + length out ≤ to + capacity) where
  same_place : get_or r at 0 ≡ get_or l at 0
  same_place = rw e (get_or-put out l (apart_part P.at_apart (omega arith) (omega arith) h k))

  same_next : get_or r (at + 1) 0 ≡ get_or l (at + 1) 0
  same_next = rw e (get_or-put out l (apart_part P.at_apart (omega arith) (omega arith) h k))

  pub same_value : seg r by m ≡ seg l by m
  same_value = rw e (seg-put out l (apart_part P.by_apart (omega arith) (omega arith) h k))

  pub same_member : member_piece r body at ≡ member_piece l body at
  unfolding member_piece
  same_member =
      rw (same_place, same_next, e)
      (seg-put out l (apart_part P.body_apart (omega arith) (omega (arith, P.rises)) h k))

  -- a part of what is written to
  pub side_after : (j : ℕ) → j ≤ capacity → SideParts r body at by m (to + j) (capacity - j)
  side_after j c =
      let long : length r ≡ length l = ap length e ∙ length-put l i out in
      let n = same_next in
      let s = same_place in
      record {
        rises = omega (arith, P.rises);
        body_within = rw long (omega (arith, P.body_within));
        at_within = rw long P.at_within;
        by_within = rw long P.by_within;
        to_within = rw long (omega (arith, P.to_within));
        body_apart = apart_part P.body_apart (omega arith) (omega arith) (omega arith) (omega arith);
        at_apart = apart_part P.at_apart (omega arith) (omega arith) (omega arith) (omega arith);
        by_apart = apart_part P.by_apart (omega arith) (omega arith) (omega arith) (omega arith);
      }

module _ {l : List ℕ} {body t u by m to capacity : ℕ} (P : SideParts l body t by m to capacity × SideParts l body u by m to capacity) (x : ℕ) where
  abbrev value : List ℕ
  value = seg l by m

  pub equation_full : {r : List ℕ} → Wrote l to capacity (replaced x value (member_piece l body t)) None r
      → Wrote l to capacity (replaced x value (member_piece l body t ++ member_piece l body u)) None r
  equation_full w = rw replaced-append (full_more _ w)

  module _ {k : ℕ} {r : List ℕ} (w : Wrote l to capacity (replaced x value (member_piece l body t)) (Some k) r) where
    pub first-within : k ≤ capacity
    first-within = omega (arith, done-fits w, done-length w)

    pub second_parts : SideParts r body u by m (to + k) (capacity - k)
    second_parts = side_after P.1 r w.out to w.room (omega arith) (omega (arith, w.within)) k first-within

    pub equation-written : {a : Option ℕ} {r' : List ℕ} → Wrote r (to + k) (capacity - k) (replaced x (seg r by m) (member_piece r body u)) a r'
        → Wrote l to capacity (replaced x value (member_piece l body t ++ member_piece l body u)) (further k a) r'
    equation-written v =
        let s = same_value P.1 r w.out to w.room (omega arith) (omega (arith, w.within)) in
        let n = same_member P.1 r w.out to w.room (omega arith) (omega (arith, w.within)) in
        rw replaced-append (wrote_more w (rw (s, n) at v))

-- ---- the equations of one side's picks

pub own_parts : {l : List ℕ} {body owns n others count picks by m to capacity : ℕ} → MeetParts l body owns n others count picks by m to capacity
    → (i : ℕ) → i < n → SideParts l body (owns + i) by m to capacity
own_parts P i h =
    let e = P.owns_noted.ends i h in
    record {
      rises = P.owns_noted.rises i h;
      body_within = omega (arith, P.body_within);
      at_within = omega (arith, P.owns_noted.within);
      by_within = P.by_within;
      to_within = P.to_within;
      body_apart = apart_part P.body_apart (omega arith) (omega arith) (omega arith) (omega arith);
      at_apart = apart_part P.owns_apart (omega arith) (omega arith) (omega arith) (omega arith);
      by_apart = P.by_apart;
    }

-- the other side's parts are those of its own picks
pub other_parts : {l : List ℕ} {body owns n others count picks by m to capacity : ℕ} → MeetParts l body owns n others count picks by m to capacity
    → (i : ℕ) → i < count → SideParts l body (others + i) by m to capacity
other_parts P i h =
    let e = P.others_noted.ends i h in
    record {
      rises = P.others_noted.rises i h;
      body_within = omega (arith, P.body_within);
      at_within = omega (arith, P.others_noted.within);
      by_within = P.by_within;
      to_within = P.to_within;
      body_apart = apart_part P.body_apart (omega arith) (omega arith) (omega arith) (omega arith);
      at_apart = apart_part P.others_apart (omega arith) (omega arith) (omega arith) (omega arith);
      by_apart = P.by_apart;
    }

pub record Meeting (r₀ : List ℕ) (body : ℕ) (turned : Bool) (owns n others count picks x by m to capacity : ℕ) (r : List ℕ) (i written : ℕ) : Type 0 where
  pub parts : MeetParts r₀ body owns n others count picks by m to capacity
  pub before : i ≤ n
  pub done : List ℕ
  pub left : meeting_piece r₀ body owns picks turned n others count ≡ done ++ gathered (meets_piece r₀ body owns picks turned others count) (n - i) i
  pub wrote : Wrote r₀ to capacity (replaced x (seg r₀ by m) done) (Some written) r

pub none_met : {r₀ : List ℕ} {body : ℕ} (turned : Bool) {owns n others count picks : ℕ} (x : ℕ) {by m to capacity : ℕ}
    → MeetParts r₀ body owns n others count picks by m to capacity → Meeting r₀ body turned owns n others count picks x by m to capacity r₀ 0 0
unfolding meeting_piece
none_met {r₀} turned {n = n} x {by} {m} {to} {capacity} P = record {
  parts = P;
  before = omega arith;
  done = [];
  left = let e : n - 0 ≡ n = omega arith in rw e;
  wrote = rw replaced-nil (wrote_nothing r₀ to capacity);
}

pub record Numbers (r₀ : List ℕ) (owns n others count picks to capacity : ℕ) (r : List ℕ) (i written : ℕ) : Type 0 where
  pub owns_within : owns + (n + 1) ≤ length r₀
  pub others_within : others + (count + 1) ≤ length r₀
  pub picks_within : picks + n ≤ length r₀
  pub to_within : to + capacity ≤ length r₀
  pub before : i ≤ n
  pub written_within : written ≤ capacity
  pub long : length r ≡ length r₀

module _ {r₀ : List ℕ} {body : ℕ} {turned : Bool} {owns n others count picks x by m to capacity : ℕ} {r : List ℕ} {i written : ℕ}
    (S : Meeting r₀ body turned owns n others count picks x by m to capacity r i written) where
  abbrev one : ℕ → List ℕ
  one = meets_piece r₀ body owns picks turned others count

  pub numbers : Numbers r₀ owns n others count picks to capacity r i written
  numbers = record {
    owns_within = S.parts.owns_noted.within;
    others_within = S.parts.others_noted.within;
    picks_within = S.parts.picks_within;
    to_within = S.parts.to_within;
    before = S.before;
    written_within = omega (arith, done-fits S.wrote, done-length S.wrote);
    long = wrote_length S.wrote;
  }

  pub all-met : n ≤ i → Wrote r₀ to capacity (replaced x (seg r₀ by m) (meeting_piece r₀ body owns picks turned n others count)) (Some written) r
  all-met h =
      let z = gathered_none one (n - i) i (omega arith) in
      let e : meeting_piece r₀ body owns picks turned n others count ≡ S.done = S.left ∙ rw z (append-nil S.done) in
      rw e S.wrote

  module _ (h : i < n) (d : ℕ) (f : d ≡ get_or r (picks + i) 0) where
    within : to + length S.wrote.out ≤ to + capacity
    within = omega (arith, S.wrote.within)

    pick_is : d ≡ get_or r₀ (picks + i) 0
    pick_is = f ∙ rw S.wrote.room (get_or-put S.wrote.out r₀ (apart_part S.parts.picks_apart (omega arith) (omega arith) (omega arith) within))

    pub pick_passed : count ≤ d → Meeting r₀ body turned owns n others count picks x by m to capacity r (i + 1) written
    unfolding meets_piece
    pick_passed g =
        let t : ltb (get_or r₀ (picks + i) 0) count ≡ false = le-ltb (get_or r₀ (picks + i) 0) count (omega (arith, pick_is)) in
        record {
          parts = S.parts;
          before = omega arith;
          done = S.done;
          left = S.left ∙ ap (λ (l : List ℕ). S.done ++ l) (gathered_next one n i h ∙ rw t);
          wrote = S.wrote;
        }

    module _ (g : d < count) where
      abbrev own_side : SideParts r₀ body (owns + i) by m to capacity
      own_side = own_parts S.parts i h

      abbrev other_side : SideParts r₀ body (others + d) by m to capacity
      other_side = other_parts S.parts d g

      pub pair_parts : SideParts r body (owns + i) by m (to + written) (capacity - written) × SideParts r body (others + d) by m (to + written) (capacity - written)
      pair_parts =
          let w = numbers.written_within in (
            side_after own_side r S.wrote.out to S.wrote.room (omega arith) within written w,
            side_after other_side r S.wrote.out to S.wrote.room (omega arith) within written w,
          )

      module _ {a : Option ℕ} {r' : List ℕ}
          (v : Wrote r (to + written) (capacity - written) (replaced x (seg r by m) (cond turned (member_piece r body (others + d) ++ member_piece r body (owns + i)) (member_piece r body (owns + i) ++ member_piece r body (others + d)))) a r') where
        piece : Wrote r (to + written) (capacity - written) (replaced x (seg r₀ by m) (one i)) a r'
        unfolding meets_piece
        piece =
            let t : ltb (get_or r₀ (picks + i) 0) count ≡ true = lt-ltb (get_or r₀ (picks + i) 0) count (omega (arith, pick_is)) in
            let s = same_value own_side r S.wrote.out to S.wrote.room (omega arith) within in
            let k = same_member own_side r S.wrote.out to S.wrote.room (omega arith) within in
            let j = same_member other_side r S.wrote.out to S.wrote.room (omega arith) within in
            rw (t, ← pick_is) (rw (s, k, j) at v)

        left-more : meeting_piece r₀ body owns picks turned n others count ≡ (S.done ++ one i) ++ gathered one (n - (i + 1)) (i + 1)
        left-more =
            S.left ∙ ap (λ (l : List ℕ). S.done ++ l) (gathered_next one n i h)
            ∙ sym (append_assoc S.done (one i) (gathered one (n - (i + 1)) (i + 1)))

        pub pair-met : (k : ℕ) → a ≡ Some k → Meeting r₀ body turned owns n others count picks x by m to capacity r' (i + 1) (written + k)
        unfolding further
        pair-met k q = record {
          parts = S.parts;
          before = omega arith;
          done = S.done ++ one i;
          left = left-more;
          wrote = rw replaced-append (wrote_more S.wrote (rw q at piece));
        }

        pub pair_full : a ≡ None → Wrote r₀ to capacity (replaced x (seg r₀ by m) (meeting_piece r₀ body owns picks turned n others count)) None r'
        unfolding further
        pair_full q =
            rw (left-more, replaced-append x (seg r₀ by m) (S.done ++ one i) (gathered one (n - (i + 1)) (i + 1)), replaced-append x (seg r₀ by m) S.done (one i))
            (full_more _ (wrote_more S.wrote (rw q at piece)))
