-- The loop over the members that join a tail: some are looked at, and those that join are copied.
use Prim.Native.Nat.{ℕ, ◌+◌, ◌-◌, ◌<◌, ◌≤◌}
use mathlib.Core.Path.{◌≡◌, refl, sym, ap, ◌∙◌}
use mathlib.Core.List.{List, [], ◌++◌, append_assoc, append-nil}
use mathlib.Core.Bool.{true, false}
use native.Mathlib.Omega.{arith}
use lib.Dec.{ltb}
use lib.ListN.{length, get_or, length-append}
use borrow.Author.Tests.{lt-ltb, le-ltb}
use Rattle.room.specs.Room.{seg, put, length-put, length-seg, put-nil, put-put}
use Rattle.room.specs.Parts.{CopyParts, apart_part, get_or-put, seg-put}
use Rattle.choices.specs.Gathered.{gathered, gathered_none, gathered_next, marked_piece, joins_piece, joining_piece, TailParts}

pub record Joining (r₀ : List ℕ) (body places picks n others to : ℕ) (r : List ℕ) (i written : ℕ) : Type 0 where
  pub parts : TailParts r₀ body places picks n to
  pub before : i ≤ n
  pub done : List ℕ
  pub count : length done ≡ written
  pub short : written ≤ get_or r₀ (places + i) 0
  pub within : written ≤ parts.end
  pub room : r ≡ put r₀ to done
  pub left : joining_piece r₀ body places picks n others ≡ done ++ gathered (joins_piece r₀ body places picks others) (n - i) i

pub none_joined : {r₀ : List ℕ} {body places picks n : ℕ} (others : ℕ) {to : ℕ} → TailParts r₀ body places picks n to → Joining r₀ body places picks n others to r₀ 0 0
unfolding joining_piece
none_joined {r₀} {n = n} others {to} P = record {
  parts = P;
  before = omega arith;
  done = [];
  count = refl;
  short = omega arith;
  within = omega arith;
  room = sym (put-nil r₀ to);
  left = let e : n - 0 ≡ n = omega arith in rw e;
}

pub record Numbers (r₀ : List ℕ) (body places picks n to : ℕ) (r : List ℕ) (i written : ℕ) : Type 0 where
  pub end : ℕ
  pub places_within : places + (n + 1) ≤ length r₀
  pub picks_within : picks + n ≤ length r₀
  pub body_within : body + end ≤ length r₀
  pub to_within : to + end ≤ length r₀
  pub before : i ≤ n
  pub written_within : written ≤ end
  pub long : length r ≡ length r₀

module _ {r₀ : List ℕ} {body places picks n others to : ℕ} {r : List ℕ} {i written : ℕ} (S : Joining r₀ body places picks n others to r i written) where
  pub numbers : Numbers r₀ body places picks n to r i written
  numbers = record {
    end = S.parts.end;
    places_within = S.parts.noted.within;
    picks_within = S.parts.picks_within;
    body_within = S.parts.body_within;
    to_within = S.parts.to_within;
    before = S.before;
    written_within = S.within;
    long = ap length S.room ∙ length-put r₀ to S.done;
  }

  long : length r ≡ length r₀
  long = numbers.long

  pub all-joined : n ≤ i → (written ≡ length (joining_piece r₀ body places picks n others)) × (written ≤ get_or r₀ (places + n) 0)
  all-joined h =
      let e : i ≡ n = omega (arith, S.before) in
      let z = gathered_none (joins_piece r₀ body places picks others) (n - i) i (omega arith) in
      let l : joining_piece r₀ body places picks n others ≡ S.done = S.left ∙ rw z (append-nil S.done) in
      (sym S.count ∙ ap length (sym l), rw (← e) S.short)

  pub all-put : n ≤ i → r ≡ put r₀ to (joining_piece r₀ body places picks n others)
  all-put h =
      let z = gathered_none (joins_piece r₀ body places picks others) (n - i) i (omega arith) in
      S.room ∙ ap (put r₀ to) (sym (S.left ∙ rw z (append-nil S.done)))

  module _ (h : i < n) where
    abbrev pub a : ℕ
    a = get_or r₀ (places + i) 0

    abbrev pub e : ℕ
    e = get_or r₀ (places + i + 1) 0

    -- what is read stands as it was
    pick_is : get_or r (picks + i) 0 ≡ get_or r₀ (picks + i) 0
    pick_is = rw S.room (get_or-put S.done r₀ (apart_part S.parts.picks_apart (omega arith) (omega arith) (omega arith) (omega (arith, S.count, S.within))))

    pub place_is : get_or r (places + i) 0 ≡ a
    place_is = rw S.room (get_or-put S.done r₀ (apart_part S.parts.places_apart (omega arith) (omega arith) (omega arith) (omega (arith, S.count, S.within))))

    pub next_is : get_or r (places + i + 1) 0 ≡ e
    next_is = rw S.room (get_or-put S.done r₀ (apart_part S.parts.places_apart (omega arith) (omega arith) (omega arith) (omega (arith, S.count, S.within))))

    pub member_skipped : (d : ℕ) → d ≡ get_or r (picks + i) 0 → d < others → Joining r₀ body places picks n others to r (i + 1) written
    unfolding joins_piece
    member_skipped d f g =
        let t : ltb (get_or r₀ (picks + i) 0) others ≡ true = lt-ltb (get_or r₀ (picks + i) 0) others (omega (arith, pick_is)) in
        let s = S.parts.noted.rises i h in
        let next : places + (i + 1) ≡ places + i + 1 = omega arith in
        record {
          parts = S.parts;
          before = omega arith;
          done = S.done;
          count = S.count;
          short = rw next (omega (arith, S.short));
          within = S.within;
          room = S.room;
          left = S.left ∙ ap (λ (l : List ℕ). S.done ++ l) (gathered_next (joins_piece r₀ body places picks others) n i h ∙ rw t);
        }

    module _ (p q : ℕ) (f : p ≡ get_or r (places + i) 0) (g : q ≡ get_or r (places + i + 1) 0) where
      pub rising : (p < q) × (q ≤ S.parts.end) × (written ≤ p)
      rising = (omega (arith, place_is, next_is, S.parts.noted.rises i h), omega (arith, next_is, S.parts.noted.ends i h), omega (arith, place_is, S.short))

      pub copy_parts : CopyParts r (body + p) (q - p) (to + written)
      copy_parts =
          let s = rising in
          record {
            from_within = rw long (omega (arith, S.parts.body_within));
            to_within = rw long (omega (arith, S.parts.to_within));
            apart = apart_part S.parts.body_apart (omega arith) (omega arith) (omega arith) (omega arith);
          }

      pub member_joined : (d : ℕ) → d ≡ get_or r (picks + i) 0 → others ≤ d → {r' : List ℕ} → r' ≡ put r (to + written) (seg r (body + p) (q - p))
          → Joining r₀ body places picks n others to r' (i + 1) (written + (q - p))
      unfolding joins_piece marked_piece
      member_joined d k o {r'} m =
          let t : ltb (get_or r₀ (picks + i) 0) others ≡ false = le-ltb (get_or r₀ (picks + i) 0) others (omega (arith, pick_is)) in
          let s = rising in
          let next : places + (i + 1) ≡ places + i + 1 = omega arith in
          let piece : List ℕ = seg r₀ (body + a) (e - a) in
          let same : seg r (body + p) (q - p) ≡ piece =
          ap (λ (j : ℕ). seg r (body + j) (q - j)) (f ∙ place_is)
          ∙ ap (λ (j : ℕ). seg r (body + a) (j - a)) (g ∙ next_is)
          ∙ rw S.room (seg-put S.done r₀ (apart_part S.parts.body_apart (omega arith) (omega (arith, place_is, next_is)) (omega arith) (omega (arith, S.count, S.within)))) in
          let n' : length piece ≡ q - p = length-seg r₀ (body + a) (e - a) (omega (arith, place_is, next_is, S.parts.body_within)) ∙ omega (arith, place_is, next_is) in
          let here : r' ≡ put r₀ to (S.done ++ piece) = m ∙ rw (same, S.room, ← S.count) (put-put S.done r₀ piece to) in
          record {
            parts = S.parts;
            before = omega arith;
            done = S.done ++ piece;
            count = length-append S.done piece ∙ rw (S.count, n');
            short = rw next (omega (arith, next_is));
            within = omega arith;
            room = here;
            left = S.left ∙ ap (λ (l : List ℕ). S.done ++ l) (gathered_next (joins_piece r₀ body places picks others) n i h ∙ rw t) ∙ sym (append_assoc S.done piece (gathered (joins_piece r₀ body places picks others) (n - (i + 1)) (i + 1)));
          }
