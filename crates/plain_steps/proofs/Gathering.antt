-- The loop that gathers members: some entries are read, and the members of those of x are written.
use Prim.Native.Nat.{ℕ, suc, ◌+◌, ◌-◌, ◌<◌, ◌≤◌}
use mathlib.Core.Path.{◌≡◌, refl, sym, ap, ◌∙◌}
use mathlib.Core.List.{List, [], ◌∷◌, ◌++◌, append_assoc, append-nil}
use native.Mathlib.Omega.{arith}
use lib.Dec.{eqb}
use lib.ListN.{length, take, drop, get_or, length-append}
use borrow.Author.Tests.{eq-eqb, ne_eqb}
use Rattle.room.specs.Room.{seg, put, length-put, length-seg, seg-zero, seg-cons, take-seg, drop-seg, put-nil}
use Rattle.room.specs.Parts.{CopyParts, apart_part, get_or-put, seg-put}
use Rattle.terms.specs.Bounds.{edition_one, edition_one_proper}
use Rattle.terms.specs.Laws.Walk.{span-le}
use Rattle.rows.specs.Terms.Ended.{term_end}
use Rattle.rows.specs.Terms.Stripped.{kernel_at}
use Rattle.rows.specs.Pile.{kept}
use Rattle.plain_steps.specs.Join.{gathered, gathered-entry, gathered_none, stripped-ended}
use Rattle.binding.proofs.RestCopied.{put-after}

pub record Gathering (arities r₀ : List ℕ) (from n x to : ℕ) (r : List ℕ) (read written : ℕ) : Type 0 where
  pub parts : CopyParts r₀ from n to
  pub passed : read ≤ n
  pub most : ℕ
  pub enough : n - read ≤ most
  pub done : List ℕ
  pub ahead : gathered edition_one arities x n (seg r₀ from n) ≡ done ++ gathered edition_one arities x most (seg r₀ (from + read) (n - read))
  pub room : r ≡ put r₀ to done
  pub count : length done ≡ written
  pub fits : written ≤ read

pub none_gathered : (arities : List ℕ) {r₀ : List ℕ} {from n : ℕ} (x : ℕ) {to : ℕ} → CopyParts r₀ from n to → Gathering arities r₀ from n x to r₀ 0 0
none_gathered arities {r₀} {from} {n} x {to} P =
    let e : from + 0 ≡ from = omega arith in
    let f : n - 0 ≡ n = omega arith in
    record {
      parts = P;
      passed = omega arith;
      most = n;
      enough = omega arith;
      done = [];
      ahead = rw (e, f);
      room = sym (put-nil r₀ to);
      count = refl;
      fits = omega arith;
    }

module _ {arities r₀ : List ℕ} {from n x to : ℕ} {r : List ℕ} {read written : ℕ} (S : Gathering arities r₀ from n x to r read written) where
  pub gathering_long : length r ≡ length r₀
  gathering_long = ap length S.room ∙ length-put r₀ to S.done

  unread : (k l : ℕ) → from ≤ k → k + l ≤ from + n → seg r k l ≡ seg r₀ k l
  unread k l h f = rw S.room (seg-put S.done r₀ (apart_part S.parts.apart (omega arith) (omega arith) (omega arith) (omega (arith, S.count, S.fits, S.passed))))

  unread-word : read < n → get_or r (from + read) 0 ≡ get_or r₀ (from + read) 0
  unread-word h = rw S.room (get_or-put S.done r₀ (apart_part S.parts.apart (omega arith) (omega arith) (omega arith) (omega (arith, S.count, S.fits))))

  pub all-gathered : n ≤ read
      → (written ≡ length (gathered edition_one arities x n (seg r₀ from n))) × (r ≡ put r₀ to (gathered edition_one arities x n (seg r₀ from n)))
  all-gathered h =
      let z : n - read ≡ 0 = omega arith in
      let e : gathered edition_one arities x n (seg r₀ from n) ≡ S.done = S.ahead ∙ rw (z, seg-zero, gathered_none) (append-nil S.done) in
      (rw e (sym S.count), rw e S.room)

  module _ (h : read < n) {end : ℕ} (last : end ≡ from + n) (e : ℕ) (told_end : e ≡ term_end edition_one arities (seg r (from + read + 1) (end - (from + read + 1)))) where
    abbrev rest : List ℕ
    rest = seg r₀ (from + read + 1) (n - (read + 1))

    lent : seg r (from + read + 1) (end - (from + read + 1)) ≡ rest
    lent = let k : end - (from + read + 1) ≡ n - (read + 1) = omega arith in rw k (unread (from + read + 1) (n - (read + 1)) (omega arith) (omega arith))

    end_is : e ≡ term_end edition_one arities rest
    end_is = told_end ∙ rw lent

    length_rest : length rest ≡ n - (read + 1)
    length_rest = length-seg r₀ (from + read + 1) (n - (read + 1)) (omega (arith, S.parts.from_within))

    pub size-within : read + (e + 1) ≤ n
    size-within = omega (arith, end_is, span-le edition_one arities rest 1, length_rest)

    next : gathered edition_one arities x S.most (seg r₀ (from + read) (n - read))
        ≡ kept (eqb (get_or r (from + read) 0) x) (take (kernel_at edition_one arities rest) rest) ++ gathered edition_one arities x (S.most - 1) (seg r₀ (from + (read + (e + 1))) (n - (read + (e + 1))))
    next =
        let w : ℕ = get_or r₀ (from + read) 0 in
        let many : n - read ≡ suc (n - (read + 1)) = omega arith in
        let first : seg r₀ (from + read) (n - read) ≡ w ∷ rest = rw many (seg-cons r₀ (from + read) (n - (read + 1)) (omega (arith, S.parts.from_within))) in
        let place : from + read + 1 + e ≡ from + (read + (e + 1)) = omega arith in
        let count : n - (read + 1) - e ≡ n - (read + (e + 1)) = omega arith in
        let dropped : drop e rest ≡ seg r₀ (from + (read + (e + 1))) (n - (read + (e + 1))) =
        drop-seg r₀ (from + read + 1) (n - (read + 1)) e (omega (arith, size-within)) ∙ rw (place, count) in
        rw first (gathered-entry edition_one arities x S.most w rest (omega (arith, S.enough)) ∙ rw (← end_is, dropped, unread-word h))

    pub entry_passed : (get_or r (from + read) 0 ≡ x → ⊥) → Gathering arities r₀ from n x to r (read + (e + 1)) written
    unfolding kept
    entry_passed d = record {
      parts = S.parts;
      passed = size-within;
      most = S.most - 1;
      enough = omega (arith, S.enough);
      done = S.done;
      ahead = S.ahead ∙ ap (λ (l : List ℕ). S.done ++ l) (next ∙ rw (ne_eqb (get_or r (from + read) 0) x d));
      room = S.room;
      count = S.count;
      fits = omega (arith, S.fits);
    }

    module _ (k : ℕ) (told_kernel : k ≡ kernel_at edition_one arities (seg r (from + read + 1) (end - (from + read + 1)))) where
      kernel_is : k ≡ kernel_at edition_one arities rest
      kernel_is = told_kernel ∙ rw lent

      pub kernel-within : k ≤ e
      kernel-within = omega (arith, kernel_is, end_is, stripped-ended edition_one_proper arities rest 0 0)

      members : take (kernel_at edition_one arities rest) rest ≡ seg r₀ (from + read + 1) k
      members = rw (← kernel_is) (take-seg r₀ (from + read + 1) (n - (read + 1)) k (omega (arith, kernel-within, size-within)))

      pub members-parts : CopyParts r (from + read + 1) k (to + written)
      members-parts = record {
        from_within = rw gathering_long (omega (arith, S.parts.from_within, kernel-within, size-within));
        to_within = rw gathering_long (omega (arith, S.parts.to_within, kernel-within, size-within, S.fits));
        apart = apart_part S.parts.apart (omega arith) (omega (arith, kernel-within, size-within)) (omega arith) (omega (arith, kernel-within, size-within, S.fits));
      }

      pub entry-gathered : get_or r (from + read) 0 ≡ x → {r' : List ℕ} → r' ≡ put r (to + written) (seg r (from + read + 1) k) → Gathering arities r₀ from n x to r' (read + (e + 1)) (written + k)
      unfolding kept
      entry-gathered t f =
          let l : length (seg r₀ (from + read + 1) k) ≡ k = length-seg r₀ (from + read + 1) k (omega (arith, S.parts.from_within, kernel-within, size-within)) in
          let more : gathered edition_one arities x S.most (seg r₀ (from + read) (n - read))
          ≡ seg r₀ (from + read + 1) k ++ gathered edition_one arities x (S.most - 1) (seg r₀ (from + (read + (e + 1))) (n - (read + (e + 1)))) = next ∙ rw (eq-eqb (get_or r (from + read) 0) x t, members) in
          record {
            parts = S.parts;
            passed = size-within;
            most = S.most - 1;
            enough = omega (arith, S.enough);
            done = S.done ++ seg r₀ (from + read + 1) k;
            ahead = S.ahead ∙ ap (λ (u : List ℕ). S.done ++ u) more ∙ sym (append_assoc S.done (seg r₀ (from + read + 1) k) _);
            room = put-after r₀ to S.done (seg r₀ (from + read + 1) k) written S.count S.room
                (rw (unread (from + read + 1) k (omega arith) (omega (arith, kernel-within, size-within))) at f);
            count = omega (arith, length-append S.done (seg r₀ (from + read + 1) k), S.count);
            fits = omega (arith, S.fits, kernel-within);
          }
