-- The loop over a pile's entries: some are read, and what was wanted of them is written.
use Rattle.std.proofs.Common.{Option, Some, None}
use Prim.Native.Nat.{ℕ, suc, ◌+◌, ◌-◌, ◌<◌, ◌≤◌}
use mathlib.Core.Path.{◌≡◌, sym, ap, ◌∙◌}
use mathlib.Core.List.{List, [], ◌∷◌, ◌++◌, append_assoc, append-nil}
use mathlib.Core.Bool.{true, false}
use native.Mathlib.Omega.{arith}
use native.Mathlib.Numerals.{add-one}
use lib.ListN.{length, take, drop, get_or}
use Rattle.room.specs.Room.{seg, put, length-put, length-seg, seg-zero, seg-cons, take-seg, drop-seg}
use Rattle.room.specs.Parts.{ReplaceParts, apart_part, get_or-put, seg-put}
use Rattle.room.specs.Replaced.{replaced, replaced-nil, replaced-append}
use Rattle.replace.specs.Fitting.{fitting, told, further}
use Rattle.terms.specs.Bounds.{edition_one}
use Rattle.terms.specs.Laws.Walk.{span-le}
use Rattle.rows.specs.declared.parts.Part.{Part}
use Rattle.rows.specs.Terms.Ended.{term_end}
use Rattle.rows.specs.Pile.{wants, kept, selected, selection, selection-entry}
use Rattle.rows.specs.Wrote.{Wrote, wrote_nothing, wrote_replaced, wrote_more, wrote_length, full_more, done-fits, done-length}

pub record Passing (arities r₀ : List ℕ) (part : Part) (from n x by m to capacity : ℕ) (r : List ℕ) (read written : ℕ) : Type 0 where
  pub parts : ReplaceParts r₀ from n by m to capacity
  pub passed : read ≤ n
  pub done : List ℕ
  pub left : selection edition_one arities part x (seg r₀ from n) ≡ done ++ selection edition_one arities part x (seg r₀ (from + read) (n - read))
  pub wrote : Wrote r₀ to capacity (replaced x (seg r₀ by m) done) (Some written) r

pub record Numbers (r₀ : List ℕ) (from n to capacity : ℕ) (r : List ℕ) (read written : ℕ) : Type 0 where
  pub from_within : from + n ≤ length r₀
  pub to_within : to + capacity ≤ length r₀
  pub long : length r ≡ length r₀
  pub passed : read ≤ n
  pub written_within : written ≤ capacity

pub none_passed : (arities : List ℕ) {r₀ : List ℕ} (part : Part) {from n : ℕ} (x : ℕ) {by m to capacity : ℕ} → ReplaceParts r₀ from n by m to capacity
    → Passing arities r₀ part from n x by m to capacity r₀ 0 0
none_passed arities {r₀} part {from} {n} x {by} {m} {to} {capacity} P =
    let e : from + 0 ≡ from = omega arith in
    let f : n - 0 ≡ n = omega arith in
    record {
      parts = P;
      passed = omega arith;
      done = [];
      left = rw (e, f);
      wrote = rw replaced-nil (wrote_nothing r₀ to capacity);
    }

module _ {arities r₀ : List ℕ} {part : Part} {from n x by m to capacity : ℕ} {r : List ℕ} {read written : ℕ}
    (S : Passing arities r₀ part from n x by m to capacity r read written) where
  abbrev ws : List ℕ
  ws = seg r₀ by m

  abbrev choice : List ℕ → List ℕ
  choice l = selection edition_one arities part x l

  pub same_length : length r ≡ length r₀
  same_length = wrote_length S.wrote

  pub length-after : {r' : List ℕ} (i : ℕ) (vs : List ℕ) → r' ≡ put r i vs → length r' ≡ length r₀
  length-after i vs e = ap length e ∙ length-put r i vs ∙ same_length

  pub written_within : written ≤ capacity
  written_within = omega (arith, done-fits S.wrote, done-length S.wrote)

  unread : (k l : ℕ) → from ≤ k → k + l ≤ from + n → seg r k l ≡ seg r₀ k l
  unread k l h f =
      rw S.wrote.room (seg-put S.wrote.out r₀ (apart_part S.parts.from_apart (omega arith) (omega arith) (omega arith) (omega (arith, S.wrote.within))))

  unread_by : seg r by m ≡ ws
  unread_by =
      rw S.wrote.room (seg-put S.wrote.out r₀ (apart_part S.parts.by_apart (omega arith) (omega arith) (omega arith) (omega (arith, S.wrote.within))))

  unread-word : read < n → get_or r (from + read) 0 ≡ get_or r₀ (from + read) 0
  unread-word h =
      rw S.wrote.room (get_or-put S.wrote.out r₀ (apart_part S.parts.from_apart (omega arith) (omega arith) (omega arith) (omega (arith, S.wrote.within))))

  pub all_passed : n ≤ read → Wrote r₀ to capacity (replaced x ws (choice (seg r₀ from n))) (Some written) r
  unfolding selected
  all_passed h =
      let e : n - read ≡ 0 = omega arith in
      let f : choice (seg r₀ from n) ≡ S.done = S.left ∙ rw (e, seg-zero) (append-nil S.done) in
      rw f S.wrote

  -- the numbers, for `omega`
  pub numbers : Numbers r₀ from n to capacity r read written
  numbers = record {
    from_within = S.parts.from_within;
    to_within = S.parts.to_within;
    long = same_length;
    passed = S.passed;
    written_within = written_within;
  }

  -- an entry, whose term ends after e words
  module _ (h : read < n) {end : ℕ} (last : end ≡ from + n) (e : ℕ) (told_end : e ≡ term_end edition_one arities (seg r (from + read + 1) (end - (from + read + 1)))) where
    abbrev size : ℕ
    size = e + 1

    abbrev rest : List ℕ
    rest = seg r₀ (from + read + 1) (n - (read + 1))

    end_is : e ≡ term_end edition_one arities rest
    end_is =
        let k : end - (from + read + 1) ≡ n - (read + 1) = omega arith in
        told_end ∙ rw (k, unread (from + read + 1) (n - (read + 1)) (omega arith) (omega arith))

    pub size-within : read + (e + 1) ≤ n
    size-within =
        omega (arith, end_is, span-le edition_one arities rest 1, length-seg r₀ (from + read + 1) (n - (read + 1)) (omega (arith, S.parts.from_within)))

    pub entry-parts : ReplaceParts r (from + read) (e + 1) by m (to + written) (capacity - written)
    entry-parts = record {
      from_within = rw same_length (omega (arith, size-within, S.parts.from_within));
      by_within = rw same_length S.parts.by_within;
      to_within = rw same_length (omega (arith, written_within, S.parts.to_within));
      from_apart = apart_part S.parts.from_apart (omega arith) (omega (arith, size-within)) (omega arith) (omega (arith, written_within));
      by_apart = apart_part S.parts.by_apart (omega arith) (omega arith) (omega arith) (omega (arith, written_within));
    }

    next : choice (seg r₀ (from + read) (n - read))
        ≡ kept (wants part (get_or r (from + read) 0) x) (seg r₀ (from + read) size) ++ choice (seg r₀ (from + (read + size)) (n - (read + size)))
    next =
        let w : ℕ = get_or r₀ (from + read) 0 in
        let many : n - read ≡ suc (n - (read + 1)) = omega arith in
        let one : size ≡ suc e = add-one e in
        let first : seg r₀ (from + read) (n - read) ≡ w ∷ rest = rw many (seg-cons r₀ (from + read) (n - (read + 1)) (omega (arith, S.parts.from_within))) in
        let taken : w ∷ take e rest ≡ seg r₀ (from + read) size =
        rw (one, seg-cons r₀ (from + read) e (omega (arith, S.parts.from_within)), take-seg r₀ (from + read + 1) (n - (read + 1)) e (omega (arith, size-within))) in
        let place : from + read + 1 + e ≡ from + (read + size) = omega arith in
        let count : n - (read + 1) - e ≡ n - (read + size) = omega arith in
        let dropped : drop e rest ≡ seg r₀ (from + (read + size)) (n - (read + size)) =
        drop-seg r₀ (from + read + 1) (n - (read + 1)) e (omega (arith, size-within)) ∙ rw (place, count) in
        rw first (selection-entry edition_one arities part x w rest ∙ rw (← end_is, taken, dropped, unread-word h))

    pub entry_skipped : wants part (get_or r (from + read) 0) x ≡ false → Passing arities r₀ part from n x by m to capacity r (read + (e + 1)) written
    unfolding kept
    entry_skipped f = record {
      parts = S.parts;
      passed = size-within;
      done = S.done;
      left = S.left ∙ ap (λ l. S.done ++ l) (next ∙ rw f);
      wrote = S.wrote;
    }

    module _ (t : wants part (get_or r (from + read) 0) x ≡ true) {a : Option ℕ} {r' : List ℕ}
        (tells : a ≡ told (capacity - written) (replaced x (seg r by m) (seg r (from + read) (e + 1))))
        (room : r' ≡ put r (to + written) (fitting x (seg r by m) (capacity - written) (seg r (from + read) (e + 1)))) where
      piece : Wrote r (to + written) (capacity - written) (replaced x ws (seg r₀ (from + read) size)) a r'
      piece =
          rw (unread (from + read) size (omega arith) (omega (arith, size-within)), unread_by) at
          (wrote_replaced x (seg r by m) (seg r (from + read) size) tells room)

      left-more : choice (seg r₀ from n) ≡ (S.done ++ seg r₀ (from + read) size) ++ choice (seg r₀ (from + (read + size)) (n - (read + size)))
      unfolding kept
      left-more =
          let n' : choice (seg r₀ (from + read) (n - read)) ≡ seg r₀ (from + read) size ++ choice (seg r₀ (from + (read + size)) (n - (read + size))) = next ∙ rw t in
          S.left ∙ ap (λ (l : List ℕ). S.done ++ l) n' ∙ sym (append_assoc S.done (seg r₀ (from + read) size) (choice (seg r₀ (from + (read + size)) (n - (read + size)))))

      pub entry-written : (k : ℕ) → a ≡ Some k → Passing arities r₀ part from n x by m to capacity r' (read + (e + 1)) (written + k)
      unfolding further
      entry-written k q = record {
        parts = S.parts;
        passed = size-within;
        done = S.done ++ seg r₀ (from + read) size;
        left = left-more;
        wrote = rw replaced-append (wrote_more S.wrote (rw q at piece));
      }

      pub entry_full : a ≡ None → Wrote r₀ to capacity (replaced x ws (choice (seg r₀ from n))) None r'
      unfolding further
      entry_full q =
          rw (left-more, replaced-append x ws (S.done ++ seg r₀ (from + read) size) (choice (seg r₀ (from + (read + size)) (n - (read + size)))), replaced-append x ws S.done (seg r₀ (from + read) size))
          (full_more _ (wrote_more S.wrote (rw q at piece)))
