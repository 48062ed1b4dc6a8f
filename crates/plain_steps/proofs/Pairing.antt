-- An entry laid out, and the arguments of two sides written in turn, in the order of the code.
use Prim.Native.Nat.{ℕ, suc, ◌+◌, ◌-◌, ◌<◌, ◌≤◌}
use mathlib.Core.Path.{◌≡◌, sym, ap, ◌∙◌}
use mathlib.Core.List.{List, [], ◌++◌, append_assoc, append-nil}
use native.Mathlib.Omega.{arith}
use native.Mathlib.Numerals.{add-one}
use lib.ListN.{length, take, drop, set, length-append, length-set}
use Rattle.room.specs.Room.{seg, put, Within, length-put, length-seg, put-nil, take-seg, drop-seg}
use Rattle.room.specs.Parts.{Apart, CopyParts, apart_part, seg-put, seg-set}
use Rattle.room.specs.Layout.{HEADER}
use Rattle.terms.specs.Bounds.{edition_one, FIRST_UNKNOWN}
use Rattle.terms.specs.Laws.Walk.{span-le}
use Rattle.rows.specs.declared.parts.Rest.{Rest}
use Rattle.rows.specs.declared.first.Subject.{Subject}
use Rattle.rows.specs.Bind.{FinishParts}
use Rattle.rows.specs.Finished.{finish_long}
use Rattle.rows.specs.Terms.Ended.{term_end}
use Rattle.plain_steps.specs.StepParts.{postponed, PostponeParts, PairParts, DecomposeParts, paired, length-paired, decomposed}
use Rattle.binding.proofs.RestCopied.{put-after}

module _ {r₀ : List ℕ} {rest : Rest} {s : Subject} {entry to size next : ℕ} (P : PostponeParts r₀ rest s entry to size next) where
  pub entry_copy : CopyParts (set r₀ entry s.x) s.by s.m (entry + 1)
  entry_copy = record {
    from_within = rw length-set P.by_within;
    to_within = rw length-set (omega (arith, P.parts.parts.by_within));
    apart = apart_part P.by_apart (omega arith) (omega arith) (omega arith) (omega arith);
  }

  module _ {r : List ℕ} (e : r ≡ put (set r₀ entry s.x) (entry + 1) (seg (set r₀ entry s.x) s.by s.m)) where
    pub laid_out : r ≡ postponed r₀ s entry
    unfolding postponed put
    laid_out =
        let same : seg (set r₀ entry s.x) s.by s.m ≡ seg r₀ s.by s.m = seg-set r₀ s.x (apart_part P.by_apart (omega arith) (omega arith) (omega arith) (omega arith)) in
        rw (same, add-one) at e

    pub postpone_long : length r ≡ length r₀
    postpone_long = ap length e ∙ length-put (set r₀ entry s.x) (entry + 1) (seg (set r₀ entry s.x) s.by s.m) ∙ length-set r₀ entry s.x

    pub postpone_parts : FinishParts r rest entry (s.m + 1) to 0 size FIRST_UNKNOWN next
    postpone_parts = finish_long P.parts postpone_long

-- ---- one of each side

module _ (arities : List ℕ) {r₀ : List ℕ} {left n right m to : ℕ} (P : PairParts r₀ left n right m to) where
  -- as the code lends the words
  pub lent : (k c : ℕ) {e : ℕ} → e ≡ term_end edition_one arities (take (k + c - k) (drop k r₀)) → e ≡ term_end edition_one arities (seg r₀ k c)
  unfolding seg
  lent k c f = let j : k + c - k ≡ c = omega arith in rw j at f

  pub lent-within : (k c : ℕ) {e : ℕ} → Within r₀ k c → e ≡ term_end edition_one arities (take (k + c - k) (drop k r₀)) → e ≤ c
  lent-within k c h f = omega (arith, lent k c f, span-le edition_one arities (seg r₀ k c) 1, length-seg r₀ k c h)

  module _ {e : ℕ} (h : e ≤ n) where
    pub left_copy : CopyParts r₀ left e to
    left_copy = record {
      from_within = omega (arith, P.left_within);
      to_within = omega (arith, P.to_within);
      apart = apart_part P.left_apart (omega arith) (omega arith) (omega arith) (omega arith);
    }

    module _ {g : ℕ} (f : g ≤ m) {r₁ : List ℕ} (q : r₁ ≡ put r₀ to (seg r₀ left e)) where
      length-left : length (seg r₀ left e) ≡ e
      length-left = length-seg r₀ left e (omega (arith, P.left_within))

      long : length r₁ ≡ length r₀
      long = ap length q ∙ length-put r₀ to (seg r₀ left e)

      pub right_copy : CopyParts r₁ right g (to + e)
      right_copy = record {
        from_within = rw long (omega (arith, P.right_within));
        to_within = rw long (omega (arith, P.to_within));
        apart = apart_part P.right_apart (omega arith) (omega arith) (omega arith) (omega arith);
      }

      pub both_copied : {r₂ : List ℕ} → r₂ ≡ put r₁ (to + e) (seg r₁ right g) → r₂ ≡ put r₀ to (seg r₀ left e ++ seg r₀ right g)
      both_copied p =
          let l = length-left in
          let same : seg r₁ right g ≡ seg r₀ right g = rw q (seg-put (seg r₀ left e) r₀ (apart_part P.right_apart (omega arith) (omega arith) (omega arith) (omega arith))) in
          put-after r₀ to (seg r₀ left e) (seg r₀ right g) e l q (rw same at p)

-- ---- all of them

pub record Pairing (arities r₀ : List ℕ) (k left n right m to : ℕ) (r : List ℕ) (i l q : ℕ) : Type 0 where
  pub parts : PairParts r₀ left n right m to
  pub passed : i ≤ k
  pub left_passed : l ≤ n
  pub right_passed : q ≤ m
  pub done : List ℕ
  pub ahead : paired edition_one arities k (seg r₀ left n) (seg r₀ right m) ≡ done ++ paired edition_one arities (k - i) (seg r₀ (left + l) (n - l)) (seg r₀ (right + q) (m - q))
  pub room : r ≡ put r₀ to done
  pub count : length done ≡ l + q

pub none_paired : (arities : List ℕ) {r₀ : List ℕ} (k : ℕ) {left n right m to : ℕ} → PairParts r₀ left n right m to → Pairing arities r₀ k left n right m to r₀ 0 0 0
none_paired arities {r₀} k {left} {n} {right} {m} {to} P =
    let a : left + 0 ≡ left = omega arith in
    let c : right + 0 ≡ right = omega arith in
    let d : n - 0 ≡ n = omega arith in
    let e : m - 0 ≡ m = omega arith in
    let f : k - 0 ≡ k = omega arith in
    record {
      parts = P;
      passed = omega arith;
      left_passed = omega arith;
      right_passed = omega arith;
      done = [];
      ahead = rw (a, c, d, e, f);
      room = sym (put-nil r₀ to);
      count = omega arith;
    }

module _ {arities r₀ : List ℕ} {k left n right m to : ℕ} {r : List ℕ} {i l q : ℕ} (S : Pairing arities r₀ k left n right m to r i l q) where
  pub pairing_long : length r ≡ length r₀
  pairing_long = ap length S.room ∙ length-put r₀ to S.done

  unread : (j c : ℕ) → Apart j c to (n + m) → seg r j c ≡ seg r₀ j c
  unread j c a = rw S.room (seg-put S.done r₀ (apart_part a (omega arith) (omega arith) (omega arith) (omega (arith, S.count, S.left_passed, S.right_passed))))

  left_apart : (c : ℕ) → c ≤ n - l → Apart (left + l) c to (n + m)
  left_apart c h = apart_part S.parts.left_apart (omega arith) (omega (arith, S.left_passed)) (omega arith) (omega arith)

  right_apart : (c : ℕ) → c ≤ m - q → Apart (right + q) c to (n + m)
  right_apart c h = apart_part S.parts.right_apart (omega arith) (omega (arith, S.right_passed)) (omega arith) (omega arith)

  pub pair_parts : PairParts r (left + l) (n - l) (right + q) (m - q) (to + l + q)
  pair_parts = record {
    left_within = rw pairing_long (omega (arith, S.parts.left_within, S.left_passed));
    right_within = rw pairing_long (omega (arith, S.parts.right_within, S.right_passed));
    to_within = rw pairing_long (omega (arith, S.parts.to_within, S.left_passed, S.right_passed));
    left_apart = apart_part (left_apart (n - l) (omega arith)) (omega arith) (omega arith) (omega arith) (omega (arith, S.left_passed, S.right_passed));
    right_apart = apart_part (right_apart (m - q) (omega arith)) (omega arith) (omega arith) (omega arith) (omega (arith, S.left_passed, S.right_passed));
    small = rw pairing_long S.parts.small;
  }

  -- the numbers, for `omega`
  pub pairing_room : to + (n + m) ≤ length r₀
  pairing_room = S.parts.to_within

  module _ (h : i < k) {e g : ℕ} (u : e ≡ term_end edition_one arities (seg r (left + l) (n - l))) (v : g ≡ term_end edition_one arities (seg r (right + q) (m - q))) where
    abbrev us : List ℕ
    us = seg r₀ (left + l) (n - l)

    abbrev vs : List ℕ
    vs = seg r₀ (right + q) (m - q)

    e_is : e ≡ term_end edition_one arities us
    e_is = rw (unread (left + l) (n - l) (left_apart (n - l) (omega arith))) at u

    g_is : g ≡ term_end edition_one arities vs
    g_is = rw (unread (right + q) (m - q) (right_apart (m - q) (omega arith))) at v

    pub e-within : l + e ≤ n
    e-within = omega (arith, e_is, S.left_passed, span-le edition_one arities us 1, length-seg r₀ (left + l) (n - l) (omega (arith, S.left_passed, S.parts.left_within)))

    pub g_within : q + g ≤ m
    g_within = omega (arith, g_is, S.right_passed, span-le edition_one arities vs 1, length-seg r₀ (right + q) (m - q) (omega (arith, S.right_passed, S.parts.right_within)))

    abbrev piece : List ℕ
    piece = seg r₀ (left + l) e ++ seg r₀ (right + q) g

    next : paired edition_one arities (k - i) us vs ≡ piece ++ paired edition_one arities (k - (i + 1)) (seg r₀ (left + (l + e)) (n - (l + e))) (seg r₀ (right + (q + g)) (m - (q + g)))
    unfolding paired
    next =
        let a = e-within in
        let c = g_within in
        let one : k - i ≡ suc (k - (i + 1)) = omega arith in
        let p : left + l + e ≡ left + (l + e) = omega arith in
        let w : n - l - e ≡ n - (l + e) = omega arith in
        let p' : right + q + g ≡ right + (q + g) = omega arith in
        let w' : m - q - g ≡ m - (q + g) = omega arith in
        rw (
          one,
          ← e_is,
          ← g_is,
          take-seg r₀ (left + l) (n - l) e (omega arith),
          take-seg r₀ (right + q) (m - q) g (omega arith),
          drop-seg r₀ (left + l) (n - l) e (omega arith),
          drop-seg r₀ (right + q) (m - q) g (omega arith),
          p,
          w,
          p',
          w',
        )

    pub paired-more : {r' : List ℕ} → r' ≡ put r (to + l + q) (seg r (left + l) e ++ seg r (right + q) g) → Pairing arities r₀ k left n right m to r' (i + 1) (l + e) (q + g)
    paired-more f =
        let a = e-within in
        let c = g_within in
        let place : to + l + q ≡ to + (l + q) = omega arith in
        let x : length (seg r₀ (left + l) e) ≡ e = length-seg r₀ (left + l) e (omega (arith, S.parts.left_within)) in
        let y : length (seg r₀ (right + q) g) ≡ g = length-seg r₀ (right + q) g (omega (arith, S.parts.right_within)) in
        record {
          parts = S.parts;
          passed = omega arith;
          left_passed = a;
          right_passed = c;
          done = S.done ++ piece;
          ahead = S.ahead ∙ rw next (sym (append_assoc S.done piece _));
          room = put-after r₀ to S.done piece (l + q) S.count S.room
              (rw (place, unread (left + l) e (left_apart e (omega arith)), unread (right + q) g (right_apart g (omega arith))) at f);
          count = omega (arith, length-append S.done piece, length-append (seg r₀ (left + l) e) (seg r₀ (right + q) g), S.count);
        }

  pub all-paired : k ≤ i → (l + q ≡ length (paired edition_one arities k (seg r₀ left n) (seg r₀ right m))) × (r ≡ put r₀ to (paired edition_one arities k (seg r₀ left n) (seg r₀ right m)))
  unfolding paired
  all-paired h =
      let z : k - i ≡ 0 = omega arith in
      let e : paired edition_one arities k (seg r₀ left n) (seg r₀ right m) ≡ S.done = S.ahead ∙ rw z (append-nil S.done) in
      (rw e (sym S.count), rw e S.room)

-- ---- and the rest of the row

module _ (arities : List ℕ) {r₀ : List ℕ} {rest : Rest} (k : ℕ) {left n right m to size next : ℕ} (P : DecomposeParts r₀ rest left n right m to size next) where
  abbrev arguments : List ℕ
  arguments = paired edition_one arities k (seg r₀ left n) (seg r₀ right m)

  arguments-within : length arguments ≤ size
  arguments-within =
      omega (arith, length-paired edition_one arities k (seg r₀ left n) (seg r₀ right m), length-seg r₀ left n P.pairs.left_within, length-seg r₀ right m P.pairs.right_within, P.fits)

  module _ {w : ℕ} {r : List ℕ} (e : w ≡ length arguments) (f : r ≡ put r₀ (to + HEADER) arguments) where
    pub decompose_parts : FinishParts r rest left 0 to w size FIRST_UNKNOWN next
    decompose_parts =
        let F = finish_long P.parts (ap length f ∙ length-put r₀ (to + HEADER) arguments) in
        record {
          parts = F.parts;
          written_within = rw e arguments-within;
          size_small = F.size_small;
          unknown = F.unknown;
          bindings_small = F.bindings_small;
          next_small = F.next_small;
        }

    pub arguments-written : r ≡ decomposed edition_one arities r₀ k left n right m to
    unfolding decomposed
    arguments-written = f
