-- What a turn of the loops of `copy_before` does, said of lists: words copied inside one room, up to the first x.
use mathlib.Core.Path.{◌≡◌, sym, ◌∙◌}
use mathlib.Core.Bool.{true}
use mathlib.Core.List.{List, [], ◌∷◌, ◌++◌, append_assoc, append-nil}
use Prim.Native.Nat.{ℕ, suc, ◌+◌, ◌-◌, ◌≤◌, ◌<◌}
use native.Mathlib.Omega.{arith}
use lib.ListN.{length, get_or, set}
use Rattle.room.specs.Room.{seg, put, length-seg, seg-zero, seg-append, seg-cons, put-nil, put_one}
use Rattle.room.specs.Parts.{CopyParts, apart_part}
use Rattle.room.specs.Replaced.{clear, before, clear-nil, clear_other, before_same, before-append}
use Rattle.room.proofs.Copying.{Copying, none_copied, unread, unread-part, part_moved}

-- the words before the first x are those copied, and those before the first x of what is left
pub record Running (r₀ : List ℕ) (from n x to : ℕ) (r : List ℕ) (j : ℕ) : Type 0 where
  pub parts : CopyParts r₀ from n to
  pub copied : Copying r₀ r₀ from n to r j
  pub left : before x (seg r₀ from n) ≡ seg r₀ from j ++ before x (seg r₀ (from + j) (n - j))

-- what `copy_before` ensures
abbrev pub Ran : List ℕ → (from n x to : ℕ) → ℕ → List ℕ → Type 0
Ran r₀ from n x to answer r = (answer ≡ length (before x (seg r₀ from n))) × (r ≡ put r₀ to (before x (seg r₀ from n)))

pub none_run : {r₀ : List ℕ} {from n x to : ℕ} → CopyParts r₀ from n to → Running r₀ from n x to r₀ 0
none_run {r₀} {from} {n} {x} {to} P =
    let e : from + 0 ≡ from = omega arith in
    let f : n - 0 ≡ n = omega arith in
    record { parts = P; copied = none_copied r₀ r₀ from n to; left = rw (seg-zero, e, f) }

module _ {r₀ r : List ℕ} {from n x to j : ℕ} (R : Running r₀ from n x to r j) where
  ended : before x (seg r₀ from n) ≡ seg r₀ from j → Ran r₀ from n x to j r
  ended e =
      (rw e (sym (length-seg r₀ from j (omega (arith, R.parts.from_within, R.copied.count)))), rw e R.copied.room)

  pub all_run : n ≤ j → Ran r₀ from n x to j r
  unfolding before
  all_run h =
      let e : n - j ≡ 0 = omega arith in
      ended (R.left ∙ rw (e, seg-zero) (append-nil (seg r₀ from j)))

  -- ---- k words at one go

  pub part-parts : (k : ℕ) → j + k ≤ n → CopyParts r (from + j) k (to + j)
  part-parts k h = record {
    from_within = omega (arith, R.parts.from_within, R.copied.long);
    to_within = omega (arith, R.parts.to_within, R.copied.long);
    apart = apart_part R.parts.apart (omega arith) (omega arith) (omega arith) (omega arith);
  }

  -- none of them is x, and they are copied
  pub part_runs : (k : ℕ) (r' : List ℕ) → j + k ≤ n → clear x (seg r (from + j) k) ≡ true → r' ≡ put r (to + j) (seg r (from + j) k)
      → Running r₀ from n x to r' (j + k)
  part_runs k r' h c q =
      let p : List ℕ = seg r₀ (from + j) k in
      let rest : List ℕ = seg r₀ (from + (j + k)) (n - (j + k)) in
      let same : seg r (from + j) k ≡ p = unread-part R.parts R.copied k h in
      let e : n - j ≡ k + (n - (j + k)) = omega arith in
      let f : from + j + k ≡ from + (j + k) = omega arith in
      record {
        parts = R.parts;
        copied = part_moved R.parts R.copied k r' h q;
        left = R.left
            ∙ rw (e, seg-append r₀ (from + j) k (n - (j + k)), f, before-append x p rest (rw same at c), seg-append r₀ from j k)
            (sym (append_assoc (seg r₀ from j) p (before x rest)));
      }

  -- one of them is x, and none is copied
  pub part_stays : (r' : List ℕ) → r' ≡ put r (to + j) [] → Running r₀ from n x to r' j
  part_stays r' q = rw (q, put-nil) R

  -- ---- one word

  module _ (h : j < n) where
    same_word : get_or r (from + j) 0 ≡ get_or r₀ (from + j) 0
    same_word = unread R.parts R.copied h

    -- what is left: the word that is read, and the others
    next : seg r₀ (from + j) (n - j) ≡ get_or r₀ (from + j) 0 ∷ seg r₀ (from + j + 1) (n - (j + 1))
    next =
        let e : n - j ≡ suc (n - (j + 1)) = omega arith in
        rw e (seg-cons r₀ (from + j) (n - (j + 1)) (omega (arith, R.parts.from_within)))

    pub run_stops : get_or r (from + j) 0 ≡ x → Ran r₀ from n x to j r
    run_stops e =
        ended
        (R.left
        ∙ rw (next, before_same x (get_or r₀ (from + j) 0) (seg r₀ (from + j + 1) (n - (j + 1))) (sym same_word ∙ e))
        (append-nil (seg r₀ from j)))

    pub run_goes_on : (get_or r (from + j) 0 ≡ x → ⊥) → Running r₀ from n x to (set r (to + j) (get_or r (from + j) 0)) (j + 1)
    run_goes_on d =
        let w : ℕ = get_or r (from + j) 0 in
        let one : seg r (from + j) 1 ≡ w ∷ [] =
        seg-cons r (from + j) 0 (omega (arith, R.parts.from_within, R.copied.long)) ∙ rw seg-zero in
        part_runs 1 _ (omega arith) (rw (one, clear_other x w [] d, clear-nil)) (rw (one, put_one))
