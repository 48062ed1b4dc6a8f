-- What a turn of the loop of `replace` does, said of lists: a run of words that are no x, then an x.
use Rattle.std.proofs.Common.{Option, Some, None}
use mathlib.Core.Path.{◌≡◌, refl, sym, ap, ◌∙◌}
use mathlib.Core.List.{List, [], ◌∷◌, ◌++◌, append-nil}
use Prim.Native.Nat.{ℕ, suc, ◌+◌, ◌-◌, ◌≤◌, ◌<◌, min}
use native.Mathlib.Omega.{arith}
use native.Mathlib.Decide.{dec_lt}
use lib.ListN.{length, get_or, length-append}
use Rattle.room.specs.Room.{seg, put, length-put, length-seg, seg-zero, seg-append, seg-cons, take-seg, get_or-seg, put-nil, put-put}
use Rattle.room.specs.Parts.{CopyParts, ReplaceParts, apart_part, get_or-put, seg-put}
use Rattle.room.specs.Replaced.{image, replaced, before, image_same, image_other, replaced-nil, replaced-cons, replaced-append, replaced-before, length_before, take-before, get_or-before}
use Rattle.replace.specs.Fitting.{fitting, told, fitting-all, fitting_none, fitting-append, told_of_le, told_of_lt}

-- i of the n words are read, and their images, k words, are written
pub record Replacing (r₀ : List ℕ) (from n x by m to capacity : ℕ) (r : List ℕ) (i k : ℕ) : Type 0 where
  pub parts : ReplaceParts r₀ from n by m to capacity
  pub room : r ≡ put r₀ to (replaced x (seg r₀ by m) (seg r₀ from i))
  pub count : length (replaced x (seg r₀ by m) (seg r₀ from i)) ≡ k
  pub within : k ≤ capacity
  pub passed : i ≤ n
  pub long : length r ≡ length r₀

-- what `replace` ensures
abbrev pub Ends : List ℕ → (from n x by m to capacity : ℕ) → Option ℕ → List ℕ → Type 0
Ends r₀ from n x by m to capacity answer r =
    (answer ≡ told capacity (replaced x (seg r₀ by m) (seg r₀ from n))) × (r ≡ put r₀ to (fitting x (seg r₀ by m) capacity (seg r₀ from n)))

pub none_replaced : {r₀ : List ℕ} {from n x by m to capacity : ℕ} → ReplaceParts r₀ from n by m to capacity → Replacing r₀ from n x by m to capacity r₀ 0 0
none_replaced P = record {
  parts = P;
  room = rw (seg-zero, replaced-nil, put-nil);
  count = rw (seg-zero, replaced-nil);
  within = omega arith;
  passed = omega arith;
  long = refl;
}

module _ {r₀ r : List ℕ} {from n x by m to capacity i k : ℕ} (S : Replacing r₀ from n x by m to capacity r i k) where
  abbrev ws : List ℕ
  ws = seg r₀ by m

  abbrev out : List ℕ
  out = replaced x (seg r₀ by m) (seg r₀ from i)

  -- what is still to be read is as it was
  unread : (l : ℕ) → i + l ≤ n → seg r (from + i) l ≡ seg r₀ (from + i) l
  unread l h =
      rw S.room (seg-put out r₀ (rw S.count (apart_part S.parts.from_apart (omega arith) (omega arith) (omega arith) (omega arith))))

  unread-word : i < n → get_or r (from + i) 0 ≡ get_or r₀ (from + i) 0
  unread-word h =
      rw S.room (get_or-put out r₀ (rw S.count (apart_part S.parts.from_apart (omega arith) (omega arith) (omega arith) (omega arith))))

  unread_by : seg r by m ≡ ws
  unread_by =
      rw S.room (seg-put out r₀ (rw S.count (apart_part S.parts.by_apart (omega arith) (omega arith) (omega arith) (omega arith))))

  -- j words more are read, and u written for them
  extend : (r' u : List ℕ) (j : ℕ) → i + j ≤ n → replaced x ws (seg r₀ (from + i) j) ≡ u → length u ≤ capacity - k
      → r' ≡ put r (to + k) u → Replacing r₀ from n x by m to capacity r' (i + j) (k + length u)
  extend r' u j h e f q =
      let more : replaced x ws (seg r₀ from (i + j)) ≡ out ++ u = rw (seg-append, replaced-append, e) in
      record {
        parts = S.parts;
        room = rw (q, more, S.room, ← put-put out r₀ u to, S.count);
        count = rw more (omega (arith, length-append out u, S.count));
        within = omega (arith, S.within);
        passed = h;
        long = rw (q, length-put) S.long;
      }

  pub all-replaced : n ≤ i → Ends r₀ from n x by m to capacity (Some k) r
  all-replaced h =
      let e : i ≡ n = omega (arith, S.passed) in
      let c : length (replaced x ws (seg r₀ from n)) ≡ k = rw e at S.count in
      let f : length (replaced x ws (seg r₀ from n)) ≤ capacity = omega (arith, S.within) in
      (rw (told_of_le capacity (replaced x ws (seg r₀ from n)) f, c), rw (fitting-all x ws capacity (seg r₀ from n) f) (rw e at S.room))

  -- ---- a run of l words at most, copied up to the first x

  module _ {l : ℕ} (bound : l ≡ min (n - i) (capacity - k)) where
    pub run_parts : CopyParts r (from + i) l (to + k)
    run_parts = record {
      from_within = omega (arith, S.parts.from_within, S.passed, S.long);
      to_within = omega (arith, S.parts.to_within, S.within, S.long);
      apart = apart_part S.parts.from_apart (omega arith) (omega (arith, S.passed)) (omega arith) (omega (arith, S.within));
    }

    module _ {j : ℕ} (length_run : j ≡ length (before x (seg r (from + i) l))) where
      run_same : seg r (from + i) l ≡ seg r₀ (from + i) l
      run_same = unread l (omega (arith, S.passed))

      run_within : j ≤ l
      run_within =
          omega (arith, length_before x (seg r (from + i) l), length-seg r (from + i) l run_parts.from_within)

      run_read : seg r₀ (from + i) j ≡ before x (seg r (from + i) l)
      run_read =
          sym (take-seg r₀ (from + i) l j run_within)
          ∙ rw (← run_same, length_run) (take-before x (seg r (from + i) l))

      pub run_copied : (r' : List ℕ) → r' ≡ put r (to + k) (before x (seg r (from + i) l)) → Replacing r₀ from n x by m to capacity r' (i + j) (k + j)
      run_copied r' q =
          rw (← length_run) at
          (extend r' (before x (seg r (from + i) l)) j (omega (arith, run_within, S.passed)) (rw run_read (replaced-before x ws (seg r (from + i) l)))
          (omega (arith, run_within)) q)

      -- it ended before the last word and not at an x: the capacity is reached
      run_full : i + j < n → (get_or r₀ (from + (i + j)) 0 ≡ x → ⊥) → capacity ≤ k + j
      run_full h d = by_order (dec_lt j l)
        where
          by_order : Dec (j < l) → capacity ≤ k + j
          by_order (yes e) =
              let f : length (before x (seg r (from + i) l)) < length (seg r (from + i) l) =
              omega (arith, length-seg r (from + i) l run_parts.from_within) in
              let g : from + (i + j) ≡ from + i + j = omega arith in
              absurd (d (rw (g, ← get_or-seg r₀ (from + i) l j e, ← run_same, length_run) (get_or-before x (seg r (from + i) l) f)))
          by_order (no e) = omega (arith, S.within)

  -- ---- a word that ends a run

  pub same_parts : m ≤ capacity - k → CopyParts r by m (to + k)
  same_parts f = record {
    from_within = omega (arith, S.parts.by_within, S.long);
    to_within = omega (arith, S.parts.to_within, S.within, S.long);
    apart = apart_part S.parts.by_apart (omega arith) (omega arith) (omega arith) (omega (arith, S.within));
  }

  module _ (h : i < n) where
    abbrev word : ℕ
    word = get_or r₀ (from + i) 0

    abbrev rest : List ℕ
    rest = seg r₀ (from + i + 1) (n - (i + 1))

    whole : seg r₀ from n ≡ seg r₀ from i ++ (word ∷ rest)
    whole =
        let e : n ≡ i + suc (n - (i + 1)) = omega arith in
        ap (seg r₀ from) e
        ∙ seg-append r₀ from i (suc (n - (i + 1)))
        ∙ ap (λ (s : List ℕ). seg r₀ from i ++ s) (seg-cons r₀ (from + i) (n - (i + 1)) (omega (arith, S.parts.from_within)))

    -- its image does not fit
    stop : capacity - k < length (image x ws word) → Ends r₀ from n x by m to capacity None r
    stop f =
        let u : List ℕ = image x ws word in
        let v : List ℕ = replaced x ws rest in
        let e : replaced x ws (seg r₀ from n) ≡ out ++ (u ++ v) = rw (whole, replaced-append, replaced-cons) in
        let longer : capacity < length (replaced x ws (seg r₀ from n)) =
        rw e (omega (arith, length-append out (u ++ v), length-append u v, S.count)) in
        let before_word : fitting x ws capacity (seg r₀ from n) ≡ out ++ fitting x ws (capacity - length out) (word ∷ rest) =
        rw whole (fitting-append x ws capacity (seg r₀ from i) (word ∷ rest) (omega (arith, S.count, S.within))) in
        let stops : fitting x ws capacity (seg r₀ from n) ≡ out =
        rw (before_word, S.count, fitting_none x ws (capacity - k) word rest f) (append-nil out) in
        (rw (told_of_lt capacity (replaced x ws (seg r₀ from n)) longer), rw stops S.room)

    other_full : (get_or r (from + i) 0 ≡ x → ⊥) → capacity ≤ k → Ends r₀ from n x by m to capacity None r
    other_full d f = stop (rw (image_other x ws word (rw (unread-word h) at d)) (omega arith))

    pub same_full : get_or r (from + i) 0 ≡ x → capacity - k < m → Ends r₀ from n x by m to capacity None r
    same_full e f =
        stop (rw (image_same x ws word (rw (unread-word h) at e), length-seg r₀ by m S.parts.by_within) f)

    pub same_copied : (r' : List ℕ) → get_or r (from + i) 0 ≡ x → m ≤ capacity - k → r' ≡ put r (to + k) (seg r by m)
        → Replacing r₀ from n x by m to capacity r' (i + 1) (k + m)
    same_copied r' e f q =
        let l : length ws ≡ m = length-seg r₀ by m S.parts.by_within in
        let one : seg r₀ (from + i) 1 ≡ word ∷ [] =
        seg-cons r₀ (from + i) 0 (omega (arith, S.parts.from_within)) ∙ rw seg-zero in
        let image_one : replaced x ws (seg r₀ (from + i) 1) ≡ ws =
        rw (one, replaced-cons, replaced-nil, append-nil) (image_same x ws word (rw (unread-word h) at e)) in
        rw l at (extend r' ws 1 (omega arith) image_one (omega arith) (rw unread_by at q))

-- a run that ended before the last word and not at an x
pub run_stopped : {r₀ r r' : List ℕ} {from n x by m to capacity i k l j : ℕ} → Replacing r₀ from n x by m to capacity r i k
    → l ≡ min (n - i) (capacity - k) → j ≡ length (before x (seg r (from + i) l))
    → r' ≡ put r (to + k) (before x (seg r (from + i) l)) → i + j < n → (get_or r' (from + (i + j)) 0 ≡ x → ⊥) → Ends r₀ from n x by m to capacity None r'
run_stopped S bound length_run q h d =
    let S' = run_copied S bound length_run _ q in
    other_full S' h d (run_full S bound length_run h (λ e. d (unread-word S' h ∙ e)))
