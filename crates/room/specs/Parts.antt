-- Parts of a room that lie apart: one ends before the other begins. What is put into the one changes nothing of the other.
--
-- In order: `Apart` and its laws; rows of one width; the frame, for a word, a part and another `put`; and the records of
-- where the parts of a copy and of a replacement lie, which the functions of this crate require.
use Rattle.std.specs.Prelude.{◌≡◌, refl, List, [], ◌∷◌, ℕ, suc, ◌+◌, ◌*◌, ◌≤◌, ◌<◌, length, drop, get_or, set}
use Rattle.std.proofs.Common.{ap, ◌∙◌, arith, suc-mul, mul-le-mul_right, length-take, length-drop, get_or-drop, get_or-take, get_or-set_other, ext_get_or}
use Rattle.std.proofs.lemmas.List.{set_comm}
use Rattle.room.specs.Room.{seg, put, Within, length-put, set-put-before}

-- the n words at k and the m words at i
pub data Apart (k n i m : ℕ) : Type 0 where
  earlier : k + n ≤ i → Apart k n i m
  later : i + m ≤ k → Apart k n i m

-- a part of each
pub apart_part : {k n i m k' n' i' m' : ℕ} → Apart k n i m → k ≤ k' → k' + n' ≤ k + n → i ≤ i' → i' + m' ≤ i + m → Apart k' n' i' m'
apart_part (earlier h) a b c d = earlier (omega arith)
apart_part (later h) a b c d = later (omega arith)

-- ---- rows of w words, one after the other

pub row_within : (w : ℕ) {i rows n : ℕ} → i < rows → rows * w ≤ n → i * w + w ≤ n
row_within w {i} h f = omega (arith, suc-mul i w, mul-le-mul_right w h)

-- ---- the frame: what is put apart from it leaves a word and a part as they were

pub get_or-put : (vs l : List ℕ) {i j : ℕ} → Apart j 1 i (length vs) → get_or (put l i vs) j 0 ≡ get_or l j 0
unfolding put
get_or-put [] l a = refl
get_or-put (v ∷ vs) l {i} {j} (earlier h) = get_or-put vs (set l i v) (earlier (omega arith)) ∙ get_or-set_other l i j v 0 (omega arith)
get_or-put (v ∷ vs) l {i} {j} (later h) = get_or-put vs (set l i v) (later (omega arith)) ∙ get_or-set_other l i j v 0 (omega arith)

pub seg-put : (vs l : List ℕ) {i k n : ℕ} → Apart k n i (length vs) → seg (put l i vs) k n ≡ seg l k n
unfolding seg
seg-put vs l {i} {k} {n} a =
    ext_get_or 0 _ _ (simp (length-take, length-drop, length-put))
    (λ j h.
    let e : j < n = omega (arith, length-take n (drop k (put l i vs))) in
    let same : get_or (put l i vs) (k + j) 0 ≡ get_or l (k + j) 0 =
    get_or-put vs l (apart_part a (omega arith) (omega arith) (omega arith) (omega arith)) in
    rw (get_or-take n (drop k (put l i vs)) j 0 e, get_or-take n (drop k l) j 0 e, get_or-drop k (put l i vs) j 0, get_or-drop k l j 0) same)

pub seg-set : (l : List ℕ) (v : ℕ) {i k n : ℕ} → Apart k n i 1 → seg (set l i v) k n ≡ seg l k n
unfolding put
seg-set l v a = seg-put (v ∷ []) l a

pub set-put_apart : (vs l : List ℕ) (w : ℕ) {i k : ℕ} → Apart k 1 i (length vs) → set (put l i vs) k w ≡ put (set l k w) i vs
unfolding put
set-put_apart vs l w {i} {k} (earlier h) = set-put-before vs l i k w (omega arith)
set-put_apart [] l w (later h) = refl
set-put_apart (v ∷ vs) l w {i} {k} (later h) =
    set-put_apart vs (set l i v) w (later (omega arith)) ∙ ap (λ (r : List ℕ). put r (suc i) vs) (set_comm l i k v w (omega arith))

-- two puts that lie apart, in either order
pub put_comm : (us vs l : List ℕ) {i k : ℕ} → Apart k (length us) i (length vs) → put (put l i vs) k us ≡ put (put l k us) i vs
unfolding put
put_comm [] vs l a = refl
put_comm (u ∷ us) vs l {i} {k} a =
    ap (λ (r : List ℕ). put r (suc k) us) (set-put_apart vs l u (apart_part a (omega arith) (omega arith) (omega arith) (omega arith)))
    ∙ put_comm us vs (set l k u) (apart_part a (omega arith) (omega arith) (omega arith) (omega arith))

-- ---- where the parts lie

-- n words are copied from one place to another
pub record CopyParts (l : List ℕ) (from n to : ℕ) : Type 0 where
  pub from_within : Within l from n
  pub to_within : Within l to n
  pub apart : Apart from n to n

-- n words are copied to another place, in at most capacity words; for some of them the m words at by are written
pub record ReplaceParts (l : List ℕ) (from n by m to capacity : ℕ) : Type 0 where
  pub from_within : Within l from n
  pub by_within : Within l by m
  pub to_within : Within l to capacity
  pub from_apart : Apart from n to capacity
  pub by_apart : Apart by m to capacity
