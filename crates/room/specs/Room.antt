-- A room is a list of words. `seg l k n` is the n words that stand at place k of l; `put l i vs` is l with the words vs
-- written at place i. A part of a lent slice, `&room[a..e]`, is `seg room a (e - a)`, and a store is `put` of one word.
--
-- In order: both by `take` and `drop`; lengths; a part that is empty, whole, cut in two, one word longer at either end; a
-- part of a part, and of two lists joined; words put one after the other, over others and inside others; a part read where
-- words were put.
--
-- Not here: what is put apart from what is read or put elsewhere (`Parts`); laws of `take`, `drop`, `set`, `get_or` (`lib.Seq`).
-- `put` keeps the length whatever is put, so a law has a condition only where it reads or writes up to the end of a part.
use Rattle.std.specs.Prelude.{◌≡◌, refl, List, [], ◌∷◌, ◌++◌, ℕ, zero, suc, ◌+◌, ◌-◌, ◌≤◌, ◌<◌, length, take, drop, get_or, set}
use Rattle.std.proofs.Common.{ap, ◌∙◌, append_assoc, arith, zero-add, add-zero, add-suc, suc-add, add-one, length-set, length-drop, take-append-drop, length-take-le, take-suc, take-take, take-add, drop-cons, drop-drop, drop_at, get_or-drop, get_or-take, set-set}
use Rattle.std.proofs.lemmas.List.Edits.{sets, sets-eq}
use Rattle.std.proofs.Math.Seq.{length-sets, take-length, take-nil, take-append_seam, take-set-lt}
use Rattle.std.proofs.lemmas.List.{set_comm, drop-set-add}

unfoldable pub seg : List ℕ → ℕ → ℕ → List ℕ
seg l k n = take n (drop k l)

unfoldable pub put : List ℕ → ℕ → List ℕ → List ℕ
put l i vs = sets l i vs

-- the n words at k are words of l
abbrev pub Within : List ℕ → ℕ → ℕ → Type 0
Within l k n = k + n ≤ length l

-- a part of a slice, as the borrow checker states it
pub seg-eq : (l : List ℕ) (k n : ℕ) → seg l k n ≡ take n (drop k l)
unfolding seg
seg-eq l k n = refl

pub put-eq : (l : List ℕ) (i : ℕ) (vs : List ℕ) → Within l i (length vs) → put l i vs ≡ take i l ++ vs ++ drop (i + length vs) l
unfolding put
put-eq l i vs h = sets-eq vs l i h

-- ---- lengths

pub length-put : (l : List ℕ) (i : ℕ) (vs : List ℕ) → length (put l i vs) ≡ length l
unfolding put
length-put l i vs = length-sets l i vs

pub length-seg : (l : List ℕ) (k n : ℕ) → Within l k n → length (seg l k n) ≡ n
unfolding seg
length-seg l k n h = length-take-le n (drop k l) (simp length-drop (omega arith))

-- ---- a part

pub seg-zero : (l : List ℕ) (k : ℕ) → seg l k 0 ≡ []
unfolding seg
seg-zero l k = refl

pub seg_all : (l : List ℕ) → seg l 0 (length l) ≡ l
unfolding seg
seg_all l = take-length l

-- the n + m words at k: the n words there, then the m words after them
pub seg-append : (l : List ℕ) (k n m : ℕ) → seg l k (n + m) ≡ seg l k n ++ seg l (k + n) m
unfolding seg
seg-append l k n m = rw (take-add, drop-drop)

-- one word more at the end
pub seg-more : (l : List ℕ) (k n : ℕ) → k + n < length l → seg l k (n + 1) ≡ seg l k n ++ (get_or l (k + n) 0 ∷ [])
unfolding seg
seg-more l k n h =
    let e : n < length (drop k l) = simp length-drop (omega arith) in
    rw (add-one, take-suc (drop k l) n 0 e, get_or-drop)

-- the first word, and the others
pub seg-cons : (l : List ℕ) (k n : ℕ) → k < length l → seg l k (suc n) ≡ get_or l k 0 ∷ seg l (k + 1) n
unfolding seg
seg-cons l k n h = rw (add-one, drop-cons l k 0 h)

-- ---- a part of a part

pub take-seg : (l : List ℕ) (k n i : ℕ) → i ≤ n → take i (seg l k n) ≡ seg l k i
unfolding seg
take-seg l k n i h = take-take i n (drop k l) h

drop-take : (i m : ℕ) (l : List ℕ) → drop i (take (i + m) l) ≡ take m (drop i l)
drop-take zero m l = rw zero-add
drop-take (suc i) m [] = rw (suc-add, take-nil)
drop-take (suc i) m (w ∷ l) = rw suc-add (drop-take i m l)

pub drop-seg : (l : List ℕ) (k n i : ℕ) → i ≤ n → drop i (seg l k n) ≡ seg l (k + i) (n - i)
unfolding seg
drop-seg l k n i h =
    let e : n ≡ i + (n - i) = omega arith in
    ap (λ (m : ℕ). drop i (take m (drop k l))) e ∙ drop-take i (n - i) (drop k l) ∙ ap (take (n - i)) (drop-drop i k l)

pub seg-seg : (l : List ℕ) (k n i j : ℕ) → i + j ≤ n → seg (seg l k n) i j ≡ seg l (k + i) j
unfolding seg
seg-seg l k n i j h = ap (take j) (drop-seg l k n i (omega arith)) ∙ take-seg l (k + i) (n - i) j (omega arith)

pub get_or-seg : (l : List ℕ) (k n i : ℕ) → i < n → get_or (seg l k n) i 0 ≡ get_or l (k + i) 0
unfolding seg
get_or-seg l k n i h = rw (get_or-take n (drop k l) i 0 h, get_or-drop)

-- ---- a part of two lists joined

-- ---- words put, and words put after them

pub put-nil : (l : List ℕ) (i : ℕ) → put l i [] ≡ l
unfolding put
put-nil l i = refl

pub put_one : (l : List ℕ) (i v : ℕ) → put l i (v ∷ []) ≡ set l i v
unfolding put
put_one l i v = refl

pub put-put : (vs l us : List ℕ) (i : ℕ) → put (put l i vs) (i + length vs) us ≡ put l i (vs ++ us)
unfolding put
put-put [] l us i = rw add-zero
put-put (v ∷ vs) l us i = rw (add-suc, ← suc-add) (put-put vs (set l i v) us (suc i))

-- one word more, as the code stores it
pub put-more : (l : List ℕ) (i : ℕ) (vs : List ℕ) (v : ℕ) → set (put l i vs) (i + length vs) v ≡ put l i (vs ++ (v ∷ []))
unfolding put
put-more l i vs v = put-put vs l (v ∷ []) i

-- ---- words put over words that were put

-- a word stored before them
pub set-put-before : (vs l : List ℕ) (i k w : ℕ) → k < i → set (put l i vs) k w ≡ put (set l k w) i vs
unfolding put
set-put-before [] l i k w h = refl
set-put-before (v ∷ vs) l i k w h =
    set-put-before vs (set l i v) (suc i) k w (omega arith) ∙ ap (λ (r : List ℕ). put r (suc i) vs) (set_comm l i k v w (omega arith))

set-put-first : (vs l : List ℕ) (i v w : ℕ) → set (put l i (v ∷ vs)) i w ≡ put l i (w ∷ vs)
unfolding put
set-put-first vs l i v w =
    set-put-before vs (set l i v) (suc i) i w (omega arith) ∙ ap (λ (r : List ℕ). put r (suc i) vs) (set-set l i v w)

-- what is put over as many words or fewer leaves nothing of them
pub put-put_same : (vs us l : List ℕ) (i : ℕ) → length vs ≤ length us → put (put l i vs) i us ≡ put l i us
unfolding put
put-put_same [] us l i h = refl
put-put_same (v ∷ vs) [] l i h = absurd (omega arith)
put-put_same (v ∷ vs) (u ∷ us) l i h = rw (set-put-first vs l i v u) (put-put_same vs us (set l i u) (suc i) (omega arith))

-- a word of what was put is set again
pub set-put : (vs l : List ℕ) (i j w : ℕ) → j < length vs → set (put l i vs) (i + j) w ≡ put l i (set vs j w)
unfolding put
set-put [] l i j w h = absurd (omega arith)
set-put (v ∷ vs) l i zero w h = rw add-zero (set-put-first vs l i v w)
set-put (v ∷ vs) l i (suc j) w h = rw (add-suc, ← suc-add) (set-put vs (set l i v) (suc i) j w (omega arith))

-- words are put inside what was put
pub put-put_inside : (us vs l : List ℕ) (i j : ℕ) → Within vs j (length us) → put (put l i vs) (i + j) us ≡ put l i (put vs j us)
unfolding put
put-put_inside [] vs l i j h = refl
put-put_inside (u ∷ us) vs l i j h =
    rw (set-put vs l i j u (omega arith), ← add-suc) (put-put_inside us (set vs j u) l i (suc j) (rw length-set (omega arith)))

-- ---- a part read where words were put

pub seg-put_same : (vs l : List ℕ) (i : ℕ) → Within l i (length vs) → seg (put l i vs) i (length vs) ≡ vs
unfolding seg
seg-put_same vs l i h =
    rw (put-eq l i vs h, append_assoc, drop_at (take i l) (vs ++ drop (i + length vs) l) i (length-take-le i l (omega arith))) (take-append_seam vs _)

-- a word stored inside the part that is read, and words put there
pub seg-set_inside : (l : List ℕ) (k n i v : ℕ) → i < n → seg (set l (k + i) v) k n ≡ set (seg l k n) i v
unfolding seg
seg-set_inside l k n i v h = ap (take n) (drop-set-add k l i v) ∙ take-set-lt n (drop k l) i v h

pub seg-put_inside : (vs l : List ℕ) (k n i : ℕ) → i + length vs ≤ n → seg (put l (k + i) vs) k n ≡ put (seg l k n) i vs
unfolding put
seg-put_inside [] l k n i h = refl
seg-put_inside (v ∷ vs) l k n i h =
    rw (← add-suc) (seg-put_inside vs (set l (k + i) v) k n (suc i) (omega arith))
    ∙ ap (λ (r : List ℕ). put r (suc i) vs) (seg-set_inside l k n i v (omega arith))

-- what stands there is put there
pub put-seg : (l : List ℕ) (k n : ℕ) → Within l k n → put l k (seg l k n) ≡ l
put-seg l k n h =
    let e : length (seg l k n) ≡ n = length-seg l k n h in
    put-eq l k (seg l k n) (rw e h) ∙ rw (e, seg-eq, ← take-add k n l) (take-append-drop (k + n) l)
