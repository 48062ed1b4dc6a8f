-- What is written into a row from left to right, in at most so many words: the pieces of a child's body. A writer tells the number of words of its
-- piece, where these fit, and None where they don't; then some words are written all the same, none of them past the capacity.
use Rattle.std.specs.Prelude.{ℕ, ◌+◌, ◌-◌, ◌<◌, ◌≤◌, ◌≡◌, refl, List, [], ◌++◌, length, Option, Some, None}
use Rattle.std.proofs.Common.{ap, sym, ◌∙◌, arith, length-append}
use Rattle.room.specs.Room.{put, length-put, put-nil, put-put}
use Rattle.room.specs.Replaced.{replaced}
use Rattle.replace.specs.Fitting.{fitting, told, fitting-all, length-fitting, told_of_le, told_of_lt, told-done, told_full, further, told-append}

-- r is r₀ with a piece written at a place, and a what the writer told
pub record Wrote (r₀ : List ℕ) (place capacity : ℕ) (piece : List ℕ) (a : Option ℕ) (r : List ℕ) : Type 0 where
  pub out : List ℕ
  pub room : r ≡ put r₀ place out
  pub within : length out ≤ capacity
  pub tells : a ≡ told capacity piece
  pub whole : length piece ≤ capacity → out ≡ piece

pub wrote_nothing : (r : List ℕ) (place capacity : ℕ) → Wrote r place capacity [] (Some 0) r
wrote_nothing r place capacity = record {
  out = [];
  room = sym (put-nil r place);
  within = omega arith;
  tells = sym (told_of_le capacity [] (omega arith));
  whole = λ h. refl;
}

-- it does not fit, and nothing is written
pub wrote_full : (r : List ℕ) (place : ℕ) {capacity : ℕ} (piece : List ℕ) → capacity < length piece → Wrote r place capacity piece None r
wrote_full r place {capacity} piece h = record {
  out = [];
  room = sym (put-nil r place);
  within = omega arith;
  tells = sym (told_of_lt capacity piece h);
  whole = λ f. absurd (omega arith);
}

-- it fits, and all of it is written
pub wrote_all : {r₀ : List ℕ} {place capacity n : ℕ} (piece : List ℕ) {r : List ℕ} → length piece ≡ n → n ≤ capacity → r ≡ put r₀ place piece
    → Wrote r₀ place capacity piece (Some n) r
wrote_all {capacity = capacity} piece l h e = record {
  out = piece;
  room = e;
  within = omega arith;
  tells = sym (told_of_le capacity piece (omega arith) ∙ ap Some l);
  whole = λ g. refl;
}

-- as `room::replace` ensures it
pub wrote_replaced : {r₀ : List ℕ} {place capacity : ℕ} (x : ℕ) (ws s : List ℕ) {a : Option ℕ} {r : List ℕ}
    → a ≡ told capacity (replaced x ws s) → r ≡ put r₀ place (fitting x ws capacity s) → Wrote r₀ place capacity (replaced x ws s) a r
wrote_replaced {capacity = capacity} x ws s e f = record {
  out = fitting x ws capacity s;
  room = f;
  within = length-fitting x ws capacity s;
  tells = e;
  whole = fitting-all x ws capacity s;
}

module _ {r₀ : List ℕ} {place capacity : ℕ} {p : List ℕ} where
  pub wrote_length : {a : Option ℕ} {r : List ℕ} → Wrote r₀ place capacity p a r → length r ≡ length r₀
  wrote_length {r = r} w = ap length w.room ∙ length-put r₀ place w.out

  -- all is written
  pub done-fits : {n : ℕ} {r : List ℕ} → Wrote r₀ place capacity p (Some n) r → length p ≤ capacity
  done-fits {n} w = (told-done capacity n p (sym w.tells)).0

  pub done-length : {n : ℕ} {r : List ℕ} → Wrote r₀ place capacity p (Some n) r → length p ≡ n
  done-length {n} w = (told-done capacity n p (sym w.tells)).1

  pub done-room : {n : ℕ} {r : List ℕ} → Wrote r₀ place capacity p (Some n) r → r ≡ put r₀ place p
  done-room w = w.room ∙ ap (put r₀ place) (w.whole (done-fits w))

  -- the capacity does not suffice, nor does it with more to come
  pub full_more : {r : List ℕ} (q : List ℕ) → Wrote r₀ place capacity p None r → Wrote r₀ place capacity (p ++ q) None r
  full_more q w =
      let h : capacity < length p = told_full capacity p (sym w.tells) in
      let l : capacity < length (p ++ q) = omega (arith, length-append p q) in
      record {
        out = w.out;
        room = w.room;
        within = w.within;
        tells = sym (told_of_lt capacity (p ++ q) l);
        whole = λ k. absurd (omega arith);
      }

  -- one piece after the other
  pub wrote_more : {n : ℕ} {r : List ℕ} {q : List ℕ} {a : Option ℕ} {r' : List ℕ}
      → Wrote r₀ place capacity p (Some n) r → Wrote r (place + n) (capacity - n) q a r' → Wrote r₀ place capacity (p ++ q) (further n a) r'
  wrote_more {n} {r} {q} {a} {r'} w v =
      let f = done-fits w in
      let l = done-length w in
      let e : length (p ++ q) ≡ length p + length q = length-append p q in
      record {
        out = p ++ v.out;
        room = v.room ∙ rw (done-room w, ← l) (put-put p r₀ v.out place);
        within = omega (arith, length-append p v.out, v.within);
        tells = ap (further n) v.tells ∙ rw (← l) (sym (told-append capacity p q f));
        whole = λ k. ap (λ (u : List ℕ). p ++ u) (v.whole (omega arith));
      }
