-- The text from a place on: its first byte, what is left after some bytes, and keys that stand there.
use Rattle.std.specs.Prelude.{ℕ, suc, ◌+◌, ◌-◌, ◌≡◌, List, [], ◌∷◌, ◌++◌, length, drop}
use Rattle.std.proofs.Common.{add-zero, ap, ◌∙◌, eq-eqb, length-drop, drop-drop}
use native.Mathlib.Omega.{arith}
use Rattle.std.proofs.Math.Path.{sym}
use Rattle.std.proofs.Math.ListN.{get_or}
use Rattle.std.proofs.Math.Seq.{get_or-drop, drop-append_seam}
use Rattle.numerals.specs.TextReading.{read}
use Rattle.numerals.specs.Bytes.{byte, met, meets, stopped}
use Rattle.std.specs.Prelude.{Ok}

module _ (s : List ℕ) (p : ℕ) where
  pub first_byte : (x : ℕ) (r : List ℕ) → drop p s ≡ x ∷ r → byte s p ≡ x
  unfolding byte
  first_byte x r e =
      let g : get_or (drop p s) 0 stopped ≡ get_or s (p + 0) stopped = get_or-drop p s 0 stopped in
      let z : p + 0 ≡ p = omega arith in
      sym (rw z at g) ∙ rw e

  pub no_byte : drop p s ≡ [] → byte s p ≡ stopped
  unfolding byte
  no_byte e =
      let g : get_or (drop p s) 0 stopped ≡ get_or s (p + 0) stopped = get_or-drop p s 0 stopped in
      let z : p + 0 ≡ p = omega arith in
      sym (rw z at g) ∙ rw e

  pub after-byte : (x : ℕ) (r : List ℕ) → drop p s ≡ x ∷ r → drop (p + 1) s ≡ r
  after-byte x r e = sym (drop-drop 1 p s) ∙ rw e

  pub after_bytes : (w r : List ℕ) → drop p s ≡ w ++ r → drop (p + length w) s ≡ r
  after_bytes w r e = sym (drop-drop (length w) p s) ∙ rw e (drop-append_seam w r)

  -- as much is unread as stands there
  pub unread : (w : List ℕ) → drop p s ≡ w → length s - p ≡ length w
  unread w e = sym (length-drop p s) ∙ ap length e

-- a key that stands there is met
pub key_there : (s key r : List ℕ) (p : ℕ) → drop p s ≡ key ++ r → met s key p ≡ Ok (p + length key)
unfolding met
key_there s [] r p e = rw add-zero
key_there s (b ∷ key) r p e =
    let z : p + 1 + length key ≡ p + suc (length key) = omega arith in
    rw (eq-eqb (byte s p) b (first_byte s p b (key ++ r) e)) (key_there s key r (p + 1) (after-byte s p b (key ++ r) e) ∙ ap Ok z)

pub key_read : {A : Type 0} (s key r : List ℕ) (p : ℕ) (a : A) → drop p s ≡ key ++ r → meets s key p a ≡ read (p + length key) a
unfolding meets
key_read s key r p a e = rw (key_there s key r p e)
