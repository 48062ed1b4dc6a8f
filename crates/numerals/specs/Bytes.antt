-- Bytes of a text: the byte at a place, and a run of bytes that is due there.
use Rattle.std.specs.Prelude.{ℕ, zero, suc, ◌+◌, ◌≤◌, ◌<◌, ◌≡◌, refl, List, [], ◌∷◌, eqb, length, get_or, Option, Some, None, Result, Ok, Err}
use Rattle.std.proofs.Common.{arith}
use Rattle.std.proofs.Math.ListN.{get_or-eq_default}
use Rattle.terms.specs.declared.refusal.Cause.TheVariants.{Byte}
use Rattle.terms.specs.declared.refusal.Refusal.{Refusal}
use Rattle.terms.specs.Bounds.{BYTES}
use Rattle.text.specs.Text.{choose}
use Rattle.numerals.specs.TextReading.{Reading, read, refused}

-- the bytes that the text form has beside keys and digits: x f { } | , ( ) and LF; and what a text that has stopped reads as
abbrev pub unknown_letter : ℕ
unknown_letter = 120

abbrev pub functor_letter : ℕ
functor_letter = 102

abbrev pub set_opens : ℕ
set_opens = 123

abbrev pub set_closes : ℕ
set_closes = 125

abbrev pub bar : ℕ
bar = 124

abbrev pub comma : ℕ
comma = 44

abbrev pub arguments_open : ℕ
arguments_open = 40

abbrev pub arguments_close : ℕ
arguments_close = 41

abbrev pub line_feed : ℕ
line_feed = 10

abbrev pub stopped : ℕ
stopped = BYTES

-- the byte at p
unfoldable pub byte : List ℕ → ℕ → ℕ
byte s p = get_or s p stopped

-- the same, of the code's answer
abbrev pub of_byte : Option ℕ → ℕ
of_byte (Some b) = b
of_byte None = stopped

-- the bytes of a key, due at p; the first that differs is refused
unfoldable pub met : List ℕ → List ℕ → ℕ → Result ℕ Refusal
met s [] p = Ok p
met s (b ∷ key) p =
    choose (eqb (byte s p) b) (λ _. met s key (p + 1)) (λ _. Err (record { cause = Byte; place = p }))

abbrev pub of_met : {A : Type 0} → A → Result ℕ Refusal → Reading A
of_met a (Ok p) = read p a
of_met a (Err r) = refused r

-- the key is due at p, after a was read
unfoldable pub meets : {A : Type 0} → List ℕ → List ℕ → ℕ → A → Reading A
meets s key p a = of_met a (met s key p)

-- ---- laws of `byte`

pub byte_in : (s : List ℕ) (p : ℕ) → p < length s → byte s p ≡ get_or s p 0
unfolding byte
byte_in [] p h = absurd (omega arith)
byte_in (x ∷ s) zero h = refl
byte_in (x ∷ s) (suc p) h = byte_in s p (omega arith)

pub byte-out : (s : List ℕ) (p : ℕ) → length s ≤ p → byte s p ≡ stopped
unfolding byte
byte-out s p h = get_or-eq_default s stopped h

-- a byte that is none of 256 is a byte of the text
pub in_text : (s : List ℕ) (p : ℕ) → byte s p < BYTES → p < length s
unfolding byte
in_text [] p h = absurd (omega arith)
in_text (x ∷ s) zero h = omega arith
in_text (x ∷ s) (suc p) h = omega (arith, in_text s p h)

pub found : (s : List ℕ) (p : ℕ) {b : ℕ} → b ≡ byte s p → b < BYTES → p < length s
found s p e h = in_text s p (rw e at h)
