-- The places of a set's member marks in its words, and then of its kernel. Then the same said of the set's tree: between two places stand a mark
-- and a member.
use Prim.Native.Nat.{ℕ, zero, suc, ◌+◌, ◌-◌, ◌^◌, ◌<◌, ◌≤◌}
use Rattle.std.specs.Prelude.{◌≡◌, cond, eqb, length}
use Rattle.std.proofs.Math.Path.{refl}
use Rattle.std.proofs.Common.{ap, ◌∙◌, eq-eqb, ne_eqb}
use mathlib.Core.List.{List, [], ◌∷◌, ◌++◌, append_assoc}
use native.Mathlib.Omega.{arith}
use Rattle.room.specs.Room.{Within}
use Rattle.room.specs.Parts.{Apart}
use Rattle.terms.specs.Bounds.{Bounds, MEMBER}
use Rattle.terms.specs.Kind.{takes, Worded}
use Rattle.terms.specs.Lists.{All_units}
use Rattle.terms.specs.Term.{Term, unknown, empty, with, functor, words, words*, size}
use Rattle.terms.specs.Formed.{Formed, formed_unknown, formed_empty, formed_with, formed_functor}
use Rattle.terms.proofs.Walk.{past}

-- so many terms of a member are due, and a place is reached
unfoldable pub noted : Bounds → List ℕ → List ℕ → (due place : ℕ) → List ℕ
noted b arities [] due place = place ∷ []
noted b arities (w ∷ ws) zero place = place ∷ cond (eqb w MEMBER) (noted b arities ws 1 (place + 1)) []
noted b arities (w ∷ ws) (suc due) place = noted b arities ws (due + takes b arities w) (place + 1)

-- the words that are read, and the places that are written
pub record NoteParts (l : List ℕ) (body first end to : ℕ) : Type 0 where
  pub body_within : Within l body end
  pub to_within : Within l to (end + 1)
  pub apart : Apart body end to (end + 1)
  pub from_first : first ≤ end
  pub words : end < 65536
  pub small : length l < 2 ^ 32

module _ (b : Bounds) (arities : List ℕ) where
  pub noted_mark : (w : ℕ) (ws : List ℕ) (place : ℕ) → w ≡ MEMBER → noted b arities (w ∷ ws) 0 place ≡ place ∷ noted b arities ws 1 (place + 1)
  unfolding noted
  noted_mark w ws place e = rw (eq-eqb w MEMBER e)

  pub noted-kernel : (w : ℕ) (ws : List ℕ) (place : ℕ) → (w ≡ MEMBER → ⊥) → noted b arities (w ∷ ws) 0 place ≡ place ∷ []
  unfolding noted
  noted-kernel w ws place e = rw (ne_eqb w MEMBER e)

  pub noted-out : (due place : ℕ) → noted b arities [] due place ≡ place ∷ []
  unfolding noted
  noted-out due place = refl

  pub noted_on : (w : ℕ) (ws : List ℕ) (due place : ℕ) → 0 < due → noted b arities (w ∷ ws) due place ≡ noted b arities ws (due - 1 + takes b arities w) (place + 1)
  unfolding noted
  noted_on w ws zero place z = absurd (omega arith)
  noted_on w ws (suc due) place z = let e : suc due - 1 ≡ due = omega arith in rw e

-- ---- the trees

-- a set whose words begin at a place
unfoldable pub places : Term → ℕ → List ℕ
places (unknown i) p = p ∷ []
places empty p = p ∷ []
places (with m r) p = p ∷ places r (p + 1 + size m)
places (functor k ts) p = p ∷ []

module _ {b : Bounds} {arities : List ℕ} {n : ℕ} (worded : Worded b arities n) where
  pub noted_words : {t : Term} → Formed arities n t → (ws : List ℕ) (place : ℕ) → noted b arities (words b t ++ ws) 0 place ≡ places t place
  unfolding noted words places
  noted_words (formed_unknown {i = i} h) ws place = noted-kernel b arities (b.first_unknown + i) ws place (λ e. omega (arith, worded.proper.unknowns_after_marks))
  noted_words formed_empty ws place = refl
  noted_words (formed_with {m = m} {r = r} f g) ws place =
      rw (append_assoc (words b m) (words b r) ws)
      (ap (λ (l : List ℕ). place ∷ l)
      (past worded {P = λ w. Unit {0}} (noted b arities) (λ w vs d p u. refl) f (All_units (words b m)) (words b r ++ ws) 0 (place + 1)
      ∙ noted_words g ws (place + 1 + size m)))
  noted_words (formed_functor {k = k} {ts = ts} h e f) ws place = noted-kernel b arities (b.first_functor + k) (words* b ts ++ ws) place (λ e. omega (arith, worded.proper.functors_after_marks))
