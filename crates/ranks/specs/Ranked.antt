-- How a table of ranks is kept: a rank that is not known tells nothing, a rank is written, a cleared table says nothing yet.
use Rattle.std.specs.Prelude.{ℕ, ◌<◌, ◌≤◌, ◌≡◌, refl, List, Bool, true, false, eqb, length, get_or, set}
use Rattle.std.proofs.Common.{◌∙◌, arith, length-set, get_or-set_same, get_or-set_other, eqb-true}
use Rattle.std.proofs.lemmas.Bool.{eqb-false}
use Rattle.term_places.specs.Places.{Held, Placed}
use Rattle.term_places.specs.Classes.{Cleared}
use Rattle.ranks.specs.Ranks.{RankTold, Ranked}

pub not-told : {h : Held} {p r : ℕ} → 65535 ≤ r → RankTold h p r
not-told l = record { told = λ b. absurd (omega arith) }

pub ranked_set : {h : Held} {ranks : List ℕ} {p r : ℕ} → Ranked h ranks → p < length h.words → RankTold h p r → Ranked h (set ranks p r)
ranked_set {h} {ranks} {p} {r} d i t =
    record { placed = d.placed; long = length-set ranks p r ∙ d.long; ranked = λ q j. go q j (eqb q p) refl }
  where
    go : (q : ℕ) → q < length h.words → (b : Bool) → eqb q p ≡ b → RankTold h q (get_or (set ranks p r) q 0)
    go q j true e = let z = eqb-true q p e in rw (z, get_or-set_same ranks p r 0 (rw d.long i)) t
    go q j false e = rw (get_or-set_other ranks p q r 0 (eqb-false q p e)) (d.ranked q j)

pub ranked_none : {h : Held} {ranks : List ℕ} → Placed h → length ranks ≡ length h.words → ((p : ℕ) → p < length ranks → get_or ranks p 0 ≡ 65535) → Ranked h ranks
ranked_none placed l n = record { placed = placed; long = l; ranked = λ p i. not-told (omega (arith, n p (omega (arith, l)))) }

pub ranked_cleared : {h : Held} {before ranks : List ℕ} → Placed h → length before ≡ length h.words → Cleared before ranks → Ranked h ranks
ranked_cleared placed l d = ranked_none placed (d.long ∙ l) (λ p i. d.none p (omega (arith, d.long)))
