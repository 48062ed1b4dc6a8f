-- Eight words, and whether x is one of them.
use mathlib.Core.Path.{◌≡◌, refl, ◌∙◌, ap}
use mathlib.Core.Bool.{Bool, true, false, cond, not}
use mathlib.Core.List.{List, [], ◌∷◌}
use Prim.Native.Nat.{ℕ}
use lib.Dec.{eqb}
use Rattle.std.specs.List.{list_any}
use Rattle.room.specs.Room.{seg, put, put-nil}
use Rattle.room.specs.Cases.{cases}
use Rattle.room.specs.Replaced.{clear}
use Rattle.eights.specs.Block.{BLOCK}

clear_none : (x : ℕ) (ws : List ℕ) → not (list_any (λ w. eqb w x) ws) ≡ clear x ws
unfolding clear
clear_none x [] = refl
clear_none x (w ∷ ws) = cases (eqb w x) (λ e. rw e) (λ e. rw e (clear_none x ws))

module _ (l : List ℕ) (from x to : ℕ) {ws : List ℕ} {found : Bool} (read : ws ≡ seg l from BLOCK) (told : found ≡ list_any (λ w. eqb w x) ws) where
  pub clear_told : not found ≡ clear x (seg l from BLOCK)
  clear_told = ap not told ∙ clear_none x ws ∙ ap (clear x) read

  pub copied : {m : List ℕ} → found ≡ false → m ≡ put l to ws → m ≡ put l to (cond (not found) (seg l from BLOCK) [])
  copied e m = rw (e, ← read) m

  pub left : found ≡ true → l ≡ put l to (cond (not found) (seg l from BLOCK) [])
  left e = rw (e, put-nil)
