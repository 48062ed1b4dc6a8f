-- The split that stands open in scratch, seen from a path: it is the split of one of the path's rows, or none stands open.
use Rattle.std.specs.Prelude.{ℕ, ◌*◌, ◌<◌, ◌≡◌, refl, List, ◌∷◌, length, Option, Some, None}
use Rattle.std.proofs.Common.{arith}
use Rattle.room.specs.Room.{seg}
use Rattle.room.specs.Layout.{stride}
use Rattle.search_laws.specs.Going.{Open}
use Rattle.pick_loop.specs.Shown.{shown_kept}
use Rattle.children.specs.Looking.{Stands}
use Rattle.search_turn.specs.Path.{Rows, a_row}

-- the level whose split stands open in scratch, if one does
pub data Desk (l : List ℕ) (lent scratch : ℕ) : List Open → Option ℕ → Type 0 where
  nothing_open : {path : List Open} → Desk l lent scratch path None
  open_here : {o : Open} {path : List Open} → Stands l lent scratch o.state o.child → Desk l lent scratch (o ∷ path) (Some (length path))
  open_above : {o : Open} {path : List Open} {k : Option ℕ} → Desk l lent scratch path k → Desk l lent scratch (o ∷ path) k

-- ---- whose split it is

module _ {l : List ℕ} {lent scratch : ℕ} where
  pub desk_level : {path : List Open} {k : ℕ} → Desk l lent scratch path (Some k) → k < length path
  desk_level (open_here S) = omega arith
  desk_level (open_above D) = omega (arith, desk_level D)

  -- the deepest row's
  pub desk_here : {o : Open} {path : List Open} {k : Option ℕ} → Desk l lent scratch (o ∷ path) k → k ≡ Some (length path) → Stands l lent scratch o.state o.child
  desk_here nothing_open e = let z : ◌≡◌ {A = ℕ} 0 1 = cc in absurd (omega arith)
  desk_here (open_here S) e = S
  desk_here {path = path} (open_above D) e =
      let here : Desk l lent scratch path (Some (length path)) = rw e at D in
      absurd (omega (arith, desk_level here))

  -- or that of a row above it
  pub desk_above : {o : Open} {path : List Open} {k : Option ℕ} → Desk l lent scratch (o ∷ path) k → (k ≡ Some (length path) → ⊥) → Desk l lent scratch path k
  desk_above nothing_open n = nothing_open
  desk_above (open_here S) n = absurd (n refl)
  desk_above (open_above D) n = D

-- ---- it stands open while the rows of scratch are as they were

module _ {l r : List ℕ} {lent scratch : ℕ} (kept : seg r scratch (3 * stride lent) ≡ seg l scratch (3 * stride lent)) where
  pub desk_kept : {arities m : List ℕ} {visited : ℕ} {k : Option ℕ} {path : List Open} → Rows arities lent visited m path → Desk l lent scratch path k → Desk r lent scratch path k
  desk_kept Rs nothing_open = nothing_open
  desk_kept (a_row R Rs) (open_here S) = open_here (record { last = S.last; after = S.after; shown = shown_kept kept R.small S.shown })
  desk_kept (a_row R Rs) (open_above D) = open_above (desk_kept Rs D)
