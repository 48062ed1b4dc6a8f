-- The sections of a child's row after its new equations, where x is bound to the m words at a place: the rest of the pending equations and the released
-- entries, the other entries, each with x replaced; then the bindings, and x's number with its value. Last, where these parts of the room lie.
use Rattle.std.specs.Prelude.{ℕ, ◌+◌, ◌-◌, ◌^◌, ◌≤◌, ◌<◌, ◌≡◌, List, ◌∷◌, ◌++◌, length}
use Rattle.std.proofs.Common.{arith}
use Rattle.room.specs.Room.{seg, Within}
use Rattle.room.specs.Parts.{Apart, ReplaceParts, apart_part}
use Rattle.room.specs.Replaced.{replaced}
use Rattle.room.specs.Layout.{HEADER}
use Rattle.terms.specs.Bounds.{Bounds, FIRST_UNKNOWN}
use Rattle.search.specs.RunLimits.{most_size}
use Rattle.search.specs.StateWords.{Section, Pending, Pile, Bindings, in_order}
use Rattle.rows.specs.declared.parts.Rest.{Rest}
use Rattle.rows.specs.declared.parts.Part.TheVariants.{Entries, Others}
use Rattle.rows.specs.Sections.{section_in}
use Rattle.rows.specs.Pile.{selection}

unfoldable pub bound_pending : Bounds → (arities room : List ℕ) → Rest → (x by m : ℕ) → List ℕ
bound_pending b arities r rest x by m =
    replaced x (seg r by m) (section_in r rest Pending) ++ replaced x (seg r by m) (selection b arities Entries x (section_in r rest Pile))

unfoldable pub bound_pile : Bounds → (arities room : List ℕ) → Rest → (x by m : ℕ) → List ℕ
bound_pile b arities r rest x by m = replaced x (seg r by m) (selection b arities Others x (section_in r rest Pile))

unfoldable pub bound_bindings : (room : List ℕ) → Rest → (x by m : ℕ) → List ℕ
bound_bindings r rest x by m = section_in r rest Bindings ++ ((x - FIRST_UNKNOWN) ∷ seg r by m)

-- each by its section, and all of them in order
abbrev pub bound_section : Bounds → (arities room : List ℕ) → Rest → (x by m : ℕ) → Section → List ℕ
bound_section b arities r rest x by m Pending = bound_pending b arities r rest x by m
bound_section b arities r rest x by m Pile = bound_pile b arities r rest x by m
bound_section b arities r rest x by m Bindings = bound_bindings r rest x by m

unfoldable pub bound_body : Bounds → (arities room : List ℕ) → Rest → (x by m : ℕ) → List ℕ
bound_body b arities r rest x by m = in_order (bound_section b arities r rest x by m)

-- the rest of a row, the words at by, and what is written
pub record BindParts (l : List ℕ) (rest : Rest) (by m to capacity : ℕ) : Type 0 where
  pub rest_within : Within l rest.at (rest.pending + rest.pile + rest.bound)
  pub by_within : Within l by m
  pub to_within : Within l to capacity
  pub rest_apart : Apart rest.at (rest.pending + rest.pile + rest.bound) to capacity
  pub by_apart : Apart by m to capacity
  pub small : length l < 2 ^ 32

module _ {l : List ℕ} {rest : Rest} {by m to capacity : ℕ} (P : BindParts l rest by m to capacity) where
  -- a part of what is written to
  pub bind_part : (r : List ℕ) → length r ≡ length l → (k : ℕ) → k ≤ capacity → BindParts r rest by m (to + k) (capacity - k)
  bind_part r e k h = record {
    rest_within = rw e P.rest_within;
    by_within = rw e P.by_within;
    to_within = rw e (omega (arith, P.to_within));
    rest_apart = apart_part P.rest_apart (omega arith) (omega arith) (omega arith) (omega arith);
    by_apart = apart_part P.by_apart (omega arith) (omega arith) (omega arith) (omega arith);
    small = rw e P.small;
  }

  pub pending_parts : ReplaceParts l rest.at rest.pending by m to capacity
  pending_parts = record {
    from_within = omega (arith, P.rest_within);
    by_within = P.by_within;
    to_within = P.to_within;
    from_apart = apart_part P.rest_apart (omega arith) (omega arith) (omega arith) (omega arith);
    by_apart = P.by_apart;
  }

  pub pile_parts : ReplaceParts l (rest.at + rest.pending) rest.pile by m to capacity
  pile_parts = record {
    from_within = omega (arith, P.rest_within);
    by_within = P.by_within;
    to_within = P.to_within;
    from_apart = apart_part P.rest_apart (omega arith) (omega arith) (omega arith) (omega arith);
    by_apart = P.by_apart;
  }

-- a row is written: its first words are there, and its numbers are words
pub record FinishParts (l : List ℕ) (rest : Rest) (by m to written size x next : ℕ) : Type 0 where
  pub parts : BindParts l rest by m to (HEADER + size)
  pub written_within : written ≤ size
  pub size_small : size ≤ most_size
  pub unknown : FIRST_UNKNOWN ≤ x
  pub bindings_small : rest.bindings < 65535
  pub next_small : next < 65536
