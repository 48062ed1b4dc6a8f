-- The pile's first unknown bound to its entries' members over a new unknown: where the parts lie, and what the row then is.
use Rattle.std.specs.Prelude.{ℕ, ◌+◌, ◌<◌, ◌≤◌, ◌≡◌, List, [], ◌∷◌, ◌++◌, true, false, length, get_or}
use Rattle.room.specs.Room.{seg, put}
use Rattle.room.specs.Parts.{Apart}
use Rattle.room.specs.Layout.{HEADER}
use Rattle.terms.specs.Bounds.{edition_one, FIRST_UNKNOWN, PATH_UNKNOWNS}
use Rattle.search.specs.RunLimits.{most_size}
use Rattle.rows.specs.declared.parts.Rest.{Rest}
use Rattle.rows.specs.declared.parts.Made.{Made}
use Rattle.rows.specs.declared.parts.Made.TheVariants.{Dead, Names}
use Rattle.rows.specs.Header.{header_of}
use Rattle.rows.specs.Terms.HeldWords.{holds}
use Rattle.rows.specs.Bind.{BindParts, bound_pile, bound_bindings}
use Rattle.rows.specs.Finished.{Finished, bound_header}
use Rattle.plain_steps.specs.Join.{gathered}

pub record JoinParts (l : List ℕ) (rest : Rest) (value to size next : ℕ) : Type 0 where
  pub parts : BindParts l rest value (rest.pile + 1) to (HEADER + size)
  pub value_apart : Apart rest.at (rest.pending + rest.pile + rest.bound) value (rest.pile + 1)
  pub nothing : rest.pending ≡ 0
  pub something : 0 < rest.pile
  pub unknown : FIRST_UNKNOWN ≤ get_or l rest.at 0
  pub size_small : size ≤ most_size
  pub bindings_small : rest.bindings < 65535
  pub next_small : next < 65535

-- the unknown's word, and its members' words
unfoldable pub joining_word : List ℕ → Rest → ℕ
joining_word r rest = get_or r rest.at 0

unfoldable pub joining_words : (arities r : List ℕ) → Rest → List ℕ
joining_words arities r rest = gathered edition_one arities (joining_word r rest) rest.pile (seg r rest.at rest.pile)

-- the room with the value laid out
unfoldable pub valued : (arities r : List ℕ) → Rest → (value next : ℕ) → List ℕ
valued arities r rest value next = put r value (joining_words arities r rest ++ ((FIRST_UNKNOWN + next) ∷ []))

pub record Joined (arities r₀ : List ℕ) (rest : Rest) (value to size next : ℕ) (a : Made) (r : List ℕ) : Type 0 where
  pub dead : holds (joining_word r₀ rest) (joining_words arities r₀ rest) ≡ true → (a ≡ Dead) × (r ≡ put r₀ value (joining_words arities r₀ rest))
  pub names : holds (joining_word r₀ rest) (joining_words arities r₀ rest) ≡ false → PATH_UNKNOWNS ≤ next → (a ≡ Names) × (r ≡ put r₀ value (joining_words arities r₀ rest))
  pub live : holds (joining_word r₀ rest) (joining_words arities r₀ rest) ≡ false → next < PATH_UNKNOWNS
      → Finished (valued arities r₀ rest value next) to 0 size
      (bound_pile edition_one arities (valued arities r₀ rest value next) rest (joining_word r₀ rest) value (length (joining_words arities r₀ rest) + 1)
      ++ bound_bindings (valued arities r₀ rest value next) rest (joining_word r₀ rest) value (length (joining_words arities r₀ rest) + 1))
      (header_of (bound_header rest 0
      (length (bound_pile edition_one arities (valued arities r₀ rest value next) rest (joining_word r₀ rest) value (length (joining_words arities r₀ rest) + 1)))
      (length (joining_words arities r₀ rest) + 1) (next + 1))) a r
