-- A term is read by its members and arguments, each of which is a term again. Twice the unread length is fuel enough for a term, and one
-- more for a list: a list reads a term at its own place, and a term's list begins after its first byte.
use Rattle.std.specs.Prelude.{ℕ, zero, suc, ◌+◌, ◌*◌, ◌≡◌, List, length}
use Rattle.std.proofs.Math.Path.{refl}
use Rattle.terms.specs.Bounds.{Bounds}
use Rattle.terms.specs.declared.refusal.Cause.TheVariants.{Byte}
use Rattle.numerals.specs.TextReading.{Reading, read, fault, and_then}
use Rattle.items.specs.Items.{Coming, due, done, beginning, after}
use Rattle.items.specs.declared.item.Item.{Item}

-- the list that is due, or the term as it ended
unfoldable pub follow : (Item → ℕ → List ℕ → Reading (List ℕ)) → ℕ → Coming → Reading (List ℕ)
follow list p (due i ws) = list i p ws
follow list p (done ws) = read p ws

module _ (b : Bounds) (s : List ℕ) (unknowns : ℕ) (arities : List ℕ) where
  unfoldable mutual
    -- the term at p, after the words ws, with so many brackets open
    pub term : ℕ → ℕ → ℕ → List ℕ → Reading (List ℕ)
    term zero depth p ws = fault Byte p
    term (suc fuel) depth p ws = and_then (beginning b s unknowns arities depth p ws) (follow (λ i q vs. list fuel (depth + 1) i q vs))

    -- the item at p, and what follows it up to the closing bracket
    pub list : ℕ → ℕ → Item → ℕ → List ℕ → Reading (List ℕ)
    list zero depth i p ws = fault Byte p
    list (suc fuel) depth i p ws =
        and_then (term fuel depth p ws) (λ q vs. and_then (after b s i q vs) (follow (λ j r us. list fuel depth j r us)))

  -- one step of each
  pub term_step : (fuel depth p : ℕ) (ws : List ℕ)
      → term (suc fuel) depth p ws ≡ and_then (beginning b s unknowns arities depth p ws) (follow (λ i q vs. list fuel (depth + 1) i q vs))
  unfolding term
  term_step fuel depth p ws = refl

  pub list_step : (fuel depth : ℕ) (i : Item) (p : ℕ) (ws : List ℕ)
      → list (suc fuel) depth i p ws ≡ and_then (term fuel depth p ws) (λ q vs. and_then (after b s i q vs) (follow (λ j r us. list fuel depth j r us)))
  unfolding list
  list_step fuel depth i p ws = refl

  unfoldable pub whole_term : ℕ → List ℕ → Reading (List ℕ)
  whole_term p ws = term (suc (2 * length s)) 0 p ws
