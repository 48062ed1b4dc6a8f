-- Equations that stand in words, one after the other, left then right, and the places of the values after them.
use Rattle.std.specs.Prelude.{ℕ, zero, suc, ◌*◌, ◌≤◌, ◌≡◌, List, [], ◌∷◌, ◌++◌, Bool, true, ◌&&◌, length, drop}
use Rattle.terms.specs.Bounds.{Bounds}
use Rattle.terms.specs.Formed.{Formed, row}
use Rattle.terms.specs.Kind.{Worded}
use Rattle.terms.specs.Lists.{All}
use Rattle.terms.specs.Reading.{top}
use Rattle.terms.specs.Term.{Term}
use Rattle.laws.specs.Equal.{equal}
use Rattle.laws.specs.Values.{Values, value}
use Rattle.term_places.specs.Places.{Held, Placed, values, terms_from, end, Terms, PLACES}

-- do the first m equations hold?
unfoldable pub holding : Values → ℕ → List Term → Bool
holding σ zero ts = true
holding σ (suc m) ts = equal (value σ (top ts)) (value σ (top (drop 1 ts))) && holding σ m (drop 2 ts)

-- do the first m that stand at the start of the words?
abbrev pub all_holding : Held → ℕ → Bool
all_holding h m = holding (values h) m (terms_from h.bounds h.arities h.words 0)

-- the places of the first m terms from a place on
unfoldable pub starts_from : Bounds → List ℕ → List ℕ → ℕ → ℕ → List ℕ
starts_from b arities ws p zero = []
starts_from b arities ws p (suc m) = p ∷ starts_from b arities ws (end b arities ws p) m

-- ---- what the steps start from

-- equations stand at the start of the words, and there is a label for each place
pub record Equations (h : Held) (labels : List ℕ) (m : ℕ) : Type 0 where
  pub placed : Placed h
  pub enough : 2 * m ≤ length (terms_from h.bounds h.arities h.words 0)
  pub long : length labels ≡ length h.words
  pub few : length h.words ≤ PLACES

-- so many values stand at a place of the words
pub record Standings (b : Bounds) (arities ws : List ℕ) (p m : ℕ) : Type 0 where
  pub unknowns : ℕ
  pub terms : Terms b arities unknowns ws
  pub enough : m ≤ length (terms_from b arities ws p)
  pub few : length ws ≤ PLACES

-- a question's words and then its values'
pub record WithValues (b : Bounds) (arities ws : List ℕ) (n from m : ℕ) : Type 0 where
  pub limits : Worded b arities n
  pub sides : List Term
  pub values : List Term
  pub formed_sides : All (Formed arities n) sides
  pub formed_values : All (Formed arities 0) values
  pub worded : row b sides ++ row b values ≡ ws
  pub length_sides : length (row b sides) ≡ from
  pub equations : length sides ≡ 2 * m
  pub unknowns : length values ≡ n
  pub few : length ws ≤ PLACES
