-- Places settled by the help of their ranks: what the tables say, and what the steps start from.
use Rattle.std.specs.Prelude.{ℕ, ◌<◌, ◌≤◌, ◌≡◌, List, true, length, get_or}
use Rattle.laws.specs.Equal.{equal}
use Rattle.term_places.specs.Places.{Held, valued}
use Rattle.term_places.specs.Classes.{Classes, Coarser, IsSettled, Settled}
use Rattle.ranks.specs.Ranks.{RankAt, Ranked}

-- labels of classes, with places settled
pub record AllSettled (h : Held) (settled labels : List ℕ) : Type 0 where
  pub classes : Classes h labels
  pub apart : Settled h settled labels

-- the place p, of this rank, is to be settled, and so far only later ones are
pub record Settling (h : Held) (settled labels : List ℕ) (p rank : ℕ) : Type 0 where
  pub ranked : Ranked h settled
  pub so_far : AllSettled h settled labels
  pub inside : p < length h.words
  pub below : rank < 65535
  pub at : RankAt h p rank
  pub later : (q : ℕ) → q ≤ p → IsSettled settled q → ⊥

-- it has the label of each settled place that holds an equal term
pub record Settles (h : Held) (settled before after : List ℕ) (p : ℕ) : Type 0 where
  pub classes : Classes h after
  pub coarser : Coarser before after
  pub joined : (q : ℕ) → q < length h.words → IsSettled settled q → equal (valued h p) (valued h q) ≡ true → get_or after p 0 ≡ get_or after q 0

-- no place is settled yet
pub record Unsettled (h : Held) (ranks settled labels : List ℕ) : Type 0 where
  pub ranked : Ranked h ranks
  pub long : length settled ≡ length h.words
  pub classes : Classes h labels
  pub none : (p : ℕ) → p < length settled → get_or settled p 0 ≡ 65535
