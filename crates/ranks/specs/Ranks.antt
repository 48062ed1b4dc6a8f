-- Ranks of places: what a table of them says, and what the steps that fill it start from.
use Rattle.std.specs.Prelude.{ℕ, suc, ◌<◌, ◌≤◌, ◌≡◌, List, length, get_or}
use Rattle.terms.specs.Bounds.{MEMBER}
use Rattle.laws.proofs.Rank.{rank}
use Rattle.term_places.specs.Places.{Held, valued, Placed, Known}

-- r is the rank of the term at p
pub record RankAt (h : Held) (p r : ℕ) : Type 0 where
  pub known : Known h p
  pub rank : rank (valued h p) ≡ r

-- the same if r is below 65,535, which stands for a rank that is not known
pub record RankTold (h : Held) (p r : ℕ) : Type 0 where
  pub told : r < 65535 → RankAt h p r

pub record Above (rank above : ℕ) : Type 0 where
  pub told : above < 65535 → above ≡ suc rank

pub record Ranked (h : Held) (ranks : List ℕ) : Type 0 where
  pub placed : Placed h
  pub long : length ranks ≡ length h.words
  pub ranked : (p : ℕ) → p < length h.words → RankTold h p (get_or ranks p 0)

-- a place; one of a set; one of a functor
pub record OfPlace (h : Held) (ranks : List ℕ) (p : ℕ) : Type 0 where
  pub ranked : Ranked h ranks
  pub inside : p < length h.words

pub record OfSet (h : Held) (ranks : List ℕ) (p : ℕ) : Type 0 where
  pub ranked : Ranked h ranks
  pub inside : p < length h.words
  pub member : get_or h.words p 0 ≡ MEMBER

pub record OfFunctor (h : Held) (ranks : List ℕ) (p : ℕ) : Type 0 where
  pub ranked : Ranked h ranks
  pub known : Known h p
  pub no_mark : 2 ≤ get_or h.words p 0
