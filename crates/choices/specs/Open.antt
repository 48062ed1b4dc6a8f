-- The two sides of a split's equation opened: what is noted of them.
use Rattle.std.specs.Prelude.{ℕ, ◌+◌, ◌*◌, ◌<◌, ◌≤◌, ◌^◌, ◌≡◌, List, ◌++◌, length}
use Rattle.room.specs.Room.{seg, put}
use Rattle.room.specs.Layout.{HEADER, stride, right_row}
use Rattle.terms.specs.Bounds.{edition_one}
use Rattle.terms.specs.Kind.{Worded}
use Rattle.terms.specs.Term.{Term, words, size, members}
use Rattle.terms.specs.Formed.{Formed}
use Rattle.search.specs.RunLimits.{most_size}
use Rattle.rows.specs.Terms.Stripped.{kernel_place}
use Rattle.choices.specs.declared.sides.Sides.{Sides}
use Rattle.choices.specs.MemberPlaces.{places}

pub record Open (arities l : List ℕ) (from right end lent scratch k : ℕ) (t u : Term) : Type 0 where
  pub worded : Worded edition_one arities k
  pub formed_t : Formed arities k t
  pub formed_u : Formed arities k u
  pub stands : seg l (from + HEADER) end ≡ words edition_one t ++ words edition_one u
  pub right_is : right ≡ size t
  pub end_is : end ≡ size t + size u
  pub fits : end ≤ lent
  pub row : from + stride lent ≤ scratch
  pub space : scratch + 7 * stride lent ≤ length l
  pub lent_small : lent ≤ most_size
  pub small : length l < 2 ^ 32

pub record OpenParts (arities l : List ℕ) (from right end lent scratch : ℕ) : Type 0 where
  pub k : ℕ
  pub t : Term
  pub u : Term
  pub open_there : Open arities l from right end lent scratch k t u

-- the numbers of members, the sides' and the tails' places, and the places noted
pub record OpenSides (l : List ℕ) (right end lent scratch : ℕ) (t u : Term) (a : Sides) (r : List ℕ) : Type 0 where
  pub room : r ≡ put (put l scratch (places t 0)) (right_row lent scratch) (places u (size t))
  pub n_is : a.n ≡ length (members t)
  pub m_is : a.m ≡ length (members u)
  pub right_is : a.right ≡ right
  pub end_is : a.end ≡ end
  pub s_is : a.s ≡ kernel_place t
  pub r_is : a.r ≡ size t + kernel_place u

pub record SidesOpened (arities l : List ℕ) (from right end lent scratch : ℕ) (a : Sides) (r : List ℕ) : Type 0 where
  pub opened : (k : ℕ) (t u : Term) → Open arities l from right end lent scratch k t u → OpenSides l right end lent scratch t u a r
