-- Two unknowns bound one after the other, to sets that share a new tail: U and T laid out in scratch, and the second binding.
use Rattle.std.specs.Prelude.{ℕ, ◌+◌, ◌*◌, ◌<◌, ◌≤◌, ◌^◌, ◌≡◌, List, length, Option, Some}
use Rattle.room.specs.Room.{seg, put, Within}
use Rattle.room.specs.Parts.{Apart}
use Rattle.room.specs.Layout.{HEADER, stride, value_row, second_row, shared_row}
use Rattle.terms.specs.Bounds.{edition_one, PATH_UNKNOWNS, FIRST_UNKNOWN}
use Rattle.terms.specs.Kind.{Worded}
use Rattle.terms.specs.Lists.{All}
use Rattle.terms.specs.Term.{Term, unknown, words, subst, over}
use Rattle.terms.specs.Formed.{Formed}
use Rattle.search.specs.State.{State, live, state_size}
use Rattle.search.specs.Children.{bound_state}
use Rattle.search.specs.RunLimits.{most_size}
use Rattle.rows.specs.declared.parts.Rest.{Rest}
use Rattle.rows.specs.declared.parts.Made.{Made}
use Rattle.rows.specs.Terms.MemberWords.{member_words}
use Rattle.rows.specs.Row.{Fresh, Makes}
use Rattle.binding.specs.Child.{Stands, ahead}
use Rattle.replace.specs.Fitting.{told}
use Rattle.choices.specs.declared.sides.Sides.{Sides}
use Rattle.splits.specs.declared.different.Joined.{Joined}
use Rattle.choices.specs.OpenParent.{Parent, Opened, Elsewhere, to_left, to_right, news}
use Rattle.tails.specs.Due.{Due}
use Rattle.tails.specs.Bound.{Target}

-- ---- U and T

pub record Sharing (l : List ℕ) (lent scratch : ℕ) (p : Parent) (a : Joined) (r : List ℕ) : Type 0 where
  pub room : r ≡ put (put l (value_row lent scratch) (member_words edition_one (to_left p))) (second_row lent scratch) (member_words edition_one (to_right p))
  pub u_is : a.u ≡ length (member_words edition_one (to_left p))
  pub t_is : a.t ≡ length (member_words edition_one (to_right p))
  pub u_within : a.u ≤ lent
  pub t_within : a.t ≤ lent

pub record JoinedLaid (l : List ℕ) (from : ℕ) (sides : Sides) (lent scratch : ℕ) (a : Joined) (r : List ℕ) : Type 0 where
  pub laid : (arities : List ℕ) (rest : Rest) (next : ℕ) (p : Parent) → Opened arities l from rest sides lent next scratch p → Sharing l lent scratch p a r

-- ---- the second binding

pub record Again (arities l : List ℕ) (between x by m to lent next : ℕ) (st : State) (name : ℕ) (value : Term) : Type 0 where
  pub fresh : Fresh edition_one l between st
  pub fits : state_size st ≤ lent
  pub worded : Worded edition_one arities next
  pub formed : All (λ n. Formed arities next n.term) st.pile
  pub next_is : next ≡ st.next
  pub few : next ≤ PATH_UNKNOWNS
  pub lent_small : lent ≤ most_size
  pub small : length l < 2 ^ 32
  pub bindings_small : length st.bindings < 65535
  pub x_is : x ≡ FIRST_UNKNOWN + name
  pub name_small : name < FIRST_UNKNOWN
  pub stands : Stands l by m value
  pub below : to + stride lent ≤ between
  pub by_within : Within l by m
  pub by_apart : Apart by m to (stride lent)

pub record AgainParts (arities l : List ℕ) (between x by m to lent next : ℕ) : Type 0 where
  pub st : State
  pub name : ℕ
  pub value : Term
  pub again : Again arities l between x by m to lent next st name value

pub record AgainMade (arities l : List ℕ) (between x by m to lent next : ℕ) (a : Made) (r : List ℕ) : Type 0 where
  pub makes : (st : State) (name : ℕ) (value : Term) → Again arities l between x by m to lent next st name value
      → Makes edition_one l to lent (live (bound_state name value st)) a r
  -- wherever a parent's row and the scratch lie
  pub kept : (from scratch : ℕ) → Target l from lent scratch to → Elsewhere l r from lent scratch

-- ---- the two values

-- {U|N} and {T|N} with s replaced by it
unfoldable pub first_value : Parent → ℕ → Term
first_value p next = over (to_left p) (unknown next)

unfoldable pub second_value : Parent → (next s : ℕ) → Term
second_value p next s = subst s (first_value p next) (over (to_right p) (unknown next))

pub record ShareParts (l : List ℕ) (joined : Joined) (next lent scratch : ℕ) : Type 0 where
  pub space : scratch + 7 * stride lent ≤ length l
  pub u_within : joined.u ≤ lent
  pub t_within : joined.t ≤ lent
  pub few : next ≤ PATH_UNKNOWNS

pub record Shared (l : List ℕ) (joined : Joined) (s next lent scratch : ℕ) (p : Parent) (a : Option ℕ) (r : List ℕ) : Type 0 where
  pub long : length r ≡ length l
  pub below : seg r 0 (value_row lent scratch) ≡ seg l 0 (value_row lent scratch)
  pub first : Stands r (value_row lent scratch) (joined.u + 1) (first_value p next)
  pub tells : a ≡ told lent (words edition_one (second_value p next s))
  pub second : (j : ℕ) → a ≡ Some j → Stands r (shared_row lent scratch) j (second_value p next s)

pub record ShareMade (l : List ℕ) (joined : Joined) (x next lent scratch : ℕ) (a : Option ℕ) (r : List ℕ) : Type 0 where
  pub shared : (l₀ : List ℕ) (p : Parent) (s : ℕ) → Sharing l₀ lent scratch p joined l → x ≡ FIRST_UNKNOWN + s → s < FIRST_UNKNOWN → Shared l joined s next lent scratch p a r

-- ---- both bindings

-- s bound, and then r
unfoldable pub half : Parent → (next s : ℕ) → State
half p next s = bound_state s (first_value p next) (ahead (news p) (next + 1) p.st)

unfoldable pub twice : Parent → (next s r : ℕ) → State
twice p next s r = bound_state r (second_value p next s) (half p next s)

pub record Twice (arities l : List ℕ) (from : ℕ) (rest : Rest) (sides : Sides) (x u y m to lent next scratch : ℕ) (p : Parent) (s r : ℕ) : Type 0 where
  pub due : Due arities l from rest sides to lent next scratch p
  pub first : Stands l (value_row lent scratch) u (first_value p next)
  pub second : Stands l (shared_row lent scratch) m (second_value p next s)
  pub u_within : u ≤ lent + HEADER
  pub m_within : m ≤ lent
  pub few : next + 1 ≤ PATH_UNKNOWNS
  pub x_is : x ≡ FIRST_UNKNOWN + s
  pub y_is : y ≡ FIRST_UNKNOWN + r
  pub s_below : s < next
  pub r_below : r < next

pub record TwiceParts (arities l : List ℕ) (from : ℕ) (rest : Rest) (sides : Sides) (x u y m to lent next scratch : ℕ) : Type 0 where
  pub p : Parent
  pub s : ℕ
  pub r : ℕ
  pub parts : Twice arities l from rest sides x u y m to lent next scratch p s r

pub record TwiceMade (arities l : List ℕ) (from : ℕ) (rest : Rest) (sides : Sides) (x u y m to lent next scratch : ℕ) (a : Made) (q : List ℕ) : Type 0 where
  pub makes : (p : Parent) (s r : ℕ) → Twice arities l from rest sides x u y m to lent next scratch p s r → Makes edition_one l to lent (live (twice p next s r)) a q
  pub kept : Elsewhere l q from lent scratch

-- U and T are laid out, from the room l₀ on
pub record Renew (arities l : List ℕ) (from : ℕ) (rest : Rest) (sides : Sides) (joined : Joined) (x y to lent next scratch : ℕ) (l₀ : List ℕ) (p : Parent) (s r : ℕ) : Type 0 where
  pub due : Due arities l from rest sides to lent next scratch p
  pub sharing : Sharing l₀ lent scratch p joined l
  pub few : next + 1 ≤ PATH_UNKNOWNS
  pub x_is : x ≡ FIRST_UNKNOWN + s
  pub y_is : y ≡ FIRST_UNKNOWN + r
  pub s_below : s < next
  pub r_below : r < next

pub record RenewParts (arities l : List ℕ) (from : ℕ) (rest : Rest) (sides : Sides) (joined : Joined) (x y to lent next scratch : ℕ) : Type 0 where
  pub l₀ : List ℕ
  pub p : Parent
  pub s : ℕ
  pub r : ℕ
  pub parts : Renew arities l from rest sides joined x y to lent next scratch l₀ p s r

pub record RenewMade (arities l : List ℕ) (from : ℕ) (rest : Rest) (sides : Sides) (joined : Joined) (x y to lent next scratch : ℕ) (a : Made) (q : List ℕ) : Type 0 where
  pub makes : (l₀ : List ℕ) (p : Parent) (s r : ℕ) → Renew arities l from rest sides joined x y to lent next scratch l₀ p s r → Makes edition_one l to lent (live (twice p next s r)) a q
  pub kept : Elsewhere l q from lent scratch
