-- Terms put together of formed parts, and taken apart, are formed: members and kernel of a set, the arguments of a functor. And a formed unknown's
-- number is below n.
use Rattle.std.specs.Prelude.{ℕ, ◌<◌, List}
use Rattle.terms.specs.Lists.{All, none, both}
use Rattle.terms.specs.Term.{Term, Terms, unknown, members, kernel, over, list}
use Rattle.terms.specs.Formed.{Formed, Formed*, formed_unknown, formed_empty, formed_with, formed_functor, formed_none, formed_more}

module _ {arities : List ℕ} {n : ℕ} where
  pub unknown_below : {i : ℕ} → Formed arities n (unknown i) → i < n
  unknown_below (formed_unknown h) = h

  pub formed_members : {t : Term} → Formed arities n t → All (Formed arities n) (members t)
  unfolding members
  formed_members (formed_unknown h) = none
  formed_members formed_empty = none
  formed_members (formed_with f g) = both f (formed_members g)
  formed_members (formed_functor h e f) = none

  pub formed_kernel : {t : Term} → Formed arities n t → Formed arities n (kernel t)
  unfolding kernel
  formed_kernel (formed_unknown h) = formed_unknown h
  formed_kernel formed_empty = formed_empty
  formed_kernel (formed_with f g) = formed_kernel g
  formed_kernel (formed_functor h e f) = formed_functor h e f

  pub formed_over : {ms : List Term} {k : Term} → All (Formed arities n) ms → Formed arities n k → Formed arities n (over ms k)
  unfolding over
  formed_over none g = g
  formed_over (both f fs) g = formed_with f (formed_over fs g)

  pub formed_list : {ts : Terms} → Formed* arities n ts → All (Formed arities n) (list ts)
  unfolding list
  formed_list formed_none = none
  formed_list (formed_more f g) = both f (formed_list g)
