-- `terms::kind::kind_of` meets its contract: each arm says in which range the word lies.
use mathlib.Core.Path.{sym}
use native.Mathlib.Omega.{arith}
use Rattle.terms.specs.Bounds.{edition_one, edition_one_proper}
use Rattle.terms.specs.Kind.{kind, kind-nothing, kind_of_unknown, kind_of_functor, within-before, within-after}
use Rattle.terms.proofs.kind.kind_of.Goals as goal

pub returns-in-0 : goal.returns-in-0
unfolding kind
returns-in-0 c = rw c.in-0.is

pub returns-in-1 : goal.returns-in-1
unfolding kind
returns-in-1 c = rw c.in-1.is

pub returns-in-1000-to-1999 : goal.returns-in-1000-to-1999
unfolding edition_one
returns-in-1000-to-1999 c = sym (kind_of_unknown edition_one_proper _ (omega arith) (omega arith))

pub returns-in-2000-to-2999 : goal.returns-in-2000-to-2999
unfolding edition_one
returns-in-2000-to-2999 c = sym (kind_of_functor edition_one_proper _ (omega arith) (omega arith))

pub returns-in_default : goal.returns-in_default
unfolding edition_one
returns-in_default c = sym (kind-nothing edition_one _ (omega arith) (within-before _ _ _ (omega arith)) (within-before _ _ _ (omega arith)))

pub returns-in_default-2 : goal.returns-in_default-2
unfolding edition_one
returns-in_default-2 c = sym (kind-nothing edition_one _ (omega arith) (within-after _ _ _ (omega arith)) (within-after _ _ _ (omega arith)))
