-- `terms::kind::terms_after` meets its contract: each arm says which case of `takes` holds.
use mathlib.Core.Path.{◌≡◌, sym, ◌∙◌}
use Prim.Native.Nat.{◌-◌}
use native.Mathlib.Omega.{arith}
use lib.ListN.{get_or}
use Rattle.std.proofs.Common.{rules}
use Rattle.terms.specs.Bounds.{edition_one, FIRST_UNKNOWN, UNKNOWN_WORDS, FIRST_FUNCTOR}
use Rattle.terms.specs.Kind.{takes, takes_none, takes_table, within-after}
use Rattle.terms.proofs.kind.terms_after.Goals as goal

pub returns-in-1 : goal.returns-in-1
unfolding takes edition_one
returns-in-1 c = rw c.in-1.is

pub returns-in-2000-to-65535 : goal.returns-in-2000-to-65535
unfolding edition_one
returns-in-2000-to-65535 c =
    let e : c.unwrap_or.result ≡ get_or c.args.arities.now (c.args.word - FIRST_FUNCTOR) 0 = search rules in
    e ∙ sym (takes_table edition_one _ (λ e. omega arith) (within-after FIRST_UNKNOWN UNKNOWN_WORDS _ (omega arith)) (omega arith))

pub returns-in_default : goal.returns-in_default
unfolding edition_one
returns-in_default c = sym (takes_none edition_one _ (λ e. omega arith) (omega arith))
