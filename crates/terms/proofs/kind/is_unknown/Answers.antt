use Rattle.std.proofs.Common.{arith}
use Rattle.std.proofs.lemmas.Bool.Decides.{nat_tests}
use Rattle.terms.specs.Kind.{within}
use Rattle.terms.proofs.kind.is_unknown.Goals as goal

pub returns : goal.returns
unfolding within
returns c = grind (arith, nat_tests, c.contains.ensures.value)
