use Rattle.std.proofs.Common.{◌∙◌, ltb, rules, lt-ltb}
use Rattle.std.proofs.lemmas.Iterator.{YieldsList-from_slice}
use Rattle.std.proofs.lemmas.Iterator.Search.{any_from_yields_List}
use Rattle.terms.specs.Bounds.{edition_one}
use Rattle.checks.specs.Check.{arities_above}
use Rattle.lent_words.proofs.Limits.{not_too_many}
use Rattle.lent_words.proofs.above_limits.Goals as goal

pub returns-then-arities-gt-FUNCTORS : goal.returns-then-arities-gt-FUNCTORS
unfolding arities_above edition_one
returns-then-arities-gt-FUNCTORS c = rw (lt-ltb _ _ c.if-arities-gt-FUNCTORS.true)

pub returns-else-arities-gt-FUNCTORS : goal.returns-else-arities-gt-FUNCTORS
unfolding edition_one
returns-else-arities-gt-FUNCTORS c =
    any_from_yields_List (ltb 8) _ _ _ c.any.ensures.ran (YieldsList-from_slice c.args.arities.now cc) (λ x b q k. search rules)
    ∙ not_too_many edition_one c.args.arities.now c.if-arities-gt-FUNCTORS.false
