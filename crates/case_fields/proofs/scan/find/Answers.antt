use Rattle.std.proofs.Common.{rules, tests}
use Rattle.std.proofs.lemmas.Iterator.{YieldsList-from_slice}
use Rattle.std.proofs.lemmas.Iterator.Search.{position_from_yields_List}
use Rattle.case_fields.proofs.FieldLaws.{found}
use Rattle.case_fields.specs.Line.{index_of}
use Rattle.case_fields.proofs.scan.find.Goals as goal

pub returns-clause-value : goal.returns-clause-value
unfolding index_of
returns-clause-value c =
    found
    c.args.byte
    c.args.bytes.now
    _
    (position_from_yields_List _ _ _ _ c.position.ensures.ran (YieldsList-from_slice c.args.bytes.now cc) (λ x b q k. search (rules, tests)))
