use Rattle.std.proofs.Common.{eqb, rules, refl}
use Rattle.std.proofs.lemmas.List.Recursion.{is_count_by}
use Rattle.case_fields.proofs.FieldLaws.{count_step}
use Rattle.case_fields.specs.Line.{count}
use Rattle.case_fields.proofs.line.tabs.Goals as goal

pub returns : goal.returns
unfolding count
returns c = search (rules, is_count_by (count 9) (λ x. eqb x 9) refl (count_step 9))
