-- What a granted run tells C, number by number.
use Rattle.std.specs.Prelude.{◌≡◌, refl, [], ◌∷◌, length}
use Rattle.terms.specs.Answers.{listed}
use Rattle.search.specs.Ends.{end_number}
use Rattle.search.specs.Run.{Outcome}
use Rattle.results.specs.Loans.{ending}
use Rattle.results.specs.Result.{gives, result}
use Rattle.c_replies.specs.Replies.{granted, of_ran}

pub run_granted : (o : Outcome) → of_ran (result (gives o)) ≡ granted (end_number o.end ∷ o.visited ∷ length o.answers ∷ length (listed o.answers) ∷ [])
unfolding result ending
run_granted o = refl
