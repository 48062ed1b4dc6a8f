-- What a run gives that C calls: the reply to the entry's answer, and the buffers as the entry leaves them.
use Rattle.std.specs.Prelude.{ℕ, List, Result}
use Rattle.terms.specs.declared.refusal.Refusal.{Refusal}
use Rattle.results.specs.Result.{RunGives, Told, result}
use Rattle.results.specs.declared.ran.Ending.{Ending}
use Rattle.c_replies.specs.Replies.{Replied, of_ran}

-- by what the entry tells; of each number, of the place and of each buffer what it is before and after
pub record RunReplied (t : Told) (back : ℕ) (numbers numbers_after : List ℕ) (place place_after : ℕ) (answers answers_after room room_after : List ℕ) : Type 0 where
  pub reply : Replied (of_ran (result t)) back numbers numbers_after place place_after
  pub gives : RunGives t (result t) answers answers_after room room_after

-- so a call gives it that hands on the entry's answer
module _ {back : ℕ} {numbers numbers_after : List ℕ} {place place_after : ℕ} where
  pub run_replied : {t : Told} {ran : Result Ending Refusal} {answers answers_after room room_after : List ℕ} → RunGives t ran answers answers_after room room_after
      → Replied (of_ran ran) back numbers numbers_after place place_after → RunReplied t back numbers numbers_after place place_after answers answers_after room room_after
  run_replied g h = record { reply = rw g.told_back at h; gives = rw g.told_back at g }
