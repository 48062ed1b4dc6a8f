use Rattle.std.proofs.Common.{◌≡◌, ◌+◌, ◌-◌, ◌<◌, sym, ◌∙◌, arith, length}
use Rattle.checks.proofs.Checking.{checked-out, checked-all, checked_short, term_step, term_at, name_step, name_at, count_step, left_at}
use Rattle.checks.proofs.check.check_words.Goals as goal
use Rattle.checks.proofs.check.check_words.Goals.{then-place-terms_end+in-Ok+else-words-terms_end, else-place-terms_end+then-bindings_due-gt0+else-unknowns-from, else-place-terms_end+else-bindings_due-gt0+then-answers_due-gt0, then-words-terms_end-2-via-then-words-terms_end-2, then-words-terms_end-2-via-else-words-terms_end-2+then-bindings_due-gt0-2, then-words-terms_end-2-via-else-words-terms_end-2+else-bindings_due-gt0-2+then-answers_due-gt0-2}

pub returns-then-words-terms : goal.returns-then-words-terms
returns-then-words-terms c =
    c.check_short.ensures ∙ sym (checked_short _ _ _ c.args.words.now 0 _ _ _ (omega arith))

pub returns-then-words-terms_end : goal.returns-then-words-terms_end
returns-then-words-terms_end c =
    c.check_short-then-words-terms_end.ensures
    ∙ sym (c.loop-place.invariant.0
    ∙ term_step _ _ _ _ _ c.loop-place-test.true c.what_follows.ensures _ _ _ _ (omega arith) c.in-Ok.is
    ∙ checked_short _ _ _ c.args.words.now (c.loop-place.place + 1) _ _ _ (omega arith))

pub returns-in-Err : goal.returns-in-Err
returns-in-Err c =
    sym (c.loop-place.invariant.0
    ∙ term_at _ _ _ _ _ c.loop-place-test.true c.what_follows.ensures _ _ _ _ (omega arith) c.in-Err.is)

pub loop-place-preserved : goal.loop-place-preserved
loop-place-preserved c =
    elim c.if-place-terms_end.branch [
      | then-place-terms_end+in-Ok+else-words-terms_end w ↦
          let due : c.if-place-terms_end.terms_end - (c.loop-place.place + 1) ≡ c.loop-place.terms_end - c.loop-place.place - 1 + w.in-Ok.more = omega arith in (
            rw (w.answers_due-is, w.bindings_due-is, due)
                (c.loop-place.invariant.0 ∙ term_step _ _ _ _ _ c.loop-place-test.true w.what_follows.ensures _ _ _ _ (omega arith) w.in-Ok.is),
            rw w.terms_end-is (omega arith),
          )
      | else-place-terms_end+then-bindings_due-gt0+else-unknowns-from w ↦
          let due : c.if-place-terms_end.terms_end - (c.loop-place.place + 1) ≡ 1 = omega arith in (
            rw (w.answers_due-is, w.bindings_due-is, due)
                (c.loop-place.invariant.0
                ∙ name_step _ _ _ _ _ c.loop-place-test.true _ _ _ (omega arith) w.if-bindings_due-gt0.true
                (rw w.from.ensures at w.if-unknowns-from.false)),
            rw w.terms_end-is (omega arith),
          )
      | else-place-terms_end+else-bindings_due-gt0+then-answers_due-gt0 w ↦
          let due : c.if-place-terms_end.terms_end - (c.loop-place.place + 1) ≡ c.loop-place.terms_end - c.loop-place.place = omega arith in (
            rw (w.answers_due-is, w.bindings_due-is, due, w.from-bindings_due.ensures)
                (c.loop-place.invariant.0 ∙ count_step _ _ _ _ _ c.loop-place-test.true _ _ _ (omega arith) (omega arith) w.if-answers_due-gt0.true),
            rw w.terms_end-is (omega arith),
          )
    ]

pub returns-then-unknowns-from : goal.returns-then-unknowns-from
returns-then-unknowns-from c =
    sym (c.loop-place.invariant.0
    ∙ name_at _ _ _ _ _ c.loop-place-test.true _ _ _ (omega arith) c.if-bindings_due-gt0.true
    (rw c.from.ensures at c.if-unknowns-from.true))

pub returns-else-answers_due-gt0 : goal.returns-else-answers_due-gt0
returns-else-answers_due-gt0 c =
    sym (c.loop-place.invariant.0 ∙ left_at _ _ _ _ _ c.loop-place-test.true _ _ _ (omega arith) (omega arith) (omega arith))

pub returns-then-words-terms_end-2 : goal.returns-then-words-terms_end-2
returns-then-words-terms_end-2 c =
    let end : c.loop-place.place ≡ length c.args.words.now = omega arith in
    let some : 0 < c.loop-place.answers_due + c.loop-place.bindings_due + (c.loop-place.terms_end - c.loop-place.place) =
    elim c.then-words-terms_end-2.branch [
      | then-words-terms_end-2-via-then-words-terms_end-2 w ↦ omega arith
      | then-words-terms_end-2-via-else-words-terms_end-2+then-bindings_due-gt0-2 w ↦ omega arith
      | then-words-terms_end-2-via-else-words-terms_end-2+else-bindings_due-gt0-2+then-answers_due-gt0-2 w ↦ omega arith
    ] in
    rw (← end) (sym (c.loop-place.invariant.0 ∙ checked-out _ _ _ _ _ _ _ _ c.loop-place-test.false some))

pub returns : goal.returns
returns c =
    sym (c.loop-place.invariant.0 ∙ checked-all _ _ _ _ _ _ _ _ c.loop-place-test.false (omega arith) (omega arith) (omega arith))
