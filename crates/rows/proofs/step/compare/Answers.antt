use Rattle.rows.proofs.StepTests.{compared_apart, compared_empty, compared-sets, compared_functors}
use native.Mathlib.Omega.{arith}
use mathlib.Core.Path.{sym, ◌∙◌}
use Rattle.rows.proofs.step.compare.Goals as goal

pub returns-then-first-word_at : goal.returns-then-first-word_at
returns-then-first-word_at c = compared_apart _ _ _ (λ e. c.if-first-word_at.true (c.word_at-first.ensures ∙ e ∙ sym c.word_at.ensures))

pub returns-in-0 : goal.returns-in-0
returns-in-0 c =
    let told = c.word_at-first.ensures in
    compared_empty _ _ _ (sym told ∙ c.if-first-word_at.false ∙ c.word_at.ensures) (sym told ∙ c.in-0.is)

pub returns-in-1 : goal.returns-in-1
returns-in-1 c =
    let told = c.word_at-first.ensures in
    rw (c.tails_by_words.ensures, c.word_of_kernel-in-1.ensures, c.word_of_kernel.ensures)
    (compared-sets _ _ _ (sym told ∙ c.if-first-word_at.false ∙ c.word_at.ensures) (λ e. omega arith) (sym told ∙ c.in-1.is))

pub returns-in_default : goal.returns-in_default
returns-in_default c = compared_functors _ _ _ (sym c.word_at-first.ensures ∙ c.if-first-word_at.false ∙ c.word_at.ensures) (λ e. omega arith) (λ e. omega arith)
