use Rattle.std.proofs.Common.{sym, ap, ◌∙◌, arith}
use Rattle.word_writer.specs.OpenBrackets.{innermost}
use Rattle.word_writer.proofs.Stack.{brackets_none, brackets_some}
use Rattle.word_writer.proofs.bracket.Brackets.innermost.Goals as goal

pub returns-then-self-eq0 : goal.returns-then-self-eq0
unfolding innermost
returns-then-self-eq0 g c = ap innermost (sym (brackets_none _ _ c.if-self-eq0.true) ∙ c.self.view_is)

pub returns : goal.returns
unfolding innermost
returns g c = ap innermost (sym (brackets_some _ _ (omega (arith, c.if-self-eq0.false))) ∙ c.self.view_is)
