use Rattle.std.proofs.Common.{arith}
use Rattle.word_writer.proofs.Stack.{brackets-put, depth_is}
use Rattle.word_writer.proofs.WordSteps.{opened, opened_not}
use Rattle.word_writer.proofs.bracket.Brackets.open.Goals as goal

pub returns-then-self : goal.returns-then-self
returns-then-self g c = opened_not _ _ _ _ (omega (arith, depth_is _ _ c.self.view_is, c.if-self.true))

pub returns : goal.returns
returns g c =
    let more = brackets-put c.self.inside.held c.self.inside.depth c.args.due (omega (arith, c.self.told, c.if-self.false)) in
    rw (more, c.self.view_is) (opened _ _ _ _ (omega (arith, depth_is _ _ c.self.view_is, c.if-self.false)) c.put_byte.ensures)
