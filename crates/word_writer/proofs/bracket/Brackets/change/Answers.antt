use Rattle.std.proofs.Common.{arith}
use Rattle.word_writer.proofs.Stack.{brackets_change, depth_is}
use Rattle.word_writer.proofs.bracket.Brackets.change.Goals as goal

pub overflow_sub-due : goal.overflow_sub-due
overflow_sub-due g c = omega (arith, depth_is _ _ c.self.view_is)

pub bounds-self-inside-self-inside : goal.bounds-self-inside-self-inside
bounds-self-inside-self-inside g c = omega (arith, depth_is _ _ c.self.view_is, c.self.invariant)

pub returns : goal.returns
returns g c =
    rw c.self.view_is at (brackets_change c.self.inside.held c.self.inside.depth c.args.due (omega (arith, depth_is _ _ c.self.view_is)) (omega (arith, c.self.told, c.self.invariant)))
