use Rattle.std.proofs.Common.{◌-◌}
use Rattle.lines.specs.Lines.{repeat}
use Rattle.word_writer.specs.Passages.{Rest}
use Rattle.lines.proofs.each.write_each.Given as goal

abbrev pub invariant-loop : goal.invariant-loop
invariant-loop g l =
    let thing = g.T.Thing.thing_at l.arities l.words in
    Rest (repeat thing l.count l.from) l.initial.text l.at (repeat thing (l.count - l.counter) l.passage.word) l.text l.passage.at
