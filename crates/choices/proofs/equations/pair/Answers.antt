use Rattle.choices.proofs.equations.pair.Goals as goal

pub returns-then-turned : goal.returns-then-turned
returns-then-turned c = rw c.if-turned.true c.equation.ensures

pub returns : goal.returns
returns c = rw c.if-turned.false c.equation-2.ensures
