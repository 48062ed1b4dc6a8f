-- `solver::start`: `Rooting` says what ends the run before its root is opened, and that the root's row holds the question.
use native.Mathlib.Omega.{arith}
use Rattle.search_loop.proofs.RootRun.{row_fits}
use Rattle.solver.proofs.Rooting.{no_steps, too_large, rooted_so, unknowns_small}
use Rattle.solver.proofs.start.Goals as goal

pub returns-then-limits-eq0 : goal.returns-then-limits-eq0
returns-then-limits-eq0 c = no_steps c.requires c.args.answers.now c.if-limits-eq0.true

pub returns-then-limits-words : goal.returns-then-limits-words
returns-then-limits-words c =
    too_large c.requires c.args.answers.now c.if-limits-eq0.false c.if-limits-words.true

pub write_root-requires : goal.write_root-requires
write_root-requires c = (
  omega (arith, row_fits c.requires.suits, c.if-limits-words.false),
  (omega (arith, c.if-limits-words.false, c.requires.suits.size), omega (arith, unknowns_small c.requires)),
)

pub enter_root-requires : goal.enter_root-requires
enter_root-requires c =
    (_, rooted_so c.requires c.args.answers.now c.if-limits-eq0.false c.if-limits-words.false c.write_root.ensures)

pub returns : goal.returns
returns c =
    c.enter_root.ensures _
    (rooted_so c.requires c.args.answers.now c.if-limits-eq0.false c.if-limits-words.false c.write_root.ensures)
