use Rattle.rows.specs.First.{header_in}
use Rattle.rows.proofs.first.read_header.Goals as goal

pub returns : goal.returns
unfolding header_in
returns c = rw (c.from.ensures, c.from-2.ensures, c.from-3.ensures, c.from-4.ensures, c.from-5.ensures)
