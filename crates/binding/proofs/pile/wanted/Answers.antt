use Rattle.rows.specs.Pile.{wants}
use Rattle.binding.proofs.pile.wanted.Goals as goal

pub returns-in-Entries : goal.returns-in-Entries
unfolding wants
returns-in-Entries c = rw c.in-Entries.is

pub returns-in-Others : goal.returns-in-Others
unfolding wants
returns-in-Others c = rw c.in-Others.is
