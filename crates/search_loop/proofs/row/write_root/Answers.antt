-- `root::row::write_root`: the body is put first, then the header.
use mathlib.Core.Path.{◌∙◌}
use Rattle.search_loop.specs.Root.{rooted}
use Rattle.search_loop.proofs.row.write_root.Goals as goal

pub returns : goal.returns
unfolding rooted
returns c = c.seal.ensures ∙ rw c.copy_in.ensures
