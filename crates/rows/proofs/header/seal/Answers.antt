use Rattle.rows.specs.Header.{header_of}
use Rattle.room.specs.Room.{put}
use borrow.Author.Rules.{rules}
use Rattle.rows.proofs.header.seal.Goals as goal

pub returns : goal.returns
unfolding put header_of
returns c = search rules
