use Rattle.splits.proofs.Sharing.{rest-parts, again-parts, again-made}
use Rattle.tails.proofs.Making.{finished_elsewhere}
use Rattle.room.specs.Room.{seg}
use Rattle.splits.proofs.different.bind_again.Goals as goal

pub rest_of-rest-requires : goal.rest_of-rest-requires
unfolding seg
rest_of-rest-requires c = rest-parts c.requires.again c.read_header-header.ensures

pub finish-requires : goal.finish-requires
unfolding seg
finish-requires c = again-parts c.requires.again c.read_header-header.ensures c.rest_of-rest.ensures

pub returns : goal.returns
unfolding seg
returns c =
    let read_header_told = c.read_header-header.ensures in
    let finish_told = c.finish.ensures in
    record { makes = λ st name value A. again-made A read_header_told c.rest_of-rest.ensures finish_told; kept = λ from scratch T. finished_elsewhere T finish_told }
