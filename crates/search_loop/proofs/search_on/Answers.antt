use mathlib.Core.Path.{refl}
use Rattle.search_loop.proofs.Looping.{less, again, ends_so}
use Rattle.search_loop.proofs.search_on.Goals as goal

pub loop-next-init : goal.loop-next-init
loop-next-init c = record { room_long = refl; answers_long = refl; to = c.requires.0; running = c.requires.1; same = λ given R. R }

pub take_turn-taken-requires : goal.take_turn-taken-requires
take_turn-taken-requires c = (c.loop-next.invariant.to, c.loop-next.invariant.running)

pub loop-next-smaller : goal.loop-next-smaller
loop-next-smaller c =
    let invariant = c.loop-next.invariant in
    let take_turn_told = c.take_turn-taken.ensures in
    less invariant take_turn_told c.in-Continue.is

pub loop-next-preserved : goal.loop-next-preserved
loop-next-preserved c =
    again c.loop-next.invariant c.take_turn-taken.ensures c.room-1.given c.answers-1.given c.in-Continue.is

pub returns-in-Break : goal.returns-in-Break
returns-in-Break c =
    let invariant = c.loop-next.invariant in
    let take_turn_told = c.take_turn-taken.ensures in
    ends_so invariant take_turn_told c.in-Break.is
