-- `replace_word` meets its contract: `Word` says what stands for the word in each case.
use mathlib.Core.Path.{◌∙◌}
use native.Mathlib.Omega.{arith}
use Rattle.room.specs.Parts.{apart_part}
use Rattle.replace.proofs.Word.{same_fits, same_full, other_fits, other_full}
use Rattle.replace.proofs.replace_word.Goals as goal

pub returns-then-capacity-m : goal.returns-then-capacity-m
returns-then-capacity-m c =
    let both = same_full c.args.room.now c.args.from c.args.x c.args.by c.args.m c.args.to c.args.capacity c.requires.from_within c.requires.by_within c.if-w-x.true c.if-capacity-m.true in
    record { value = both.0; room_after = both.1 }

pub copy-requires : goal.copy-requires
copy-requires c =
    let P = c.requires in
    record { from_within = P.by_within; to_within = omega (arith, P.to_within); apart = apart_part P.by_apart (omega arith) (omega arith) (omega arith) (omega arith) }

pub returns-then-w-x : goal.returns-then-w-x
returns-then-w-x c =
    let S = same_fits c.args.room.now c.args.from c.args.x c.args.by c.args.m c.args.to c.args.capacity c.requires.from_within c.requires.by_within c.if-w-x.true (omega (arith, c.if-capacity-m.false)) in record { value = S.0; room_after = c.copy.ensures ∙ S.1 }

pub returns-then-capacity-lt1 : goal.returns-then-capacity-lt1
returns-then-capacity-lt1 c =
    let both = other_full c.args.room.now c.args.from c.args.x c.args.by c.args.m c.args.to c.args.capacity c.requires.from_within c.requires.by_within c.if-w-x.false c.if-capacity-lt1.true in
    record { value = both.0; room_after = both.1 }

pub returns : goal.returns
returns c =
    let both = other_fits c.args.room.now c.args.from c.args.x c.args.by c.args.m c.args.to c.args.capacity c.requires.from_within c.requires.by_within c.if-w-x.false (omega (arith, c.if-capacity-lt1.false)) in
    record { value = both.0; room_after = both.1 }
