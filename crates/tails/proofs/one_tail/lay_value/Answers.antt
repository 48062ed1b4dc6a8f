use Rattle.tails.proofs.ValueLaid.{tail_parts, value-length, value_short, value-put}
use Rattle.tails.proofs.one_tail.lay_value.Goals as goal

pub copy-requires : goal.copy-requires
copy-requires c = tail_parts c.requires _ c.tail_members-k.ensures.value c.tail_members-k.ensures.room_after

pub returns : goal.returns
returns c = record { value = (value-length c.requires _ c.tail_members-k.ensures.value c.tail_members-k.ensures.room_after, value_short c.requires _ c.tail_members-k.ensures.value c.tail_members-k.ensures.room_after); room_after = value-put c.requires _ c.tail_members-k.ensures.value c.tail_members-k.ensures.room_after c.copy.ensures }
