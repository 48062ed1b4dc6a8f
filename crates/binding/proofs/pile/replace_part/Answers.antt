use Rattle.binding.proofs.Absent.{whole_parts, absent_entries, absent_full, absent_others}
use Rattle.binding.proofs.pile.replace_part.Goals as goal

pub returns-in-Entries : goal.returns-in-Entries
returns-in-Entries c =
    rw c.in-Entries.is (absent_entries _ c.requires.0 _ c.is_in.ensures c.if-not-is_in.true-raw)

pub returns-then-capacity-n : goal.returns-then-capacity-n
returns-then-capacity-n c =
    rw c.in-Others.is (absent_full _ c.requires.0 _ c.is_in.ensures c.if-not-is_in.true-raw c.if-capacity-n.true)

pub copy-requires : goal.copy-requires
copy-requires c = whole_parts c.requires.0 c.if-capacity-n.false

pub returns-in-Others : goal.returns-in-Others
returns-in-Others c =
    let is_in_told = c.is_in.ensures in
    let if1 = c.if-not-is_in.true-raw in
    rw c.in-Others.is (absent_others _ c.requires.0 _ is_in_told if1 c.if-capacity-n.false c.copy.ensures)
