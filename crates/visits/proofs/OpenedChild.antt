-- A child that is opened: its row stands where it was written, the number before it, and what is noted of it is what the definitions say.
use Prim.Native.Nat.{ℕ, ◌+◌, ◌*◌, ◌-◌, ◌≤◌}
use mathlib.Core.Path.{◌≡◌, sym, ap, ◌∙◌}
use mathlib.Core.List.{List}
use native.Mathlib.Omega.{arith}
use native.Mathlib.Nat.{mul-le-mul}
use lib.ListN.{length, take, drop}
use Rattle.std.proofs.Common.{Option, Some, None, Continue, Break}
use Rattle.room.specs.Room.{seg, put}
use Rattle.room.specs.Layout.{HEADER, stride}
use Rattle.search.specs.declared.ends.End.TheVariants.{Space}
use Rattle.search.specs.declared.limits.Limits.{Limits}
use Rattle.search.specs.RunLimits.{most_depth, most_size}
use Rattle.rows.specs.declared.parts.Reached.TheVariants.{Live}
use Rattle.results.specs.declared.ran.Record.{Record}
use Rattle.counters.specs.Counted.{counted}
use Rattle.answer_record.specs.Noting.{answer_in, note_by, held_by, Notable}
use Rattle.visits.specs.ChildNumber.{number_words, part-after}
use Rattle.visits.specs.DueNode.{Turn, OpenParts, child_place, child_row, noted_turn, node_turn, node_room, node_answers}

pub place_small : {level size : ℕ} → level ≤ most_depth → size ≤ most_size → level * stride size ≤ 8396800
place_small {level} {size} h k = mul-le-mul {n₁ = level} {m₁ = size + HEADER} {n₂ = 1024} {m₂ = 8200} h (omega arith)

module _ {limits : Limits} {level : ℕ} {l a : List ℕ} {r : Record} {number : ℕ} (P : OpenParts limits level l a r number) {room : List ℕ} {more : Record} (next : ℕ)
    (e : room ≡ put l (level * stride limits.size + 5) (number_words next)) (m : more ≡ counted r 1) where
  abbrev part : List ℕ
  part = take (child_place limits level + stride limits.size - child_place limits level) (drop (child_place limits level) room)

  row_now : part ≡ child_row limits level l
  unfolding seg
  row_now =
      let n : child_place limits level + stride limits.size - child_place limits level ≡ limits.size + HEADER = omega arith in
      rw (n, e) (part-after l (level * stride limits.size) next (child_place limits level) (stride limits.size) (omega arith))

  pub note_asks : Notable part a more
  note_asks = rw (row_now, m) P.notable

  module _ (after : next ≡ number + 1) {n : Option Record} {last : List ℕ} (told : (n ≡ note_by (answer_in part) (length a) more) × (last ≡ held_by (answer_in part) a more)) where
    abbrev Opened : Turn → Type 0
    Opened t = (t ≡ node_turn limits level l (length a) r Live) × ((room ≡ node_room limits level l number Live) × (last ≡ node_answers limits level l a r Live))

    noted_as : n ≡ note_by (answer_in (child_row limits level l)) (length a) (counted r 1)
    noted_as = told.0 ∙ rw (row_now, m)

    room_as : room ≡ node_room limits level l number Live
    unfolding node_room
    room_as = e ∙ ap (λ (k : ℕ). put l (level * stride limits.size + 5) (number_words k)) after

    pub opened_held : {noted : Record} → n ≡ Some noted → Opened (Continue (record { level = level + 1; counts = noted }))
    unfolding node_turn node_answers noted_turn
    opened_held {noted} h = (rw (sym noted_as ∙ h), (room_as, told.1 ∙ rw (row_now, m)))

    pub opened_space : n ≡ None → Opened (Break (record { end = Space; counts = more }))
    unfolding node_turn node_answers noted_turn
    opened_space h = (rw (sym noted_as ∙ h, m), (room_as, told.1 ∙ rw (row_now, m)))
