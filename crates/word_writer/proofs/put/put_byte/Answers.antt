use Rattle.std.proofs.Common.{◌≡◌, ◌+◌, rules}
use Rattle.word_writer.specs.Pen.{counted}
use Rattle.word_writer.specs.Writing.{wrote_byte, wrote_past}
use Rattle.word_writer.proofs.put.put_byte.Goals as goal
use Rattle.word_writer.proofs.put.put_byte.Goals.{then-at-text, else-at-text}

pub returns : goal.returns
unfolding counted
returns c =
    elim c.if-at-text.branch [
      | then-at-text w ↦
          let next : c.saturating_add.result ≡ c.args.at + 1 = search rules in
          rw (w.text-is, next) (wrote_byte _ (search rules) w.if-at-text.true)
      | else-at-text w ↦ rw (w.text-is, c.saturating_add.ensures) (wrote_past _ (search rules) w.if-at-text.false)
    ]
