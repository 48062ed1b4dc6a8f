-- `peek`: a byte of the text, or nothing past its end.
use Rattle.numerals.proofs.ByteTests.{of_byte_item}
use Rattle.numerals.proofs.bytes.peek.Goals as goal

pub returns : goal.returns
returns c = rw c.copied.ensures (of_byte_item _ _ _ c.get.ensures.lookup)
