use Rattle.binding.proofs.RestCopied.{keep_seal_parts, keep_sealed, keep_large}
use Rattle.binding.proofs.Finishing.{row_sum}
use Rattle.rows.specs.Finished.{body-part}
use native.Mathlib.Omega.{arith}
use Rattle.binding.proofs.keep.keep.Goals as goal

pub keep_rest-requires : goal.keep_rest-requires
keep_rest-requires c = body-part c.requires

pub overflow_add-body : goal.overflow_add-body
overflow_add-body c = let s = row_sum c.requires c.in_ok-k.ensures in omega (arith, c.requires.size_small)

pub seal-requires : goal.seal-requires
seal-requires c = keep_seal_parts c.requires c.in_ok-k.ensures

pub returns : goal.returns
returns c = keep_sealed c.requires c.in_ok-k.ensures c.seal.ensures

pub returns-in_err-k : goal.returns-in_err-k
returns-in_err-k c = rw c.from_residual.ensures (keep_large c.requires c.in_err-k.ensures)
