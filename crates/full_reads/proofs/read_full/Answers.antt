use Rattle.std.proofs.Common.{◌≡◌, ℕ, ◌+◌, ◌-◌, ◌≤◌, List, ◌++◌, rules, length, take, drop, sym, ap, ◌∙◌, subst, le_refl, drop_at, length-take-le}
use Rattle.std.proofs.lemmas.Slice.{take-put_mid_below}
use Rattle.std.specs.Io.KnownBytes.{Consumes}
use Rattle.std.proofs.KnownBytes.{Consumes-trans}
use borrow.Rule.Slice.PartMut.{put_mid, post_of}
use lib.Seq.{take-add, take-append-le}
use Rattle.full_reads.proofs.read_full.Goals as goal

-- what was read first, and then what the last read put after it
read_after : (a k n : ℕ) (xs ys : List ℕ) → a ≤ length xs → n ≤ length ys → take a xs ++ take n ys ≡ take (a + n) (put_mid a k xs ys)
read_after a k n xs ys within fits =
    let whole = put_mid a k xs ys in
    let after = post_of a k xs in
    let front = take-put_mid_below a k xs ys a (le_refl a) within in
    let rest : take n (drop a whole) ≡ take n ys = ap (take n) (drop_at (take a xs) (ys ++ after) a (length-take-le a xs within)) ∙ take-append-le n ys after fits in
    sym (take-add a n whole ∙ ap (λ l. l ++ take n (drop a whole)) front ∙ ap (λ l. take a xs ++ l) rest)

pub loop-filled-preserved : goal.loop-filled-preserved
loop-filled-preserved g c =
    let filled = c.loop-filled.filled in
    let buffer = c.loop-filled.buffer in
    let room = length buffer - filled in
    let joined = read_after filled room c.in_ok-more.more buffer c.read.new.buf c.loop-filled.invariant.0 c.in_ok-more.ensures.bound.0 in
    (search rules, search rules, subst (Consumes _ _) joined (Consumes-trans _ _ _ _ _ c.loop-filled.invariant.2 c.in_ok-more.ensures.bytes.0))
