use Rattle.tails.proofs.OpenSplit.{numbers}
use Rattle.splits.proofs.NothingBound.{s-place, s_apart, plain-parts, plain, keep-parts}
use Rattle.splits.proofs.SameTail.{due-laid, entry-within, entry_apart, same_full, same_made}
use Rattle.tails.proofs.Making.{child-made}
use Rattle.choices.specs.OpenParent.{news}
use native.Mathlib.Omega.{arith}
use mathlib.Core.Path.{refl}
use Rattle.splits.proofs.nothing_bound.same.Goals as goal

pub overflow_add-by-2 : goal.overflow_add-by-2
overflow_add-by-2 c = let N = numbers c.requires.due.opened in omega arith

pub offset_bounds-room-by : goal.offset_bounds-room-by
offset_bounds-room-by c = let h = s-place (due-laid c.requires.due c.lay_entry-l.ensures) in omega arith

pub bounds-room-by : goal.bounds-room-by
bounds-room-by c = let h = s-place (due-laid c.requires.due c.lay_entry-l.ensures) in omega arith

pub equations-requires : goal.equations-requires
equations-requires c =
    let lay_entry_told = c.lay_entry-l.ensures in
    plain-parts (due-laid c.requires.due lay_entry_told) _ (s-place (due-laid c.requires.due lay_entry_told)) (s_apart (due-laid c.requires.due lay_entry_told) 1 (omega arith))

pub keep-requires : goal.keep-requires
keep-requires c =
    let lay_entry_told = c.lay_entry-l.ensures in
    keep-parts (due-laid c.requires.due lay_entry_told) (news c.requires.p) (plain (due-laid c.requires.due lay_entry_told) _ (s-place (due-laid c.requires.due lay_entry_told)) (s_apart (due-laid c.requires.due lay_entry_told) 1 (omega arith)) refl c.in_ok-w.ensures) (entry-within c.requires.due lay_entry_told) (entry_apart c.requires.due lay_entry_told)

pub returns : goal.returns
returns c =
    let lay_entry_told = c.lay_entry-l.ensures in
    child-made (λ p D k. same_made D lay_entry_told k (plain (due-laid D lay_entry_told) _ (s-place (due-laid D lay_entry_told)) (s_apart (due-laid D lay_entry_told) 1 (omega arith)) refl c.in_ok-w.ensures) c.keep.ensures)

pub returns-in_err-w : goal.returns-in_err-w
returns-in_err-w c =
    let lay_entry_told = c.lay_entry-l.ensures in
    rw c.from_residual.ensures (child-made (λ p D k. same_full D lay_entry_told k (plain (due-laid D lay_entry_told) _ (s-place (due-laid D lay_entry_told)) (s_apart (due-laid D lay_entry_told) 1 (omega arith)) refl c.in_err-w.ensures)))
