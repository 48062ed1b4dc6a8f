use Prim.Native.Nat.{◌+◌}
use mathlib.Core.Path.{◌∙◌, sym, refl}
use native.Mathlib.Omega.{arith}
use lib.ListN.{length}
use lib.Seq.{length-take-le}
use Rattle.equality.proofs.CheckedTerms.{few_words, few_unknowns, laid, as_long, with_values, values-told}
use Rattle.equality.proofs.values_solve.Goals as goal

pub copy_in-requires : goal.copy_in-requires
copy_in-requires c = omega (arith, few_words _ _ _ _ _ c.requires.words_value c.requires.row_value, c.blank-held.ensures)

pub copy_in-requires-2 : goal.copy_in-requires-2
copy_in-requires-2 c =
    omega (arith, few_words _ _ _ _ _ c.requires.words_value c.requires.row_value, c.blank-held.ensures, c.copy_in.auto.room)

pub slice_bounds-held-end : goal.slice_bounds-held-end
slice_bounds-held-end c =
    omega (arith, few_words _ _ _ _ _ c.requires.words_value c.requires.row_value, c.blank-held.ensures, c.copy_in.auto.room, c.copy_in-2.auto.room)

pub slice_bounds-values_hold-end : goal.slice_bounds-values_hold-end
slice_bounds-values_hold-end c =
    sym
    (length-take-le _ _
    (omega (arith, few_words _ _ _ _ _ c.requires.words_value c.requires.row_value, c.blank-held.ensures, c.copy_in.auto.room, c.copy_in-2.auto.room)))

pub slice_bounds-starts-end : goal.slice_bounds-starts-end
slice_bounds-starts-end c = few_unknowns _ _ _ _ _ c.requires.words_value c.requires.row_value

pub slice_bounds-values_hold-end-2 : goal.slice_bounds-values_hold-end-2
slice_bounds-values_hold-end-2 c =
    sym (length-take-le _ _ (few_unknowns _ _ _ _ _ c.requires.words_value c.requires.row_value))

pub slice_bounds-labels-end : goal.slice_bounds-labels-end
slice_bounds-labels-end c =
    omega (arith, few_words _ _ _ _ _ c.requires.words_value c.requires.row_value, c.blank-labels.ensures)

pub slice_bounds-values_hold-end-3 : goal.slice_bounds-values_hold-end-3
slice_bounds-values_hold-end-3 c =
    sym (length-take-le _ _ (omega (arith, few_words _ _ _ _ _ c.requires.words_value c.requires.row_value, c.blank-labels.ensures)))

pub values_hold-requires : goal.values_hold-requires
values_hold-requires c =
    let a = c.args in
    let few = few_words _ _ _ _ _ c.requires.words_value c.requires.row_value in
    let l = laid c.blank-held.result _ _ (omega (arith, c.blank-held.ensures)) c.copy_in.ensures c.copy_in-2.ensures in record {
      with_values = with_values _ _ _ _ _ c.requires.words_value c.requires.row_value l (length-take-le _ _ (few_unknowns _ _ _ _ _ c.requires.words_value c.requires.row_value));
      labels_len = as_long (length a.words.now + length a.row.now) c.blank-labels.result c.copy_in-2.new.room
          (omega (arith, c.blank-labels.ensures))
          (omega (arith, c.blank-held.ensures, c.copy_in.auto.room, c.copy_in-2.auto.room));
    }

pub returns : goal.returns
returns c =
    let few = few_words _ _ _ _ _ c.requires.words_value c.requires.row_value in
    let l = laid c.blank-held.result _ _ (omega (arith, c.blank-held.ensures)) c.copy_in.ensures c.copy_in-2.ensures in
    c.values_hold.ensures ∙ values-told _ _ _ _ _ c.requires.words_value c.requires.row_value l refl
