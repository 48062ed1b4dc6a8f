-- A pile in which x is none of the words, and a pile of no words: what its entries are, written without a walk.
use Rattle.std.proofs.Common.{Some, None}
use Prim.Native.Nat.{ℕ, ◌+◌, ◌-◌, ◌<◌, ◌≤◌}
use mathlib.Core.Path.{◌≡◌, sym, ◌∙◌}
use mathlib.Core.List.{List}
use mathlib.Core.Bool.{Bool, true, false, not}
use native.Mathlib.Omega.{arith}
use lib.ListN.{length, take, drop}
use borrow.Author.Tests.{not-true}
use Rattle.room.specs.Room.{seg, put, length-seg, seg-zero}
use Rattle.room.specs.Parts.{ReplaceParts, CopyParts, apart_part}
use Rattle.room.specs.Replaced.{replaced, replaced-nil}
use Rattle.terms.specs.Bounds.{edition_one}
use Rattle.rows.specs.declared.parts.Part.{Part}
use Rattle.rows.specs.declared.parts.Part.TheVariants.{Entries, Others}
use Rattle.rows.specs.Terms.HeldWords.{holds, replaced_absent}
use Rattle.rows.specs.Pile.{selection, selection-nil, entries_absent, others_absent}
use Rattle.rows.specs.Wrote.{Wrote, wrote_nothing, wrote_full, wrote_all}

module _ (arities r : List ℕ) (x by m to capacity : ℕ) where
  pub none_written : (part : Part) (from : ℕ) {n : ℕ} → n ≡ 0
      → Wrote r to capacity (replaced x (seg r by m) (selection edition_one arities part x (seg r from n))) (Some 0) r
  none_written part from e = rw (e, seg-zero, selection-nil edition_one arities part x, replaced-nil) (wrote_nothing r to capacity)

-- all words of the pile are copied
pub whole_parts : {r : List ℕ} {from n by m to capacity : ℕ} → ReplaceParts r from n by m to capacity → n ≤ capacity → CopyParts r from n to
whole_parts P h = record {
  from_within = P.from_within;
  to_within = omega (arith, P.to_within);
  apart = apart_part P.from_apart (omega arith) (omega arith) (omega arith) (omega arith);
}

module _ (arities : List ℕ) {r₀ : List ℕ} {from n by m to capacity : ℕ} (P : ReplaceParts r₀ from n by m to capacity) (x : ℕ)
    {c : Bool} (asked : c ≡ holds x (take (from + n - from) (drop from r₀))) (answer : not c ≡ true) where
  absent : holds x (seg r₀ from n) ≡ false
  unfolding seg
  absent = let k : from + n - from ≡ n = omega arith in rw k at (sym asked ∙ not-true c answer)

  pub absent_entries : Wrote r₀ to capacity (replaced x (seg r₀ by m) (selection edition_one arities Entries x (seg r₀ from n))) (Some 0) r₀
  absent_entries = rw (entries_absent edition_one arities x (seg r₀ from n) absent, replaced-nil) (wrote_nothing r₀ to capacity)

  all_others : replaced x (seg r₀ by m) (selection edition_one arities Others x (seg r₀ from n)) ≡ seg r₀ from n
  all_others = rw (others_absent edition_one arities x (seg r₀ from n) absent) (replaced_absent x (seg r₀ by m) (seg r₀ from n) absent)

  length-others : length (seg r₀ from n) ≡ n
  length-others = length-seg r₀ from n P.from_within

  pub absent_full : capacity < n → Wrote r₀ to capacity (replaced x (seg r₀ by m) (selection edition_one arities Others x (seg r₀ from n))) None r₀
  absent_full h = rw all_others (wrote_full r₀ to (seg r₀ from n) (omega (arith, length-others)))

  pub absent_others : n ≤ capacity → {r : List ℕ} → r ≡ put r₀ to (seg r₀ from n)
      → Wrote r₀ to capacity (replaced x (seg r₀ by m) (selection edition_one arities Others x (seg r₀ from n))) (Some n) r
  absent_others h e = rw all_others (wrote_all (seg r₀ from n) length-others h e)
