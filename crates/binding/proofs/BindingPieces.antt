-- The pieces of a binding written one after the other: what is written changes nothing of what they are read from.
use Rattle.std.proofs.Common.{Option, Some, None}
use Prim.Native.Nat.{ℕ, ◌+◌, ◌-◌, ◌^◌, ◌≤◌, ◌<◌}
use mathlib.Core.Path.{◌≡◌, sym, ap, ◌∙◌}
use mathlib.Core.List.{List, [], ◌∷◌, ◌++◌, append_assoc}
use native.Mathlib.Omega.{arith}
use lib.ListN.{length, set, length-append}
use Rattle.room.specs.Room.{seg, put, length-put, length-seg, put-put, put-more}
use Rattle.room.specs.Parts.{ReplaceParts, CopyParts, apart_part, seg-put}
use Rattle.room.specs.Replaced.{replaced}
use Rattle.replace.specs.Fitting.{fitting, told, further}
use Rattle.terms.specs.Bounds.{edition_one, FIRST_UNKNOWN}
use Rattle.rows.specs.declared.parts.Rest.{Rest}
use Rattle.rows.specs.declared.parts.Part.TheVariants.{Entries}
use Rattle.rows.specs.Pile.{selection}
use Rattle.rows.specs.Wrote.{Wrote, wrote_full, wrote_all, wrote_replaced, wrote_more, wrote_length, full_more, done-fits, done-length}
use Rattle.rows.specs.Bind.{BindParts, bind_part, pile_parts, bound_pending, bound_pile, bound_bindings}

-- r has the same words as r₀ where a binding reads
pub record Same (r₀ r : List ℕ) (rest : Rest) (by m : ℕ) : Type 0 where
  pub value : seg r by m ≡ seg r₀ by m
  pub pending : seg r rest.at rest.pending ≡ seg r₀ rest.at rest.pending
  pub pile : seg r (rest.at + rest.pending) rest.pile ≡ seg r₀ (rest.at + rest.pending) rest.pile
  pub bound : seg r (rest.at + rest.pending + rest.pile) rest.bound ≡ seg r₀ (rest.at + rest.pending + rest.pile) rest.bound

module _ {r₀ r : List ℕ} {rest : Rest} {by m : ℕ} (s : Same r₀ r rest by m) (x : ℕ) where
  pub same_pile : (arities : List ℕ) → bound_pile edition_one arities r rest x by m ≡ bound_pile edition_one arities r₀ rest x by m
  unfolding bound_pile
  same_pile arities = rw (s.value, s.pile)

  pub same_last : bound_bindings r rest x by m ≡ bound_bindings r₀ rest x by m
  unfolding bound_bindings
  same_last = rw (s.value, s.bound)

module _ {r₀ : List ℕ} {rest : Rest} {by m to capacity : ℕ} (P : BindParts r₀ rest by m to capacity) where
  pub unwritten : {r : List ℕ} (i : ℕ) (out : List ℕ) → r ≡ put r₀ i out → to ≤ i → i + length out ≤ to + capacity → Same r₀ r rest by m
  unwritten i out e h f = record {
    value = rw e (seg-put out r₀ (apart_part P.by_apart (omega arith) (omega arith) h f));
    pending = rw e (seg-put out r₀ (apart_part P.rest_apart (omega arith) (omega arith) h f));
    pile = rw e (seg-put out r₀ (apart_part P.rest_apart (omega arith) (omega arith) h f));
    bound = rw e (seg-put out r₀ (apart_part P.rest_apart (omega arith) (omega arith) h f));
  }

  -- ---- the pending equations, then the entries of x

  module _ (arities : List ℕ) (x : ℕ) {a : Option ℕ} {r : List ℕ}
      (tells : a ≡ told capacity (replaced x (seg r₀ by m) (seg r₀ rest.at rest.pending)))
      (room : r ≡ put r₀ to (fitting x (seg r₀ by m) capacity (seg r₀ rest.at rest.pending))) where
    first : Wrote r₀ to capacity (replaced x (seg r₀ by m) (seg r₀ rest.at rest.pending)) a r
    first = wrote_replaced x (seg r₀ by m) (seg r₀ rest.at rest.pending) tells room

    pub pending_full : a ≡ None → Wrote r₀ to capacity (bound_pending edition_one arities r₀ rest x by m) None r
    unfolding bound_pending
    pending_full e = full_more _ (rw e at first)

    module _ (k : ℕ) (e : a ≡ Some k) where
      pub pending_within : k ≤ capacity
      pending_within = let w = rw e at first in omega (arith, done-fits w, done-length w)

      pub entries-parts : ReplaceParts r (rest.at + rest.pending) rest.pile by m (to + k) (capacity - k) × length r < 2 ^ 32
      entries-parts =
          let l = wrote_length first in
          (pile_parts (bind_part P r l k pending_within), rw l P.small)

      pub entries-written : {b : Option ℕ} {r' : List ℕ}
          → Wrote r (to + k) (capacity - k) (replaced x (seg r by m) (selection edition_one arities Entries x (seg r (rest.at + rest.pending) rest.pile))) b r'
          → Wrote r₀ to capacity (bound_pending edition_one arities r₀ rest x by m) (further k b) r'
      unfolding bound_pending
      entries-written w =
          let s = unwritten to first.out first.room (omega arith) (omega (arith, first.within)) in
          wrote_more (rw e at first) (rw (s.value, s.pile) at w)

  -- ---- the bindings, then x's number and its value

  pub length_last : (x : ℕ) → length (bound_bindings r₀ rest x by m) ≡ rest.bound + 1 + m
  unfolding bound_bindings
  length_last x =
      let b : List ℕ = seg r₀ (rest.at + rest.pending + rest.pile) rest.bound in
      omega (arith, length-append b ((x - FIRST_UNKNOWN) ∷ seg r₀ by m), length-seg r₀ (rest.at + rest.pending + rest.pile) rest.bound (omega (arith, P.rest_within)), length-seg r₀ by m P.by_within)

  pub last_full : (x : ℕ) → capacity < rest.bound + 1 + m → Wrote r₀ to capacity (bound_bindings r₀ rest x by m) None r₀
  last_full x h = wrote_full r₀ to (bound_bindings r₀ rest x by m) (omega (arith, length_last x))

  module _ (h : rest.bound + 1 + m ≤ capacity) where
    pub bindings-parts : CopyParts r₀ (rest.at + rest.pending + rest.pile) rest.bound to
    bindings-parts = record {
      from_within = omega (arith, P.rest_within);
      to_within = omega (arith, P.to_within);
      apart = apart_part P.rest_apart (omega arith) (omega arith) (omega arith) (omega arith);
    }

    module _ {r₁ : List ℕ} (e : r₁ ≡ put r₀ to (seg r₀ (rest.at + rest.pending + rest.pile) rest.bound)) (x : ℕ) where
      abbrev bindings : List ℕ
      bindings = seg r₀ (rest.at + rest.pending + rest.pile) rest.bound

      length-bindings : length bindings ≡ rest.bound
      length-bindings = length-seg r₀ (rest.at + rest.pending + rest.pile) rest.bound (omega (arith, P.rest_within))

      pub named : set r₁ (to + rest.bound) (x - FIRST_UNKNOWN) ≡ put r₀ to (bindings ++ ((x - FIRST_UNKNOWN) ∷ []))
      named =
          ap (λ (l : List ℕ). set l (to + rest.bound) (x - FIRST_UNKNOWN)) e
          ∙ ap (λ (k : ℕ). set (put r₀ to bindings) (to + k) (x - FIRST_UNKNOWN)) (sym length-bindings)
          ∙ put-more r₀ to bindings (x - FIRST_UNKNOWN)

      pub named-length : length (set r₁ (to + rest.bound) (x - FIRST_UNKNOWN)) ≡ length r₀
      named-length = ap length named ∙ length-put r₀ to (bindings ++ ((x - FIRST_UNKNOWN) ∷ []))

      pub value-parts : CopyParts (set r₁ (to + rest.bound) (x - FIRST_UNKNOWN)) by m (to + rest.bound + 1)
      value-parts = record {
        from_within = rw named-length P.by_within;
        to_within = rw named-length (omega (arith, P.to_within));
        apart = apart_part P.by_apart (omega arith) (omega arith) (omega arith) (omega arith);
      }

      module _ {r₂ : List ℕ} (f : r₂ ≡ put (set r₁ (to + rest.bound) (x - FIRST_UNKNOWN)) (to + rest.bound + 1) (seg (set r₁ (to + rest.bound) (x - FIRST_UNKNOWN)) by m)) where
        abbrev start : List ℕ
        start = bindings ++ ((x - FIRST_UNKNOWN) ∷ [])

        pub last_written : Wrote r₀ to capacity (bound_bindings r₀ rest x by m) (Some (rest.bound + 1 + m)) r₂
        unfolding bound_bindings
        last_written =
            let l = length-bindings in
            let k : length start ≡ rest.bound + 1 = length-append bindings ((x - FIRST_UNKNOWN) ∷ []) ∙ ap (λ (j : ℕ). j + 1) l in
            let s = unwritten to start named (omega arith) (omega arith) in
            let place : to + rest.bound + 1 ≡ to + length start = omega arith in
            let whole : r₂ ≡ put r₀ to (bindings ++ ((x - FIRST_UNKNOWN) ∷ seg r₀ by m)) =
            f ∙ rw (s.value, named, place, put-put start r₀ (seg r₀ by m) to, append_assoc) in
            wrote_all (bound_bindings r₀ rest x by m) (length_last x) h whole
