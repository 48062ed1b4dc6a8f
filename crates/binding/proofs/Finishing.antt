-- A child's row finished piece after piece, in the order of the code.
use Rattle.std.proofs.Common.{Option, Some, None}
use Prim.Native.Nat.{ℕ, ◌+◌, ◌-◌, ◌^◌, ◌≤◌, ◌<◌}
use mathlib.Core.Path.{◌≡◌, sym, ◌∙◌}
use mathlib.Core.List.{List, [], ◌++◌, append-nil}
use native.Mathlib.Omega.{arith}
use lib.ListN.{length}
use Rattle.room.specs.Room.{seg, put, Within}
use Rattle.room.specs.Parts.{ReplaceParts}
use Rattle.room.specs.Replaced.{replaced}
use Rattle.room.specs.Layout.{HEADER}
use Rattle.terms.specs.Bounds.{edition_one}
use Rattle.rows.specs.declared.parts.Rest.{Rest}
use Rattle.rows.specs.declared.parts.Made.{Made}
use Rattle.rows.specs.declared.parts.Made.TheVariants.{Large, Live}
use Rattle.rows.specs.declared.header.Header.{Header}
use Rattle.rows.specs.declared.parts.Part.TheVariants.{Others}
use Rattle.rows.specs.Pile.{selection}
use Rattle.rows.specs.Header.{header_of, Small}
use Rattle.rows.specs.Wrote.{Wrote, wrote_length, done-fits, done-length}
use Rattle.rows.specs.Bind.{FinishParts, pile_parts, bound_pending, bound_pile, bound_bindings, bound_body}
use Rattle.rows.specs.Finished.{Finished, bound_header, body-part, finish-part, finished_full, finished_sealed, finished_more}
use Rattle.binding.proofs.BindingPieces.{Same, same_pile, same_last, unwritten, length_last}

-- nothing but the row is written
module _ {r₀ : List ℕ} {rest : Rest} {by m to written size x next : ℕ} (F : FinishParts r₀ rest by m to written size x next) where
  pub row_same : {p : List ℕ} {a : Option ℕ} {r : List ℕ} → Wrote r₀ (to + HEADER + written) (size - written) p a r → Same r₀ r rest by m
  row_same w = unwritten F.parts (to + HEADER + written) w.out w.room (omega arith) (omega (arith, w.within, F.written_within))

  -- the next words of the row
  pub row_next : {p : List ℕ} {k : ℕ} {r : List ℕ} → Wrote r₀ (to + HEADER + written) (size - written) p (Some k) r → FinishParts r rest by m to (written + k) size x next
  row_next {k = k} w = finish-part F (wrote_length w) k (omega (arith, done-fits w, done-length w))

  pub row_sum : {p : List ℕ} {k : ℕ} {r : List ℕ} → Wrote r₀ (to + HEADER + written) (size - written) p (Some k) r → written + k ≤ size
  row_sum w = omega (arith, done-fits w, done-length w, F.written_within)

  pub others-parts : ReplaceParts r₀ (rest.at + rest.pending) rest.pile by m (to + HEADER + written) (size - written) × length r₀ < 2 ^ 32
  others-parts = (pile_parts (body-part F), F.parts.small)

-- ---- the bindings and the header

module _ (pending pile : ℕ) {r₀ : List ℕ} {rest : Rest} {by m to size x next : ℕ} (F : FinishParts r₀ rest by m to (pending + pile) size x next) where
  pub bindings_full : {r : List ℕ} → Wrote r₀ (to + HEADER + (pending + pile)) (size - (pending + pile)) (bound_bindings r₀ rest x by m) None r
      → Finished r₀ to (pending + pile) size (bound_bindings r₀ rest x by m) (header_of (bound_header rest pending pile m next)) Large r
  bindings_full w =
      rw append-nil at (finished_full [] (header_of (bound_header rest pending pile m next)) F.written_within w)

  module _ {k : ℕ} {r : List ℕ} (w : Wrote r₀ (to + HEADER + (pending + pile)) (size - (pending + pile)) (bound_bindings r₀ rest x by m) (Some k) r) where
    abbrev header : Header
    header = record { pending = pending; pile = pile; body = pending + pile + k; bindings = rest.bindings + 1; next = next }

    pub seal_parts : Within r to HEADER × Small header
    seal_parts =
        let s = row_sum F w in (
          rw (wrote_length w) (omega (arith, F.parts.to_within)),
          record {
            pending = omega (arith, F.size_small);
            pile = omega (arith, F.size_small);
            body = omega (arith, F.size_small);
            bindings = omega (arith, F.bindings_small);
            next = F.next_small;
          },
        )

    header_is : header_of header ≡ header_of (bound_header rest pending pile m next)
    unfolding header_of bound_header
    header_is =
        let e : k ≡ rest.bound + 1 + m = sym (done-length w) ∙ length_last (body-part F) x in
        rw e

    pub bindings_sealed : {r' : List ℕ} → r' ≡ put r to (header_of header)
        → Finished r₀ to (pending + pile) size (bound_bindings r₀ rest x by m) (header_of (bound_header rest pending pile m next)) Live r'
    bindings_sealed e = rw header_is at (finished_sealed header F.written_within w e)

-- ---- the other entries, then the bindings

module _ (arities : List ℕ) {r₀ : List ℕ} {rest : Rest} {by m to pending size x next : ℕ} (F : FinishParts r₀ rest by m to pending size x next) where
  abbrev others : List ℕ
  others = bound_pile edition_one arities r₀ rest x by m

  abbrev PileFinished : Made → List ℕ → Type 0
  PileFinished a r = Finished r₀ to pending size (others ++ bound_bindings r₀ rest x by m) (header_of (bound_header rest pending (length others) m next)) a r

  as_others : {a : Option ℕ} {r : List ℕ}
      → Wrote r₀ (to + HEADER + pending) (size - pending) (replaced x (seg r₀ by m) (selection edition_one arities Others x (seg r₀ (rest.at + rest.pending) rest.pile))) a r
      → Wrote r₀ (to + HEADER + pending) (size - pending) others a r
  unfolding bound_pile
  as_others w = w

  pub pile_full : {r : List ℕ}
      → Wrote r₀ (to + HEADER + pending) (size - pending) (replaced x (seg r₀ by m) (selection edition_one arities Others x (seg r₀ (rest.at + rest.pending) rest.pile))) None r → PileFinished Large r
  pile_full w = finished_full (bound_bindings r₀ rest x by m) _ F.written_within (as_others w)

  module _ {k : ℕ} {r : List ℕ}
      (w : Wrote r₀ (to + HEADER + pending) (size - pending) (replaced x (seg r₀ by m) (selection edition_one arities Others x (seg r₀ (rest.at + rest.pending) rest.pile))) (Some k) r) where
    pub pile_next : FinishParts r rest by m to (pending + k) size x next
    pile_next = row_next F w

    pub pile_finished : {a : Made} {r' : List ℕ} → Finished r to (pending + k) size (bound_bindings r rest x by m) (header_of (bound_header rest pending k m next)) a r' → PileFinished a r'
    pile_finished f =
        let v = as_others w in
        rw (done-length v) (finished_more F.written_within v (rw (same_last (row_same F v) x) at f))

  -- ---- the pending equations, then the others

  abbrev front : List ℕ
  front = bound_pending edition_one arities r₀ rest x by m

  abbrev AllFinished : Made → List ℕ → Type 0
  AllFinished a r = Finished r₀ to pending size (bound_body edition_one arities r₀ rest x by m) (header_of (bound_header rest (pending + length front) (length others) m next)) a r

  pub all_full : {r : List ℕ} → Wrote r₀ (to + HEADER + pending) (size - pending) front None r → AllFinished Large r
  unfolding bound_body
  all_full w = finished_full (others ++ bound_bindings r₀ rest x by m) _ F.written_within w

  pub all_finished : {k : ℕ} {r : List ℕ} → Wrote r₀ (to + HEADER + pending) (size - pending) front (Some k) r → {a : Made} {r' : List ℕ}
      → Finished r to (pending + k) size (bound_pile edition_one arities r rest x by m ++ bound_bindings r rest x by m)
      (header_of (bound_header rest (pending + k) (length (bound_pile edition_one arities r rest x by m)) m next)) a r' → AllFinished a r'
  unfolding bound_body
  all_finished w f =
      let s = row_same F w in
      rw (done-length w) (finished_more F.written_within w (rw (same_pile s x arities, same_last s x) at f))
