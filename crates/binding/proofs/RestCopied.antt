-- The rest of a row copied with an entry more, and then its header, in the order of the code.
use Rattle.std.proofs.Common.{Some, None}
use Prim.Native.Nat.{ℕ, ◌+◌, ◌-◌, ◌≤◌, ◌<◌}
use mathlib.Core.Path.{◌≡◌, sym, ap, ◌∙◌}
use mathlib.Core.List.{List, [], ◌++◌, append_assoc, append-nil}
use native.Mathlib.Omega.{arith}
use lib.ListN.{length, length-append}
use Rattle.room.specs.Room.{seg, put, Within, length-put, length-seg, put-put}
use Rattle.room.specs.Parts.{CopyParts, apart_part, seg-put}
use Rattle.room.specs.Layout.{HEADER}
use Rattle.terms.specs.Bounds.{FIRST_UNKNOWN}
use Rattle.rows.specs.declared.parts.Rest.{Rest}
use Rattle.rows.specs.declared.parts.Made.TheVariants.{Large, Live}
use Rattle.rows.specs.declared.header.Header.{Header}
use Rattle.rows.specs.Header.{header_of, Small}
use Rattle.rows.specs.Wrote.{Wrote, wrote_full, wrote_all, wrote_length, done-length}
use Rattle.rows.specs.Bind.{BindParts, FinishParts}
use Rattle.binding.specs.Keep.{kept_piece, kept_header}
use Rattle.rows.specs.Finished.{Finished, body-part, finished_full, finished_sealed}
use Rattle.binding.proofs.Finishing.{row_sum}

-- vs is put after what was put
pub put-after : (r₀ : List ℕ) {r r' : List ℕ} (to : ℕ) (us vs : List ℕ) (k : ℕ) → length us ≡ k → r ≡ put r₀ to us → r' ≡ put r (to + k) vs → r' ≡ put r₀ to (us ++ vs)
put-after r₀ to us vs k l e f = f ∙ rw (e, ← l) (put-put us r₀ vs to)

module _ {r₀ : List ℕ} {rest : Rest} {by m to capacity : ℕ} (P : BindParts r₀ rest by m to capacity) where
  abbrev front : List ℕ
  front = seg r₀ rest.at (rest.pending + rest.pile)

  abbrev entry : List ℕ
  entry = seg r₀ by m

  abbrev back : List ℕ
  back = seg r₀ (rest.at + (rest.pending + rest.pile)) rest.bound

  length_front : length front ≡ rest.pending + rest.pile
  length_front = length-seg r₀ rest.at (rest.pending + rest.pile) (omega (arith, P.rest_within))

  length-entry : length entry ≡ m
  length-entry = length-seg r₀ by m P.by_within

  length_back : length back ≡ rest.bound
  length_back = length-seg r₀ (rest.at + (rest.pending + rest.pile)) rest.bound (omega (arith, P.rest_within))

  pub length-kept : length (kept_piece r₀ rest by m) ≡ rest.pending + rest.pile + m + rest.bound
  unfolding kept_piece
  length-kept = omega (arith, length-append front (entry ++ back), length-append entry back, length_front, length-entry, length_back)

  pub keep_full : capacity < rest.pending + rest.pile + m + rest.bound → Wrote r₀ to capacity (kept_piece r₀ rest by m) None r₀
  keep_full h = wrote_full r₀ to (kept_piece r₀ rest by m) (omega (arith, length-kept))

  module _ (h : rest.pending + rest.pile + m + rest.bound ≤ capacity) where
    pub front-parts : CopyParts r₀ rest.at (rest.pending + rest.pile) to
    front-parts = record {
      from_within = omega (arith, P.rest_within);
      to_within = omega (arith, P.to_within);
      apart = apart_part P.rest_apart (omega arith) (omega arith) (omega arith) (omega arith);
    }

    module _ {r₁ : List ℕ} (e₁ : r₁ ≡ put r₀ to front) where
      long₁ : length r₁ ≡ length r₀
      long₁ = ap length e₁ ∙ length-put r₀ to front

      pub entry-parts : CopyParts r₁ by m (to + (rest.pending + rest.pile))
      entry-parts = record {
        from_within = rw long₁ P.by_within;
        to_within = rw long₁ (omega (arith, P.to_within));
        apart = apart_part P.by_apart (omega arith) (omega arith) (omega arith) (omega arith);
      }

      module _ {r₂ : List ℕ} (e₂ : r₂ ≡ put r₁ (to + (rest.pending + rest.pile)) (seg r₁ by m)) where
        laid : r₂ ≡ put r₀ to (front ++ entry)
        laid =
            let l = length_front in
            let same : seg r₁ by m ≡ entry = rw e₁ (seg-put front r₀ (apart_part P.by_apart (omega arith) (omega arith) (omega arith) (omega arith))) in
            put-after r₀ to front entry (rest.pending + rest.pile) l e₁ (rw same at e₂)

        long₂ : length r₂ ≡ length r₀
        long₂ = ap length laid ∙ length-put r₀ to (front ++ entry)

        length-laid : length (front ++ entry) ≡ rest.pending + rest.pile + m
        length-laid = omega (arith, length-append front entry, length_front, length-entry)

        pub back-parts : CopyParts r₂ (rest.at + (rest.pending + rest.pile)) rest.bound (to + (rest.pending + rest.pile) + m)
        back-parts = record {
          from_within = rw long₂ (omega (arith, P.rest_within));
          to_within = rw long₂ (omega (arith, P.to_within));
          apart = apart_part P.rest_apart (omega arith) (omega arith) (omega arith) (omega arith);
        }

        pub kept-written : {r₃ : List ℕ} → r₃ ≡ put r₂ (to + (rest.pending + rest.pile) + m) (seg r₂ (rest.at + (rest.pending + rest.pile)) rest.bound)
            → Wrote r₀ to capacity (kept_piece r₀ rest by m) (Some (rest.pending + rest.pile + m + rest.bound)) r₃
        unfolding kept_piece
        kept-written {r₃} e₃ =
            let k = length-laid in
            let place : to + (rest.pending + rest.pile) + m ≡ to + (rest.pending + rest.pile + m) = omega arith in
            let same : seg r₂ (rest.at + (rest.pending + rest.pile)) rest.bound ≡ back =
            rw laid (seg-put (front ++ entry) r₀ (apart_part P.rest_apart (omega arith) (omega arith) (omega arith) (omega arith))) in
            let whole : r₃ ≡ put r₀ to ((front ++ entry) ++ back) = put-after r₀ to (front ++ entry) back (rest.pending + rest.pile + m) k laid (rw (same, place) at e₃) in
            wrote_all (kept_piece r₀ rest by m) length-kept h (whole ∙ ap (put r₀ to) (append_assoc front entry back))

-- ---- and the header

module _ {r₀ : List ℕ} {rest : Rest} {by m to written size next : ℕ} (F : FinishParts r₀ rest by m to written size FIRST_UNKNOWN next) where
  pub keep_large : {r : List ℕ} → Wrote r₀ (to + HEADER + written) (size - written) (kept_piece r₀ rest by m) None r
      → Finished r₀ to written size (kept_piece r₀ rest by m) (header_of (kept_header rest written m next)) Large r
  keep_large w = rw append-nil at (finished_full [] (header_of (kept_header rest written m next)) F.written_within w)

  module _ {k : ℕ} {r : List ℕ} (w : Wrote r₀ (to + HEADER + written) (size - written) (kept_piece r₀ rest by m) (Some k) r) where
    abbrev header : Header
    header = record { pending = written + rest.pending; pile = rest.pile + m; body = written + k; bindings = rest.bindings; next = next }

    k_is : k ≡ rest.pending + rest.pile + m + rest.bound
    k_is = sym (done-length w) ∙ length-kept (body-part F)

    pub keep_seal_parts : Within r to HEADER × Small header
    keep_seal_parts =
        let s = row_sum F w in
        let e = k_is in (
          rw (wrote_length w) (omega (arith, F.parts.to_within)),
          record {
            pending = omega (arith, F.size_small);
            pile = omega (arith, F.size_small);
            body = omega (arith, F.size_small);
            bindings = omega (arith, F.bindings_small);
            next = F.next_small;
          },
        )

    header_is : header_of header ≡ header_of (kept_header rest written m next)
    unfolding header_of kept_header
    header_is = rw k_is

    pub keep_sealed : {r' : List ℕ} → r' ≡ put r to (header_of header)
        → Finished r₀ to written size (kept_piece r₀ rest by m) (header_of (kept_header rest written m next)) Live r'
    keep_sealed e = rw header_is at (finished_sealed header F.written_within w e)
