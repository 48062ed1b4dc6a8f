-- A child's row from the place where so many words of its body are written: the other words, and then its header. Where the row does not fit, the
-- child is larger than lent, and nothing is known of its words but that they lie in the row.
use Rattle.std.specs.Prelude.{ℕ, ◌+◌, ◌-◌, ◌≤◌, ◌<◌, ◌≡◌, refl, cond, leb, Some, None}
use Rattle.std.proofs.Math.Path.{sym, ap}
use Rattle.std.proofs.Common.{◌∙◌, arith, length-append, le-leb}
use mathlib.Core.List.{List, [], ◌++◌}
use Rattle.std.proofs.Math.ListN.{length}
use Rattle.std.proofs.lemmas.Bool.{lt-leb}
use Rattle.room.specs.Room.{put, length-put, put-nil, put-put}
use Rattle.room.specs.Layout.{HEADER}
use Rattle.replace.specs.Fitting.{told_full}
use Rattle.rows.specs.declared.parts.Rest.{Rest}
use Rattle.rows.specs.declared.parts.Made.{Made}
use Rattle.rows.specs.declared.parts.Made.TheVariants.{Large, Live}
use Rattle.rows.specs.declared.header.Header.{Header}
use Rattle.rows.specs.Header.{header_of}
use Rattle.rows.specs.Wrote.{Wrote, done-fits, done-length, done-room}
use Rattle.rows.specs.Bind.{BindParts, FinishParts, bind_part}

-- what becomes of a live node of a size
unfoldable pub made : (lent size : ℕ) → Made
made lent size = cond (leb size lent) Live Large

pub record Finished (r₀ : List ℕ) (to written size : ℕ) (piece header : List ℕ) (a : Made) (r : List ℕ) : Type 0 where
  pub out : List ℕ
  pub top : List ℕ
  pub room : r ≡ put (put r₀ (to + HEADER + written) out) to top
  pub within : written + length out ≤ size
  pub top_within : length top ≤ HEADER
  pub tells : a ≡ made size (written + length piece)
  pub whole : written + length piece ≤ size → (out ≡ piece) × (top ≡ header)

-- the header of a row in which one unknown more is bound, to m words
unfoldable pub bound_header : Rest → (pending pile m next : ℕ) → Header
bound_header rest pending pile m next = record {
  pending = pending;
  pile = pile;
  body = pending + pile + (rest.bound + 1 + m);
  bindings = rest.bindings + 1;
  next = next;
}

pub made_live : (lent size : ℕ) → size ≤ lent → made lent size ≡ Live
unfolding made
made_live lent size h = rw (le-leb size lent h)

pub made_large : (lent size : ℕ) → lent < size → made lent size ≡ Large
unfolding made
made_large lent size h = rw (lt-leb size lent h)

-- the body's part of a row
pub body-part : {l : List ℕ} {rest : Rest} {by m to written size x next : ℕ} → FinishParts l rest by m to written size x next → BindParts l rest by m (to + HEADER + written) (size - written)
body-part {l} {rest} {by} {m} {to} {written} {size} F =
    let place : to + (HEADER + written) ≡ to + HEADER + written = omega arith in
    let room : HEADER + size - (HEADER + written) ≡ size - written = omega arith in
    rw (place, room) at (bind_part F.parts l refl (HEADER + written) (omega (arith, F.written_within)))

-- only the room's length counts
pub finish_long : {l r : List ℕ} {rest : Rest} {by m to written size x next : ℕ} → FinishParts l rest by m to written size x next → length r ≡ length l
    → FinishParts r rest by m to written size x next
finish_long {l} {r} {rest} {by} {m} {to} {written} {size} F e =
    let place : to + 0 ≡ to = omega arith in
    let room : HEADER + size - 0 ≡ HEADER + size = omega arith in
    record {
      parts = rw (place, room) at (bind_part F.parts r e 0 (omega arith));
      written_within = F.written_within;
      size_small = F.size_small;
      unknown = F.unknown;
      bindings_small = F.bindings_small;
      next_small = F.next_small;
    }

-- the same row, with k words more
pub finish-part : {l r : List ℕ} {rest : Rest} {by m to written size x next : ℕ} → FinishParts l rest by m to written size x next → length r ≡ length l
    → (k : ℕ) → k ≤ size - written → FinishParts r rest by m to (written + k) size x next
finish-part {l} {r} {rest} {by} {m} {to} {written} {size} F e k h =
    let place : to + 0 ≡ to = omega arith in
    let room : HEADER + size - 0 ≡ HEADER + size = omega arith in
    record {
      parts = rw (place, room) at (bind_part F.parts r e 0 (omega arith));
      written_within = omega (arith, F.written_within);
      size_small = F.size_small;
      unknown = F.unknown;
      bindings_small = F.bindings_small;
      next_small = F.next_small;
    }

module _ {r₀ : List ℕ} {to written size : ℕ} {p : List ℕ} where
  pub finished_length : {h : List ℕ} {a : Made} {r : List ℕ} → Finished r₀ to written size p h a r → length r ≡ length r₀
  finished_length w = ap length w.room ∙ length-put (put r₀ (to + HEADER + written) w.out) to w.top ∙ length-put r₀ (to + HEADER + written) w.out

  pub finished_full : (q h : List ℕ) {r : List ℕ} → written ≤ size → Wrote r₀ (to + HEADER + written) (size - written) p None r → Finished r₀ to written size (p ++ q) h Large r
  finished_full q h f w =
      let l : size - written < length p = told_full (size - written) p (sym w.tells) in
      let k = length-append p q in
      record {
        out = w.out;
        top = [];
        room = w.room ∙ sym (put-nil (put r₀ (to + HEADER + written) w.out) to);
        within = omega (arith, w.within);
        top_within = omega arith;
        tells = sym (made_large size (written + length (p ++ q)) (omega arith));
        whole = λ g. absurd (omega arith);
      }

  pub finished_sealed : {k : ℕ} (h : Header) {r r' : List ℕ} → written ≤ size → Wrote r₀ (to + HEADER + written) (size - written) p (Some k) r → r' ≡ put r to (header_of h)
      → Finished r₀ to written size p (header_of h) Live r'
  unfolding header_of
  finished_sealed h f w e =
      let l = done-fits w in
      record {
        out = p;
        top = header_of h;
        room = e ∙ ap (λ (v : List ℕ). put v to (header_of h)) (done-room w);
        within = omega arith;
        top_within = omega arith;
        tells = sym (made_live size (written + length p) (omega arith));
        whole = λ g. (refl, refl);
      }

  pub finished_more : {k : ℕ} {q h : List ℕ} {a : Made} {r r' : List ℕ} → written ≤ size → Wrote r₀ (to + HEADER + written) (size - written) p (Some k) r
      → Finished r to (written + k) size q h a r' → Finished r₀ to written size (p ++ q) h a r'
  finished_more {k} {q} {h} f w v =
      let l = done-fits w in
      let e = done-length w in
      let n = length-append p q in
      let total : written + length (p ++ q) ≡ written + k + length q = omega arith in
      let place : to + HEADER + (written + k) ≡ to + HEADER + written + length p = omega arith in
      record {
        out = p ++ v.out;
        top = v.top;
        room = v.room ∙ ap (λ (u : List ℕ). put u to v.top) (rw (done-room w, place) (put-put p r₀ v.out (to + HEADER + written)));
        within = omega (arith, length-append p v.out, v.within);
        top_within = v.top_within;
        tells = v.tells ∙ ap (made size) (sym total);
        whole = λ g. let u = v.whole (omega arith) in (ap (λ (y : List ℕ). p ++ y) u.0, u.1);
      }
