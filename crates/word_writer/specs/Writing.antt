-- Laws of writing: nothing, one byte, bytes after bytes, and what the whole owes to its parts.
use Rattle.std.specs.Prelude.{ℕ, suc, ◌+◌, ◌≤◌, ◌<◌, ◌≡◌, refl, List, [], ◌∷◌, ◌++◌, leb, set}
use Rattle.std.proofs.Common.{add-zero, add-suc, suc-add, ◌∙◌, leb-true, leb-false}
use native.Mathlib.Omega.{arith}
use Rattle.std.proofs.Math.Path.{sym, ap}
use Rattle.std.proofs.Math.ListN.{length, length-append}
use Rattle.std.proofs.Math.Seq.{sets, length-sets, set_out}
use Rattle.terms.specs.Lists.{cases}
use Rattle.word_writer.specs.Pen.{most, counted, Wrote}

sets-sets : (vs l us : List ℕ) (i : ℕ) → sets (sets l i vs) (i + length vs) us ≡ sets l i (vs ++ us)
sets-sets [] l us i = rw add-zero
sets-sets (v ∷ vs) l us i = rw (add-suc, ← suc-add) (sets-sets vs (set l i v) us (suc i))

-- stores past the end change nothing
sets-out : (vs l : List ℕ) (i : ℕ) → length l ≤ i → sets l i vs ≡ l
sets-out [] l i h = refl
sets-out (v ∷ vs) l i h = rw (set_out l i v h) (sets-out vs l (suc i) (omega arith))

module _ {before : List ℕ} {at : ℕ} where
  pub wrote_nothing : length before ≤ most → at ≤ most → Wrote before at [] before at
  unfolding counted
  wrote_nothing h k = record { short = h; stored = refl; reached = omega arith }

  -- a byte stored where the buffer reaches, or counted past its end
  pub wrote_byte : (byte : ℕ) → length before ≤ most → at < length before → Wrote before at (byte ∷ []) (set before at byte) (at + 1)
  unfolding counted
  wrote_byte byte h k = record { short = h; stored = refl; reached = omega arith }

  pub wrote_past : (byte : ℕ) → length before ≤ most → length before ≤ at → Wrote before at (byte ∷ []) before (counted (at + 1))
  wrote_past byte h k = record { short = h; stored = sym (set_out before at byte k); reached = refl }

module _ {before bytes after : List ℕ} {at next : ℕ} (w : Wrote before at bytes after next) where
  pub length_wrote : length after ≡ length before
  length_wrote = ap length w.stored ∙ length-sets before at bytes

  pub next-most : next ≤ most
  unfolding counted
  next-most = omega (arith, w.reached)

  -- bytes after bytes
  pub wrote_then : {more last : List ℕ} {end : ℕ} → Wrote after next more last end → Wrote before at (bytes ++ more) last end
  unfolding counted
  wrote_then {more} {last} {end} v = record {
    short = w.short;
    stored = v.stored ∙ ap (λ l. sets l next more) w.stored ∙ cases (leb (at + length bytes) most) (λ t. within (leb-true _ _ t)) (λ t. past (leb-false _ _ t));
    reached = omega (arith, length-append bytes more, w.reached, v.reached);
  }
    where
      len : length (sets before at bytes) ≡ length before
      len = length-sets before at bytes

      past : most < at + length bytes → sets (sets before at bytes) next more ≡ sets before at (bytes ++ more)
      past h =
          let e : next ≡ most = omega (arith, w.reached) in
          sets-out more (sets before at bytes) next (omega (arith, len, w.short))
          ∙ sym (sets-out more (sets before at bytes) (at + length bytes) (omega (arith, len, w.short)))
          ∙ sets-sets bytes before more at

      within : at + length bytes ≤ most → sets (sets before at bytes) next more ≡ sets before at (bytes ++ more)
      within h =
          let e : next ≡ at + length bytes = omega (arith, w.reached) in
          rw e (sets-sets bytes before more at)

-- the same bytes, by an equation
pub wrote_as : {before bytes same after : List ℕ} {at next : ℕ} → bytes ≡ same → Wrote before at bytes after next → Wrote before at same after next
wrote_as {before} {after = after} {at} {next} e w = rw e at w

-- ---- a loop: what writes the bytes that are left writes the whole

pub record Owed (whole text₀ : List ℕ) (at : ℕ) (left text : List ℕ) (next : ℕ) : Type 0 where
  pub kept : length text ≡ length text₀
  pub short : length text ≤ most
  pub reach : next ≤ most
  pub writes : (last : List ℕ) (end : ℕ) → Wrote text next left last end → Wrote text₀ at whole last end

pub owed_all : (whole text : List ℕ) (at : ℕ) → length text ≤ most → at ≤ most → Owed whole text at whole text at
owed_all whole text at h k = record { kept = refl; short = h; reach = k; writes = λ last end w. w }

module _ {whole text₀ left text : List ℕ} {at next : ℕ} where
  pub owed_as : {same : List ℕ} → left ≡ same → Owed whole text₀ at left text next → Owed whole text₀ at same text next
  owed_as e o = rw e at o

  pub owed_wrote : {us text' : List ℕ} {next' : ℕ} → Owed whole text₀ at (us ++ left) text next → Wrote text next us text' next' → Owed whole text₀ at left text' next'
  owed_wrote o w = record {
    kept = length_wrote w ∙ o.kept;
    short = omega (arith, length_wrote w, o.short);
    reach = next-most w;
    writes = λ last end v. o.writes last end (wrote_then w v);
  }

pub owed_nothing : {whole text₀ text : List ℕ} {at next : ℕ} → Owed whole text₀ at [] text next → Wrote text₀ at whole text next
owed_nothing {text = text} {next = next} o = o.writes text next (wrote_nothing o.short o.reach)
