-- What is written to the output is what is printed: the two lines of a refusal, or the text of a list that its writer took.
use Rattle.checks.specs.Check.{Checked}
use Rattle.std.specs.Prelude.{Err, Ok, Result}
use Prim.Native.Nat.{ℕ, ◌≤◌, ◌<◌}
use mathlib.Core.Path.{◌≡◌, sym, ◌∙◌}
use mathlib.Core.List.{List}
use native.Mathlib.Nat.{zero-add}
use native.Mathlib.Omega.{arith}
use lib.Dec.{ltb}
use lib.ListN.{length, length-append}
use lib.Seq.{sets-eq}
use Rattle.terms.specs.Bounds.{edition_one}
use Rattle.terms.specs.Listing.{answers_of}
use Rattle.terms.specs.Lists.{cases}
use Rattle.terms.specs.Refusal.{number}
use Rattle.terms.specs.declared.refusal.Cause.{Cause}
use Rattle.terms.specs.declared.refusal.Cause.TheVariants.{Byte, Number, Limit, Undeclared, Arguments, Nesting, Buffer, WordsStop, WordsMeaningless, WordsUndeclared, WordsLeft}
use Rattle.terms.specs.declared.refusal.Refusal.{Refusal}
use Rattle.search.specs.Ends.{end_number, end_of}
use Rattle.text.specs.Decimal.{decimal-length}
use Rattle.text.specs.Sizes.{line-length}
use Rattle.text.specs.Text.{decimal, line}
use Rattle.word_writer.specs.Depths.{First, all_within, first_at}
use Rattle.word_writer.specs.Pen.{most, counted, Wrote}
use Rattle.word_writer.specs.Writing.{wrote_then}
use Rattle.writer.specs.Written.{held, fitted, nested, tested, list_written, text_of_list}
use Rattle.results.specs.declared.ran.Ending.{Ending}
use Rattle.printing.specs.Solved.{OUTPUT, refused, of_written, of_list, refused_key, place_key, printed, Prints}

-- ---- a refusal

-- bytes that fit are all stored and counted
wrote_prints : {bytes before after : List ℕ} {next : ℕ} → Wrote before 0 bytes after next → length bytes ≤ length before → Prints bytes next before after
unfolding counted
wrote_prints {bytes} {before} w h = record { counts = omega (arith, w.reached, w.short); begins = w.stored ∙ sets-eq bytes before 0 (omega arith) ∙ rw zero-add }

one-digit : (c : Cause) → number c < 10
one-digit Byte = omega arith
one-digit Number = omega arith
one-digit Limit = omega arith
one-digit Undeclared = omega arith
one-digit Arguments = omega arith
one-digit Nesting = omega arith
one-digit Buffer = omega arith
one-digit WordsStop = omega arith
one-digit WordsMeaningless = omega arith
one-digit WordsUndeclared = omega arith
one-digit WordsLeft = omega arith

-- 9 + 1 and 7 + 20 bytes
refusal_length : (r : Refusal) → r.place ≤ most → length (printed (refused r)) ≤ 37
unfolding printed
refusal_length r h =
    omega (
      arith,
      length-append (line refused_key (decimal (number r.cause))) (line place_key (decimal r.place)),
      line-length refused_key (decimal (number r.cause)),
      decimal-length 0 (number r.cause) (one-digit r.cause),
      line-length place_key (decimal r.place),
      decimal-length 19 r.place (omega arith),
    )

pub refusal_printed : (r : Refusal) {n second count : ℕ} {before between after : List ℕ} → n ≡ number r.cause → r.place ≤ most → 64 ≤ length before
    → Wrote before 0 (line refused_key (decimal n)) between second → Wrote between second (line place_key (decimal r.place)) after count → Prints (printed (refused r)) count before after
unfolding printed
refusal_printed r e h k first second = wrote_prints (wrote_then (rw e at first) second) (omega (arith, refusal_length r h))

-- ---- a list

taken-length : (c : Checked) (deep : First) (room : ℕ) (text : List ℕ) (n : ℕ) → tested c deep room text ≡ Ok n → n ≡ length text
unfolding tested nested fitted
taken-length (Err r) deep room text n e = let z : ◌≡◌ {A = ℕ} 0 1 = cc in absurd (omega arith)
taken-length (Ok _) (first_at p) room text n e = let z : ◌≡◌ {A = ℕ} 0 1 = cc in absurd (omega arith)
taken-length (Ok _) all_within room text n e =
    cases (ltb room (length text))
    (λ t. let x : Err _ ≡ Ok n = rw t at e in let z : ◌≡◌ {A = ℕ} 0 1 = cc in absurd (omega arith))
    (λ f. let x : Ok (length text) ≡ Ok n = rw f at e in cc)

module _ (arities : List ℕ) (e : Ending) (words before : List ℕ) where
  -- what the writer answers and leaves, for the end's number n
  abbrev pub Writes : (n : ℕ) → Result ℕ Refusal → List ℕ → Type 0
  Writes n w after =
      (w ≡ list_written edition_one arities n e.counts.visited e.counts.answers words (length before))
      × (after ≡ held w (text_of_list (end_of n) e.counts.visited (answers_of edition_one arities e.counts.answers words)) before)

  pub list-printed : {n count : ℕ} {w : Result ℕ Refusal} {after : List ℕ} → n ≡ end_number e.end → length before ≡ OUTPUT → Writes n w after → w ≡ Ok count
      → Prints (printed (of_list arities e words)) count before after
  unfolding printed of_list of_written held list_written
  list-printed {count = count} s l g i =
      let told : list_written edition_one arities (end_number e.end) e.counts.visited e.counts.answers words OUTPUT ≡ Ok count = rw (s, l) at (sym g.0 ∙ i) in
      rw told (record { counts = taken-length _ _ OUTPUT _ count told; begins = rw (s, i) at g.1 })

  pub list-refused : {n count : ℕ} {w : Result ℕ Refusal} {r : Refusal} {between after : List ℕ} → n ≡ end_number e.end → length before ≡ OUTPUT → Writes n w between → w ≡ Err r
      → Prints (printed (refused r)) count between after → Prints (printed (of_list arities e words)) count before after
  unfolding printed of_list of_written held
  list-refused {r = r} {between} s l g i p =
      let told : list_written edition_one arities (end_number e.end) e.counts.visited e.counts.answers words OUTPUT ≡ Err r = rw (s, l) at (sym g.0 ∙ i) in
      let same : between ≡ before = rw i at g.1 in
      rw told (rw same at p)
