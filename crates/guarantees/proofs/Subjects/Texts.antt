-- Reading and writing, of the entries: which questions are written, and that what was written is read back and what was read is written back.
use Rattle.std.specs.Prelude.{ℕ, ◌≤◌, ◌<◌, ◌≡◌, refl, List, [], ◌∷◌, ◌++◌, ◌↔◌, ltb, length, take, drop, Ok, Err}
use Rattle.checks.specs.Check.{Checked}
use Rattle.std.proofs.Common.{ap, sym, ◌∙◌, arith, ltb-false, le-ltb}
use Rattle.std.proofs.Math.Seq.{take-append_seam}
use Rattle.terms.specs.Bounds.{edition_one, edition_one_proper, NESTING, BYTES}
use Rattle.terms.specs.Lists.{All, here, there, cases}
use Rattle.terms.specs.Formed.{Question, Good}
use Rattle.checks.specs.Lent.{Asked, question-back}
use Rattle.terms.specs.Reading.{question_of}
use Rattle.terms.specs.Refusal.{number}
use Rattle.terms.specs.declared.refusal.Cause.TheVariants.{Nesting, Buffer}
use Rattle.terms.specs.declared.refusal.Refusal.{Refusal}
use Rattle.text.specs.Text.{question_text}
use Rattle.numerals.specs.TextReading.{Reading, read, refused, and_then, then-read}
use Rattle.question_reader.specs.Questions.{question as asks_of}
use Rattle.reader.specs.LentBuffers.{question_into, answer, laid}
use Rattle.question_reader.specs.Questions as reader
use Rattle.reader.specs.LentBuffers as lent
use Rattle.results.specs.declared.read.Counts.{Counts}
use Rattle.roundtrip.specs.QuestionText as there
use Rattle.roundtrip.specs.QuestionSpans.{ComesFrom, comes_from}
use Rattle.roundtrip.specs.QuestionSpans as back
use Rattle.word_writer.specs.Depths.{First, all_within, first_at}
use Rattle.word_writer.specs.Pen.{counted}
use Rattle.writer.specs.Written.{fitted, nested, tested, held, too_deep_in, question_written}
use Rattle.guarantees.specs.Calls.{Posed, asked, in_words, question_told, question_after, text_told, arities_after, words_after}
use Rattle.guarantees.specs.Notions.{NestsWithin, Writable, Writes, Reads, question_in, OneOf}
use Rattle.guarantees.proofs.Subjects.{impossible}
use Rattle.guarantees.proofs.Subjects.Granting.{asked_exactly}
use Rattle.guarantees.proofs.Subjects.Nesting.{question_nests}
use Rattle.guarantees.proofs.Subjects.RefusalNumbers.{Numbered, passed, told_as, question_numbered}

-- ---- what is written

-- the writer's tests, passed
record Passes (c : Checked) (deep : First) (room : ℕ) (text : List ℕ) (n : ℕ) : Type 0 where
  fine : c ≡ Ok tt
  shallow : deep ≡ all_within
  long : n ≡ length text
  fits : n ≤ room

passes : (c : Checked) (deep : First) (room : ℕ) (text : List ℕ) (n : ℕ) → tested c deep room text ≡ Ok n → Passes c deep room text n
unfolding tested nested fitted
passes (Err r) deep room text n e = impossible (cc)
passes (Ok _) (first_at p) room text n e = impossible (cc)
passes (Ok _) all_within room text n e =
    cases (ltb room (length text))
    (λ t. let x : Err _ ≡ Ok n = rw t at e in impossible (cc))
    (λ f. let x : Ok (length text) ≡ Ok n = rw f at e in
    let same : length text ≡ n = cc in
    record { fine = refl; shallow = refl; long = sym same; fits = omega (arith, ltb-false room (length text) f) })

pub written_exactly : (q : Posed) (n : ℕ) (buffer : List ℕ) → (question_told q buffer ≡ Ok n) ↔ Writable q n buffer
unfolding question_written tested nested fitted
written_exactly q n buffer = (
  λ e.
      let p = passes _ _ (length buffer) _ n e in
      record { good = (asked_exactly q).0 p.fine; nests = (question_nests (asked q)).0 p.shallow; long = p.long; fits = p.fits },
  λ w.
      rw ((asked_exactly q).1 w.good, (question_nests (asked q)).1 w.nests, le-ltb (length buffer) (length (question_text (asked q))) (omega (arith, w.long, w.fits))) (ap Ok (sym w.long)),
)

-- ---- what is refused for its nesting

-- refused with 6: the check is fine, and a bracket stands too deep
deep_by : {c : Checked} → Numbered (3 ∷ 8 ∷ []) c → (deep : First) (room : ℕ) (text : List ℕ) (r : Refusal) → tested c deep room text ≡ Err r → number r.cause ≡ 6
    → (c ≡ Ok tt) × (deep ≡ all_within → ⊥)
unfolding tested nested fitted
deep_by (told_as {r = s} h) deep room text r e six =
    let same : s ≡ r = cc in
    let eight : OneOf (3 ∷ 8 ∷ []) 6 = rw (same, six) at h in
    absurd (neither eight)
  where
    neither : OneOf (3 ∷ 8 ∷ []) 6 → ⊥
    neither (here e) = omega arith
    neither (there (here e)) = omega arith
    neither (there (there e)) = elim e [ ]
deep_by passed (first_at p) room text r e six = (refl, λ z. impossible (cc))
deep_by passed all_within room text r e six =
    cases (ltb room (length text))
    (λ t. let x : Err (record { cause = Buffer; place = counted (length text) }) ≡ Err r = rw t at e in
    let same : record { cause = Buffer; place = counted (length text) } ≡ r = cc in
    let seven : 7 ≡ 6 = rw (← same) at six in
    absurd (omega arith))
    (λ f. let x : Ok (length text) ≡ Err r = rw f at e in impossible (cc))

pub too_deep_exactly : (q : Posed) (buffer : List ℕ)
    → ((r : Refusal) × (question_told q buffer ≡ Err r) × (number r.cause ≡ 6)) ↔ (Asked edition_one q.equations q.words (asked q) × (NestsWithin NESTING (asked q) → ⊥))
unfolding question_written tested nested
too_deep_exactly q buffer = (
  λ h.
      let d = deep_by (question_numbered q.unknowns q.arities q.equations q.words) _ (length buffer) _ h.0 h.1 h.2 in
      ((asked_exactly q).0 d.0, λ n. d.1 ((question_nests (asked q)).1 n)),
  λ h.
      go (too_deep_in edition_one (asked q)) refl h,
)
  where
    go : (deep : First) → too_deep_in edition_one (asked q) ≡ deep → Asked edition_one q.equations q.words (asked q) × (NestsWithin NESTING (asked q) → ⊥)
        → (r : Refusal) × (question_told q buffer ≡ Err r) × (number r.cause ≡ 6)
    go all_within e h = absurd (h.1 ((question_nests (asked q)).0 e))
    go (first_at p) e h = (record { cause = Nesting; place = p }, rw ((asked_exactly q).1 h.0, e), refl)

-- ---- in words and back

-- the buffer after a question was written
written_after : (q : Posed) (n : ℕ) (buffer : List ℕ) → question_told q buffer ≡ Ok n → question_after q buffer ≡ question_text (asked q) ++ drop (length (question_text (asked q))) buffer
unfolding held
written_after q n buffer e = rw e

asked-back : (g : Question) → Good edition_one g → asked (in_words g) ≡ g
asked-back g good = question-back edition_one_proper g good

pub good_written : (g : Question) → Good edition_one g → NestsWithin NESTING g → (buffer : List ℕ) → length (question_text g) ≤ length buffer → Writes (in_words g) (question_text g) buffer
good_written g good nests buffer fits =
    let same : asked (in_words g) ≡ g = asked-back g good in
    let writable : Writable (in_words g) (length (question_text g)) buffer =
    record { good = rw same (record { good = good; count = refl; worded = refl }); nests = rw same nests; long = rw same; fits = fits } in
    let told = (written_exactly (in_words g) (length (question_text g)) buffer).1 writable in
    record { back = told; after = written_after (in_words g) _ buffer told ∙ ap (λ (x : Question). question_text x ++ drop (length (question_text x)) buffer) same }

-- ---- what was written is read back

-- a text that is read, into buffers that hold what was read
read_into : (text arities words : List ℕ) (p : ℕ) (a : reader.Asked) → asks_of edition_one text ≡ read p a → length a.head.arities ≤ length arities → length a.words ≤ length words
    → text_told text arities words ≡ read p a
unfolding question_into lent.fitted
read_into text arities words p a e h k = then-read _ e ∙ rw (le-ltb _ _ h, le-ltb _ _ k)

reads : (text : List ℕ) (q : Posed) (arities words : List ℕ) (p : ℕ)
    → text_told text arities words ≡ read p (record { head = record { unknowns = q.unknowns; arities = q.arities; equations = q.equations }; words = q.words }) → Reads text q arities words
unfolding answer laid
reads text q arities words p e = record { back = rw e; arities_hold = rw e; words_hold = rw e }

pub written-then-read : (q : Posed) (n : ℕ) (buffer : List ℕ) → question_told q buffer ≡ Ok n → (arities words : List ℕ) → length q.arities ≤ length arities → length q.words ≤ length words
    → Reads (take n (question_after q buffer)) q arities words
unfolding question_of edition_one
written-then-read q n buffer e arities words h k =
    let w = (written_exactly q n buffer).0 e in
    let text : List ℕ = question_text (asked q) in
    let whole : take n (question_after q buffer) ≡ text = ap (take n) (written_after q n buffer e) ∙ ap (λ (i : ℕ). take i (text ++ drop (length text) buffer)) w.long ∙ take-append_seam text _ in
    let again = there.written-then-read edition_one there.edition_one_narrow (asked q) w.good.good w.nests in
    rw whole (reads text q arities words _ (read_into text arities words _ _ (rw (w.good.count, w.good.worded) at again) h k))

-- ---- what was read is written back

-- what is given back of what was read
abbrev counts : reader.Asked → Counts
counts a = record { unknowns = a.head.unknowns; functors = length a.head.arities; equations = a.head.equations; words = length a.words }

-- a was read of a text, into buffers that hold it
record Took (text arities words : List ℕ) (a : reader.Asked) : Type 0 where
  to : ℕ
  asks : asks_of edition_one text ≡ read to a
  told : text_told text arities words ≡ read to a

took : (text arities words : List ℕ) (unknowns functors equations count : ℕ) → answer (text_told text arities words) ≡ Ok (record { unknowns = unknowns; functors = functors; equations = equations; words = count })
    → (a : reader.Asked) × Took text arities words a × (counts a ≡ record { unknowns = unknowns; functors = functors; equations = equations; words = count })
unfolding answer question_into lent.fitted and_then
took text arities words unknowns functors equations count e = go (asks_of edition_one text) refl e
  where
    go : (x : Reading reader.Asked) → asks_of edition_one text ≡ x → answer (and_then x (lent.fitted (length arities) (length words))) ≡ Ok (record { unknowns = unknowns; functors = functors; equations = equations; words = count })
        → (a : reader.Asked) × Took text arities words a × (counts a ≡ record { unknowns = unknowns; functors = functors; equations = equations; words = count })
    go (refused r) s e = impossible (cc)
    go (read p a) s e =
        cases (ltb (length arities) (length a.head.arities))
        (λ t. let x : Err _ ≡ Ok (record { unknowns = unknowns; functors = functors; equations = equations; words = count }) = rw t at e in impossible (cc))
        (λ f. cases (ltb (length words) (length a.words))
        (λ t. let x : Err _ ≡ Ok (record { unknowns = unknowns; functors = functors; equations = equations; words = count }) = rw (f, t) at e in impossible (cc))
        (λ g. (a, record { to = p; asks = s; told = read_into text arities words p a s (ltb-false _ _ f) (ltb-false _ _ g) }, let y : Ok (counts a) ≡ Ok (record { unknowns = unknowns; functors = functors; equations = equations; words = count }) = rw (f, g) at e in cc)))

abbrev posed : reader.Asked → Posed
posed a = record { unknowns = a.head.unknowns; arities = a.head.arities; equations = a.head.equations; words = a.words }

-- the buffers then hold the question that was read
question-held : (text arities words : List ℕ) (p : ℕ) (a : reader.Asked) → text_told text arities words ≡ read p a
    → question_in (arities_after text arities words) (words_after text arities words) a.head.unknowns (length a.head.arities) a.head.equations (length a.words) ≡ posed a
unfolding laid
question-held text arities words p a e =
    let ns : take (length a.head.arities) (arities_after text arities words) ≡ a.head.arities = rw e (take-append_seam a.head.arities _) in
    let ws : take (length a.words) (words_after text arities words) ≡ a.words = rw e (take-append_seam a.words _) in
    λ i. record { unknowns = a.head.unknowns; arities = ns i; equations = a.head.equations; words = ws i }

writes_back : (text : List ℕ) (a : reader.Asked) → ComesFrom edition_one text a → (buffer : List ℕ) → length text ≤ length buffer → Writes (posed a) text buffer
unfolding edition_one
writes_back text a (comes_from g good nests same written) buffer fits =
    rw (ap posed same, ← written) (good_written g good nests buffer (rw written fits))

pub read-then-written : (text arities words : List ℕ) (unknowns functors equations count : ℕ) → All (λ b. b < BYTES) text
    → answer (text_told text arities words) ≡ Ok (record { unknowns = unknowns; functors = functors; equations = equations; words = count }) → (buffer : List ℕ) → length text ≤ length buffer
    → Writes (question_in (arities_after text arities words) (words_after text arities words) unknowns functors equations count) text buffer
read-then-written text arities words unknowns functors equations count bytes e buffer fits =
    let t = took text arities words unknowns functors equations count e in
    go t.0 t.1 t.2
  where
    go : (a : reader.Asked) → Took text arities words a → counts a ≡ record { unknowns = unknowns; functors = functors; equations = equations; words = count }
        → Writes (question_in (arities_after text arities words) (words_after text arities words) unknowns functors equations count) text buffer
    go a t r =
        let u : a.head.unknowns ≡ unknowns = ap (λ (c : Counts). c.unknowns) r in
        let k : length a.head.arities ≡ functors = ap (λ (c : Counts). c.functors) r in
        let n : a.head.equations ≡ equations = ap (λ (c : Counts). c.equations) r in
        let c : length a.words ≡ count = ap (λ (c : Counts). c.words) r in
        rw (← u, ← k, ← n, ← c, question-held text arities words t.to a t.told)
        (writes_back text a (back.read-then-written edition_one text bytes t.to a t.asks) buffer fits)
