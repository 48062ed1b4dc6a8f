-- A row that holds a state, at its first equation: what the steps find there. The state is sound: its terms are formed over its unknowns, of which
-- there are no more than a path may have.
use Rattle.std.specs.Prelude.{ℕ, ◌+◌, ◌-◌, ◌*◌, ◌<◌, ◌≤◌, ◌^◌, ◌≡◌, refl, length, take, true, false}
use Rattle.std.proofs.Math.Path.{ap}
use Rattle.std.proofs.Common.{sym, ◌∙◌, take_at}
use mathlib.Core.List.{List, [], ◌∷◌, ◌++◌, append-nil}
use native.Mathlib.Omega.{arith}
use Rattle.std.proofs.Math.ListN.{get_or}
use Rattle.std.proofs.Math.Seq.{get_or-append-add}
use Rattle.room.specs.Room.{seg, Within, seg-append, seg-seg, take-seg}
use Rattle.room.specs.Parts.{Apart, earlier}
use Rattle.room.specs.Layout.{HEADER}
use Rattle.terms.specs.Bounds.{edition_one, edition_one_proper, PATH_UNKNOWNS, FIRST_UNKNOWN, FUNCTORS}
use Rattle.terms.specs.Kind.{Worded}
use Rattle.terms.specs.Lists.{All, both}
use Rattle.terms.specs.Term.{Term, unknown, words, size}
use Rattle.terms.specs.Shape.{is_unknown}
use Rattle.terms.specs.Formed.{Equation, Formed, sides, row}
use Rattle.terms.specs.Answers.{Binding}
use Rattle.terms.specs.Laws.Flat.{size_positive, length_words}
use Rattle.search.specs.State.{State, pend, size_equations, size_bindings, state_size}
use Rattle.search.specs.Classify.{classify}
use Rattle.search.specs.StepView.{Sided, as_written, turned_round}
use Rattle.search.specs.StateWords.{pending_words}
use Rattle.search.specs.RunLimits.{most_size}
use Rattle.rows.specs.declared.parts.Rest.{Rest}
use Rattle.rows.specs.Sections.{sections_fit}
use Rattle.rows.specs.Bind.{BindParts, FinishParts}
use Rattle.rows.specs.Row.{Holds, Rested, header_for}
use Rattle.rows.specs.declared.first.Subject.{Subject}
use Rattle.binding.specs.Child.{Stands}
use Rattle.rows.specs.Stepping.{unknown_word}
use Rattle.rows.specs.Terms.MemberWords.{head_word, head_words, head_unknown}
use Rattle.rows.specs.First.{first_in, subject_in, subject_by, rest_after, holds-rest, cut_sizes, middle, first_in_words}

pub record Sound (arities : List ℕ) (st : State) : Type 0 where
  pub functors : length arities ≤ FUNCTORS
  pub few : st.next ≤ PATH_UNKNOWNS
  pub pending : All (Formed arities st.next) (sides st.pending)
  pub pile : All (λ n. Formed arities st.next n.term) st.pile
  pub names : All (λ n. n.name < st.next) st.pile

pub sound_worded : {arities : List ℕ} {st : State} → Sound arities st → Worded edition_one arities st.next
unfolding edition_one
sound_worded S = record { proper = edition_one_proper; functors = omega arith; unknowns = omega arith }

-- a row, the next one and the scratch rows after it, each of 8 + size words
pub record Rows (l : List ℕ) (from to scratch lent : ℕ) : Type 0 where
  pub row : from + HEADER + lent ≤ to
  pub next_row : to + HEADER + lent ≤ scratch
  pub scratch_rows : scratch + 4 * (HEADER + lent) ≤ length l
  pub lent_small : lent ≤ most_size
  pub small : length l < 2 ^ 32

-- the row at from holds st, which fits
pub record Held (arities l : List ℕ) (from to scratch lent : ℕ) (st : State) : Type 0 where
  pub rows : Rows l from to scratch lent
  pub holds : Holds edition_one l from st
  pub sound : Sound arities st
  pub fits : state_size st ≤ lent

-- a binding has two words at least
pub few_bindings : (ns : List Binding) → 2 * length ns ≤ size_bindings ns
unfolding size_bindings
few_bindings [] = omega arith
few_bindings (n ∷ ns) = omega (arith, few_bindings ns, size_positive n.value)

module _ {arities l : List ℕ} {from to scratch lent : ℕ} {st : State} (H : Held arities l from to scratch lent st) (ds es : List Equation) (cut : st.pending ≡ ds ++ es) where
  abbrev rest : Rest
  rest = rest_after from (header_for st) (size_equations ds)

  pub rested : Rested edition_one l rest (pend es st)
  rested = holds-rest H.holds ds es cut

  -- where the rest of the row lies
  pub bind_parts : {by m : ℕ} → Within l by m → Apart by m to (HEADER + lent) → BindParts l rest by m to (HEADER + lent)
  unfolding rest_after header_for state_size
  bind_parts {by} {m} h a =
      let s = cut_sizes H.holds ds es cut in
      let f = sections_fit st H.fits in
      let r = H.rows in
      record {
        rest_within = omega arith;
        by_within = h;
        to_within = omega arith;
        rest_apart = earlier (omega arith);
        by_apart = a;
        small = r.small;
      }

  -- it ends before the next row
  pub rest-room : rest.at + (rest.pending + rest.pile + rest.bound) ≤ to
  unfolding rest_after header_for state_size
  rest-room =
      let s = cut_sizes H.holds ds es cut in
      let f = sections_fit st H.fits in
      omega (arith, H.rows.row)

  pub finish-parts : {by m : ℕ} → Within l by m → Apart by m to (HEADER + lent) → (written x next : ℕ) → written ≤ lent → FIRST_UNKNOWN ≤ x → next < 65536 → FinishParts l rest by m to written lent x next
  unfolding rest_after header_for state_size
  finish-parts h a written x next w u n = record {
    parts = bind_parts h a;
    written_within = w;
    size_small = H.rows.lent_small;
    unknown = u;
    bindings_small =
        let f = sections_fit st H.fits in
        omega (arith, few_bindings st.bindings, H.rows.lent_small);
    next_small = n;
  }

-- a subject found: x's word, and where t's words stand, among the first words of the body
pub record SubjectAt (l : List ℕ) (s : Subject) (x : ℕ) (t : Term) (from end : ℕ) : Type 0 where
  pub word : s.x ≡ FIRST_UNKNOWN + x
  pub stands : Stands l s.by s.m t
  pub after : from + HEADER ≤ s.by
  pub before : s.by + s.m ≤ from + HEADER + end

-- ---- the first equation

pub first-size : (st : State) {e : Equation} {es : List Equation} → st.pending ≡ e ∷ es → size_equations st.pending ≡ size e.left + size e.right + size_equations es
unfolding size_equations
first-size st cut = ap size_equations cut

pub first_formed : {arities : List ℕ} {st : State} {e : Equation} {es : List Equation} → Sound arities st → st.pending ≡ e ∷ es
    → Formed arities st.next e.left × Formed arities st.next e.right
unfolding sides
first_formed {arities} {st} {e} {es} sound cut = both_formed (rw cut at sound.pending)
  where
    both_formed : All (Formed arities st.next) (e.left ∷ e.right ∷ sides es) → Formed arities st.next e.left × Formed arities st.next e.right
    both_formed (both f (both g fs)) = (f, g)

module _ {l : List ℕ} {from : ℕ} {st : State} (holds : Holds edition_one l from st) {e : Equation} {es : List Equation} (cut : st.pending ≡ e ∷ es) where
  -- the words of its sides
  abbrev L : List ℕ
  L = words edition_one e.left

  abbrev R : List ℕ
  R = words edition_one e.right

  pub first_words : seg l (from + HEADER) (size_equations st.pending) ≡ L ++ (R ++ pending_words edition_one es)
  unfolding pending_words row sides size_equations rest_after header_for pend
  first_words =
      let p : from + HEADER + 0 ≡ from + HEADER = omega arith in
      let n : size_equations st.pending - 0 ≡ size_equations st.pending = omega arith in
      rw (p, n) at (holds-rest holds [] st.pending refl).pending ∙ rw cut

  -- each side in the room
  pub left_stands : seg l (from + HEADER) (size e.left) ≡ L
  left_stands =
      let s = first-size st cut in
      sym (take-seg l (from + HEADER) (size_equations st.pending) (size e.left) (omega arith)) ∙ ap (take (size e.left)) first_words ∙ take_at L _ (size e.left) (length_words edition_one e.left)

  pub right_stands : seg l (from + HEADER + size e.left) (size e.right) ≡ R
  right_stands =
      let s = first-size st cut in
      sym (seg-seg l (from + HEADER) (size_equations st.pending) (size e.left) (size e.right) (omega arith))
      ∙ middle L R (pending_words edition_one es) (size e.left) (size e.right) first_words (length_words edition_one e.left) (length_words edition_one e.right)

  -- both, as the code lends them
  pub sides_stand : seg l (from + HEADER) (size e.left + size e.right) ≡ L ++ R
  sides_stand = seg-append l (from + HEADER) (size e.left) (size e.right) ∙ rw (left_stands, right_stands)

  pub first_found : {arities : List ℕ} → Sound arities st
      → first_in edition_one arities (seg l (from + HEADER) (size_equations st.pending)) ≡ record { step = classify e.left e.right; right = size e.left; end = size e.left + size e.right }
  first_found sound = let f = first_formed sound cut in rw first_words (first_in_words (sound_worded sound) f.0 f.1 (pending_words edition_one es))

module _ {arities l : List ℕ} {from to scratch lent : ℕ} {st : State} (H : Held arities l from to scratch lent st) {e : Equation} {es : List Equation} (cut : st.pending ≡ e ∷ es) where
  pub sides-within : from + HEADER + (size e.left + size e.right) ≤ to
  sides-within = let f = sections_fit st H.fits in omega (arith, first-size st cut, H.rows.row)

  -- ---- an unknown and a term

  abbrev found : Subject
  found = subject_in edition_one (seg l (from + HEADER) (size e.left + size e.right)) (from + HEADER) (size e.left) (size e.left + size e.right)

  left_word : unknown_word edition_one (get_or (words edition_one e.left ++ words edition_one e.right) 0 0) ≡ is_unknown e.left
  unfolding unknown_word
  left_word = rw (head_words edition_one e.left (words edition_one e.right)) (head_unknown (sound_worded H.sound) (first_formed H.sound cut).0)

  found_left : is_unknown e.left ≡ true
      → found ≡ record { x = head_word edition_one e.left; by = from + HEADER + size e.left; m = size e.left + size e.right - size e.left }
  unfolding subject_in subject_by
  found_left u = rw (sides_stand H.holds cut, left_word, u, head_words edition_one e.left (words edition_one e.right))

  found_right : is_unknown e.left ≡ false → found ≡ record { x = head_word edition_one e.right; by = from + HEADER; m = size e.left }
  unfolding subject_in subject_by
  found_right u =
      let at : get_or (words edition_one e.left ++ words edition_one e.right) (size e.left) 0 ≡ head_word edition_one e.right =
      ap (λ (k : ℕ). get_or (words edition_one e.left ++ words edition_one e.right) k 0) (omega (arith, length_words edition_one e.left)) ∙ get_or-append-add (words edition_one e.left) (words edition_one e.right) 0 0 ∙ ap (λ (ws : List ℕ). get_or ws 0 0) (sym (append-nil (words edition_one e.right))) ∙ head_words edition_one e.right [] in
      rw (sides_stand H.holds cut, left_word, u, at)

  left-subject : {x : ℕ} {t : Term} → e.left ≡ unknown x → e.right ≡ t → SubjectAt l found x t from (size e.left + size e.right)
  unfolding head_word edition_one is_unknown
  left-subject {x} {t} p q =
      let k : size e.left + size e.right - size e.left ≡ size e.right = omega arith in
      rw (found_left (ap is_unknown p), k) (record {
        word = ap (head_word edition_one) p;
        stands = record { stands = right_stands H.holds cut ∙ ap (words edition_one) q };
        after = omega arith;
        before = omega arith;
      })

  right-subject : {x : ℕ} {t : Term} → is_unknown t ≡ false → e.left ≡ t → e.right ≡ unknown x → SubjectAt l found x t from (size e.left + size e.right)
  unfolding head_word edition_one
  right-subject {x} {t} h p q =
      rw (found_right (ap is_unknown p ∙ h)) (record {
        word = ap (head_word edition_one) q;
        stands = record { stands = left_stands H.holds cut ∙ ap (words edition_one) p };
        after = omega arith;
        before = omega arith;
      })

  pub subject-found : {x : ℕ} {t : Term} → Sided x t e.left e.right → SubjectAt l found x t from (size e.left + size e.right)
  subject-found {x} {t} S = by_side S refl refl
    where
      by_side : {a c : Term} → Sided x t a c → e.left ≡ a → e.right ≡ c → SubjectAt l found x t from (size e.left + size e.right)
      by_side as_written p q = left-subject p q
      by_side (turned_round h) p q = right-subject h p q
