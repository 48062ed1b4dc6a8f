-- An equation of one functor replaced by its argument equations: the row that is made holds the state's only child.
use Rattle.std.specs.Prelude.{ℕ, suc, ◌+◌, ◌-◌, ◌≤◌, ◌≡◌, drop, get_or}
use Rattle.std.proofs.Math.Path.{refl, ap, sym}
use Rattle.std.proofs.Common.{◌∙◌, arith}
use mathlib.Core.List.{List, [], ◌∷◌, ◌++◌, append-nil, append_assoc}
use Rattle.std.proofs.Math.ListN.{length}
use Rattle.std.proofs.Math.Seq.{take_at, drop_at}
use Rattle.room.specs.Room.{seg, put, length-put, length-seg, seg-zero, seg-put_same, drop-seg}
use Rattle.room.specs.Parts.{earlier, later}
use Rattle.room.specs.Layout.{HEADER}
use Rattle.terms.specs.Bounds.{Bounds, edition_one, FIRST_UNKNOWN}
use Rattle.terms.specs.Kind.{Worded}
use Rattle.terms.specs.Term.{Terms, functor, words, words*, size, size*, list, count}
use Rattle.terms.specs.Formed.{Equation, Formed, Formed*, formed_functor, formed_none, formed_more, row, sides}
use Rattle.terms.specs.Laws.Flat.{length_words}
use Rattle.terms.proofs.Walk.{term_ends}
use Rattle.search.specs.State.{State, live, pend}
use Rattle.search.specs.Children.{pairwise}
use Rattle.search.specs.StateWords.{pending_words, pile_words}
use Rattle.rows.specs.declared.parts.Rest.{Rest}
use Rattle.rows.specs.declared.parts.Made.{Made}
use Rattle.rows.specs.Sections.{sections_fit}
use Rattle.rows.specs.Header.{header_of}
use Rattle.rows.specs.Bind.{FinishParts}
use Rattle.binding.specs.Keep.{kept_piece, kept_header}
use Rattle.rows.specs.Finished.{Finished, finish_long}
use Rattle.rows.specs.Row.{Makes, Beside, beside_put, finished_beside}
use Rattle.binding.specs.Child.{Piled, extended, keep_makes}
use Rattle.plain_steps.specs.StepParts.{PairParts, DecomposeParts, paired, decomposed, length-paired}
use Rattle.binding.specs.At.{sound_worded, Held, first_formed, left_stands, right_stands, sides-within, first-size}
use Rattle.plain_steps.specs.Singles.{rest, single_parts, rest_stands, rest-bound, few, rested_put, makes_after}

module _ {b : Bounds} {arities : List ℕ} {n : ℕ} (worded : Worded b arities n) where
  pub paired_words : {ts us : Terms} → Formed* arities n ts → Formed* arities n us → count ts ≡ count us
      → paired b arities (count ts) (words* b ts) (words* b us) ≡ pending_words b (pairwise (list ts) (list us))
  unfolding paired count list words pairwise pending_words row sides
  paired_words formed_none formed_none e = refl
  paired_words formed_none (formed_more g gs) e = absurd (omega arith)
  paired_words (formed_more f fs) formed_none e = absurd (omega arith)
  paired_words (formed_more {t = t} {ts = ts} f fs) (formed_more {t = u} {ts = us} g gs) e =
      let k = length_words b t in
      let l = length_words b u in
      rw (
        term_ends worded f (words* b ts),
        term_ends worded g (words* b us),
        take_at (words b t) (words* b ts) (size t) k,
        take_at (words b u) (words* b us) (size u) l,
        drop_at (words b t) (words* b ts) (size t) k,
        drop_at (words b u) (words* b us) (size u) l,
        paired_words fs gs (omega arith),
      )
      (append_assoc (words b t) (words b u) (pending_words b (pairwise (list ts) (list us))))

none_piled : [] ≡ pile_words edition_one []
unfolding pile_words
none_piled = refl

-- the argument equations lie in the child's row
length-arguments : {l : List ℕ} {left n right m to : ℕ} (arities : List ℕ) (c : ℕ) → PairParts l left n right m to
    → length (paired edition_one arities c (seg l left n) (seg l right m)) ≤ n + m
length-arguments {l} {left} {n} {right} {m} arities c P =
    omega (arith, length-paired edition_one arities c (seg l left n) (seg l right m), length-seg l left n P.left_within, length-seg l right m P.right_within)

pub decompose_beside : (arities : List ℕ) (c : ℕ) {l : List ℕ} {rest : Rest} {left n right m to lent next aside written : ℕ} {piece header : List ℕ} {a : Made} {r : List ℕ}
    → DecomposeParts l rest left n right m to lent next
    → Finished (decomposed edition_one arities l c left n right m to) to written lent piece header a r → Beside l r to lent aside
unfolding decomposed
decompose_beside arities c {l} {left = left} {n} {right} {m} {to} P F =
    beside_put (to + HEADER) (paired edition_one arities c (seg l left n) (seg l right m)) (later (omega (arith, P.fits, length-arguments arities c P.pairs))) (finished_beside F)

module _ {arities r₀ : List ℕ} {from to scratch lent : ℕ} {st : State} (H : Held arities r₀ from to scratch lent st) {e : Equation} {es : List Equation} (cut : st.pending ≡ e ∷ es)
    {k : ℕ} {ts us : Terms} (p : e.left ≡ functor k ts) (q : e.right ≡ functor k us) where
  abbrev left : ℕ
  left = from + HEADER + 1

  abbrev n : ℕ
  n = size e.left - 1

  abbrev right : ℕ
  right = from + HEADER + size e.left + 1

  abbrev m : ℕ
  m = size e.left + size e.right - size e.left - 1

  left-size : size e.left ≡ suc (size* ts)
  unfolding size
  left-size = ap size p

  right-size : size e.right ≡ suc (size* us)
  unfolding size
  right-size = ap size q

  m_is : m ≡ size e.right - 1
  m_is = omega arith

  left-arguments : seg r₀ left n ≡ words* edition_one ts
  unfolding words
  left-arguments =
      let z = left-size in
      sym (drop-seg r₀ (from + HEADER) (size e.left) 1 (omega arith)) ∙ ap (drop 1) (left_stands H.holds cut ∙ ap (words edition_one) p)

  right-arguments : seg r₀ right m ≡ words* edition_one us
  unfolding words
  right-arguments =
      let z = right-size in
      rw m_is (sym (drop-seg r₀ (from + HEADER + size e.left) (size e.right) 1 (omega arith)) ∙ ap (drop 1) (right_stands H.holds cut ∙ ap (words edition_one) q))

  left_formed : Formed* arities st.next ts × (count ts ≡ get_or arities k 0)
  left_formed = inside (rw p at (first_formed H.sound cut).0)
    where
      inside : Formed arities st.next (functor k ts) → Formed* arities st.next ts × (count ts ≡ get_or arities k 0)
      inside (formed_functor h f g) = (g, f)

  right_formed : Formed* arities st.next us × (count us ≡ get_or arities k 0)
  right_formed = inside (rw q at (first_formed H.sound cut).1)
    where
      inside : Formed arities st.next (functor k us) → Formed* arities st.next us × (count us ≡ get_or arities k 0)
      inside (formed_functor h f g) = (g, f)

  room : size e.left + size e.right ≤ lent
  room = omega (arith, sections_fit st H.fits, first-size st cut)

  pub decompose_first-parts : DecomposeParts r₀ (rest H cut) left n right m to lent st.next
  decompose_first-parts =
      let z = left-size in
      let y = right-size in
      let s = sides-within H cut in
      let r = H.rows in
      let o = room in
      record {
        pairs = record {
          left_within = omega arith;
          right_within = omega arith;
          to_within = omega arith;
          left_apart = earlier (omega arith);
          right_apart = earlier (omega arith);
          small = r.small;
        };
        fits = omega arith;
        parts = single_parts H cut (omega arith) (earlier (omega arith)) 0 FIRST_UNKNOWN (omega arith) (omega arith);
      }

  module _ {c : ℕ} (arity : c ≡ get_or arities k 0) where
    abbrev ds : List Equation
    ds = pairwise (list ts) (list us)

    arguments_are : paired edition_one arities c (seg r₀ left n) (seg r₀ right m) ≡ pending_words edition_one ds
    arguments_are =
        let f = left_formed in
        let g = right_formed in
        let z : c ≡ count ts = arity ∙ sym f.1 in
        rw (left-arguments, right-arguments, z) (paired_words (sound_worded H.sound) f.0 g.0 (f.1 ∙ sym g.1))

    abbrev P : List ℕ
    P = paired edition_one arities c (seg r₀ left n) (seg r₀ right m)

    length-P : length P ≤ n + m
    length-P = length-arguments arities c decompose_first-parts.pairs

    pub decompose_made : {a : Made} {r : List ℕ}
        → Finished (decomposed edition_one arities r₀ c left n right m to) to (length (paired edition_one arities c (seg r₀ left n) (seg r₀ right m))) lent
        (kept_piece (decomposed edition_one arities r₀ c left n right m to) (rest H cut) left 0)
        (header_of (kept_header (rest H cut) (length (paired edition_one arities c (seg r₀ left n) (seg r₀ right m))) 0 st.next)) a r
        → Makes edition_one r₀ to lent (live (pend (ds ++ es) st)) a r
    unfolding decomposed extended pend
    decompose_made F =
        let D = decompose_first-parts in
        let l = length-P in
        let written : length P ≤ lent = omega (arith, D.fits) in
        let G = finish_long D.parts (length-put r₀ (to + HEADER) P) in
        let parts : FinishParts (put r₀ (to + HEADER) P) (rest H cut) left 0 to (length P) lent FIRST_UNKNOWN st.next = record {
          parts = G.parts;
          written_within = written;
          size_small = G.size_small;
          unknown = G.unknown;
          bindings_small = G.bindings_small;
          next_small = G.next_small;
        } in
        let none : Piled (put r₀ (to + HEADER) P) left 0 [] = record { piled = seg-zero (put r₀ (to + HEADER) P) left ∙ none_piled } in
        makes_after (to + HEADER) P (omega arith)
        (rw append-nil at
        (keep_makes (rested_put (rest_stands H cut) (to + HEADER) P (earlier (omega (arith, rest-bound H cut)))) none parts ds
        (seg-put_same P r₀ (to + HEADER) (omega (arith, D.pairs.to_within)) ∙ arguments_are) F (few H cut)))
