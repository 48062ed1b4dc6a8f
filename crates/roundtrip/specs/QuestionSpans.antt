-- Writing what was read gives the text: every text that is read is the text of a good question, which is the one that was read.
use Prim.Native.Nat.{ℕ, zero, suc, ◌+◌, ◌*◌, ◌≤◌}
use Rattle.std.proofs.Common.{arith, sym, ◌∙◌, eqb-true}
use Rattle.std.specs.Prelude.{◌≡◌, eqb}
use Rattle.std.proofs.Math.Path.{refl, ap}
use mathlib.Core.List.{List, [], ◌∷◌, ◌++◌, append_assoc, append-nil}
use Rattle.std.proofs.Math.ListN.{length, drop}
use Rattle.terms.specs.Bounds.{Bounds}
use Rattle.terms.specs.Lists.{All, none, both, all, cases}
use Rattle.terms.specs.Term.{Term, words, nesting}
use Rattle.terms.specs.Formed.{Formed, Equation, sides, Question, row, Good}
use Rattle.text.specs.Keys.{edition_key, unknowns_key, arities_key, equations_key, left_key, right_key}
use Rattle.text.specs.Text.{decimal, numbers, further_numbers, text, line, equation_lines, question_text}
use Rattle.numerals.specs.TextReading.{read}
use Rattle.numerals.specs.Bytes.{byte, stopped}
use Rattle.term_reader.specs.Terms.{whole_term}
use Rattle.header_reader.specs.HeaderText.{arity_list, arity_line, Header, header}
use Rattle.header_reader.specs.HeaderText as header
use Rattle.question_reader.specs.Questions.{Asked, side, equation, equations, question}
use Rattle.question_reader.specs.WholePlaces.{Bytes, literal}
use Rattle.roundtrip.specs.Spans.{Holds, goes, stops, told, holds_then, holds-map, holds-both, one_test, join, key_holds, between-holds}
use Rattle.roundtrip.specs.TermSpans.{Termed, termed, term_holds}
use Rattle.roundtrip.specs.Counted.{term_few}
use Rattle.roundtrip.specs.QuestionText.{asked}

-- the four lines of a header, and lines after them
unfoldable head_text : Header → List ℕ
head_text h =
    line edition_key (decimal 1)
    ++ (line unknowns_key (decimal h.unknowns) ++ (line arities_key (numbers h.arities) ++ line equations_key (decimal h.equations)))

head_and : (h : Header) (t : List ℕ) → head_text h ++ t
    ≡ line edition_key (decimal 1)
    ++ (line unknowns_key (decimal h.unknowns) ++ (line arities_key (numbers h.arities) ++ (line equations_key (decimal h.equations) ++ t)))
unfolding head_text
head_and h t =
    let u : List ℕ = line unknowns_key (decimal h.unknowns) in
    let a : List ℕ = line arities_key (numbers h.arities) in
    let e : List ℕ = line equations_key (decimal h.equations) in
    append_assoc (line edition_key (decimal 1)) (u ++ (a ++ e)) t
    ∙ ap (λ (l : List ℕ). line edition_key (decimal 1) ++ l) (append_assoc u (a ++ e) t ∙ ap (λ (l : List ℕ). u ++ l) (append_assoc a e t))

module _ (s : List ℕ) where
  abbrev Span : ℕ → List ℕ → ℕ → Type 0
  Span p w q = drop p s ≡ w ++ drop q s

  line_feed : Bytes (10 ∷ [])
  unfolding all
  line_feed = literal (10 ∷ []) refl

  -- ---- the header

  line-holds : (key : List ℕ) (low high p : ℕ) → Bytes key → Holds (λ q v. Span p (line key (decimal v)) q × (low ≤ v) × (v ≤ high)) (header.line key low high s p)
  unfolding header.line line
  line-holds key low high p k =
      holds_then _ (key_holds s key p (tt {0}) k)
      (λ q x e. holds_then _ (between-holds low high s q)
      (λ r v f. holds-map (key_holds s (10 ∷ []) r v line_feed)
      (λ o y g. rw g.1 (join s key (decimal v ++ (10 ∷ [])) p q o e.0 (join s (decimal v) (10 ∷ []) q r o f.0 g.0), f.1, f.2))))

  data Arities (m most p : ℕ) (before : List ℕ) (q : ℕ) (vs : List ℕ) : Type 0 where
    arities : (a : ℕ) (ns : List ℕ) → Span p ((decimal a ++ further_numbers ns) ++ (10 ∷ [])) q → vs ≡ before ++ (a ∷ ns) → a ≤ most → All (λ n. n ≤ most) ns → suc (length ns) ≤ m
        → Arities m most p before q vs

  more-arities : (m most p q a : ℕ) (before : List ℕ) → Span p (decimal a) q → Span q (44 ∷ []) (q + 1) → a ≤ most → (o : ℕ) (vs : List ℕ)
      → Arities m most (q + 1) (before ++ (a ∷ [])) o vs → Arities (suc m) most p before o vs
  unfolding further_numbers
  more-arities m most p q a before e f h o vs (arities c ns g w l ls k) =
      let y = join s (decimal a) (44 ∷ ((decimal c ++ further_numbers ns) ++ (10 ∷ []))) p q o e (join s (44 ∷ []) ((decimal c ++ further_numbers ns) ++ (10 ∷ [])) q (q + 1) o f g) in
      arities a (c ∷ ns) (y ∙ ap (λ (l : List ℕ). l ++ drop o s) (sym (append_assoc (decimal a) (44 ∷ (decimal c ++ further_numbers ns)) (10 ∷ []))))
      (w ∙ append_assoc before (a ∷ []) (c ∷ ns)) h (both l ls) (omega arith)

  arity_list-holds : (m most p : ℕ) (before : List ℕ) → Holds (Arities m most p before) (arity_list m most s p before)
  unfolding arity_list further_numbers
  arity_list-holds zero most p before = stops
  arity_list-holds (suc m) most p before =
      holds_then _ (between-holds 0 most s p)
      (λ q a e.
      cases (eqb (byte s q) 44)
      (λ t. rw t (holds-map (arity_list-holds m most (q + 1) (before ++ (a ∷ []))) (more-arities m most p q a before e.0 (one_test s q 44 t (omega arith)) e.2)))
      (λ t.
      cases (eqb (byte s q) 10)
      (λ u.
      let y : Span p ((decimal a ++ []) ++ (10 ∷ [])) (q + 1) =
      rw (append-nil (decimal a)) (join s (decimal a) (10 ∷ []) p q (q + 1) e.0 (one_test s q 10 u (omega arith))) in
      rw (t, u) (goes (arities a [] y refl e.2 none (omega arith))))
      (λ u. rw (t, u) stops)))

  arity_line-holds : (b : Bounds) (p : ℕ) → Holds (λ q ns. Span p (line arities_key (numbers ns)) q × All (λ n. n ≤ b.arity) ns × (length ns ≤ b.functors)) (arity_line b s p)
  unfolding arity_line line numbers all
  arity_line-holds b p =
      holds_then _ (key_holds s arities_key p [] (literal arities_key refl))
      (λ q ns e. rw e.1
      (cases (eqb (byte s q) 10)
      (λ t. rw t (goes (join s arities_key (10 ∷ []) p q (q + 1) e.0 (one_test s q 10 t (omega arith)), none, omega arith)))
      (λ t. rw t (holds-map (arity_list-holds b.functors b.arity q []) (some b p q e.0)))))
    where
      some : (b : Bounds) (p q : ℕ) → Span p arities_key q → (o : ℕ) (vs : List ℕ) → Arities b.functors b.arity q [] o vs
          → Span p (line arities_key (numbers vs)) o × All (λ n. n ≤ b.arity) vs × (length vs ≤ b.functors)
      some b p q e o vs (arities a ns f w l ls k) =
          rw w (join s arities_key ((decimal a ++ further_numbers ns) ++ (10 ∷ [])) p q o e f, both l ls, k)

  record Headed (b : Bounds) (q : ℕ) (h : Header) : Type 0 where
    there : Span 0 (head_text h) q
    unknowns : h.unknowns ≤ b.unknowns
    arities : All (λ n. n ≤ b.arity) h.arities
    functors : length h.arities ≤ b.functors
    equations : h.equations ≤ b.equations

  header-holds : (b : Bounds) → Holds (Headed b) (header b s)
  unfolding header all head_text
  header-holds b =
      holds_then _ (line-holds edition_key 1 1 0 (literal edition_key refl))
      (λ p one e. holds_then _ (line-holds unknowns_key 0 b.unknowns p (literal unknowns_key refl))
      (λ q n f. holds_then _ (arity_line-holds b q)
      (λ r ns g. holds_then _ (line-holds equations_key 0 b.equations r (literal equations_key refl))
      (λ t m h.
      let z : one ≡ 1 = omega (arith, e.1, e.2) in
      let first : Span 0 (line edition_key (decimal 1)) p = rw z at e.0 in
      goes (record {
        there = join s (line edition_key (decimal 1)) _ 0 p t first (join s (line unknowns_key (decimal n)) _ p q t f.0 (join s (line arities_key (numbers ns)) _ q r t g.0 h.0));
        unknowns = f.2;
        arities = g.1;
        functors = g.2;
        equations = h.2;
      })))))

-- ---- the equations, and the whole

text_end : (s : List ℕ) (p : ℕ) → Bytes s → byte s p ≡ stopped → drop p s ≡ []
unfolding byte
text_end [] zero h e = refl
text_end [] (suc p) h e = refl
text_end (x ∷ s) zero (both l ls) e = absurd (omega arith)
text_end (x ∷ s) (suc p) (both l ls) e = text_end s p ls e

module _ (b : Bounds) (s : List ℕ) (n : ℕ) (arities : List ℕ) where
  data Sided (key : List ℕ) (p : ℕ) (ws : List ℕ) (q : ℕ) (vs : List ℕ) : Type 0 where
    sided : (t : Term) → drop p s ≡ line key (text t) ++ drop q s → vs ≡ ws ++ words b t → Formed arities n t → nesting t ≤ b.nesting → length vs ≤ b.symbols → Sided key p ws q vs

  side_term : (key : List ℕ) (p q : ℕ) (ws : List ℕ) → drop p s ≡ key ++ drop q s → (r o : ℕ) (vs : List ℕ) → Termed b s n arities 0 q ws r vs → length vs ≤ b.symbols
      → drop r s ≡ (10 ∷ []) ++ drop o s → Sided key p ws o vs
  unfolding line
  side_term key p q ws e r o vs (termed t f w F d) k g =
      sided t (join s key (text t ++ (10 ∷ [])) p q o e (join s (text t) (10 ∷ []) q r o f g)) w F (omega arith) k

  side-holds : (key : List ℕ) (p : ℕ) (ws : List ℕ) → Bytes key → Holds (Sided key p ws) (side b s n arities key p ws)
  unfolding side whole_term
  side-holds key p ws k =
      holds_then _ (key_holds s key p ws k)
      (λ q us e. rw e.1 (holds_then _ (holds-both (term_holds b s n arities (suc (2 * length s)) 0 q ws (omega arith)) (term_few b s n arities (suc (2 * length s)) 0 q ws))
      (λ r vs h. holds-map (key_holds s (10 ∷ []) r vs (line_feed s)) (λ o ys g. rw g.1 (side_term key p q ws e.0 r o vs h.0 h.1 g.0)))))

  data Rest (m p : ℕ) (ws : List ℕ) (q : ℕ) (vs : List ℕ) : Type 0 where
    lines : (es : List Equation) → length es ≡ m → drop p s ≡ equation_lines es → vs ≡ ws ++ row b (sides es) → All (Formed arities n) (sides es)
        → All (λ t. nesting t ≤ b.nesting) (sides es) → length vs ≤ b.symbols → Rest m p ws q vs

  one-equation : (m p q r : ℕ) (ws us vs : List ℕ) → Sided left_key p ws q us → Sided right_key q us r vs → (o : ℕ) (ys : List ℕ) → Rest m r vs o ys → Rest (suc m) p ws o ys
  unfolding equation_lines sides row
  one-equation m p q r ws us vs (sided t e w F d k) (sided u f x G c l) o ys (lines es z g y Fs ds i) =
      lines (record { left = t; right = u } ∷ es) (ap suc z)
      (e ∙ ap (λ (l : List ℕ). line left_key (text t) ++ l) (f ∙ ap (λ (l : List ℕ). line right_key (text u) ++ l) g))
      (y ∙ rw (x, w) (simp append_assoc)) (both F (both G Fs)) (both d (both c ds)) i

  data Both (p : ℕ) (ws : List ℕ) (r : ℕ) (vs : List ℕ) : Type 0 where
    sides_of : (q : ℕ) (us : List ℕ) → Sided left_key p ws q us → Sided right_key q us r vs → Both p ws r vs

  equation-holds : (p : ℕ) (ws : List ℕ) → Holds (Both p ws) (equation b s n arities p ws)
  unfolding equation all
  equation-holds p ws =
      holds_then _ (side-holds left_key p ws (literal left_key refl))
      (λ q us e. holds-map (side-holds right_key q us (literal right_key refl)) (λ r vs f. sides_of q us e f))

  both_few : (p r : ℕ) (ws vs : List ℕ) → Both p ws r vs → length vs ≤ b.symbols
  both_few p r ws vs (sides_of q us e (sided t f w F d k)) = k

  both-then : (m p r : ℕ) (ws vs : List ℕ) → Both p ws r vs → (o : ℕ) (ys : List ℕ) → Rest m r vs o ys → Rest (suc m) p ws o ys
  both-then m p r ws vs (sides_of q us e f) = one-equation m p q r ws us vs e f

  equations_hold : (m p : ℕ) (ws : List ℕ) → Bytes s → length ws ≤ b.symbols → Holds (Rest m p ws) (equations b s n arities m p ws)
  unfolding equations equation_lines sides row
  equations_hold zero p ws h k =
      cases (eqb (byte s p) stopped)
      (λ t. rw t (goes (lines [] refl (text_end s p h (eqb-true (byte s p) stopped t)) (sym (append-nil ws)) none none k)))
      (λ t. rw t stops)
  equations_hold (suc m) p ws h k =
      holds_then _ (equation-holds p ws) (λ r vs e. holds-map (equations_hold m r vs h (both_few p r ws vs e)) (both-then m p r ws vs e))

-- the question that a text asks: it is good, its terms nest no deeper than text may, and the text is its text
pub data ComesFrom (b : Bounds) (s : List ℕ) (a : Asked) : Type 0 where
  comes_from : (q : Question) → Good b q → All (λ t. nesting t ≤ b.nesting) (sides q.equations) → a ≡ asked b q → question_text q ≡ s → ComesFrom b s a

whole-holds : (b : Bounds) (s : List ℕ) → Bytes s → Holds (λ p a. ComesFrom b s a) (question b s)
unfolding question question_text
whole-holds b s h =
    holds_then _ (header-holds s b)
    (λ p d e. holds_then _ (equations_hold b s d.unknowns d.arities d.equations p [] h (omega arith)) (λ o vs f. goes (come p d o vs e f)))
  where
    come : (p : ℕ) (d : Header) (o : ℕ) (vs : List ℕ) → Headed s b p d → Rest b s d.unknowns d.arities d.equations p [] o vs
        → ComesFrom b s (record { head = d; words = vs })
    come p d o vs e (lines es z g y Fs ds k) =
        comes_from (record { unknowns = d.unknowns; arities = d.arities; equations = es })
        (record { unknowns = e.unknowns; functors = e.functors; arities = e.arities; equations = omega (arith, e.equations, z); formed = Fs; symbols = rw y at k })
        ds (rw (z, y)) (sym (e.there ∙ ap (λ (l : List ℕ). head_text d ++ l) g ∙ head_and d (equation_lines es) ∙ rw z))

pub read-then-written : (b : Bounds) (s : List ℕ) → Bytes s → (p : ℕ) (a : Asked) → question b s ≡ read p a → ComesFrom b s a
read-then-written b s h p a e = told (rw e at (whole-holds b s h))
