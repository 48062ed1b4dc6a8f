-- A term that was read is a formed term whose text stands there: how it began, what followed each item, and then the whole.
use Prim.Native.Nat.{ℕ, zero, suc, ◌+◌, ◌-◌, ◌≤◌, ◌<◌}
use native.Mathlib.Omega.{arith}
use Rattle.std.specs.Prelude.{◌≡◌, ltb, length, get_or}
use Rattle.std.proofs.Math.Path.{refl, ap}
use Rattle.std.proofs.Common.{sym, ◌∙◌}
use Rattle.std.proofs.Math.Bool.{false}
use mathlib.Core.List.{List, [], ◌∷◌, ◌++◌, append_assoc, append-nil}
use borrow.Author.Tests.{eqb-true, eqb-false, ltb-true, ne_eqb}
use Rattle.std.proofs.Math.Dec.{eqb}
use Rattle.std.proofs.Math.ListN.{drop}
use Rattle.terms.specs.Bounds.{Bounds, MEMBER, EMPTY}
use Rattle.terms.specs.Lists.{cases}
use Rattle.terms.specs.Term.{Term, Terms, unknown, empty, with, functor, none, more, words, words*, count, nesting, inside, deepest}
use Rattle.terms.specs.Formed.{Formed, Formed*, formed_unknown, formed_empty, formed_with, formed_functor, formed_none, formed_more}
use Rattle.text.specs.Text.{decimal, unknown_name, functor_name, text, after_member, arguments, after_argument}
use Rattle.numerals.specs.TextReading.{and_then}
use Rattle.numerals.specs.Bytes.{byte}
use Rattle.items.specs.Items.{Coming, due, done, begins, symbol, name, due_member, due_tail, close_empty, an_unknown, a_functor, a_set, beginning, after, after_tail, after_member as member_passed, after_argument as argument_passed}
use Rattle.items.specs.Items as items
use Rattle.term_reader.specs.Terms.{follow, term, list, term_step, list_step}
use Rattle.items.specs.declared.item.Item.{Item}
use Rattle.items.specs.declared.item.Item.TheVariants.{Member, Tail, Argument}
use Rattle.roundtrip.specs.Suffix.{first_byte}
use Rattle.roundtrip.specs.Spans.{Holds, goes, stops, holds_then, holds-map, one_test, join, number-holds}

module _ (b : Bounds) (s : List ℕ) (n : ℕ) (arities : List ℕ) where
  -- the bytes w stand between p and q
  abbrev Span : ℕ → List ℕ → ℕ → Type 0
  Span p w q = drop p s ≡ w ++ drop q s

  -- how a term at p began, after the words ws: whole, or with a bracket that opened
  pub data Starts (depth p : ℕ) (ws : List ℕ) : ℕ → Coming → Type 0 where
    whole : (t : Term) {q : ℕ} → Span p (text t) q → Formed arities n t → nesting t ≡ 0 → Starts depth p ws q (done (ws ++ words b t))
    opens_set : {q : ℕ} → Span p (123 ∷ []) q → depth < b.nesting → Starts depth p ws q (due Member (ws ++ (MEMBER ∷ [])))
    opens_arguments : (k left : ℕ) {q : ℕ} → Span p (functor_name k ++ (40 ∷ [])) q → k < length arities → suc left ≡ get_or arities k 0 → depth < b.nesting
        → Starts depth p ws q (due (Argument left) (ws ++ ((b.first_functor + k) ∷ [])))

  -- what followed at p an item
  pub data Passed (p : ℕ) (ws : List ℕ) : Item → ℕ → Coming → Type 0 where
    member_more : {q : ℕ} → Span p (44 ∷ []) q → Passed p ws Member q (due Member (ws ++ (MEMBER ∷ [])))
    member_tail : {q : ℕ} → Span p (124 ∷ []) q → eqb (byte s q) 123 ≡ false → Passed p ws Member q (due Tail ws)
    member_end : {q : ℕ} → Span p (125 ∷ []) q → Passed p ws Member q (done (ws ++ (EMPTY ∷ [])))
    tail_end : {q : ℕ} → Span p (125 ∷ []) q → Passed p ws Tail q (done ws)
    argument_more : {left q : ℕ} → Span p (44 ∷ []) q → Passed p ws (Argument (suc left)) q (due (Argument left) ws)
    argument_end : {q : ℕ} → Span p (41 ∷ []) q → Passed p ws (Argument 0) q (done ws)

  name-holds : (declared p m letter : ℕ) → Span p (letter ∷ []) (p + 1) → Holds (λ q i. Span p (letter ∷ decimal i) q × (i < declared)) (name b s declared p m)
  unfolding name symbol
  name-holds declared p m letter e =
      cases (ltb m b.symbols)
      (λ t.
      rw t (holds_then _ (number-holds s (p + 1))
      (λ q i f. cases (ltb i declared) (λ u. rw u (goes (e ∙ ap (λ (l : List ℕ). letter ∷ l) f, ltb-true i declared u))) (λ u. rw u stops))))
      (λ t. rw t stops)

  -- the empty set closes at p, after what stands from o to p
  close_holds : (P : ℕ → Coming → Type 0) (p : ℕ) (ws : List ℕ) → P (p + 1) (done (ws ++ (EMPTY ∷ []))) → Holds P (close_empty b p ws)
  unfolding close_empty symbol
  close_holds P p ws h = cases (ltb (length ws) b.symbols) (λ t. rw t (goes h)) (λ t. rw t stops)

  member_holds : (P : ℕ → Coming → Type 0) (p : ℕ) (ws : List ℕ) → P p (due Member (ws ++ (MEMBER ∷ []))) → Holds P (due_member b s p ws)
  unfolding due_member symbol
  member_holds P p ws h =
      cases (begins (byte s p))
      (λ e. cases (ltb (length ws) b.symbols) (λ t. rw (e, t) (goes h)) (λ t. rw (e, t) stops))
      (λ e. rw e stops)

  arguments_hold : (depth a p k : ℕ) (ws vs : List ℕ) (o : ℕ) → vs ≡ ws ++ ((b.first_functor + k) ∷ []) → Span o (functor_name k) p → k < length arities → a ≡ get_or arities k 0
      → Holds (Starts depth o ws) (items.arguments b s depth a p vs)
  unfolding items.arguments text words nesting count
  arguments_hold depth a p k ws vs o w e h c =
      cases (eqb (byte s p) 40)
      (λ t.
      cases (eqb a 0)
      (λ z. rw (t, z) stops)
      (λ z.
      cases (ltb depth b.nesting)
      (λ d.
      rw (t, z, d, w) (goes (opens_arguments k (a - 1) (join s (functor_name k) (40 ∷ []) o p (p + 1) e (one_test s p 40 t (omega arith))) h (positive a z ∙ c) (ltb-true depth b.nesting d))))
      (λ d. rw (t, z, d) stops)))
      (λ t.
      cases (eqb a 0)
      (λ z. rw (t, z, w) (goes (whole (functor k none) {q = p} (e ∙ ap (λ (l : List ℕ). l ++ drop p s) (sym (append-nil (functor_name k)))) (formed_functor {k = k} {ts = none} h (sym (eqb-true a 0 z) ∙ c) formed_none) refl)))
      (λ z. rw (t, z) stops))
    where
      positive : (a : ℕ) → eqb a 0 ≡ false → suc (a - 1) ≡ a
      positive zero z = absurd (eqb-false 0 0 z refl)
      positive (suc a) z = omega arith

  begin_holds : (depth p : ℕ) (ws : List ℕ) → Holds (Starts depth p ws) (beginning b s n arities depth p ws)
  unfolding beginning an_unknown a_functor a_set text words nesting unknown_name functor_name
  begin_holds depth p ws =
      cases (eqb (byte s p) 120)
      (λ x. rw x (holds_then _ (name-holds n p (length ws) 120 (one_test s p 120 x (omega arith))) (λ q i h. goes (whole (unknown i) h.0 (formed_unknown h.1) refl))))
      (λ x.
      cases (eqb (byte s p) 102)
      (λ f.
      rw (x, f) (holds_then _ (name-holds (length arities) p (length ws) 102 (one_test s p 102 f (omega arith)))
      (λ q k h. arguments_hold depth (get_or arities k 0) q k ws (ws ++ ((b.first_functor + k) ∷ [])) p refl h.0 h.1 refl)))
      (λ f.
      cases (eqb (byte s p) 123)
      (λ o.
      let e = one_test s p 123 o (omega arith) in
      cases (eqb (byte s (p + 1)) 125)
      (λ c.
      let e2 : Span p (123 ∷ 125 ∷ []) (p + 1 + 1) = join s (123 ∷ []) (125 ∷ []) p (p + 1) (p + 1 + 1) e (one_test s (p + 1) 125 c (omega arith)) in
      rw (x, f, o, c) (close_holds (Starts depth p ws) (p + 1) ws (whole empty e2 formed_empty refl)))
      (λ c.
      cases (ltb depth b.nesting)
      (λ d. rw (x, f, o, c, d) (member_holds (Starts depth p ws) (p + 1) ws (opens_set e (ltb-true depth b.nesting d))))
      (λ d. rw (x, f, o, c, d) stops)))
      (λ o. rw (x, f, o) stops)))

  pass-holds : (i : Item) (p : ℕ) (ws : List ℕ) → Holds (Passed p ws i) (after b s i p ws)
  unfolding after member_passed after_tail argument_passed due_tail
  pass-holds Member p ws =
      cases (eqb (byte s p) 44)
      (λ t. rw t (member_holds (Passed p ws Member) (p + 1) ws (member_more (one_test s p 44 t (omega arith)))))
      (λ t.
      cases (eqb (byte s p) 124)
      (λ u.
      cases (eqb (byte s (p + 1)) 123)
      (λ v. rw (t, u, v) stops)
      (λ v. rw (t, u, v) (goes (member_tail (one_test s p 124 u (omega arith)) v))))
      (λ u.
      cases (eqb (byte s p) 125)
      (λ v. rw (t, u, v) (close_holds (Passed p ws Member) p ws (member_end (one_test s p 125 v (omega arith)))))
      (λ v. rw (t, u, v) stops)))
  pass-holds Tail p ws =
      cases (eqb (byte s p) 125) (λ t. rw t (goes (tail_end (one_test s p 125 t (omega arith))))) (λ t. rw t stops)
  pass-holds (Argument zero) p ws =
      cases (eqb (byte s p) 44)
      (λ t. rw t stops)
      (λ t. cases (eqb (byte s p) 41) (λ u. rw (t, u) (goes (argument_end (one_test s p 41 u (omega arith))))) (λ u. rw (t, u) stops))
  pass-holds (Argument (suc left)) p ws =
      let z : suc left - 1 ≡ left = omega arith in
      let y : eqb (suc left) 0 ≡ false = ne_eqb (suc left) 0 (λ z. omega arith) in
      cases (eqb (byte s p) 44)
      (λ t. rw (t, y, z) (goes (argument_more (one_test s p 44 t (omega arith)))))
      (λ t. cases (eqb (byte s p) 41) (λ u. rw (t, u, y) stops) (λ u. rw (t, u) stops))

  -- ---- the whole

  pub data Termed (depth p : ℕ) (ws : List ℕ) (q : ℕ) (vs : List ℕ) : Type 0 where
    termed : (t : Term) → Span p (text t) q → vs ≡ ws ++ words b t → Formed arities n t → depth + nesting t ≤ b.nesting → Termed depth p ws q vs

  -- a list from its item at p on, up to its closing bracket
  pub data Listed (depth p : ℕ) (ws : List ℕ) : Item → ℕ → List ℕ → Type 0 where
    members : (m t : Term) {q : ℕ} {vs : List ℕ} → Span p (text m ++ after_member t) q → vs ≡ ws ++ (words b m ++ words b t) → Formed arities n m → Formed arities n t
        → depth + nesting m ≤ b.nesting → depth + inside t ≤ b.nesting → Listed depth p ws Member q vs
    tail : (t : Term) {q : ℕ} {vs : List ℕ} → Span p (text t ++ (125 ∷ [])) q → vs ≡ ws ++ words b t → Formed arities n t → depth + nesting t ≤ b.nesting → Listed depth p ws Tail q vs
    further : (t : Term) (ts : Terms) {left q : ℕ} {vs : List ℕ} → count ts ≡ left → Span p (text t ++ after_argument ts) q → vs ≡ ws ++ (words b t ++ words* b ts)
        → Formed arities n t → Formed* arities n ts → depth + nesting t ≤ b.nesting → depth + deepest ts ≤ b.nesting → Listed depth p ws (Argument left) q vs

  abbrev TermHolds : ℕ → Type 0
  TermHolds fuel = (depth p : ℕ) (ws : List ℕ) → depth ≤ b.nesting → Holds (Termed depth p ws) (term b s n arities fuel depth p ws)

  abbrev ListHolds : ℕ → Type 0
  ListHolds fuel = (depth : ℕ) (i : Item) (p : ℕ) (ws : List ℕ) → depth ≤ b.nesting → Holds (Listed depth p ws i) (list b s n arities fuel depth i p ws)

  -- the text of a set, and of a functor with arguments, from its first bracket on
  set-whole : (depth p q : ℕ) (ws : List ℕ) → Span p (123 ∷ []) q → (r : ℕ) (vs : List ℕ) → Listed (depth + 1) q (ws ++ (MEMBER ∷ [])) Member r vs → Termed depth p ws r vs
  unfolding text words nesting
  set-whole depth p q ws e r vs (members m t f w fm ft dm dt) =
      termed (with m t) (join s (123 ∷ []) (text m ++ after_member t) p q r e f) (w ∙ append_assoc ws (MEMBER ∷ []) (words b m ++ words b t)) (formed_with fm ft) (omega arith)

  functor_whole : (depth p q k left : ℕ) (ws : List ℕ) → Span p (functor_name k ++ (40 ∷ [])) q → k < length arities → suc left ≡ get_or arities k 0
      → (r : ℕ) (vs : List ℕ) → Listed (depth + 1) q (ws ++ ((b.first_functor + k) ∷ [])) (Argument left) r vs → Termed depth p ws r vs
  unfolding text words nesting count
  functor_whole depth p q k left ws e h c r vs (further t ts l f w ft fts dt dts) =
      termed (functor k (more t ts))
      (join s (functor_name k ++ (40 ∷ [])) (text t ++ after_argument ts) p q r e f ∙ ap (λ (l : List ℕ). l ++ drop r s) (append_assoc (functor_name k) (40 ∷ []) (text t ++ after_argument ts)))
      (w ∙ append_assoc ws ((b.first_functor + k) ∷ []) (words b t ++ words* b ts)) (formed_functor h (ap suc l ∙ c) (formed_more ft fts)) (omega arith)

  start-whole : (fuel depth p : ℕ) (ws : List ℕ) → depth ≤ b.nesting → ListHolds fuel → (q : ℕ) (c : Coming) → Starts depth p ws q c
      → Holds (Termed depth p ws) (follow (λ i q vs. list b s n arities fuel (depth + 1) i q vs) q c)
  unfolding follow
  start-whole fuel depth p ws h L q c (whole t e F d) = goes (termed t e refl F (omega arith))
  start-whole fuel depth p ws h L q c (opens_set e d) = holds-map (L (depth + 1) Member q (ws ++ (MEMBER ∷ [])) (omega arith)) (set-whole depth p q ws e)
  start-whole fuel depth p ws h L q c (opens_arguments k left e l a d) =
      holds-map (L (depth + 1) (Argument left) q (ws ++ ((b.first_functor + k) ∷ [])) (omega arith)) (functor_whole depth p q k left ws e l a)

  -- the tail is no set, so that its text stands after a bar
  tail_text : (t : Term) (p q : ℕ) → Span p (text t ++ (125 ∷ [])) q → eqb (byte s p) 123 ≡ false → after_member t ≡ 124 ∷ (text t ++ (125 ∷ []))
  unfolding text after_member
  tail_text (unknown i) p q e h = refl
  tail_text empty p q e h = absurd (eqb-false (byte s p) 123 h (first_byte s p 123 (125 ∷ 125 ∷ drop q s) e))
  tail_text (with m t) p q e h = absurd (eqb-false (byte s p) 123 h (first_byte s p 123 (((text m ++ after_member t) ++ (125 ∷ [])) ++ drop q s) e))
  tail_text (functor k ts) p q e h = ap (λ (l : List ℕ). 124 ∷ l) (sym (append_assoc (functor_name k) (arguments ts) (125 ∷ [])))

  inside_nesting : (t : Term) → inside t ≤ nesting t
  unfolding nesting
  inside_nesting (unknown i) = omega arith
  inside_nesting empty = omega arith
  inside_nesting (with m t) = omega arith
  inside_nesting (functor k ts) = omega arith

  -- the item t ended at q, and c followed it
  module _ (fuel depth p q : ℕ) (ws us : List ℕ) (h : depth ≤ b.nesting) (L : ListHolds fuel) (t : Term) (e : Span p (text t) q) (w : us ≡ ws ++ words b t)
      (F : Formed arities n t) (d : depth + nesting t ≤ b.nesting) where
    spaced : (vs rest : List ℕ) → vs ≡ us ++ rest → vs ≡ ws ++ (words b t ++ rest)
    spaced vs rest x = x ∙ ap (λ (l : List ℕ). l ++ rest) w ∙ append_assoc ws (words b t) rest

    more-members : (r : ℕ) → Span q (44 ∷ []) r → (o : ℕ) (vs : List ℕ) → Listed depth r (us ++ (MEMBER ∷ [])) Member o vs → Listed depth p ws Member o vs
    unfolding after_member words nesting
    more-members r f o vs (members m u g x fm fu dm du) =
        members t (with m u) (join s (text t) (44 ∷ (text m ++ after_member u)) p q o e (join s (44 ∷ []) (text m ++ after_member u) q r o f g))
        (spaced vs (MEMBER ∷ (words b m ++ words b u)) (x ∙ append_assoc us (MEMBER ∷ []) (words b m ++ words b u))) F (formed_with fm fu) d (omega arith)

    a_tail : (r : ℕ) → Span q (124 ∷ []) r → eqb (byte s r) 123 ≡ false → (o : ℕ) (vs : List ℕ) → Listed depth r us Tail o vs → Listed depth p ws Member o vs
    a_tail r f c o vs (tail u g x fu du) =
        let y : Span p (text t ++ after_member u) o =
        rw (tail_text u r o g c) (join s (text t) (124 ∷ (text u ++ (125 ∷ []))) p q o e (join s (124 ∷ []) (text u ++ (125 ∷ [])) q r o f g)) in
        members t u y (spaced vs (words b u) x) F fu d (omega (arith, inside_nesting u))

    more-arguments : (left r : ℕ) → Span q (44 ∷ []) r → (o : ℕ) (vs : List ℕ) → Listed depth r us (Argument left) o vs → Listed depth p ws (Argument (suc left)) o vs
    unfolding after_argument words nesting count
    more-arguments left r f o vs (further u us' l g x fu fus du dus) =
        further t (more u us') (ap suc l) (join s (text t) (44 ∷ (text u ++ after_argument us')) p q o e (join s (44 ∷ []) (text u ++ after_argument us') q r o f g))
        (spaced vs (words b u ++ words* b us') x) F (formed_more fu fus) d (omega arith)

    passed_whole : (i : Item) (r : ℕ) (c : Coming) → Passed q us i r c → Holds (Listed depth p ws i) (follow (λ j o vs. list b s n arities fuel depth j o vs) r c)
    unfolding follow text after_member after_argument words nesting count
    passed_whole i r c (member_more f) = holds-map (L depth Member r (us ++ (MEMBER ∷ [])) h) (more-members r f)
    passed_whole i r c (member_tail f k) = holds-map (L depth Tail r us h) (a_tail r f k)
    passed_whole i r c (member_end f) =
        goes (members t empty (join s (text t) (125 ∷ []) p q r e f) (spaced (us ++ (EMPTY ∷ [])) (EMPTY ∷ []) refl) F formed_empty d (omega arith))
    passed_whole i r c (tail_end f) = goes (tail t (join s (text t) (125 ∷ []) p q r e f) w F d)
    passed_whole i r c (argument_more {left} f) = holds-map (L depth (Argument left) r us h) (more-arguments left r f)
    passed_whole i r c (argument_end f) =
        goes (further t none refl (join s (text t) (41 ∷ []) p q r e f) (spaced us [] (sym (append-nil us))) F formed_none d (omega arith))

  item_whole : (fuel depth p : ℕ) (ws : List ℕ) (i : Item) → depth ≤ b.nesting → ListHolds fuel → (q : ℕ) (us : List ℕ) → Termed depth p ws q us
      → Holds (Listed depth p ws i) (and_then (after b s i q us) (follow (λ j o vs. list b s n arities fuel depth j o vs)))
  item_whole fuel depth p ws i h L q us (termed t e w F d) = holds_then _ (pass-holds i q us) (passed_whole fuel depth p q ws us h L t e w F d i)

  both_hold : (fuel : ℕ) → TermHolds fuel × ListHolds fuel
  unfolding term list
  both_hold zero = (λ depth p ws h. stops, λ depth i p ws h. stops)
  both_hold (suc fuel) =
      let I = both_hold fuel in (
        λ depth p ws h.
            rw (term_step b s n arities fuel depth p ws) (holds_then _ (begin_holds depth p ws) (start-whole fuel depth p ws h I.1)),
        λ depth i p ws h.
            rw (list_step b s n arities fuel depth i p ws) (holds_then _ (I.0 depth p ws h) (item_whole fuel depth p ws i h I.1)),
      )

  pub term_holds : (fuel depth p : ℕ) (ws : List ℕ) → depth ≤ b.nesting → Holds (Termed depth p ws) (term b s n arities fuel depth p ws)
  term_holds fuel = (both_hold fuel).0
