-- No reading has more words than a question may have.
use Prim.Native.Nat.{ℕ, zero, suc, ◌+◌, ◌≤◌}
use Rattle.std.proofs.Common.{arith, ltb-true, length-append}
use Rattle.std.specs.Prelude.{◌≡◌, refl, true, List, [], ◌∷◌, ◌++◌, eqb, ltb, length, get_or}
use Rattle.terms.specs.Bounds.{Bounds}
use Rattle.terms.specs.Lists.{cases}
use Rattle.numerals.specs.TextReading.{Reading, read, refused}
use Rattle.numerals.specs.Bytes.{byte}
use Rattle.numerals.specs.Numbers.{number}
use Rattle.items.specs.Items.{Coming, due, done, begins, symbol, name, due_member, due_tail, close_empty, an_unknown, arguments, a_functor, a_set, beginning, after, after_tail, after_member, after_argument}
use Rattle.term_reader.specs.Terms.{follow, term, list, term_step, list_step}
use Rattle.items.specs.declared.item.Item.{Item}
use Rattle.items.specs.declared.item.Item.TheVariants.{Member, Tail, Argument}
use Rattle.roundtrip.specs.Spans.{Holds, goes, stops, holds_then}

anything : {A : Type 0} (X : Reading A) → Holds (λ q a. Unit {0}) X
anything (read q a) = goes tt
anything (refused r) = stops

module _ (b : Bounds) (s : List ℕ) (n : ℕ) (arities : List ℕ) where
  abbrev Few : ℕ → Coming → Type 0
  Few q (due i ws) = length ws ≤ b.symbols
  Few q (done ws) = length ws ≤ b.symbols

  one_more : (ws : List ℕ) (w : ℕ) → ltb (length ws) b.symbols ≡ true → length (ws ++ (w ∷ [])) ≤ b.symbols
  one_more ws w t = omega (arith, length-append ws (w ∷ []), ltb-true (length ws) b.symbols t)

  -- a name was read only where a symbol may stand
  name_few : (declared p : ℕ) (ws : List ℕ) → Holds (λ q i. ltb (length ws) b.symbols ≡ true) (name b s declared p (length ws))
  unfolding name symbol
  name_few declared p ws =
      cases (ltb (length ws) b.symbols)
      (λ t. rw t (holds_then _ (anything (number s (p + 1))) (λ q i x. cases (ltb i declared) (λ u. rw u (goes refl)) (λ u. rw u stops))))
      (λ t. rw t stops)

  close_few : (p : ℕ) (ws : List ℕ) → Holds Few (close_empty b p ws)
  unfolding close_empty symbol
  close_few p ws = cases (ltb (length ws) b.symbols) (λ t. rw t (goes (one_more ws 0 t))) (λ t. rw t stops)

  member_few : (p : ℕ) (ws : List ℕ) → Holds Few (due_member b s p ws)
  unfolding due_member symbol
  member_few p ws =
      cases (begins (byte s p))
      (λ e. cases (ltb (length ws) b.symbols) (λ t. rw (e, t) (goes (one_more ws 1 t))) (λ t. rw (e, t) stops))
      (λ e. rw e stops)

  arguments_few : (depth a p : ℕ) (ws : List ℕ) → length ws ≤ b.symbols → Holds Few (arguments b s depth a p ws)
  unfolding arguments
  arguments_few depth a p ws h =
      cases (eqb (byte s p) 40)
      (λ t.
      cases (eqb a 0)
      (λ z. rw (t, z) stops)
      (λ z. cases (ltb depth b.nesting) (λ d. rw (t, z, d) (goes h)) (λ d. rw (t, z, d) stops)))
      (λ t. cases (eqb a 0) (λ z. rw (t, z) (goes h)) (λ z. rw (t, z) stops))

  beginning_few : (depth p : ℕ) (ws : List ℕ) → Holds Few (beginning b s n arities depth p ws)
  unfolding beginning an_unknown a_functor a_set
  beginning_few depth p ws =
      cases (eqb (byte s p) 120)
      (λ x. rw x (holds_then _ (name_few n p ws) (λ q i t. goes (one_more ws (b.first_unknown + i) t))))
      (λ x.
      cases (eqb (byte s p) 102)
      (λ f.
      rw (x, f) (holds_then _ (name_few (length arities) p ws)
      (λ q k t. arguments_few depth (get_or arities k 0) q (ws ++ ((b.first_functor + k) ∷ [])) (one_more ws (b.first_functor + k) t))))
      (λ f.
      cases (eqb (byte s p) 123)
      (λ o.
      cases (eqb (byte s (p + 1)) 125)
      (λ c. rw (x, f, o, c) (close_few (p + 1) ws))
      (λ c. cases (ltb depth b.nesting) (λ d. rw (x, f, o, c, d) (member_few (p + 1) ws)) (λ d. rw (x, f, o, c, d) stops)))
      (λ o. rw (x, f, o) stops)))

  after_few : (i : Item) (p : ℕ) (ws : List ℕ) → length ws ≤ b.symbols → Holds Few (after b s i p ws)
  unfolding after after_member after_tail after_argument due_tail
  after_few Member p ws h =
      cases (eqb (byte s p) 44)
      (λ t. rw t (member_few (p + 1) ws))
      (λ t.
      cases (eqb (byte s p) 124)
      (λ u. cases (eqb (byte s (p + 1)) 123) (λ v. rw (t, u, v) stops) (λ v. rw (t, u, v) (goes h)))
      (λ u. cases (eqb (byte s p) 125) (λ v. rw (t, u, v) (close_few p ws)) (λ v. rw (t, u, v) stops)))
  after_few Tail p ws h = cases (eqb (byte s p) 125) (λ t. rw t (goes h)) (λ t. rw t stops)
  after_few (Argument left) p ws h =
      cases (eqb (byte s p) 44)
      (λ t. cases (eqb left 0) (λ z. rw (t, z) stops) (λ z. rw (t, z) (goes h)))
      (λ t.
      cases (eqb (byte s p) 41)
      (λ u. cases (eqb left 0) (λ z. rw (t, u, z) (goes h)) (λ z. rw (t, u, z) stops))
      (λ u. rw (t, u) stops))

  abbrev Small : ℕ → List ℕ → Type 0
  Small q ws = length ws ≤ b.symbols

  follow_few : (fuel depth : ℕ) → ((i : Item) (p : ℕ) (ws : List ℕ) → Holds Small (list b s n arities fuel depth i p ws)) → (q : ℕ) (c : Coming) → Few q c
      → Holds Small (follow (λ i q vs. list b s n arities fuel depth i q vs) q c)
  unfolding follow
  follow_few fuel depth L q (due i ws) h = L i q ws
  follow_few fuel depth L q (done ws) h = goes h

  both_few : (fuel : ℕ) → ((depth p : ℕ) (ws : List ℕ) → Holds Small (term b s n arities fuel depth p ws))
      × ((depth : ℕ) (i : Item) (p : ℕ) (ws : List ℕ) → Holds Small (list b s n arities fuel depth i p ws))
  unfolding term list
  both_few zero = (λ depth p ws. stops, λ depth i p ws. stops)
  both_few (suc fuel) =
      let I = both_few fuel in (
        λ depth p ws. rw (term_step b s n arities fuel depth p ws) (holds_then _ (beginning_few depth p ws) (follow_few fuel (depth + 1) (I.1 (depth + 1)))),
        λ depth i p ws.
            rw (list_step b s n arities fuel depth i p ws)
            (holds_then _ (I.0 depth p ws) (λ q vs h. holds_then _ (after_few i q vs h) (follow_few fuel depth (I.1 depth)))),
      )

  pub term_few : (fuel depth p : ℕ) (ws : List ℕ) → Holds (λ q vs. length vs ≤ b.symbols) (term b s n arities fuel depth p ws)
  term_few fuel = (both_few fuel).0
