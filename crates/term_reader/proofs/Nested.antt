-- Terms in terms: what the two readers owe, by what their callees told. What was read of a term ends further right, so fuel and measure last.
use Prim.Native.Nat.{ℕ, zero, suc, ◌+◌, ◌-◌, ◌*◌, ◌≤◌, ◌<◌}
use native.Mathlib.Omega.{arith}
use mathlib.Core.Path.{◌≡◌, sym, ◌∙◌}
use mathlib.Core.List.{List}
use lib.ListN.{length}
use Rattle.terms.specs.Bounds.{edition_one, NESTING}
use Rattle.terms.specs.declared.refusal.Refusal.{Refusal}
use Rattle.numerals.specs.TextReading.{Reading, read, refused, and_then, then-read, then-refused}
use Rattle.items.specs.Items.{Coming, due, done, beginning, after}
use Rattle.term_reader.specs.Terms.{follow, term, list, term_step, list_step}
use Rattle.term_reader.specs.ReadingPlaces.{where_on, beginning_placed, after_placed, term_placed}
use Rattle.items.specs.declared.item.Item.{Item}
use Rattle.numerals.specs.Bytes.{of_met}
use Rattle.std.proofs.Common.{Result, Ok, Err}
use Rattle.term_reader.specs.ReadingAnswers.{TermRead, TermIs}

-- fuel that is above something is a successor
fueled : (P : ℕ → Type 0) {m : ℕ} → ((fuel : ℕ) → m < suc fuel → P (suc fuel)) → (fuel : ℕ) → m < fuel → P fuel
fueled P f zero h = absurd (omega arith)
fueled P f (suc fuel) h = f fuel h

module _ (s : List ℕ) (unknowns : ℕ) (arities : List ℕ) (depth : ℕ) where
  -- the answer g, with the words l, is that of the list at p after the words ws
  abbrev pub ListRead : Item → ℕ → List ℕ → Result ℕ Refusal → List ℕ → Type 0
  ListRead i p ws g l = (fuel : ℕ) → 2 * (length s - p) + 1 < fuel → of_met l g ≡ list edition_one s unknowns arities fuel depth i p ws

  module _ (p : ℕ) (ws : List ℕ) where
    abbrev Begins : Reading Coming → Type 0
    Begins X = beginning edition_one s unknowns arities depth p ws ≡ X

    abbrev IsTerm : Result ℕ Refusal → List ℕ → ℕ → Type 0
    IsTerm g l fuel = of_met l g ≡ term edition_one s unknowns arities fuel depth p ws

    pub begun_due : (i : Item) (q : ℕ) (vs : List ℕ) → p ≤ length s → Begins (read q (due i vs)) → (p < q) × (q ≤ length s) × (depth < NESTING)
    unfolding edition_one
    begun_due i q vs h B =
        let w = where_on (rw B at (beginning_placed edition_one s unknowns arities depth p ws h)) in
        (omega (arith, w.0), w.1, w.2)

    pub term_done : (q : ℕ) (l : List ℕ) → Begins (read q (done l)) → TermRead s unknowns arities depth p ws (Ok q) l
    unfolding follow
    term_done q l B =
        fueled (IsTerm (Ok q) l) (λ fuel e. sym (term_step edition_one s unknowns arities fuel depth p ws ∙ then-read _ B))

    pub term_refused : (f : Refusal) (l : List ℕ) → Begins (refused f) → TermRead s unknowns arities depth p ws (Err f) l
    term_refused f l B =
        fueled (IsTerm (Err f) l) (λ fuel e. sym (term_step edition_one s unknowns arities fuel depth p ws ∙ then-refused _ B))

  module _ (i : Item) (p : ℕ) (ws : List ℕ) where
    abbrev IsList : Result ℕ Refusal → List ℕ → ℕ → Type 0
    IsList g l fuel = of_met l g ≡ list edition_one s unknowns arities fuel depth i p ws

    pub list-stopped : (f : Refusal) (l : List ℕ) → TermIs s unknowns arities depth p ws (refused f) → ListRead i p ws (Err f) l
    list-stopped f l T =
        fueled (IsList (Err f) l)
        (λ fuel e. sym (list_step edition_one s unknowns arities fuel depth i p ws ∙ then-refused _ (T fuel (omega arith))))

    -- the item ended at q, and X follows
    module _ (q : ℕ) (vs : List ℕ) (T : TermIs s unknowns arities depth p ws (read q vs)) where
      abbrev Follows : Reading Coming → Type 0
      Follows X = after edition_one s i q vs ≡ X

      pub item_ahead : p ≤ length s → (p < q) × (q ≤ length s)
      item_ahead h =
          let w = where_on (rw (T (suc (2 * (length s - p))) (omega arith)) at (term_placed edition_one s unknowns arities (suc (2 * (length s - p))) depth p ws h)) in
          (omega (arith, w.0), w.1)

      pub next-ahead : (r : ℕ) (c : Coming) → p ≤ length s → Follows (read r c) → (p < r) × (r ≤ length s)
      next-ahead r c h F =
          let u = item_ahead h in
          let w = where_on (rw F at (after_placed edition_one s i q vs u.1)) in
          (omega (arith, w.0), w.1)

      list_is : (fuel : ℕ) → 2 * (length s - p) < fuel
          → list edition_one s unknowns arities (suc fuel) depth i p ws ≡ and_then (after edition_one s i q vs) (follow (λ j r us. list edition_one s unknowns arities fuel depth j r us))
      list_is fuel e = list_step edition_one s unknowns arities fuel depth i p ws ∙ then-read _ (T fuel e)

      pub list-more : (j : Item) (r : ℕ) (us : List ℕ) (g : Result ℕ Refusal) (l : List ℕ) → p ≤ length s → Follows (read r (due j us)) → ListRead j r us g l → ListRead i p ws g l
      unfolding follow
      list-more j r us g l h F L =
          let w = next-ahead r (due j us) h F in
          fueled (IsList g l) (λ fuel e. L fuel (omega arith) ∙ sym (list_is fuel (omega arith) ∙ then-read _ F))

      pub list_done : (r : ℕ) (l : List ℕ) → Follows (read r (done l)) → ListRead i p ws (Ok r) l
      unfolding follow
      list_done r l F =
          fueled (IsList (Ok r) l) (λ fuel e. sym (list_is fuel (omega arith) ∙ then-read _ F))

      pub list-refused : (f : Refusal) (l : List ℕ) → Follows (refused f) → ListRead i p ws (Err f) l
      list-refused f l F =
          fueled (IsList (Err f) l) (λ fuel e. sym (list_is fuel (omega arith) ∙ then-refused _ F))

-- a term's list is one bracket deeper
pub term_list : (s : List ℕ) (unknowns : ℕ) (arities : List ℕ) (depth p : ℕ) (ws : List ℕ) (i : Item) (q : ℕ) (vs : List ℕ) (g : Result ℕ Refusal) (l : List ℕ)
    → p ≤ length s → beginning edition_one s unknowns arities depth p ws ≡ read q (due i vs)
    → ListRead s unknowns arities (depth + 1) i q vs g l → TermRead s unknowns arities depth p ws g l
unfolding follow
term_list s unknowns arities depth p ws i q vs g l h B L =
    let w = begun_due s unknowns arities depth p ws i q vs h B in
    fueled (IsTerm s unknowns arities depth p ws g l)
    (λ fuel e. L fuel (omega arith) ∙ sym (term_step edition_one s unknowns arities fuel depth p ws ∙ then-read _ B))
