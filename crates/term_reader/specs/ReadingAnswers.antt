-- The code's answers, as readings: what is known of a reading once its answer was taken apart.
use Rattle.std.specs.Prelude.{ℕ, ◌-◌, ◌*◌, ◌≤◌, ◌<◌, ◌≡◌, List, length, Result, Ok, Err}
use Rattle.std.proofs.Common.{sym, ap, ◌∙◌}
use Rattle.terms.specs.Bounds.{edition_one}
use Rattle.terms.specs.declared.refusal.Refusal.{Refusal}
use Rattle.numerals.specs.TextReading.{Reading, read, refused}
use Rattle.numerals.specs.Bytes.{met, meets, of_met}
use Rattle.numerals.specs.Numbers.{of_numeral}
use Rattle.items.specs.Items.{Coming, due, done, of_next}
use Rattle.term_reader.specs.Terms.{term}
use Rattle.numerals.specs.declared.number.Numeral.{Numeral}
use Rattle.items.specs.declared.item.Item.{Item}
use Rattle.items.specs.declared.item.Next.{Next}
use Rattle.items.specs.declared.item.Next.TheVariants as next_variants

module _ {A : Type 0} (s key : List ℕ) (p : ℕ) (a : A) {r : Result ℕ Refusal} (e : r ≡ met s key p) where
  pub is_met : (q : ℕ) → r ≡ Ok q → meets s key p a ≡ read q a
  unfolding meets
  is_met q k = rw (← e, k)

  pub is_unmet : (f : Refusal) → r ≡ Err f → meets s key p a ≡ refused f
  unfolding meets
  is_unmet f k = rw (← e, k)

module _ {r : Result Numeral Refusal} {X : Reading ℕ} (e : of_numeral r ≡ X) where
  pub is_value : (v q : ℕ) → r ≡ Ok (record { value = v; end = q }) → X ≡ read q v
  is_value v q k = sym e ∙ ap of_numeral k

  pub is_unfit : (f : Refusal) → r ≡ Err f → X ≡ refused f
  is_unfit f k = sym e ∙ ap of_numeral k

module _ {r : Result Next Refusal} {X : Reading Coming} (ws : List ℕ) (e : of_next r ws ≡ X) where
  pub is_due : (i : Item) (p : ℕ) → r ≡ Ok (next_variants.Due i p) → X ≡ read p (due i ws)
  is_due i p k = sym e ∙ ap (λ (r : Result Next Refusal). of_next r ws) k

  pub is_done : (p : ℕ) → r ≡ Ok (next_variants.Done p) → X ≡ read p (done ws)
  is_done p k = sym e ∙ ap (λ (r : Result Next Refusal). of_next r ws) k

  pub is_refused : (f : Refusal) → r ≡ Err f → X ≡ refused f
  is_refused f k = sym e ∙ ap (λ (r : Result Next Refusal). of_next r ws) k

module _ {g : Result ℕ Refusal} {X : Reading (List ℕ)} (ws : List ℕ) (e : of_met ws g ≡ X) where
  pub is_read : (p : ℕ) → g ≡ Ok p → X ≡ read p ws
  is_read p k = sym e ∙ ap (of_met ws) k

  pub is_stopped : (f : Refusal) → g ≡ Err f → X ≡ refused f
  is_stopped f k = sym e ∙ ap (of_met ws) k

-- ---- as many words as the code holds then

pub due-count : {r : Result Next Refusal} (most : ℕ) (i : Item) (q : ℕ) (ws vs : List ℕ) → r ≡ Ok (next_variants.Due i q) → of_next r ws ≡ read q (due i vs)
    → length ws ≤ most → length vs ≤ most
due-count most i q ws vs k e h =
    let z : ◌≡◌ {A = Reading Coming} (read q (due i ws)) (read q (due i vs)) = rw k at e in
    let x : ws ≡ vs = cc in
    rw x at h

pub done-count : {r : Result Next Refusal} (most q : ℕ) (ws vs : List ℕ) → r ≡ Ok (next_variants.Done q) → of_next r ws ≡ read q (done vs)
    → length ws ≤ most → length vs ≤ most
done-count most q ws vs k e h =
    let z : ◌≡◌ {A = Reading Coming} (read q (done ws)) (read q (done vs)) = rw k at e in
    let x : ws ≡ vs = cc in
    rw x at h

pub read_count : {g : Result ℕ Refusal} (most q : ℕ) (ws vs : List ℕ) → g ≡ Ok q → of_met ws g ≡ read q vs → length ws ≤ most → length vs ≤ most
read_count most q ws vs k e h =
    let z : ◌≡◌ {A = Reading (List ℕ)} (read q ws) (read q vs) = rw k at e in
    let x : ws ≡ vs = cc in
    rw x at h

-- ---- a term, at every fuel that is enough

module _ (s : List ℕ) (unknowns : ℕ) (arities : List ℕ) (depth : ℕ) where
  -- the answer g, with the words l, is that of the term at p after the words ws
  abbrev pub TermRead : ℕ → List ℕ → Result ℕ Refusal → List ℕ → Type 0
  TermRead p ws g l = (fuel : ℕ) → 2 * (length s - p) < fuel → of_met l g ≡ term edition_one s unknowns arities fuel depth p ws

  -- the term at p, after the words ws, was told to be X
  abbrev pub TermIs : ℕ → List ℕ → Reading (List ℕ) → Type 0
  TermIs p ws X = (fuel : ℕ) → 2 * (length s - p) < fuel → term edition_one s unknowns arities fuel depth p ws ≡ X

module _ (s : List ℕ) (unknowns : ℕ) (arities : List ℕ) (depth p : ℕ) (ws : List ℕ) {g : Result ℕ Refusal} (l : List ℕ) (T : TermRead s unknowns arities depth p ws g l) where
  pub term_is_read : (q : ℕ) → g ≡ Ok q → TermIs s unknowns arities depth p ws (read q l)
  term_is_read q k fuel h = is_read l (T fuel h) q k

  pub term_is_refused : (f : Refusal) → g ≡ Err f → TermIs s unknowns arities depth p ws (refused f)
  term_is_refused f k fuel h = is_stopped l (T fuel h) f k
