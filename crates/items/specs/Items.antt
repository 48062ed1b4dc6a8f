-- How a term begins, and what follows an item of a list, in the order of refusals of SPECIFICATION 4.4.
-- A member adding counts at its member's first byte, an empty set at its closing bracket.
use Rattle.std.specs.Prelude.{ℕ, ◌+◌, ◌-◌, Bool, ◌||◌, List, [], ◌∷◌, ◌++◌, eqb, ltb, length, get_or, Result, Ok, Err}
use Rattle.terms.specs.Bounds.{Bounds, EMPTY, MEMBER}
use Rattle.terms.specs.declared.refusal.Cause.TheVariants.{Byte, Limit, Undeclared, Arguments, Nesting}
use Rattle.terms.specs.declared.refusal.Refusal.{Refusal}
use Rattle.text.specs.Text.{choose}
use Rattle.numerals.specs.TextReading.{Reading, read, refused, fault, and_then}
use Rattle.numerals.specs.Bytes.{byte, arguments_close, arguments_open, bar, comma, functor_letter, set_closes, set_opens, unknown_letter}
use Rattle.numerals.specs.Numbers.{number}
use Rattle.items.specs.declared.item.Item.{Item}
use Rattle.items.specs.declared.item.Item.TheVariants.{Member, Tail, Argument}
use Rattle.items.specs.declared.item.Next.{Next}
use Rattle.items.specs.declared.item.Next.TheVariants.{Due, Done}

-- what comes next, with the words so far: an item, which is a term again; or nothing, as the term has ended
pub data Coming : Type 0 where
  due : Item → List ℕ → Coming
  done : List ℕ → Coming

-- a byte that begins a term: x, f or an opening bracket
unfoldable pub begins : ℕ → Bool
begins b = eqb b unknown_letter || (eqb b functor_letter || eqb b set_opens)

module _ (b : Bounds) where
  -- a further symbol at p after n words, if there may be one
  unfoldable pub symbol : {A : Type 0} → ℕ → ℕ → (Unit {0} → Reading A) → Reading A
  symbol p n k = choose (ltb n b.symbols) k (λ _. fault Limit p)

  -- the closing bracket at p ends the empty set
  unfoldable pub close_empty : ℕ → List ℕ → Reading Coming
  close_empty p ws = symbol p (length ws) (λ _. read (p + 1) (done (ws ++ (EMPTY ∷ []))))

module _ (s : List ℕ) where
  -- the tail is due at p: no set
  unfoldable pub due_tail : ℕ → List ℕ → Reading Coming
  due_tail p ws = choose (eqb (byte s p) set_opens) (λ _. fault Byte p) (λ _. read p (due Tail ws))

  -- a tail has ended at p
  unfoldable pub after_tail : ℕ → List ℕ → Reading Coming
  after_tail p ws = choose (eqb (byte s p) set_closes) (λ _. read (p + 1) (done ws)) (λ _. fault Byte p)

  -- an argument has ended at p, and so many are due after it
  unfoldable pub after_argument : ℕ → ℕ → List ℕ → Reading Coming
  after_argument left p ws =
      choose (eqb (byte s p) comma)
      (λ _. choose (eqb left 0) (λ _. fault Arguments p) (λ _. read (p + 1) (due (Argument (left - 1)) ws)))
      (λ _.
      choose (eqb (byte s p) arguments_close)
      (λ _. choose (eqb left 0) (λ _. read (p + 1) (done ws)) (λ _. fault Arguments p))
      (λ _. fault Byte p))

module _ (b : Bounds) (s : List ℕ) where
  -- the number of the name whose letter stands at p; so many are declared
  unfoldable pub name : ℕ → ℕ → ℕ → Reading ℕ
  name declared p n =
      symbol b p n (λ _.
      and_then (number s (p + 1)) (λ q i. choose (ltb i declared) (λ _. read q i) (λ _. fault Undeclared p)))

  -- a member is due at p
  unfoldable pub due_member : ℕ → List ℕ → Reading Coming
  due_member p ws =
      choose (begins (byte s p))
      (λ _. symbol b p (length ws) (λ _. read p (due Member (ws ++ (MEMBER ∷ [])))))
      (λ _. fault Byte p)

  unfoldable pub an_unknown : ℕ → ℕ → List ℕ → Reading Coming
  an_unknown unknowns p ws =
      and_then (name unknowns p (length ws)) (λ q i. read q (done (ws ++ ((b.first_unknown + i) ∷ []))))

  -- what follows at p the name of a functor of arity a: its bracket, exactly if it has arguments
  unfoldable pub arguments : ℕ → ℕ → ℕ → List ℕ → Reading Coming
  arguments depth a p ws =
      choose (eqb (byte s p) arguments_open)
      (λ _.
      choose (eqb a 0)
      (λ _. fault Arguments p)
      (λ _. choose (ltb depth b.nesting) (λ _. read (p + 1) (due (Argument (a - 1)) ws)) (λ _. fault Nesting p)))
      (λ _. choose (eqb a 0) (λ _. read p (done ws)) (λ _. fault Arguments p))

  unfoldable pub a_functor : List ℕ → ℕ → ℕ → List ℕ → Reading Coming
  a_functor arities depth p ws =
      and_then (name (length arities) p (length ws))
      (λ q k. arguments depth (get_or arities k 0) q (ws ++ ((b.first_functor + k) ∷ [])))

  -- a set's opening bracket stands at p
  unfoldable pub a_set : ℕ → ℕ → List ℕ → Reading Coming
  a_set depth p ws =
      choose (eqb (byte s (p + 1)) set_closes)
      (λ _. close_empty b (p + 1) ws)
      (λ _. choose (ltb depth b.nesting) (λ _. due_member (p + 1) ws) (λ _. fault Nesting p))

  -- a term is due at p, with so many brackets open
  unfoldable pub beginning : ℕ → List ℕ → ℕ → ℕ → List ℕ → Reading Coming
  beginning unknowns arities depth p ws =
      choose (eqb (byte s p) unknown_letter) (λ _. an_unknown unknowns p ws) (λ _.
      choose (eqb (byte s p) functor_letter) (λ _. a_functor arities depth p ws) (λ _.
      choose (eqb (byte s p) set_opens) (λ _. a_set depth p ws) (λ _. fault Byte p)))

  -- a member has ended at p
  unfoldable pub after_member : ℕ → List ℕ → Reading Coming
  after_member p ws =
      choose (eqb (byte s p) comma) (λ _. due_member (p + 1) ws) (λ _.
      choose (eqb (byte s p) bar) (λ _. due_tail s (p + 1) ws) (λ _.
      choose (eqb (byte s p) set_closes) (λ _. close_empty b p ws) (λ _. fault Byte p)))

  -- an item has ended at p
  unfoldable pub after : Item → ℕ → List ℕ → Reading Coming
  after Member p ws = after_member p ws
  after Tail p ws = after_tail s p ws
  after (Argument left) p ws = after_argument s left p ws

-- the same, of the code's answer and the words then
abbrev pub of_next : Result Next Refusal → List ℕ → Reading Coming
of_next (Ok (Due i p)) ws = read p (due i ws)
of_next (Ok (Done p)) ws = read p (done ws)
of_next (Err r) ws = refused r
