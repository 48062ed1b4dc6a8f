-- A state in words, section by section: its pending equations' sides, left, right, left, right .., then its pile, then its bindings. It has as many
-- words as its size says.
use Rattle.std.specs.Prelude.{ℕ, ◌+◌, ◌≡◌, length}
use Rattle.std.proofs.Math.Path.{refl}
use mathlib.Core.List.{List, [], ◌∷◌, ◌++◌}
use native.Mathlib.Omega.{arith}
use Rattle.std.proofs.Math.ListN.{length-append}
use Rattle.terms.specs.Bounds.{Bounds}
use Rattle.terms.specs.Term.{words}
use Rattle.terms.specs.Formed.{Equation, sides, row}
use Rattle.terms.specs.Answers.{Binding, binding_words}
use Rattle.terms.specs.Laws.Flat.{length_words}
use Rattle.search.specs.State.{State, Entry, size_equations, size_entries, size_bindings, state_size}

unfoldable pub pending_words : Bounds → List Equation → List ℕ
pending_words b es = row b (sides es)

-- an entry X = t of the pile is held as the words of X and of t
unfoldable pub pile_words : Bounds → List Entry → List ℕ
pile_words b [] = []
pile_words b (n ∷ ns) = (b.first_unknown + n.name) ∷ (words b n.term ++ pile_words b ns)

pub data Section : Type 0 where
  Pending : Section
  Pile : Section
  Bindings : Section

-- the sections' words in their order, one after the other
abbrev pub in_order : (Section → List ℕ) → List ℕ
in_order words_of = words_of Pending ++ (words_of Pile ++ words_of Bindings)

abbrev pub section_words : Bounds → State → Section → List ℕ
section_words b st Pending = pending_words b st.pending
section_words b st Pile = pile_words b st.pile
section_words b st Bindings = binding_words b st.bindings

unfoldable pub state_words : Bounds → State → List ℕ
state_words b st = in_order (section_words b st)

-- ---- how long they are

module _ (b : Bounds) where
  pub length_pending : (es : List Equation) → length (pending_words b es) ≡ size_equations es
  unfolding pending_words row sides size_equations
  length_pending [] = refl
  length_pending (e ∷ es) =
      omega (
        arith,
        length-append (words b e.left) (words b e.right ++ row b (sides es)),
        length-append (words b e.right) (row b (sides es)),
        length_words b e.left,
        length_words b e.right,
        length_pending es,
      )

  pub length_pile : (ns : List Entry) → length (pile_words b ns) ≡ size_entries ns
  unfolding pile_words size_entries
  length_pile [] = refl
  length_pile (n ∷ ns) =
      omega (arith, length-append (words b n.term) (pile_words b ns), length_words b n.term, length_pile ns)

  pub length-bindings : (ns : List Binding) → length (binding_words b ns) ≡ size_bindings ns
  unfolding binding_words size_bindings
  length-bindings [] = refl
  length-bindings (n ∷ ns) =
      omega (arith, length-append (words b n.value) (binding_words b ns), length_words b n.value, length-bindings ns)

  pub length_state : (st : State) → length (state_words b st) ≡ state_size st
  unfolding state_words state_size
  length_state st =
      omega (
        arith,
        length-append (pending_words b st.pending) (pile_words b st.pile ++ binding_words b st.bindings),
        length-append (pile_words b st.pile) (binding_words b st.bindings),
        length_pending st.pending,
        length_pile st.pile,
        length-bindings st.bindings,
      )
