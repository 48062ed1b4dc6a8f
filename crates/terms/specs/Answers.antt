-- A binding: an unknown's number and its value. The words of an answer, SPECIFICATION 3.4: an answer is its number of bindings, then for each the
-- unknown's number and its value.
use Rattle.std.specs.Prelude.{ℕ, ◌≡◌, refl, List, [], ◌∷◌, ◌++◌, length}
use Rattle.std.proofs.Common.{ap, sym, ◌∙◌, append_assoc}
use Rattle.terms.specs.Bounds.{Bounds}
use Rattle.terms.specs.Term.{Term, words}

pub record Binding : Type 0 where
  pub name : ℕ
  pub value : Term

unfoldable pub binding_words : Bounds → List Binding → List ℕ
binding_words b [] = []
binding_words b (n ∷ ns) = n.name ∷ (words b n.value ++ binding_words b ns)

unfoldable pub answer_words : Bounds → List Binding → List ℕ
answer_words b ns = length ns ∷ binding_words b ns

-- the words of answers one after the other, as the lent buffer holds them
unfoldable pub listed : List (List ℕ) → List ℕ
listed [] = []
listed (l ∷ ls) = l ++ listed ls

pub listed_append : (xs ys : List (List ℕ)) → listed (xs ++ ys) ≡ listed xs ++ listed ys
unfolding listed
listed_append [] ys = refl
listed_append (x ∷ xs) ys = ap (λ l. x ++ l) (listed_append xs ys) ∙ sym (append_assoc x (listed xs) (listed ys))
