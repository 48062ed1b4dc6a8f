-- Words read back by what is due, as the check walks them: terms, then the bindings of the answer at hand, then answers. The reading of a list of
-- answers; of terms alone it is `Reading`'s. When bindings and lists are formed, and that bindings are determined by their words.
use Rattle.std.specs.Prelude.{ℕ, zero, suc, ◌+◌, ◌<◌, ◌≡◌, refl, length, drop}
use Rattle.std.proofs.Common.{sym, ◌∙◌, arith}
use mathlib.Core.List.{List, [], ◌∷◌, ◌++◌, map, append_assoc, head-eq_of_cons-eq, tail-eq_of_cons-eq}
use Rattle.terms.specs.Answers.{Binding, binding_words, answer_words, listed}
use Rattle.terms.specs.Bounds.{Bounds}
use Rattle.terms.specs.Kind.{kind, takes, Worded}
use Rattle.terms.specs.Term.{Term, words}
use Rattle.terms.specs.Lists.{All, none, both}
use Rattle.terms.specs.Formed.{Formed}
use Rattle.terms.specs.Reading.{top, push, words_determine}

-- a binding is formed: its unknown is one of the first n, and its value is formed
pub record Bound (arities : List ℕ) (n : ℕ) (x : Binding) : Type 0 where
  pub name : x.name < n
  pub value : Formed arities n x.value

-- the words of a list of answers
unfoldable pub list_words : Bounds → List (List Binding) → List ℕ
list_words b l = listed (map (answer_words b) l)

pub record Parts : Type 0 where
  pub terms : List Term
  pub bindings : List Binding
  pub answers : List (List Binding)

unfoldable pub nothing : Parts
nothing = record { terms = []; bindings = []; answers = [] }

-- the parts with one word in front: a word of a term, a binding's unknown, or an answer's number of bindings
unfoldable pub term_word : Bounds → List ℕ → ℕ → Parts → Parts
term_word b arities w r = record { terms = push arities (kind b w) r.terms; bindings = r.bindings; answers = r.answers }

unfoldable pub name_word : ℕ → Parts → Parts
name_word w r = record { terms = drop 1 r.terms; bindings = record { name = w; value = top r.terms } ∷ r.bindings; answers = r.answers }

unfoldable pub count_word : Parts → Parts
count_word r = record { terms = r.terms; bindings = []; answers = r.bindings ∷ r.answers }

unfoldable pub parts : Bounds → List ℕ → List ℕ → (answers bindings terms : ℕ) → Parts
parts b arities [] answers bindings terms = nothing
parts b arities (w ∷ ws) answers bindings (suc terms) = term_word b arities w (parts b arities ws answers bindings (terms + takes b arities w))
parts b arities (w ∷ ws) answers (suc bindings) zero = name_word w (parts b arities ws answers bindings 1)
parts b arities (w ∷ ws) (suc answers) zero zero = count_word (parts b arities ws answers w 0)
parts b arities (w ∷ ws) zero zero zero = nothing

unfoldable pub answers_of : Bounds → (arities : List ℕ) (answers : ℕ) → List ℕ → List (List Binding)
answers_of b arities answers ws = (parts b arities ws answers 0 0).answers

-- ---- bindings are determined by their words

same_named : {x y : Binding} → x.name ≡ y.name → x.value ≡ y.value → x ≡ y
same_named p q = λ i. record { name = p i; value = q i }

module _ {b : Bounds} {arities : List ℕ} {n : ℕ} (worded : Worded b arities n) where
  pub bindings_determine : {xs ys : List Binding} {vs ws : List ℕ} → All (Bound arities n) xs → All (Bound arities n) ys → length xs ≡ length ys
      → binding_words b xs ++ vs ≡ binding_words b ys ++ ws → (xs ≡ ys) × (vs ≡ ws)
  unfolding binding_words
  bindings_determine none none h e = (refl, e)
  bindings_determine none (both g gs) h e = absurd (omega arith)
  bindings_determine (both f fs) none h e = absurd (omega arith)
  bindings_determine {vs} {ws} (both {x = x} {xs = xs} f fs) (both {x = y} {xs = ys} g gs) h e =
      let d = words_determine worded f.value g.value
      (sym (append_assoc (words b x.value) (binding_words b xs) vs) ∙ tail-eq_of_cons-eq e ∙ append_assoc (words b y.value) (binding_words b ys) ws) in
      let r = bindings_determine fs gs (omega arith) d.1 in
      let s : x ≡ y = same_named (head-eq_of_cons-eq e) d.0 in
      (cc, r.1)
