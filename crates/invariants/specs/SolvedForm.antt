-- Bindings in solved form.
use Rattle.std.specs.Prelude.{◌≡◌, List, [], ◌∷◌, false}
use Rattle.terms.specs.Lists.{All}
use Rattle.terms.specs.Term.{occurs}
use Rattle.terms.specs.Answers.{Binding}

-- each unknown is bound once, and is mentioned neither in its own line nor in a later one
pub data Solved : List Binding → Type 0 where
  nothing_bound : Solved []
  first_bound :
      {n : Binding} {ns : List Binding}
      → occurs n.name n.value ≡ false
      → All (λ m. (m.name ≡ n.name → ⊥) × (occurs n.name m.value ≡ false)) ns
      → Solved ns
      → Solved (n ∷ ns)
