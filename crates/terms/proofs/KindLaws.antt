-- What follows a functor's word: as many terms as its arity says.
use Rattle.std.specs.Prelude.{ℕ, ◌+◌, ◌-◌, ◌<◌, ◌≡◌, List, get_or}
use Rattle.std.proofs.Common.{◌∙◌}
use native.Mathlib.Omega.{arith}
use Rattle.terms.specs.Bounds.{Bounds, Proper}
use Rattle.terms.specs.Kind.{takes, within_apart, takes_table}

module _ {b : Bounds} (proper : Proper b) where
  module _ (arities : List ℕ) where
    pub takes_functor : (k : ℕ) → k < b.functor_words → takes b arities (b.first_functor + k) ≡ get_or arities k 0
    takes_functor k h =
        let e : b.first_functor + k - b.first_functor ≡ k = omega arith in
        takes_table b arities (λ e. omega arith) (within_apart proper.apart h) (omega arith) ∙ rw e
