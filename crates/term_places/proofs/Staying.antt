-- Where no unknown stands, by the kind that the code finds.
use Prim.Native.Nat.{ℕ}
use mathlib.Core.Logic.{◌⊎◌, inl, inr}
use mathlib.Core.Path.{◌≡◌}
use mathlib.Core.List.{List}
use Rattle.terms.specs.declared.kind.Kind.{Kind}
use Rattle.terms.specs.declared.kind.Kind.TheVariants.{Empty, Member, Functor, Nothing}
use Rattle.term_places.specs.Places.{on_to}

pub stays : (starts : List ℕ) (p : ℕ) (k : Kind) → (k ≡ Empty) ⊎ ((k ≡ Member) ⊎ (((x : ℕ) × k ≡ Functor x) ⊎ (k ≡ Nothing))) → on_to starts p k ≡ p
unfolding on_to
stays starts p k (inl e) = rw e
stays starts p k (inr (inl e)) = rw e
stays starts p k (inr (inr (inl (x, e)))) = rw e
stays starts p k (inr (inr (inr e))) = rw e
