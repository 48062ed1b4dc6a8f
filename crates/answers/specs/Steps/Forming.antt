-- An entry of the pile keeps its tail when another unknown is replaced.
use Rattle.std.specs.Prelude.{ℕ, ◌≡◌, false, eqb}
use Rattle.terms.specs.Term.{Term, unknown, empty, with, functor, subst, kernel}

pub kernel-subst : (x : ℕ) {y : ℕ} (s v : Term) → eqb y x ≡ false → kernel v ≡ unknown y → kernel (subst x s v) ≡ unknown y
unfolding kernel subst
kernel-subst x {y} s (unknown i) h e = let k : i ≡ y = cc in rw (k, h)
kernel-subst x s empty h e = cc
kernel-subst x s (with m r) h e = kernel-subst x s r h e
kernel-subst x s (functor k ts) h e = cc
