-- A list of visits that is taken deeper agrees with the shallower one as far as a run within the lent depth gets: up to the first node that is
-- deeper than lent.
use Rattle.std.specs.Prelude.{ℕ, ◌+◌, suc, zero, ◌≤◌, ◌<◌, ltb}
use mathlib.Core.List.{List, [], ◌∷◌, ◌++◌, flat_map}
use Rattle.std.proofs.Common.{ltb-true, ltb-false, arith}
use Rattle.terms.specs.Lists.{cases}
use Rattle.search.specs.State.{Node, dead, live}
use Rattle.search.specs.Children.{children}
use Rattle.search.specs.Run.{Visit, visit, visits}

-- the second list is the first, or both begin alike up to a node deeper than lent
pub data Agreeing (lent : ℕ) : List Visit → List Visit → Type 0 where
  at_end : Agreeing lent [] []
  alike : {v : Visit} {vs ws : List Visit} → Agreeing lent vs ws → Agreeing lent (v ∷ vs) (v ∷ ws)
  too_deep : {v : Visit} {vs ws : List Visit} → lent < v.depth → Agreeing lent (v ∷ vs) (v ∷ ws)

pub agreeing_append : {lent : ℕ} {vs ws vs' ws' : List Visit} → Agreeing lent vs ws → Agreeing lent vs' ws' → Agreeing lent (vs ++ vs') (ws ++ ws')
agreeing_append at_end h = h
agreeing_append (alike g) h = alike (agreeing_append g h)
agreeing_append (too_deep l) h = too_deep l

agreeing_flat_map : {lent : ℕ} (f g : Node → List Visit) → ((n : Node) → Agreeing lent (f n) (g n)) → (ns : List Node) → Agreeing lent (flat_map f ns) (flat_map g ns)
unfolding flat_map
agreeing_flat_map f g h [] = at_end
agreeing_flat_map f g h (n ∷ ns) = agreeing_append (h n) (agreeing_flat_map f g h ns)

-- n levels reach below the lent depth, and m are no fewer
pub visits_agreeing : (lent n m d : ℕ) (node : Node) → n ≤ m → d ≤ suc lent → lent + 2 ≤ d + n → Agreeing lent (visits n d node) (visits m d node)
unfolding visits visit
visits_agreeing lent zero m d node h k l = absurd (omega arith)
visits_agreeing lent (suc n) zero d node h k l = absurd (omega arith)
visits_agreeing lent (suc n) (suc m) d dead h k l = alike at_end
visits_agreeing lent (suc n) (suc m) d (live st) h k l =
    cases (ltb lent d) (λ e. too_deep (ltb-true lent d e))
    (λ e. alike (agreeing_flat_map _ _ (λ c. visits_agreeing lent n m (suc d) c (omega arith) (omega (arith, ltb-false lent d e)) (omega arith)) (children st)))
