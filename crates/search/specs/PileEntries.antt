-- The entries of a pile that are an unknown's, and the others: what all have, each part has; and the others have no entry of the unknown.
use Rattle.std.specs.Prelude.{ℕ, ◌≡◌, refl, List, [], ◌∷◌, eqb}
use Rattle.std.proofs.Common.{ap, eqb-true}
use Rattle.std.proofs.lemmas.Bool.{eqb-false}
use Rattle.terms.specs.Lists.{All, none, both, cases}
use Rattle.search.specs.State.{Entry}
use Rattle.search.specs.Children.{entries, others}

pub All-entries : {P : Entry → Type 0} (x : ℕ) {ns : List Entry} → All P ns → All (λ n. (n.name ≡ x) × P n) (entries x ns)
unfolding entries
All-entries x none = none
All-entries x (both {x = n} h hs) = cases (eqb n.name x) (λ e. rw e (both (eqb-true n.name x e, h) (All-entries x hs))) (λ e. rw e (All-entries x hs))

pub All-others : {P : Entry → Type 0} (x : ℕ) {ns : List Entry} → All P ns → All (λ n. (n.name ≡ x → ⊥) × P n) (others x ns)
unfolding others
All-others x none = none
All-others x (both {x = n} h hs) = cases (eqb n.name x) (λ e. rw e (All-others x hs)) (λ e. rw e (both (eqb-false n.name x e, h) (All-others x hs)))

pub entries-others : (x : ℕ) (ns : List Entry) → entries x (others x ns) ≡ []
unfolding entries others
entries-others x [] = refl
entries-others x (n ∷ ns) = cases (eqb n.name x) (λ e. rw e (entries-others x ns)) (λ e. rw (e, e) (entries-others x ns))

pub others-others : (x : ℕ) (ns : List Entry) → others x (others x ns) ≡ others x ns
unfolding others
others-others x [] = refl
others-others x (n ∷ ns) = cases (eqb n.name x) (λ e. rw e (others-others x ns)) (λ e. rw (e, e) (ap (λ (l : List Entry). n ∷ l) (others-others x ns)))
