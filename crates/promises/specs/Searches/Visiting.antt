-- What holds of every visit of a search, by what every state keeps; how deep visits lie; and what a run over visits gives when what is lent is
-- enough for all of them.
use Rattle.std.specs.Prelude.{ℕ, ◌+◌, suc, zero, ◌≤◌, ◌<◌, max, ◌≡◌, refl, List, [], ◌∷◌, length}
use Rattle.std.proofs.Common.{ap, ◌∙◌, length-append, arith}
use Rattle.terms.specs.Bounds.{Bounds}
use Rattle.terms.specs.Lists.{All, none as All-none, both, All-map, All_of_flat_map, All_units, All-first, All-rest}
use Rattle.terms.specs.Answers.{listed, listed_append}
use Rattle.search.specs.declared.ends.End.TheVariants.{Done}
use Rattle.search.specs.State.{State, Node, dead, live}
use Rattle.search.specs.Children.{children}
use Rattle.search.specs.Run.{Loan, Visit, goes_on, visit, dead_visit, visits, found, found_size, spend, after, scan}
use Rattle.promises.specs.Wording.{NoLess, all_found, whole}
use Rattle.search.specs.Verdicts.{Allows, allowed}
use Rattle.search.proofs.Verdicts.{done_first}
use Rattle.invariants.proofs.Tree.{Live, is_dead, is_live}

-- what a state hands on to its children holds all over its tree
pub visits_each : (I : State → Type 0) (P : Visit → Type 0) → ((st : State) → I st → All (Live I) (children st)) → ((d : ℕ) → P (dead_visit d))
    → ((d : ℕ) (st : State) → I st → P (visit d st))
    → (n d : ℕ) (node : Node) → Live I node → All P (visits n d node)
unfolding visits
visits_each I P hands_on at_dead at_live zero d node h = All-none
visits_each I P hands_on at_dead at_live (suc n) d node is_dead = both (at_dead d) All-none
visits_each I P hands_on at_dead at_live (suc n) d node (is_live {st = st} i) =
    both (at_live d st i) (All_of_flat_map _ (λ c h. visits_each I P hands_on at_dead at_live n (suc d) c h) (hands_on st i))

-- n levels from depth d on
pub visits-above : (n d : ℕ) (node : Node) → All (λ v. v.depth < d + n) (visits n d node)
unfolding visits visit dead_visit
visits-above zero d node = All-none
visits-above (suc n) d dead = both {x = dead_visit d} (omega arith) All-none
visits-above (suc n) d (live st) =
    both {x = visit d st} (omega arith) (All_of_flat_map _ (λ c h. All-map (λ v k. omega arith) (visits-above n (suc d) c)) (All_units (children st)))

-- ---- a run that gives the whole

-- enough is lent for all the visits
pub record Enough (b : Bounds) (l : Loan) (vs : List Visit) : Type 0 where
  pub steps : length vs ≤ l.steps
  pub depth : All (λ v. v.depth ≤ l.depth) vs
  pub names : All (λ v. v.next ≤ b.path_unknowns) vs
  pub size : All (λ v. v.size ≤ l.size) vs
  pub space : length (listed (all_found b vs)) ≤ l.space

found-more : (b : Bounds) (v : Visit) (vs : List Visit) → length (listed (all_found b (v ∷ vs))) ≡ found_size b v + length (listed (all_found b vs))
unfolding all_found found_size
found-more b v vs = ap length (listed_append (found b v.answer) (all_found b vs)) ∙ length-append (listed (found b v.answer)) (listed (all_found b vs))

enough_first : {b : Bounds} {l : Loan} {v : Visit} {vs : List Visit} → Enough b l (v ∷ vs) → Allows b l v
enough_first {b} {l} {v} {vs} e =
    record {
      steps = omega arith;
      depth = All-first e.depth;
      names = All-first e.names;
      size = All-first e.size;
      space = omega (arith, found-more b v vs);
    }

enough_rest : {b : Bounds} {l : Loan} {v : Visit} {vs : List Visit} → Enough b l (v ∷ vs) → Enough b (spend b l v) vs
unfolding spend
enough_rest {b} {l} {v} {vs} e =
    record { steps = omega arith; depth = All-rest e.depth; names = All-rest e.names; size = All-rest e.size; space = omega (arith, found-more b v vs) }

pub scan-whole : (b : Bounds) (vs : List Visit) (l : Loan) → Enough b l vs → scan b l vs ≡ whole b vs
unfolding scan whole all_found after
scan-whole b [] l e = refl
scan-whole b (v ∷ vs) l e = rw (allowed b l v (enough_first e)) (ap (λ o. after goes_on (found b v.answer) o) (scan-whole b vs (spend b l v) (enough_rest e)))

-- and a run that is done gave the whole
pub whole-scan : (b : Bounds) (vs : List Visit) (l : Loan) → (scan b l vs).end ≡ Done → scan b l vs ≡ whole b vs
unfolding scan whole all_found after
whole-scan b [] l e = refl
whole-scan b (v ∷ vs) l e =
    let p = done_first b l v vs e in
    rw (allowed b l v p.0) (ap (λ o. after goes_on (found b v.answer) o) (whole-scan b vs (spend b l v) p.1))

-- ---- a loan that is enough for n levels of visits, where none needs a name too many

pub most_size : List Visit → ℕ
most_size [] = 0
most_size (v ∷ vs) = max v.size (most_size vs)

sizes_within : {n : ℕ} (vs : List Visit) → most_size vs ≤ n → All (λ v. v.size ≤ n) vs
unfolding most_size
sizes_within [] h = All-none
sizes_within (v ∷ vs) h = both {x = v} (omega arith) (sizes_within vs (omega arith))

unfoldable pub enough_for : Bounds → ℕ → List Visit → Loan
enough_for b n vs = record { steps = length vs; depth = n; size = most_size vs; space = length (listed (all_found b vs)) }

pub enough_lent : (b : Bounds) (n : ℕ) (node : Node) (m : Loan) → All (λ v. v.next ≤ b.path_unknowns) (visits n 0 node)
    → NoLess (enough_for b n (visits n 0 node)) m → Enough b m (visits n 0 node)
unfolding enough_for
enough_lent b n node m h w =
    record { steps = w.steps; depth = All-map (λ v k. omega arith) (visits-above n 0 node); names = h; size = sizes_within (visits n 0 node) w.size; space = w.space }
