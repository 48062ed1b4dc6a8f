-- A path may have twice as many unknowns as the question: then no run ends for names.
use Rattle.std.specs.Prelude.{ℕ, ◌+◌, ◌≤◌, ◌<◌, ◌≡◌, List}
use Rattle.std.proofs.Common.{arith}
use Rattle.terms.specs.Bounds.{Bounds}
use Rattle.terms.specs.Lists.{All, none as All-none, both, All-map}
use Rattle.terms.specs.Formed.{Question}
use Rattle.search.specs.declared.ends.End.{End}
use Rattle.search.specs.declared.ends.End.TheVariants.{Names}
use Rattle.search.specs.Run.{Loan, Visit, Verdict, stops, overflows, goes_on, visits, root, found, verdict, spend, after, scan, ran}
use Rattle.search.specs.Verdicts.{Judged, steps_spent, too_deep, too_many_names, too_large}
use Rattle.search.proofs.Verdicts.{judged}
use Rattle.invariants.proofs.Tree.{FormedQuestion}
use Rattle.promises.proofs.Searches.Naming.{names_within}

stops_names : {b : Bounds} {l : Loan} {v : Visit} {e : End} → Judged b l v (stops e) → e ≡ Names → b.path_unknowns < v.next
stops_names (steps_spent _) d = let z : ◌≡◌ {A = ℕ} 0 1 = cc in absurd (omega arith)
stops_names (too_deep _) d = let z : ◌≡◌ {A = ℕ} 0 1 = cc in absurd (omega arith)
stops_names (too_many_names h) d = h
stops_names (too_large _) d = let z : ◌≡◌ {A = ℕ} 0 1 = cc in absurd (omega arith)

scan_names : (b : Bounds) {vs : List Visit} → All (λ v. v.next ≤ b.path_unknowns) vs → (l : Loan) → (scan b l vs).end ≡ Names → ⊥
unfolding scan after
scan_names b All-none l e = let z : ◌≡◌ {A = ℕ} 0 1 = cc in omega arith
scan_names b (both {x = v} {xs = vs} h hs) l e = go (verdict b l v) (judged b l v) (scan_names b hs (spend b l v)) e
  where
    go : (k : Verdict) → Judged b l v k → ((scan b (spend b l v) vs).end ≡ Names → ⊥) → (after k (found b v.answer) (scan b (spend b l v) vs)).end ≡ Names → ⊥
    go (stops x) j f d = omega (arith, stops_names j d)
    go overflows j f d = let z : ◌≡◌ {A = ℕ} 0 1 = cc in omega arith
    go goes_on j f d = f d

pub names_suffice : (b : Bounds) (q : Question) → FormedQuestion q → q.unknowns + q.unknowns ≤ b.path_unknowns → (n : ℕ)
    → All (λ v. v.next ≤ b.path_unknowns) (visits n 0 (root q))
names_suffice b q h w n = All-map (λ v k. omega arith) (names_within q h n)

pub never_names : (b : Bounds) (q : Question) (l : Loan) → FormedQuestion q → q.unknowns + q.unknowns ≤ b.path_unknowns → (ran b q l).end ≡ Names → ⊥
unfolding ran
never_names b q l h w = scan_names b (names_suffice b q h w (l.depth + 2)) l
