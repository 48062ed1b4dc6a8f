-- What the table of ends says of a due node, as facts of what is lent: `judged` gives for each verdict what decided it. And what a run that is done
-- says of its first node.
use Rattle.std.specs.Prelude.{ℕ, ◌≤◌, ◌<◌, ◌≡◌}
use Rattle.std.proofs.Common.{ne_eqb, le-ltb, le-leb, arith}
use Rattle.terms.specs.Bounds.{Bounds}
use Rattle.search.specs.declared.ends.End.{End}
use Rattle.search.specs.declared.ends.End.TheVariants.{Done, Steps, Depth, Names, Size, Space}
use Rattle.search.specs.Run.{Loan, Visit, Verdict, stops, overflows, goes_on, found_size, ends, verdict}

-- what is lent lets a node be counted, and holds its answer
pub record Allows (b : Bounds) (l : Loan) (v : Visit) : Type 0 where
  pub steps : 0 < l.steps
  pub depth : v.depth ≤ l.depth
  pub names : v.next ≤ b.path_unknowns
  pub size : v.size ≤ l.size
  pub space : found_size b v ≤ l.space

pub data Judged (b : Bounds) (l : Loan) (v : Visit) : Verdict → Type 0 where
  steps_spent : l.steps ≡ 0 → Judged b l v (stops Steps)
  too_deep : l.depth < v.depth → Judged b l v (stops Depth)
  too_many_names : b.path_unknowns < v.next → Judged b l v (stops Names)
  too_large : l.size < v.size → Judged b l v (stops Size)
  too_long : l.space < found_size b v → Judged b l v overflows
  counted : Allows b l v → Judged b l v goes_on

pub allowed : (b : Bounds) (l : Loan) (v : Visit) → Allows b l v → verdict b l v ≡ goes_on
unfolding verdict ends
allowed b l v a =
    rw (ne_eqb l.steps 0 (λ e. omega arith), le-ltb _ _ a.depth, le-ltb _ _ a.names, le-ltb _ _ a.size, le-leb _ _ a.space)

-- ---- a run that a node ends is not done

pub stops_not-done : {b : Bounds} {l : Loan} {v : Visit} {e : End} → Judged b l v (stops e) → e ≡ Done → ⊥
stops_not-done (steps_spent _) d = let z : ◌≡◌ {A = ℕ} 0 1 = cc in omega arith
stops_not-done (too_deep _) d = let z : ◌≡◌ {A = ℕ} 0 1 = cc in omega arith
stops_not-done (too_many_names _) d = let z : ◌≡◌ {A = ℕ} 0 1 = cc in omega arith
stops_not-done (too_large _) d = let z : ◌≡◌ {A = ℕ} 0 1 = cc in omega arith

pub space_not-done : Space ≡ Done → ⊥
space_not-done d = let z : ◌≡◌ {A = ℕ} 0 1 = cc in omega arith
