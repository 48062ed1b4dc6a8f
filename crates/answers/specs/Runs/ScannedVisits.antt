-- A run over a list of visits: what every counted node's answer has, every listed answer has; and where the run is done, every node was counted,
-- so that what some node's answer has, some listed answer has.
use Rattle.std.specs.Prelude.{ℕ, ◌≤◌, ◌≡◌, List}
use Rattle.std.proofs.Common.{arith}
use Rattle.terms.specs.Bounds.{Bounds}
use Rattle.terms.specs.Lists.{All, Any, none, both, here, there, All-append, Any-left, Any-right}
use Rattle.search.specs.declared.ends.End.TheVariants.{Done}
use Rattle.search.specs.Run.{Loan, Visit, Verdict, stops, overflows, goes_on, found, verdict, spend, after, scan}
use Rattle.search.specs.Verdicts.{Judged, counted, allowed}
use Rattle.search.proofs.Verdicts.{judged, done_first}

pub scan_each : {P : List ℕ → Type 0} (b : Bounds) (l : Loan) {vs : List Visit} → All (λ v. v.next ≤ b.path_unknowns → All P (found b v.answer)) vs → All P (scan b l vs).answers
unfolding scan after
scan_each b l none = none
scan_each {P} b l (both {x = v} {xs = vs} h hs) = go (verdict b l v) (judged b l v) (scan_each b (spend b l v) hs)
  where
    go : (k : Verdict) → Judged b l v k → All P (scan b (spend b l v) vs).answers → All P (after k (found b v.answer) (scan b (spend b l v) vs)).answers
    go (stops e) j r = none
    go overflows j r = none
    go goes_on (counted a) r = All-append (h a.names) r

pub scan-some : {P : List ℕ → Type 0} (b : Bounds) {lent : ℕ} {vs : List Visit} → Any (λ v. v.depth ≤ lent → v.next ≤ b.path_unknowns → Any P (found b v.answer)) vs
    → (l : Loan) → l.depth ≡ lent → (scan b l vs).end ≡ Done → Any P (scan b l vs).answers
unfolding scan after spend
scan-some b (here {x = v} {xs = vs} h) l q e =
    let d = done_first b l v vs e in
    rw (allowed b l v d.0) (Any-left _ (h (omega (arith, d.0.depth)) d.0.names))
scan-some b (there {x = v} {xs = vs} h) l q e =
    let d = done_first b l v vs e in
    rw (allowed b l v d.0) (Any-right (found b v.answer) (scan-some b h (spend b l v) q d.1))
