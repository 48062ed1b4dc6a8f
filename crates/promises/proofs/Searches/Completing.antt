-- When a run is done: with enough lent it is, where names suffice; and a run that is done has visited every node there is, at whatever depth, and
-- holds every answer.
use Rattle.std.specs.Prelude.{ℕ, ◌+◌, ◌≤◌, ◌≡◌, refl, List, ◌∷◌}
use Rattle.std.proofs.Common.{ap, arith}
use Rattle.terms.specs.Bounds.{Bounds}
use Rattle.terms.specs.Formed.{Question}
use Rattle.search.specs.declared.ends.End.TheVariants.{Done}
use Rattle.search.specs.Run.{Loan, Visit, visits, root, spend, scan, ran}
use Rattle.promises.specs.Wording.{NoLess, whole}
use Rattle.promises.specs.Searches.Agreeing.{Agreeing, at_end, alike, too_deep, visits_agreeing}
use Rattle.search.proofs.Verdicts.{done_first}
use Rattle.promises.specs.Searches.Visiting.{scan-whole, whole-scan, enough_for, enough_lent}
use Rattle.invariants.proofs.Tree.{FormedQuestion}
use Rattle.promises.specs.Searches.Ending.{visits-settle}
use Rattle.promises.proofs.Searches.NamesLeft.{names_suffice}

-- a loan, and that every loan that is no less gives the whole
pub enough : (b : Bounds) (q : Question) → FormedQuestion q → q.unknowns + q.unknowns ≤ b.path_unknowns → (l : Loan) × ((m : Loan) → NoLess l m → (ran b q m).end ≡ Done)
unfolding ran whole enough_for
enough b q h w =
    let r = visits-settle q h in
    let n : ℕ = r.0 in (
      enough_for b n (visits n 0 (root q)),
      λ m k. rw (r.1 (m.depth + 2) (omega (arith, k.depth))) (ap (λ o. o.end) (scan-whole b (visits n 0 (root q)) m (enough_lent b n (root q) m (names_suffice b q h w n) k))),
    )

agreeing_done : (b : Bounds) {lent : ℕ} {vs ws : List Visit} → Agreeing lent vs ws → (l : Loan) → l.depth ≡ lent → (scan b l vs).end ≡ Done → ws ≡ vs
unfolding spend
agreeing_done b at_end l e d = refl
agreeing_done b (alike {v = v} {vs = vs} h) l e d = ap (λ us. v ∷ us) (agreeing_done b h (spend b l v) e (done_first b l v vs d).1)
agreeing_done b (too_deep {v = v} {vs = vs} h) l e d = absurd (omega (arith, (done_first b l v vs d).0.depth))

-- no node lies deeper than the run went
pub done_deepest : (b : Bounds) (q : Question) (l : Loan) → (ran b q l).end ≡ Done → (n : ℕ) → l.depth + 2 ≤ n → visits n 0 (root q) ≡ visits (l.depth + 2) 0 (root q)
unfolding ran
done_deepest b q l d n h = agreeing_done b (visits_agreeing l.depth (l.depth + 2) n 0 (root q) h (omega arith) (omega arith)) l refl d

-- and it gave the whole
pub done-whole : (b : Bounds) (q : Question) (l : Loan) → (ran b q l).end ≡ Done → (n : ℕ) → l.depth + 2 ≤ n → ran b q l ≡ whole b (visits n 0 (root q))
unfolding ran
done-whole b q l d n h = rw (done_deepest b q l d n h) (whole-scan b (visits (l.depth + 2) 0 (root q)) l d)
