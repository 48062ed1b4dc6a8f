-- More lent, same list: of two loans the one that is no less in steps, depth, size and space repeats what the other found, and a run that was
-- done is repeated word for word. First over lists of visits, then of runs.
use Rattle.std.specs.Prelude.{ℕ, ◌+◌, ◌≡◌, refl, List, [], ◌∷◌, ◌++◌}
use Rattle.std.proofs.Common.{ap, ◌∙◌, sym, append_assoc, arith}
use Rattle.terms.specs.Bounds.{Bounds}
use Rattle.terms.specs.Formed.{Question}
use Rattle.terms.specs.Answers.{listed, listed_append}
use Rattle.search.specs.declared.ends.End.{End}
use Rattle.search.specs.declared.ends.End.TheVariants.{Done}
use Rattle.search.specs.Run.{Loan, Outcome, Visit, Verdict, stops, overflows, goes_on, root, found, verdict, spend, after, scan, ran}
use Rattle.promises.specs.Wording.{NoLess, Begins, followed_by}
use Rattle.promises.specs.Searches.Agreeing.{Agreeing, at_end, alike, too_deep, visits_agreeing}
use Rattle.search.specs.Verdicts.{Allows, Judged, counted, allowed, stops_not-done, space_not-done}
use Rattle.search.proofs.Verdicts.{judged}

-- what is no less lets the same nodes pass, and is no less after them
allows_more : {b : Bounds} {l m : Loan} {v : Visit} → NoLess l m → Allows b l v → Allows b m v
allows_more w a = omega arith

spend-more : (b : Bounds) {l m : Loan} (v : Visit) → NoLess l m → NoLess (spend b l v) (spend b m v)
unfolding spend
spend-more b v w = omega arith

-- ---- over lists of visits

-- p repeats o: its list begins with o's, and where o is done p is o
pub record Repeats (o p : Outcome) : Type 0 where
  pub answers : Begins o.answers p.answers
  pub done : o.end ≡ Done → p ≡ o

begins-under : {A : Type 0} (ws : List A) {xs ys : List A} → Begins xs ys → Begins (ws ++ xs) (ws ++ ys)
begins-under ws {xs} (followed_by zs e) = followed_by zs (ap (λ l. ws ++ l) e ∙ sym (append_assoc ws xs zs))

-- a run that ends before a node found nothing from there on
repeats_nothing : {e : End} {n : ℕ} {p : Outcome} → (e ≡ Done → ⊥) → Repeats (record { end = e; visited = n; answers = [] }) p
repeats_nothing h = record { answers = followed_by _ refl; done = λ z. absurd (h z) }

repeats_counted : (ws : List (List ℕ)) {o p : Outcome} → Repeats o p → Repeats (after goes_on ws o) (after goes_on ws p)
unfolding after
repeats_counted ws h = record { answers = begins-under ws h.answers; done = λ z. ap (λ o. after goes_on ws o) (h.done z) }

-- one node, with what follows it where it is counted
scan_node : (b : Bounds) (l m : Loan) (v : Visit) (vs ws : List Visit) → NoLess l m → (Allows b l v → Repeats (scan b (spend b l v) vs) (scan b (spend b m v) ws))
    → Repeats (scan b l (v ∷ vs)) (scan b m (v ∷ ws))
unfolding scan after
scan_node b l m v vs ws w h = go (verdict b l v) refl (judged b l v)
  where
    go : (k : Verdict) → verdict b l v ≡ k → Judged b l v k → Repeats (scan b l (v ∷ vs)) (scan b m (v ∷ ws))
    go (stops e) q j = rw q (repeats_nothing (stops_not-done j))
    go overflows q j = rw q (repeats_nothing space_not-done)
    go goes_on q (counted a) = rw (q, allowed b m v (allows_more w a)) (repeats_counted (found b v.answer) (h a))

pub scan-more : (b : Bounds) {lent : ℕ} {vs ws : List Visit} → Agreeing lent vs ws → (l m : Loan) → l.depth ≡ lent → NoLess l m → Repeats (scan b l vs) (scan b m ws)
unfolding scan spend
scan-more b at_end l m e w = record { answers = followed_by [] refl; done = λ z. refl }
scan-more b (alike {v = v} {vs = vs} {ws = ws} h) l m e w = scan_node b l m v vs ws w (λ a. scan-more b h (spend b l v) (spend b m v) e (spend-more b v w))
scan-more b (too_deep {v = v} {vs = vs} {ws = ws} h) l m e w = scan_node b l m v vs ws w (λ a. absurd (omega arith))

-- ---- of runs

pub more-lent : (b : Bounds) (q : Question) (l m : Loan) → NoLess l m → Repeats (ran b q l) (ran b q m)
unfolding ran
more-lent b q l m w = scan-more b (visits_agreeing l.depth (l.depth + 2) (m.depth + 2) 0 (root q) (omega arith) (omega arith) (omega arith)) l m refl w

-- word for word
pub listed_begins : {xs ys : List (List ℕ)} → Begins xs ys → Begins (listed xs) (listed ys)
listed_begins {xs} (followed_by zs e) = followed_by (listed zs) (ap listed e ∙ listed_append xs zs)
