-- What a verdict tells of its visit, once and for all, and that a run that is done has looked at its first visit.
use Rattle.std.specs.Prelude.{◌≡◌, refl, List, ◌∷◌, Bool, true, false, eqb, ltb, leb}
use Rattle.std.proofs.Common.{eqb-true, ltb-true, ltb-false, leb-true, leb-false, arith}
use Rattle.std.proofs.lemmas.Bool.{eqb-false}
use Rattle.terms.specs.Bounds.{Bounds}
use Rattle.search.specs.declared.ends.End.TheVariants.{Done}
use Rattle.search.specs.Run.{Loan, Visit, Verdict, stops, overflows, goes_on, found, found_size, ends, verdict, spend, after, scan}
use Rattle.search.specs.Verdicts.{Allows, Judged, stops_not-done, space_not-done, steps_spent, too_deep, too_many_names, too_large, too_long, counted}

judged_by : (b : Bounds) (l : Loan) (v : Visit) (spent deep names large fits : Bool)
    → eqb l.steps 0 ≡ spent → ltb l.depth v.depth ≡ deep → ltb b.path_unknowns v.next ≡ names → ltb l.size v.size ≡ large → leb (found_size b v) l.space ≡ fits
    → Judged b l v (ends spent deep names large fits)
unfolding ends
judged_by b l v true deep names large fits s d n z f = steps_spent (eqb-true _ _ s)
judged_by b l v false true names large fits s d n z f = too_deep (ltb-true _ _ d)
judged_by b l v false false true large fits s d n z f = too_many_names (ltb-true _ _ n)
judged_by b l v false false false true fits s d n z f = too_large (ltb-true _ _ z)
judged_by b l v false false false false false s d n z f = too_long (leb-false _ _ f)
judged_by b l v false false false false true s d n z f =
    let some : l.steps ≡ 0 → ⊥ = eqb-false _ _ s in
    counted (record { steps = omega arith; depth = ltb-false _ _ d; names = ltb-false _ _ n; size = ltb-false _ _ z; space = leb-true _ _ f })

pub judged : (b : Bounds) (l : Loan) (v : Visit) → Judged b l v (verdict b l v)
unfolding verdict
judged b l v = judged_by b l v _ _ _ _ _ refl refl refl refl refl

-- so the first node of a run that is done was counted, and the rest is done
pub done_first : (b : Bounds) (l : Loan) (v : Visit) (vs : List Visit) → (scan b l (v ∷ vs)).end ≡ Done → Allows b l v × ((scan b (spend b l v) vs).end ≡ Done)
unfolding scan after
done_first b l v vs = go (verdict b l v) (judged b l v)
  where
    go : (k : Verdict) → Judged b l v k → (after k (found b v.answer) (scan b (spend b l v) vs)).end ≡ Done → Allows b l v × ((scan b (spend b l v) vs).end ≡ Done)
    go (stops e) j d = absurd (stops_not-done j d)
    go overflows j d = absurd (space_not-done d)
    go goes_on (counted a) d = (a, d)
