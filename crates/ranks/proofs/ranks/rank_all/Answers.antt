use mathlib.Core.Path.{sym, ◌∙◌}
use native.Mathlib.Omega.{arith}
use Rattle.terms.specs.Bounds.{edition_one}
use Rattle.terms.specs.Kind as kinds
use Rattle.ranks.specs.Ranked.{not-told}
use Rattle.ranks.proofs.Ranking.{high_known, empty_told, next_in, ends_in, rated_of, rated_set_due, rated_on, rated_set_of, rated_past}
use Rattle.ranks.proofs.ranks.rank_all.Goals as goal

-- ---- a set

pub term_end-rest-requires : goal.term_end-rest-requires
term_end-rest-requires c =
    let o = rated_set_due c.loop-p.invariant c.loop-p-test.true (kinds.member_told edition_one (sym c.in-Member.is ∙ c.kind_of.ensures)) in
    record { unknowns = _; terms = o.ranked.placed.terms; inside = next_in o }

pub rank_of_set-requires-clause-of_set : goal.rank_of_set-requires-clause-of_set
rank_of_set-requires-clause-of_set c =
    rated_set_due c.loop-p.invariant c.loop-p-test.true (kinds.member_told edition_one (sym c.in-Member.is ∙ c.kind_of.ensures))

pub offset_bounds-ranks-rest : goal.offset_bounds-ranks-rest
offset_bounds-ranks-rest c =
    let o = rated_set_due c.loop-p.invariant c.loop-p-test.true (kinds.member_told edition_one (sym c.in-Member.is ∙ c.kind_of.ensures)) in
    omega (arith, c.term_end-rest.ensures, ends_in o, o.ranked.long)

pub bounds-ranks-rest : goal.bounds-ranks-rest
bounds-ranks-rest c =
    let o = rated_set_of c.loop-p.invariant c.loop-p-test.true c.rank_of_set.ensures (kinds.member_told edition_one (sym c.in-Member.is ∙ c.kind_of.ensures)) in
    omega (arith, c.term_end-rest.ensures, ends_in o, o.ranked.long)

pub loop-p-preserved-in-Member : goal.loop-p-preserved-in-Member
loop-p-preserved-in-Member c =
    rw c.term_end-rest.ensures
    (rated_past c.loop-p.invariant c.loop-p-test.true c.rank_of_set.ensures (kinds.member_told edition_one (sym c.in-Member.is ∙ c.kind_of.ensures)))

-- ---- other terms

pub loop-p-preserved-in-Empty : goal.loop-p-preserved-in-Empty
loop-p-preserved-in-Empty c =
    let i = c.loop-p.invariant in
    let o = rated_of i c.loop-p-test.true in
    rated_on i c.loop-p-test.true (empty_told o.ranked.placed o.inside (kinds.empty_told edition_one (sym c.in-Empty.is ∙ c.kind_of.ensures)))

pub rank_of_functor-requires : goal.rank_of_functor-requires
unfolding edition_one
rank_of_functor-requires c =
    let o = rated_of c.loop-p.invariant c.loop-p-test.true in
    let f = kinds.functor_told edition_one (sym c.in-Functor.is ∙ c.kind_of.ensures) in
    record { ranked = o.ranked; known = high_known o.ranked.placed o.inside (omega (arith, f.0)); no_mark = omega (arith, f.0) }

pub loop-p-preserved-in-Functor : goal.loop-p-preserved-in-Functor
loop-p-preserved-in-Functor c = rated_on c.loop-p.invariant c.loop-p-test.true c.rank_of_functor.ensures

pub loop-p-preserved : goal.loop-p-preserved
loop-p-preserved c = rated_on c.loop-p.invariant c.loop-p-test.true (not-told (omega arith))
