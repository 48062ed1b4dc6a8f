-- The cycle of calls {compare, each_meets, kernels, meets, same}. Its measure is three times the symbols of the two terms with values put in, and for `same` two
-- and for `compare` one more: `same` calls `compare`, and that the others, with the same two terms, or their kernels; those call with smaller ones.
use Prim.Native.Nat.{◌+◌, ◌-◌, ◌*◌}
use Rattle.terms.specs.Term.{size}
use Rattle.term_places.specs.Places.{valued}
use Rattle.term_places.specs.Lent.{of}
use Rattle.compare.proofs.Meeting.{Meeting}
use Rattle.compare.proofs.Matching.{Matching}
use Rattle.compare.proofs.Arguing.{Arguing}
use Rattle.compare.proofs.compare.+compare_each_meets_kernels_meets_same.Given as goal

abbrev pub decreases-compare : goal.decreases-compare
decreases-compare l = let h = of l.held.now in 3 * (size (valued h l.p) + size (valued h l.q)) + 1

abbrev pub decreases-each_meets : goal.decreases-each_meets
decreases-each_meets l = let h = of l.held.now in 3 * (size (valued h l.p) + size (valued h l.q))

abbrev pub decreases-kernels : goal.decreases-kernels
decreases-kernels l = let h = of l.held.now in 3 * (size (valued h l.p) + size (valued h l.q))

abbrev pub decreases-meets : goal.decreases-meets
decreases-meets l = let h = of l.held.now in 3 * (size (valued h l.m) + size (valued h l.q))

abbrev pub decreases-same : goal.decreases-same
decreases-same l = let h = of l.held.now in 3 * (size (valued h l.p) + size (valued h l.q)) + 2

-- ---- each_meets
abbrev pub invariant-each_meets-loop-x : goal.invariant-each_meets-loop-x
invariant-each_meets-loop-x l = Matching (of l.held) l.initial.labels l.labels l.p l.q l.x

abbrev pub decreases-each_meets-loop-x : goal.decreases-each_meets-loop-x
decreases-each_meets-loop-x l = size (valued (of l.held) l.x)

-- ---- kernels
abbrev pub invariant-kernels-loop : goal.invariant-kernels-loop
invariant-kernels-loop l = Arguing (of l.held) l.initial.labels l.labels l.p l.q l.x l.y (l.due - l.counter)

-- ---- meets
abbrev pub invariant-meets-loop-y : goal.invariant-meets-loop-y
invariant-meets-loop-y l = Meeting (of l.held) l.initial.labels l.labels l.m l.q l.y l.met

abbrev pub decreases-meets-loop-y : goal.decreases-meets-loop-y
decreases-meets-loop-y l = size (valued (of l.held) l.y)
