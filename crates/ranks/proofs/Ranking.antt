-- Ranks of places: a set's by its member's and its rest's, a functor's by its arguments' (`Reckoning`), and how a table of them is filled.
use Prim.Native.Nat.{ℕ, zero, suc, ◌+◌, ◌-◌, ◌<◌, ◌≤◌, max}
use mathlib.Core.Path.{◌≡◌, ap, ◌∙◌}
use mathlib.Core.List.{List}
use native.Mathlib.Omega.{arith}
use native.Mathlib.Numerals.{sub-one}
use lib.ListN.{length, get_or, set}
use Rattle.terms.specs.Term.{with}
use Rattle.terms.specs.Reading.{taken}
use Rattle.terms.specs.Bounds.{MEMBER}
use Rattle.laws.proofs.Rank.{rank, rank*}
use Rattle.laws.specs.Values.{value*}
use Rattle.term_places.specs.Places.{Held, valued, Placed, Known, end, resolved, member_of, rest_of}
use Rattle.term_places.specs.Opened.{opened, resolving}
use Rattle.term_places.specs.Arguments.{arguments, following, Left, Kernel, kernel_empty, kernel_functor, kernel_at, left-first, left-next, next_inside, more-arguments}
use Rattle.ranks.specs.Ranks.{RankTold, Above, Ranked, OfPlace, OfSet, OfFunctor}
use Rattle.ranks.specs.Ranked.{not-told, ranked_set}

-- ---- which places are known

module _ {h : Held} (placed : Placed h) {p : ℕ} (inside : p < length h.words) where
  pub low_known : get_or h.words p 0 < 2 → Known h p
  low_known l = let m = placed.terms.limits.proper.unknowns_after_marks in record { inside = inside; no_unknown = λ i b e. omega arith }

  pub high_known : h.bounds.first_unknown + h.bounds.unknown_words ≤ get_or h.words p 0 → Known h p
  high_known l = let x = placed.terms.limits.unknowns in record { inside = inside; no_unknown = λ i b e. omega arith }

  pub empty_told : get_or h.words p 0 ≡ 0 → RankTold h p 0
  unfolding rank
  empty_told e = record { told = λ b. let k = low_known (omega arith) in record { known = k; rank = go (kernel_at placed k (λ z. omega arith)) } }
    where
      go : Kernel h p → rank (valued h p) ≡ 0
      go (kernel_empty d s f) = rw s
      go (kernel_functor d s) = absurd (omega (arith, placed.terms.limits.proper.functors_after_marks))

-- ---- a set

module _ {h : Held} {ranks : List ℕ} {p : ℕ} (o : OfSet h ranks p) where
  pub next_in : p + 1 < length h.words
  next_in = (opened o.ranked.placed p o.inside o.member).next

  pub ends_in : end h.bounds h.arities h.words (p + 1) < length h.words
  ends_in = (opened o.ranked.placed p o.inside o.member).ends

  pub member_in : member_of h p < length h.words
  member_in = (opened o.ranked.placed p o.inside o.member).member.inside

  pub rest_in : rest_of h p < length h.words
  unfolding rest_of
  rest_in = (resolving o.ranked.placed _ ends_in).known.inside

  whole : valued h p ≡ with (valued h (member_of h p)) (valued h (rest_of h p))
  whole = (opened o.ranked.placed p o.inside o.member).whole

  pub set_told : {above r : ℕ} → Above (get_or ranks (member_of h p) 0) above → r ≡ max above (get_or ranks (rest_of h p) 0) → RankTold h p r
  unfolding rank
  set_told {above} {r} a e =
      record {
        told = λ b.
            let s = a.told (omega arith) in
            let m = ((o.ranked.ranked (member_of h p) member_in).told (omega arith)).rank in
            let t = ((o.ranked.ranked (rest_of h p) rest_in).told (omega arith)).rank in
            record { known = low_known o.ranked.placed o.inside (omega (arith, o.member)); rank = ap rank whole ∙ omega (arith, e, s, m, t) };
      }

-- ---- a functor

pub record Reckoning (h : Held) (ranks : List ℕ) (p r x m : ℕ) : Type 0 where
  pub of : OfFunctor h ranks p
  pub left : Left h p x m
  pub so_far : r < 65535 → max r (rank* (arguments h x m)) ≡ rank* (arguments h (p + 1) (following h p))

module _ {h : Held} {ranks : List ℕ} {p : ℕ} (o : OfFunctor h ranks p) where
  no_set : get_or h.words p 0 ≡ MEMBER → ⊥
  no_set e = omega (arith, o.no_mark)

  pub reckoning_start : {m : ℕ} → m ≡ following h p → Reckoning h ranks p 0 (p + 1) m
  reckoning_start e = rw e (record { of = o; left = left-first o.ranked.placed o.known no_set; so_far = λ b. omega arith })

  ranked_functor : Kernel h p → rank (valued h p) ≡ suc (rank* (arguments h (p + 1) (following h p)))
  unfolding rank
  ranked_functor (kernel_empty e s f) = absurd (omega (arith, o.no_mark))
  ranked_functor (kernel_functor e s) = ap rank s

  pub functor_rank : rank (valued h p) ≡ suc (rank* (arguments h (p + 1) (following h p)))
  functor_rank = ranked_functor (kernel_at o.ranked.placed o.known no_set)

no_arguments : (h : Held) (x : ℕ) {m : ℕ} → m ≡ 0 → rank* (arguments h x m) ≡ 0
unfolding arguments taken value* rank
no_arguments h x e = rw e

next_rank : {h : Held} → Placed h → {x m : ℕ} → x < length h.words → 0 < m
    → rank* (arguments h x m) ≡ max (rank (valued h x)) (rank* (arguments h (end h.bounds h.arities h.words x) (m - 1)))
unfolding rank
next_rank placed {x = x} {m = zero} i z = absurd (omega arith)
next_rank placed {x = x} {m = suc m} i z = rw sub-one (ap rank* (more-arguments placed x m i))

module _ {h : Held} {ranks : List ℕ} {p r x m : ℕ} (w : Reckoning h ranks p r x m) where
  pub reckoning_end : {v : ℕ} → m ≡ 0 → Above r v → RankTold h p v
  reckoning_end {v} z a =
      record {
        told = λ b.
            let s = a.told b in
            let t = w.so_far (omega arith) in
            let n = no_arguments h x z in
            record { known = w.of.known; rank = functor_rank w.of ∙ omega (arith, s, t, n) };
      }

  module _ (z : 0 < m) where
    pub argument_in : x < length h.words
    argument_in = next_inside w.of.ranked.placed w.left z

    pub resolved_in : resolved h.bounds h.words h.starts x < length h.words
    resolved_in = (resolving w.of.ranked.placed x argument_in).known.inside

    pub reckoning_on : {v k : ℕ} → v ≡ max r (get_or ranks (resolved h.bounds h.words h.starts x) 0) → k ≡ m - 1
        → Reckoning h ranks p v (end h.bounds h.arities h.words x) k
    reckoning_on {v} e less =
        rw less
        (record {
          of = w.of;
          left = left-next w.of.ranked.placed w.left z;
          so_far = λ b.
              let s = w.so_far (omega (arith, e)) in
              let a = ((w.of.ranked.ranked _ resolved_in).told (omega (arith, e))).rank in
              let c = ap rank (resolving w.of.ranked.placed x argument_in).same in
              let n = next_rank w.of.ranked.placed argument_in z in
              omega (arith, e, s, a, c, n);
        })

-- ---- the table

-- from the last place on, `due` are left
pub record Rated (h : Held) (ranks : List ℕ) (due : ℕ) : Type 0 where
  pub ranked : Ranked h ranks
  pub inside : due ≤ length h.words

module _ {h : Held} {ranks : List ℕ} {due : ℕ} (w : Rated h ranks due) (z : 0 < due) where
  pub rated_of : OfPlace h ranks (due - 1)
  rated_of = record { ranked = w.ranked; inside = let i = w.inside in omega arith }

  -- a set whose rank is still due
  pub rated_set_due : get_or h.words (due - 1) 0 ≡ MEMBER → OfSet h ranks (due - 1)
  rated_set_due e = record { ranked = w.ranked; inside = rated_of.inside; member = e }

  module _ {r : ℕ} (t : RankTold h (due - 1) r) where
    pub rated_on : Rated h (set ranks (due - 1) r) (due - 1)
    rated_on = record { ranked = ranked_set w.ranked rated_of.inside t; inside = let i = w.inside in omega arith }

    module _ (e : get_or h.words (due - 1) 0 ≡ MEMBER) where
      -- and once it is noted
      pub rated_set_of : OfSet h (set ranks (due - 1) r) (due - 1)
      rated_set_of = record { ranked = rated_on.ranked; inside = rated_of.inside; member = e }

      pub rated_past : Rated h (set (set ranks (due - 1) r) (end h.bounds h.arities h.words (due - 1 + 1)) 65535) (due - 1)
      rated_past = record { ranked = ranked_set rated_on.ranked (ends_in rated_set_of) (not-told (omega arith)); inside = rated_on.inside }
