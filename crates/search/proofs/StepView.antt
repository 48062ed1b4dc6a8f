-- What each step tells of its equation, once and for all: every equation is as `Stepped` says of the step that `classify` gives it.
use Rattle.std.specs.Prelude.{ℕ, ◌≡◌, refl, Bool, true, false, cond, ◌&&◌, eqb}
use Rattle.std.proofs.Common.{◌∙◌, sym, eqb-true}
use Rattle.std.proofs.lemmas.Bool.{false≢true, eqb-false}
use Rattle.terms.specs.Lists.{any, any→, and_both, cases}
use Rattle.terms.specs.Term.{Term, Terms, unknown, empty, with, functor, occurs, members, kernel}
use Rattle.terms.specs.Shape.{is_unknown, number}
use Rattle.search.specs.declared.steps.Tails.{Tails}
use Rattle.search.specs.declared.steps.Tails.TheVariants.{Different}
use Rattle.search.specs.declared.steps.Step.TheVariants.{Drop, Decompose, Dead}
use Rattle.search.specs.Classify.{only_tail, meet_by, meet, classify}
use Rattle.search.specs.StepView.{tailed, Buried, occurs_where, tail_only, Sided, Stepped, in_member, in_kernel, as_written, turned_round, empty_functor, functor_empty, empty_set, set_empty, functor_set, set_functor, drops_unknown, drops_empty, binds, postpones, decomposes, splits, dead_buried, dead_functors, dead_clash}

-- an unknown that is only the tail passes the test
only_tail_passes : (x : ℕ) (t : Term) → any (occurs x) (members t) ≡ false → is_unknown (kernel t) ≡ true → occurs x (kernel t) ≡ true → only_tail x t ≡ true
unfolding only_tail occurs number is_unknown
only_tail_passes x t e u o = rw (u, e) (go (kernel t) u o)
  where
    go : (s : Term) → is_unknown s ≡ true → occurs x s ≡ true → (eqb (number s) x && true) ≡ true
    go (unknown i) u o = and_both o refl
    go empty u o = cc
    go (with m r) u o = cc
    go (functor k ts) u o = cc

pub buried : (x : ℕ) (t : Term) → occurs x t ≡ true → only_tail x t ≡ false → Buried x t
buried x t o e =
    cases (any (occurs x) (members t)) (λ h. in_member (any→ (occurs x) (members t) h))
    (λ h. cases (is_unknown (kernel t)) (λ u. absurd (false≢true (sym e ∙ only_tail_passes x t h u (occurs_where x t o h))))
    (λ u. in_kernel u (occurs_where x t o h)))

stepped_meet : {x : ℕ} {t l r : Term} (k : Tails) → Sided x t l r → Stepped l r (meet x t k)
unfolding meet meet_by
stepped_meet {x} {t} {l} {r} k s = go (occurs x t) (only_tail x t) refl refl
  where
    go : (o a : Bool) → occurs x t ≡ o → only_tail x t ≡ a → Stepped l r (meet_by o a k)
    go false a e f = binds s e
    go true true e f = postpones s (tail_only x t f)
    go true false e f = dead_buried s (buried x t e f)

stepped_unknowns : (x y : ℕ) → Stepped (unknown x) (unknown y) (cond (eqb x y) Drop (meet x (unknown y) Different))
stepped_unknowns x y = go (eqb x y) refl
  where
    go : (c : Bool) → eqb x y ≡ c → Stepped (unknown x) (unknown y) (cond c Drop (meet x (unknown y) Different))
    go true e = rw (eqb-true x y e) drops_unknown
    go false e = stepped_meet Different as_written

stepped_functors : (k j : ℕ) (ts us : Terms) → Stepped (functor k ts) (functor j us) (cond (eqb k j) Decompose Dead)
stepped_functors k j ts us = go (eqb k j) refl
  where
    go : (c : Bool) → eqb k j ≡ c → Stepped (functor k ts) (functor j us) (cond c Decompose Dead)
    go true e = rw (eqb-true k j e) decomposes
    go false e = dead_functors (eqb-false k j e)

pub stepped : (t u : Term) → Stepped t u (classify t u)
unfolding classify is_unknown kernel
stepped (unknown x) (unknown y) = stepped_unknowns x y
stepped (unknown x) empty = stepped_meet _ as_written
stepped (unknown x) (with m r) = stepped_meet _ as_written
stepped (unknown x) (functor k ts) = stepped_meet _ as_written
stepped empty (unknown y) = stepped_meet _ (turned_round refl)
stepped (with m r) (unknown y) = stepped_meet _ (turned_round refl)
stepped (functor k ts) (unknown y) = stepped_meet _ (turned_round refl)
stepped empty empty = drops_empty
stepped (functor k ts) (functor j us) = stepped_functors k j ts us
stepped (with m r) (with n s) = splits (tailed (with m r) (with n s))
stepped empty (functor j us) = dead_clash empty_functor
stepped empty (with n s) = dead_clash empty_set
stepped (functor k ts) empty = dead_clash functor_empty
stepped (functor k ts) (with n s) = dead_clash functor_set
stepped (with m r) empty = dead_clash set_empty
stepped (with m r) (functor j us) = dead_clash set_functor
