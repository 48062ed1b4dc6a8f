-- What each step tells of its equation, for every proof about children: `stepped` says it of `classify t u`, and `tailed` of the tails.
-- Last stand the laws that give `take` the unknown and the term by name, whichever side they stand on.
use Rattle.std.specs.Prelude.{ℕ, ◌≡◌, refl, List, [], ◌∷◌, Bool, true, false, ◌&&◌, not, eqb}
use Rattle.std.proofs.Common.{ap, ◌∙◌, eqb-true}
use Rattle.std.proofs.lemmas.Bool.{eqb-false, not-true}
use Rattle.terms.specs.Lists.{All, Any, none, both, any, or_neither, and_left, and_right, cases}
use Rattle.terms.specs.Term.{Term, Terms, unknown, empty, with, functor, occurs, members, kernel}
use Rattle.terms.specs.Shape.{is_unknown, number, unknown_number}
use Rattle.search.specs.declared.steps.Tails.{Tails}
use Rattle.search.specs.declared.steps.Tails.TheVariants.{Neither, Left, Right, Different, Same}
use Rattle.search.specs.declared.steps.Step.{Step}
use Rattle.search.specs.declared.steps.Step.TheVariants.{Drop, Bind, Postpone, Decompose, Split, Dead}
use Rattle.search.specs.State.{State, Node, dead, live, piled}
use Rattle.search.specs.Classify.{tails_by, tails, only_tail}
use Rattle.search.specs.Children.{subject, object, bound_state, bound, take}

-- ---- the tails s and r of two sides

pub data Tailed : Term → Term → Tails → Type 0 where
  neither : {s r : Term} → is_unknown s ≡ false → is_unknown r ≡ false → Tailed s r Neither
  left : {x : ℕ} {r : Term} → is_unknown r ≡ false → Tailed (unknown x) r Left
  right : {s : Term} {y : ℕ} → is_unknown s ≡ false → Tailed s (unknown y) Right
  different : {x y : ℕ} → (x ≡ y → ⊥) → Tailed (unknown x) (unknown y) Different
  same : {x : ℕ} → Tailed (unknown x) (unknown x) Same

tailed_unknowns : (x y : ℕ) → Tailed (unknown x) (unknown y) (tails_by true true (eqb x y))
unfolding tails_by
tailed_unknowns x y = go (eqb x y) refl
  where
    go : (c : Bool) → eqb x y ≡ c → Tailed (unknown x) (unknown y) (tails_by true true c)
    go true e = rw (eqb-true x y e) same
    go false e = different (eqb-false x y e)

tailed_kernels : (s r : Term) → Tailed s r (tails_by (is_unknown s) (is_unknown r) (eqb (number s) (number r)))
unfolding is_unknown number tails_by
tailed_kernels (unknown x) (unknown y) = tailed_unknowns x y
tailed_kernels (unknown x) empty = left refl
tailed_kernels (unknown x) (with m r) = left refl
tailed_kernels (unknown x) (functor k ts) = left refl
tailed_kernels empty (unknown y) = right refl
tailed_kernels empty empty = neither refl refl
tailed_kernels empty (with m r) = neither refl refl
tailed_kernels empty (functor k ts) = neither refl refl
tailed_kernels (with m r) (unknown y) = right refl
tailed_kernels (with m r) empty = neither refl refl
tailed_kernels (with m r) (with n s) = neither refl refl
tailed_kernels (with m r) (functor k ts) = neither refl refl
tailed_kernels (functor k ts) (unknown y) = right refl
tailed_kernels (functor k ts) empty = neither refl refl
tailed_kernels (functor k ts) (with m r) = neither refl refl
tailed_kernels (functor k ts) (functor j us) = neither refl refl

pub tailed : (t u : Term) → Tailed (kernel t) (kernel u) (tails t u)
unfolding tails
tailed t u = tailed_kernels (kernel t) (kernel u)

-- ---- where an unknown occurs

-- x is t's tail and occurs in none of its members
pub record TailOnly (x : ℕ) (t : Term) : Type 0 where
  pub tail : kernel t ≡ unknown x
  pub absent : All (λ m. occurs x m ≡ false) (members t)

-- x occurs in a member of t, or in the arguments of its kernel
pub data Buried (x : ℕ) (t : Term) : Type 0 where
  in_member : Any (λ m. occurs x m ≡ true) (members t) → Buried x t
  in_kernel : is_unknown (kernel t) ≡ false → occurs x (kernel t) ≡ true → Buried x t

absent_each : (x : ℕ) (ts : List Term) → any (occurs x) ts ≡ false → All (λ m. occurs x m ≡ false) ts
unfolding any
absent_each x [] e = none
absent_each x (t ∷ ts) e = let p = or_neither (occurs x t) (any (occurs x) ts) e in both p.0 (absent_each x ts p.1)

-- x occurs in t: in a member or in the kernel
pub occurs_where : (x : ℕ) (t : Term) → occurs x t ≡ true → any (occurs x) (members t) ≡ false → occurs x (kernel t) ≡ true
unfolding occurs members kernel any
occurs_where x (unknown i) e f = e
occurs_where x empty e f = e
occurs_where x (with m r) e f = let p = or_neither (occurs x m) (any (occurs x) (members r)) f in occurs_where x r (rw p.0 at e) p.1
occurs_where x (functor k ts) e f = e

pub tail_only : (x : ℕ) (t : Term) → only_tail x t ≡ true → TailOnly x t
unfolding only_tail
tail_only x t e =
    let front : Bool = is_unknown (kernel t) && eqb (number (kernel t)) x in
    let p : front ≡ true = and_left front (not (any (occurs x) (members t))) e in
    record {
      tail = unknown_number (kernel t) (and_left (is_unknown (kernel t)) (eqb (number (kernel t)) x) p) ∙ ap unknown (eqb-true _ _ (and_right (is_unknown (kernel t)) (eqb (number (kernel t)) x) p));
      absent = absent_each x (members t) (not-true (any (occurs x) (members t)) (and_right front (not (any (occurs x) (members t))) e));
    }

-- ---- the step

-- the equation is x = t, as written or turned round
pub data Sided (x : ℕ) (t : Term) : Term → Term → Type 0 where
  as_written : Sided x t (unknown x) t
  turned_round : is_unknown t ≡ false → Sided x t t (unknown x)

-- a functor with an empty set, or either with a set that has a member
pub data Clash : Term → Term → Type 0 where
  empty_functor : {k : ℕ} {ts : Terms} → Clash empty (functor k ts)
  functor_empty : {k : ℕ} {ts : Terms} → Clash (functor k ts) empty
  empty_set : {m r : Term} → Clash empty (with m r)
  set_empty : {m r : Term} → Clash (with m r) empty
  functor_set : {k : ℕ} {ts : Terms} {m r : Term} → Clash (functor k ts) (with m r)
  set_functor : {m r : Term} {k : ℕ} {ts : Terms} → Clash (with m r) (functor k ts)

pub data Stepped : Term → Term → Step → Type 0 where
  drops_unknown : {x : ℕ} → Stepped (unknown x) (unknown x) Drop
  drops_empty : Stepped empty empty Drop
  binds : {x : ℕ} {t l r : Term} {k : Tails} → Sided x t l r → occurs x t ≡ false → Stepped l r (Bind k)
  postpones : {x : ℕ} {t l r : Term} {k : Tails} → Sided x t l r → TailOnly x t → Stepped l r (Postpone k)
  decomposes : {k : ℕ} {ts us : Terms} → Stepped (functor k ts) (functor k us) Decompose
  splits : {m r n s : Term} {k : Tails} → Tailed (kernel r) (kernel s) k → Stepped (with m r) (with n s) (Split k)
  dead_buried : {x : ℕ} {t l r : Term} → Sided x t l r → Buried x t → Stepped l r Dead
  dead_functors : {k j : ℕ} {ts us : Terms} → (k ≡ j → ⊥) → Stepped (functor k ts) (functor j us) Dead
  dead_clash : {l r : Term} → Clash l r → Stepped l r Dead

-- ---- the unknown and the term of an equation x = t

pub sided_subject : {x : ℕ} {t l r : Term} → Sided x t l r → subject l r ≡ x
unfolding subject is_unknown number
sided_subject as_written = refl
sided_subject (turned_round e) = rw e

pub sided_object : {x : ℕ} {t l r : Term} → Sided x t l r → object l r ≡ t
unfolding object is_unknown
sided_object as_written = refl
sided_object (turned_round e) = rw e

-- what both sides have, they have
pub sided_name : (P : Term → Type 0) {x : ℕ} {t l r : Term} → Sided x t l r → P l → P r → P (unknown x)
sided_name P as_written pl pr = pl
sided_name P (turned_round e) pl pr = pr

pub sided_term : (P : Term → Type 0) {x : ℕ} {t l r : Term} → Sided x t l r → P l → P r → P t
sided_term P as_written pl pr = pr
sided_term P (turned_round e) pl pr = pl

pub take_bind : {x : ℕ} {t l r : Term} (k : Tails) (st : State) → Sided x t l r → take (Bind k) l r st ≡ bound x t st ∷ []
unfolding take
take_bind k st s = rw (sided_subject s, sided_object s)

pub take_postpone : {x : ℕ} {t l r : Term} (k : Tails) (st : State) → Sided x t l r → take (Postpone k) l r st ≡ live (piled x t st) ∷ []
unfolding take
take_postpone k st s = rw (sided_subject s, sided_object s)

-- ---- a binding's two outcomes

pub data BoundTo (x : ℕ) (t : Term) (st : State) : Node → Type 0 where
  bound_inside : occurs x t ≡ true → BoundTo x t st dead
  bound_once : occurs x t ≡ false → BoundTo x t st (live (bound_state x t st))

pub bound_to : (x : ℕ) (t : Term) (st : State) → BoundTo x t st (bound x t st)
unfolding bound
bound_to x t st = cases (occurs x t) (λ e. rw e (bound_inside e)) (λ e. rw e (bound_once e))
