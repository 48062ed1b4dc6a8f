-- A weight of equations that falls when an equation is replaced by as many as its size, each smaller than it. And the sizes of a term's parts.
use Rattle.std.specs.Prelude.{ℕ, ◌+◌, ◌*◌, ◌-◌, suc, zero, ◌<◌, ◌≤◌, ◌≡◌, List, [], ◌∷◌, ◌++◌, length}
use Rattle.std.proofs.Common.{arith, mul-le-mul_right, zero-add, suc-add, sub-add_cancel}
use Rattle.terms.specs.Lists.{All, none as All-none, both, All-map}
use Rattle.terms.specs.Term.{Term, Terms, unknown, empty, with, functor, none, more, size, size*, members, kernel, list}
use Rattle.terms.specs.Laws.Flat.{size_positive}
use Rattle.terms.specs.Formed.{Equation}

-- grows faster than a split multiplies
unfoldable pub weight : ℕ → ℕ
weight zero = 1
weight (suc n) = suc (suc n * weight n)

abbrev pub equation_size : Equation → ℕ
equation_size e = size e.left + size e.right

unfoldable pub weights : List Equation → ℕ
weights [] = 0
weights (e ∷ es) = weight (equation_size e) + weights es

weight_up : (k n : ℕ) → weight n ≤ weight (k + n)
unfolding weight
weight_up zero n = rw zero-add (omega arith)
weight_up (suc k) n = rw suc-add (omega (arith, weight_up k n))

weight_no_less : {n m : ℕ} → n ≤ m → weight n ≤ weight m
weight_no_less {n} {m} h = rw (sub-add_cancel h) at (weight_up (m - n) n)

pub weight-some : (n : ℕ) → 0 < weight n
unfolding weight
weight-some zero = omega arith
weight-some (suc n) = omega arith

weights-append : (es fs : List Equation) → weights (es ++ fs) ≡ weights es + weights fs
unfolding weights
weights-append [] fs = omega arith
weights-append (e ∷ es) fs = omega (arith, weights-append es fs)

weights-most : (n : ℕ) {es : List Equation} → All (λ e. equation_size e ≤ n) es → weights es ≤ length es * weight n
unfolding weights
weights-most n All-none = omega arith
weights-most n (both {xs = es} h hs) = omega (arith, weight_no_less h, weights-most n hs)

-- new equations in front of older ones weigh less than the one that they replace
pub weights-replaced : (n : ℕ) {es : List Equation} (fs : List Equation) → length es ≤ suc n → All (λ e. equation_size e ≤ n) es → weights (es ++ fs) < weight (suc n) + weights fs
unfolding weight
weights-replaced n {es} fs h k = omega (arith, weights-append es fs, weights-most n k, mul-le-mul_right (weight n) h)

-- ---- sizes

pub members_fit : (t : Term) → All (λ m. size m < size t) (members t)
unfolding size members
members_fit (unknown i) = All-none
members_fit empty = All-none
members_fit (with m r) = both {x = m} (omega arith) (All-map (λ x h. omega arith) (members_fit r))
members_fit (functor k ts) = All-none

pub kernel-fits : (t : Term) → size (kernel t) + length (members t) ≤ size t
unfolding size members kernel
kernel-fits (unknown i) = omega arith
kernel-fits empty = omega arith
kernel-fits (with m r) = omega (arith, kernel-fits r)
kernel-fits (functor k ts) = omega arith

pub list-fits : (ts : Terms) → All (λ t. size t ≤ size* ts) (list ts)
unfolding size list
list-fits none = All-none
list-fits (more t ts) = both {x = t} (omega arith) (All-map (λ x h. omega arith) (list-fits ts))

pub list_length : (ts : Terms) → length (list ts) ≤ size* ts
unfolding size list
list_length none = omega arith
list_length (more t ts) = omega (arith, list_length ts, size_positive t)
