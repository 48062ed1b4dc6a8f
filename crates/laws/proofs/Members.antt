-- Members over a kernel: `over ms k` is {ms|k}. First what stripping gives back, as equations between terms; then what the laws do with
-- members: an equal one is absorbed, lists of them change places, and lists of equal members over equal kernels are equal.
use Rattle.std.specs.Prelude.{◌≡◌, refl, List, [], ◌∷◌, ◌++◌}
use Rattle.std.proofs.Common.{ap}
use Rattle.terms.specs.Lists.{none as All-none, both, here, there, All-map, Any-map}
use Rattle.terms.specs.Term.{Term, unknown, empty, with, functor, members, kernel, over}
use Rattle.laws.specs.Laws.{◌≈◌, absorb, exchange, ≈with, ≈refl, ≈sym, ≈trans, In, Within}

pub members-over : (ms : List Term) (k : Term) → members (over ms k) ≡ ms ++ members k
unfolding over members
members-over [] k = refl
members-over (m ∷ ms) k = ap (λ l. m ∷ l) (members-over ms k)

pub kernel-over : (ms : List Term) (k : Term) → kernel (over ms k) ≡ kernel k
unfolding over kernel
kernel-over [] k = refl
kernel-over (m ∷ ms) k = kernel-over ms k

pub over-append : (ms ns : List Term) (k : Term) → over (ms ++ ns) k ≡ over ms (over ns k)
unfolding over
over-append [] ns k = refl
over-append (m ∷ ms) ns k = ap (λ r. with m r) (over-append ms ns k)

-- a term is its members over its kernel
pub rebuild : (t : Term) → over (members t) (kernel t) ≡ t
unfolding over members kernel
rebuild (unknown i) = refl
rebuild empty = refl
rebuild (with m r) = ap (λ s. with m s) (rebuild r)
rebuild (functor k ts) = refl

-- a kernel has no members, and is its own kernel
pub members-kernel : (t : Term) → members (kernel t) ≡ []
unfolding members kernel
members-kernel (unknown i) = refl
members-kernel empty = refl
members-kernel (with m r) = members-kernel r
members-kernel (functor k ts) = refl

pub kernel-kernel : (t : Term) → kernel (kernel t) ≡ kernel t
unfolding kernel
kernel-kernel (unknown i) = refl
kernel-kernel empty = refl
kernel-kernel (with m r) = kernel-kernel r
kernel-kernel (functor k ts) = refl

pub over-≈ : (ms : List Term) {k l : Term} → k ≈ l → over ms k ≈ over ms l
unfolding over
over-≈ [] h = h
over-≈ (m ∷ ms) h = ≈with ≈refl (over-≈ ms h)

-- a member goes past others
past : (x : Term) (ms : List Term) (k : Term) → with x (over ms k) ≈ over ms (with x k)
unfolding over
past x [] k = ≈refl
past x (m ∷ ms) k = ≈trans exchange (≈with ≈refl (past x ms k))

commute : (ms ns : List Term) (k : Term) → over ms (over ns k) ≈ over ns (over ms k)
unfolding over
commute [] ns k = ≈refl
commute (m ∷ ms) ns k = ≈trans (≈with ≈refl (commute ms ns k)) (past m ns (over ms k))

-- a member that equals one that is there is absorbed
absorb_one : {x : Term} {ms : List Term} (k : Term) → In x ms → with x (over ms k) ≈ over ms k
unfolding over
absorb_one k (here h) = ≈trans (≈with h ≈refl) absorb
absorb_one k (there h) = ≈trans exchange (≈with ≈refl (absorb_one k h))

absorb_each : (ns : List Term) {ms : List Term} (k : Term) → Within ms ns → over ms (over ns k) ≈ over ns k
unfolding over
absorb_each ns k All-none = ≈refl
absorb_each ns k (both h hs) = ≈trans (≈with ≈refl (absorb_each ns k hs)) (absorb_one k h)

-- lists of members, each within the other, over equal kernels
pub same_members : {ms ns : List Term} {k l : Term} → Within ms ns → Within ns ms → k ≈ l → over ms k ≈ over ns l
same_members {ms} {ns} {k} {l} f g h = ≈trans (≈sym (absorb_each ms k g)) (≈trans (commute ns ms k) (≈trans (absorb_each ns k f) (over-≈ ns h)))

-- members that a term has already change nothing
pub absorbed : {ms : List Term} (t : Term) → Within ms (members t) → over ms t ≈ t
absorbed {ms} t h = rw (rebuild t) at (absorb_each (members t) (kernel t) h)

-- being among members, up to the laws
pub within_self : (ms : List Term) → Within ms ms
within_self [] = All-none
within_self (m ∷ ms) = both (here ≈refl) (All-map (λ x h. there h) (within_self ms))

pub in_equal : {x y : Term} {ms : List Term} → x ≈ y → In y ms → In x ms
in_equal e h = Any-map (λ z q. ≈trans e q) h

pub in_within : {x : Term} {ms ns : List Term} → In x ms → Within ms ns → In x ns
in_within (here e) (both h hs) = in_equal e h
in_within (there h) (both k ks) = in_within h ks
