-- Two sets that have members, {ts|s} and {us|r}, and the five kinds of tails that a split meets. Sound: picks and bindings that hold make
-- the sets equal. Complete: where the sets are equal, let each t that is in r and each u that is in s pick the tail; every other member
-- equals one of the other side, and the bindings hold, with N as what s and r share over their kernel. All terms here are values.
use Rattle.std.specs.Prelude.{ℕ, ◌≡◌, refl, List, [], ◌∷◌, ◌++◌, Bool, true, false, cond, ◌⊎◌}
use Rattle.std.proofs.Common.{subst₂, inl, inr}
use Rattle.terms.specs.Lists.{All, none as All-none, both, here, there, any, All-map, All-both, All-append, All-front, All-back, Any-map, Any-left, Any-right, Any_cases}
use Rattle.terms.specs.Term.{Term, members, kernel, over}
use Rattle.terms.specs.Formed.{Formed}
use Rattle.laws.specs.Laws.{◌≈◌, ≈refl, ≈sym, ≈trans, In, Within}
use Rattle.laws.specs.Equal.{is_in}
use Rattle.laws.proofs.Agree.{apart, is_in_agree}
use Rattle.laws.proofs.Apart.{kernel-≈}
use Rattle.laws.proofs.Members.{members-over, kernel-over, over-append, rebuild, over-≈, same_members, absorbed, within_self, in_equal}
use Rattle.terms.specs.Laws.FormedParts.{formed_members, formed_kernel, formed_over}

-- those of ts that are members of r
unfoldable pub those_in : Term → List Term → List Term
those_in r [] = []
those_in r (t ∷ ts) = cond (is_in t (members r)) (t ∷ those_in r ts) (those_in r ts)

pub those_are_in : (r : Term) (ts : List Term) → Within (those_in r ts) (members r)
unfolding those_in
those_are_in r [] = All-none
those_are_in r (t ∷ ts) = go (is_in t (members r)) refl (those_are_in r ts)
  where
    go : (b : Bool) → is_in t (members r) ≡ b → Within (those_in r ts) (members r) → Within (cond b (t ∷ those_in r ts) (those_in r ts)) (members r)
    go true e h = both ((is_in_agree t (members r)).1 e) h
    go false e h = h

those_all : {P : Term → Type 0} (r : Term) {ts : List Term} → All P ts → All P (those_in r ts)
unfolding those_in
those_all r All-none = All-none
those_all {P} r (both {x = t} {xs = ts} h hs) = go (is_in t (members r)) (those_all r hs)
  where
    go : (b : Bool) → All P (those_in r ts) → All P (cond b (t ∷ those_in r ts) (those_in r ts))
    go true k = both h k
    go false k = k

in_those : {x : Term} (r : Term) {ts : List Term} → In x ts → In x (members r) → In x (those_in r ts)
unfolding those_in
in_those {x} r (here {x = t} {xs = ts} h) k = rw ((is_in_agree t (members r)).0 (in_equal (≈sym h) k)) (here h)
in_those {x} r (there {x = t} {xs = ts} h) k = go (is_in t (members r)) (in_those r h k)
  where
    go : (b : Bool) → In x (those_in r ts) → In x (cond b (t ∷ those_in r ts) (those_in r ts))
    go true q = there q
    go false q = q

-- members that change nothing are members already; `absorbed` is the other way
pub contained : {ms : List Term} {x : Term} → x ≈ over ms x → Within ms (members x)
contained {ms} {x} h = All-front ms (members x) (All-map (λ y l. Any-map (λ z e. ≈sym e) l) (rw (members-over ms x) at (apart h).back))

-- equal sets: what each member of ts, of us, of s and of r equals
pub record Met (ts us : List Term) (s r : Term) : Type 0 where
  pub kernels : kernel s ≈ kernel r
  pub each_t : All (λ t. In t us ⊎ In t (members r)) ts
  pub each_u : All (λ u. In u ts ⊎ In u (members s)) us
  pub of_s : All (λ x. In x us ⊎ In x (members r)) (members s)
  pub of_r : All (λ x. In x ts ⊎ In x (members s)) (members r)

pub met : {ts us : List Term} {s r : Term} → over ts s ≈ over us r → Met ts us s r
met {ts} {us} {s} {r} h =
    let k : kernel s ≈ kernel r = simp (kernel-over) at (kernel-≈ h) in
    let f : All (λ x. In x us ⊎ In x (members r)) (ts ++ members s) = half ts s us r h in
    let g : All (λ x. In x ts ⊎ In x (members s)) (us ++ members r) = half us r ts s (≈sym h) in
    record { kernels = k; each_t = All-front ts (members s) f; each_u = All-front us (members r) g; of_s = All-back ts (members s) f; of_r = All-back us (members r) g }
  where
    half : (ts : List Term) (s : Term) (us : List Term) (r : Term) → over ts s ≈ over us r → All (λ x. In x us ⊎ In x (members r)) (ts ++ members s)
    half ts s us r h = All-map (λ x l. Any_cases us (members r) l) (simp (members-over) at (apart h).there)

-- what s and r share, over their kernel
unfoldable pub shared : Term → Term → Term
shared s r = over (those_in r (members s)) (kernel s)

pub formed_shared : {arities : List ℕ} {n : ℕ} {s : Term} (r : Term) → Formed arities n s → Formed arities n (shared s r)
unfolding shared
formed_shared r f = formed_over (those_all r (formed_members f)) (formed_kernel f)

-- a term is any lists of its members that leave none out, over its kernel
in_two_parts : (x : Term) {ms ns : List Term} {k : Term} → kernel x ≈ k → Within (members x) (ms ++ ns) → Within ms (members x) → Within ns (members x) → x ≈ over ms (over ns k)
in_two_parts x {ms} {ns} {k} e h f g = subst₂ (λ a b. a ≈ b) (rebuild x) (over-append ms ns k) (same_members h (All-append f g) e)

-- Complete. T are the t's that are in r and U the u's that are in s; `each_t` and `each_u` of `Met` say what the others equal.
module _ {ts us : List Term} {s r : Term} where
  -- different unknowns: s is {U|N} and r is {T|N}
  pub complete_different_left : Met ts us s r → s ≈ over (those_in s us) (shared s r)
  unfolding shared
  complete_different_left m =
      in_two_parts s ≈refl (All-map (λ x h. go x h.0 h.1) (All-both (within_self (members s)) m.of_s)) (those_are_in s us) (those_all r (within_self (members s)))
    where
      go : (x : Term) → In x (members s) → In x us ⊎ In x (members r) → In x (those_in s us ++ those_in r (members s))
      go x h (inl k) = Any-left (those_in r (members s)) (in_those s k h)
      go x h (inr k) = Any-right (those_in s us) (in_those r h k)

  pub complete_different_right : Met ts us s r → r ≈ over (those_in r ts) (shared s r)
  unfolding shared
  complete_different_right m =
      in_two_parts r (≈sym m.kernels) (All-map (λ x h. go x h.0 h.1) (All-both (within_self (members r)) m.of_r)) (those_are_in r ts) (those_are_in r (members s))
    where
      go : (x : Term) → In x (members r) → In x ts ⊎ In x (members s) → In x (those_in r ts ++ those_in r (members s))
      go x h (inl k) = Any-left (those_in r (members s)) (in_those r k h)
      go x h (inr k) = Any-right (those_in r ts) (in_those r k h)

-- a tail without members is picked by none
those_in_bare : (r : Term) (ts : List Term) → members r ≡ [] → those_in r ts ≡ []
unfolding those_in is_in any
those_in_bare r [] e = refl
those_in_bare r (t ∷ ts) e = rw e (those_in_bare r ts e)

module _ {ts us : List Term} {s r : Term} where
  -- only one tail is an unknown: the other has no members
  pub complete_left : Met ts us s r → members r ≡ [] → s ≈ over (those_in s us) r
  unfolding over
  complete_left m e = ≈trans (complete_different_left m) (over-≈ (those_in s us) (≈sym (rw (those_in_bare r ts e) at (complete_different_right m))))

  pub complete_right : Met ts us s r → members s ≡ [] → r ≈ over (those_in r ts) s
  unfolding over
  complete_right m e = ≈trans (complete_different_right m) (over-≈ (those_in r ts) (≈sym (rw (those_in_bare s us e) at (complete_different_left m))))

  pub complete_neither : Met ts us s r → members s ≡ [] → members r ≡ [] → s ≈ r
  unfolding over
  complete_neither m e f = rw (those_in_bare s us e) at (complete_left m f)

-- the same unknown: its value has T and U already
pub complete_same : (ts us : List Term) (x : Term) → x ≈ over (those_in x ts ++ those_in x us) x
complete_same ts us x = ≈sym (absorbed x (All-append (those_are_in x ts) (those_are_in x us)))

-- Sound. T among the ts and U among the us picked the tail, and every other equals one of the other side. The law for different unknowns
-- is the law for all: with T or U empty, and r, s or the same unknown in N's place. For neither tail unknown it is `same_members`.
pub sound_different : {ts us T U : List Term} {s r : Term} (n : Term) → Within T ts → Within U us → All (λ t. In t us ⊎ In t T) ts → All (λ u. In u ts ⊎ In u U) us
    → s ≈ over U n → r ≈ over T n → over ts s ≈ over us r
sound_different {ts} {us} {T} {U} {s} {r} n f g ht hu hs hr =
    ≈trans (over-≈ ts hs) (≈trans (subst₂ (λ a b. a ≈ b) (over-append ts U n) (over-append us T n) (same_members (both_in ht g) (both_in hu f) ≈refl)) (≈sym (over-≈ us hr)))
  where
    in_either : (ms ns : List Term) (a : Term) → In a ms ⊎ In a ns → In a (ms ++ ns)
    in_either ms ns a (inl l) = Any-left ns l
    in_either ms ns a (inr l) = Any-right ms l

    both_in : {xs ms ns ys : List Term} → All (λ a. In a ms ⊎ In a ns) xs → Within ys ms → Within (xs ++ ys) (ms ++ ns)
    both_in {ms = ms} {ns = ns} h k = All-append (All-map (in_either ms ns) h) (All-map (λ d l. Any-left ns l) k)

pub sound_same : {ts us T U : List Term} (x : Term) → Within T ts → Within U us → All (λ t. In t us ⊎ In t T) ts → All (λ u. In u ts ⊎ In u U) us
    → x ≈ over (T ++ U) x → over ts x ≈ over us x
sound_same {T = T} {U = U} x f g ht hu h =
    let k : Within (T ++ U) (members x) = contained h in
    sound_different x f g ht hu (≈sym (absorbed x (All-back T U k))) (≈sym (absorbed x (All-front T U k)))
