-- The least equality and the test agree, on all terms: `agree`. Either way, terms are equal exactly if they are alike: kernels
-- equal, each member of either equal to some member of the other (`apart`, `together`).
use Rattle.std.specs.Prelude.{◌≡◌, refl, List, [], ◌∷◌, Bool, true, false, ◌&&◌, ◌↔◌, eqb}
use Rattle.std.proofs.Common.{ap, sym, ◌∙◌, subst, subst₂, eqb-true, eq-eqb}
use Rattle.std.proofs.Math.Path.{fun_ext}
use Rattle.std.proofs.lemmas.Bool.{false≢true}
use Rattle.terms.specs.Lists.{All, none as All-none, both, here, there, all, any, all→, →all, any→, →any, and_left, and_right, and_both, All-map, Any-map}
use Rattle.terms.specs.Term.{Term, Terms, unknown, empty, with, functor, none, more, members, kernel, list}
use Rattle.terms.specs.Shape.{arguments}
use Rattle.laws.specs.Laws.{◌≈◌, ◌≈*◌, absorb, exchange, ≈with, ≈functor, ≈refl, ≈sym, ≈trans, ≈none, ≈more, In}
use Rattle.laws.specs.Equal.{is_this_unknown, is_empty, is_this_functor, equal, equal*, equal_is, equal*-more, tests, kernels_equal, is_in, each_in}
use Rattle.laws.specs.Alike.{Pairs, no_pair, pair, Kernels, same_unknown, both_empty, same_functor, Alike, by_parts, alike_refl, alike_trans, alike_map, alike_turn}
use Rattle.laws.proofs.Members.{rebuild, same_members}

abbrev Eq : Term → Term → Type 0
Eq t u = equal t u ≡ true

-- the test passes exactly what is alike by the test
arguments→ : (ts us : Terms) → equal* ts us ≡ true → Pairs Eq (list ts) (list us)
unfolding tests list
arguments→ none none e = no_pair
arguments→ none (more u us) e = absurd (false≢true e)
arguments→ (more t ts) none e = absurd (false≢true e)
arguments→ (more t ts) (more u us) e =
    let h : (equal t u && equal* ts us) ≡ true = rw (equal*-more t u ts us) at e in
    pair (and_left (equal t u) (equal* ts us) h) (arguments→ ts us (and_right (equal t u) (equal* ts us) h))

→arguments : (ts us : Terms) → Pairs Eq (list ts) (list us) → equal* ts us ≡ true
unfolding tests list
→arguments none none p = refl
→arguments none (more u us) p = elim p [ ]
→arguments (more t ts) none p = elim p [ ]
→arguments (more t ts) (more u us) (pair h k) = rw (equal*-more t u ts us) (and_both h (→arguments ts us k))

kernels→ : (k l : Term) → kernels_equal k l ≡ true → Kernels Eq k l
unfolding kernels_equal is_this_unknown is_empty is_this_functor
kernels→ (unknown i) (unknown j) e = subst (λ n. Kernels Eq (unknown i) (unknown n)) (eqb-true i j e) same_unknown
kernels→ (unknown i) empty e = absurd (false≢true e)
kernels→ (unknown i) (with m r) e = absurd (false≢true e)
kernels→ (unknown i) (functor f us) e = absurd (false≢true e)
kernels→ empty (unknown j) e = absurd (false≢true e)
kernels→ empty empty e = both_empty
kernels→ empty (with m r) e = absurd (false≢true e)
kernels→ empty (functor f us) e = absurd (false≢true e)
kernels→ (with m r) l e = absurd (false≢true e)
kernels→ (functor f ts) (unknown j) e = absurd (false≢true e)
kernels→ (functor f ts) empty e = absurd (false≢true e)
kernels→ (functor f ts) (with m r) e = absurd (false≢true e)
kernels→ (functor f ts) (functor g us) e =
    subst (λ n. Kernels Eq (functor f ts) (functor n us)) (eqb-true f g (and_left (eqb f g) (equal* ts us) e)) (same_functor (arguments→ ts us (and_right (eqb f g) (equal* ts us) e)))

→kernels : {k l : Term} → Kernels Eq k l → kernels_equal k l ≡ true
unfolding kernels_equal is_this_unknown is_empty is_this_functor
→kernels (same_unknown {i = i}) = eq-eqb i i refl
→kernels both_empty = refl
→kernels (same_functor {k = k} {ts = ts} {us = us} p) = and_both (eq-eqb k k refl) (→arguments ts us p)

equal→alike : {t u : Term} → Eq t u → Alike Eq t u
unfolding each_in is_in
equal→alike {t} {u} e =
    let a : Bool = kernels_equal (kernel t) (kernel u) in
    let b : Bool = each_in (members t) (members u) in
    let c : Bool = all (λ y. any (λ x. equal x y) (members t)) (members u) in
    let h : (a && b && c) ≡ true = rw (equal_is t u) at e in
    let ab : (a && b) ≡ true = and_left (a && b) c h in
    record {
      kernels = kernels→ _ _ (and_left a b ab);
      there = All-map (λ x l. any→ _ _ l) (all→ _ _ (and_right a b ab));
      back = All-map (λ y l. any→ _ _ l) (all→ _ _ (and_right (a && b) c h));
    }

alike→equal : {t u : Term} → Alike Eq t u → Eq t u
unfolding each_in is_in
alike→equal {t} {u} a =
    rw (equal_is t u) (and_both (and_both (→kernels a.kernels) (→all (All-map (λ x l. →any l) a.there))) (→all (All-map (λ y l. →any l) a.back)))

-- so the test is an equality
equal-refl : (t : Term) → Eq t t
equal-refl = by_parts (λ t. Eq t t) (λ t ms gs. alike→equal (alike_refl t ms gs))

equal-sym : (t u : Term) → Eq t u → Eq u t
equal-sym = by_parts (λ t. (u : Term) → Eq t u → Eq u t) (λ t ms gs u e. alike→equal (alike_turn (alike_map {S = λ x y. Eq y x} ms gs (equal→alike e))))

equal_trans : (t u v : Term) → Eq t u → Eq u v → Eq t v
equal_trans = by_parts (λ t. (u v : Term) → Eq t u → Eq u v → Eq t v) (λ t ms gs u v e f. alike→equal (alike_trans ms gs (equal→alike e) (equal→alike f)))

-- that keeps the laws
equal_absorb : (x z : Term) → Eq (with x (with x z)) (with x z)
unfolding members kernel
equal_absorb x z =
    let a : Alike Eq z z = equal→alike (equal-refl z) in
    let e = equal-refl x in
    alike→equal
    (record {
      kernels = a.kernels;
      there = both (here e) (both (here e) (All-map (λ y l. there l) a.there));
      back = both (here e) (All-map (λ y l. there (there l)) a.back);
    })

equal_exchange : (x y z : Term) → Eq (with x (with y z)) (with y (with x z))
unfolding members kernel
equal_exchange x y z =
    let a : Alike Eq z z = equal→alike (equal-refl z) in
    alike→equal
    (record {
      kernels = a.kernels;
      there = both (there (here (equal-refl x))) (both (here (equal-refl y)) (All-map (λ w l. there (there l)) a.there));
      back = both (there (here (equal-refl y))) (both (here (equal-refl x)) (All-map (λ w l. there (there l)) a.back));
    })

-- inside every term
equal_with : (m n r s : Term) → Eq m n → Eq r s → Eq (with m r) (with n s)
unfolding members kernel
equal_with m n r s e f =
    let a : Alike Eq r s = equal→alike f in
    alike→equal (record { kernels = a.kernels; there = both (here e) (All-map (λ x l. there l) a.there); back = both (here e) (All-map (λ x l. there l) a.back) })

mutual
  unfolding members kernel list

  ≈→equal : {t u : Term} → t ≈ u → Eq t u
  ≈→equal (absorb {x = x} {z = z}) = equal_absorb x z
  ≈→equal (exchange {x = x} {y = y} {z = z}) = equal_exchange x y z
  ≈→equal (≈with {m = m} {n = n} {r = r} {s = s} h k) = equal_with m n r s (≈→equal h) (≈→equal k)
  ≈→equal (≈functor h) = alike→equal (record { kernels = same_functor (≈*→pairs h); there = All-none; back = All-none })
  ≈→equal (≈refl {t = t}) = equal-refl t
  ≈→equal (≈sym {t = t} {u = u} h) = equal-sym t u (≈→equal h)
  ≈→equal (≈trans {t = t} {u = u} {v = v} h k) = equal_trans t u v (≈→equal h) (≈→equal k)

  ≈*→pairs : {ts us : Terms} → ts ≈* us → Pairs Eq (list ts) (list us)
  ≈*→pairs ≈none = no_pair
  ≈*→pairs (≈more h k) = pair (≈→equal h) (≈*→pairs k)

-- and it passes nothing else: what is alike by the laws is equal by the laws
pub pairs→≈* : (ts us : Terms) → Pairs ◌≈◌ (list ts) (list us) → ts ≈* us
unfolding list
pairs→≈* none none p = ≈none
pairs→≈* none (more u us) p = elim p [ ]
pairs→≈* (more t ts) none p = elim p [ ]
pairs→≈* (more t ts) (more u us) (pair h k) = ≈more h (pairs→≈* ts us k)

pub kernels→≈ : {k l : Term} → Kernels ◌≈◌ k l → k ≈ l
kernels→≈ same_unknown = ≈refl
kernels→≈ both_empty = ≈refl
kernels→≈ (same_functor {ts = ts} {us = us} p) = ≈functor (pairs→≈* ts us p)

pub together : {t u : Term} → Alike ◌≈◌ t u → t ≈ u
together {t} {u} a =
    subst₂ (λ v w. v ≈ w) (rebuild t) (rebuild u) (same_members a.there (All-map (λ y l. Any-map (λ x e. ≈sym e) l) a.back) (kernels→≈ a.kernels))

equal→≈ : (t u : Term) → Eq t u → t ≈ u
equal→≈ = by_parts (λ t. (u : Term) → Eq t u → t ≈ u) (λ t ms gs u e. together (alike_map ms gs (equal→alike e)))

pub agree : (t u : Term) → (t ≈ u) ↔ (equal t u ≡ true)
agree t u = (≈→equal, equal→≈ t u)

each : {P : Term → Type 0} → ((x : Term) → P x) → (xs : List Term) → All P xs
each f [] = All-none
each f (x ∷ xs) = both (f x) (each f xs)

pub apart : {t u : Term} → t ≈ u → Alike ◌≈◌ t u
apart {t} {u} h = alike_map (each equal→≈ (members t)) (each equal→≈ (arguments (kernel t))) (equal→alike (≈→equal h))

-- the second reading (SPECIFICATION 2.2), of the least equality itself
pub equal_exactly_if_alike : (t u : Term) → (t ≈ u) ↔ Alike ◌≈◌ t u
equal_exactly_if_alike t u = (apart, together)

pub differ : {t u : Term} → equal t u ≡ false → t ≈ u → ⊥
differ e h = false≢true (sym e ∙ ≈→equal h)

pub equal_turn : (t u : Term) → equal t u ≡ equal u t
equal_turn t u = go (equal t u) refl (equal u t) refl
  where
    go : (b : Bool) → equal t u ≡ b → (c : Bool) → equal u t ≡ c → b ≡ c
    go true e true f = refl
    go true e false f = absurd (false≢true (sym f ∙ equal-sym t u e))
    go false e true f = absurd (false≢true (sym e ∙ equal-sym u t f))
    go false e false f = refl

-- the sentence of SPECIFICATION 2.2 with both parts alike
pub equal_either : (t u : Term) → equal t u ≡ (kernels_equal (kernel t) (kernel u) && each_in (members t) (members u) && each_in (members u) (members t))
unfolding each_in is_in
equal_either t u =
    equal_is t u
    ∙ ap (λ (f : Term → Term → Bool). kernels_equal (kernel t) (kernel u) && each_in (members t) (members u) && all (λ y. any (λ x. f x y) (members t)) (members u))
    (fun_ext (λ x. fun_ext (λ y. equal_turn x y)))

pub is_in_agree : (x : Term) (ys : List Term) → In x ys ↔ (is_in x ys ≡ true)
unfolding is_in
is_in_agree x ys = (λ h. →any (Any-map (λ y e. ≈→equal e) h), λ h. Any-map (λ y e. equal→≈ x y e) (any→ (λ y. equal x y) ys h))
