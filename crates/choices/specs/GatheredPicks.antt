-- What a child's picks gather, where a side's words stand in the room, its places are noted and the digits of its picks stand there: the words of the
-- members that join the other side's tail, and those of the new equations.
use Prim.Native.Nat.{ℕ, zero, suc, ◌+◌, ◌-◌, ◌<◌, ◌≤◌}
use Rattle.std.specs.Prelude.{◌≡◌, Bool, cond, ltb, length, take, drop, get_or}
use Rattle.std.proofs.Math.Path.{refl, ap, sym}
use Rattle.std.proofs.Common.{◌∙◌, add-zero, ltb-true}
use mathlib.Core.List.{List, [], ◌∷◌, ◌++◌, append_assoc}
use native.Mathlib.Omega.{arith}
use Rattle.std.proofs.Math.Seq.{take_at, drop_at}
use Rattle.room.specs.Room.{seg, seg-cons, take-seg, drop-seg}
use Rattle.terms.specs.Bounds.{Bounds, MEMBER}
use Rattle.terms.specs.Term.{Term, unknown, empty, with, functor, words, size, members}
use Rattle.terms.specs.Laws.Flat.{length_words}
use Rattle.terms.specs.Formed.{Equation, sides, row}
use Rattle.terms.specs.Lists.{cases}
use Rattle.rows.specs.Terms.Stripped.{kernel_place}
use Rattle.rows.specs.Terms.MemberWords.{member_words}
use Rattle.search_laws.specs.Picking.{equations_by, joining_by}
use Rattle.choices.specs.Gathered.{gathered, member_piece, marked_piece, joins_piece, meets_piece}
use Rattle.choices.specs.MemberPlaces.{places}
use Rattle.search.specs.StateWords.{pending_words}

-- these words stand at a place
pub data At (l : List ℕ) : ℕ → List ℕ → Type 0 where
  at_end : {at : ℕ} → At l at []
  at_word : {at w : ℕ} {ws : List ℕ} → get_or l at 0 ≡ w → At l (at + 1) ws → At l at (w ∷ ws)

first_same : {A : Type 0} {x y : A} {xs ys : List A} → x ∷ xs ≡ y ∷ ys → x ≡ y
first_same e = cc

rest_same : {A : Type 0} {x y : A} {xs ys : List A} → x ∷ xs ≡ y ∷ ys → xs ≡ ys
rest_same e = cc

pub at_of : (l ws : List ℕ) (at : ℕ) → at + length ws ≤ length l → seg l at (length ws) ≡ ws → At l at ws
at_of l [] at h e = at_end
at_of l (w ∷ ws) at h e =
    let f : get_or l at 0 ∷ seg l (at + 1) (length ws) ≡ w ∷ ws = sym (seg-cons l at (length ws) (omega arith)) ∙ e in
    at_word (first_same f) (at_of l ws (at + 1) (omega arith) (rest_same f))

-- the first of a set's places
pub at_first : {l : List ℕ} {at : ℕ} (t : Term) (p : ℕ) → At l at (places t p) → get_or l at 0 ≡ p
unfolding places
at_first (unknown i) p (at_word e a) = e
at_first empty p (at_word e a) = e
at_first (with m r) p (at_word e a) = e
at_first (functor k ts) p (at_word e a) = e

pub length-places : (t : Term) (p : ℕ) → length (places t p) ≡ suc (length (members t))
unfolding places members
length-places (unknown i) p = refl
length-places empty p = refl
length-places (with m r) p = ap suc (length-places r (p + 1 + size m))
length-places (functor k ts) p = refl

-- and the last, the kernel's
pub at_last : {l : List ℕ} (t : Term) (p at : ℕ) → At l at (places t p) → get_or l (at + length (members t)) 0 ≡ p + kernel_place t
unfolding places members kernel_place
at_last {l} (unknown i) p at (at_word e a) = ap (λ (j : ℕ). get_or l j 0) (add-zero at) ∙ e ∙ sym (add-zero p)
at_last {l} empty p at (at_word e a) = ap (λ (j : ℕ). get_or l j 0) (add-zero at) ∙ e ∙ sym (add-zero p)
at_last {l} (functor k ts) p at (at_word e a) = ap (λ (j : ℕ). get_or l j 0) (add-zero at) ∙ e ∙ sym (add-zero p)
at_last {l} (with m r) p at (at_word e a) =
    let place : at + suc (length (members r)) ≡ at + 1 + length (members r) = omega arith in
    ap (λ (j : ℕ). get_or l j 0) place ∙ at_last r (p + 1 + size m) (at + 1) a ∙ omega arith

module _ (b : Bounds) (l : List ℕ) (body : ℕ) where
  -- the words of a set with a member, in two parts
  abbrev Stand : Term → ℕ → Type 0
  Stand t p = seg l (body + p) (size t) ≡ words b t

  marked : (m r : Term) (p : ℕ) → Stand (with m r) p → seg l (body + p) (suc (size m)) ≡ MEMBER ∷ words b m
  unfolding words size
  marked m r p e =
      sym (take-seg l (body + p) (suc (size m + size r)) (suc (size m)) (omega arith)) ∙ ap (take (suc (size m))) e
      ∙ take_at (MEMBER ∷ words b m) (words b r) (suc (size m)) (ap suc (length_words b m))

  rest_stands : (m r : Term) (p : ℕ) → Stand (with m r) p → Stand r (p + 1 + size m)
  unfolding words size
  rest_stands m r p e =
      let place : body + p + suc (size m) ≡ body + (p + 1 + size m) = omega arith in
      let many : suc (size m + size r) - suc (size m) ≡ size r = omega arith in
      rw (place, many) at (sym (drop-seg l (body + p) (suc (size m + size r)) (suc (size m)) (omega arith)) ∙ ap (drop (suc (size m))) e
      ∙ drop_at (MEMBER ∷ words b m) (words b r) (suc (size m)) (ap suc (length_words b m)))

  member_stands : (m r : Term) (p : ℕ) → Stand (with m r) p → seg l (body + (p + 1)) (size m) ≡ words b m
  member_stands m r p e =
      let place : body + p + 1 ≡ body + (p + 1) = omega arith in
      let many : suc (size m) - 1 ≡ size m = omega arith in
      rw (place, many) at (sym (drop-seg l (body + p) (suc (size m)) 1 (omega arith)) ∙ ap (drop 1) (marked m r p e))

  -- the d-th member
  pub member_is : (u : Term) (p at d : ℕ) → Stand u p → At l at (places u p) → d < length (members u) → member_piece l body (at + d) ≡ words b (get_or (members u) d empty)
  unfolding places members member_piece
  member_is (unknown i) p at d e a h = absurd (omega arith)
  member_is empty p at d e a h = absurd (omega arith)
  member_is (functor k ts) p at d e a h = absurd (omega arith)
  member_is (with m r) p at zero e (at_word f a) h =
      let here : at + 0 ≡ at = omega arith in
      let next = at_first r (p + 1 + size m) a in
      let many : p + 1 + size m - (p + 1) ≡ size m = omega arith in
      rw (here, f, next, many) (member_stands m r p e)
  member_is (with m r) p at (suc d) e (at_word f a) h =
      let there : at + suc d ≡ at + 1 + d = omega arith in
      rw there (member_is r (p + 1 + size m) (at + 1) d (rest_stands m r p e) a (omega arith))

  -- a side's places rise
  pub rise : (t : Term) (p at i : ℕ) → At l at (places t p) → i < length (members t) → (get_or l (at + i) 0 < get_or l (at + i + 1) 0) × (get_or l (at + i + 1) 0 ≤ p + size t)
  unfolding places members size
  rise (unknown j) p at i a h = absurd (omega arith)
  rise empty p at i a h = absurd (omega arith)
  rise (functor k ts) p at i a h = absurd (omega arith)
  rise (with m r) p at zero (at_word f a) h =
      let here : at + 0 ≡ at = omega arith in
      let next = at_first r (p + 1 + size m) a in
      rw (here, f, next) (omega arith, omega arith)
  rise (with m r) p at (suc i) (at_word f a) h =
      let there : at + suc i ≡ at + 1 + i = omega arith in
      let g = rise r (p + 1 + size m) (at + 1) i a (omega arith) in
      rw there (g.0, omega (arith, g.1))

  module _ (pair : Term → Term → Equation) (tail : Bool) (others : List Term) (owns picks : ℕ) where
    abbrev joins : ℕ → List ℕ
    joins = joins_piece l body owns picks (length others)

    -- the members that join the other side's tail
    pub joining_is : (t : Term) (p i : ℕ) (ds : List ℕ) → Stand t p → At l (owns + i) (places t p) → At l (picks + i) ds → length ds ≡ length (members t)
        → gathered joins (length (members t)) i ≡ member_words b (joining_by pair tail others (members t) ds)
    unfolding places members gathered joining_by member_words joins_piece marked_piece
    joining_is (unknown j) p i ds e a d k = refl
    joining_is empty p i ds e a d k = refl
    joining_is (functor j ts) p i ds e a d k = refl
    joining_is (with m r) p i [] e a d k = absurd (omega arith)
    joining_is (with m r) p i (n ∷ ds) e (at_word f a) (at_word g d) k =
        let next = at_first r (p + 1 + size m) a in
        let many : p + 1 + size m - p ≡ suc (size m) = omega arith in
        let one : owns + i + 1 ≡ owns + (i + 1) = omega arith in
        let two : picks + i + 1 ≡ picks + (i + 1) = omega arith in
        let ih = joining_is r (p + 1 + size m) (i + 1) ds (rest_stands m r p e) (rw one at a) (rw two at d) (omega arith) in
        rw (f, next, g, many, marked m r p e)
        (cases (ltb n (length others))
        (λ t. rw t ih)
        (λ q. rw (q, ih)))

    module _ (turned : Bool) (u : Term) (v at : ℕ) (the_others : members u ≡ others) (stands : Stand u v) (noted : At l at (places u v))
        (paired : (own other : Term) → cond turned (words b other ++ words b own) (words b own ++ words b other) ≡ words b (pair own other).left ++ words b (pair own other).right) where
      abbrev meets : ℕ → List ℕ
      meets = meets_piece l body owns picks turned at (length others)

      other_is : (d : ℕ) → d < length others → member_piece l body (at + d) ≡ words b (get_or others d empty)
      other_is d h = rw (← the_others) (member_is u v at d stands noted (rw the_others h))

      own_is : (m r : Term) (p i : ℕ) → Stand (with m r) p → get_or l (owns + i) 0 ≡ p → get_or l (owns + i + 1) 0 ≡ p + 1 + size m → member_piece l body (owns + i) ≡ words b m
      unfolding member_piece
      own_is m r p i e f g =
          let many : p + 1 + size m - (p + 1) ≡ size m = omega arith in
          rw (f, g, many) (member_stands m r p e)

      pub meeting_is : (t : Term) (p i : ℕ) (ds : List ℕ) → Stand t p → At l (owns + i) (places t p) → At l (picks + i) ds → length ds ≡ length (members t)
          → gathered meets (length (members t)) i ≡ pending_words b (equations_by pair tail others (members t) ds)
      unfolding places members gathered equations_by pending_words row sides meets_piece
      meeting_is (unknown j) p i ds e a d k = refl
      meeting_is empty p i ds e a d k = refl
      meeting_is (functor j ts) p i ds e a d k = refl
      meeting_is (with m r) p i [] e a d k = absurd (omega arith)
      meeting_is (with m r) p i (n ∷ ds) e (at_word f a) (at_word g d) k =
          let next = at_first r (p + 1 + size m) a in
          let own = own_is m r p i e f next in
          let one : owns + i + 1 ≡ owns + (i + 1) = omega arith in
          let two : picks + i + 1 ≡ picks + (i + 1) = omega arith in
          let ih = meeting_is r (p + 1 + size m) (i + 1) ds (rest_stands m r p e) (rw one at a) (rw two at d) (omega arith) in
          rw g
          (cases (ltb n (length others))
          (λ t.
          let other = other_is n (ltb-true n (length others) t) in
          rw (t, own, other, ih, paired m (get_or others n empty)) (append_assoc (words b (pair m (get_or others n empty)).left) (words b (pair m (get_or others n empty)).right) (row b (sides (equations_by pair tail others (members r) ds)))))
          (λ q. rw (q, ih)))
