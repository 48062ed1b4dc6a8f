-- The walk along a set's members, and what the scan of labels finds on it: labels agree exactly where the terms are equal.
use Prim.Native.Nat.{ℕ}
use mathlib.Core.Path.{◌≡◌, refl, ◌∙◌}
use mathlib.Core.List.{List}
use mathlib.Core.Bool.{true, false, ◌&&◌}
use lib.ListN.{get_or}
use Rattle.terms.specs.Term.{members}
use Rattle.terms.specs.Lists.{false_unless}
use Rattle.terms.specs.Bounds.{MEMBER}
use Rattle.laws.specs.Equal.{equal}
use Rattle.term_places.specs.Places.{Held, valued, Known, AtMember, Has, first, later, member_of, rest_of}
use Rattle.term_places.specs.Classes.{some_equals, each_equalled, Compared, ComparedWith}
use Rattle.term_places.specs.Opened.{Opened, opened, closed}
use Rattle.term_places.specs.Membership.{some_open, each_open, some-closed, each_closed}

-- from the set at p the walk has come to x
pub record Walk (h : Held) (p x : ℕ) : Type 0 where
  pub known : Known h x
  pub part : (z : ℕ) → Has h x z → Has h p z

pub walk_start : {h : Held} {p : ℕ} → Known h p → Walk h p p
walk_start k = record { known = k; part = λ z l. l }

pub walk_on : {h : Held} {p x : ℕ} → Walk h p x → get_or h.words x 0 ≡ MEMBER → Opened h x → Walk h p (rest_of h x)
walk_on w e o = record { known = o.rest; part = λ z l. w.part z (later e l) }

pub walk_member : {h : Held} {p x : ℕ} → Walk h p x → get_or h.words x 0 ≡ MEMBER → Has h p (member_of h x)
walk_member w e = w.part _ (first e)

-- ---- is m's equal among the members at p?

pub record Covering (h : Held) (labels : List ℕ) (p m x : ℕ) : Type 0 where
  pub compared : ComparedWith h labels p m
  pub walk : Walk h p x
  pub so_far : some_equals (members (valued h p)) (valued h m) ≡ some_equals (members (valued h x)) (valued h m)

pub covering_start : {h : Held} {labels : List ℕ} {p m : ℕ} → ComparedWith h labels p m → Covering h labels p m p
covering_start c = record { compared = c; walk = walk_start c.comparing.left; so_far = refl }

module _ {h : Held} {labels : List ℕ} {p m x : ℕ} (c : Covering h labels p m x) where
  pub covering_end : (get_or h.words x 0 ≡ MEMBER → ⊥) → some_equals (members (valued h p)) (valued h m) ≡ false
  covering_end n = c.so_far ∙ some-closed (closed c.compared.comparing.placed x c.walk.known n) (valued h m)

  module _ (e : get_or h.words x 0 ≡ MEMBER) where
    pub covering_opened : Opened h x
    covering_opened = opened c.compared.comparing.placed x c.walk.known.inside e

    pub covering_at : AtMember h x
    covering_at = record { placed = c.compared.comparing.placed; inside = c.walk.known.inside; member = e }

    pub covering_here : get_or labels (member_of h x) 0 ≡ get_or labels m 0 → some_equals (members (valued h p)) (valued h m) ≡ true
    covering_here l =
        c.so_far ∙ some_open covering_opened (valued h m)
        ∙ rw (c.compared.comparing.classes.alike _ _ covering_opened.member.inside c.compared.comparing.right.inside l)

    pub covering_on : (get_or labels (member_of h x) 0 ≡ get_or labels m 0 → ⊥) → Covering h labels p m (rest_of h x)
    covering_on n =
        record {
          compared = c.compared;
          walk = walk_on c.walk e covering_opened;
          so_far =
              c.so_far ∙ some_open covering_opened (valued h m)
              ∙ rw (false_unless (equal (valued h (member_of h x)) (valued h m)) (λ q. n (c.compared.labelled _ (walk_member c.walk e) q)));
        }

-- ---- and so for each member at q

pub record Scanning (h : Held) (labels : List ℕ) (p q y : ℕ) : Type 0 where
  pub compared : Compared h labels p q
  pub walk : Walk h q y
  pub so_far : each_equalled (members (valued h p)) (members (valued h q)) ≡ each_equalled (members (valued h p)) (members (valued h y))

pub scanning_start : {h : Held} {labels : List ℕ} {p q : ℕ} → Compared h labels p q → Scanning h labels p q q
scanning_start c = record { compared = c; walk = walk_start c.comparing.right; so_far = refl }

module _ {h : Held} {labels : List ℕ} {p q y : ℕ} (s : Scanning h labels p q y) where
  pub scanning_end : (get_or h.words y 0 ≡ MEMBER → ⊥) → each_equalled (members (valued h p)) (members (valued h q)) ≡ true
  scanning_end n = s.so_far ∙ each_closed (closed s.compared.comparing.placed y s.walk.known n) (members (valued h p))

  module _ (e : get_or h.words y 0 ≡ MEMBER) where
    pub scanning_opened : Opened h y
    scanning_opened = opened s.compared.comparing.placed y s.walk.known.inside e

    pub scanning_at : AtMember h y
    scanning_at = record { placed = s.compared.comparing.placed; inside = s.walk.known.inside; member = e }

    pub scanning_with : ComparedWith h labels p (member_of h y)
    scanning_with =
        let c = s.compared.comparing in
        record {
          comparing = record { placed = c.placed; classes = c.classes; left = c.left; right = scanning_opened.member };
          labelled = λ x l r. (s.compared.joined.each x l).labelled _ (walk_member s.walk e) r;
        }

    by_first : each_equalled (members (valued h p)) (members (valued h q))
        ≡ (some_equals (members (valued h p)) (valued h (member_of h y)) && each_equalled (members (valued h p)) (members (valued h (rest_of h y))))
    by_first = s.so_far ∙ each_open scanning_opened (members (valued h p))

    pub scanning_not : false ≡ some_equals (members (valued h p)) (valued h (member_of h y)) → each_equalled (members (valued h p)) (members (valued h q)) ≡ false
    scanning_not r = by_first ∙ rw (← r)

    pub scanning_on : true ≡ some_equals (members (valued h p)) (valued h (member_of h y)) → Scanning h labels p q (rest_of h y)
    scanning_on r = record { compared = s.compared; walk = walk_on s.walk e scanning_opened; so_far = by_first ∙ rw (← r) }
