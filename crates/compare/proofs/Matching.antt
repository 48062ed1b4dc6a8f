-- Each member of the left set is compared with the right one's, one after the other: what holds on the way along the left set (`Matching`), how each turn
-- goes on, and what is told at the end.
use Prim.Native.Nat.{ℕ, ◌<◌, ◌≤◌}
use mathlib.Core.Path.{◌≡◌, refl, ap, sym, ◌∙◌}
use mathlib.Core.List.{List}
use mathlib.Core.Bool.{Bool, true, false, ◌&&◌, false≢true}
use mathlib.Core.Logic.{◌⊎◌, inl, inr}
use native.Mathlib.Omega.{arith}
use lib.ListN.{get_or}
use Rattle.terms.specs.Term.{members, size}
use Rattle.terms.specs.Bounds.{MEMBER}
use Rattle.laws.specs.Equal.{each_in}
use Rattle.term_places.specs.Places.{Held, valued, Placed, Known, AtMember, Has, member_of, rest_of}
use Rattle.term_places.specs.Classes.{Joined, Comparing, Meets, EachMeets}
use Rattle.term_places.specs.Opened.{Opened, opened, closed}
use Rattle.term_places.specs.Membership.{each_in_open, each_in-closed, member_smaller, rest_smaller, has_open, has_closed}
use Rattle.term_places.specs.Since.{Since, since_start, since_told, told_since, label_kept}
use Rattle.compare.proofs.Meeting.{has_inside}

pub record Matching (h : Held) (before labels : List ℕ) (p q x : ℕ) : Type 0 where
  pub placed : Placed h
  pub since : Since h before labels
  pub left : Known h p
  pub right : Known h q
  pub at : Known h x
  pub so_far : each_in (members (valued h p)) (members (valued h q)) ≡ each_in (members (valued h x)) (members (valued h q))
  pub joined : (z : ℕ) → Has h p z → Joined h labels z q ⊎ Has h x z
  pub smaller : size (valued h x) ≤ size (valued h p)

pub matching_start : {h : Held} {labels : List ℕ} {p q : ℕ} → Comparing h labels p q → Matching h labels labels p q p
matching_start c =
    record {
      placed = c.placed;
      since = since_start c.classes;
      left = c.left;
      right = c.right;
      at = c.left;
      so_far = refl;
      joined = λ z l. inr l;
      smaller = omega arith;
    }

module _ {h : Held} {before labels : List ℕ} {p q x : ℕ} (w : Matching h before labels p q x) where
  pub matching_end : (get_or h.words x 0 ≡ MEMBER → ⊥) → EachMeets h before labels p q true
  matching_end n =
      record {
        told = told_since w.since (sym (w.so_far ∙ each_in-closed (closed w.placed x w.at n) (members (valued h q))));
        joined = λ t. record { each = λ z l. go z (w.joined z l) };
      }
    where
      go : (z : ℕ) → Joined h labels z q ⊎ Has h x z → Joined h labels z q
      go z (inl j) = j
      go z (inr l) = has_closed n l

  module _ (e : get_or h.words x 0 ≡ MEMBER) where
    pub matching_opened : Opened h x
    matching_opened = opened w.placed x w.at.inside e

    pub matching_at : AtMember h x
    matching_at = record { placed = w.placed; inside = w.at.inside; member = e }

    pub matching_asks : Comparing h labels (member_of h x) q
    matching_asks = record { placed = w.placed; classes = w.since.classes; left = matching_opened.member; right = w.right }

    pub matching_falls : size (valued h (member_of h x)) < size (valued h p)
    matching_falls = let s = w.smaller in omega (arith, member_smaller matching_opened)

    module _ {after : List ℕ} {r : Bool} (m : Meets h labels after (member_of h x) q r) where
      by_first : each_in (members (valued h p)) (members (valued h q)) ≡ (r && each_in (members (valued h (rest_of h x))) (members (valued h q)))
      by_first =
          w.so_far ∙ each_in_open matching_opened (members (valued h q))
          ∙ ap (λ b. b && each_in (members (valued h (rest_of h x))) (members (valued h q))) (sym m.told.told)

      pub matching_no : r ≡ false → EachMeets h before after p q false
      matching_no f = record { told = told_since (since_told w.since m.told) (sym (by_first ∙ rw f)); joined = λ t. absurd (false≢true t) }

      joined_on : (z : ℕ) → Has h p z → Joined h after z q ⊎ Has h (rest_of h x) z
      joined_on z l = go (w.joined z l)
        where
          here : (member_of h x ≡ z) ⊎ Has h (rest_of h x) z → Joined h after z q ⊎ Has h (rest_of h x) z
          here (inl e) = inl (rw e at m.joined)
          here (inr k) = inr k

          go : Joined h labels z q ⊎ Has h x z → Joined h after z q ⊎ Has h (rest_of h x) z
          go (inl j) =
              inl
              (record {
                labelled = λ y k f. label_kept w.since.classes m.told (has_inside w.placed w.left.inside l) (has_inside w.placed w.right.inside k) (j.labelled y k f);
              })
          go (inr k) = here (has_open k)

      pub matching_on : r ≡ true → Matching h before after p q (rest_of h x)
      matching_on t =
          record {
            placed = w.placed;
            since = since_told w.since m.told;
            left = w.left;
            right = w.right;
            at = matching_opened.rest;
            so_far = by_first ∙ rw t;
            joined = joined_on;
            smaller = let l = w.smaller in omega (arith, rest_smaller matching_opened);
          }
