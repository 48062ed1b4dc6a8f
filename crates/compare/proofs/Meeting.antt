-- One member of the left set is compared with each of the right one's: what holds on the way along those (`Meeting`), how each turn goes on, and what is
-- told at the end.
use Prim.Native.Nat.{ℕ, ◌<◌, ◌≤◌}
use mathlib.Core.Path.{◌≡◌, refl, ap, sym, ◌∙◌}
use mathlib.Core.List.{List}
use mathlib.Core.Bool.{Bool, true, false, ◌||◌, or-false}
use mathlib.Core.Logic.{◌⊎◌, inl, inr}
use native.Mathlib.Omega.{arith}
use lib.ListN.{length, get_or}
use Rattle.terms.specs.Term.{members, size}
use Rattle.terms.specs.Bounds.{MEMBER}
use Rattle.laws.specs.Equal.{equal, is_in}
use Rattle.term_places.specs.Places.{Held, valued, Placed, Known, AtMember, Has, first, later, member_of, rest_of}
use Rattle.term_places.specs.Classes.{Comparing, Same, Meets}
use Rattle.term_places.specs.Opened.{Opened, opened, closed}
use Rattle.term_places.specs.Membership.{is_in_open, is_in-closed, member_smaller, rest_smaller, has_open, has_closed}
use Rattle.term_places.specs.Since.{Since, since_start, since_told, told_since, label_kept}

pub has_inside : {h : Held} {p z : ℕ} → Placed h → p < length h.words → Has h p z → z < length h.words
has_inside {p = p} placed i (first e) = (opened placed p i e).member.inside
has_inside {p = p} placed i (later e l) = has_inside placed (opened placed p i e).rest.inside l

-- ---- one left member, at m, with the right ones

pub record Meeting (h : Held) (before labels : List ℕ) (m q y : ℕ) (met : Bool) : Type 0 where
  pub placed : Placed h
  pub since : Since h before labels
  pub left : Known h m
  pub right : Known h q
  pub at : Known h y
  pub so_far : is_in (valued h m) (members (valued h q)) ≡ (met || is_in (valued h m) (members (valued h y)))
  pub joined : (z : ℕ) → Has h q z → equal (valued h m) (valued h z) ≡ true → (get_or labels m 0 ≡ get_or labels z 0) ⊎ Has h y z
  pub smaller : size (valued h y) ≤ size (valued h q)

pub meeting_start : {h : Held} {labels : List ℕ} {m q : ℕ} → Comparing h labels m q → Meeting h labels labels m q q false
meeting_start c =
    record {
      placed = c.placed;
      since = since_start c.classes;
      left = c.left;
      right = c.right;
      at = c.right;
      so_far = refl;
      joined = λ z l e. inr l;
      smaller = omega arith;
    }

or_true : (a : Bool) → (a || true) ≡ true
or_true true = refl
or_true false = refl

module _ {h : Held} {before labels : List ℕ} {m q y : ℕ} {met : Bool} (w : Meeting h before labels m q y met) where
  pub meeting_end : (get_or h.words y 0 ≡ MEMBER → ⊥) → Meets h before labels m q met
  meeting_end n =
      let e = is_in-closed (closed w.placed y w.at n) (valued h m) in
      record {
        told = told_since w.since (sym (w.so_far ∙ rw e (or-false met)));
        joined = record { labelled = λ z l s. go z (w.joined z l s) };
      }
    where
      go : (z : ℕ) → (get_or labels m 0 ≡ get_or labels z 0) ⊎ Has h y z → get_or labels m 0 ≡ get_or labels z 0
      go z (inl e) = e
      go z (inr l) = has_closed n l

  module _ (e : get_or h.words y 0 ≡ MEMBER) where
    pub meeting_opened : Opened h y
    meeting_opened = opened w.placed y w.at.inside e

    pub meeting_at : AtMember h y
    meeting_at = record { placed = w.placed; inside = w.at.inside; member = e }

    pub meeting_asks : Comparing h labels m (member_of h y)
    meeting_asks = record { placed = w.placed; classes = w.since.classes; left = w.left; right = meeting_opened.member }

    pub meeting_falls : size (valued h (member_of h y)) < size (valued h q)
    meeting_falls = let s = w.smaller in omega (arith, member_smaller meeting_opened)

    module _ {after : List ℕ} {r : Bool} (s : Same h labels after m (member_of h y) r) where
      joined_on : (z : ℕ) → Has h q z → equal (valued h m) (valued h z) ≡ true → (get_or after m 0 ≡ get_or after z 0) ⊎ Has h (rest_of h y) z
      joined_on z l f = go (w.joined z l f)
        where
          here : (member_of h y ≡ z) ⊎ Has h (rest_of h y) z → (get_or after m 0 ≡ get_or after z 0) ⊎ Has h (rest_of h y) z
          here (inl e) = inl (s.joined (s.told.told ∙ rw e f) ∙ ap (λ k. get_or after k 0) e)
          here (inr k) = inr k

          go : (get_or labels m 0 ≡ get_or labels z 0) ⊎ Has h y z → (get_or after m 0 ≡ get_or after z 0) ⊎ Has h (rest_of h y) z
          go (inl k) = inl (label_kept w.since.classes s.told w.left.inside (has_inside w.placed w.right.inside l) k)
          go (inr k) = here (has_open k)

      on : {now : Bool} → (met || (r || is_in (valued h m) (members (valued h (rest_of h y))))) ≡ (now || is_in (valued h m) (members (valued h (rest_of h y))))
          → Meeting h before after m q (rest_of h y) now
      on {now} f =
          record {
            placed = w.placed;
            since = since_told w.since s.told;
            left = w.left;
            right = w.right;
            at = meeting_opened.rest;
            so_far = w.so_far ∙ ap (λ b. met || b) (is_in_open meeting_opened (valued h m) ∙ ap (λ b. b || is_in (valued h m) (members (valued h (rest_of h y)))) (sym s.told.told)) ∙ f;
            joined = joined_on;
            smaller = let l = w.smaller in omega (arith, rest_smaller meeting_opened);
          }

      pub meeting_yes : r ≡ true → Meeting h before after m q (rest_of h y) true
      meeting_yes t = on (rw t (or_true met))

      pub meeting_no : r ≡ false → Meeting h before after m q (rest_of h y) met
      meeting_no t = on (rw t)
