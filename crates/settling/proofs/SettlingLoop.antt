-- How places are settled: one place is compared with those that are (`Passing`), and then it is one of them (`Going`).
use Prim.Native.Nat.{ℕ, ◌+◌, ◌-◌, ◌<◌, ◌≤◌}
use mathlib.Core.Path.{◌≡◌, refl, ap, sym, ◌∙◌}
use mathlib.Core.List.{List}
use mathlib.Core.Bool.{Bool, true, false, false≢true}
use mathlib.Core.Logic.{◌⊎◌, inl, inr}
use native.Mathlib.Omega.{arith}
use native.Mathlib.Nat.{eq-or-lt_of_le}
use lib.Dec.{eqb}
use lib.ListN.{length, get_or, set, drop, length-set, length-drop}
use lib.Seq.{get_or-set_other}
use borrow.Author.Tests.{eqb-true, eqb-false}
use Rattle.std.specs.List.{list_any}
use Rattle.std.proofs.lemmas.Bool.{eq-eqb}
use Rattle.std.proofs.lemmas.List.{get_or-drop}
use Rattle.std.proofs.lemmas.List.Folds.{list_any_at}
use Rattle.terms.specs.Term.{Term}
use Rattle.laws.proofs.Agree.{agree}
use Rattle.laws.specs.Equal.{equal}
use Rattle.laws.proofs.Rank.{rank, rank-≈}
use Rattle.term_places.specs.Places.{Held, valued}
use Rattle.term_places.specs.Classes.{Comparing, IsSettled, Settled, Same}
use Rattle.ranks.specs.Ranks.{Ranked}
use Rattle.term_places.specs.Relabelled.{equal-back, equal_through}
use Rattle.term_places.specs.Since.{Since, since_start, since_told, label_kept, settled_since}
use Rattle.ranks.specs.Ranked.{ranked_set, ranked_none}
use Rattle.settling.specs.Settling.{AllSettled, Settling, Settles, Unsettled}

equal_ranks : (t u : Term) → equal t u ≡ true → rank t ≡ rank u
equal_ranks t u e = rank-≈ ((agree t u).1 e)

-- ---- one place is compared

module _ {h : Held} {settled labels : List ℕ} {p rank : ℕ} (s : Settling h settled labels p rank) where
  -- a settled place with an equal term has the same rank
  same_rank : {q : ℕ} → q < length h.words → IsSettled settled q → equal (valued h p) (valued h q) ≡ true → get_or settled q 0 ≡ rank
  same_rank i d e = sym ((s.ranked.ranked _ i).told d.below).rank ∙ sym (equal_ranks _ _ e) ∙ s.at.rank

  found_later : {q : ℕ} → p < q → q < length settled → get_or settled q 0 ≡ rank → list_any (λ r. eqb r rank) (drop (p + 1) settled) ≡ true
  found_later {q} l i e =
      let place : p + 1 + (q - (p + 1)) ≡ q = omega arith in
      let here = get_or-drop (p + 1) settled (q - (p + 1)) 0 ∙ ap (λ k. get_or settled k 0) place ∙ e in
      list_any_at (λ r. eqb r rank) (drop (p + 1) settled) (q - (p + 1)) 0 (omega (arith, length-drop (p + 1) settled)) (eq-eqb _ _ here)

  pub settles_alone : list_any (λ r. eqb r rank) (drop (p + 1) settled) ≡ false → Settles h settled labels labels p
  settles_alone n =
      record {
        classes = s.so_far.classes;
        coarser = (since_start s.so_far.classes).coarser;
        joined = λ q i d e.
            let past : q ≤ p → ⊥ = λ l. s.later q l d in
            absurd (false≢true (sym n ∙ found_later (omega (arith, past)) d.inside (same_rank i d e)));
      }

pub record Passing (h : Held) (settled before labels : List ℕ) (p rank q : ℕ) : Type 0 where
  pub settling : Settling h settled before p rank
  pub since : Since h before labels
  pub joined : (y : ℕ) → y < q → IsSettled settled y → equal (valued h p) (valued h y) ≡ true → get_or labels p 0 ≡ get_or labels y 0

pub passing_start : {h : Held} {settled labels : List ℕ} {p rank : ℕ} → Settling h settled labels p rank → Passing h settled labels labels p rank (p + 1)
passing_start s = record { settling = s; since = since_start s.so_far.classes; joined = λ y l d e. absurd (s.later y (omega arith) d) }

module _ {h : Held} {settled before labels : List ℕ} {p rank q : ℕ} (w : Passing h settled before labels p rank q) where
  pub passing_end : length settled ≤ q → Settles h settled before labels p
  passing_end l = record { classes = w.since.classes; coarser = w.since.coarser; joined = λ y i d e. w.joined y (let b = d.inside in omega arith) d e }

  pub passing_settled : Settled h settled labels
  passing_settled = settled_since w.since w.settling.so_far.apart

  module _ (i : q < length settled) where
    in_words : q < length h.words
    in_words = omega (arith, w.settling.ranked.long)

    pub passing_skip : (get_or settled q 0 ≡ rank → ⊥) → Passing h settled before labels p rank (q + 1)
    passing_skip n = record { settling = w.settling; since = w.since; joined = λ y l d e. go y d e (eq-or-lt_of_le (omega arith)) }
      where
        other : IsSettled settled q → equal (valued h p) (valued h q) ≡ true → ⊥
        other d e = n (same_rank w.settling in_words d e)

        go : (y : ℕ) → IsSettled settled y → equal (valued h p) (valued h y) ≡ true → (y ≡ q) ⊎ (y < q) → get_or labels p 0 ≡ get_or labels y 0
        go y d e (inl z) = absurd (other (rw z at d) (rw z at e))
        go y d e (inr l) = w.joined y l d e

    module _ (r : get_or settled q 0 ≡ rank) where
      here : IsSettled settled q
      here = record { inside = i; below = omega (arith, r, w.settling.below) }

      pub passing_asks : Comparing h labels p q
      passing_asks =
          record {
            placed = w.settling.ranked.placed;
            classes = w.since.classes;
            left = w.settling.at.known;
            right = ((w.settling.ranked.ranked q in_words).told here.below).known;
          }

      module _ {after : List ℕ} {answer : Bool} (s : Same h labels after p q answer) where
        pub passing_yes : answer ≡ true → Settles h settled before after p
        passing_yes t =
            let n = since_told w.since s.told in
            let a = settled_since n w.settling.so_far.apart in
            let f : equal (valued h p) (valued h q) ≡ true = sym s.told.told ∙ t in
            record {
              classes = n.classes;
              coarser = n.coarser;
              joined = λ y j d e. s.joined t ∙ a.joined q y in_words j here d (equal_through _ (valued h p) _ (equal-back _ _ f) e);
            }

        pub passing_no : answer ≡ false → Passing h settled before after p rank (q + 1)
        passing_no f = record { settling = w.settling; since = since_told w.since s.told; joined = λ y l d e. go y d e (eq-or-lt_of_le (omega arith)) }
          where
            go : (y : ℕ) → IsSettled settled y → equal (valued h p) (valued h y) ≡ true → (y ≡ q) ⊎ (y < q) → get_or after p 0 ≡ get_or after y 0
            go y d e (inl z) = absurd (false≢true (sym f ∙ s.told.told ∙ rw z at e))
            go y d e (inr l) = label_kept w.since.classes s.told w.settling.inside (omega arith) (w.joined y l d e)

-- ---- it is settled

pub record Going (h : Held) (ranks settled labels : List ℕ) (due : ℕ) : Type 0 where
  pub of_all : Ranked h ranks
  pub ranked : Ranked h settled
  pub so_far : AllSettled h settled labels
  pub inside : due ≤ length h.words
  pub later : (q : ℕ) → q < due → IsSettled settled q → ⊥

pub going_start : {h : Held} {ranks settled labels : List ℕ} → Unsettled h ranks settled labels → Going h ranks settled labels (length h.words)
going_start {settled = settled} u =
    record {
      of_all = u.ranked;
      ranked = ranked_none u.ranked.placed u.long u.none;
      so_far = record { classes = u.classes; apart = record { joined = λ p q i j a b e. absurd (not_yet p a) } };
      inside = omega arith;
      later = λ q l. not_yet q;
    }
  where
    not_yet : (q : ℕ) → IsSettled settled q → ⊥
    not_yet q a = let b = a.below in omega (arith, u.none q a.inside)

module _ {h : Held} {ranks settled labels : List ℕ} {due : ℕ} (w : Going h ranks settled labels due) (z : 0 < due) where
  pub going_in : due - 1 < length h.words
  going_in = let i = w.inside in omega arith

  pub going_past : Going h ranks settled labels (due - 1)
  going_past = record { of_all = w.of_all; ranked = w.ranked; so_far = w.so_far; inside = let i = w.inside in omega arith; later = λ q l. w.later q (omega arith) }

  module _ (b : get_or ranks (due - 1) 0 < 65535) where
    pub going_settling : Settling h settled labels (due - 1) (get_or ranks (due - 1) 0)
    going_settling =
        record {
          ranked = w.ranked;
          so_far = w.so_far;
          inside = going_in;
          below = b;
          at = (w.of_all.ranked (due - 1) going_in).told b;
          later = λ q l. w.later q (omega arith);
        }

    module _ {after : List ℕ} (s : Settles h settled labels after (due - 1)) where
      since : Since h labels after
      since = record { long = w.so_far.classes.long; classes = s.classes; coarser = s.coarser }

      earlier : (q : ℕ) → (q ≡ due - 1 → ⊥) → IsSettled (set settled (due - 1) (get_or ranks (due - 1) 0)) q → IsSettled settled q
      earlier q n a =
          record {
            inside = rw (length-set settled (due - 1) (get_or ranks (due - 1) 0)) at a.inside;
            below = rw (get_or-set_other settled (due - 1) q (get_or ranks (due - 1) 0) 0 n) at a.below;
          }

      all : (p q : ℕ) → p < length h.words → q < length h.words → (c d : Bool) → eqb p (due - 1) ≡ c → eqb q (due - 1) ≡ d
          → IsSettled (set settled (due - 1) (get_or ranks (due - 1) 0)) p → IsSettled (set settled (due - 1) (get_or ranks (due - 1) 0)) q
          → equal (valued h p) (valued h q) ≡ true → get_or after p 0 ≡ get_or after q 0
      all p q i j true true x y m n e = ap (λ k. get_or after k 0) (eqb-true p _ x ∙ sym (eqb-true q _ y))
      all p q i j true false x y m n e =
          let k = eqb-true p _ x in
          ap (λ k. get_or after k 0) k ∙ s.joined q j (earlier q (eqb-false q _ y) n) (ap (λ k. equal (valued h k) (valued h q)) (sym k) ∙ e)
      all p q i j false true x y m n e =
          let k = eqb-true q _ y in
          sym (ap (λ k. get_or after k 0) k ∙ s.joined p i (earlier p (eqb-false p _ x) m) (ap (λ k. equal (valued h k) (valued h p)) (sym k) ∙ equal-back _ _ e))
      all p q i j false false x y m n e = (settled_since since w.so_far.apart).joined p q i j (earlier p (eqb-false p _ x) m) (earlier q (eqb-false q _ y) n) e

      pub going_on : Going h ranks (set settled (due - 1) (get_or ranks (due - 1) 0)) after (due - 1)
      going_on =
          record {
            of_all = w.of_all;
            ranked = ranked_set w.ranked going_in (w.of_all.ranked (due - 1) going_in);
            so_far = record { classes = s.classes; apart = record { joined = λ p q i j m n e. all p q i j _ _ refl refl m n e } };
            inside = let i = w.inside in omega arith;
            later = λ q l a. w.later q (omega arith) (earlier q (λ e. omega arith) a);
          }
