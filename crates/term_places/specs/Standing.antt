-- Every place of words that hold formed terms is the start of a term: `standing` says where it ends and what comes after, `view` which of the four
-- forms it has.
use Rattle.std.specs.Prelude.{ℕ, zero, suc, ◌+◌, ◌-◌, ◌<◌, ◌≤◌, ◌≡◌, get_or}
use Rattle.std.proofs.Math.Path.{refl, ap, sym}
use Rattle.std.proofs.Common.{◌∙◌, arith, length-append, drop-cons, drop-drop}
use mathlib.Core.List.{List, [], ◌∷◌, ◌++◌, append_assoc}
use Rattle.std.proofs.Math.Numerals.{add-one}
use Rattle.std.proofs.Math.ListN.{length, drop, length-drop}
use Rattle.std.proofs.Math.Seq.{drop_at}
use Rattle.terms.specs.Bounds.{Bounds, MEMBER}
use Rattle.terms.specs.Laws.Flat.{length_words, size_positive}
use Rattle.terms.specs.Formed.{Formed, Formed*, formed_unknown, formed_empty, formed_with, formed_functor, formed_none, formed_more, row}
use Rattle.terms.specs.Kind.{kind, kind_unknown, kind_functor}
use Rattle.terms.specs.declared.kind.Kind.{Kind}
use Rattle.terms.specs.Lists.{All, none, both, All-append}
use Rattle.terms.specs.Reading.{read, top, taken, push, row_read}
use Rattle.terms.specs.Term.{Term, unknown, empty, with, functor, more, words, words*, size, list}
use Rattle.terms.specs.Term as term
use Rattle.terms.specs.Laws.Walk.{Stands, stands_empty, stands_member, stands_unknown, stands_functor, words_stand, span}
use Rattle.terms.proofs.Walk.{term_ends}
use Rattle.term_places.specs.Places.{terms_from, tree, end, Terms}

-- ---- words with some of the first dropped

row-arguments : (b : Bounds) (ts : term.Terms) (us : List Term) → row b (list ts ++ us) ≡ words* b ts ++ row b us
unfolding row list words
row-arguments b term.none us = refl
row-arguments b (more t ts) us = ap (λ l. words b t ++ l) (row-arguments b ts us) ∙ sym (append_assoc (words b t) (words* b ts) (row b us))

formed_list : {arities : List ℕ} {n : ℕ} {ts : term.Terms} → Formed* arities n ts → All (Formed arities n) (list ts)
unfolding list
formed_list formed_none = none
formed_list (formed_more f fs) = both f (formed_list fs)

module _ {b : Bounds} {arities : List ℕ} {n : ℕ} where
  one_less : {ws : List ℕ} → Terms b arities n ws → Terms b arities n (drop 1 ws)
  unfolding row words
  one_less {ws} t = rw (← t.worded) (go t.formed)
    where
      go : {ts : List Term} → All (Formed arities n) ts → Terms b arities n (drop 1 (row b ts))
      go none = record { limits = t.limits; terms = []; formed = none; worded = refl }
      go (both {xs = ts} (formed_unknown l) fs) = record { limits = t.limits; terms = ts; formed = fs; worded = refl }
      go (both {xs = ts} formed_empty fs) = record { limits = t.limits; terms = ts; formed = fs; worded = refl }
      go (both {xs = ts} (formed_with {m = m} {r = r} f g) fs) =
          record { limits = t.limits; terms = m ∷ r ∷ ts; formed = both f (both g fs); worded = sym (append_assoc (words b m) (words b r) (row b ts)) }
      go (both {xs = ts} (formed_functor {ts = us} l e f) fs) =
          record { limits = t.limits; terms = list us ++ ts; formed = All-append (formed_list f) fs; worded = row-arguments b us ts }

  from_place : {ws : List ℕ} (p : ℕ) → Terms b arities n ws → Terms b arities n (drop p ws)
  from_place zero t = t
  from_place {ws} (suc p) t = rw drop-one at (from_place p (one_less t))
    where
      drop-one : drop p (drop 1 ws) ≡ drop (suc p) ws
      drop-one = let e : 1 + p ≡ suc p = omega arith in drop-drop p 1 ws ∙ ap (λ k. drop k ws) e

-- ---- the term at a place

-- a place of words that hold terms, whatever unknowns they have
pub record Within (b : Bounds) (arities ws : List ℕ) (p : ℕ) : Type 0 where
  pub unknowns : ℕ
  pub terms : Terms b arities unknowns ws
  pub inside : p < length ws

pub record Standing (b : Bounds) (arities : List ℕ) (n : ℕ) (ws : List ℕ) (p : ℕ) : Type 0 where
  pub formed : Formed arities n (tree b arities ws p)
  pub within : end b arities ws p ≤ length ws
  pub worded : drop p ws ≡ words b (tree b arities ws p) ++ drop (end b arities ws p) ws
  pub on : terms_from b arities ws p ≡ tree b arities ws p ∷ terms_from b arities ws (end b arities ws p)

module _ {b : Bounds} {arities : List ℕ} {n : ℕ} {ws : List ℕ} (t : Terms b arities n ws) (p : ℕ) (inside : p < length ws) where
  pub standing : Standing b arities n ws p
  unfolding row end tree terms_from top
  standing = let d = from_place p t in go d.terms d.formed d.worded
    where
      go : (ts : List Term) → All (Formed arities n) ts → row b ts ≡ drop p ws → Standing b arities n ws p
      go [] none e = let l : 0 ≡ length ws - p = ap length e ∙ length-drop p ws in absurd (omega arith)
      go (u ∷ us) (both f fs) e =
          let r : read b arities (drop p ws) ≡ u ∷ us = ap (read b arities) (sym e) ∙ row_read t.limits (both f fs) in
          let after : drop (p + size u) ws ≡ row b us = sym (drop-drop (size u) p ws) ∙ ap (drop (size u)) (sym e) ∙ drop_at (words b u) (row b us) (size u) (length_words b u) in
          let s : read b arities (drop (p + size u) ws) ≡ us = ap (read b arities) after ∙ row_read t.limits fs in
          let l : length ws - p ≡ size u + length (row b us) = sym (length-drop p ws) ∙ ap length (sym e) ∙ (length-append (words b u) (row b us) ∙ ap (λ k. k + length (row b us)) (length_words b u)) in
          record { formed = rw r f; within = rw r (omega arith); worded = rw (r, after) (sym e); on = rw r (ap (λ vs. u ∷ vs) (sym s)) }

  -- as the walk of crate terms finds it
  pub walked : p + span b arities (drop p ws) 1 ≡ end b arities ws p
  unfolding end
  walked = let s = standing in rw (s.worded, term_ends t.limits s.formed (drop (end b arities ws p) ws))

-- ---- the four forms

pub data View (b : Bounds) (arities : List ℕ) (n : ℕ) (ws : List ℕ) (p : ℕ) : Type 0 where
  sees_empty : get_or ws p 0 ≡ 0 → tree b arities ws p ≡ empty → View b arities n ws p
  sees_member : get_or ws p 0 ≡ MEMBER → p + 1 < length ws → end b arities ws (p + 1) < length ws
      → tree b arities ws p ≡ with (tree b arities ws (p + 1)) (tree b arities ws (end b arities ws (p + 1))) → View b arities n ws p
  sees_unknown : {i : ℕ} → get_or ws p 0 ≡ b.first_unknown + i → i < n → tree b arities ws p ≡ unknown i → View b arities n ws p
  sees_functor : {k : ℕ} → get_or ws p 0 ≡ b.first_functor + k → k < length arities
      → tree b arities ws p ≡ functor k (taken (get_or arities k 0) (terms_from b arities ws (p + 1))) → View b arities n ws p

row_stands : {b : Bounds} {arities : List ℕ} {n : ℕ} {ts : List Term} → All (Formed arities n) ts → All (Stands b arities n) (row b ts)
unfolding row
row_stands none = none
row_stands (both f fs) = All-append (words_stand f) (row_stands fs)

element : {P : ℕ → Type 0} {ws : List ℕ} → All P ws → (p : ℕ) → p < length ws → P (get_or ws p 0)
element none p h = absurd (omega arith)
element (both a l) zero h = a
element (both a l) (suc p) h = element l p (omega arith)

module _ {b : Bounds} {arities : List ℕ} {n : ℕ} {ws : List ℕ} (t : Terms b arities n ws) (p : ℕ) (inside : p < length ws) where
  pub stands_at : Stands b arities n (get_or ws p 0)
  stands_at = element (rw t.worded at (row_stands {b = b} t.formed)) p inside

  pub pushed : {w : ℕ} {k : Kind} → get_or ws p 0 ≡ w → kind b w ≡ k → terms_from b arities ws p ≡ push arities k (terms_from b arities ws (p + 1))
  unfolding terms_from read
  pushed e f = rw (drop-cons ws p 0 inside, add-one, e, f)

  with_inside : {m r : Term} → tree b arities ws p ≡ with m r → p + 1 + size m < length ws
  unfolding end size
  with_inside {m} {r} s = let w : p + size (with m r) ≤ length ws = rw s at (standing t p inside).within in omega (arith, size_positive r)

  view_member : get_or ws p 0 ≡ MEMBER → tree b arities ws p ≡ with (tree b arities ws (p + 1)) (top (drop 1 (terms_from b arities ws (p + 1)))) → View b arities n ws p
  unfolding end tree top
  view_member e s =
      let m = with_inside s in
      let after = (standing t (p + 1) (omega arith)).on in
      sees_member e (omega arith) m (s ∙ ap (λ u. with (tree b arities ws (p + 1)) u) (ap (λ l. top (drop 1 l)) after))

  view_of : {w : ℕ} → get_or ws p 0 ≡ w → Stands b arities n w → View b arities n ws p
  unfolding tree top push kind
  view_of e stands_empty = sees_empty e (ap top (pushed e refl))
  view_of e stands_member = view_member e (ap top (pushed e refl))
  view_of e (stands_unknown {i = i} h) = sees_unknown e h (ap top (pushed e (kind_unknown t.limits.proper i (omega (arith, t.limits.unknowns)))))
  view_of e (stands_functor {k = k} h) = sees_functor e h (ap top (pushed e (kind_functor t.limits.proper k (omega (arith, t.limits.functors)))))

  pub view : View b arities n ws p
  view = view_of refl stands_at
