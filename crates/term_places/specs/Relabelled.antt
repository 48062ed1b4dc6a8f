-- Laws of labels: each place by itself is a class of its own; two classes whose terms are equal become one; classes never part again.
use Rattle.std.specs.Prelude.{ℕ, zero, suc, ◌<◌, ◌≡◌, refl, List, [], ◌∷◌, map, Bool, true, false, cond, eqb, length, get_or}
use Rattle.std.proofs.Common.{ap, sym, ◌∙◌, arith, eqb-true, eq-eqb}
use Rattle.std.proofs.Math.ListN.{length-map}
use Rattle.terms.specs.Term.{Term}
use Rattle.laws.specs.Laws.{≈refl, ≈sym, ≈trans}
use Rattle.laws.specs.Equal.{equal}
use Rattle.laws.proofs.Agree.{agree}
use Rattle.term_places.specs.Places.{Held, valued}
use Rattle.term_places.specs.Classes.{Classes, EachItsOwn, Coarser, relabel, relabelled}

pub equal-itself : (t : Term) → equal t t ≡ true
equal-itself t = (agree t t).0 ≈refl

pub equal-back : (t u : Term) → equal t u ≡ true → equal u t ≡ true
equal-back t u e = (agree u t).0 (≈sym ((agree t u).1 e))

pub equal_through : (t u v : Term) → equal t u ≡ true → equal u v ≡ true → equal t v ≡ true
equal_through t u v e f = (agree t v).0 (≈trans ((agree t u).1 e) ((agree u v).1 f))

-- ---- classes that stay

pub coarser_itself : (l : List ℕ) → Coarser l l
coarser_itself l = record { kept = λ p q i j e. e }

pub coarser_through : {l m n : List ℕ} → length l ≡ length m → Coarser l m → Coarser m n → Coarser l n
coarser_through e f g = record { kept = λ p q i j s. g.kept p q (omega arith) (omega arith) (f.kept p q i j s) }

-- ---- each place by itself

pub each_its_own : {h : Held} {l : List ℕ} → length l ≡ length h.words → EachItsOwn l → Classes h l
each_its_own {h} {l} e f = record { long = e; alike = λ p q i j s. let z : p ≡ q = sym (f.own p (omega arith)) ∙ s ∙ f.own q (omega arith) in rw z (equal-itself (valued h q)) }

-- ---- two classes become one

pub label_of : (f : ℕ → ℕ) (l : List ℕ) (p : ℕ) → p < length l → get_or (map f l) p 0 ≡ f (get_or l p 0)
label_of f [] p h = absurd (omega arith)
label_of f (x ∷ l) zero h = refl
label_of f (x ∷ l) (suc p) h = label_of f l p (omega arith)

relabel_old : (old new : ℕ) → relabel old new old ≡ new
unfolding relabel
relabel_old old new = rw (eq-eqb old old refl)

relabel_new : (old new : ℕ) → relabel old new new ≡ new
unfolding relabel
relabel_new old new = go (eqb new old)
  where
    go : (b : Bool) → cond b new new ≡ new
    go true = refl
    go false = refl

-- what a new label came from
data Came (old new x : ℕ) : ℕ → Type 0 where
  was_old : x ≡ old → Came old new x new
  was_itself : Came old new x x

came : (old new x : ℕ) → Came old new x (relabel old new x)
unfolding relabel
came old new x = go (eqb x old) refl
  where
    go : (b : Bool) → eqb x old ≡ b → Came old new x (cond b new x)
    go true e = was_old (eqb-true x old e)
    go false e = was_itself

module _ {h : Held} {l : List ℕ} (c : Classes h l) {p q : ℕ} (i : p < length h.words) (j : q < length h.words) where
  united : equal (valued h p) (valued h q) ≡ true → (x y : ℕ) → x < length h.words → y < length h.words → {a b : ℕ} → Came (get_or l p 0) (get_or l q 0) (get_or l x 0) a → Came (get_or l p 0) (get_or l q 0) (get_or l y 0) b
      → a ≡ b → equal (valued h x) (valued h y) ≡ true
  united e x y k m (was_old s) (was_old t) r = c.alike x y k m (s ∙ sym t)
  united e x y k m (was_old s) was_itself r =
      equal_through _ (valued h q) _ (equal_through _ (valued h p) _ (c.alike x p k i s) e) (c.alike q y j m r)
  united e x y k m was_itself (was_old t) r =
      equal_through _ (valued h q) _ (c.alike x q k j r) (equal-back _ _ (equal_through _ (valued h p) _ (c.alike y p m i t) e))
  united e x y k m was_itself was_itself r = c.alike x y k m r

  label : (x : ℕ) → x < length h.words → get_or (relabelled (get_or l p 0) (get_or l q 0) l) x 0 ≡ relabel (get_or l p 0) (get_or l q 0) (get_or l x 0)
  unfolding relabelled
  label x k = label_of (relabel (get_or l p 0) (get_or l q 0)) l x (omega (arith, c.long))

  pub one_class : equal (valued h p) (valued h q) ≡ true → Classes h (relabelled (get_or l p 0) (get_or l q 0) l)
  unfolding relabelled
  one_class e =
      record {
        long = length-map l (relabel (get_or l p 0) (get_or l q 0)) ∙ c.long;
        alike = λ x y k m s. united e x y k m (came _ _ (get_or l x 0)) (came _ _ (get_or l y 0)) (sym (label x k) ∙ s ∙ label y m);
      }

  pub one_label : get_or (relabelled (get_or l p 0) (get_or l q 0) l) p 0 ≡ get_or (relabelled (get_or l p 0) (get_or l q 0) l) q 0
  one_label = label p i ∙ relabel_old (get_or l p 0) (get_or l q 0) ∙ sym (label q j ∙ relabel_new (get_or l p 0) (get_or l q 0))

  pub still_together : Coarser l (relabelled (get_or l p 0) (get_or l q 0) l)
  still_together =
      record { kept = λ x y k m s. label x (omega (arith, c.long)) ∙ ap (relabel (get_or l p 0) (get_or l q 0)) s ∙ sym (label y (omega (arith, c.long))) }
