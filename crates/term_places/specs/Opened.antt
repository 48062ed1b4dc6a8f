-- The term at a place, values put in, by what stands there. An unknown's place is `resolved` to its value's; a set is `opened` to its first member and
-- its rest; any other is `closed`, a kernel by itself.
use Rattle.std.specs.Prelude.{ℕ, ◌+◌, ◌-◌, ◌<◌, ◌≤◌, ◌≡◌, refl, List, [], length, get_or}
use Rattle.std.proofs.Math.Path.{ap, ap₂, sym}
use Rattle.std.proofs.Common.{◌∙◌, arith}
use Rattle.terms.specs.Formed.{Formed, Formed*, formed_unknown, formed_empty, formed_with, formed_functor, formed_none, formed_more}
use Rattle.terms.specs.Kind.{kind, kind_unknown, kind_functor, apart_words}
use Rattle.terms.specs.Term.{Term, Terms, unknown, with, functor, more, members, kernel}
use Rattle.terms.specs.Bounds.{MEMBER}
use Rattle.laws.specs.Values.{Values, value, value*}
use Rattle.term_places.specs.Places.{tree, end, Held, values, valued, Placed, Known, on_to, resolved, Resolvable, member_of, rest_of}
use Rattle.term_places.specs.Standing.{View, sees_empty, sees_member, sees_unknown, sees_functor, view}

-- no unknown is in a ground term
mutual
  unfolding value

  pub value_ground : (σ : Values) {arities : List ℕ} {t : Term} → Formed arities 0 t → value σ t ≡ t
  value_ground σ (formed_unknown l) = absurd (omega arith)
  value_ground σ formed_empty = refl
  value_ground σ (formed_with f g) = ap₂ with (value_ground σ f) (value_ground σ g)
  value_ground σ (formed_functor {k = k} l e f) = ap (functor k) (value-ground* σ f)

  value-ground* : (σ : Values) {arities : List ℕ} {ts : Terms} → Formed* arities 0 ts → value* σ ts ≡ ts
  value-ground* σ formed_none = refl
  value-ground* σ (formed_more f g) = ap₂ more (value_ground σ f) (value-ground* σ g)

not_ground : {P : Type 0} {arities : List ℕ} {i : ℕ} → Formed arities 0 (unknown i) → P
not_ground (formed_unknown l) = absurd (omega arith)

pub record Resolved (h : Held) (p : ℕ) : Type 0 where
  pub known : Known h (resolved h.bounds h.words h.starts p)
  pub same : valued h (resolved h.bounds h.words h.starts p) ≡ valued h p

pub record Opened (h : Held) (p : ℕ) : Type 0 where
  pub next : p + 1 < length h.words
  pub ends : end h.bounds h.arities h.words (p + 1) < length h.words
  pub member : Known h (member_of h p)
  pub rest : Known h (rest_of h p)
  pub whole : valued h p ≡ with (valued h (member_of h p)) (valued h (rest_of h p))

pub record Closed (h : Held) (p : ℕ) : Type 0 where
  pub members : members (valued h p) ≡ []
  pub kernel : kernel (valued h p) ≡ valued h p

module _ {h : Held} (placed : Placed h) where
  marks : 2 ≤ h.bounds.first_unknown
  marks = placed.terms.limits.proper.unknowns_after_marks

  -- no declared functor has a word that counts as an unknown's
  apart : {k : ℕ} → k < length h.arities → {i : ℕ} → i < h.bounds.unknown_words → h.bounds.first_functor + k ≡ h.bounds.first_unknown + i → ⊥
  apart l b = apart_words placed.terms.limits.proper.apart b (omega (arith, placed.terms.limits.functors))

  -- ---- which places are known

  module _ {p : ℕ} (inside : p < length h.words) where
    low : get_or h.words p 0 < h.bounds.first_unknown → Known h p
    low l = record { inside = inside; no_unknown = λ i below e. omega arith }

    functor_known : {k : ℕ} → get_or h.words p 0 ≡ h.bounds.first_functor + k → k < length h.arities → Known h p
    functor_known e l = record { inside = inside; no_unknown = λ i below d. apart l (omega (arith, placed.terms.limits.unknowns)) (sym e ∙ d) }

    ground_known : Formed h.arities 0 (tree h.bounds h.arities h.words p) → Known h p
    ground_known f = go (view placed.terms p inside)
      where
        go : View h.bounds h.arities (length h.starts) h.words p → Known h p
        go (sees_empty e s) = low (omega (arith, marks))
        go (sees_member e a b s) = low (omega (arith, marks))
        go (sees_unknown e l s) = not_ground (rw s at f)
        go (sees_functor e l s) = functor_known e l

  -- ---- an unknown's place is resolved

  module _ {p : ℕ} where
    stays : resolved h.bounds h.words h.starts p ≡ p → Known h p → Resolved h p
    stays e k = record { known = rw e k; same = ap (valued h) e }

    goes : (i : ℕ) → i < length h.starts → tree h.bounds h.arities h.words p ≡ unknown i → resolved h.bounds h.words h.starts p ≡ get_or h.starts i 0 → Resolved h p
    unfolding valued values value
    goes i l s e =
        record {
          known = rw e (ground_known (placed.inside i l) (placed.grounded i l));
          same = ap (valued h) e ∙ value_ground (values h) (placed.grounded i l) ∙ sym (ap (value (values h)) s);
        }

  pub resolving : (p : ℕ) → p < length h.words → Resolved h p
  unfolding kind on_to resolved
  resolving p inside = go (view placed.terms p inside)
    where
      go : View h.bounds h.arities (length h.starts) h.words p → Resolved h p
      go (sees_empty e s) = stays (rw e) (low inside (omega (arith, marks)))
      go (sees_member e a b s) = stays (rw e) (low inside (omega (arith, marks)))
      go (sees_unknown {i = i} e l s) = goes i l s (rw (e, kind_unknown placed.terms.limits.proper i (omega (arith, placed.terms.limits.unknowns))))
      go (sees_functor {k = k} e l s) = stays (rw (e, kind_functor placed.terms.limits.proper k (omega (arith, placed.terms.limits.functors)))) (functor_known inside e l)

  -- the unknown at a place has a value
  pub resolvable : (p : ℕ) → p < length h.words → Resolvable h.bounds h.words h.starts p
  resolvable p inside = record { inside = inside; valued = λ l m. go l m (view placed.terms p inside) }
    where
      go : h.bounds.first_unknown ≤ get_or h.words p 0 → get_or h.words p 0 < h.bounds.first_unknown + h.bounds.unknown_words
          → View h.bounds h.arities (length h.starts) h.words p → get_or h.words p 0 < h.bounds.first_unknown + length h.starts
      go l m (sees_empty e s) = absurd (omega (arith, marks))
      go l m (sees_member e a b s) = absurd (omega (arith, marks))
      go l m (sees_unknown e b s) = omega arith
      go l m (sees_functor e b s) = absurd (apart b {i = get_or h.words p 0 - h.bounds.first_unknown} (omega arith) (omega arith))

  -- ---- a set is opened

  pub opened : (p : ℕ) → p < length h.words → get_or h.words p 0 ≡ MEMBER → Opened h p
  unfolding valued value member_of rest_of
  opened p inside m = go (view placed.terms p inside)
    where
      go : View h.bounds h.arities (length h.starts) h.words p → Opened h p
      go (sees_empty e s) = absurd (omega arith)
      go (sees_member e a b s) =
          let x = resolving (p + 1) a in
          let y = resolving (end h.bounds h.arities h.words (p + 1)) b in
          record {
            next = a;
            ends = b;
            member = x.known;
            rest = y.known;
            whole = ap (value (values h)) s ∙ ap₂ with (sym x.same) (sym y.same);
          }
      go (sees_unknown e l s) = absurd (omega (arith, marks))
      go (sees_functor e l s) = absurd (omega (arith, placed.terms.limits.proper.functors_after_marks))

  -- ---- any other known place is closed

  pub closed : (p : ℕ) → Known h p → (get_or h.words p 0 ≡ MEMBER → ⊥) → Closed h p
  unfolding valued value members kernel
  closed p known m = go (view placed.terms p known.inside)
    where
      go : View h.bounds h.arities (length h.starts) h.words p → Closed h p
      go (sees_empty e s) = record { members = rw s; kernel = rw s }
      go (sees_member e a b s) = absurd (m e)
      go (sees_unknown {i = i} e l s) = absurd (known.no_unknown i l e)
      go (sees_functor e l s) = record { members = rw s; kernel = rw s }
