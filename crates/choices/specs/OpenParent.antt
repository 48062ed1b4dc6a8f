-- A split's parent in the room: its row, the noted places of its first equation's members, and the digits of the child that is due. What of the room
-- must stay as it is while the child is made.
use Rattle.std.specs.Prelude.{ℕ, ◌+◌, ◌*◌, ◌<◌, ◌≤◌, ◌^◌, ◌≡◌, refl, List, ◌++◌, length}
use Rattle.std.proofs.Common.{ap, sym, ◌∙◌, arith, zero-add}
use Rattle.room.specs.Room.{seg, put, length-put, seg-seg}
use Rattle.room.specs.Parts.{Apart, seg-put}
use Rattle.room.specs.Layout.{HEADER, stride, right_row, picks_row}
use Rattle.terms.specs.Bounds.{edition_one, PATH_UNKNOWNS}
use Rattle.terms.specs.Kind.{Worded}
use Rattle.terms.specs.Lists.{All}
use Rattle.terms.specs.Term.{Term, unknown, empty, with, functor, words, size, members, kernel}
use Rattle.terms.specs.Shape.{is_unknown}
use Rattle.terms.specs.Formed.{Formed, Equation}
use Rattle.search.specs.State.{State}
use Rattle.search.specs.RunLimits.{most_size}
use Rattle.rows.specs.declared.parts.Rest.{Rest}
use Rattle.rows.specs.Terms.Stripped.{kernel_place}
use Rattle.rows.specs.Row.{Rested}
use Rattle.search_laws.specs.Picking.{equations_by, joining_by}
use Rattle.choices.specs.declared.sides.Sides.{Sides}
use Rattle.choices.specs.MemberPlaces.{places}

-- the equation t = u, the state without it, and the digits of the t's picks and of the u's
pub record Parent : Type 0 where
  pub t : Term
  pub u : Term
  pub st : State
  pub ds : List ℕ
  pub es : List ℕ

-- the t is on the left
unfoldable pub own_left : Term → Term → Equation
own_left own other = record { left = own; right = other }

unfoldable pub own_right : Term → Term → Equation
own_right own other = record { left = other; right = own }

-- T, the t's that join r; U, the u's that join s; and the new equations
unfoldable pub to_right : Parent → List Term
to_right p = joining_by own_left (is_unknown (kernel p.u)) (members p.u) (members p.t) p.ds

unfoldable pub to_left : Parent → List Term
to_left p = joining_by own_right (is_unknown (kernel p.t)) (members p.t) (members p.u) p.es

unfoldable pub news : Parent → List Equation
news p =
    equations_by own_left (is_unknown (kernel p.u)) (members p.u) (members p.t) p.ds
    ++ equations_by own_right (is_unknown (kernel p.t)) (members p.t) (members p.u) p.es

pub record Opened (arities l : List ℕ) (from : ℕ) (rest : Rest) (sides : Sides) (lent next scratch : ℕ) (p : Parent) : Type 0 where
  -- the rows
  pub row : from + stride lent ≤ scratch
  pub space : scratch + 7 * stride lent ≤ length l
  pub lent_small : lent ≤ most_size
  pub small : length l < 2 ^ 32
  -- the parent's row
  pub worded : Worded edition_one arities next
  pub formed_t : Formed arities next p.t
  pub formed_u : Formed arities next p.u
  pub formed_pile : All (λ n. Formed arities next n.term) p.st.pile
  pub few : next ≤ PATH_UNKNOWNS
  pub next_is : next ≡ p.st.next
  pub bindings_small : rest.bindings < 65534
  pub sides_stand : seg l (from + HEADER) sides.end ≡ words edition_one p.t ++ words edition_one p.u
  pub rested : Rested edition_one l rest p.st
  pub rest_at : rest.at ≡ from + HEADER + sides.end
  pub fits : sides.end + (rest.pending + rest.pile + rest.bound) ≤ lent
  -- its first equation
  pub n_is : sides.n ≡ length (members p.t)
  pub m_is : sides.m ≡ length (members p.u)
  pub right_is : sides.right ≡ size p.t
  pub end_is : sides.end ≡ size p.t + size p.u
  pub s_is : sides.s ≡ kernel_place p.t
  pub r_is : sides.r ≡ size p.t + kernel_place p.u
  pub t_noted : seg l scratch (sides.n + 1) ≡ places p.t 0
  pub u_noted : seg l (right_row lent scratch) (sides.m + 1) ≡ places p.u (size p.t)
  -- the picks
  pub picked : seg l (picks_row lent scratch) (sides.n + sides.m) ≡ p.ds ++ p.es
  pub ds_many : length p.ds ≡ sides.n
  pub es_many : length p.es ≡ sides.m

-- each member has a word
pub few_members : (t : Term) → length (members t) < size t
unfolding members size
few_members (unknown i) = omega arith
few_members empty = omega arith
few_members (with m r) = omega (arith, few_members r)
few_members (functor k ts) = omega arith

-- ---- what stays as it is: all up to the parent's row, and the first three rows of scratch

pub record Elsewhere (l r : List ℕ) (from lent scratch : ℕ) : Type 0 where
  pub long : length r ≡ length l
  pub low : seg r 0 (from + stride lent) ≡ seg l 0 (from + stride lent)
  pub high : seg r scratch (3 * stride lent) ≡ seg l scratch (3 * stride lent)

pub elsewhere_same : {l : List ℕ} {from lent scratch : ℕ} → Elsewhere l l from lent scratch
elsewhere_same = record { long = refl; low = refl; high = refl }

pub elsewhere_next : {l r q : List ℕ} {from lent scratch : ℕ} → Elsewhere l r from lent scratch → Elsewhere r q from lent scratch → Elsewhere l q from lent scratch
elsewhere_next E F = record { long = F.long ∙ E.long; low = F.low ∙ E.low; high = F.high ∙ E.high }

pub elsewhere_put : (l out : List ℕ) (i from lent scratch : ℕ) {r : List ℕ} → r ≡ put l i out → Apart 0 (from + stride lent) i (length out) → Apart scratch (3 * stride lent) i (length out) → Elsewhere l r from lent scratch
elsewhere_put l out i from lent scratch e a b = record {
  long = ap length e ∙ length-put l i out;
  low = rw e (seg-put out l a);
  high = rw e (seg-put out l b);
}

module _ {l r : List ℕ} {from lent scratch : ℕ} (E : Elsewhere l r from lent scratch) where
  pub same_low : (k n : ℕ) → k + n ≤ from + stride lent → seg r k n ≡ seg l k n
  same_low k n h =
      rw zero-add at
      (sym (seg-seg r 0 (from + stride lent) k n h) ∙ ap (λ (ws : List ℕ). seg ws k n) E.low ∙ seg-seg l 0 (from + stride lent) k n h)

  pub same_high : (k n : ℕ) → k + n ≤ 3 * stride lent → seg r (scratch + k) n ≡ seg l (scratch + k) n
  same_high k n h =
      sym (seg-seg r scratch (3 * stride lent) k n h) ∙ ap (λ (ws : List ℕ). seg ws k n) E.high ∙ seg-seg l scratch (3 * stride lent) k n h

  rest_same : {rest : Rest} {st : State} → Rested edition_one l rest st → rest.at + (rest.pending + rest.pile + rest.bound) ≤ from + stride lent → Rested edition_one r rest st
  rest_same {rest} R h = record {
    pending = same_low rest.at rest.pending (omega arith) ∙ R.pending;
    pile = same_low (rest.at + rest.pending) rest.pile (omega arith) ∙ R.pile;
    bound = same_low (rest.at + rest.pending + rest.pile) rest.bound (omega arith) ∙ R.bound;
    bindings = R.bindings;
  }

  -- the split is open there as well
  pub opened_after : {arities : List ℕ} {rest : Rest} {sides : Sides} {next : ℕ} {p : Parent} → Opened arities l from rest sides lent next scratch p → Opened arities r from rest sides lent next scratch p
  opened_after {sides = sides} {p = p} S =
      let many = few_members p.t in
      let more = few_members p.u in
      let first : scratch + 0 ≡ scratch = omega arith in
      let third : scratch + (stride lent + stride lent) ≡ picks_row lent scratch = omega arith in
      record {
        row = S.row;
        space = rw E.long S.space;
        lent_small = S.lent_small;
        small = rw E.long S.small;
        worded = S.worded;
        formed_t = S.formed_t;
        formed_u = S.formed_u;
        formed_pile = S.formed_pile;
        few = S.few;
        next_is = S.next_is;
        bindings_small = S.bindings_small;
        sides_stand = same_low (from + HEADER) sides.end (omega (arith, S.fits)) ∙ S.sides_stand;
        rested = rest_same S.rested (omega (arith, S.fits, S.rest_at));
        rest_at = S.rest_at;
        fits = S.fits;
        n_is = S.n_is;
        m_is = S.m_is;
        right_is = S.right_is;
        end_is = S.end_is;
        s_is = S.s_is;
        r_is = S.r_is;
        t_noted = rw first at (same_high 0 (sides.n + 1) (omega (arith, S.n_is, S.end_is, S.fits))) ∙ S.t_noted;
        u_noted = same_high (stride lent) (sides.m + 1) (omega (arith, S.m_is, S.end_is, S.fits)) ∙ S.u_noted;
        picked = rw third at (same_high (stride lent + stride lent) (sides.n + sides.m) (omega (arith, S.n_is, S.m_is, S.end_is, S.fits))) ∙ S.picked;
        ds_many = S.ds_many;
        es_many = S.es_many;
      }
