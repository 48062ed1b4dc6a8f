-- A row whose first equation is a split, with the places of the members noted in scratch: the split is open, and what is told of its children is told of
-- the row's.
use Prim.Native.Nat.{ℕ, ◌+◌, ◌≤◌, ◌<◌}
use mathlib.Core.Path.{◌≡◌, sym, ap, ◌∙◌}
use mathlib.Core.List.{List, [], ◌∷◌, ◌++◌}
use native.Mathlib.Omega.{arith}
use lib.ListN.{length, drop}
use Rattle.room.specs.Room.{seg}
use Rattle.room.specs.Layout.{HEADER, stride, right_row, picks_row, sides_at}
use Rattle.terms.specs.Term.{Term, members, size}
use Rattle.terms.specs.Formed.{Equation}
use Rattle.search.specs.State.{State, pend}
use Rattle.search.specs.Children.{children}
use Rattle.search.specs.declared.steps.Tails.{Tails}
use Rattle.rows.specs.declared.parts.Rest.{Rest}
use Rattle.rows.specs.declared.parts.Reached.TheVariants.{Live}
use Rattle.rows.specs.Terms.Stripped.{kernel_place}
use Rattle.search_laws.specs.ChoiceNumbers.{Digits}
use Rattle.search_laws.specs.Picking.{radix}
use Rattle.choices.specs.declared.sides.Sides.{Sides}
use Rattle.choices.specs.Digits.{copies}
use Rattle.choices.specs.MemberPlaces.{places}
use Rattle.choices.specs.OpenParent.{Parent, Opened, few_members}
use Rattle.only_child.specs.declared.next.Next.{Next}
use Rattle.only_child.specs.declared.next.Next.TheVariants.{Spent, Node as Found}
use Rattle.only_child.specs.Next.{dead_ends, all_dead}
use Rattle.pick_loop.specs.PicksInScratch.{left_open, right_open, all_children, place, Picks, Picked}
use Rattle.pick_loop.specs.Shown.{Shown, Opens}
use Rattle.openings.specs.SplitRow.{Splitting}
use Rattle.pick_loop.proofs.Radices.{radix-most, radix_least}
use Rattle.openings.proofs.SplitSides.{both-sets, open_there, rested, rest-numbers, children_are}
use Rattle.pick_loop.proofs.ToldBefore.{spent_none, tells_before}

-- the numbers of the sides t and u, and the places noted
pub record Noted (l : List ℕ) (sides : Sides) (lent scratch : ℕ) (t u : Term) : Type 0 where
  pub n_is : sides.n ≡ length (members t)
  pub m_is : sides.m ≡ length (members u)
  pub right_is : sides.right ≡ size t
  pub end_is : sides.end ≡ size t + size u
  pub s_is : sides.s ≡ kernel_place t
  pub r_is : sides.r ≡ size t + kernel_place u
  pub t_noted : seg l scratch (sides.n + 1) ≡ places t 0
  pub u_noted : seg l (right_row lent scratch) (sides.m + 1) ≡ places u (size t)

-- the split's parent with these digits
abbrev pub parent : State → Equation → List Equation → List ℕ → List ℕ → Parent
parent st e es ds fs = record { t = e.left; u = e.right; st = pend es st; ds = ds; es = fs }

module _ {arities l : List ℕ} {at : ℕ} {rest : Rest} {right end : ℕ} {kind : Tails} {number lent next scratch most : ℕ} {st : State} {e : Equation} {es : List Equation}
    (S : Splitting arities l at rest right end kind number lent next scratch most st e es)
    {sides : Sides} {r : List ℕ} (N : Noted r sides lent scratch e.left e.right)
    (long : length r ≡ length l) (same : (k n : ℕ) → k + n ≤ scratch → seg r k n ≡ seg l k n) where
  abbrev picks : ℕ
  picks = picks_row lent scratch

  pub few : (sides.n + sides.m < sides.end) × (sides.end ≤ lent)
  few = (
    omega (arith, few_members e.left, few_members e.right, N.n_is, N.m_is, N.end_is),
    omega (arith, N.end_is, S.end_is, (open_there S).fits),
  )

  pub opened : (ds fs : List ℕ) → seg r picks (sides.n + sides.m) ≡ ds ++ fs → length ds ≡ sides.n → length fs ≡ sides.m → Opened arities r at rest sides lent next scratch (parent st e es ds fs)
  unfolding pend
  opened ds fs picked n_many m_many =
      let T = open_there S in
      let R = rest-numbers S in
      let H = few in
      let end_is : sides.end ≡ end = N.end_is ∙ sym S.end_is in
      record {
        row = T.row;
        space = rw long T.space;
        lent_small = T.lent_small;
        small = rw long T.small;
        worded = rw S.next_is T.worded;
        formed_t = rw S.next_is T.formed_t;
        formed_u = rw S.next_is T.formed_u;
        formed_pile = rw S.next_is S.ready.sound.pile;
        few = rw S.next_is S.ready.sound.few;
        next_is = S.next_is;
        bindings_small = R.bindings_small;
        sides_stand = rw end_is (same (at + HEADER) end (omega (arith, T.row)) ∙ T.stands);
        rested = record {
          pending = same rest.at rest.pending (omega (arith, T.row, R.at_is, R.fits)) ∙ (rested S).pending;
          pile = same (rest.at + rest.pending) rest.pile (omega (arith, T.row, R.at_is, R.fits)) ∙ (rested S).pile;
          bound = same (rest.at + rest.pending + rest.pile) rest.bound (omega (arith, T.row, R.at_is, R.fits)) ∙ (rested S).bound;
          bindings = (rested S).bindings;
        };
        rest_at = rw end_is R.at_is;
        fits = rw end_is R.fits;
        n_is = N.n_is;
        m_is = N.m_is;
        right_is = N.right_is;
        end_is = N.end_is;
        s_is = N.s_is;
        r_is = N.r_is;
        t_noted = N.t_noted;
        u_noted = N.u_noted;
        picked = picked;
        ds_many = n_many;
        es_many = m_many;
      }

  module _ {first second : ℕ} (f : first ≡ radix (right_open kind) sides.m) (g : second ≡ radix (left_open kind) sides.n) where
    -- each member has a pick, and not too many
    pub some-picks : (0 < first) × (0 < second)
    some-picks =
        let B = both-sets S in (
          omega (arith, f, radix_least (right_open kind) sides.m, N.m_is, B.some_u),
          omega (arith, g, radix_least (left_open kind) sides.n, N.n_is, B.some_t),
        )

    pub few_picks : (first < 65536) × (second < 65536)
    few_picks =
        let H = few in (
          omega (arith, f, radix-most (right_open kind) sides.m, S.ready.lent_small),
          omega (arith, g, radix-most (left_open kind) sides.n, S.ready.lent_small),
        )

    pub picks_of : {q ds fs : List ℕ} → Opened arities q at rest sides lent next scratch (parent st e es ds fs) → Digits (copies sides.n first) ds → Digits (copies sides.m second) fs
        → Picks arities q at rest sides kind first second lent next scratch most (parent st e es ds fs)
    picks_of O P Q =
        let B = both-sets S in
        record {
          opened = O;
          kind_is = B.kind;
          first_is = f ∙ rw (B.right, N.m_is);
          second_is = g ∙ rw (B.left, N.n_is);
          proper_t = P;
          proper_u = Q;
          child = S.ready.child;
          most_small = omega (arith, S.ready.numbers);
        }

-- ---- what is told

module _ {arities l : List ℕ} {at : ℕ} {rest : Rest} {right end : ℕ} {kind : Tails} {number lent next scratch most : ℕ} {st : State} {e : Equation} {es : List Equation}
    (S : Splitting arities l at rest right end kind number lent next scratch most st e es) where
  pub all_of : (ds fs : List ℕ) → children st ≡ all_children (parent st e es ds fs)
  unfolding all_children
  all_of ds fs = children_are S

  module _ (r : List ℕ) (long : length r ≡ length l) (below : seg r 0 (at + stride lent) ≡ seg l 0 (at + stride lent)) where
    -- there is none from the number on
    pub opens_none : drop number (children st) ≡ [] → Opens l at number lent scratch most st (Spent 0) r
    unfolding dead_ends
    opens_none h = record {
      child = record { long = long; below = below; tells = all_dead {k = 0} (omega arith) h };
      leaves = record { shown = λ k q. absurd (spent_none q) };
    }

    module _ {sides : Sides} {first second : ℕ} {ds fs : List ℕ} (told : seg r (sides_at lent scratch) 3 ≡ length (members e.left) ∷ length (members e.right) ∷ (size e.left + size e.right) ∷ [])
        (here : place (parent st e es ds fs) ≡ number)
        {a : Next} {q : List ℕ} (K : Picked arities r at rest sides kind first second lent next scratch most (parent st e es ds fs) a q) where
      shown : (k : ℕ) → a ≡ Found k Live → Shown q lent scratch st (number + k)
      shown k h =
          let F = K.further k h in
          let O = F.here.opened in
          record {
            first = e;
            others = es;
            kind = kind;
            ds = F.ds;
            es = F.es;
            cut = S.cut;
            step_is = S.step_is;
            last_is = F.place_at ∙ ap (λ (j : ℕ). j + k) here;
            t_noted = rw O.n_is at O.t_noted;
            u_noted = rw O.m_is at O.u_noted;
            picked = rw (O.n_is, O.m_is) at O.picked;
            ds_proper = rw (O.n_is, F.here.first_is) at F.here.proper_t;
            es_proper = rw (O.m_is, F.here.second_is) at F.here.proper_u;
            told = K.told ∙ told;
          }

      pub opens-from : Opens l at number lent scratch most st a q
      opens-from = record {
        child = record {
          long = K.long ∙ long;
          below = K.below ∙ below;
          tells = tells_before long below (ap (λ (k : ℕ). drop k (children st)) (sym here) ∙ ap (drop (place (parent st e es ds fs))) (all_of ds fs)) K.tells;
        };
        leaves = record { shown = shown };
      }
