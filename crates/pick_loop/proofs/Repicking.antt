-- Other digits written over a split's picks: the split stays open, and the rows up to the parent's are as they were.
use Prim.Native.Nat.{ℕ, ◌+◌, ◌*◌, ◌≤◌, ◌<◌, ◌^◌}
use mathlib.Core.Path.{◌≡◌, sym, ap, ◌∙◌}
use mathlib.Core.List.{List, ◌++◌}
use native.Mathlib.Omega.{arith}
use lib.ListN.{length, length-append}
use Rattle.room.specs.Room.{seg, put, length-put, seg-put_same}
use Rattle.room.specs.Parts.{earlier, later, seg-put}
use Rattle.room.specs.Layout.{HEADER, stride, right_row, picks_row}
use Rattle.search.specs.RunLimits.{most_size}
use Rattle.rows.specs.declared.parts.Rest.{Rest}
use Rattle.choices.specs.declared.sides.Sides.{Sides}
use Rattle.choices.specs.OpenParent.{Parent, Opened, few_members}
use Rattle.pick_loop.specs.PicksInScratch.{again}

-- the numbers, for `omega`
pub record Numbers (l : List ℕ) (at : ℕ) (sides : Sides) (lent scratch : ℕ) : Type 0 where
  pub row : at + stride lent ≤ scratch
  pub space : scratch + 7 * stride lent ≤ length l
  pub lent_small : lent ≤ most_size
  pub small : length l < 2 ^ 32
  pub few : sides.n + sides.m < sides.end
  pub end_below : sides.end ≤ lent

module _ {arities l : List ℕ} {at : ℕ} {rest : Rest} {sides : Sides} {lent next scratch : ℕ} {p : Parent} (S : Opened arities l at rest sides lent next scratch p) where
  abbrev pub picks : ℕ
  picks = picks_row lent scratch

  pub numbers : Numbers l at sides lent scratch
  numbers = record {
    row = S.row;
    space = S.space;
    lent_small = S.lent_small;
    small = S.small;
    few = omega (arith, few_members p.t, few_members p.u, S.n_is, S.m_is, S.end_is);
    end_below = omega (arith, S.fits);
  }

  module _ {r : List ℕ} (out : List ℕ) (e : r ≡ put l picks out) where
    pub same_long : length r ≡ length l
    same_long = ap length e ∙ length-put l picks out

    pub same_before : (k n : ℕ) → k + n ≤ picks → seg r k n ≡ seg l k n
    same_before k n h = rw e (seg-put out l (earlier h))

    -- the numbers after the picks
    pub same_told : length out ≡ sides.n + sides.m → seg r (picks + lent) 3 ≡ seg l (picks + lent) 3
    same_told h = let N = numbers in rw e (seg-put out l (later (omega arith)))

    pub repicked : (ds es : List ℕ) → out ≡ ds ++ es → length ds ≡ sides.n → length es ≡ sides.m → Opened arities r at rest sides lent next scratch (again p ds es)
    repicked ds es w a b =
        let N = numbers in
        let many : length out ≡ sides.n + sides.m = omega (arith, ap length w, length-append ds es) in
        let R = S.rested in
        record {
          row = S.row;
          space = rw same_long S.space;
          lent_small = S.lent_small;
          small = rw same_long S.small;
          worded = S.worded;
          formed_t = S.formed_t;
          formed_u = S.formed_u;
          formed_pile = S.formed_pile;
          few = S.few;
          next_is = S.next_is;
          bindings_small = S.bindings_small;
          sides_stand = same_before (at + HEADER) sides.end (omega arith) ∙ S.sides_stand;
          rested = record {
            pending = same_before rest.at rest.pending (omega (arith, S.fits, S.rest_at)) ∙ R.pending;
            pile = same_before (rest.at + rest.pending) rest.pile (omega (arith, S.fits, S.rest_at)) ∙ R.pile;
            bound = same_before (rest.at + rest.pending + rest.pile) rest.bound (omega (arith, S.fits, S.rest_at)) ∙ R.bound;
            bindings = R.bindings;
          };
          rest_at = S.rest_at;
          fits = S.fits;
          n_is = S.n_is;
          m_is = S.m_is;
          right_is = S.right_is;
          end_is = S.end_is;
          s_is = S.s_is;
          r_is = S.r_is;
          t_noted = same_before scratch (sides.n + 1) (omega arith) ∙ S.t_noted;
          u_noted = same_before (right_row lent scratch) (sides.m + 1) (omega arith) ∙ S.u_noted;
          picked = ap (seg r picks) (sym many) ∙ rw e (seg-put_same out l picks (omega arith)) ∙ w;
          ds_many = a;
          es_many = b;
        }
