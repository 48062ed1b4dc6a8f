-- A split's picks advanced: they are those of the next child, or there is none.
use Prim.Native.Nat.{ℕ, suc, ◌+◌, ◌-◌, ◌≤◌, ◌<◌}
use mathlib.Core.Path.{◌≡◌, sym, ap, ◌∙◌}
use mathlib.Core.Bool.{Bool, true, false}
use mathlib.Core.List.{List, []}
use native.Mathlib.Omega.{arith}
use lib.ListN.{length, take, drop, length-append}
use lib.Seq.{take_at, drop_at}
use Rattle.room.specs.Room.{seg, take-seg, drop-seg}
use Rattle.terms.specs.Term.{members, kernel}
use Rattle.terms.specs.Shape.{is_unknown}
use Rattle.search.specs.declared.steps.Tails.{Tails}
use Rattle.rows.specs.declared.parts.Rest.{Rest}
use Rattle.search_laws.specs.ChoiceNumbers.{number}
use Rattle.choices.specs.declared.sides.Sides.{Sides}
use Rattle.choices.specs.Digits.{copies, length-copies, length_digits, PickParts, Advanced}
use Rattle.choices.specs.OpenParent.{Parent}
use Rattle.pick_loop.specs.PicksInScratch.{all_children, place, Picks, again}
use Rattle.pick_loop.proofs.Numbering.{Parts, digits-parts, radices, place_is, none_after}
use Rattle.pick_loop.proofs.Radices.{radix-most}
use Rattle.pick_loop.proofs.Repicking.{numbers, picks, same_long, same_before, same_told, repicked}

module _ {arities l : List ℕ} {at : ℕ} {rest : Rest} {sides : Sides} {kind : Tails} {first second lent next scratch most : ℕ} {p : Parent}
    (P : Picks arities l at rest sides kind first second lent next scratch most p) where
  abbrev start : ℕ
  start = picks P.opened

  -- the radices are small
  first_small : first < 65536
  first_small = let N = numbers P.opened in omega (arith, P.first_is, P.opened.m_is, radix-most (is_unknown (kernel p.u)) (length (members p.u)))

  second_small : second < 65536
  second_small = let N = numbers P.opened in omega (arith, P.second_is, P.opened.n_is, radix-most (is_unknown (kernel p.t)) (length (members p.t)))

  pub advance_parts : PickParts l sides.n first start × PickParts l sides.m second (start + sides.n)
  advance_parts =
      let N = numbers P.opened in
      let n = P.opened.ds_many in
      let picked = P.opened.picked in
      let left : seg l start sides.n ≡ p.ds = sym (take-seg l start (sides.n + sides.m) sides.n (omega arith)) ∙ ap (take sides.n) picked ∙ take_at p.ds p.es sides.n n in
      let m : sides.n + sides.m - sides.n ≡ sides.m = omega arith in
      let right : seg l (start + sides.n) sides.m ≡ p.es = ap (seg l (start + sides.n)) (sym m) ∙ sym (drop-seg l start (sides.n + sides.m) sides.n (omega arith)) ∙ ap (drop sides.n) picked ∙ drop_at p.ds p.es sides.n n in (
        record { within = omega arith; small = first_small; proper = rw left P.proper_t },
        record { within = omega arith; small = second_small; proper = rw right P.proper_u },
      )

  module _ {more : Bool} {r : List ℕ} (A : Advanced l start (radices P) (seg l start (sides.n + sides.m)) more r) where
    pub parts : Parts (copies sides.n first) (copies sides.m second) A.digits
    parts = digits-parts (copies sides.n first) (copies sides.m second) A.proper

    n_many : length parts.ds ≡ sides.n
    n_many = length_digits parts.first ∙ length-copies sides.n first

    m_many : length parts.es ≡ sides.m
    m_many = length_digits parts.second ∙ length-copies sides.m second

    pub advanced_long : length r ≡ length l
    advanced_long = same_long P.opened A.digits A.room

    pub advanced_before : (k n : ℕ) → k + n ≤ start → seg r k n ≡ seg l k n
    advanced_before = same_before P.opened A.digits A.room

    pub advanced_told : seg r (start + lent) 3 ≡ seg l (start + lent) 3
    advanced_told = same_told P.opened A.digits A.room (omega (arith, ap length parts.whole, length-append parts.ds parts.es, n_many, m_many))

    -- with the digits that stand there now
    abbrev pub further : Parent
    further = again p parts.ds parts.es

    pub advanced : Picks arities r at rest sides kind first second lent next scratch most further
    advanced = record {
      opened = repicked P.opened A.digits A.room parts.ds parts.es parts.whole n_many m_many;
      kind_is = P.kind_is;
      first_is = P.first_is;
      second_is = P.second_is;
      proper_t = parts.first;
      proper_u = parts.second;
      child = P.child;
      most_small = P.most_small;
    }

    pub one_further : more ≡ true → place further ≡ suc (place p)
    one_further e =
        place_is advanced ∙ ap (number (radices P)) (sym parts.whole) ∙ A.next e ∙ ap (λ (ds : List ℕ). suc (number (radices P) ds)) P.opened.picked ∙ ap suc (sym (place_is P))

    pub none_further : more ≡ false → drop (suc (place p)) (all_children p) ≡ []
    none_further e = none_after P (rw P.opened.picked at (A.spent e).1)
