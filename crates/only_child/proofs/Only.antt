-- A state that has no child, or one: what is told of its children from a number on.
use Prim.Native.Nat.{ℕ, zero, suc, ◌+◌, ◌<◌}
use mathlib.Core.Path.{◌≡◌, refl, sym, ap, ◌∙◌}
use mathlib.Core.List.{List, [], ◌∷◌}
use native.Mathlib.Omega.{arith}
use lib.ListN.{drop}
use lib.Seq.{drop-nil}
use Rattle.room.specs.Layout.{stride}
use Rattle.terms.specs.Bounds.{edition_one}
use Rattle.search.specs.State.{State, Node, dead, live}
use Rattle.search.specs.Children.{children}
use Rattle.rows.specs.declared.parts.Made.{Made}
use Rattle.rows.specs.declared.parts.Made.TheVariants.{Dead, Names, Large, Live}
use Rattle.rows.specs.Made.{of_reached}
use Rattle.rows.specs.Row.{Makes, becomes}
use Rattle.only_child.specs.declared.next.Next.{Next}
use Rattle.only_child.specs.declared.next.Next.TheVariants.{Spent, Due}
use Rattle.only_child.specs.Became.{never_dead}
use Rattle.only_child.specs.Next.{dead_ends, Tells, all_dead, then_live, then_due, Child, Kept, next_made}

-- nothing is written
untouched : {l : List ℕ} {at number size most : ℕ} {st : State} {x : Next} → Tells l (at + stride size) size (drop number (children st)) most l x → Child l at number size most st x l
untouched t = record { long = refl; below = refl; tells = t }

pub unopened : {l : List ℕ} {at number size most : ℕ} {st : State} {x : Next} (scratch : ℕ) → Child l at number size most st x l → Kept l at number size scratch most st x l
unopened scratch c = record { child = c; keeps = refl }

module _ (l : List ℕ) (at number size most : ℕ) (st : State) where
  pub none_left : drop number (children st) ≡ [] → Child l at number size most st (Spent 0) l
  unfolding dead_ends
  none_left e = untouched (all_dead (omega arith) e)

  pub no_child : children st ≡ [] → Child l at number size most st (Spent 0) l
  no_child e = none_left (ap (drop number) e ∙ drop-nil number)

  module _ {node : Node} (one : children st ≡ node ∷ []) where
    pub only_passed : 0 < number → Child l at number size most st (Spent 0) l
    only_passed h = none_left (ap (drop number) one ∙ past number h)
      where
        past : (n : ℕ) → 0 < n → drop n (node ∷ []) ≡ []
        past zero f = absurd (omega arith)
        past (suc n) f = drop-nil n

    pub only-due : number ≡ 0 → most ≡ 0 → Child l at number size most st (Due 0) l
    unfolding dead_ends
    only-due e f = untouched (then_due node [] (sym f) (ap (λ (n : ℕ). drop n (children st)) e ∙ one))

  -- the child was made
  by_made : (node : Node) (a : Made) {r : List ℕ} → 0 < most → drop number (children st) ≡ node ∷ [] → Makes edition_one l (at + stride size) size node a r
      → Tells l (at + stride size) size (drop number (children st)) most r (next_made a)
  unfolding next_made of_reached dead_ends becomes
  by_made dead Dead h e M = all_dead h e
  by_made dead Names h e M = let t = M.tells in let z : ◌≡◌ {A = ℕ} 0 1 = cc in absurd (omega arith)
  by_made dead Large h e M = let t = M.tells in let z : ◌≡◌ {A = ℕ} 0 1 = cc in absurd (omega arith)
  by_made dead Live h e M = let t = M.tells in let z : ◌≡◌ {A = ℕ} 0 1 = cc in absurd (omega arith)
  by_made (live next) Dead h e M = absurd (never_dead edition_one size next M.tells)
  by_made (live next) Names h e M = then_live next [] h e M
  by_made (live next) Large h e M = then_live next [] h e M
  by_made (live next) Live h e M = then_live next [] h e M

  pub only-made : {node : Node} {a : Made} {x : Next} {r : List ℕ} → children st ≡ node ∷ [] → number ≡ 0 → 0 < most → Makes edition_one l (at + stride size) size node a r → x ≡ next_made a
      → Child l at number size most st x r
  only-made {node} {a} one e h M f =
      record { long = M.long; below = M.below; tells = rw f (by_made node a h (ap (λ (n : ℕ). drop n (children st)) e ∙ one) M) }
