-- Laws of the stack that holds the open brackets: its innermost, a bracket put on it, changed or taken off; and what a finished term owes.
use Prim.Native.Nat.{ℕ, zero, suc, ◌+◌, ◌-◌, ◌≤◌, ◌<◌}
use native.Mathlib.Numerals.{add-one}
use native.Mathlib.Omega.{arith}
use mathlib.Core.Path.{◌≡◌, refl, sym, ap, ◌∙◌}
use mathlib.Core.List.{List, [], ◌∷◌, ◌++◌}
use lib.ListN.{length, get_or, set, drop}
use lib.Seq.{get_or-set_other, get_or-set_same}
use Rattle.std.specs.Prelude.{Some, None}
use Rattle.word_writer.specs.OpenBrackets.{brackets, innermost, closing, closed}
use Rattle.word_writer.specs.declared.bracket.Bracket.{Bracket}
use Rattle.word_writer.specs.declared.bracket.Bracket.TheVariants.{Member, Rest, Tail, Arguments}

pub length-brackets : (held : List Bracket) (d : ℕ) → length (brackets held d) ≡ d
unfolding brackets
length-brackets held zero = refl
length-brackets held (suc d) = ap suc (length-brackets held d)

brackets-below : (held : List Bracket) (i : ℕ) (due : Bracket) (d : ℕ) → d ≤ i → brackets (set held i due) d ≡ brackets held d
unfolding brackets
brackets-below held i due zero h = refl
brackets-below held i due (suc d) h = rw (get_or-set_other held i d due Member (omega arith), brackets-below held i due d (omega arith))

pub brackets-put : (held : List Bracket) (d : ℕ) (due : Bracket) → d < length held → brackets (set held d due) (d + 1) ≡ due ∷ brackets held d
unfolding brackets
brackets-put held d due h = rw (add-one, get_or-set_same held d due Member h, brackets-below held d due d (omega arith))

pub brackets_none : (held : List Bracket) (d : ℕ) → d ≡ 0 → brackets held d ≡ []
unfolding brackets
brackets_none held zero e = refl
brackets_none held (suc d) e = absurd (omega arith)

pub brackets_some : (held : List Bracket) (d : ℕ) → 0 < d → brackets held d ≡ get_or held (d - 1) Member ∷ brackets held (d - 1)
unfolding brackets
brackets_some held zero h = absurd (omega arith)
brackets_some held (suc d) h = let z : suc d - 1 ≡ d = omega arith in rw z

pub brackets_left : (held : List Bracket) (d : ℕ) → 0 < d → brackets held (d - 1) ≡ drop 1 (brackets held d)
brackets_left held d h = rw (brackets_some held d h)

pub brackets_change : (held : List Bracket) (d : ℕ) (due : Bracket) → 0 < d → d ≤ length held → brackets (set held (d - 1) due) d ≡ due ∷ drop 1 (brackets held d)
brackets_change held d due h k =
    let z : d - 1 + 1 ≡ d = omega arith in
    rw (brackets_some held d h) (rw z at (brackets-put held (d - 1) due (omega arith)))

pub depth_is : (held : List Bracket) (d : ℕ) {bs : List Bracket} → brackets held d ≡ bs → d ≡ length bs
depth_is held d e = sym (length-brackets held d) ∙ ap length e

pub innermost_is : (bs : List Bracket) {due : Bracket} → innermost bs ≡ Some due → bs ≡ due ∷ drop 1 bs
unfolding innermost
innermost_is [] e = let z : ◌≡◌ {A = ℕ} 0 1 = cc in absurd (omega arith)
innermost_is (b ∷ bs) e = cc

pub innermost_none : (bs : List Bracket) → innermost bs ≡ None → bs ≡ []
unfolding innermost
innermost_none [] e = refl
innermost_none (b ∷ bs) e = let z : ◌≡◌ {A = ℕ} 0 1 = cc in absurd (omega arith)

-- ---- what a finished term owes, by what is due in the innermost

pub closes_none : (bs : List Bracket) → innermost bs ≡ None → closing bs ≡ [] × closed bs ≡ bs
unfolding closing closed
closes_none bs e = let is = innermost_none bs e in (ap closing is, ap closed is ∙ sym is)

module _ (bs : List Bracket) {due : Bracket} (e : innermost bs ≡ Some due) where
  pub some_open : 0 < length bs
  some_open = let l = ap length (innermost_is bs e) in omega arith

  pub closes_member : due ≡ Member → closing bs ≡ [] × closed bs ≡ Rest ∷ drop 1 bs
  unfolding closing closed
  closes_member f = let is = innermost_is bs (e ∙ ap Some f) in (ap closing is, ap closed is)

  pub closes_rest : due ≡ Rest → closing bs ≡ [] × closed bs ≡ bs
  unfolding closing closed
  closes_rest f = let is = innermost_is bs (e ∙ ap Some f) in (ap closing is, ap closed is ∙ sym is)

  pub closes_tail : due ≡ Tail → closing bs ≡ (125 ∷ []) ++ closing (drop 1 bs) × closed bs ≡ closed (drop 1 bs)
  unfolding closing closed
  closes_tail f = let is = innermost_is bs (e ∙ ap Some f) in (ap closing is, ap closed is)

  pub closes_last : due ≡ Arguments 0 → closing bs ≡ (41 ∷ []) ++ closing (drop 1 bs) × closed bs ≡ closed (drop 1 bs)
  unfolding closing closed
  closes_last f = let is = innermost_is bs (e ∙ ap Some f) in (ap closing is, ap closed is)

  pub closes_argument : (m : ℕ) → due ≡ Arguments m → (m ≡ 0 → ⊥) → closing bs ≡ (44 ∷ []) ++ [] × closed bs ≡ Arguments (m - 1) ∷ drop 1 bs
  unfolding closing closed
  closes_argument zero f n = absurd (n refl)
  closes_argument (suc m) f n =
      let z : suc m - 1 ≡ m = omega arith in let is = innermost_is bs (e ∙ ap Some f) in rw z (ap closing is, ap closed is)
