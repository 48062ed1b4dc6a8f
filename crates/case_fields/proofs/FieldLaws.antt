-- Laws of a line's fields: what a search for the next TAB finds, and what each turn of a walk from field to field keeps.
use Prim.Native.Nat.{ℕ, zero, suc, ◌+◌, ◌-◌, ◌≤◌, ◌<◌}
use native.Mathlib.Omega.{arith}
use mathlib.Core.Bool.{Bool, cond, not}
use mathlib.Core.Logic.{inl, inr}
use mathlib.Core.Path.{◌≡◌, refl, sym, ap, ◌∙◌}
use mathlib.Core.List.{List, [], ◌∷◌}
use lib.Dec.{ltb, eqb}
use lib.ListN.{length, take, drop, drop_of_length-le, length-drop}
use lib.Seq.{take_all, take-nil, drop-nil}
use Rattle.std.proofs.lemmas.Bool.{cases_Bool}
use Rattle.std.proofs.lemmas.Bool.Decides.{nat_tests}
use Rattle.std.proofs.lemmas.Grind.{common_steps}
use Rattle.std.proofs.lemmas.List.Sums.{prefix_len-le-length}
use Rattle.std.specs.Prelude.{Option, Some, None, unwrap_or}
use Rattle.case_fields.specs.Line.{count, index_of, first_of, field_of}

-- ---- counting and searching

pub count_step : (b x : ℕ) (xs : List ℕ) → count b (x ∷ xs) ≡ cond (eqb x b) (1 + count b xs) (count b xs)
unfolding count
count_step b x xs =
    let k : suc (count b xs) ≡ 1 + count b xs = omega arith in
    ap (λ (n : ℕ). cond (eqb x b) n (count b xs)) k

pub found : (b : ℕ) (l : List ℕ) (r : Option ℕ) → r ≡ cond (ltb (index_of b l) (length l)) (Some (index_of b l)) None → unwrap_or r (length l) ≡ index_of b l
unfolding index_of
found b l r e =
    let h = prefix_len-le-length (λ (x : ℕ). not (eqb x b)) l in
    grind (arith, common_steps, nat_tests)

-- none is left
pub count_none : (b : ℕ) (l : List ℕ) → length l ≡ index_of b l → count b l ≡ 0
unfolding count index_of
count_none b [] e = refl
count_none b (x ∷ xs) e =
    let rest = count_none b xs in
    grind (arith, common_steps, nat_tests)

-- the first, and those after it
pub count_past : (b : ℕ) (l : List ℕ) → index_of b l < length l → count b l ≡ suc (count b (drop (suc (index_of b l)) l))
unfolding count index_of
count_past b [] h = absurd (omega arith)
count_past b (x ∷ xs) h =
    let place = λ (same : Bool). cond (not same) (1 + index_of b xs) 0 in
    let further : suc (index_of b xs) ≡ 1 + index_of b xs = omega arith in
    elim (cases_Bool (eqb x b)) [
      | inl e ↦ rw e refl
      | inr e ↦ rw e (count_past b xs (omega (arith, ap place e, h)) ∙ ap (λ (i : ℕ). suc (count b (drop i xs))) further)
    ]

-- ---- fields

pub field_none : (n : ℕ) → field_of n [] ≡ []
unfolding field_of first_of
field_none zero = take-nil (index_of 9 [])
field_none (suc n) = rw (drop-nil {A = ℕ} (suc (index_of 9 []))) (field_none n)

-- a search of all that is left
pub searched : (l : List ℕ) (from r : ℕ) → r ≡ index_of 9 (take (length l - from) (drop from l)) → from + r ≡ from + index_of 9 (drop from l)
searched l from r e =
    let d = length-drop from l in
    ap (λ (k : ℕ). from + k) (e ∙ ap (index_of 9) (take_all (length l - from) (drop from l) (omega (arith, d))))

-- the last field of a walk
pub field_last : (l : List ℕ) (due end : ℕ) → due ≤ 0 → end ≡ index_of 9 l → field_of due l ≡ take end l
unfolding field_of first_of
field_last l zero end h e = ap (λ (k : ℕ). take k l) (sym e)
field_last l (suc n) end h e = absurd (omega arith)

pub field_whole : (l : List ℕ) (due : ℕ) → due ≤ 0 → length l ≡ index_of 9 l → field_of due l ≡ l
field_whole l due h e = field_last l due (length l) h e ∙ take_all (length l) l (omega arith)

-- what stands after the first TAB
pub rest_after : (l : List ℕ) (end : ℕ) → end ≡ index_of 9 l → take (length l - (end + 1)) (drop (end + 1) l) ≡ drop (suc (index_of 9 l)) l
rest_after l end e =
    let d = length-drop (end + 1) l in
    let after : end + 1 ≡ suc (index_of 9 l) = omega (arith, e) in
    take_all (length l - (end + 1)) (drop (end + 1) l) (omega (arith, d)) ∙ ap (λ (j : ℕ). drop j l) after

-- one field further
pub field_step : (l : List ℕ) (n i end : ℕ) → i < n → end ≡ index_of 9 l → field_of (n - i) l ≡ field_of (n - (i + 1)) (take (length l - (end + 1)) (drop (end + 1) l))
unfolding field_of
field_step l n i end h e =
    let k : n - i ≡ suc (n - (i + 1)) = omega arith in
    rw k (ap (field_of (n - (i + 1))) (sym (rest_after l end e)))

-- and one TAB fewer
pub tabs_step : (l : List ℕ) (end : ℕ) → end < length l → end ≡ index_of 9 l → count 9 l ≡ suc (count 9 (take (length l - (end + 1)) (drop (end + 1) l)))
tabs_step l end h e = count_past 9 l (omega (arith, h, e)) ∙ ap (λ (rest : List ℕ). suc (count 9 rest)) (sym (rest_after l end e))

-- no TAB is left, and so no further field
pub field_missing : (l : List ℕ) (due : ℕ) → 0 < due → length l ≡ index_of 9 l → field_of due l ≡ []
unfolding field_of
field_missing l zero p e = absurd (omega arith)
field_missing l (suc n) p e = ap (field_of n) (drop_of_length-le l {i = suc (index_of 9 l)} (omega (arith, e))) ∙ field_none n
