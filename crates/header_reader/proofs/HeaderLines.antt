-- The lines of the header: a line's three parts, and a turn of the arities' loop.
use Prim.Native.Nat.{ℕ, zero, suc, ◌+◌, ◌-◌, ◌<◌}
use native.Mathlib.Omega.{arith}
use mathlib.Core.Path.{◌≡◌, sym, ◌∙◌}
use mathlib.Core.List.{List, [], ◌∷◌, ◌++◌}
use borrow.Author.Tests.{ne_eqb}
use Rattle.terms.specs.Bounds.{edition_one, FUNCTORS, ARITY, UNKNOWNS, EQUATIONS}
use Rattle.terms.specs.declared.refusal.Cause.TheVariants.{Byte, Limit}
use Rattle.terms.specs.declared.refusal.Refusal.{Refusal}
use Rattle.text.specs.Keys.{arities_key, edition_key, unknowns_key, equations_key}
use Rattle.numerals.specs.TextReading.{read, refused, fault, then-read, then-refused}
use Rattle.numerals.specs.Bytes.{byte, meets}
use Rattle.numerals.specs.Numbers.{between}
use Rattle.header_reader.specs.HeaderText.{line, arity_list, arity_line, header}

module _ (key : List ℕ) (low high : ℕ) (s : List ℕ) (p : ℕ) where
  pub line_unmet : (f : Refusal) → meets s key p (tt {0}) ≡ refused f → refused f ≡ line key low high s p
  unfolding line
  line_unmet f e = sym (then-refused _ e)

  module _ (q : ℕ) (e : meets s key p (tt {0}) ≡ read q tt) where
    pub line_unfit : (f : Refusal) → between low high s q ≡ refused f → refused f ≡ line key low high s p
    unfolding line
    line_unfit f k = sym (then-read _ e ∙ then-refused _ k)

    pub line-number : (r v : ℕ) → between low high s q ≡ read r v → meets s (10 ∷ []) r v ≡ line key low high s p
    unfolding line
    line-number r v k = sym (then-read _ e ∙ then-read _ k)

-- ---- an arity is due at p, after the arities ns, of m that may come

pub arity_full : (m most : ℕ) (s : List ℕ) (p : ℕ) (ns : List ℕ) → m ≡ 0 → fault Limit p ≡ arity_list m most s p ns
unfolding arity_list
arity_full m most s p ns e = rw e

module _ (most : ℕ) (s : List ℕ) (p : ℕ) (ns : List ℕ) where
  pub arity_unfit : (m : ℕ) → 0 < m → (f : Refusal) → between 0 most s p ≡ refused f → refused f ≡ arity_list m most s p ns
  unfolding arity_list
  arity_unfit zero h f k = absurd (omega arith)
  arity_unfit (suc m) h f k = sym (then-refused _ k)

  -- it was read, and b follows
  module _ (q a : ℕ) (k : between 0 most s p ≡ read q a) {b : ℕ} (e : b ≡ byte s q) where
    pub arity_more : (m : ℕ) → 0 < m → b ≡ 44 → arity_list m most s p ns ≡ arity_list (m - 1) most s (q + 1) (ns ++ (a ∷ []))
    unfolding arity_list
    arity_more zero h i = absurd (omega arith)
    arity_more (suc m) h i = let z : suc m - 1 ≡ m = omega arith in then-read _ k ∙ rw (← e, i, z)

    pub arity_last : (m : ℕ) → 0 < m → b ≡ 10 → read (q + 1) (ns ++ (a ∷ [])) ≡ arity_list m most s p ns
    unfolding arity_list
    arity_last zero h i = absurd (omega arith)
    arity_last (suc m) h i = sym (then-read _ k ∙ rw (← e, i))

    pub arity_other : (m : ℕ) → 0 < m → (b ≡ 44 → ⊥) → (b ≡ 10 → ⊥) → fault Byte q ≡ arity_list m most s p ns
    unfolding arity_list
    arity_other zero h j i = absurd (omega arith)
    arity_other (suc m) h j i = sym (then-read _ k ∙ rw (← e, ne_eqb b 44 j, ne_eqb b 10 i))

-- ---- the arities' line, and the header

module _ (s : List ℕ) (p : ℕ) where
  pub arities_unmet : (f : Refusal) → meets {A = List ℕ} s arities_key p [] ≡ refused f → refused f ≡ arity_line edition_one s p
  unfolding arity_line
  arities_unmet f e = sym (then-refused _ e)

  module _ (q : ℕ) (e : meets {A = List ℕ} s arities_key p [] ≡ read q []) {b : ℕ} (k : b ≡ byte s q) where
    pub arities_none : b ≡ 10 → read (q + 1) [] ≡ arity_line edition_one s p
    unfolding arity_line
    arities_none i = sym (then-read _ e ∙ rw (← k, i))

    pub arities-some : (b ≡ 10 → ⊥) → arity_list FUNCTORS ARITY s q [] ≡ arity_line edition_one s p
    unfolding arity_line edition_one
    arities-some i = sym (then-read _ e ∙ rw (← k, ne_eqb b 10 i))

module _ (s : List ℕ) where
  pub no_edition : (f : Refusal) → line edition_key 1 1 s 0 ≡ refused f → refused f ≡ header edition_one s
  unfolding header
  no_edition f e = sym (then-refused _ e)

  module _ (p one : ℕ) (e : line edition_key 1 1 s 0 ≡ read p one) where
    pub no_unknowns : (f : Refusal) → line unknowns_key 0 UNKNOWNS s p ≡ refused f → refused f ≡ header edition_one s
    unfolding header edition_one
    no_unknowns f k = sym (then-read _ e ∙ then-refused _ k)

    module _ (q n : ℕ) (k : line unknowns_key 0 UNKNOWNS s p ≡ read q n) where
      pub no_arities : (f : Refusal) → arity_line edition_one s q ≡ refused f → refused f ≡ header edition_one s
      unfolding header edition_one
      no_arities f i = sym (then-read _ e ∙ then-read _ k ∙ then-refused _ i)

      module _ (r : ℕ) (ns : List ℕ) (i : arity_line edition_one s q ≡ read r ns) where
        pub no_equations : (f : Refusal) → line equations_key 0 EQUATIONS s r ≡ refused f → refused f ≡ header edition_one s
        unfolding header edition_one
        no_equations f j = sym (then-read _ e ∙ then-read _ k ∙ then-read _ i ∙ then-refused _ j)

        pub headed : (t m : ℕ) → line equations_key 0 EQUATIONS s r ≡ read t m → read t (record { unknowns = n; arities = ns; equations = m }) ≡ header edition_one s
        unfolding header edition_one
        headed t m j = sym (then-read _ e ∙ then-read _ k ∙ then-read _ i ∙ then-read _ j)
