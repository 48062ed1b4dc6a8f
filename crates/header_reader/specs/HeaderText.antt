-- The header of a question's text: edition, unknowns, arities, equations, a line each.
use Rattle.std.specs.Prelude.{ℕ, zero, suc, ◌+◌, List, [], ◌∷◌, ◌++◌, eqb, Result, Ok, Err}
use Rattle.terms.specs.Bounds.{Bounds}
use Rattle.terms.specs.declared.refusal.Cause.TheVariants.{Byte, Limit}
use Rattle.terms.specs.declared.refusal.Refusal.{Refusal}
use Rattle.text.specs.Keys.{edition_key, unknowns_key, arities_key, equations_key}
use Rattle.text.specs.Text.{choose}
use Rattle.numerals.specs.TextReading.{Reading, read, refused, fault, and_then}
use Rattle.numerals.specs.Bytes.{byte, meets, comma, line_feed}
use Rattle.numerals.specs.Numbers.{between}
use Rattle.header_reader.specs.declared.header.Heading.{Heading}

-- a key, a number from `low` to `high`, and LF
unfoldable pub line : List ℕ → ℕ → ℕ → List ℕ → ℕ → Reading ℕ
line key low high s p =
    and_then (meets s key p (tt {0})) (λ q _. and_then (between low high s q) (λ r v. meets s (line_feed ∷ []) r v))

-- an arity is due at p, after the arities ns; so many may still come
unfoldable pub arity_list : ℕ → ℕ → List ℕ → ℕ → List ℕ → Reading (List ℕ)
arity_list zero most s p ns = fault Limit p
arity_list (suc n) most s p ns =
    and_then (between 0 most s p)
    (λ q a.
    choose (eqb (byte s q) comma) (λ _. arity_list n most s (q + 1) (ns ++ (a ∷ []))) (λ _.
    choose (eqb (byte s q) line_feed) (λ _. read (q + 1) (ns ++ (a ∷ []))) (λ _. fault Byte q)))

-- a number is due after the key unless an LF follows at once
unfoldable pub arity_line : Bounds → List ℕ → ℕ → Reading (List ℕ)
arity_line b s p =
    and_then (meets s arities_key p [])
    (λ q ns. choose (eqb (byte s q) line_feed) (λ _. read (q + 1) ns) (λ _. arity_list b.functors b.arity s q ns))

pub record Header : Type 0 where
  pub unknowns : ℕ
  pub arities : List ℕ
  pub equations : ℕ

unfoldable pub header : Bounds → List ℕ → Reading Header
header b s =
    and_then (line edition_key 1 1 s 0) (λ p _.
    and_then (line unknowns_key 0 b.unknowns s p) (λ q n.
    and_then (arity_line b s q) (λ r ns.
    and_then (line equations_key 0 b.equations s r) (λ t e.
    read t (record { unknowns = n; arities = ns; equations = e })))))

-- the same, of the code's answer and the arities then
abbrev pub of_heading : Result Heading Refusal → List ℕ → Reading Header
of_heading (Ok h) ns = read h.end (record { unknowns = h.unknowns; arities = ns; equations = h.equations })
of_heading (Err r) ns = refused r
