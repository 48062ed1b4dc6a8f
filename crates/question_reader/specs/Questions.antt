-- A question's text: its header, two terms for each equation, left then right, with nothing after.
use Rattle.std.specs.Prelude.{ℕ, zero, suc, ◌≡◌, List, [], ◌∷◌, eqb, length, Result, Ok, Err}
use Rattle.terms.specs.Bounds.{Bounds}
use Rattle.terms.specs.declared.refusal.Cause.TheVariants.{Byte}
use Rattle.terms.specs.declared.refusal.Refusal.{Refusal}
use Rattle.text.specs.Keys.{left_key, right_key}
use Rattle.text.specs.Text.{choose}
use Rattle.numerals.specs.TextReading.{Reading, read, refused, fault, and_then}
use Rattle.numerals.specs.Bytes.{byte, meets, line_feed, stopped}
use Rattle.term_reader.specs.Terms.{whole_term}
use Rattle.header_reader.specs.HeaderText.{Header, header}
use Rattle.results.specs.declared.read.Counts.{Counts}

module _ (b : Bounds) (s : List ℕ) (unknowns : ℕ) (arities : List ℕ) where
  -- one side of an equation: its key, a term, and LF
  unfoldable pub side : List ℕ → ℕ → List ℕ → Reading (List ℕ)
  side key p ws =
      and_then (meets s key p ws) (λ q vs. and_then (whole_term b s unknowns arities q vs) (meets s (line_feed ∷ [])))

  unfoldable pub equation : ℕ → List ℕ → Reading (List ℕ)
  equation p ws = and_then (side left_key p ws) (side right_key)

  -- so many equations, and the text's end
  unfoldable pub equations : ℕ → ℕ → List ℕ → Reading (List ℕ)
  equations zero p ws = choose (eqb (byte s p) stopped) (λ _. read (length s) ws) (λ _. fault Byte p)
  equations (suc n) p ws = and_then (equation p ws) (equations n)

-- what a text asks
pub record Asked : Type 0 where
  pub head : Header
  pub words : List ℕ

unfoldable pub question : Bounds → List ℕ → Reading Asked
question b s =
    and_then (header b s) (λ p h.
    and_then (equations b s h.unknowns h.arities h.equations p []) (λ q ws. read q (record { head = h; words = ws })))

-- what the code's answer tells of a text of so many bytes, with the arities and the words that it was read into
abbrev pub of_question : ℕ → Result Counts Refusal → List ℕ → List ℕ → Reading Asked
of_question len (Ok c) ns ws = read len (record { head = record { unknowns = c.unknowns; arities = ns; equations = c.equations }; words = ws })
of_question len (Err r) ns ws = refused r

-- the counts of the code's answer are those of the arities and the words that it was read into
abbrev pub Counted : Result Counts Refusal → List ℕ → List ℕ → Type 0
Counted (Ok c) ns ws = (c.functors ≡ length ns) × (c.words ≡ length ws)
Counted (Err r) ns ws = Unit {0}
