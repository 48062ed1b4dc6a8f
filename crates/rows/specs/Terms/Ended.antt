-- Where a term ends in words: the place after the first one. The words may stop before; the place is then their end.
use Rattle.std.specs.Prelude.{ℕ, suc, ◌<◌, ◌≡◌, List, [], ◌∷◌, length, get_or}
use Rattle.std.proofs.Common.{ap, arith}
use Rattle.terms.specs.Bounds.{Bounds}
use Rattle.terms.specs.Kind.{takes}
use Rattle.terms.specs.Laws.Walk.{span, span-zero}

abbrev pub term_end : Bounds → List ℕ → List ℕ → ℕ
term_end b arities ws = span b arities ws 1

-- a first word that no term follows is the whole term
pub term_end-one : (b : Bounds) (arities ws : List ℕ) → 0 < length ws → takes b arities (get_or ws 0 0) ≡ 0 → term_end b arities ws ≡ 1
unfolding span
term_end-one b arities [] h e = absurd (omega arith)
term_end-one b arities (w ∷ ws) h e = rw e (ap suc (span-zero b arities ws))
