-- An equation postponed: its entry is laid out first. An equation of one functor replaced by its argument equations: the arguments of the two sides in
-- turn. Where the parts of these steps lie.
use Rattle.std.specs.Prelude.{ℕ, zero, suc, ◌+◌, ◌<◌, ◌≤◌, ◌^◌, List, [], ◌∷◌, ◌++◌, length, take, drop}
use Rattle.std.proofs.Common.{ap, arith, length-append, take-append-drop}
use Rattle.room.specs.Room.{seg, put, Within}
use Rattle.room.specs.Parts.{Apart}
use Rattle.room.specs.Layout.{HEADER}
use Rattle.terms.specs.Bounds.{Bounds, FIRST_UNKNOWN}
use Rattle.rows.specs.declared.parts.Rest.{Rest}
use Rattle.rows.specs.declared.first.Subject.{Subject}
use Rattle.rows.specs.Bind.{FinishParts}
use Rattle.rows.specs.Terms.Ended.{term_end}

unfoldable pub postponed : List ℕ → Subject → ℕ → List ℕ
postponed r s entry = put r entry (s.x ∷ seg r s.by s.m)

pub record PostponeParts (l : List ℕ) (rest : Rest) (s : Subject) (entry to size next : ℕ) : Type 0 where
  pub parts : FinishParts l rest entry (s.m + 1) to 0 size FIRST_UNKNOWN next
  pub by_within : Within l s.by s.m
  pub by_apart : Apart s.by s.m entry (s.m + 1)

-- k terms of each side, in turn
unfoldable pub paired : Bounds → List ℕ → ℕ → (us vs : List ℕ) → List ℕ
paired b arities zero us vs = []
paired b arities (suc k) us vs =
    (take (term_end b arities us) us ++ take (term_end b arities vs) vs) ++ paired b arities k (drop (term_end b arities us) us) (drop (term_end b arities vs) vs)

-- they are no more words than the two sides have
pub length-paired : (b : Bounds) (arities : List ℕ) (k : ℕ) (us vs : List ℕ) → length (paired b arities k us vs) ≤ length us + length vs
unfolding paired
length-paired b arities zero us vs = omega arith
length-paired b arities (suc k) us vs =
    let e : ℕ = term_end b arities us in
    let g : ℕ = term_end b arities vs in
    omega (
      arith,
      length-append (take e us ++ take g vs) (paired b arities k (drop e us) (drop g vs)),
      length-append (take e us) (take g vs),
      ap length (take-append-drop e us),
      ap length (take-append-drop g vs),
      length-append (take e us) (drop e us),
      length-append (take g vs) (drop g vs),
      length-paired b arities k (drop e us) (drop g vs),
    )

-- the room with the argument equations written to the body of a row
unfoldable pub decomposed : Bounds → (arities r : List ℕ) → (k left n right m to : ℕ) → List ℕ
decomposed b arities r k left n right m to = put r (to + HEADER) (paired b arities k (seg r left n) (seg r right m))

pub record PairParts (l : List ℕ) (left n right m to : ℕ) : Type 0 where
  pub left_within : Within l left n
  pub right_within : Within l right m
  pub to_within : Within l to (n + m)
  pub left_apart : Apart left n to (n + m)
  pub right_apart : Apart right m to (n + m)
  pub small : length l < 2 ^ 32

pub record DecomposeParts (l : List ℕ) (rest : Rest) (left n right m to size next : ℕ) : Type 0 where
  pub pairs : PairParts l left n right m (to + HEADER)
  pub fits : n + m ≤ size
  pub parts : FinishParts l rest left 0 to 0 size FIRST_UNKNOWN next
