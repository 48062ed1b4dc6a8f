-- The number of a row's next child in two words, low and high.
use Rattle.std.specs.Prelude.{ℕ, ◌+◌, ◌*◌, ◌≤◌, ◌%◌, ◌/◌, ◌≡◌, refl, List, [], ◌∷◌, get_or}
use Rattle.std.proofs.Math.Nat.{mod-add-div}
use Rattle.std.proofs.Common.{arith}
use Rattle.room.specs.Room.{seg, put}
use Rattle.room.specs.Parts.{later, seg-put}
use Rattle.room.specs.Layout.{HEADER}

abbrev pub number_of : List ℕ → ℕ
number_of ws = get_or ws 0 0 + 65536 * get_or ws 1 0

unfoldable pub number_words : ℕ → List ℕ
number_words n = n % 65536 ∷ n / 65536 ∷ []

pub number-back : (n : ℕ) → number_of (number_words n) ≡ n
unfolding number_words
number-back n = mod-add-div n 65536

pub number_none : number_words 0 ≡ 0 ∷ 0 ∷ []
unfolding number_words
number_none = refl

-- a part after the header in which the number is written is as it was
pub part-after : (l : List ℕ) (at n to k : ℕ) → at + HEADER ≤ to → seg (put l (at + 5) (number_words n)) to k ≡ seg l to k
unfolding number_words
part-after l at n to k h = seg-put (number_words n) l (later (omega arith))
