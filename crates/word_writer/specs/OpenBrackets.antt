-- The brackets that are open while a term is written, the innermost first; what a finished term closes; the stack that holds them in the code, the innermost last.
use Rattle.std.specs.Prelude.{ℕ, zero, suc, List, [], ◌∷◌, get_or, Option, Some, None}
use Rattle.word_writer.specs.declared.bracket.Bracket.{Bracket}
use Rattle.word_writer.specs.declared.bracket.Bracket.TheVariants.{Member, Rest, Tail, Arguments}

-- what a finished term writes: the brackets that it closes, and the comma before a further argument
unfoldable pub closing : List Bracket → List ℕ
closing [] = []
closing (Member ∷ bs) = []
closing (Rest ∷ bs) = []
closing (Tail ∷ bs) = 125 ∷ closing bs
closing (Arguments zero ∷ bs) = 41 ∷ closing bs
closing (Arguments (suc n) ∷ bs) = 44 ∷ []

-- and the brackets that stay open
unfoldable pub closed : List Bracket → List Bracket
closed [] = []
closed (Member ∷ bs) = Rest ∷ bs
closed (Rest ∷ bs) = Rest ∷ bs
closed (Tail ∷ bs) = closed bs
closed (Arguments zero ∷ bs) = closed bs
closed (Arguments (suc n) ∷ bs) = Arguments n ∷ bs

-- what is due in the innermost bracket, where one is open
unfoldable pub innermost : List Bracket → Option Bracket
innermost [] = None
innermost (due ∷ bs) = Some due

-- the first d brackets of the code's stack, where the innermost is the last
unfoldable pub brackets : List Bracket → ℕ → List Bracket
brackets stack zero = []
brackets stack (suc d) = get_or stack d Member ∷ brackets stack d
