-- A term's text, word by word: what each word writes, and which brackets are open after it.
-- `Tied` proves that this walk over the words of a term writes the text of the term.
use Rattle.std.specs.Prelude.{ℕ, zero, suc, ◌+◌, List, [], ◌∷◌, ◌++◌, ltb, length, get_or, drop, Option, Some, None, Result, Ok, Err}
use Rattle.terms.specs.Bounds.{Bounds}
use Rattle.terms.specs.Kind.{kind}
use Rattle.terms.specs.declared.kind.Kind.{Kind}
use Rattle.terms.specs.declared.kind.Kind.TheVariants as kinds
use Rattle.text.specs.Text.{choose, unknown_name, functor_name}
use Rattle.word_writer.specs.OpenBrackets.{closing, closed}
use Rattle.word_writer.specs.declared.bracket.Bracket.{Bracket}
use Rattle.word_writer.specs.declared.bracket.Bracket.TheVariants.{Member, Rest, Tail, Arguments}
use Rattle.word_writer.specs.Pen.{Wrote}
use Rattle.word_writer.specs.declared.begin.Symbol.{Symbol}
use Rattle.word_writer.specs.declared.begin.Symbol.TheVariants.{Empty, Adding, Unknown, Functor}
use Rattle.word_writer.specs.declared.put.Passage.{Passage}
use Rattle.word_writer.specs.declared.put.TooDeep.{TooDeep}

-- what a word stands for, a functor with the number of its arguments; in words that form terms, none stands for nothing
unfoldable pub symbol_of : List ℕ → Kind → Symbol
symbol_of arities kinds.Empty = Empty
symbol_of arities kinds.Member = Adding
symbol_of arities (kinds.Unknown i) = Unknown i
symbol_of arities (kinds.Functor k) = Functor k (get_or arities k 0)
symbol_of arities kinds.Nothing = Empty

unfoldable pub symbol : Bounds → List ℕ → ℕ → Symbol
symbol b arities w = symbol_of arities (kind b w)

-- a word writes bytes and leaves brackets open, or would open one too many
pub data Writes : Type 0 where
  writes : List ℕ → List Bracket → Writes
  deep : Writes

unfoldable pub after : List ℕ → Writes → Writes
after us (writes vs bs) = writes (us ++ vs) bs
after us deep = deep

-- one bracket more, where at most so many may be open
unfoldable pub opens : ℕ → List ℕ → Bracket → List Bracket → Writes
opens limit bytes due bs = choose (ltb (length bs) limit) (λ _. writes bytes (due ∷ bs)) (λ _. deep)

-- a word that begins a term
unfoldable pub begins : ℕ → Symbol → List Bracket → Writes
begins limit Empty bs = writes (123 ∷ 125 ∷ closing bs) (closed bs)
begins limit Adding bs = opens limit (123 ∷ []) Member bs
begins limit (Unknown i) bs = writes (unknown_name i ++ closing bs) (closed bs)
begins limit (Functor k zero) bs = writes (functor_name k ++ closing bs) (closed bs)
begins limit (Functor k (suc n)) bs = opens limit (functor_name k ++ (40 ∷ [])) (Arguments n) bs

-- a word where the rest of a set is due: a further member, no tail, or the tail
unfoldable pub continues : ℕ → Symbol → List Bracket → Writes
continues limit Empty bs = writes (closing (Tail ∷ bs)) (closed (Tail ∷ bs))
continues limit Adding bs = writes (44 ∷ []) (Member ∷ bs)
continues limit (Unknown i) bs = after (124 ∷ []) (begins limit (Unknown i) (Tail ∷ bs))
continues limit (Functor k n) bs = after (124 ∷ []) (begins limit (Functor k n) (Tail ∷ bs))

unfoldable pub word : ℕ → Symbol → List Bracket → Writes
word limit s [] = begins limit s []
word limit s (Member ∷ bs) = begins limit s (Member ∷ bs)
word limit s (Rest ∷ bs) = continues limit s bs
word limit s (Tail ∷ bs) = begins limit s (Tail ∷ bs)
word limit s (Arguments n ∷ bs) = begins limit s (Arguments n ∷ bs)

-- a walk ends before a word, with all its bytes written; or a word would open a bracket too many
pub data Walk : Type 0 where
  ended : ℕ → List ℕ → Walk
  too_deep : ℕ → Walk

unfoldable pub prepend : List ℕ → Walk → Walk
prepend us (ended p vs) = ended p (us ++ vs)
prepend us (too_deep p) = too_deep p

-- on from where a walk ends
unfoldable pub then : Walk → (ℕ → Walk) → Walk
then (ended p us) on = prepend us (on p)
then (too_deep p) on = too_deep p

-- a term has ended where no bracket is open
unfoldable pub onward : ℕ → (List Bracket → Walk) → List Bracket → Walk
onward p go [] = ended p []
onward p go (due ∷ bs) = go (due ∷ bs)

unfoldable pub next : Writes → ℕ → (List Bracket → Walk) → Walk
next (writes bytes bs) p go = prepend bytes (onward (p + 1) go bs)
next deep p go = too_deep p

-- the words from place p on
unfoldable pub walk : Bounds → List ℕ → ℕ → List ℕ → List Bracket → Walk
walk b arities p [] bs = ended p []
walk b arities p (w ∷ ws) bs = next (word b.nesting (symbol b arities w) bs) p (walk b arities (p + 1) ws)

-- the term that begins at a place
unfoldable pub term_at : Bounds → List ℕ → List ℕ → ℕ → Walk
term_at b arities ws p = walk b arities p (drop p ws) []

-- ---- what the code owes for each

pub data Stepped (text₀ : List ℕ) (at : ℕ) : Writes → Option ℕ → List Bracket → List ℕ → Type 0 where
  went_on : {bytes : List ℕ} {bs : List Bracket} {next : ℕ} {text : List ℕ} → Wrote text₀ at bytes text next → Stepped text₀ at (writes bytes bs) (Some next) bs text
  was_deep : {bs : List Bracket} {text : List ℕ} → Stepped text₀ at deep None bs text

pub data Passed (text₀ : List ℕ) (at : ℕ) : Walk → Result Passage TooDeep → List ℕ → Type 0 where
  was_ended : {passage : Passage} {bytes text : List ℕ} → Wrote text₀ at bytes text passage.at → Passed text₀ at (ended passage.word bytes) (Ok passage) text
  was_too_deep : {too : TooDeep} {text : List ℕ} → Passed text₀ at (too_deep too.word) (Err too) text
