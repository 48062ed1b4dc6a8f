-- What stands at a place of words that hold terms, with a value for each unknown further on in the same words: the term at a place, where it
-- ends, the term with the values put in, and the places of a set's members.
use Rattle.std.specs.Prelude.{ℕ, ◌+◌, ◌*◌, ◌<◌, ◌≤◌, ◌≡◌, List, length, get_or, drop}
use Rattle.terms.specs.Bounds.{Bounds, edition_one, SYMBOLS, MEMBER}
use Rattle.terms.specs.Kind.{kind, Worded}
use Rattle.terms.specs.Lists.{All}
use Rattle.terms.specs.Term.{Term, size, kernel}
use Rattle.terms.specs.Formed.{Formed, row}
use Rattle.terms.specs.Reading.{read, top}
use Rattle.terms.specs.declared.kind.Kind.{Kind}
use Rattle.terms.specs.declared.kind.Kind.TheVariants.{Empty, Member, Unknown, Functor, Nothing}
use Rattle.laws.specs.Values.{Values, value}

-- ---- words that hold terms

-- the most places that there are: those of a question's words and of its values'
abbrev pub PLACES : ℕ
PLACES = 2 * SYMBOLS

-- the terms from a place on, the term at a place, and where it ends
unfoldable pub terms_from : Bounds → List ℕ → List ℕ → ℕ → List Term
terms_from b arities ws p = read b arities (drop p ws)

unfoldable pub tree : Bounds → List ℕ → List ℕ → ℕ → Term
tree b arities ws p = top (terms_from b arities ws p)

unfoldable pub end : Bounds → List ℕ → List ℕ → ℕ → ℕ
end b arities ws p = p + size (tree b arities ws p)

-- the words are those of formed terms
pub record Terms (b : Bounds) (arities : List ℕ) (n : ℕ) (ws : List ℕ) : Type 0 where
  pub limits : Worded b arities n
  pub terms : List Term
  pub formed : All (Formed arities n) terms
  pub worded : row b terms ≡ ws

-- ---- with values

-- words and where in them each unknown's value starts
pub record Held : Type 0 where
  pub bounds : Bounds
  pub arities : List ℕ
  pub words : List ℕ
  pub starts : List ℕ

abbrev pub held : List ℕ → List ℕ → List ℕ → Held
held arities words starts = record { bounds = edition_one; arities = arities; words = words; starts = starts }

unfoldable pub values : Held → Values
values h i = tree h.bounds h.arities h.words (get_or h.starts i 0)

-- the term at a place with the values put in
unfoldable pub valued : Held → ℕ → Term
valued h p = value (values h) (tree h.bounds h.arities h.words p)

-- formed terms, and for each unknown a ground value among them
pub record Placed (h : Held) : Type 0 where
  pub terms : Terms h.bounds h.arities (length h.starts) h.words
  pub inside : (i : ℕ) → i < length h.starts → get_or h.starts i 0 < length h.words
  pub grounded : (i : ℕ) → i < length h.starts → Formed h.arities 0 (values h i)

-- a place where no unknown stands
pub record Known (h : Held) (p : ℕ) : Type 0 where
  pub inside : p < length h.words
  pub no_unknown : (i : ℕ) → i < length h.starts → get_or h.words p 0 ≡ h.bounds.first_unknown + i → ⊥

-- where an unknown stands, on to its value
unfoldable pub on_to : List ℕ → ℕ → Kind → ℕ
on_to starts p Empty = p
on_to starts p Member = p
on_to starts p (Unknown i) = get_or starts i 0
on_to starts p (Functor k) = p
on_to starts p Nothing = p

unfoldable pub resolved : Bounds → List ℕ → List ℕ → ℕ → ℕ
resolved b ws starts p = on_to starts p (kind b (get_or ws p 0))

pub record Resolvable (b : Bounds) (ws starts : List ℕ) (p : ℕ) : Type 0 where
  pub inside : p < length ws
  pub valued : b.first_unknown ≤ get_or ws p 0 → get_or ws p 0 < b.first_unknown + b.unknown_words → get_or ws p 0 < b.first_unknown + length starts

-- where a member adding stands: the places of its member and of its rest
unfoldable pub member_of : Held → ℕ → ℕ
member_of h p = resolved h.bounds h.words h.starts (p + 1)

unfoldable pub rest_of : Held → ℕ → ℕ
rest_of h p = resolved h.bounds h.words h.starts (end h.bounds h.arities h.words (p + 1))

-- x is the place of a member of the set at p
pub data Has (h : Held) : ℕ → ℕ → Type 0 where
  first : {p : ℕ} → get_or h.words p 0 ≡ MEMBER → Has h p (member_of h p)
  later : {p x : ℕ} → get_or h.words p 0 ≡ MEMBER → Has h (rest_of h p) x → Has h p x

-- ---- what the steps of a comparison start from

pub record AtPlace (h : Held) (p : ℕ) : Type 0 where
  pub placed : Placed h
  pub known : Known h p

-- a member adding stands there
pub record AtMember (h : Held) (p : ℕ) : Type 0 where
  pub placed : Placed h
  pub inside : p < length h.words
  pub member : get_or h.words p 0 ≡ MEMBER

-- k is the place of the kernel of the term at p
pub record KernelOf (h : Held) (p k : ℕ) : Type 0 where
  pub known : Known h k
  pub closed : get_or h.words k 0 ≡ MEMBER → ⊥
  pub kernel : valued h k ≡ kernel (valued h p)
