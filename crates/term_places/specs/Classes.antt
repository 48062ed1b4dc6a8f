-- Labels of places: places with one label hold equal terms. What each step of a comparison tells, and how it leaves the labels.
use Rattle.std.specs.Prelude.{ℕ, ◌<◌, ◌≡◌, List, map, Bool, true, cond, eqb, length, get_or}
use Rattle.terms.specs.Lists.{all, any}
use Rattle.terms.specs.Term.{Term, members}
use Rattle.terms.specs.Bounds.{MEMBER}
use Rattle.laws.specs.Equal.{equal, is_in, each_in}
use Rattle.term_places.specs.Places.{Held, valued, Placed, Known, Has}

pub record Classes (h : Held) (labels : List ℕ) : Type 0 where
  pub long : length labels ≡ length h.words
  pub alike : (p q : ℕ) → p < length h.words → q < length h.words → get_or labels p 0 ≡ get_or labels q 0 → equal (valued h p) (valued h q) ≡ true

-- A table that is lent settles the places where it has a number below 65,535: those of them that hold equal terms have one label.
pub record IsSettled (settled : List ℕ) (p : ℕ) : Type 0 where
  pub inside : p < length settled
  pub below : get_or settled p 0 < 65535

pub record Settled (h : Held) (settled labels : List ℕ) : Type 0 where
  pub joined : (p q : ℕ) → p < length h.words → q < length h.words → IsSettled settled p → IsSettled settled q → equal (valued h p) (valued h q) ≡ true
      → get_or labels p 0 ≡ get_or labels q 0

pub record TellsSettled (settled : List ℕ) (p : ℕ) (answer : Bool) : Type 0 where
  pub yes : answer ≡ true → IsSettled settled p

pub record BothSettled (settled : List ℕ) (p q : ℕ) (answer : Bool) : Type 0 where
  pub left : answer ≡ true → IsSettled settled p
  pub right : answer ≡ true → IsSettled settled q

pub record Cleared (before after : List ℕ) : Type 0 where
  pub long : length after ≡ length before
  pub none : (p : ℕ) → p < length before → get_or after p 0 ≡ 65535

-- before any is compared
pub record EachItsOwn (labels : List ℕ) : Type 0 where
  pub own : (p : ℕ) → p < length labels → get_or labels p 0 ≡ p

-- places of one class stay so
pub record Coarser (before after : List ℕ) : Type 0 where
  pub kept : (p q : ℕ) → p < length before → q < length before → get_or before p 0 ≡ get_or before q 0 → get_or after p 0 ≡ get_or after q 0

-- the label `old` gives way to `new`
unfoldable pub relabel : ℕ → ℕ → ℕ → ℕ
relabel old new label = cond (eqb label old) new label

unfoldable pub relabelled : ℕ → ℕ → List ℕ → List ℕ
relabelled old new labels = map (relabel old new) labels

-- the answer, and labels that are those of classes again
pub record Told (h : Held) (before after : List ℕ) (truth answer : Bool) : Type 0 where
  pub told : answer ≡ truth
  pub classes : Classes h after
  pub coarser : Coarser before after

-- what is equal to m among the members at q has m's label; and so for each member at p
pub record Joined (h : Held) (labels : List ℕ) (m q : ℕ) : Type 0 where
  pub labelled : (y : ℕ) → Has h q y → equal (valued h m) (valued h y) ≡ true → get_or labels m 0 ≡ get_or labels y 0

pub record AllJoined (h : Held) (labels : List ℕ) (p q : ℕ) : Type 0 where
  pub each : (x : ℕ) → Has h p x → Joined h labels x q

-- does some of xs equal y? and so for each of ys
unfoldable pub some_equals : List Term → Term → Bool
some_equals xs y = any (λ x. equal x y) xs

unfoldable pub each_equalled : List Term → List Term → Bool
each_equalled xs ys = all (λ y. some_equals xs y) ys

-- ---- what the steps of a comparison start from

pub record Comparing (h : Held) (labels : List ℕ) (p q : ℕ) : Type 0 where
  pub placed : Placed h
  pub classes : Classes h labels
  pub left : Known h p
  pub right : Known h q

-- two kernels
pub record ComparingKernels (h : Held) (labels : List ℕ) (p q : ℕ) : Type 0 where
  pub comparing : Comparing h labels p q
  pub left_closed : get_or h.words p 0 ≡ MEMBER → ⊥
  pub right_closed : get_or h.words q 0 ≡ MEMBER → ⊥

-- every member at p was compared with every one at q; with one of q's, the one at m
pub record Compared (h : Held) (labels : List ℕ) (p q : ℕ) : Type 0 where
  pub comparing : Comparing h labels p q
  pub joined : AllJoined h labels p q

pub record ComparedWith (h : Held) (labels : List ℕ) (p m : ℕ) : Type 0 where
  pub comparing : Comparing h labels p m
  pub labelled : (x : ℕ) → Has h p x → equal (valued h x) (valued h m) ≡ true → get_or labels x 0 ≡ get_or labels m 0

-- ---- what they tell

-- of two places: the answer, and one label where it is yes
pub record Same (h : Held) (before after : List ℕ) (p q : ℕ) (answer : Bool) : Type 0 where
  pub told : Told h before after (equal (valued h p) (valued h q)) answer
  pub joined : answer ≡ true → get_or after p 0 ≡ get_or after q 0

-- of the term at m and the members at q
pub record Meets (h : Held) (before after : List ℕ) (m q : ℕ) (answer : Bool) : Type 0 where
  pub told : Told h before after (is_in (valued h m) (members (valued h q))) answer
  pub joined : Joined h after m q

-- of the members at p and those at q
pub record EachMeets (h : Held) (before after : List ℕ) (p q : ℕ) (answer : Bool) : Type 0 where
  pub told : Told h before after (each_in (members (valued h p)) (members (valued h q))) answer
  pub joined : answer ≡ true → AllJoined h after p q
