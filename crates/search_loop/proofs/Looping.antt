-- The loop over turns: what a turn leaves is what the loop goes on from, with less before it.
use Prim.Native.Nat.{ℕ, ◌+◌, ◌-◌, ◌≤◌, ◌<◌}
use mathlib.Core.Path.{◌≡◌, ap, ◌∙◌}
use mathlib.Core.List.{List}
use Rattle.std.proofs.Common.{Option, None, Continue, Break}
use native.Mathlib.Omega.{arith}
use lib.ListN.{length}
use Rattle.search.specs.declared.limits.Limits.{Limits}
use Rattle.results.specs.declared.ran.Record.{Record}
use Rattle.results.specs.declared.ran.Ending.{Ending}
use Rattle.visits.specs.declared.node.Place.{Place}
use Rattle.visits.specs.DueNode.{Turn}
use Rattle.search_turn.specs.Running.{Given, Running, Turned, goes, ends, Ends}

-- what is before a search: the rows above, and twice the steps that are left
abbrev pub before : Limits → ℕ → Record → ℕ
before limits level r = level + ((limits.steps - r.visited) + (limits.steps - r.visited))

-- a search goes on, and the same is to be given as at first
pub record Looping (arities : List ℕ) (limits : Limits) (l₀ a₀ : List ℕ) (r₀ : Record) (l a : List ℕ) (level : ℕ) (shown : Option ℕ) (r : Record) : Type 0 where
  pub room_long : length l ≡ length l₀
  pub answers_long : length a ≡ length a₀
  pub to : Given
  pub running : Running arities limits l a level shown r to
  pub same : (given : Given) → Running arities limits l₀ a₀ 0 None r₀ given → Running arities limits l a level shown r given

module _ {arities : List ℕ} {limits : Limits} {l a : List ℕ} {level : ℕ} {shown₁ : Option ℕ} {r : Record} {to : Given} where
  went_on : {p : Place} → Turned arities limits l a level r to (Continue p) shown₁ → Running arities limits l a p.level shown₁ p.counts to
  went_on (goes R f) = R

  fell : {p : Place} → r.visited ≤ limits.steps → Turned arities limits l a level r to (Continue p) shown₁ → before limits p.level p.counts < before limits level r
  fell s (goes R f) = omega (arith, R.steps)

  ended : {e : Ending} → Turned arities limits l a level r to (Break e) shown₁ → Ends to e a
  ended (ends e) = record { ending = ap (λ (g : Given). g.ending) e; answers = ap (λ (g : Given). g.answers) e }

module _ {arities : List ℕ} {limits : Limits} {l₀ a₀ : List ℕ} {r₀ : Record} {l a : List ℕ} {level : ℕ} {shown : Option ℕ} {r : Record} (L : Looping arities limits l₀ a₀ r₀ l a level shown r) {t : Turn} {shown₁ : Option ℕ} {l₁ a₁ : List ℕ}
    (turned : (to : Given) → Running arities limits l a level shown r to → Turned arities limits l₁ a₁ level r to t shown₁) where
  pub less : {p : Place} → t ≡ Continue p → before limits p.level p.counts < before limits level r
  less e = fell L.running.steps (rw e at (turned L.to L.running))

  pub again : {p : Place} → length l₁ ≡ length l → length a₁ ≡ length a → t ≡ Continue p → Looping arities limits l₀ a₀ r₀ l₁ a₁ p.level shown₁ p.counts
  again m n e = record { room_long = m ∙ L.room_long; answers_long = n ∙ L.answers_long; to = L.to; running = went_on (rw e at (turned L.to L.running)); same = λ given R. went_on (rw e at (turned given (L.same given R))) }

  pub ends_so : {e : Ending} → t ≡ Break e → (to : Given) → Running arities limits l₀ a₀ 0 None r₀ to → Ends to e a₁
  ends_so e to R = ended (rw e at (turned to (L.same to R)))
