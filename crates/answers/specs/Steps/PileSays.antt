-- What the pile says: an entry x = {ms|x} holds exactly if the values of ms are members of x's value. So all entries of x together say that of all
-- their members, joined.
use Rattle.std.specs.Prelude.{ℕ, ◌≡◌}
use mathlib.Core.List.{List, [], ◌∷◌, map, flat_map, map-append}
use Rattle.terms.specs.Lists.{All, none, both, All-map, All-both, All-append, All-front, All-back, Any-map}
use Rattle.terms.specs.Term.{Term, members, over}
use Rattle.search.specs.State.{Entry}
use Rattle.laws.specs.Laws.{◌≈◌, ≈sym, Within}
use Rattle.laws.specs.Values.{Values, value}
use Rattle.laws.proofs.Agree.{apart}
use Rattle.laws.proofs.Members.{members-over, absorbed}
use Rattle.laws.proofs.Tails.{contained}
use Rattle.search.specs.Children.{entries, joined}
use Rattle.search.specs.PileEntries.{All-entries}
use Rattle.answers.specs.Steps.Meaning.{HoldsEntry, written}
use Rattle.answers.specs.Steps.Kept.{FormedEntry}

-- a set has the members it is written with
pub has_members : {x : Term} (ms : List Term) (y : Term) → x ≈ over ms y → Within ms (members x)
has_members ms y h = All-front ms (members y) (rw (members-over ms y) at (All-map (λ z l. Any-map (λ w e. ≈sym e) l) (apart h).back))

module _ (σ : Values) where
  entry-met : {arities : List ℕ} {n : ℕ} {e : Entry} → FormedEntry arities n e → Within (map (value σ) (members e.term)) (members (σ e.name)) → HoldsEntry σ e
  unfolding value
  entry-met {e = e} f h = rw (written σ e.term, f.tail) (≈sym (absorbed (σ e.name) h))

  entry-members : {arities : List ℕ} {n : ℕ} {e : Entry} → FormedEntry arities n e → HoldsEntry σ e → Within (map (value σ) (members e.term)) (members (σ e.name))
  unfolding value
  entry-members {e = e} f h = contained (rw (written σ e.term, f.tail) at h)

  -- the members of all entries, and those of each
  apart_each : {ms : List Term} (es : List Entry) → Within (map (value σ) (flat_map (λ e. members e.term) es)) ms → All (λ e. Within (map (value σ) (members e.term)) ms) es
  unfolding flat_map
  apart_each [] h = none
  apart_each (e ∷ es) h =
      let front : List Term = map (value σ) (members e.term) in
      let k = rw (map-append (value σ) (members e.term) (flat_map (λ e. members e.term) es)) at h in
      both (All-front front _ k) (apart_each es (All-back front _ k))

  together_each : {ms : List Term} {es : List Entry} → All (λ e. Within (map (value σ) (members e.term)) ms) es → Within (map (value σ) (flat_map (λ e. members e.term) es)) ms
  unfolding flat_map
  together_each none = none
  together_each (both {x = e} {xs = es} h hs) = rw (map-append (value σ) (members e.term) (flat_map (λ e. members e.term) es)) (All-append h (together_each hs))

  -- all entries of x
  pub entries-met : {arities : List ℕ} {n : ℕ} (x : ℕ) {ns : List Entry} → All (FormedEntry arities n) ns → Within (map (value σ) (joined x ns)) (members (σ x))
      → All (λ e. e.name ≡ x → HoldsEntry σ e) (entries x ns)
  unfolding joined
  entries-met {arities} {n} x {ns} f h = All-map go (All-both (All-entries x f) (apart_each (entries x ns) h))
    where
      go : (e : Entry) → ((e.name ≡ x) × FormedEntry arities n e) × Within (map (value σ) (members e.term)) (members (σ x)) → e.name ≡ x → HoldsEntry σ e
      go e p same = entry-met p.0.1 (rw same p.1)

  pub joined-members : {arities : List ℕ} {n : ℕ} (x : ℕ) {ns : List Entry} → All (FormedEntry arities n) ns → All (HoldsEntry σ) ns → Within (map (value σ) (joined x ns)) (members (σ x))
  unfolding joined
  joined-members {arities} {n} x f h = together_each (All-map go (All-entries x (All-both f h)))
    where
      go : (e : Entry) → (e.name ≡ x) × (FormedEntry arities n e × HoldsEntry σ e) → Within (map (value σ) (members e.term)) (members (σ x))
      go e p = rw p.0 at (entry-members p.1.0 p.1.1)
