-- What comes of labels of classes as places are compared (`Since`), step by step; what was settled stays so, and places of one label keep one.
use Rattle.std.specs.Prelude.{ℕ, ◌<◌, ◌≡◌, List, Bool, length, get_or}
use Rattle.std.proofs.Common.{sym, ◌∙◌}
use Rattle.term_places.specs.Places.{Held}
use Rattle.term_places.specs.Classes.{Classes, Coarser, Settled, Told}
use Rattle.term_places.specs.Relabelled.{coarser_itself, coarser_through}

-- what comes of labels that were those of classes
pub record Since (h : Held) (before labels : List ℕ) : Type 0 where
  pub long : length before ≡ length h.words
  pub classes : Classes h labels
  pub coarser : Coarser before labels

pub since_start : {h : Held} {labels : List ℕ} → Classes h labels → Since h labels labels
since_start c = record { long = c.long; classes = c; coarser = coarser_itself _ }

pub since_told : {h : Held} {before labels after : List ℕ} {truth answer : Bool} → Since h before labels → Told h labels after truth answer → Since h before after
since_told s t = record { long = s.long; classes = t.classes; coarser = coarser_through (s.long ∙ sym s.classes.long) s.coarser t.coarser }

pub told_since : {h : Held} {before labels : List ℕ} {truth answer : Bool} → Since h before labels → answer ≡ truth → Told h before labels truth answer
told_since s e = record { told = e; classes = s.classes; coarser = s.coarser }

pub since_length : {h : Held} {before labels : List ℕ} → Since h before labels → length labels ≡ length before
since_length s = s.classes.long ∙ sym s.long

-- what was settled stays so
pub settled_since : {h : Held} {settled before labels : List ℕ} → Since h before labels → Settled h settled before → Settled h settled labels
settled_since s d = record { joined = λ p q i j a b e. s.coarser.kept p q (rw s.long i) (rw s.long j) (d.joined p q i j a b e) }

pub settled-told : {h : Held} {settled before labels : List ℕ} {truth answer : Bool} → Classes h before → Told h before labels truth answer → Settled h settled before → Settled h settled labels
settled-told c t d = settled_since (since_told (since_start c) t) d

-- one label stays one
pub label_kept : {h : Held} {labels after : List ℕ} {truth answer : Bool} → Classes h labels → Told h labels after truth answer → {p q : ℕ} → p < length h.words → q < length h.words
    → get_or labels p 0 ≡ get_or labels q 0 → get_or after p 0 ≡ get_or after q 0
label_kept c t i j e = t.coarser.kept _ _ (rw c.long i) (rw c.long j) e
