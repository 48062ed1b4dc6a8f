-- The entries of a pile in words: each is an unknown's word and then a term's words. Some of them are selected by their unknown: those of x, or the
-- others. Then the same said of the pile's trees.
use Prim.Native.Nat.{ℕ, zero, suc, ◌+◌}
use Rattle.std.specs.Prelude.{◌≡◌, Bool, not, eqb, take, drop}
use Rattle.std.proofs.Math.Path.{refl, ap}
use Rattle.std.proofs.Common.{sym, ◌∙◌}
use mathlib.Core.List.{List, [], ◌∷◌, ◌++◌, append_assoc}
use Rattle.std.proofs.Math.Bool.{true, false}
use Rattle.std.proofs.Math.ListN.{length}
use Rattle.std.proofs.Math.Seq.{take_at, drop_at}
use Rattle.terms.specs.Bounds.{Bounds}
use Rattle.terms.specs.Kind.{takes, Worded}
use Rattle.terms.specs.Term.{words, size}
use Rattle.terms.specs.Formed.{Formed}
use Rattle.terms.specs.Lists.{All, none, both, any, or_neither, cases}
use Rattle.terms.specs.Laws.Flat.{length_words, eqb_shift}
use Rattle.terms.specs.Laws.Walk.{span}
use Rattle.terms.proofs.Walk.{term_ends}
use Rattle.search.specs.State.{Entry}
use Rattle.search.specs.Children.{entries, others}
use Rattle.search.specs.StateWords.{pile_words}
use Rattle.rows.specs.declared.parts.Part.{Part}
use Rattle.rows.specs.declared.parts.Part.TheVariants.{Entries, Others}
use Rattle.rows.specs.Terms.HeldWords.{holds}
use Rattle.rows.specs.Terms.Ended.{term_end}

-- is the entry of an unknown wanted?
unfoldable pub wants : Part → ℕ → ℕ → Bool
wants Entries name x = eqb name x
wants Others name x = not (eqb name x)

unfoldable pub also : Bool → ℕ → List ℕ → List ℕ
also true w ws = w ∷ ws
also false w ws = ws

unfoldable pub kept : Bool → List ℕ → List ℕ
kept true ws = ws
kept false ws = []

-- so many terms of an entry are due, and it is wanted or not
unfoldable pub selected : Bounds → List ℕ → Part → ℕ → (due : ℕ) → Bool → List ℕ → List ℕ
selected b arities part x due keep [] = []
selected b arities part x zero keep (w ∷ ws) = also (wants part w x) w (selected b arities part x 1 (wants part w x) ws)
selected b arities part x (suc due) keep (w ∷ ws) = also keep w (selected b arities part x (due + takes b arities w) keep ws)

abbrev pub selection : Bounds → List ℕ → Part → ℕ → List ℕ → List ℕ
selection b arities part x ws = selected b arities part x 0 false ws

module _ (b : Bounds) (arities : List ℕ) (part : Part) (x : ℕ) where
  -- where an entry begins, nothing is known of it
  selected-start : (keep : Bool) (ws : List ℕ) → selected b arities part x 0 keep ws ≡ selection b arities part x ws
  unfolding selected
  selected-start keep [] = refl
  selected-start keep (w ∷ ws) = refl

  also_kept : (keep : Bool) (w : ℕ) (us vs : List ℕ) → also keep w (kept keep us ++ vs) ≡ kept keep (w ∷ us) ++ vs
  unfolding also kept
  also_kept true w us vs = refl
  also_kept false w us vs = refl

  -- the rest of an entry, and then the next one
  selected-rest : (ws : List ℕ) (due : ℕ) (keep : Bool)
      → selected b arities part x due keep ws ≡ kept keep (take (span b arities ws due) ws) ++ selection b arities part x (drop (span b arities ws due) ws)
  unfolding selected span kept
  selected-rest [] due true = refl
  selected-rest [] due false = refl
  selected-rest (w ∷ ws) zero true = refl
  selected-rest (w ∷ ws) zero false = refl
  selected-rest (w ∷ ws) (suc due) keep =
      rw (selected-rest ws (due + takes b arities w) keep) (also_kept keep w _ _)

  -- the first entry, and then the others
  pub selection-entry : (w : ℕ) (ws : List ℕ) → selection b arities part x (w ∷ ws)
      ≡ kept (wants part w x) (w ∷ take (term_end b arities ws) ws) ++ selection b arities part x (drop (term_end b arities ws) ws)
  unfolding selected
  selection-entry w ws =
      ap (also (wants part w x) w) (selected-rest ws 1 (wants part w x)) ∙ also_kept (wants part w x) w _ _

  pub selection-nil : selection b arities part x [] ≡ []
  unfolding selected
  selection-nil = refl

  also-all : (keep : Bool) (w : ℕ) (ws : List ℕ) → also keep w (kept keep ws) ≡ kept keep (w ∷ ws)
  unfolding also kept
  also-all true w ws = refl
  also-all false w ws = refl

  -- x is none of the words, so that one answer serves all entries
  selected_alike : (keep : Bool) → ((w : ℕ) → eqb w x ≡ false → wants part w x ≡ keep) → (ws : List ℕ) (due : ℕ) → holds x ws ≡ false
      → selected b arities part x due keep ws ≡ kept keep ws
  unfolding selected holds any kept
  selected_alike true f [] due h = refl
  selected_alike false f [] due h = refl
  selected_alike keep f (w ∷ ws) zero h =
      let n = or_neither (eqb w x) (holds x ws) h in
      rw (f w n.0, selected_alike keep f ws 1 n.1) (also-all keep w ws)
  selected_alike keep f (w ∷ ws) (suc due) h =
      let n = or_neither (eqb w x) (holds x ws) h in
      rw (selected_alike keep f ws (due + takes b arities w) n.1) (also-all keep w ws)

-- no entry is x's, and all are others
pub entries_absent : (b : Bounds) (arities : List ℕ) (x : ℕ) (ws : List ℕ) → holds x ws ≡ false → selection b arities Entries x ws ≡ []
unfolding wants kept
entries_absent b arities x ws h = selected_alike b arities Entries x false (λ w e. e) ws 0 h

pub others_absent : (b : Bounds) (arities : List ℕ) (x : ℕ) (ws : List ℕ) → holds x ws ≡ false → selection b arities Others x ws ≡ ws
unfolding wants kept
others_absent b arities x ws h = sym (selected-start b arities Others x true ws) ∙ selected_alike b arities Others x true (λ w e. rw e) ws 0 h

-- ---- the pile's trees

pub pile_append : (b : Bounds) (ms ns : List Entry) → pile_words b (ms ++ ns) ≡ pile_words b ms ++ pile_words b ns
unfolding pile_words
pile_append b [] ns = refl
pile_append b (m ∷ ms) ns = ap (λ ws. (b.first_unknown + m.name) ∷ ws) (ap (λ ws. words b m.term ++ ws) (pile_append b ms ns) ∙ sym (append_assoc (words b m.term) (pile_words b ms) (pile_words b ns)))

-- the entries of x, or the others
unfoldable pub chosen : Part → ℕ → List Entry → List Entry
chosen Entries x ns = entries x ns
chosen Others x ns = others x ns

module _ {b : Bounds} {arities : List ℕ} {k : ℕ} (worded : Worded b arities k) (x : ℕ) where
  -- the first entry's words, where it is wanted, before those of the others
  chosen-entry : (part : Part) (n : Entry) (ns : List Entry)
      → pile_words b (chosen part x (n ∷ ns)) ≡ kept (wants part (b.first_unknown + n.name) (b.first_unknown + x)) ((b.first_unknown + n.name) ∷ words b n.term) ++ pile_words b (chosen part x ns)
  unfolding chosen entries others pile_words wants kept
  chosen-entry Entries n ns = rw (eqb_shift b.first_unknown n.name x) (cases (eqb n.name x) (λ t. rw t) (λ f. rw f))
  chosen-entry Others n ns = rw (eqb_shift b.first_unknown n.name x) (cases (eqb n.name x) (λ t. rw t) (λ f. rw f))

  pub selection_pile : (part : Part) {ns : List Entry} → All (λ n. Formed arities k n.term) ns
      → selection b arities part (b.first_unknown + x) (pile_words b ns) ≡ pile_words b (chosen part x ns)
  unfolding selected chosen entries others pile_words
  selection_pile Entries none = refl
  selection_pile Others none = refl
  selection_pile part (both {x = n} {xs = ns} f fs) =
      let e : term_end b arities (words b n.term ++ pile_words b ns) ≡ size n.term = term_ends worded f (pile_words b ns) in
      let l : length (words b n.term) ≡ size n.term = length_words b n.term in
      selection-entry b arities part (b.first_unknown + x) (b.first_unknown + n.name) (words b n.term ++ pile_words b ns)
      ∙ rw (e, take_at (words b n.term) (pile_words b ns) (size n.term) l, drop_at (words b n.term) (pile_words b ns) (size n.term) l, selection_pile part fs)
      (sym (chosen-entry part n ns))
