-- A row of the room that holds a state: a header of eight words, then the words of the state's sections. What is left of it after its first equation, and what a
-- function that makes a child says: the child's row holds the child, and the rows before it are as they were.
use Prim.Native.Nat.{ℕ, ◌+◌, ◌-◌, ◌≤◌}
use Rattle.std.specs.Prelude.{◌≡◌, refl, cond, ltb, leb, take, drop}
use Rattle.std.proofs.Math.Path.{ap, sym}
use Rattle.std.proofs.Common.{◌∙◌, arith, length-append}
use mathlib.Core.List.{List, [], ◌∷◌, ◌++◌}
use Rattle.std.proofs.Math.ListN.{length}
use borrow.Author.Tests.{le-ltb, leb-true}
use Rattle.room.specs.Room.{seg, put, Within, length-put, length-seg, seg-append, seg-put_same, take-seg, drop-seg}
use Rattle.room.specs.Parts.{Apart, earlier, later, seg-put}
use Rattle.room.specs.Layout.{HEADER, stride}
use Rattle.terms.specs.Bounds.{Bounds}
use Rattle.terms.specs.Lists.{cases}
use Rattle.search.specs.State.{State, Node, dead, live, state_size}
use Rattle.search.specs.StateWords.{Pending, Pile, Bindings, section_words, state_words, length_state}
use Rattle.rows.specs.declared.parts.Rest.{Rest}
use Rattle.rows.specs.declared.parts.Made.{Made}
use Rattle.rows.specs.declared.parts.Made.TheVariants.{Dead, Names, Large, Live}
use Rattle.rows.specs.declared.header.Header.{Header}
use Rattle.rows.specs.Header.{header_of}
use Rattle.rows.specs.Sections.{section_count, section_in}
use Rattle.rows.specs.Finished.{Finished, made, finished_length}

-- the numbers of a state's header
unfoldable pub header_for : State → Header
header_for st = record {
  pending = section_count st Pending;
  pile = section_count st Pile;
  body = state_size st;
  bindings = section_count st Bindings;
  next = st.next;
}

-- the words of the header that tell of the state, and those that tell of its children: the next child's number, low and high, and the mark
unfoldable pub header_words : Header → List ℕ
header_words h = h.pending ∷ h.pile ∷ h.body ∷ h.bindings ∷ h.next ∷ []

pub record Holds (b : Bounds) (l : List ℕ) (at : ℕ) (st : State) : Type 0 where
  pub within : Within l at (HEADER + state_size st)
  pub header : seg l at 5 ≡ header_words (header_for st)
  pub body : seg l (at + HEADER) (state_size st) ≡ state_words b st

-- no child of it was made
pub record Fresh (b : Bounds) (l : List ℕ) (at : ℕ) (st : State) : Type 0 where
  pub holds : Holds b l at st
  pub unopened : seg l (at + 5) 3 ≡ 0 ∷ 0 ∷ 0 ∷ []

-- ---- what is left of a row

pub record Rested (b : Bounds) (l : List ℕ) (rest : Rest) (st : State) : Type 0 where
  pub pending : section_in l rest Pending ≡ section_words b st Pending
  pub pile : section_in l rest Pile ≡ section_words b st Pile
  pub bound : section_in l rest Bindings ≡ section_words b st Bindings
  pub bindings : rest.bindings ≡ section_count st Bindings

-- ---- a child

-- what the table of ends says of a due node that is not too deep
unfoldable pub becomes : Bounds → ℕ → Node → Made
becomes b lent dead = Dead
becomes b lent (live st) = cond (ltb b.path_unknowns st.next) Names (made lent (state_size st))

pub record Makes (b : Bounds) (r₀ : List ℕ) (to lent : ℕ) (node : Node) (a : Made) (r : List ℕ) : Type 0 where
  pub long : length r ≡ length r₀
  pub below : seg r 0 to ≡ seg r₀ 0 to
  pub tells : a ≡ becomes b lent node
  pub holds : (st : State) → node ≡ live st → a ≡ Live → Fresh b r to st

-- what stands after the child's row and before a place aside is as it was
pub record Beside (r₀ r : List ℕ) (to lent aside : ℕ) : Type 0 where
  pub kept : seg r (to + stride lent) (aside - (to + stride lent)) ≡ seg r₀ (to + stride lent) (aside - (to + stride lent))

pub beside_same : {l : List ℕ} {to lent aside : ℕ} → Beside l l to lent aside
beside_same = record { kept = refl }

-- what was put apart from it does not count
pub beside_put : {l r : List ℕ} {to lent aside : ℕ} (i : ℕ) (vs : List ℕ) → Apart (to + stride lent) (aside - (to + stride lent)) i (length vs)
    → Beside (put l i vs) r to lent aside → Beside l r to lent aside
beside_put {l} i vs a B = record { kept = B.kept ∙ seg-put vs l a }

-- what was put at the place aside does not count
pub beside_aside : {l r : List ℕ} {to lent aside : ℕ} (vs : List ℕ) → to + stride lent ≤ aside → Beside (put l aside vs) r to lent aside → Beside l r to lent aside
beside_aside {aside = aside} vs h B = beside_put aside vs (earlier (omega arith)) B

-- a child's row is written in its own words alone
pub finished_beside : {r₀ : List ℕ} {to written lent : ℕ} {piece header : List ℕ} {a : Made} {r : List ℕ} {aside : ℕ}
    → Finished r₀ to written lent piece header a r → Beside r₀ r to lent aside
finished_beside {to = to} {written = written} F =
    beside_put (to + HEADER + written) F.out (later (omega (arith, F.within)))
    (beside_put to F.top (later (omega (arith, F.top_within))) (rw F.room beside_same))

live_made : (lent size : ℕ) → made lent size ≡ Live → size ≤ lent
unfolding made
live_made lent size e =
    cases (leb size lent) (λ t. leb-true size lent t)
    (λ f. let g : ◌≡◌ {A = Made} Large Live = rw f at e in let z : ◌≡◌ {A = ℕ} 0 1 = cc in absurd (omega arith))

same_state : (s t : State) → ◌≡◌ {A = Node} (live s) (live t) → s ≡ t
same_state s t e = cc

module _ (b : Bounds) (st : State) {r₀ : List ℕ} {to written lent : ℕ} (new : List ℕ) {piece : List ℕ} {a : Made} {r : List ℕ}
    (F : Finished r₀ to written lent piece (header_of (header_for st)) a r) (room : to + HEADER + lent ≤ length r₀) (h : written ≤ lent)
    (there : seg r₀ (to + HEADER) written ≡ new) (all : new ++ piece ≡ state_words b st) (few : st.next ≤ b.path_unknowns) where
  size_is : written + length piece ≡ state_size st
  size_is =
      omega (arith, length-append new piece, ap length there, length-seg r₀ (to + HEADER) written (omega arith), ap length all, length_state b st)

  -- the whole row, where it is written
  whole : a ≡ Live → r ≡ put (put r₀ (to + HEADER + written) piece) to (header_of (header_for st))
  whole e =
      let l = live_made lent (written + length piece) (sym F.tells ∙ e) in
      let w = F.whole l in
      F.room ∙ rw (w.0, w.1)

  fresh : a ≡ Live → Fresh b r to st
  unfolding header_of header_words
  fresh e =
      let l = live_made lent (written + length piece) (sym F.tells ∙ e) in
      let s = size_is in
      let q = whole e in
      let mid : List ℕ = put r₀ (to + HEADER + written) piece in
      let long : length mid ≡ length r₀ = length-put r₀ (to + HEADER + written) piece in
      let top : seg r to HEADER ≡ header_of (header_for st) = rw q (seg-put_same (header_of (header_for st)) mid to (rw long (omega arith))) in
      let apart : seg r (to + HEADER) (state_size st) ≡ seg mid (to + HEADER) (state_size st) = rw q (seg-put (header_of (header_for st)) mid (later (omega arith))) in
      let first : seg mid (to + HEADER) written ≡ new = seg-put piece r₀ (earlier (omega arith)) ∙ there in
      let second : seg mid (to + HEADER + written) (length piece) ≡ piece = seg-put_same piece r₀ (to + HEADER + written) (omega arith) in
      let both : seg mid (to + HEADER) (state_size st) ≡ new ++ piece = ap (seg mid (to + HEADER)) (sym s) ∙ seg-append mid (to + HEADER) written (length piece) ∙ rw (first, second) in
      record {
        holds = record {
          within = rw (finished_length F) (omega arith);
          header = sym (take-seg r to HEADER 5 (omega arith)) ∙ ap (take 5) top;
          body = apart ∙ both ∙ all;
        };
        unopened = sym (drop-seg r to HEADER 5 (omega arith)) ∙ ap (drop 5) top;
      }

  pub finished_makes : Makes b r₀ to lent (live st) a r
  unfolding becomes
  finished_makes = record {
    long = finished_length F;
    below = rw F.room (seg-put F.top (put r₀ (to + HEADER + written) F.out) (earlier (omega arith)) ∙ seg-put F.out r₀ (earlier (omega arith)));
    tells = F.tells ∙ rw (size_is, le-ltb b.path_unknowns st.next few);
    holds = λ s e f. rw (sym (same_state st s e)) (fresh f);
  }
