-- The path in the room: row d holds the state at depth d, and in its header the number of the child that is next. Rows stand one after the other, each as
-- long as the lent size and its header.
use Rattle.std.specs.Prelude.{ℕ, ◌+◌, ◌*◌, ◌≤◌, ◌≡◌, List, [], ◌∷◌, length, take}
use Rattle.std.proofs.Common.{sym, ap, ◌∙◌, arith, suc-mul, zero-add}
use Rattle.room.specs.Room.{seg, put, Within, length-put, seg-seg, seg-put_same, take-seg}
use Rattle.room.specs.Parts.{earlier, later, seg-put}
use Rattle.room.specs.Layout.{HEADER, stride}
use Rattle.terms.specs.Bounds.{edition_one}
use Rattle.search.specs.State.{State, state_size}
use Rattle.invariants.proofs.Orderly.{Orderly}
use Rattle.search_laws.specs.Going.{Open}
use Rattle.rows.specs.Row.{Holds, Fresh}
use Rattle.visits.specs.ChildNumber.{number_words, number_none}

-- a row that holds an open state; no more of its children than so many were visited
pub record Row (arities : List ℕ) (size visited : ℕ) (l : List ℕ) (at : ℕ) (o : Open) : Type 0 where
  pub holds : Holds edition_one l at o.state
  pub number : seg l (at + 5) 2 ≡ number_words o.child
  pub small : state_size o.state ≤ size
  pub few : o.state.next ≤ edition_one.path_unknowns
  pub orderly : Orderly arities o.state
  pub passed : o.child ≤ visited

-- the rows of a path, the deepest state first
pub data Rows (arities : List ℕ) (size visited : ℕ) (l : List ℕ) : List Open → Type 0 where
  no_rows : Rows arities size visited l []
  a_row : {o : Open} {path : List Open} → Row arities size visited l (length path * stride size) o → Rows arities size visited l path → Rows arities size visited l (o ∷ path)

-- ---- what stands before a place is as it was

module _ (l r : List ℕ) (m : ℕ) (kept : seg r 0 m ≡ seg l 0 m) (same : length r ≡ length l) where
  pub part-kept : (k n : ℕ) → k + n ≤ m → seg r k n ≡ seg l k n
  part-kept k n h = rw zero-add at (sym (seg-seg r 0 m k n h) ∙ ap (λ (ws : List ℕ). seg ws k n) kept ∙ seg-seg l 0 m k n h)

  pub holds_kept : {at : ℕ} {st : State} → at + HEADER + state_size st ≤ m → Holds edition_one l at st → Holds edition_one r at st
  holds_kept {at} {st} h H =
      record {
        within = omega (arith, H.within);
        header = part-kept at 5 (omega arith) ∙ H.header;
        body = part-kept (at + HEADER) (state_size st) (omega arith) ∙ H.body;
      }

  module _ {arities : List ℕ} {size visited more : ℕ} (grown : visited ≤ more) where
    pub row_kept : {at : ℕ} {o : Open} → at + stride size ≤ m → Row arities size visited l at o → Row arities size more r at o
    row_kept {at} h R =
        record {
          holds = holds_kept (omega (arith, R.small)) R.holds;
          number = part-kept (at + 5) 2 (omega arith) ∙ R.number;
          small = R.small;
          few = R.few;
          orderly = R.orderly;
          passed = omega (arith, R.passed);
        }

    pub rows_kept : (path : List Open) → length path * stride size ≤ m → Rows arities size visited l path → Rows arities size more r path
    rows_kept [] h no_rows = no_rows
    rows_kept (o ∷ path) h (a_row R Rs) =
        let z = suc-mul (length path) (stride size) in
        a_row {path = path} (row_kept (omega arith) R) (rows_kept path (omega arith) Rs)

-- ---- a child's number is written, and the child's row stands after it

module _ (l : List ℕ) (at n : ℕ) (within : Within l at HEADER) where
  abbrev written : List ℕ
  written = put l (at + 5) (number_words n)

  pub numbered : seg written (at + 5) 2 ≡ number_words n
  unfolding number_words
  numbered = seg-put_same (number_words n) l (at + 5) (omega arith)

  pub before-number : seg written 0 at ≡ seg l 0 at
  before-number = seg-put (number_words n) l (earlier (omega arith))

  pub holds_numbered : {st : State} → Holds edition_one l at st → Holds edition_one written at st
  unfolding number_words
  holds_numbered {st} H =
      record {
        within = rw (length-put l (at + 5) (number_words n)) H.within;
        header = seg-put (number_words n) l (earlier (omega arith)) ∙ H.header;
        body = seg-put (number_words n) l (later (omega arith)) ∙ H.body;
      }

  pub holds_after : {st : State} {to : ℕ} → at + HEADER ≤ to → Holds edition_one l to st → Holds edition_one written to st
  unfolding number_words
  holds_after {st} {to} h H =
      record {
        within = rw (length-put l (at + 5) (number_words n)) H.within;
        header = seg-put (number_words n) l (later (omega arith)) ∙ H.header;
        body = seg-put (number_words n) l (later (omega arith)) ∙ H.body;
      }

-- a fresh row's number is 0
pub fresh_number : {l : List ℕ} {at : ℕ} {st : State} → Fresh edition_one l at st → seg l (at + 5) 2 ≡ number_words 0
fresh_number {l} {at} F = sym (take-seg l (at + 5) 3 2 (omega arith)) ∙ ap (take 2) F.unopened ∙ sym number_none
