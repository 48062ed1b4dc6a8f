-- The root: its row holds the question, and the run from it is the run of the definitions.
use Prim.Native.Nat.{ℕ, ◌+◌, ◌*◌, ◌-◌, ◌≤◌, ◌<◌}
use mathlib.Core.Path.{◌≡◌, refl, sym, ap, ◌∙◌}
use mathlib.Core.List.{List, [], ◌∷◌}
use native.Mathlib.Omega.{arith}
use native.Mathlib.Nat.{zero-mul}
use lib.Dec.{leb}
use lib.ListN.{length, take}
use Rattle.std.proofs.Common.{Option, Some, None}
use borrow.Author.Tests.{leb-true, leb-false}
use Rattle.room.specs.Room.{seg, length-put}
use Rattle.room.specs.Parts.{row_within}
use Rattle.room.specs.Layout.{HEADER, SPARE_ROWS, stride}
use Rattle.terms.specs.Bounds.{edition_one}
use Rattle.terms.specs.Answers.{listed}
use Rattle.terms.specs.Lists.{cases}
use Rattle.search.specs.declared.ends.End.TheVariants.{Space}
use Rattle.search.specs.declared.limits.Limits.{Limits}
use Rattle.search.specs.Run.{Visit, visit, found, found_size}
use Rattle.search.specs.Verdicts.{allowed}
use Rattle.search_laws.specs.Going.{Open, left, to_come}
use Rattle.results.specs.declared.ran.Record.{Record}
use Rattle.counters.specs.Counted.{counted}
use Rattle.answer_record.specs.Noting.{with_answers, fits, answer_in, note_by, held_by, Notable}
use Rattle.answer_record.specs.RowAnswer.{answer-held, held_notable}
use Rattle.results.specs.declared.ran.Ending.{Ending}
use Rattle.search_turn.specs.Desk.{nothing_open}
use Rattle.search_turn.specs.ChildrenPassed.{long_overflows}
use Rattle.search_turn.specs.Path.{Row, no_rows, a_row, fresh_number}
use Rattle.results.specs.Loans.{loan, needed}
use Rattle.search_turn.specs.Running.{Given, given, remains, Suits, Running, Ends}
use Rattle.search_loop.specs.Root.{nothing, Rooted}
use Rattle.search_turn.proofs.OpenedNode.{overflows_here, goes_here, more, then, one_at_most}

pub row_fits : {arities : List ℕ} {limits : Limits} {l : List ℕ} → Suits arities limits l → limits.size + HEADER ≤ length l
unfolding needed
row_fits {arities} {limits} {l} S = omega (arith, zero-mul (stride limits.size), row_within (stride limits.size) {i = 0} {rows = limits.depth + SPARE_ROWS} {n = length l} (omega arith) S.room)

pub ends_as : {to : Given} {e : Ending} {a : List ℕ} → to ≡ record { ending = e; answers = a } → Ends to e a
ends_as e = record { ending = ap (λ (g : Given). g.ending) e; answers = ap (λ (g : Given). g.answers) e }

-- ---- the root is open

module _ {arities : List ℕ} {limits : Limits} {l a : List ℕ} {to : Given} (S : Rooted arities limits l a to) where
  abbrev first : List ℕ
  first = take (stride limits.size) l

  abbrev v : Visit
  v = visit 0 S.root

  abbrev vs : List Visit
  vs = to_come limits.depth (record { state = S.root; child = 0 } ∷ [])

  pub root_notable : {one : Record} → one ≡ counted nothing 1 → Notable first a one
  unfolding seg
  root_notable e = rw e (held_notable S.fresh.holds (stride limits.size) (omega (arith, row_fits S.suits)) (omega (arith, S.small)) (omega arith) (omega arith))

  answer : answer_in first ≡ found edition_one v.answer
  unfolding seg visit
  answer = answer-held S.fresh.holds (stride limits.size) (omega (arith, row_fits S.suits)) (omega (arith, S.small))

  overflowed : length a < found_size edition_one v → to ≡ record { ending = record { end = Space; counts = counted nothing 1 }; answers = a }
  unfolding left loan visit
  overflowed f =
      S.gives
      ∙ overflows_here limits nothing a v vs (long_overflows edition_one (left (loan limits (length a)) 0 0) v (omega (arith, S.some)) (omega arith) S.few S.small (omega arith))

  went_on : found_size edition_one v ≤ length a
      → to ≡ given (more limits nothing a v vs) (then limits nothing a v vs) (remains limits (more limits nothing a v vs) (length (then limits nothing a v vs)) vs)
  unfolding left loan visit
  went_on f =
      S.gives
      ∙ goes_here limits nothing a v vs
      (allowed edition_one (left (loan limits (length a)) 0 0) v
      (record { steps = omega (arith, S.some); depth = omega arith; names = S.few; size = S.small; space = omega arith }))

  root-row : Row arities limits.size 1 l (length {A = Open} [] * stride limits.size) (record { state = S.root; child = 0 })
  root-row =
      rw zero-mul
      (record { holds = S.fresh.holds; number = fresh_number S.fresh; small = S.small; few = S.few; orderly = S.orderly; passed = omega arith })

  begun : found_size edition_one v ≤ length a → Running arities limits l (then limits nothing a v vs) 0 None (more limits nothing a v vs) to
  unfolding with_answers found_size
  begun f =
      let p = length-put a 0 (listed (found edition_one v.answer)) in
      let o = one_at_most v.answer in
      record {
        suits = S.suits;
        top = record { state = S.root; child = 0 };
        above = [];
        rows = a_row root-row no_rows;
        levels = refl;
        desk = nothing_open;
        deep = omega arith;
        steps = omega (arith, S.some);
        answers = omega arith;
        words = omega arith;
        gives = went_on f;
      }

  module _ {n : Option Record} {last : List ℕ} {one : Record} (is_one : one ≡ counted nothing 1)
      (told : (n ≡ note_by (answer_in first) (length a) one) × (last ≡ held_by (answer_in first) a one)) where
    noted_as : n ≡ note_by (found edition_one v.answer) (length a) (counted nothing 1)
    noted_as = told.0 ∙ rw (answer, is_one)

    held_as : last ≡ held_by (found edition_one v.answer) a (counted nothing 1)
    held_as = told.1 ∙ rw (answer, is_one)

    pub root-held : {noted : Record} → n ≡ Some noted → Running arities limits l last 0 None noted to
    unfolding note_by held_by fits found_size
    root-held {noted} h =
        cases (leb (length (listed (found edition_one v.answer))) (length a - 0))
        (λ t.
        let same : Some noted ≡ Some (more limits nothing a v vs) = sym h ∙ noted_as ∙ rw t in
        let is : noted ≡ more limits nothing a v vs = cc in
        let list : last ≡ then limits nothing a v vs = held_as ∙ rw t in
        rw (is, list) (begun (omega (arith, leb-true (length (listed (found edition_one v.answer))) (length a - 0) t))))
        (λ f.
        let never : ◌≡◌ {A = Option Record} (Some noted) None = sym h ∙ noted_as ∙ rw f in
        let z : ◌≡◌ {A = ℕ} 0 1 = cc in absurd (omega arith))

    pub root_space : n ≡ None → Ends to (record { end = Space; counts = one }) last
    unfolding note_by held_by fits found_size
    root_space h =
        cases (leb (length (listed (found edition_one v.answer))) (length a - 0))
        (λ t.
        let never : ◌≡◌ {A = Option Record} None (Some (with_answers (counted nothing 1) (found edition_one v.answer))) = sym h ∙ noted_as ∙ rw t in
        let z : ◌≡◌ {A = ℕ} 0 1 = cc in absurd (omega arith))
        (λ f.
        let list : last ≡ a = held_as ∙ rw f in
        rw (is_one, list) (ends_as (overflowed (omega (arith, leb-false (length (listed (found edition_one v.answer))) (length a - 0) f)))))
