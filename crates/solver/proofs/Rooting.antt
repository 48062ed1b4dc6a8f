-- A question that is good is asked in the room: the root's row holds it, and what is refused before that.
use Prim.Native.Nat.{ℕ, ◌+◌, ◌≤◌, ◌<◌}
use mathlib.Core.Path.{◌≡◌, sym, ap, ◌∙◌}
use mathlib.Core.List.{List, [], ◌∷◌, append-nil}
use native.Mathlib.Omega.{arith}
use native.Mathlib.Nat.{zero-add}
use lib.ListN.{length, take, drop}
use Rattle.room.specs.Room.{seg, put, length-put, seg-put_same, take-seg, drop-seg}
use Rattle.room.specs.Parts.{later, seg-put}
use Rattle.room.specs.Layout.{HEADER}
use Rattle.terms.specs.Bounds.{edition_one, UNKNOWNS}
use Rattle.terms.specs.Formed.{Question}
use Rattle.terms.specs.Reading.{question_of}
use Rattle.terms.specs.Answers.{binding_words}
use Rattle.search.specs.declared.ends.End.TheVariants.{Steps, Size}
use Rattle.search.specs.declared.limits.Limits.{Limits}
use Rattle.search.specs.State.{start, size_equations, size_entries, size_bindings, state_size}
use Rattle.search.specs.Run.{Visit, visit, root, ran}
use Rattle.search.specs.StateWords.{pending_words, pile_words, state_words, length_pending}
use Rattle.invariants.proofs.Tree.{start_orderly}
use Rattle.search_laws.specs.Going.{left, resumed_none, left_none, to_come, to_come-root}
use Rattle.rows.specs.Header.{header_of}
use Rattle.rows.specs.Row.{Fresh, header_for, header_words}
use Rattle.search_turn.specs.ChildrenPassed.{spent_stops, large_stops}
use Rattle.results.specs.Loans.{loan, ending}
use Rattle.search_turn.specs.Running.{given, remains, Ends}
use Rattle.search_loop.specs.Root.{root_header, rooted, nothing, Rooted}
use Rattle.search_loop.proofs.RootRun.{row_fits, ends_as}
use Rattle.solver.specs.Start.{Asking, whole_run}
use Rattle.search_turn.proofs.Turning.{stops_here, suits_kept}

module _ {unknowns : ℕ} {arities ws : List ℕ} {limits : Limits} {l : List ℕ} (A : Asking unknowns arities ws limits l) where
  abbrev q : Question
  q = question_of edition_one unknowns arities ws

  -- as many words as the root is large
  words_size : size_equations q.equations ≡ length ws
  unfolding pending_words
  words_size = sym (length_pending edition_one q.equations) ∙ ap length A.worded

  root-size : state_size (start q) ≡ length ws
  unfolding state_size size_entries size_bindings
  root-size = omega (arith, words_size)

  header_is : header_for (start q) ≡ root_header ws unknowns
  unfolding header_for size_entries size_bindings question_of
  header_is = rw (root-size, words_size)

  root-body : state_words edition_one (start q) ≡ ws
  unfolding state_words pending_words pile_words binding_words
  root-body = append-nil _ ∙ A.worded

  few : q.unknowns ≤ edition_one.path_unknowns
  unfolding edition_one
  few = omega (arith, A.good.unknowns)

  pub unknowns_small : unknowns ≤ UNKNOWNS
  unfolding edition_one question_of
  unknowns_small = A.good.unknowns

  module _ (fits : length ws ≤ limits.size) where
    abbrev first : List ℕ
    first = put l HEADER ws

    abbrev written : List ℕ
    written = rooted l ws unknowns

    room_for : HEADER + length ws ≤ length l
    room_for = omega (arith, row_fits A.suits)

    pub root-room : length written ≡ length l
    unfolding rooted
    root-room = length-put first 0 _ ∙ length-put l HEADER ws

    top : seg written 0 HEADER ≡ header_of (header_for (start q))
    unfolding rooted header_of
    top = rw header_is (seg-put_same (header_of (root_header ws unknowns)) first 0 (rw (length-put l HEADER ws) (omega (arith, room_for))))

    fresh : Fresh edition_one written 0 (start q)
    unfolding header_of header_words rooted
    fresh =
        let z : 0 + HEADER ≡ HEADER = omega arith in
        let s = root-size in
        record {
          holds = record {
            within = omega (arith, root-room, room_for);
            header = sym (take-seg written 0 HEADER 5 (omega arith)) ∙ ap (take 5) top;
            body = rw (z, s, root-body) (seg-put (header_of (root_header ws unknowns)) first (later (omega arith)) ∙ seg-put_same ws l HEADER (omega (arith, room_for)));
          };
          unopened = sym (drop-seg written 0 HEADER 5 (omega arith)) ∙ ap (drop 5) top;
        }

  -- the run's first node
  abbrev v : Visit
  v = visit 0 (start q)

  module _ (a : List ℕ) where
    abbrev vs : List Visit
    vs = to_come limits.depth (record { state = start q; child = 0 } ∷ [])

    whole : whole_run unknowns arities ws limits a ≡ given nothing a (remains limits nothing (length a) (v ∷ vs))
    unfolding whole_run given remains ran loan ending root
    whole =
        rw (left_none (loan limits (length a)), to_come-root limits.depth (start q), resumed_none, zero-add, zero-add)

    pub no_steps : limits.steps ≡ 0 → Ends (whole_run unknowns arities ws limits a) (record { end = Steps; counts = nothing }) a
    unfolding left loan
    no_steps e = ends_as (whole ∙ stops_here limits nothing a v vs Steps (spent_stops edition_one (left (loan limits (length a)) 0 0) v (omega arith)))

    pub too_large : (limits.steps ≡ 0 → ⊥) → limits.size < length ws → Ends (whole_run unknowns arities ws limits a) (record { end = Size; counts = nothing }) a
    unfolding left loan visit
    too_large s h =
        let some : 0 < limits.steps = omega arith in
        ends_as (whole ∙ stops_here limits nothing a v vs Size (large_stops edition_one (left (loan limits (length a)) 0 0) v (omega arith) (omega arith) few (omega (arith, root-size))))

    pub rooted_so : {room : List ℕ} → (limits.steps ≡ 0 → ⊥) → length ws ≤ limits.size → room ≡ rooted l ws unknowns → Rooted arities limits room a (whole_run unknowns arities ws limits a)
    unfolding question_of
    rooted_so s h e =
        rw e
        (record {
          suits = suits_kept (root-room h) A.suits;
          root = start q;
          fresh = fresh h;
          small = omega (arith, root-size);
          few = few;
          orderly = start_orderly q A.good.formed;
          some = omega arith;
          gives = whole;
        })
