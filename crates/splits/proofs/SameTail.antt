-- Both tails are the same unknown X: the pile's new entry X = {T,U|X} is laid out, then the child's row.
use Rattle.std.proofs.Common.{Some, None}
use Prim.Native.Nat.{ℕ, ◌+◌, ◌-◌, ◌<◌, ◌≤◌}
use mathlib.Core.Path.{◌≡◌, refl, ap, sym, ◌∙◌}
use mathlib.Core.List.{List, [], ◌∷◌, ◌++◌, append_assoc, append-nil}
use mathlib.Core.Bool.{Bool, true, false}
use native.Mathlib.Omega.{arith}
use native.Mathlib.Nat.{zero-add}
use lib.Dec.{eqb}
use lib.ListN.{length, get_or, set, length-append}
use Rattle.room.specs.Room.{seg, put, length-put, put_one, put-put, put-more, seg-zero, seg-seg, seg-put_same}
use Rattle.room.specs.Parts.{Apart, earlier, later, seg-put}
use Rattle.room.specs.Layout.{HEADER, stride, right_row, picks_row, value_row}
use Rattle.terms.specs.Bounds.{edition_one, FIRST_UNKNOWN}
use Rattle.terms.specs.Term.{Term, words, kernel, over}
use Rattle.terms.specs.Shape.{is_unknown, number, unknown_number}
use Rattle.search.specs.State.{State, live, pend, piled}
use Rattle.search.specs.Children.{settle, pile_up}
use Rattle.rows.specs.declared.parts.Rest.{Rest}
use Rattle.rows.specs.Terms.MemberWords.{member_words, members-append, words_over}
use Rattle.binding.specs.Child.{extended}
use Rattle.terms.specs.Formed.{Equation}
use Rattle.search.specs.declared.steps.Tails.TheVariants.{Same}
use Rattle.search.specs.Classify.{tails_by, tails}
use Rattle.search.specs.StateWords.{pending_words, pile_words}
use Rattle.rows.specs.declared.parts.Made.{Made}
use Rattle.rows.specs.declared.parts.Made.TheVariants.{Large}
use Rattle.rows.specs.Wrote.{Wrote}
use Rattle.rows.specs.Finished.{Finished}
use Rattle.rows.specs.Header.{header_of}
use Rattle.binding.specs.Keep.{kept_piece, kept_header}
use Rattle.rows.specs.Row.{Makes}
use Rattle.tails.specs.Due.{Due, child, child_is}
use Rattle.tails.proofs.Making.{Below, makes_before, due_elsewhere}
use Rattle.splits.proofs.NothingBound.{kept_full, kept-made}
use Rattle.choices.specs.declared.sides.Sides.{Sides}
use Rattle.choices.specs.Gathered.{joining_piece, TailParts}
use Rattle.choices.specs.OpenParent.{Parent, Opened, Elsewhere, elsewhere_next, elsewhere_put, opened_after, to_left, to_right, news}
use Rattle.splits.specs.KeptTails.{entry_of, EntryPut, EntryLaid}
use Rattle.tails.proofs.OpenSplit.{numbers, s_stands, s-noted, r-noted, left-parts, right-parts, left_is, right_is}
use Rattle.tails.proofs.Tailing.{unknown_word}

member_words_none : (ms : List Term) → length (member_words edition_one ms) ≡ 0 → ms ≡ []
unfolding member_words
member_words_none [] e = refl
member_words_none (m ∷ ms) e = absurd (omega arith)

-- the words of an entry that has a member
entry_words : (ms : List Term) (x : Term) → is_unknown x ≡ true → 0 < length (member_words edition_one ms)
    → pile_words edition_one (entry_of ms x) ≡ (FIRST_UNKNOWN + number x) ∷ (member_words edition_one ms ++ ((FIRST_UNKNOWN + number x) ∷ []))
unfolding entry_of pile_words member_words words edition_one
entry_words [] x e h = absurd (omega arith)
entry_words (m ∷ ms) x e h =
    let w : words edition_one x ≡ (FIRST_UNKNOWN + number x) ∷ [] = ap (words edition_one) (unknown_number x e) in
    ap (λ (ws : List ℕ). (FIRST_UNKNOWN + number x) ∷ ws) (append-nil (words edition_one (over (m ∷ ms) x)) ∙ words_over edition_one (m ∷ ms) x ∙ ap (λ (ws : List ℕ). member_words edition_one (m ∷ ms) ++ ws) w)

module _ {arities l : List ℕ} {from : ℕ} {rest : Rest} {sides : Sides} {lent next scratch : ℕ} {p : Parent} (S : Opened arities l from rest sides lent next scratch p) where
  abbrev us : ℕ
  us = right_row lent scratch

  abbrev picks : ℕ
  picks = picks_row lent scratch

  abbrev value : ℕ
  value = value_row lent scratch

  abbrev T : List ℕ
  T = member_words edition_one (to_right p)

  abbrev U : List ℕ
  U = member_words edition_one (to_left p)

  -- what is put from the fourth row on is elsewhere
  pub opened_up : (out : List ℕ) (i : ℕ) {r : List ℕ} → r ≡ put l i out → value ≤ i → Opened arities r from rest sides lent next scratch p
  opened_up out i e h =
      let N = numbers S in
      opened_after (elsewhere_put l out i from lent scratch e (earlier (omega arith)) (earlier (omega arith))) S

  -- X's word
  module _ (x : ℕ) where
    opened_x : Opened arities (set l value x) from rest sides lent next scratch p
    opened_x = opened_up (x ∷ []) value (sym (put_one l value x)) (omega arith)

    pub t-parts : TailParts (set l value x) (from + HEADER) scratch picks sides.n (value + 1)
    t-parts = let N = numbers opened_x in right-parts opened_x (value + 1) (omega arith) (omega arith)

    module _ {k : ℕ} {r : List ℕ} (t_told : (k ≡ length (joining_piece (set l value x) (from + HEADER) scratch picks sides.n sides.m)) × (k ≤ get_or (set l value x) (scratch + sides.n) 0))
        (t_room : r ≡ put (set l value x) (value + 1) (joining_piece (set l value x) (from + HEADER) scratch picks sides.n sides.m)) where
      pub k_within : k ≤ lent
      k_within = let N = numbers S in omega (arith, t_told.1, s-noted opened_x)

      k_is : k ≡ length T
      k_is = t_told.0 ∙ ap length (right_is opened_x)

      laid-t : r ≡ put l value (x ∷ T)
      laid-t = t_room ∙ rw (right_is opened_x, ← put_one l value x) (put-put (x ∷ []) l T value)

      opened_t : Opened arities r from rest sides lent next scratch p
      opened_t = opened_up (x ∷ T) value laid-t (omega arith)

      pub u-parts : TailParts r (from + HEADER) us (picks + sides.n) sides.m (value + 1 + k)
      u-parts = let N = numbers opened_t in left-parts opened_t (value + 1 + k) (omega arith) (omega (arith, k_within))

      module _ {j : ℕ} {q : List ℕ} (u_told : (j ≡ length (joining_piece r (from + HEADER) us (picks + sides.n) sides.m sides.n)) × (j ≤ get_or r (us + sides.m) 0))
          (u_room : q ≡ put r (value + 1 + k) (joining_piece r (from + HEADER) us (picks + sides.n) sides.m sides.n)) where
        pub j_within : j ≤ lent
        j_within = let N = numbers S in omega (arith, u_told.1, r-noted opened_t)

        j_is : j ≡ length U
        j_is = u_told.0 ∙ ap length (left_is opened_t)

        abbrev out : List ℕ
        out = ((x ∷ T) ++ U) ++ (x ∷ [])

        laid-u : q ≡ put l value ((x ∷ T) ++ U)
        laid-u =
            let place : value + 1 + k ≡ value + length (x ∷ T) = omega (arith, k_is) in
            u_room ∙ rw (left_is opened_t, laid-t, place) (put-put (x ∷ T) l U value)

        laid-all : set q (value + 1 + k + j) x ≡ put l value out
        laid-all =
            let place : value + 1 + k + j ≡ value + length ((x ∷ T) ++ U) = omega (arith, k_is, j_is, length-append (x ∷ T) U) in
            rw (laid-u, place) (put-more l value ((x ∷ T) ++ U) x)

        length-out : length out ≡ k + j + 2
        length-out = omega (arith, k_is, j_is, length-append ((x ∷ T) ++ U) (x ∷ []), length-append (x ∷ T) U)

        pub long : length q ≡ length l
        long = ap length laid-u ∙ length-put l value ((x ∷ T) ++ U)

        both-length : length (member_words edition_one (to_right p ++ to_left p)) ≡ k + j
        both-length = ap length (members-append edition_one (to_right p) (to_left p)) ∙ omega (arith, length-append T U, k_is, j_is)

        laid_elsewhere : Elsewhere l (set q (value + 1 + k + j) x) from lent scratch
        laid_elsewhere = let N = numbers S in elsewhere_put l out value from lent scratch laid-all (earlier (omega arith)) (earlier (omega arith))

        laid-below : seg (set q (value + 1 + k + j) x) 0 scratch ≡ seg l 0 scratch
        laid-below = rw laid-all (seg-put out l (earlier (omega arith)))

        pub no_entry : k + j ≡ 0 → EntryPut l from lent scratch p 0 (set q (value + 1 + k + j) x)
        unfolding entry_of pile_words
        no_entry z =
            let N = numbers S in
            let e : to_right p ++ to_left p ≡ [] = member_words_none (to_right p ++ to_left p) (both-length ∙ z) in
            record {
              elsewhere = laid_elsewhere;
              below = laid-below;
              within = omega arith;
              piled = λ g. record { piled = rw e (seg-zero (set q (value + 1 + k + j) x) value) };
            }

        pub one_entry : (k + j ≡ 0 → ⊥) → x ≡ get_or l (from + HEADER + sides.s) 0 → EntryPut l from lent scratch p (k + j + 2) (set q (value + 1 + k + j) x)
        one_entry z w =
            let N = numbers S in
            let a = k_within in
            let b = j_within in
            record {
              elsewhere = laid_elsewhere;
              below = laid-below;
              within = omega arith;
              piled = λ g.
                  let o : x ≡ FIRST_UNKNOWN + number (kernel p.t) = w ∙ unknown_word l (from + HEADER + sides.s) (sides.right - sides.s) (kernel p.t) (s_stands S) g (omega arith) in
                  let m : 0 < length (member_words edition_one (to_right p ++ to_left p)) = omega (arith, both-length) in
                  let n : seg (put l value out) value (k + j + 2) ≡ out = rw (← length-out) (seg-put_same out l value (omega (arith, length-out))) in
                  let f : (FIRST_UNKNOWN + number (kernel p.t)) ∷ (member_words edition_one (to_right p ++ to_left p) ++ ((FIRST_UNKNOWN + number (kernel p.t)) ∷ [])) ≡ out =
                  rw (← o, members-append edition_one (to_right p) (to_left p)) (simp append_assoc) in
                  let there : seg (set q (value + 1 + k + j) x) value (k + j + 2) ≡ out = rw laid-all n in
                  record { piled = there ∙ sym (entry_words (to_right p ++ to_left p) (kernel p.t) g m ∙ f) };
            }

-- ---- the child's row

kinds : (s r c : Bool) → tails_by s r c ≡ Same → s ≡ true
unfolding tails_by
kinds false false c e = let z : ◌≡◌ {A = ℕ} 0 1 = cc in absurd (omega arith)
kinds true r c e = refl
kinds false true c e = let z : ◌≡◌ {A = ℕ} 0 1 = cc in absurd (omega arith)

same_kind : (t u : Term) → tails t u ≡ Same → is_unknown (kernel t) ≡ true
unfolding tails
same_kind t u e = kinds (is_unknown (kernel t)) (is_unknown (kernel u)) (eqb (number (kernel t)) (number (kernel u))) e

piled_up : (x : Term) (ms : List Term) (st : State) (es : List Equation) (next : ℕ) → next ≡ st.next
    → pile_up x ms (pend (es ++ st.pending) st) ≡ extended es (entry_of ms x) next st
unfolding pile_up entry_of pend piled extended
piled_up x [] st es next e = rw (e, append-nil)
piled_up x (m ∷ ms) st es next e = rw e

module _ {arities l : List ℕ} {from : ℕ} {rest : Rest} {sides : Sides} {to lent next scratch : ℕ} {p : Parent} (D : Due arities l from rest sides to lent next scratch p)
    {a : ℕ} {r : List ℕ} (L : EntryLaid l from sides lent scratch a r) where
  abbrev the_entry : EntryPut l from lent scratch p a r
  the_entry = L.laid arities rest next p D.opened

  pub due-laid : Due arities r from rest sides to lent next scratch p
  due-laid = due_elsewhere the_entry.elsewhere D

  below-laid : Below l r to
  below-laid =
      let h = D.before in
      record {
        long = the_entry.elsewhere.long;
        below =
            rw zero-add at
            (sym (seg-seg r 0 scratch 0 to (omega arith)) ∙ ap (λ (ws : List ℕ). seg ws 0 to) the_entry.below ∙ seg-seg l 0 scratch 0 to (omega arith));
      }

  pub entry-within : value_row lent scratch + a ≤ length r
  entry-within = rw the_entry.elsewhere.long the_entry.within

  pub entry_apart : Apart (value_row lent scratch) a to (stride lent)
  entry_apart = later (omega (arith, D.before))

  same_is : tails p.t p.u ≡ Same → child p ≡ live (extended (news p) (entry_of (to_right p ++ to_left p) (kernel p.t)) next p.st)
  unfolding settle
  same_is kind = child_is p kind ∙ ap live (piled_up (kernel p.t) (to_right p ++ to_left p) p.st (news p) next D.opened.next_is)

  module _ (kind : tails p.t p.u ≡ Same) where
    pub same_full : {q : List ℕ} → Wrote r (to + HEADER) lent (pending_words edition_one (news p)) None q → Makes edition_one l to lent (child p) Large q × Elsewhere l q from lent scratch
    same_full w =
        let M = kept_full due-laid (news p) (entry_of (to_right p ++ to_left p) (kernel p.t)) w in
        rw (same_is kind) (makes_before below-laid M.0, elsewhere_next the_entry.elsewhere M.1)

    pub same_made : {w : ℕ} {q : List ℕ} → Wrote r (to + HEADER) lent (pending_words edition_one (news p)) (Some w) q → {b : Made} {o : List ℕ}
        → Finished q to w lent (kept_piece q rest (value_row lent scratch) a) (header_of (kept_header rest w a next)) b o → Makes edition_one l to lent (child p) b o × Elsewhere l o from lent scratch
    same_made W F =
        let M = kept-made due-laid (news p) W entry-within entry_apart (the_entry.piled (same_kind p.t p.u kind)) F in
        rw (same_is kind) (makes_before below-laid M.0, elsewhere_next the_entry.elsewhere M.1)
