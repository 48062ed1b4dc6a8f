-- A child that binds nothing: its new equations are written as they are, then the rest of its parent's row.
use Rattle.std.proofs.Common.{Option, Some, None}
use Prim.Native.Nat.{ℕ, ◌+◌, ◌-◌, ◌<◌, ◌≤◌}
use mathlib.Core.Path.{◌≡◌, refl, ap, sym, ◌∙◌}
use mathlib.Core.List.{List, [], ◌∷◌, ◌++◌, append_assoc, append-nil}
use native.Mathlib.Omega.{arith}
use lib.Dec.{eqb}
use lib.ListN.{length, get_or, length-append}
use borrow.Author.Tests.{eqb-true}
use Rattle.room.specs.Room.{seg, put, Within, length-put, length-seg, put-nil, put-put, seg-put_same, seg-cons, seg-zero}
use Rattle.room.specs.Parts.{Apart, CopyParts, earlier, later, apart_part, seg-put}
use Rattle.room.specs.Replaced.{replaced, image}
use Rattle.room.specs.Layout.{HEADER, stride, right_row, picks_row}
use Rattle.replace.specs.Fitting.{told_full, told_of_le, told_of_lt, further}
use Rattle.terms.specs.Bounds.{edition_one, FIRST_UNKNOWN}
use Rattle.terms.specs.Term.{words, kernel}
use Rattle.terms.specs.Formed.{Equation, sides, row}
use Rattle.terms.specs.Lists.{cases}
use Rattle.search.specs.declared.steps.Tails.TheVariants.{Neither}
use Rattle.search.specs.State.{State, live, Entry, pend, state_size}
use Rattle.search.specs.Classify.{tails}
use Rattle.search.specs.Children.{settle}
use Rattle.search.specs.StateWords.{pending_words, pile_words, length_pending}
use Rattle.rows.specs.declared.parts.Rest.{Rest}
use Rattle.rows.specs.declared.parts.Made.{Made}
use Rattle.rows.specs.declared.parts.Made.TheVariants.{Large}
use Rattle.rows.specs.Bind.{FinishParts}
use Rattle.rows.specs.Header.{header_of}
use Rattle.rows.specs.Finished.{Finished}
use Rattle.binding.specs.Keep.{kept_piece, kept_header}
use Rattle.rows.specs.Wrote.{Wrote, wrote_length, wrote_more, full_more, done-fits, done-length, done-room}
use Rattle.rows.specs.States.{pending_append}
use Rattle.rows.specs.Row.{Makes}
use Rattle.binding.specs.Child.{extended, Piled, keep_makes}
use Rattle.choices.specs.declared.sides.Sides.{Sides}
use Rattle.choices.specs.Gathered.{equations_piece, MeetParts}
use Rattle.choices.specs.OpenParent.{Parent, Opened, Elsewhere, news}
use Rattle.tails.specs.Due.{Due, child, child_is}
use Rattle.splits.specs.KeptTails.{tails_piece, TailsParts}
use Rattle.tails.proofs.OpenSplit.{numbers, equation-parts, equations_is, s_stands, r_stands}
use Rattle.tails.proofs.Making.{below_put, makes_before, makes_large, wrote_elsewhere, row_elsewhere, due_target, due_elsewhere}

-- a word that stands for itself
pub replaced_self : (x : ℕ) (ws : List ℕ) → replaced x (x ∷ []) ws ≡ ws
unfolding replaced image
replaced_self x [] = refl
replaced_self x (w ∷ ws) =
    cases (eqb w x)
    (λ t. rw (t, replaced_self x ws, eqb-true w x t))
    (λ f. rw (f, replaced_self x ws))

-- ---- the equation of the tails

module _ {l : List ℕ} {from : ℕ} {sides : Sides} {to capacity : ℕ} (P : TailsParts l from sides to capacity) where
  abbrev s_many : ℕ
  s_many = sides.right - sides.s

  abbrev r_many : ℕ
  r_many = sides.end - sides.r

  abbrev s_words : List ℕ
  s_words = seg l (from + HEADER + sides.s) s_many

  abbrev r_words : List ℕ
  r_words = seg l (from + HEADER + sides.r) r_many

  length-s : length s_words ≡ s_many
  length-s = length-seg l (from + HEADER + sides.s) s_many (omega (arith, P.body_within, P.s_below, P.right_below))

  length-r : length r_words ≡ r_many
  length-r = length-seg l (from + HEADER + sides.r) r_many (omega (arith, P.body_within, P.r_below))

  length-tails : length (tails_piece l from sides) ≡ s_many + r_many
  unfolding tails_piece
  length-tails = omega (arith, length-append s_words r_words, length-s, length-r)

  pub tails_full : capacity < s_many + r_many → Wrote l to capacity (tails_piece l from sides) None l
  tails_full h =
      let k = length-tails in
      record {
        out = [];
        room = sym (put-nil l to);
        within = omega arith;
        tells = sym (told_of_lt capacity (tails_piece l from sides) (omega arith));
        whole = λ f. absurd (omega arith);
      }

  module _ (h : s_many + r_many ≤ capacity) where
    pub s-parts : CopyParts l (from + HEADER + sides.s) s_many to
    s-parts = record {
      from_within = omega (arith, P.body_within, P.s_below, P.right_below);
      to_within = omega (arith, P.to_within);
      apart = apart_part P.apart (omega arith) (omega (arith, P.s_below, P.right_below)) (omega arith) (omega arith);
    }

    module _ {r : List ℕ} (e : r ≡ put l to s_words) where
      long : length r ≡ length l
      long = ap length e ∙ length-put l to s_words

      pub r-parts : CopyParts r (from + HEADER + sides.r) r_many (to + s_many)
      r-parts = record {
        from_within = rw long (omega (arith, P.body_within, P.r_below));
        to_within = rw long (omega (arith, P.to_within));
        apart = apart_part P.apart (omega arith) (omega (arith, P.r_below)) (omega arith) (omega arith);
      }

      pub tails-written : {q : List ℕ} → q ≡ put r (to + s_many) (seg r (from + HEADER + sides.r) r_many) → Wrote l to capacity (tails_piece l from sides) (Some (s_many + r_many)) q
      unfolding tails_piece
      tails-written f =
          let k = length-tails in
          let same : seg r (from + HEADER + sides.r) r_many ≡ r_words =
          rw e (seg-put s_words l (apart_part P.apart (omega arith) (omega (arith, P.r_below)) (omega arith) (omega (arith, length-s)))) in
          record {
            out = tails_piece l from sides;
            room = f ∙ ap (put r (to + s_many)) same ∙ ap (λ (v : List ℕ). put v (to + s_many) r_words) e
                ∙ ap (λ (k : ℕ). put (put l to s_words) (to + k) r_words) (sym length-s) ∙ put-put s_words l r_words to;
            within = omega arith;
            tells = sym (told_of_le capacity (tails_piece l from sides) (omega arith) ∙ ap Some k);
            whole = λ g. refl;
          }

-- ---- new equations, then the rest of the row

news-size : (ds : List Equation) (ms : List Entry) (next : ℕ) (st : State) → length (pending_words edition_one ds) ≤ state_size (extended ds ms next st)
unfolding state_size extended
news-size ds ms next st =
    omega (arith, length_pending edition_one (ds ++ st.pending), ap length (pending_append edition_one ds st.pending), length-append (pending_words edition_one ds) (pending_words edition_one st.pending))

module _ {arities l : List ℕ} {from : ℕ} {rest : Rest} {sides : Sides} {to lent next scratch : ℕ} {p : Parent} (D : Due arities l from rest sides to lent next scratch p) where
  abbrev S : Opened arities l from rest sides lent next scratch p
  S = D.opened

  abbrev us : ℕ
  us = right_row lent scratch

  abbrev picks : ℕ
  picks = picks_row lent scratch

  -- it is due still, once something is written to its row
  due_wrote : {piece : List ℕ} {a : Option ℕ} {r : List ℕ} → Wrote l (to + HEADER) lent piece a r → Due arities r from rest sides to lent next scratch p
  due_wrote W = due_elsewhere (wrote_elsewhere (due_target D) W) D

  module _ (ds : List Equation) where
    pub kept_full : (ms : List Entry) {r : List ℕ} → Wrote l (to + HEADER) lent (pending_words edition_one ds) None r
        → Makes edition_one l to lent (live (extended ds ms next p.st)) Large r × Elsewhere l r from lent scratch
    unfolding edition_one extended
    kept_full ms w =
        let h : lent < length (pending_words edition_one ds) = told_full lent (pending_words edition_one ds) (sym w.tells) in
        (makes_large (below_put l w.out (to + HEADER) w.room (omega arith)) S.few (omega (arith, news-size ds ms next p.st)), wrote_elsewhere (due_target D) w)

    module _ {w : ℕ} {r : List ℕ} (W : Wrote l (to + HEADER) lent (pending_words edition_one ds) (Some w) r) {by m : ℕ} (by_within : Within l by m) (by_apart : Apart by m to (stride lent)) where
      pub keep-parts : FinishParts r rest by m to w lent FIRST_UNKNOWN next
      keep-parts =
          let N = numbers S in
          let long = wrote_length W in
          record {
            parts = record {
              rest_within = rw long (omega arith);
              by_within = rw long by_within;
              to_within = rw long (omega (arith, D.before));
              rest_apart = earlier (omega (arith, D.after));
              by_apart = apart_part by_apart (omega arith) (omega arith) (omega arith) (omega arith);
              small = rw long N.small;
            };
            written_within = omega (arith, done-fits W, done-length W);
            size_small = N.lent_small;
            unknown = omega arith;
            bindings_small = omega arith;
            next_small = omega arith;
          }

      pub kept-made : {ms : List Entry} → Piled l by m ms → {a : Made} {q : List ℕ} → Finished r to w lent (kept_piece r rest by m) (header_of (kept_header rest w m next)) a q
          → Makes edition_one l to lent (live (extended ds ms next p.st)) a q × Elsewhere l q from lent scratch
      unfolding edition_one
      kept-made {ms} E F =
          let N = numbers S in
          let k : length (pending_words edition_one ds) ≡ w = done-length W in
          let D' = due_wrote W in
          let there : Piled r by m ms = record {
            piled = rw W.room (seg-put W.out l (apart_part by_apart (omega arith) (omega arith) (omega arith) (omega (arith, W.within)))) ∙ E.piled;
          } in
          let new : seg r (to + HEADER) w ≡ pending_words edition_one ds =
          rw (← k, done-room W) (seg-put_same (pending_words edition_one ds) l (to + HEADER) (omega (arith, D.before, done-fits W))) in
          (makes_before (below_put l W.out (to + HEADER) W.room (omega arith)) (keep_makes D'.opened.rested there keep-parts ds new F N.few), row_elsewhere (due_target D) W F)

  -- ---- the new equations, as they are: the word x at a place stands for itself

  module _ (by : ℕ) (h : by < length l) (apart : Apart by 1 to (stride lent)) where
    pub plain-parts : MeetParts l (from + HEADER) scratch sides.n us sides.m picks by 1 (to + HEADER) lent × MeetParts l (from + HEADER) us sides.m scratch sides.n (picks + sides.n) by 1 (to + HEADER) lent
    plain-parts =
        let N = numbers S in
        equation-parts S by 1 (to + HEADER) lent (omega (arith, D.before)) (earlier (omega (arith, D.after))) (later (omega (arith, D.before)))
        (omega arith) (apart_part apart (omega arith) (omega arith) (omega arith) (omega arith))

    pub plain : {x : ℕ} → x ≡ get_or l by 0 → {a : Option ℕ} {r : List ℕ}
        → Wrote l (to + HEADER) lent (replaced x (seg l by 1) (equations_piece l (from + HEADER) scratch sides.n us sides.m picks)) a r → Wrote l (to + HEADER) lent (pending_words edition_one (news p)) a r
    plain {x} e w =
        let self : seg l by 1 ≡ x ∷ [] = seg-cons l by 0 h ∙ rw (seg-zero, e) in
        rw (self, replaced_self x (equations_piece l (from + HEADER) scratch sides.n us sides.m picks), equations_is S) at w

  pub s-place : from + HEADER + sides.s < length l
  s-place = let N = numbers S in omega arith

  pub s_apart : (k : ℕ) → k ≤ 1 → Apart (from + HEADER + sides.s) k to (stride lent)
  s_apart k h = let N = numbers S in earlier (omega (arith, D.after))

  -- ---- neither tail is an unknown

  abbrev last : Equation
  last = record { left = kernel p.t; right = kernel p.u }

  last_words : words edition_one (kernel p.t) ++ words edition_one (kernel p.u) ≡ pending_words edition_one (last ∷ [])
  unfolding pending_words row sides
  last_words = rw append-nil

  neither_is : tails p.t p.u ≡ Neither → child p ≡ live (extended (news p ++ (last ∷ [])) [] next p.st)
  unfolding settle pend extended
  neither_is kind = rw (child_is p kind, append-nil, S.next_is, append_assoc)

  module _ {w : ℕ} {r : List ℕ} (W : Wrote l (to + HEADER) lent (pending_words edition_one (news p)) (Some w) r) where
    pub written_within : w ≤ lent
    written_within = omega (arith, done-fits W, done-length W)

    pub tails-parts : TailsParts r from sides (to + HEADER + w) (lent - w)
    tails-parts =
        let N = numbers S in
        let long = wrote_length W in
        let k = written_within in
        record {
          s_below = omega arith;
          r_below = omega arith;
          right_below = N.right_below;
          body_within = rw long (omega arith);
          to_within = rw long (omega (arith, D.before));
          apart = earlier (omega (arith, D.after));
        }

    pub last_written : {a : Option ℕ} {q : List ℕ} → Wrote r (to + HEADER + w) (lent - w) (tails_piece r from sides) a q
        → Wrote l (to + HEADER) lent (pending_words edition_one (news p ++ (last ∷ []))) (further w a) q
    unfolding tails_piece
    last_written v =
        let D' = due_wrote W in
        let e : tails_piece r from sides ≡ pending_words edition_one (last ∷ []) = rw (s_stands D'.opened, r_stands D'.opened) last_words in
        rw (pending_append edition_one (news p) (last ∷ [])) (wrote_more W (rw e at v))

  module _ (kind : tails p.t p.u ≡ Neither) where
    pub news_full : {r : List ℕ} → Wrote l (to + HEADER) lent (pending_words edition_one (news p)) None r → Makes edition_one l to lent (child p) Large r × Elsewhere l r from lent scratch
    news_full w =
        rw (neither_is kind) (kept_full (news p ++ (last ∷ [])) [] (rw (pending_append edition_one (news p) (last ∷ [])) (full_more (pending_words edition_one (last ∷ [])) w)))

    pub last_full : {r : List ℕ} → Wrote l (to + HEADER) lent (pending_words edition_one (news p ++ (last ∷ []))) None r → Makes edition_one l to lent (child p) Large r × Elsewhere l r from lent scratch
    last_full w = rw (neither_is kind) (kept_full (news p ++ (last ∷ [])) [] w)

    module _ {w : ℕ} {r : List ℕ} (W : Wrote l (to + HEADER) lent (pending_words edition_one (news p ++ (last ∷ []))) (Some w) r) (by : ℕ) (h : by ≤ length l) (apart : Apart by 0 to (stride lent)) where
      pub neither_parts : FinishParts r rest by 0 to w lent FIRST_UNKNOWN next
      neither_parts = keep-parts (news p ++ (last ∷ [])) W {by = by} {m = 0} (omega arith) apart

      pub neither_made : {a : Made} {q : List ℕ} → Finished r to w lent (kept_piece r rest by 0) (header_of (kept_header rest w 0 next)) a q
          → Makes edition_one l to lent (child p) a q × Elsewhere l q from lent scratch
      unfolding pile_words
      neither_made F =
          rw (neither_is kind) (kept-made (news p ++ (last ∷ [])) W {by = by} {m = 0} (omega arith) apart (record { piled = seg-zero l by }) F)
