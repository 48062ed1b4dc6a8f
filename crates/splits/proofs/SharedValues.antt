-- The two values that share a new tail, laid out.
use Rattle.std.proofs.Common.{Option}
use Prim.Native.Nat.{ℕ, ◌+◌, ◌<◌}
use mathlib.Core.Path.{◌≡◌, ap, sym, ◌∙◌}
use mathlib.Core.List.{List, [], ◌∷◌, ◌++◌}
use native.Mathlib.Omega.{arith}
use lib.ListN.{length, get_or, set, length-set}
use lib.Seq.{get_or-set_same, get_or-set_other}
use Rattle.room.specs.Room.{seg, put, length-put, seg-more, seg-put_same}
use Rattle.room.specs.Parts.{ReplaceParts, earlier, later, seg-put, seg-set}
use Rattle.room.specs.Replaced.{replaced}
use Rattle.room.specs.Layout.{value_row, second_row, shared_row}
use Rattle.replace.specs.Fitting.{fitting, told}
use Rattle.terms.specs.Bounds.{edition_one, edition_one_unknowns_first, FIRST_UNKNOWN}
use Rattle.terms.specs.Term.{Term, unknown, words, over}
use Rattle.rows.specs.Terms.HeldWords.{replaced_words}
use Rattle.rows.specs.Terms.MemberWords.{member_words, words_over}
use Rattle.rows.specs.Wrote.{Wrote, wrote_replaced, done-fits, done-length, done-room}
use Rattle.splits.specs.declared.different.Joined.{Joined}
use Rattle.choices.specs.OpenParent.{Parent, to_left, to_right}
use Rattle.splits.specs.Shared.{Sharing, ShareParts, Shared, first_value, second_value}

module _ (lent scratch : ℕ) where
  abbrev pub first : ℕ
  first = value_row lent scratch

  abbrev pub second : ℕ
  second = second_row lent scratch

  abbrev value : ℕ
  value = shared_row lent scratch

  module _ (l : List ℕ) (joined : Joined) (next : ℕ) (P : ShareParts l joined next lent scratch) where
    -- with the new unknown's word after U and after T
    abbrev ended : List ℕ
    ended = set (set l (first + joined.u) (FIRST_UNKNOWN + next)) (second + joined.t) (FIRST_UNKNOWN + next)

    ended_long : length ended ≡ length l
    ended_long = length-set (set l (first + joined.u) (FIRST_UNKNOWN + next)) (second + joined.t) (FIRST_UNKNOWN + next) ∙ length-set l (first + joined.u) (FIRST_UNKNOWN + next)

    pub first_long : length (set l (first + joined.u) (FIRST_UNKNOWN + next)) ≡ length l
    first_long = length-set l (first + joined.u) (FIRST_UNKNOWN + next)

    pub share_long : (out : List ℕ) {r : List ℕ} → r ≡ put ended value out → length r ≡ length l
    share_long out e = ap length e ∙ length-put ended value out ∙ ended_long

    pub value-parts : ReplaceParts ended second (joined.t + 1) first (joined.u + 1) value lent
    value-parts = record {
      from_within = rw ended_long (omega (arith, P.space, P.t_within));
      by_within = rw ended_long (omega (arith, P.space, P.u_within));
      to_within = rw ended_long (omega (arith, P.space));
      from_apart = earlier (omega (arith, P.t_within));
      by_apart = earlier (omega (arith, P.u_within));
    }

    module _ {l₀ : List ℕ} {p : Parent} (H : Sharing l₀ lent scratch p joined l) where
      abbrev pub U : List ℕ
      U = member_words edition_one (to_left p)

      abbrev pub T : List ℕ
      T = member_words edition_one (to_right p)

      long₀ : length l ≡ length l₀
      long₀ = ap length H.room ∙ length-put (put l₀ first U) second T ∙ length-put l₀ first U

      pub u_there : seg l first joined.u ≡ U
      u_there =
          let k = H.u_is in
          rw (k, H.room) (seg-put T (put l₀ first U) (earlier (omega (arith, H.u_within))) ∙ seg-put_same U l₀ first (omega (arith, long₀, P.space, H.u_within)))

      pub t_there : seg l second joined.t ≡ T
      t_there =
          let k = H.t_is in
          let n = length-put l₀ first U in
          rw (k, H.room) (seg-put_same T (put l₀ first U) second (omega (arith, long₀, P.space, H.t_within)))

      n_words : (ms : List Term) → member_words edition_one ms ++ ((FIRST_UNKNOWN + next) ∷ []) ≡ words edition_one (over ms (unknown next))
      unfolding words edition_one
      n_words ms = sym (words_over edition_one ms (unknown next))

      u-ended : seg ended first (joined.u + 1) ≡ words edition_one (first_value p next)
      unfolding first_value
      u-ended =
          let a : get_or ended (first + joined.u) 0 ≡ FIRST_UNKNOWN + next =
          get_or-set_other (set l (first + joined.u) (FIRST_UNKNOWN + next)) (second + joined.t) (first + joined.u) (FIRST_UNKNOWN + next) 0 (omega (arith, P.u_within))
          ∙ get_or-set_same l (first + joined.u) (FIRST_UNKNOWN + next) 0 (omega (arith, P.space, P.u_within)) in
          let b : seg ended first joined.u ≡ U =
          seg-set (set l (first + joined.u) (FIRST_UNKNOWN + next)) (FIRST_UNKNOWN + next) (earlier (omega (arith, P.u_within))) ∙ seg-set l (FIRST_UNKNOWN + next) (earlier (omega arith)) ∙ u_there in
          seg-more ended first joined.u (rw ended_long (omega (arith, P.space, P.u_within))) ∙ rw (a, b) (n_words (to_left p))

      t-ended : seg ended second (joined.t + 1) ≡ words edition_one (over (to_right p) (unknown next))
      t-ended =
          let m = length-set l (first + joined.u) (FIRST_UNKNOWN + next) in
          let a : get_or ended (second + joined.t) 0 ≡ FIRST_UNKNOWN + next =
          get_or-set_same (set l (first + joined.u) (FIRST_UNKNOWN + next)) (second + joined.t) (FIRST_UNKNOWN + next) 0 (omega (arith, P.space, P.t_within)) in
          let b : seg ended second joined.t ≡ T =
          seg-set (set l (first + joined.u) (FIRST_UNKNOWN + next)) (FIRST_UNKNOWN + next) (earlier (omega arith)) ∙ seg-set l (FIRST_UNKNOWN + next) (later (omega (arith, P.u_within))) ∙ t_there in
          seg-more ended second joined.t (rw ended_long (omega (arith, P.space, P.t_within))) ∙ rw (a, b) (n_words (to_right p))

      module _ {x s : ℕ} (x_is : x ≡ FIRST_UNKNOWN + s) (small : s < FIRST_UNKNOWN) {a : Option ℕ} {r : List ℕ}
          (tells : a ≡ told lent (replaced x (seg ended first (joined.u + 1)) (seg ended second (joined.t + 1))))
          (room : r ≡ put ended value (fitting x (seg ended first (joined.u + 1)) lent (seg ended second (joined.t + 1)))) where
        piece_is : replaced x (seg ended first (joined.u + 1)) (seg ended second (joined.t + 1)) ≡ words edition_one (second_value p next s)
        unfolding second_value edition_one
        piece_is = rw (x_is, u-ended, t-ended) (replaced_words edition_one_unknowns_first small (first_value p next) (over (to_right p) (unknown next)))

        wrote : Wrote ended value lent (words edition_one (second_value p next s)) a r
        wrote = rw piece_is at (wrote_replaced x (seg ended first (joined.u + 1)) (seg ended second (joined.t + 1)) tells room)

        pub values-shared : Shared l joined s next lent scratch p a r
        values-shared = record {
          long = ap length wrote.room ∙ length-put ended value wrote.out ∙ ended_long;
          below = rw wrote.room
              (seg-put wrote.out ended (earlier (omega arith)) ∙ seg-set (set l (first + joined.u) (FIRST_UNKNOWN + next)) (FIRST_UNKNOWN + next) (earlier (omega arith)) ∙ seg-set l (FIRST_UNKNOWN + next) (earlier (omega arith)));
          first = record { stands = rw wrote.room (seg-put wrote.out ended (earlier (omega (arith, P.u_within)))) ∙ u-ended };
          tells = wrote.tells;
          second = λ j e.
              let w = rw e at wrote in
              let k : length (words edition_one (second_value p next s)) ≡ j = done-length w in
              record { stands = rw (← k, done-room w) (seg-put_same (words edition_one (second_value p next s)) ended value (rw ended_long (omega (arith, done-fits w, P.space)))) };
        }
