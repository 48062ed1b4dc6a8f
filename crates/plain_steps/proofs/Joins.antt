-- A value laid out and bound, in the order of the code.
use Prim.Native.Nat.{ℕ, ◌+◌, ◌-◌, ◌<◌, ◌≤◌, ◌^◌}
use mathlib.Core.Path.{◌≡◌, refl, sym, ap, ◌∙◌}
use mathlib.Core.List.{List, ◌++◌}
use mathlib.Core.Bool.{Bool, true, false, false≢true}
use native.Mathlib.Omega.{arith}
use lib.ListN.{length, take, drop, get_or, set, length-set}
use Rattle.room.specs.Room.{seg, put, length-put, length-seg, put-more, seg-put_same}
use Rattle.room.specs.Parts.{CopyParts, apart_part}
use Rattle.terms.specs.Bounds.{edition_one, edition_one_proper, PATH_UNKNOWNS, FIRST_UNKNOWN}
use Rattle.rows.specs.declared.parts.Rest.{Rest}
use Rattle.rows.specs.declared.parts.Made.{Made}
use Rattle.rows.specs.declared.parts.Made.TheVariants.{Dead, Names}
use Rattle.rows.specs.Header.{header_of}
use Rattle.rows.specs.Terms.HeldWords.{holds}
use Rattle.rows.specs.Bind.{FinishParts, bound_pile, bound_bindings}
use Rattle.rows.specs.Finished.{Finished, bound_header}
use Rattle.plain_steps.specs.Join.{gathered, length-gathered}
use Rattle.plain_steps.specs.JoinLaid.{JoinParts, joining_word, joining_words, valued, Joined}

module _ (arities : List ℕ) {r₀ : List ℕ} {rest : Rest} {value to size next : ℕ} (P : JoinParts r₀ rest value to size next) where
  abbrev x : ℕ
  x = get_or r₀ rest.at 0

  abbrev G : List ℕ
  G = gathered edition_one arities (get_or r₀ rest.at 0) rest.pile (seg r₀ rest.at rest.pile)

  pub gather_parts : CopyParts r₀ rest.at rest.pile value × length r₀ < 2 ^ 32
  gather_parts = (
    record {
      from_within = omega (arith, P.parts.rest_within);
      to_within = omega (arith, P.parts.by_within);
      apart = apart_part P.value_apart (omega arith) (omega arith) (omega arith) (omega arith);
    },
    P.parts.small,
  )

  module _ {m : ℕ} {r : List ℕ} (e : m ≡ length G) (f : r ≡ put r₀ value G) where
    pub m_within : m ≤ rest.pile
    m_within = omega (arith, length-gathered edition_one_proper arities x rest.pile (seg r₀ rest.at rest.pile), length-seg r₀ rest.at rest.pile (omega (arith, P.parts.rest_within)))

    pub long : length r ≡ length r₀
    long = ap length f ∙ length-put r₀ value G

    pub lent_is : take (value + m - value) (drop value r) ≡ G
    unfolding seg
    lent_is =
        let k : value + m - value ≡ length G = omega arith in
        let q : seg (put r₀ value G) value (length G) ≡ G = seg-put_same G r₀ value (omega (arith, m_within, P.parts.by_within)) in
        rw (k, f) q

    told-false : {c : Bool} → c ≡ holds x (take (value + m - value) (drop value r)) → c ≡ false → holds x G ≡ false
    told-false p q = rw (← lent_is) (sym p ∙ q)

    pub joined_dead : {c : Bool} → c ≡ holds x (take (value + m - value) (drop value r)) → c ≡ true → Joined arities r₀ rest value to size next Dead r
    unfolding joining_word joining_words
    joined_dead p q =
        let t : holds x G ≡ true = rw (← lent_is) (sym p ∙ q) in
        record {
          dead = λ h. (refl, f);
          names = λ h l. absurd (false≢true (sym h ∙ t));
          live = λ h l. absurd (false≢true (sym h ∙ t));
        }

    pub joined_names : {c : Bool} → c ≡ holds x (take (value + m - value) (drop value r)) → c ≡ false → PATH_UNKNOWNS ≤ next → Joined arities r₀ rest value to size next Names r
    unfolding joining_word joining_words
    joined_names p q l =
        let t = told-false p q in
        record {
          dead = λ h. absurd (false≢true (sym t ∙ h));
          names = λ h k. (refl, f);
          live = λ h k. absurd (omega arith);
        }

    laid : set r (value + m) (FIRST_UNKNOWN + next) ≡ valued arities r₀ rest value next
    unfolding valued joining_words joining_word
    laid = rw (f, e) (put-more r₀ value G (FIRST_UNKNOWN + next))

    pub value_long : length (set r (value + m) (FIRST_UNKNOWN + next)) ≡ length r₀
    value_long = length-set r (value + m) (FIRST_UNKNOWN + next) ∙ long

    pub join-parts : next < PATH_UNKNOWNS → FinishParts (set r (value + m) (FIRST_UNKNOWN + next)) rest value (m + 1) to 0 size x (next + 1)
    join-parts l = record {
      parts = record {
        rest_within = rw value_long P.parts.rest_within;
        by_within = rw value_long (omega (arith, m_within, P.parts.by_within));
        to_within = rw value_long P.parts.to_within;
        rest_apart = P.parts.rest_apart;
        by_apart = apart_part P.parts.by_apart (omega arith) (omega (arith, m_within)) (omega arith) (omega arith);
        small = rw value_long P.parts.small;
      };
      written_within = omega arith;
      size_small = P.size_small;
      unknown = P.unknown;
      bindings_small = P.bindings_small;
      next_small = omega arith;
    }

    pub joined_live : {c : Bool} → c ≡ holds x (take (value + m - value) (drop value r)) → c ≡ false → next < PATH_UNKNOWNS → {a : Made} {r' : List ℕ}
        → Finished (set r (value + m) (FIRST_UNKNOWN + next)) to 0 size
        (bound_pile edition_one arities (set r (value + m) (FIRST_UNKNOWN + next)) rest x value (m + 1) ++ bound_bindings (set r (value + m) (FIRST_UNKNOWN + next)) rest x value (m + 1))
        (header_of (bound_header rest 0 (length (bound_pile edition_one arities (set r (value + m) (FIRST_UNKNOWN + next)) rest x value (m + 1))) (m + 1) (next + 1))) a r'
        → Joined arities r₀ rest value to size next a r'
    unfolding joining_word joining_words
    joined_live p q l F =
        let t = told-false p q in
        record {
          dead = λ h. absurd (false≢true (sym t ∙ h));
          names = λ h k. absurd (omega arith);
          live = λ h k. rw (laid, e) at F;
        }
