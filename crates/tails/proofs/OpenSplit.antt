-- An open split: where its parts lie, and what its picks gather.
use Prim.Native.Nat.{ℕ, ◌+◌, ◌-◌, ◌*◌, ◌<◌, ◌≤◌, ◌^◌}
use mathlib.Core.Path.{◌≡◌, refl, ap, sym, ◌∙◌}
use mathlib.Core.List.{List, ◌++◌}
use mathlib.Core.Bool.{true, false}
use native.Mathlib.Omega.{arith}
use lib.ListN.{length, take, drop, get_or, length-append}
use lib.Seq.{take_at, drop_at}
use Rattle.room.specs.Room.{seg, Within, take-seg, drop-seg}
use Rattle.room.specs.Parts.{Apart, earlier, apart_part}
use Rattle.room.specs.Layout.{HEADER, stride, right_row, picks_row}
use Rattle.terms.specs.Bounds.{edition_one, PATH_UNKNOWNS}
use Rattle.terms.specs.Term.{words, size, members, kernel}
use Rattle.terms.specs.Shape.{is_unknown}
use Rattle.terms.specs.Laws.Flat.{length_words}
use Rattle.search.specs.RunLimits.{most_size}
use Rattle.rows.specs.declared.parts.Rest.{Rest}
use Rattle.rows.specs.Terms.Stripped.{kernel_place}
use Rattle.rows.specs.Terms.MemberWords.{member_words, words_members, length-members}
use Rattle.rows.specs.States.{pending_append}
use Rattle.search_laws.specs.Picking.{equations_by}
use Rattle.choices.specs.declared.sides.Sides.{Sides}
use Rattle.choices.specs.MemberPlaces.{places}
use Rattle.choices.specs.Gathered.{joining_piece, meeting_piece, equations_piece, Noted, MeetParts, TailParts}
use Rattle.choices.specs.GatheredPicks.{At, at_of, at_last, length-places, rise, joining_is, meeting_is}
use Rattle.choices.specs.OpenParent.{Parent, Opened, own_left, own_right, to_left, to_right, news, few_members}
use Rattle.search.specs.StateWords.{pending_words}

-- the two parts of words that stand somewhere
seg-front : (l us vs : List ℕ) (at : ℕ) {n : ℕ} (k : ℕ) → seg l at n ≡ us ++ vs → length us ≡ k → k ≤ n → seg l at k ≡ us
seg-front l us vs at {n} k e f h = sym (take-seg l at n k h) ∙ ap (take k) e ∙ take_at us vs k f

seg-back : (l us vs : List ℕ) (at : ℕ) {n : ℕ} (k : ℕ) → seg l at n ≡ us ++ vs → length us ≡ k → k ≤ n → seg l (at + k) (n - k) ≡ vs
seg-back l us vs at {n} k e f h = sym (drop-seg l at n k h) ∙ ap (drop k) e ∙ drop_at us vs k f

-- the numbers, for `omega`
pub record Numbers (l : List ℕ) (from : ℕ) (rest : Rest) (sides : Sides) (lent next scratch : ℕ) : Type 0 where
  pub row : from + stride lent ≤ scratch
  pub space : scratch + 7 * stride lent ≤ length l
  pub lent_small : lent ≤ most_size
  pub small : length l < 2 ^ 32
  pub n_below : sides.n < sides.right
  pub m_below : sides.n + sides.m < sides.end
  pub right_below : sides.right ≤ sides.end
  pub end_below : sides.end ≤ lent
  pub s_below : sides.s < sides.right
  pub r_from : sides.right ≤ sides.r
  pub r_below : sides.r < sides.end
  pub few : next ≤ PATH_UNKNOWNS
  pub rest_at : rest.at ≡ from + HEADER + sides.end
  pub fits : sides.end + (rest.pending + rest.pile + rest.bound) ≤ lent
  pub bindings_small : rest.bindings < 65534

module _ {arities l : List ℕ} {from : ℕ} {rest : Rest} {sides : Sides} {lent next scratch : ℕ} {p : Parent} (S : Opened arities l from rest sides lent next scratch p) where
  abbrev pub us : ℕ
  us = right_row lent scratch

  abbrev pub picks : ℕ
  picks = picks_row lent scratch

  abbrev body : ℕ
  body = from + HEADER

  -- ---- where the sides stand

  t_stands : seg l (body + 0) (size p.t) ≡ words edition_one p.t
  t_stands =
      let e : body + 0 ≡ body = omega arith in
      rw e (seg-front l (words edition_one p.t) (words edition_one p.u) body (size p.t) S.sides_stand (length_words edition_one p.t) (omega (arith, S.end_is)))

  u_stands : seg l (body + size p.t) (size p.u) ≡ words edition_one p.u
  u_stands =
      let e : sides.end - size p.t ≡ size p.u = omega (arith, S.end_is) in
      rw e at (seg-back l (words edition_one p.t) (words edition_one p.u) body (size p.t) S.sides_stand (length_words edition_one p.t) (omega (arith, S.end_is)))

  t-places : At l (scratch + 0) (places p.t 0)
  t-places =
      let e : scratch + 0 ≡ scratch = omega arith in
      let k : sides.n + 1 ≡ length (places p.t 0) = omega (arith, S.n_is, length-places p.t 0) in
      rw e (at_of l (places p.t 0) scratch (omega (arith, S.space, few_members p.t, S.n_is, S.end_is, S.fits)) (rw k at S.t_noted))

  u-places : At l us (places p.u (size p.t))
  u-places =
      let k : sides.m + 1 ≡ length (places p.u (size p.t)) = omega (arith, S.m_is, length-places p.u (size p.t)) in
      at_of l (places p.u (size p.t)) us (omega (arith, S.space, few_members p.u, S.m_is, S.end_is, S.fits)) (rw k at S.u_noted)

  t-picks : At l (picks + 0) p.ds
  t-picks =
      let e : picks + 0 ≡ picks = omega arith in
      let w = S.ds_many in
      rw e (at_of l p.ds picks (omega (arith, S.space, few_members p.t, S.n_is, S.end_is, S.fits)) (seg-front l p.ds p.es picks (length p.ds) S.picked refl (omega arith)))

  u-picks : At l (picks + sides.n) p.es
  u-picks =
      let e : sides.n + sides.m - sides.n ≡ length p.es = omega (arith, S.es_many) in
      at_of l p.es (picks + sides.n) (omega (arith, S.es_many, S.space, few_members p.t, few_members p.u, S.n_is, S.m_is, S.end_is, S.fits)) (rw e at (seg-back l p.ds p.es picks sides.n S.picked S.ds_many (omega arith)))

  -- ---- the tails

  length-t : kernel_place p.t + size (kernel p.t) ≡ size p.t
  length-t =
      omega (arith, length-members edition_one p.t, length_words edition_one (kernel p.t), length_words edition_one p.t, ap length (words_members edition_one p.t), length-append (member_words edition_one (members p.t)) (words edition_one (kernel p.t)))

  length-u : kernel_place p.u + size (kernel p.u) ≡ size p.u
  length-u =
      omega (arith, length-members edition_one p.u, length_words edition_one (kernel p.u), length_words edition_one p.u, ap length (words_members edition_one p.u), length-append (member_words edition_one (members p.u)) (words edition_one (kernel p.u)))

  pub s_stands : seg l (from + HEADER + sides.s) (sides.right - sides.s) ≡ words edition_one (kernel p.t)
  s_stands =
      let e : body + 0 + kernel_place p.t ≡ from + HEADER + sides.s = omega (arith, S.s_is) in
      let f : size p.t - kernel_place p.t ≡ sides.right - sides.s = omega (arith, S.s_is, S.right_is) in
      rw (e, f) at
      (seg-back l (member_words edition_one (members p.t)) (words edition_one (kernel p.t)) (body + 0) (kernel_place p.t) (t_stands ∙ words_members edition_one p.t) (length-members edition_one p.t) (omega (arith, length-t)))

  pub r_stands : seg l (from + HEADER + sides.r) (sides.end - sides.r) ≡ words edition_one (kernel p.u)
  r_stands =
      let e : body + size p.t + kernel_place p.u ≡ from + HEADER + sides.r = omega (arith, S.r_is) in
      let f : size p.u - kernel_place p.u ≡ sides.end - sides.r = omega (arith, S.r_is, S.end_is) in
      rw (e, f) at
      (seg-back l (member_words edition_one (members p.u)) (words edition_one (kernel p.u)) (body + size p.t) (kernel_place p.u) (u_stands ∙ words_members edition_one p.u) (length-members edition_one p.u) (omega (arith, length-u)))

  pub numbers : Numbers l from rest sides lent next scratch
  numbers =
      let a = few_members p.t in
      let b = few_members p.u in
      let c = few_members (kernel p.t) in
      let d = few_members (kernel p.u) in
      record {
        row = S.row;
        space = S.space;
        lent_small = S.lent_small;
        small = S.small;
        n_below = omega (arith, S.n_is, S.right_is);
        m_below = omega (arith, S.n_is, S.m_is, S.end_is);
        right_below = omega (arith, S.right_is, S.end_is);
        end_below = omega (arith, S.fits);
        s_below = omega (arith, S.s_is, S.right_is, length-t);
        r_from = omega (arith, S.r_is, S.right_is);
        r_below = omega (arith, S.r_is, S.end_is, length-u);
        few = S.few;
        rest_at = S.rest_at;
        fits = S.fits;
        bindings_small = S.bindings_small;
      }

  -- the last noted places are the tails'
  pub s-noted : get_or l (scratch + sides.n) 0 ≡ sides.s
  s-noted =
      let e : scratch + 0 + length (members p.t) ≡ scratch + sides.n = omega (arith, S.n_is) in
      ap (λ (j : ℕ). get_or l j 0) (sym e) ∙ at_last p.t 0 (scratch + 0) t-places ∙ omega (arith, S.s_is)

  pub r-noted : get_or l (us + sides.m) 0 ≡ sides.r
  r-noted = rw S.m_is (at_last p.u (size p.t) us u-places) ∙ sym S.r_is

  -- ---- where the parts lie

  t_noted : Noted l sides.end scratch sides.n
  t_noted =
      let N = numbers in
      let r : (i : ℕ) → i < sides.n → (get_or l (scratch + 0 + i) 0 < get_or l (scratch + 0 + i + 1) 0) × (get_or l (scratch + 0 + i + 1) 0 ≤ 0 + size p.t) =
      λ i h. rise edition_one l body p.t 0 (scratch + 0) i t-places (omega (arith, S.n_is)) in
      let e : scratch + 0 ≡ scratch = omega arith in
      let q : (i : ℕ) → i < sides.n → (get_or l (scratch + i) 0 < get_or l (scratch + i + 1) 0) × (get_or l (scratch + i + 1) 0 ≤ 0 + size p.t) = rw e at r in
      record {
        within = omega arith;
        rises = λ i h. (q i h).0;
        ends = λ i h. omega (arith, (q i h).1, S.end_is);
      }

  u_noted : Noted l sides.end us sides.m
  u_noted =
      let N = numbers in
      let q : (i : ℕ) → i < sides.m → (get_or l (us + i) 0 < get_or l (us + i + 1) 0) × (get_or l (us + i + 1) 0 ≤ size p.t + size p.u) =
      λ i h. rise edition_one l body p.u (size p.t) us i u-places (omega (arith, S.m_is)) in
      record {
        within = omega arith;
        rises = λ i h. (q i h).0;
        ends = λ i h. omega (arith, (q i h).1, S.end_is);
      }

  -- the equations are written to a place apart from the parent's row and the first rows of scratch
  module _ (by m to capacity : ℕ) (to_within : Within l to capacity) (low : Apart 0 (from + stride lent) to capacity) (high : Apart scratch (3 * stride lent) to capacity)
      (by_within : Within l by m) (by_apart : Apart by m to capacity) where
    pub equation-parts : MeetParts l (from + HEADER) scratch sides.n us sides.m picks by m to capacity × MeetParts l (from + HEADER) us sides.m scratch sides.n (picks + sides.n) by m to capacity
    equation-parts =
        let N = numbers in
        let body_apart : Apart (from + HEADER) sides.end to capacity = apart_part low (omega arith) (omega arith) (omega arith) (omega arith) in
        let ts : Apart scratch (sides.n + 1) to capacity = apart_part high (omega arith) (omega arith) (omega arith) (omega arith) in
        let ns : Apart us (sides.m + 1) to capacity = apart_part high (omega arith) (omega arith) (omega arith) (omega arith) in (
          record {
            end = sides.end;
            body_within = omega arith;
            body_apart = body_apart;
            owns_noted = t_noted;
            owns_apart = ts;
            others_noted = u_noted;
            others_apart = ns;
            picks_within = omega arith;
            picks_apart = apart_part high (omega arith) (omega arith) (omega arith) (omega arith);
            by_within = by_within;
            by_apart = by_apart;
            to_within = to_within;
          },
          record {
            end = sides.end;
            body_within = omega arith;
            body_apart = body_apart;
            owns_noted = u_noted;
            owns_apart = ns;
            others_noted = t_noted;
            others_apart = ts;
            picks_within = omega arith;
            picks_apart = apart_part high (omega arith) (omega arith) (omega arith) (omega arith);
            by_within = by_within;
            by_apart = by_apart;
            to_within = to_within;
          },
        )

  -- members that join a tail are written to a later row of scratch
  module _ (to : ℕ) (from_there : scratch + 3 * stride lent ≤ to) (to_within : Within l to lent) where
    pub right-parts : TailParts l (from + HEADER) scratch picks sides.n to
    right-parts =
        let N = numbers in
        record {
          end = sides.end;
          noted = t_noted;
          body_within = omega arith;
          picks_within = omega arith;
          to_within = omega arith;
          places_apart = earlier (omega arith);
          body_apart = earlier (omega arith);
          picks_apart = earlier (omega arith);
        }

    pub left-parts : TailParts l (from + HEADER) us (picks + sides.n) sides.m to
    left-parts =
        let N = numbers in
        record {
          end = sides.end;
          noted = u_noted;
          body_within = omega arith;
          picks_within = omega arith;
          to_within = omega arith;
          places_apart = earlier (omega arith);
          body_apart = earlier (omega arith);
          picks_apart = earlier (omega arith);
        }

  -- ---- what is gathered

  pub right_is : joining_piece l (from + HEADER) scratch picks sides.n sides.m ≡ member_words edition_one (to_right p)
  unfolding joining_piece to_right
  right_is =
      rw (S.n_is, S.m_is)
      (joining_is edition_one l body own_left (is_unknown (kernel p.u)) (members p.u) scratch picks p.t 0 0 p.ds t_stands t-places t-picks (omega (arith, S.ds_many, S.n_is)))

  pub left_is : joining_piece l (from + HEADER) us (picks + sides.n) sides.m sides.n ≡ member_words edition_one (to_left p)
  unfolding joining_piece to_left
  left_is =
      let a : us + 0 ≡ us = omega arith in
      let b : picks + sides.n + 0 ≡ picks + sides.n = omega arith in
      let J = joining_is edition_one l body own_right (is_unknown (kernel p.t)) (members p.t) us (picks + sides.n) p.u (size p.t) 0 p.es u_stands (rw a u-places) (rw b u-picks) (omega (arith, S.es_many, S.m_is)) in
      let f : (n m : ℕ) → n ≡ length (members p.t) → m ≡ length (members p.u) → joining_piece l (from + HEADER) us (picks + sides.n) m n ≡ member_words edition_one (to_left p) = λ n m e g. rw (e, g) J in
      f sides.n sides.m S.n_is S.m_is

  pub equations_is : equations_piece l (from + HEADER) scratch sides.n us sides.m picks ≡ pending_words edition_one (news p)
  unfolding equations_piece meeting_piece news own_left own_right
  equations_is =
      let a : us + 0 ≡ us = omega arith in
      let b : picks + sides.n + 0 ≡ picks + sides.n = omega arith in
      let L = meeting_is edition_one l body own_left (is_unknown (kernel p.u)) (members p.u) scratch picks false p.u (size p.t) us refl u_stands u-places (λ own other. refl)
      p.t 0 0 p.ds t_stands t-places t-picks (omega (arith, S.ds_many, S.n_is)) in
      let e : scratch + 0 ≡ scratch = omega arith in
      let R = meeting_is edition_one l body own_right (is_unknown (kernel p.t)) (members p.t) us (picks + sides.n) true p.t 0 scratch refl t_stands (rw e at t-places) (λ own other. refl)
      p.u (size p.t) 0 p.es u_stands (rw a u-places) (rw b u-picks) (omega (arith, S.es_many, S.m_is)) in
      let f : (n m : ℕ) → n ≡ length (members p.t) → m ≡ length (members p.u)
      → meeting_piece l (from + HEADER) scratch picks false n us m ++ meeting_piece l (from + HEADER) us (picks + sides.n) true m scratch n
      ≡ pending_words edition_one (equations_by own_left (is_unknown (kernel p.u)) (members p.u) (members p.t) p.ds) ++ pending_words edition_one (equations_by own_right (is_unknown (kernel p.t)) (members p.t) (members p.u) p.es) =
      λ n m g h. rw (g, h, L, R) in
      f sides.n sides.m S.n_is S.m_is ∙ sym (pending_append edition_one _ _)
