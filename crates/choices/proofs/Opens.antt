-- Both sides of a split's equation are noted.
use Prim.Native.Nat.{ℕ, ◌+◌, ◌-◌, ◌≤◌}
use mathlib.Core.Path.{◌≡◌, refl, ap, sym, ◌∙◌}
use mathlib.Core.List.{List, [], append-nil}
use native.Mathlib.Omega.{arith}
use lib.ListN.{length, drop, get_or}
use lib.Seq.{drop_at}
use Rattle.room.specs.Room.{seg, put, length-put, drop-seg, seg-put_same}
use Rattle.room.specs.Parts.{earlier, seg-put}
use Rattle.room.specs.Layout.{HEADER, right_row}
use Rattle.terms.specs.Bounds.{edition_one}
use Rattle.terms.specs.Term.{Term, words, size, members}
use Rattle.terms.specs.Laws.Flat.{length_words}
use Rattle.rows.specs.Terms.Stripped.{kernel_place}
use Rattle.choices.specs.MemberPlaces.{places, noted, noted_words, NoteParts}
use Rattle.choices.specs.GatheredPicks.{at_of, at_last, length-places}
use Rattle.choices.specs.OpenParent.{few_members}
use Rattle.choices.specs.Open.{Open, OpenSides}

module _ {arities l : List ℕ} {from right end lent scratch k : ℕ} {t u : Term} (O : Open arities l from right end lent scratch k t u) where
  abbrev us : ℕ
  us = right_row lent scratch

  pub first-parts : NoteParts l (from + HEADER) 0 end scratch
  first-parts = record {
    body_within = omega (arith, O.row, O.space, O.fits);
    to_within = omega (arith, O.space, O.fits);
    apart = earlier (omega (arith, O.row, O.fits));
    from_first = omega arith;
    words = omega (arith, O.fits, O.lent_small);
    small = O.small;
  }

  t_noted : noted edition_one arities (seg l (from + HEADER + 0) (end - 0)) 0 0 ≡ places t 0
  t_noted =
      let e : from + HEADER + 0 ≡ from + HEADER = omega arith in
      let f : end - 0 ≡ end = omega arith in
      rw (e, f, O.stands) (noted_words O.worded O.formed_t (words edition_one u) 0)

  module _ (n : ℕ) {r : List ℕ} (n_told : n + 1 ≡ length (noted edition_one arities (seg l (from + HEADER + 0) (end - 0)) 0 0))
      (n_room : r ≡ put l scratch (noted edition_one arities (seg l (from + HEADER + 0) (end - 0)) 0 0)) where
    there : r ≡ put l scratch (places t 0)
    there = n_room ∙ ap (put l scratch) t_noted

    n_is : n ≡ length (members t)
    n_is = omega (arith, n_told, ap length t_noted, length-places t 0)

    pub long : length r ≡ length l
    long = ap length there ∙ length-put l scratch (places t 0)

    pub second_parts : NoteParts r (from + HEADER) right end us
    second_parts = record {
      body_within = rw long (omega (arith, O.row, O.space, O.fits));
      to_within = rw long (omega (arith, O.space, O.fits));
      apart = earlier (omega (arith, O.row, O.fits));
      from_first = omega (arith, O.right_is, O.end_is);
      words = omega (arith, O.fits, O.lent_small);
      small = rw long O.small;
    }

    u_noted : noted edition_one arities (seg r (from + HEADER + right) (end - right)) 0 right ≡ places u (size t)
    u_noted =
        let same : seg r (from + HEADER) end ≡ seg l (from + HEADER) end = rw there (seg-put (places t 0) l (earlier (omega (arith, O.row, O.fits)))) in
        let back : seg r (from + HEADER + right) (end - right) ≡ words edition_one u =
        sym (drop-seg r (from + HEADER) end right (omega (arith, O.right_is, O.end_is))) ∙ ap (drop right) (same ∙ O.stands)
        ∙ drop_at (words edition_one t) (words edition_one u) right (length_words edition_one t ∙ sym O.right_is) in
        let w : noted edition_one arities (words edition_one u) 0 right ≡ places u right =
        ap (λ (ws : List ℕ). noted edition_one arities ws 0 right) (sym (append-nil (words edition_one u))) ∙ noted_words O.worded O.formed_u [] right in
        ap (λ (ws : List ℕ). noted edition_one arities ws 0 right) back ∙ w ∙ ap (places u) O.right_is

    module _ (m : ℕ) {q : List ℕ} (m_told : m + 1 ≡ length (noted edition_one arities (seg r (from + HEADER + right) (end - right)) 0 right))
        (m_room : q ≡ put r us (noted edition_one arities (seg r (from + HEADER + right) (end - right)) 0 right)) where
      both_there : q ≡ put (put l scratch (places t 0)) us (places u (size t))
      both_there = m_room ∙ rw (u_noted, there)

      m_is : m ≡ length (members u)
      m_is = omega (arith, m_told, ap length u_noted, length-places u (size t))

      pub all_long : (length q ≡ length l) × (n ≤ lent) × (m ≤ lent)
      all_long = (
        ap length both_there ∙ length-put (put l scratch (places t 0)) us (places u (size t)) ∙ length-put l scratch (places t 0),
        omega (arith, n_is, few_members t, O.end_is, O.fits),
        omega (arith, m_is, few_members u, O.end_is, O.fits),
      )

      s_there : get_or q (scratch + n) 0 ≡ kernel_place t
      s_there =
          let h = length-places t 0 in
          let w = few_members t in
          let e : seg q scratch (length (places t 0)) ≡ places t 0 =
          rw both_there (seg-put (places u (size t)) (put l scratch (places t 0)) (earlier (omega (arith, O.end_is, O.fits))) ∙ seg-put_same (places t 0) l scratch (omega (arith, O.end_is, O.fits, O.space))) in
          ap (λ (j : ℕ). get_or q (scratch + j) 0) n_is ∙ at_last t 0 scratch (at_of q (places t 0) scratch (omega (arith, all_long.0, O.end_is, O.fits, O.space)) e) ∙ omega arith

      r_there : get_or q (us + m) 0 ≡ size t + kernel_place u
      r_there =
          let h = length-places u (size t) in
          let w = few_members u in
          let n' = length-put l scratch (places t 0) in
          let e : seg q us (length (places u (size t))) ≡ places u (size t) =
          rw both_there (seg-put_same (places u (size t)) (put l scratch (places t 0)) us (omega (arith, O.end_is, O.fits, O.space))) in
          ap (λ (j : ℕ). get_or q (us + j) 0) m_is ∙ at_last u (size t) us (at_of q (places u (size t)) us (omega (arith, all_long.0, O.end_is, O.fits, O.space)) e)

      pub sides_open : {s o : ℕ} → s ≡ get_or q (scratch + n) 0 → o ≡ get_or q (us + m) 0 → OpenSides l right end lent scratch t u (record { n = n; m = m; right = right; end = end; s = s; r = o }) q
      sides_open f g = record { room = both_there; n_is = n_is; m_is = m_is; right_is = refl; end_is = refl; s_is = f ∙ s_there; r_is = g ∙ r_there }
