-- A split that stands open: its sides and their tails are read back, its picks advanced, and what is told of the children from there on is told of the
-- row's children after the last one.
use Prim.Native.Nat.{ℕ, suc, ◌+◌, ◌-◌, ◌≤◌, ◌<◌}
use mathlib.Core.Path.{◌≡◌, refl, sym, ap, ◌∙◌}
use mathlib.Core.Bool.{Bool, true, false}
use mathlib.Core.List.{List, [], ◌++◌}
use native.Mathlib.Omega.{arith}
use lib.ListN.{length, take, drop, get_or, length-append, get_or-append}
use lib.Seq.{get_or-append-add}
use Rattle.room.specs.Room.{seg, get_or-seg}
use Rattle.room.specs.Layout.{HEADER, stride, right_row, picks_row}
use Rattle.terms.specs.Bounds.{edition_one}
use Rattle.terms.specs.Term.{Term, members, kernel, size, words}
use Rattle.terms.specs.Laws.Flat.{size_positive, length_words}
use Rattle.terms.specs.Laws.FormedParts.{formed_kernel}
use Rattle.search.specs.State.{State}
use Rattle.search.specs.Classify.{tails}
use Rattle.search.specs.Children.{children}
use Rattle.search.specs.declared.steps.Tails.{Tails}
use Rattle.search.specs.declared.steps.Step.TheVariants.{Split}
use Rattle.binding.specs.At.{first-size}
use Rattle.rows.specs.declared.parts.Rest.{Rest}
use Rattle.rows.specs.declared.header.Header.{Header}
use Rattle.rows.specs.First.{header_in, HeaderParts, rest_after}
use Rattle.rows.specs.Terms.MemberWords.{member_words, head_word, head_kernel, words_members, length-members}
use Rattle.rows.specs.Row.{header_for}
use Rattle.rows.specs.Stepping.{tails_of, tails_of_heads}
use Rattle.rows.specs.Terms.Stripped.{kernel_place}
use Rattle.search_laws.specs.Picking.{radix}
use Rattle.choices.specs.declared.sides.Sides.{Sides}
use Rattle.choices.specs.Digits.{copies, length-copies, length_digits, PickParts, Advanced}
use Rattle.choices.specs.OpenParent.{Parent, few_members}
use Rattle.choices.specs.MemberPlaces.{places}
use Rattle.choices.specs.GatheredPicks.{At, at_of, at_first, at_last, length-places}
use Rattle.only_child.specs.declared.next.Next.{Next}
use Rattle.only_child.specs.declared.next.Next.TheVariants.{Spent}
use Rattle.pick_loop.specs.PicksInScratch.{left_open, right_open, place, Picks, PicksAt, Picked}
use Rattle.pick_loop.specs.Shown.{Opened, Opens}
use Rattle.noted_sides.specs.NotedSides.{sides_in, SidesParts}
use Rattle.openings.specs.SplitRow.{Splitting}
use Rattle.pick_loop.proofs.Advancing.{advance_parts, advanced_long, advanced_before, advanced_told, further, advanced, one_further, none_further}
use Rattle.openings.proofs.SplitOpened.{Noted, parent, opened, picks_of, all_of, opens_none, opens-from}
use Rattle.pick_loop.proofs.Radices.{Sets, sets}
use Rattle.only_child.proofs.ReadyRow.{lent-part, header_read, rest-parts}
use Rattle.openings.proofs.SplitSides.{open_there}

-- the kernel has a word
kernel-below : (t : Term) → kernel_place t < size t
kernel-below t =
    omega (arith, size_positive (kernel t), length-members edition_one t, length_words edition_one (kernel t), length_words edition_one t, ap length (words_members edition_one t), length-append (member_words edition_one (members t)) (words edition_one (kernel t)))

module _ {arities l : List ℕ} {at lent scratch most : ℕ} {st : State} {last : ℕ} (O : Opened arities l at lent scratch most st last) where
  abbrev t : Term
  t = O.shown.first.left

  abbrev u : Term
  u = O.shown.first.right

  abbrev us : ℕ
  us = right_row lent scratch

  abbrev picks : ℕ
  picks = picks_row lent scratch

  abbrev rest : Rest
  rest = rest_after at (header_for st) (size t + size u)

  -- the row as it was when the split was opened
  splitting : {k : Tails} → k ≡ O.shown.kind → Splitting arities l at rest (size t) (size t + size u) k (last + 1) lent st.next scratch most st O.shown.first O.shown.others
  splitting e = record {
    ready = O.ready;
    cut = O.shown.cut;
    right_is = refl;
    end_is = refl;
    rest_is = refl;
    step_is = O.shown.step_is ∙ ap (λ (j : Tails). Split j) (sym e);
    next_is = refl;
  }

  fits : size t + size u ≤ lent
  fits = (open_there (splitting refl)).fits

  -- ---- the sides

  n_there : get_or l (picks + lent) 0 ≡ length (members t)
  n_there =
      let e : picks + lent + 0 ≡ picks + lent = omega arith in
      ap (λ (j : ℕ). get_or l j 0) (sym e) ∙ sym (get_or-seg l (picks + lent) 3 0 (omega arith)) ∙ ap (λ (ws : List ℕ). get_or ws 0 0) O.shown.told

  m_there : get_or l (picks + lent + 1) 0 ≡ length (members u)
  m_there = sym (get_or-seg l (picks + lent) 3 1 (omega arith)) ∙ ap (λ (ws : List ℕ). get_or ws 1 0) O.shown.told

  end_there : get_or l (picks + lent + 2) 0 ≡ size t + size u
  end_there = sym (get_or-seg l (picks + lent) 3 2 (omega arith)) ∙ ap (λ (ws : List ℕ). get_or ws 2 0) O.shown.told

  pub sides-asked : SidesParts l lent scratch
  sides-asked = record {
    within = omega (arith, O.ready.scratch_rows);
    n_few = omega (arith, n_there, few_members t, fits);
    m_few = omega (arith, m_there, few_members u, fits);
    small = O.ready.small;
  }

  t-places : At l scratch (places t 0)
  t-places =
      let e : length (places t 0) ≡ length (members t) + 1 = omega (arith, length-places t 0) in
      at_of l (places t 0) scratch (omega (arith, few_members t, fits, O.ready.scratch_rows)) (ap (seg l scratch) e ∙ O.shown.t_noted)

  u-places : At l us (places u (size t))
  u-places =
      let e : length (places u (size t)) ≡ length (members u) + 1 = omega (arith, length-places u (size t)) in
      at_of l (places u (size t)) us (omega (arith, few_members u, fits, O.ready.scratch_rows)) (ap (seg l us) e ∙ O.shown.u_noted)

  module _ {a : Sides} (read : a ≡ sides_in l lent scratch) where
    noted : Noted l a lent scratch t u
    unfolding sides_in
    noted =
        let n_is : a.n ≡ length (members t) = ap (λ g. g.n) read ∙ n_there in
        let m_is : a.m ≡ length (members u) = ap (λ g. g.m) read ∙ m_there in
        record {
          n_is = n_is;
          m_is = m_is;
          right_is = ap (λ g. g.right) read ∙ at_first u (size t) u-places;
          end_is = ap (λ g. g.end) read ∙ end_there;
          s_is = ap (λ g. g.s) read ∙ ap (λ (j : ℕ). get_or l (scratch + j) 0) n_there ∙ at_last t 0 scratch t-places ∙ omega arith;
          r_is = ap (λ g. g.r) read ∙ ap (λ (j : ℕ). get_or l (us + j) 0) m_there ∙ at_last u (size t) us u-places;
          t_noted = rw n_is O.shown.t_noted;
          u_noted = rw m_is O.shown.u_noted;
        }

    pub tails-within : (a.s < lent) × (a.r < lent)
    tails-within = (omega (arith, noted.s_is, kernel-below t, fits), omega (arith, noted.r_is, kernel-below u, fits))

    pub members_few : a.n + a.m < lent
    members_few = omega (arith, noted.n_is, noted.m_is, few_members t, few_members u, fits)

    -- ---- the tails

    abbrev both : List ℕ
    both = words edition_one t ++ words edition_one u

    word_there : (i : ℕ) → i < size t + size u → get_or l (at + HEADER + i) 0 ≡ get_or both i 0
    word_there i h = sym (get_or-seg l (at + HEADER) (size t + size u) i h) ∙ ap (λ (ws : List ℕ). get_or ws i 0) (open_there (splitting refl)).stands

    s-word : get_or l (at + HEADER + a.s) 0 ≡ head_word edition_one (kernel t)
    s-word =
        ap (λ (j : ℕ). get_or l (at + HEADER + j) 0) noted.s_is ∙ word_there (kernel_place t) (omega (arith, kernel-below t))
        ∙ get_or-append (words edition_one t) (words edition_one u) 0 (kernel_place t) (omega (arith, kernel-below t, length_words edition_one t))
        ∙ head_kernel edition_one t

    r-word : get_or l (at + HEADER + a.r) 0 ≡ head_word edition_one (kernel u)
    r-word =
        ap (λ (j : ℕ). get_or l (at + HEADER + j) 0) noted.r_is ∙ word_there (size t + kernel_place u) (omega (arith, kernel-below u))
        ∙ ap (λ (j : ℕ). get_or both (j + kernel_place u) 0) (sym (length_words edition_one t))
        ∙ get_or-append-add (words edition_one t) (words edition_one u) (kernel_place u) 0
        ∙ head_kernel edition_one u

    module _ {k : Tails} (found : k ≡ tails_of edition_one (get_or l (at + HEADER + a.s) 0) (get_or l (at + HEADER + a.r) 0)) where
      kind_is : k ≡ O.shown.kind
      unfolding tails
      kind_is =
          let T = open_there (splitting refl) in
          found ∙ rw (s-word, r-word) (tails_of_heads T.worded (formed_kernel T.formed_t) (formed_kernel T.formed_u)) ∙ (sets t u O.shown.step_is).kind

      abbrev S : Splitting arities l at rest (size t) (size t + size u) k (last + 1) lent st.next scratch most st O.shown.first O.shown.others
      S = splitting kind_is

      abbrev p : Parent
      p = parent st O.shown.first O.shown.others O.shown.ds O.shown.es

      -- ---- the picks

      module _ {first second : ℕ} (f : first ≡ radix (right_open k) a.m) (g : second ≡ radix (left_open k) a.n) where
        here : Picks arities l at rest a k first second lent st.next scratch most p
        here =
            let N = noted in
            let B : Sets t u k = sets t u S.step_is in
            let H = O.shown in
            picks_of S N refl (λ i n h. refl) f g
            (opened S N refl (λ i n h. refl) H.ds H.es (rw (N.n_is, N.m_is) H.picked)
            (length_digits H.ds_proper ∙ length-copies (length (members t)) _ ∙ sym N.n_is)
            (length_digits H.es_proper ∙ length-copies (length (members u)) _ ∙ sym N.m_is))
            (rw (f, N.n_is, N.m_is, B.right) H.ds_proper)
            (rw (g, N.n_is, N.m_is, B.left) H.es_proper)

        pub on_parts : PickParts l a.n first picks × PickParts l a.m second (picks + a.n)
        on_parts = advance_parts here

        module _ {more : Bool} {r : List ℕ} (A : Advanced l picks (copies a.n first ++ copies a.m second) (seg l picks (a.n + a.m)) more r) where
          on_long : length r ≡ length l
          on_long = advanced_long here A

          below : seg r 0 (at + stride lent) ≡ seg l 0 (at + stride lent)
          below = advanced_before here A 0 (at + stride lent) (omega (arith, O.ready.row))

          pub on_spent : more ≡ false → Opens l at (last + 1) lent scratch most st (Spent 0) r
          on_spent z =
              let e : suc last ≡ last + 1 = omega arith in
              let none : drop (last + 1) (children st) ≡ [] = rw (all_of S O.shown.ds O.shown.es, ← e, ← O.shown.last_is) (none_further here A z) in
              opens_none S r on_long below none

          -- ---- the header, read again

          module _ {h : Header} (again : h ≡ header_in (take (at + 5 - at) (drop at r))) where
            header_is : h ≡ header_for st
            header_is =
                header_read O.ready (again ∙ ap header_in (lent-part r at 5 ∙ advanced_before here A at 5 (omega (arith, O.ready.row)) ∙ sym (lent-part l at 5)))

            pub rest-asked : HeaderParts at h a.end
            rest-asked = rw (header_is, noted.end_is) (rest-parts O.ready (size t + size u) (omega (arith, first-size st O.shown.cut)))

            next_is : h.next ≡ st.next
            unfolding header_for
            next_is = ap (λ j. j.next) header_is

            module _ {left : Rest} (e : left ≡ rest_after at h a.end) where
              rest_is : left ≡ rest
              rest_is = e ∙ rw (header_is, noted.end_is)

              on_here : Picks arities r at left a k first second lent h.next scratch most (further here A)
              on_here = rw (rest_is, next_is) (advanced here A)

              pub on_asked : PicksAt arities r at left a k first second lent h.next scratch most
              on_asked = record { p = further here A; here = on_here }

              pub on_told : more ≡ true → {x : Next} {q : List ℕ} → ((n : Parent) → Picks arities r at left a k first second lent h.next scratch most n → Picked arities r at left a k first second lent h.next scratch most n x q)
                  → Opens l at (last + 1) lent scratch most st x q
              on_told z {x} {q} K =
                  let e : suc last ≡ last + 1 = omega arith in
                  let place_is : place (further here A) ≡ last + 1 = one_further here A z ∙ ap suc O.shown.last_is ∙ e in
                  opens-from S r on_long below (advanced_told here A ∙ O.shown.told) place_is (rw (rest_is, next_is) at (K (further here A) on_here))
