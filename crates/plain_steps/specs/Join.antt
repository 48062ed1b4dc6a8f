-- The members of all entries of an unknown in the words of a pile: of each entry's term, the words before its kernel.
use Prim.Native.Nat.{ℕ, zero, suc, ◌+◌, ◌-◌, ◌<◌, ◌≤◌}
use Rattle.std.specs.Prelude.{◌≡◌, Bool, true, false, eqb, drop}
use Rattle.std.proofs.Math.Path.{refl, ap}
use Rattle.std.proofs.Common.{sym, ◌∙◌, length-take}
use mathlib.Core.List.{List, [], ◌∷◌, ◌++◌, flat_map}
use native.Mathlib.Omega.{arith}
use Rattle.std.proofs.Math.Nat.{zero-add}
use Rattle.std.proofs.Math.ListN.{length, take, length-append, length-drop}
use Rattle.std.proofs.Math.Seq.{drop_at, take-append-le}
use borrow.Author.Tests.{eqb-true}
use Rattle.terms.specs.Bounds.{Bounds, Proper, MEMBER}
use Rattle.terms.specs.Kind.{takes, takes_member, Worded}
use Rattle.terms.specs.Lists.{All, none, both, cases}
use Rattle.terms.specs.Term.{words, size, members, kernel}
use Rattle.terms.specs.Formed.{Formed}
use Rattle.terms.specs.Laws.Flat.{length_words, eqb_shift}
use Rattle.terms.specs.Laws.Walk.{span, span-le}
use Rattle.terms.proofs.Walk.{term_ends}
use Rattle.search.specs.State.{Entry}
use Rattle.search.specs.Children.{entries, joined}
use Rattle.search.specs.StateWords.{pile_words}
use Rattle.rows.specs.Terms.Ended.{term_end}
use Rattle.rows.specs.Terms.Stripped.{stripped, kernel_at, kernel_at_words, kernel_place}
use Rattle.rows.specs.Pile.{kept}
use Rattle.rows.specs.Terms.MemberWords.{member_words, members-append, take-members, length-members, words_members}

-- at most so many entries are read
unfoldable pub gathered : Bounds → List ℕ → ℕ → ℕ → List ℕ → List ℕ
gathered b arities x zero ws = []
gathered b arities x (suc most) [] = []
gathered b arities x (suc most) (w ∷ ws) =
    kept (eqb w x) (take (kernel_at b arities ws) ws) ++ gathered b arities x most (drop (term_end b arities ws) ws)

pub gathered-entry : (b : Bounds) (arities : List ℕ) (x most w : ℕ) (ws : List ℕ) → 0 < most → gathered b arities x most (w ∷ ws)
    ≡ kept (eqb w x) (take (kernel_at b arities ws) ws) ++ gathered b arities x (most - 1) (drop (term_end b arities ws) ws)
unfolding gathered
gathered-entry b arities x zero w ws h = absurd (omega arith)
gathered-entry b arities x (suc most) w ws h = let e : suc most - 1 ≡ most = omega arith in rw e

pub gathered_none : (b : Bounds) (arities : List ℕ) (x most : ℕ) → gathered b arities x most [] ≡ []
unfolding gathered
gathered_none b arities x zero = refl
gathered_none b arities x (suc most) = refl

length-kept : (c : Bool) (k : ℕ) (ws : List ℕ) → length (kept c (take k ws)) ≤ k
unfolding kept
length-kept true k ws = omega (arith, length-take k ws)
length-kept false k ws = omega arith

-- the kernel stands before the end of its term
module _ {b : Bounds} (proper : Proper b) (arities : List ℕ) where
  pub stripped-ended : (ws : List ℕ) (due place : ℕ) → stripped b arities ws due place ≤ place + span b arities ws (suc due)
  unfolding stripped span
  stripped-ended [] due place = omega arith
  stripped-ended (w ∷ ws) zero place =
      cases (eqb w MEMBER)
      (λ e.
      let o : w ≡ MEMBER = eqb-true w MEMBER e in
      let k : 0 + takes b arities w ≡ 2 = zero-add (takes b arities w) ∙ rw o (takes_member proper arities) in
      rw (e, k) (omega (arith, stripped-ended ws 1 (place + 1))))
      (λ e. rw e (omega arith))
  stripped-ended (w ∷ ws) (suc due) place =
      let e : suc due + takes b arities w ≡ suc (due + takes b arities w) = omega arith in
      rw e (omega (arith, stripped-ended ws (due + takes b arities w) (place + 1)))

  -- no more words than the pile has
  pub length-gathered : (x most : ℕ) (ws : List ℕ) → length (gathered b arities x most ws) ≤ length ws
  unfolding gathered
  length-gathered x zero ws = omega arith
  length-gathered x (suc most) [] = omega arith
  length-gathered x (suc most) (w ∷ ws) =
      let k : ℕ = kernel_at b arities ws in
      let e : ℕ = term_end b arities ws in
      omega (
        arith,
        length-append (kept (eqb w x) (take k ws)) (gathered b arities x most (drop e ws)),
        length-kept (eqb w x) k ws,
        length-gathered x most (drop e ws),
        length-drop e ws,
        stripped-ended ws 0 0,
        span-le b arities ws 1,
      )

module _ {b : Bounds} {arities : List ℕ} {k : ℕ} (worded : Worded b arities k) (x : ℕ) where
  joined-entry : (n : Entry) (ns : List Entry) → member_words b (joined x (n ∷ ns)) ≡ kept (eqb n.name x) (member_words b (members n.term)) ++ member_words b (joined x ns)
  unfolding joined entries kept flat_map
  joined-entry n ns =
      cases (eqb n.name x)
      (λ e. rw e (members-append b (members n.term) (joined x ns)))
      (λ e. rw e)

  pub gathered_pile : (most : ℕ) {ns : List Entry} → All (λ n. Formed arities k n.term) ns → length (pile_words b ns) ≤ most
      → gathered b arities (b.first_unknown + x) most (pile_words b ns) ≡ member_words b (joined x ns)
  unfolding gathered pile_words joined entries member_words flat_map
  gathered_pile zero none h = refl
  gathered_pile (suc most) none h = refl
  gathered_pile zero (both f fs) h = absurd (omega arith)
  gathered_pile (suc most) (both {x = n} {xs = ns} f fs) h =
      let v : List ℕ = words b n.term in
      let l : length v ≡ size n.term = length_words b n.term in
      let e : term_end b arities (v ++ pile_words b ns) ≡ size n.term = term_ends worded f (pile_words b ns) in
      let q : kernel_at b arities (v ++ pile_words b ns) ≡ kernel_place n.term = kernel_at_words worded f (pile_words b ns) in
      let p : take (kernel_place n.term) (v ++ pile_words b ns) ≡ member_words b (members n.term) =
      take-append-le (kernel_place n.term) v (pile_words b ns)
      (omega (arith, length-members b n.term, ap length (words_members b n.term), length-append (member_words b (members n.term)) (words b (kernel n.term))))
      ∙ take-members b n.term in
      rw (e, q, p, eqb_shift b.first_unknown n.name x, drop_at v (pile_words b ns) (size n.term) l, gathered_pile most fs (omega (arith, length-append v (pile_words b ns))))
      (sym (joined-entry n ns))
