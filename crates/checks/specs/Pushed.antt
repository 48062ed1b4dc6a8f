-- One word read: where a check lets a word stand, and its terms are on the stack, the stack with the word pushed is formed again and has its words.
use Prim.Native.Nat.{ℕ, zero, suc, ◌+◌, ◌≤◌}
use Rattle.std.proofs.Math.Path.{◌≡◌}
use Rattle.std.specs.Prelude.{refl, List, [], ◌∷◌, ◌++◌, Bool, true, false, cond, ltb, length, drop, Err, Ok}
use Rattle.std.proofs.Common.{ap, ◌∙◌, append_assoc, arith, ltb-true}
use Rattle.std.proofs.Math.ListN.{get_or, length-drop}
use Rattle.terms.specs.Bounds.{Bounds, Proper, MEMBER}
use Rattle.terms.specs.Kind.{kind, Means, means, means_empty, means_member, means_unknown, means_functor, means_nothing, takes, takes_empty, takes_member, takes_unknown}
use Rattle.terms.proofs.KindLaws.{takes_functor}
use Rattle.terms.specs.Lists.{All, none, both}
use Rattle.terms.specs.Term.{Term, words, words*, count}
use Rattle.terms.specs.Formed.{Formed, Formed*, formed_unknown, formed_empty, formed_with, formed_functor, formed_none, formed_more, row}
use Rattle.terms.specs.Reading.{top, taken, push}
use Rattle.checks.specs.Check.{follow, follows, Follow}
use Rattle.terms.specs.declared.kind.Kind.{Kind}
use Rattle.terms.specs.declared.kind.Kind.TheVariants.{Empty, Member, Unknown, Functor, Nothing}
use Rattle.terms.specs.declared.refusal.Cause.{Cause}
use Rattle.terms.specs.declared.refusal.Cause.TheVariants.{WordsUndeclared}

-- ---- the first m of a stack

count-taken : (m : ℕ) (ts : List Term) → count (taken m ts) ≡ m
unfolding count taken
count-taken zero ts = refl
count-taken (suc m) ts = ap suc (count-taken m (drop 1 ts))

words_taken : (b : Bounds) (m : ℕ) (ts : List Term) → m ≤ length ts → words* b (taken m ts) ++ row b (drop m ts) ≡ row b ts
unfolding words taken top row
words_taken b zero ts h = refl
words_taken b (suc m) [] h = absurd (omega arith)
words_taken b (suc m) (t ∷ ts) h = append_assoc (words b t) (words* b (taken m ts)) (row b (drop m ts)) ∙ ap (λ ws. words b t ++ ws) (words_taken b m ts (omega arith))

words_two : (b : Bounds) (ts : List Term) → 2 ≤ length ts → (words b (top ts) ++ words b (top (drop 1 ts))) ++ row b (drop 2 ts) ≡ row b ts
unfolding top row
words_two b [] h = absurd (omega arith)
words_two b (t ∷ []) h = absurd (omega arith)
words_two b (t ∷ u ∷ ts) h = append_assoc (words b t) (words b u) (row b ts)

module _ {arities : List ℕ} {n : ℕ} where
  pub formed_top : {ts : List Term} → All (Formed arities n) ts → Formed arities n (top ts)
  unfolding top
  formed_top none = formed_empty
  formed_top (both f fs) = f

  pub formed_drop : (m : ℕ) {ts : List Term} → All (Formed arities n) ts → All (Formed arities n) (drop m ts)
  formed_drop zero fs = fs
  formed_drop (suc m) none = none
  formed_drop (suc m) (both f fs) = formed_drop m fs

  formed_taken : (m : ℕ) {ts : List Term} → All (Formed arities n) ts → Formed* arities n (taken m ts)
  unfolding taken
  formed_taken zero fs = formed_none
  formed_taken (suc m) fs = formed_more (formed_top fs) (formed_taken m (formed_drop 1 fs))

-- ---- one word

pub record Pushed (b : Bounds) (arities : List ℕ) (n w m : ℕ) (ts us : List Term) : Type 0 where
  pub follows : takes b arities w ≡ m
  pub one_more : length us + m ≡ suc (length ts)
  pub formed : All (Formed arities n) us
  pub worded : row b us ≡ w ∷ row b ts

-- a word that stands under a condition: the condition holds
stands_if : (c : Bool) (f : Follow) (cause : Cause) {m : ℕ} → cond c f (Err cause) ≡ Ok m → (c ≡ true) × (f ≡ Ok m)
stands_if true f cause e = (refl, e)
stands_if false f cause e = let z : ◌≡◌ {A = ℕ} 0 1 = cc in absurd (omega arith)

module _ {b : Bounds} (proper : Proper b) (arities : List ℕ) (n w m : ℕ) (ts : List Term) (fs : All (Formed arities n) ts) (h : m ≤ length ts) where
  by_kind : (k : Kind) → Means b w k → follows arities n k ≡ Ok m → Pushed b arities n w m ts (push arities k ts)
  unfolding follows push row words
  by_kind Empty (means_empty e) f =
      let z : 0 ≡ m = cc in
      record { follows = rw e (takes_empty proper arities ∙ z); one_more = omega arith; formed = both formed_empty fs; worded = rw e }
  by_kind Member (means_member e) f =
      let z : 2 ≡ m = cc in
      record {
        follows = rw e (takes_member proper arities ∙ z);
        one_more = simp length-drop (omega arith);
        formed = both (formed_with (formed_top fs) (formed_top (formed_drop 1 fs))) (formed_drop 2 fs);
        worded = rw e (ap (λ ws. MEMBER ∷ ws) (words_two b ts (omega arith)));
      }
  by_kind (Unknown i) (means_unknown e j) f =
      let s = stands_if (ltb i n) (Ok 0) WordsUndeclared f in
      let z : 0 ≡ m = cc in
      record {
        follows = rw e (takes_unknown proper arities i j ∙ z);
        one_more = omega arith;
        formed = both (formed_unknown (ltb-true i n s.0)) fs;
        worded = rw e;
      }
  by_kind (Functor k) (means_functor e j) f =
      let s = stands_if (ltb k (length arities)) (Ok (get_or arities k 0)) WordsUndeclared f in
      let z : get_or arities k 0 ≡ m = cc in
      record {
        follows = rw e (takes_functor proper arities k j ∙ z);
        one_more = rw z (omega (arith, length-drop m ts));
        formed = both (formed_functor (ltb-true k (length arities) s.0) (count-taken (get_or arities k 0) ts) (formed_taken (get_or arities k 0) fs)) (formed_drop (get_or arities k 0) fs);
        worded = rw (e, z) (ap (λ ws. (b.first_functor + k) ∷ ws) (words_taken b m ts h));
      }
  by_kind Nothing means_nothing f = let z : ◌≡◌ {A = ℕ} 0 1 = cc in absurd (omega arith)

  pub pushed : follow b arities n w ≡ Ok m → Pushed b arities n w m ts (push arities (kind b w) ts)
  unfolding follow
  pushed f = by_kind (kind b w) (means b w) f
