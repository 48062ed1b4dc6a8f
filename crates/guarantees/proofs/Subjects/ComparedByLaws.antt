-- What `equal` and `solves` answer, by the laws: the test of what the words hold agrees with the least equality, and every answer but a refusal says that the
-- words hold what it speaks of.
use Rattle.std.specs.Prelude.{ℕ, ◌≡◌, refl, Bool, true, false, Ok, Err, List, [], ◌∷◌, ◌↔◌, length, drop}
use Rattle.checks.specs.Check.{Checked}
use Rattle.std.proofs.Common.{sym, arith}
use Rattle.std.proofs.lemmas.Bool.{false≢true}
use Rattle.terms.specs.Bounds.{edition_one, edition_one_proper}
use Rattle.terms.specs.Term.{Term}
use Rattle.terms.specs.Formed.{Equation}
use Rattle.checks.specs.Lent.{Table, Asked, check_row_ground, ground_check_row, ground_back}
use Rattle.terms.specs.Reading.{read, top, question_of}
use Rattle.laws.specs.Laws.{◌≈◌}
use Rattle.laws.specs.Equal.{equal}
use Rattle.laws.proofs.Agree.{agree}
use Rattle.laws.specs.Values.{Values, in_order, Solves, solves_test}
use Rattle.laws.proofs.Solving.{solves_agree}
use Rattle.equality.specs.Answering.{equality_after, equal_answer, solving_after, solves_answer}
use Rattle.guarantees.specs.Calls.{Posed, asked, solves_told}
use Rattle.guarantees.specs.Notions.{Compared, Tried}
use Rattle.guarantees.proofs.Subjects.{impossible}
use Rattle.guarantees.proofs.Subjects.Granting.{asked_exactly}

-- a test that agrees with P fails exactly if P does not hold
fails_exactly : {P : Type 0} (b : Bool) → P ↔ (b ≡ true) → (P → ⊥) ↔ (b ≡ false)
fails_exactly true e = (λ n. absurd (n (e.1 refl)), λ f h. false≢true (sym f))
fails_exactly false e = (λ n. refl, λ f h. false≢true (e.0 h))

-- ---- two ground terms

compared_by : (c : Checked) (test b : Bool) → equality_after c test ≡ Ok b → (c ≡ Ok tt) × (test ≡ b)
unfolding equality_after
compared_by (Err r) test b e = impossible (cc)
compared_by (Ok _) test b e = (refl, cc)

by_test : (b : Bool) → equality_after (Ok tt) b ≡ Ok b
unfolding equality_after
by_test b = refl

two : (ts : List Term) → length ts ≡ 2 → ts ≡ top ts ∷ top (drop 1 ts) ∷ []
unfolding top
two [] e = absurd (omega arith)
two (t ∷ []) e = absurd (omega arith)
two (t ∷ u ∷ []) e = refl
two (t ∷ u ∷ v ∷ ts) e = absurd (omega arith)

module _ {R : Term → Term → Type 0} (b : Bool) (decided : (t u : Term) → R t u ↔ (equal t u ≡ b)) where
  compared_exactly : (arities ws : List ℕ) → (equal_answer edition_one arities ws ≡ Ok b) ↔ Compared arities ws R
  unfolding equal_answer top
  compared_exactly arities ws = (
    λ e.
        let h = compared_by _ _ b e in
        let g = check_row_ground edition_one_proper arities 2 ws h.0 in
        record {
          left = top (read edition_one arities ws);
          right = top (drop 1 (read edition_one arities ws));
          table = g.0;
          standing = rw (two (read edition_one arities ws) g.1.count) at g.1;
          related = (decided _ _).1 h.1;
        },
    λ c.
        rw (ground_check_row edition_one_proper c.table c.standing, ground_back edition_one_proper c.table c.standing, (decided c.left c.right).0 c.related) (by_test b),
  )

pub equal_exactly : (arities ws : List ℕ) → (equal_answer edition_one arities ws ≡ Ok true) ↔ Compared arities ws ◌≈◌
equal_exactly = compared_exactly true agree

pub differ_exactly : (arities ws : List ℕ) → (equal_answer edition_one arities ws ≡ Ok false) ↔ Compared arities ws (λ t u. t ≈ u → ⊥)
differ_exactly = compared_exactly false (λ t u. fails_exactly (equal t u) (agree t u))

-- ---- values for a question

tried_by : (c d : Checked) (test b : Bool) → solving_after c d test ≡ Ok b → (c ≡ Ok tt) × (d ≡ Ok tt) × (test ≡ b)
unfolding solving_after
tried_by (Err r) d test b e = impossible (cc)
tried_by (Ok _) (Err r) test b e = impossible (cc)
tried_by (Ok _) (Ok _) test b e = (refl, refl, cc)

by_trial : (b : Bool) → solving_after (Ok tt) (Ok tt) b ≡ Ok b
unfolding solving_after
by_trial b = refl

table_of : (q : Posed) → Asked edition_one q.equations q.words (asked q) → Table edition_one q.arities
unfolding question_of
table_of q a = record { functors = a.good.functors; arities_within = a.good.arities }

module _ {P : Values → List Equation → Type 0} (b : Bool) (decided : (σ : Values) (es : List Equation) → P σ es ↔ (solves_test σ es ≡ b)) where
  tried_exactly : (q : Posed) (ws : List ℕ) → (solves_told q ws ≡ Ok b) ↔ Tried q ws (λ σ. P σ (asked q).equations)
  unfolding solves_answer
  tried_exactly q ws = (
    λ e.
        let h = tried_by _ _ _ b e in
        let g = check_row_ground edition_one_proper q.arities q.unknowns ws h.1 in
        record { good = (asked_exactly q).0 h.0; values = read edition_one q.arities ws; standing = g.1; tried = (decided _ _).1 h.2 },
    λ t.
        let table = table_of q t.good in
        rw (
          (asked_exactly q).1 t.good,
          ground_check_row edition_one_proper table t.standing,
          ground_back edition_one_proper table t.standing,
          (decided (in_order t.values) (asked q).equations).0 t.tried,
        ) (by_trial b),
  )

pub yes_exactly : (q : Posed) (ws : List ℕ) → (solves_told q ws ≡ Ok true) ↔ Tried q ws (λ σ. Solves σ (asked q).equations)
yes_exactly = tried_exactly true solves_agree

pub no_exactly : (q : Posed) (ws : List ℕ) → (solves_told q ws ≡ Ok false) ↔ Tried q ws (λ σ. Solves σ (asked q).equations → ⊥)
no_exactly = tried_exactly false (λ σ es. fails_exactly (solves_test σ es) (solves_agree σ es))
