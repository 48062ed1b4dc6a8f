-- `children::look`: where the row's split stands open, `Showing` says that the picks may go on.
use Rattle.std.proofs.Common.{◌≡◌, Some, true, refl, sym, ◌∙◌, arith, eq-eqb}
use Rattle.std.proofs.lemmas.Bool.{false≢true}
use Rattle.children.proofs.Showing.{opened_at, looks_on}
use Rattle.children.proofs.look.Goals as goal

pub next_pick-requires : goal.next_pick-requires
next_pick-requires c =
    let own : c.args.shown ≡ Some c.args.level = grind arith in
    opened_at c.requires.1 own

pub returns-then-eq : goal.returns-then-eq
returns-then-eq c =
    let own : c.args.shown ≡ Some c.args.level = grind arith in
    record { looks = λ st K. looks_on K own c.next_pick.ensures; opens_value = λ own. refl }

pub next_child-requires : goal.next_child-requires
next_child-requires c = (c.requires.0, c.requires.1.ready)

pub returns : goal.returns
returns c = record {
  looks = λ st K. c.next_child.ensures st K.ready;
  opens_value = λ own.
      let e : c.eq.result ≡ true = c.eq.ensures ∙ rw own (eq-eqb c.args.level c.args.level refl) in
      absurd (false≢true (sym c.if-eq.false ∙ e));
}
