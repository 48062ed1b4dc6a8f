use Rattle.std.proofs.Common.{drop, ◌-◌, sym, ap, ◌∙◌, arith, rules}
use Rattle.word_writer.specs.Writing.{owed_as, owed_wrote, owed_nothing}
use Rattle.word_writer.specs.declared.bracket.Bracket.TheVariants.{Arguments}
use Rattle.word_writer.proofs.Stack.{length-brackets, brackets_left, depth_is, some_open, closes_none, closes_member, closes_rest, closes_tail, closes_last, closes_argument}
use Rattle.word_writer.proofs.bracket.Brackets.close.Goals as goal
use Rattle.word_writer.proofs.bracket.Brackets.close.Goals.{in-Tail, in-Arguments-eq0}

pub change-requires : goal.change-requires
change-requires g c = (search rules, some_open _ (sym c.innermost.ensures ∙ c.in-Some.is))

pub returns-in-Member : goal.returns-in-Member
returns-in-Member g c =
    let due = closes_member _ (sym c.innermost.ensures ∙ c.in-Some.is) c.in-Member.is in
    record { wrote = owed_nothing (owed_as due.0 c.loop-due.invariant.owed); closes = c.change.ensures ∙ sym due.1 ∙ c.loop-due.invariant.keeps }

pub returns-in-Rest : goal.returns-in-Rest
returns-in-Rest g c =
    let due = closes_rest _ (sym c.innermost.ensures ∙ c.in-Some.is) c.in-Rest.is in
    record { wrote = owed_nothing (owed_as due.0 c.loop-due.invariant.owed); closes = sym due.1 ∙ c.loop-due.invariant.keeps }

pub change-requires-in-Arguments : goal.change-requires-in-Arguments
change-requires-in-Arguments g c = (search rules, some_open _ (sym c.innermost.ensures ∙ c.in-Some.is))

pub returns-in-Arguments : goal.returns-in-Arguments
returns-in-Arguments g c =
    let due = closes_argument _ (sym c.innermost.ensures ∙ c.in-Some.is) _ c.in-Arguments.is (search rules) in
    record {
      wrote = owed_nothing (owed_wrote (owed_as due.0 c.loop-due.invariant.owed) c.put_byte.ensures);
      closes = c.change-in-Arguments.ensures ∙ sym due.1 ∙ c.loop-due.invariant.keeps;
    }

pub overflow_sub-self : goal.overflow_sub-self
overflow_sub-self g c = omega (arith, some_open _ (sym c.innermost.ensures ∙ c.in-Some.is), depth_is _ _ c.self.view_is)

pub loop-due-smaller : goal.loop-due-smaller
loop-due-smaller g c =
    omega (arith, some_open _ (sym c.innermost.ensures ∙ c.in-Some.is), depth_is _ _ c.self.view_is, length-brackets c.self.inside.held (c.self.inside.depth - 1))

pub loop-due-preserved : goal.loop-due-preserved
loop-due-preserved g c =
    let less = brackets_left c.self.inside.held c.self.inside.depth (omega (arith, some_open _ (sym c.innermost.ensures ∙ c.in-Some.is), depth_is _ _ c.self.view_is)) in
    let is = less ∙ ap (drop 1) c.self.view_is in
    elim c.match-due.branch [
      | in-Tail w ↦
          let due = closes_tail _ (sym c.innermost.ensures ∙ c.in-Some.is) w.in-Tail.is in
          rw (is, w.text-is, w.next-is) (record { owed = owed_wrote (owed_as due.0 c.loop-due.invariant.owed) w.put_byte-next.ensures; keeps = sym due.1 ∙ c.loop-due.invariant.keeps })
      | in-Arguments-eq0 w ↦
          let due = closes_last _ (sym c.innermost.ensures ∙ c.in-Some.is) (w.in-Arguments-eq0.is ∙ ap Arguments (search rules)) in
          rw (is, w.text-is, w.next-is) (record { owed = owed_wrote (owed_as due.0 c.loop-due.invariant.owed) w.put_byte-next-in-Arguments-eq0.ensures; keeps = sym due.1 ∙ c.loop-due.invariant.keeps })
    ]

pub returns : goal.returns
returns g c =
    let none = closes_none _ (sym c.innermost.ensures ∙ c.in_default.is) in
    record { wrote = owed_nothing (owed_as none.0 c.loop-due.invariant.owed); closes = sym none.1 ∙ c.loop-due.invariant.keeps }
