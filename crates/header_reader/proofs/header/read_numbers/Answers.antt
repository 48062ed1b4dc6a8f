use Prim.Native.Nat.{◌+◌, ◌-◌}
use native.Mathlib.Omega.{arith}
use mathlib.Core.Path.{◌≡◌, refl, sym, ◌∙◌}
use borrow.Author.Rules.{rules}
use Rattle.std.proofs.lemmas.Result.{err_from_is_err_and}
use Rattle.terms.specs.Bounds.{FUNCTORS}
use Rattle.numerals.specs.Numbers.{between-most}
use Rattle.numerals.specs.Bytes.{found}
use Rattle.header_reader.proofs.HeaderLines.{arity_full, arity_unfit, arity_other, arity_more, arity_last}
use Rattle.header_reader.proofs.header.read_numbers.Goals as goal

pub loop-init : goal.loop-init
loop-init c = rw c.requires (refl, refl)

pub returns-in_err-read-clause-exact : goal.returns-in_err-read-clause-exact
returns-in_err-read-clause-exact c =
    let p = err_from_is_err_and c.from_residual.result c.from_residual.ensures.1 in
    rw (p.1, p.2) (arity_unfit _ _ _ _ _ (omega arith) _ (sym c.in_err-read.ensures) ∙ sym c.loop.invariant.0)

pub overflow_cast-read : goal.overflow_cast-read
overflow_cast-read c = omega (arith, between-most _ _ _ _ _ _ (sym c.in_ok-read.ensures))

pub overflow_add-result : goal.overflow_add-result
overflow_add-result c = omega (arith, found _ _ c.in-Some-eq10.ensures (omega arith))

pub returns-in-Some-eq10-clause-exact : goal.returns-in-Some-eq10-clause-exact
returns-in-Some-eq10-clause-exact c =
    rw c.push.ensures.items (
    arity_last _ _ _ _ _ _ (sym c.in_ok-read.ensures) c.in-Some-eq10.ensures _ (omega arith) c.in-Some-eq10.field-0-test ∙ sym c.loop.invariant.0
    )

pub returns-in_default-clause-exact : goal.returns-in_default-clause-exact
returns-in_default-clause-exact c =
    let t = c.in_default.field-0-test in
    arity_other _ _ _ _ _ _ (sym c.in_ok-read.ensures) c.in_default.ensures _ (omega arith) t.1 t.0.1 ∙ sym c.loop.invariant.0

pub returns-in_default-2-clause-exact : goal.returns-in_default-2-clause-exact
returns-in_default-2-clause-exact c =
    arity_other _ _ _ _ _ _ (sym c.in_ok-read.ensures) (rw c.in_default.is at c.peek.ensures) _ (omega arith) (λ z. absurd (omega arith)) (λ z. absurd (omega arith))
    ∙ sym c.loop.invariant.0

pub overflow_add-p : goal.overflow_add-p
overflow_add-p c = omega (arith, found _ _ c.in-Some-eq44.ensures (omega arith))

pub loop-preserved : goal.loop-preserved
loop-preserved c =
    let z : FUNCTORS - (c.loop.counter + 1) ≡ FUNCTORS - c.loop.counter - 1 = omega arith in (
      rw (c.push.ensures.items, z)
          (c.loop.invariant.0
          ∙ arity_more _ _ _ _ _ _ (sym c.in_ok-read.ensures) c.in-Some-eq44.ensures _ (omega arith) c.in-Some-eq44.field-0-test),
      search rules,
    )

pub returns-clause-exact : goal.returns-clause-exact
returns-clause-exact c = arity_full _ _ _ _ _ (omega arith) ∙ sym c.loop.invariant.0
