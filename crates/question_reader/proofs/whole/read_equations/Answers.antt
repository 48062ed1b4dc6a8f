use native.Mathlib.Omega.{arith}
use mathlib.Core.Path.{◌≡◌, refl, sym, ap, ◌∙◌}
use Prim.Native.Nat.{ℕ, ◌<◌}
use lib.ListN.{length}
use Rattle.std.proofs.lemmas.Result.{err_from_is_err_and}
use Rattle.numerals.specs.TextReading.{read}
use Rattle.numerals.specs.Bytes.{byte_in, byte-out}
use Rattle.term_reader.specs.ReadingAnswers.{is_read, is_stopped}
use Rattle.question_reader.proofs.EquationSides.{equations-more, equations-stop, equations-end, equations-left, equation-ends}
use Rattle.question_reader.proofs.whole.read_equations.Goals as goal

pub returns-in_err-end : goal.returns-in_err-end
returns-in_err-end c =
    let p = err_from_is_err_and c.from_residual.result c.from_residual.ensures.1 in
    rw (p.1, p.2)
    (sym (c.loop.invariant.0 ∙ equations-stop _ _ _ _ _ _ _ (omega arith) (is_stopped _ c.read_equation.ensures _ c.in_err-end.was)))

pub loop-preserved : goal.loop-preserved
loop-preserved c =
    let E = is_read _ c.read_equation.ensures _ c.in_ok-end.was in
    (c.loop.invariant.0 ∙ equations-more _ _ _ _ _ _ _ _ _ (omega arith) E, equation-ends _ _ _ _ _ _ _ c.loop.invariant.1 E)

pub returns-then-p-text : goal.returns-then-p-text
returns-then-p-text c =
    let k : c.loop.p ≡ length c.args.text.now = omega arith in
    let z = byte-out _ _ (omega arith) in
    ap (λ (q : ℕ). read q c.loop.words.items) k
    ∙ sym (c.loop.invariant.0 ∙ equations-end _ _ _ _ _ refl _ (omega arith) z)

pub returns : goal.returns
returns c =
    let h : c.loop.p < length c.args.text.now = omega arith in
    let l = c.type_inv.text c.loop.p in
    let e = byte_in c.args.text.now c.loop.p h in
    sym (c.loop.invariant.0 ∙ equations-left _ _ _ _ _ refl _ (omega arith) (λ z. absurd (omega arith)))
