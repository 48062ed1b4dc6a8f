use mathlib.Core.Path.{sym, ◌∙◌}
use Rattle.splits.proofs.different.crosses.Goals as goal

pub returns-then-is_in : goal.returns-then-is_in
returns-then-is_in c = let e = sym c.is_in.ensures ∙ c.if-is_in.true in rw e

pub returns-then-is_in-2 : goal.returns-then-is_in-2
returns-then-is_in-2 c = let e = sym c.is_in.ensures ∙ c.if-is_in.false in let f = sym c.is_in-2.ensures ∙ c.if-is_in-2.true in rw (e, f)

pub returns-then-is_in-3 : goal.returns-then-is_in-3
returns-then-is_in-3 c =
    let is_in_told = c.is_in.ensures in
    let e = sym is_in_told ∙ c.if-is_in.false in
    let f = sym c.is_in-2.ensures ∙ c.if-is_in-2.false in
    let g = sym c.is_in-3.ensures ∙ c.if-is_in-3.true in
    rw (e, f, g) c.is_in-then-is_in-3.ensures

pub returns : goal.returns
returns c = let e = sym c.is_in.ensures ∙ c.if-is_in.false in let f = sym c.is_in-2.ensures ∙ c.if-is_in-2.false in let g = sym c.is_in-3.ensures ∙ c.if-is_in-3.false in rw (e, f, g)
