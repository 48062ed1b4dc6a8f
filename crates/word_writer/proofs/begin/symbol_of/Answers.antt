use Rattle.word_writer.specs.declared.begin.Symbol.TheVariants.{Functor}
use Rattle.std.proofs.Common.{rules}
use mathlib.Core.Path.{sym, ap, ◌∙◌}
use Rattle.word_writer.specs.WordByWord.{symbol_of, symbol}
use Rattle.word_writer.proofs.begin.symbol_of.Goals as goal

pub returns-in-Empty : goal.returns-in-Empty
unfolding symbol symbol_of
returns-in-Empty c = sym (ap (symbol_of _) (sym c.kind_of.ensures ∙ c.in-Empty.is))

pub returns-in-Member : goal.returns-in-Member
unfolding symbol symbol_of
returns-in-Member c = sym (ap (symbol_of _) (sym c.kind_of.ensures ∙ c.in-Member.is))

pub returns-in-Unknown : goal.returns-in-Unknown
unfolding symbol symbol_of
returns-in-Unknown c = sym (ap (symbol_of _) (sym c.kind_of.ensures ∙ c.in-Unknown.is))

pub returns-in-Functor : goal.returns-in-Functor
unfolding symbol symbol_of
returns-in-Functor c = sym (ap (symbol_of _) (sym c.kind_of.ensures ∙ c.in-Functor.is) ∙ ap (Functor c.in-Functor.k) (search rules))

pub returns-in-Nothing : goal.returns-in-Nothing
unfolding symbol symbol_of
returns-in-Nothing c = sym (ap (symbol_of _) (sym c.kind_of.ensures ∙ c.in-Nothing.is))
