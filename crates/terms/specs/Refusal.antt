-- The number of each refusal, as the table of SPECIFICATION 7 has it.
use Rattle.std.specs.Prelude.{ℕ}
use Rattle.terms.specs.declared.refusal.Cause.{Cause}
use Rattle.terms.specs.declared.refusal.Cause.TheVariants.{Byte, Number, Limit, Undeclared, Arguments, Nesting, Buffer, WordsStop, WordsMeaningless, WordsUndeclared, WordsLeft}

abbrev pub number : Cause → ℕ
number Byte = 1
number Number = 2
number Limit = 3
number Undeclared = 4
number Arguments = 5
number Nesting = 6
number Buffer = 7
number WordsStop = 8
number WordsMeaningless = 8
number WordsUndeclared = 8
number WordsLeft = 8
