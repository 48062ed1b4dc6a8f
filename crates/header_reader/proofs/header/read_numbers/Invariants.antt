-- The loop has read as many arities as it has had turns, and one is due at p.
use Prim.Native.Nat.{◌-◌}
use mathlib.Core.Path.{◌≡◌}
use mathlib.Core.List.{[]}
use lib.ListN.{length}
use Rattle.terms.specs.Bounds.{FUNCTORS, ARITY}
use Rattle.header_reader.specs.HeaderText.{arity_list}
use Rattle.header_reader.proofs.header.read_numbers.Given as goal

abbrev pub invariant-loop : goal.invariant-loop
invariant-loop l =
    (arity_list FUNCTORS ARITY l.text l.at [] ≡ arity_list (FUNCTORS - l.counter) ARITY l.text l.p l.arities.items)
    × (length l.arities.items ≡ l.counter)
