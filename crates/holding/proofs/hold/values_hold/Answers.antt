use mathlib.Core.Path.{◌∙◌}
use Rattle.holding.proofs.Asking.{asked_standings, asked-equations, asked-holding}
use Rattle.holding.proofs.hold.values_hold.Goals as goal

pub place_values-requires : goal.place_values-requires
place_values-requires c = asked_standings c.requires.with_values

pub all_hold-requires : goal.all_hold-requires
all_hold-requires c =
    asked-equations c.requires.with_values c.place_values.ensures c.requires.labels_len

pub returns-then-spreads_little : goal.returns-then-spreads_little
returns-then-spreads_little c =
    c.all_hold.ensures ∙ asked-holding c.requires.with_values c.place_values.ensures

pub settled_hold-requires : goal.settled_hold-requires
settled_hold-requires c =
    asked-equations c.requires.with_values c.place_values.ensures c.requires.labels_len

pub returns : goal.returns
returns c =
    c.settled_hold.ensures ∙ asked-holding c.requires.with_values c.place_values.ensures
