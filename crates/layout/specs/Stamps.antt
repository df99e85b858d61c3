-- The two bounds of 13: how far a box's stamps go.
use Rattle.std.specs.Prelude.{ℕ, ◌-◌}
use Rattle.layout.specs.declared.Label.{Label}
use Rattle.layout.specs.Window.{window_most}

-- the largest stamp: 13, "the newest stamp is 4,294,967,295"
unfoldable pub largest_stamp : Label → ℕ
largest_stamp l = 4294967295

-- from which on no slot is opened: 13, "or for an offer or fetch 4,294,967,232 or more, so that flushes and mending have 63 left"
abbrev pub opening_bound : Label → ℕ
opening_bound l = largest_stamp l - window_most
