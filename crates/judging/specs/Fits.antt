-- What a box that was judged fits.
use Rattle.std.specs.Prelude.{ℕ, ◌≤◌, ◌≡◌}
use Rattle.layout.specs.Places.{ssd_length, table_length}
use Rattle.layout.specs.Window.{window_most}
use Rattle.record.specs.declared.Record.{Record}
use Rattle.record.specs.Record.{label_in}

-- the lengths of the SSD image and of the table fit a record that keeps its rule
pub record FitsRecord (ssd table : ℕ) (r : Record) : Type 0 where
  pub ssd-size : ssd ≡ ssd_length (label_in r)
  pub table-size : table ≡ table_length (label_in r)
  pub slots-most : r.label.slots ≤ 57600
  pub window_most_is : r.count ≤ window_most
