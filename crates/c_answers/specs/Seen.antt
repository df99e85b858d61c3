-- Where the page of a view lies.
use Rattle.layout.specs.declared.Block.{Block}
use Rattle.layout.specs.declared.Label.{Label}
use Rattle.layout.specs.Places.{data_place, block_place}
use Rattle.protocol.specs.declared.Condition.{Condition}
use Rattle.protocol.specs.declared.Condition.TheVariants.{NotCached, Clean, Dirty, Writing, Fetching}
use Rattle.c_answers.specs.declared.Place.{Place}
use Rattle.c_answers.specs.Codes.{page_of}

-- where a view's page lies: in the SSD, if cached and not open; else in the HDD
abbrev pub place_for : Label → Block → Condition → Place
place_for l b NotCached = page_of 2 (block_place l b)
place_for l b (Clean s) = page_of 1 (data_place l s)
place_for l b (Dirty s) = page_of 1 (data_place l s)
place_for l b (Writing s) = page_of 2 (block_place l b)
place_for l b (Fetching s) = page_of 2 (block_place l b)
