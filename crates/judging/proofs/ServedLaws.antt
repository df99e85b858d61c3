-- A block that is served: what a call knows once 3 to 7, and 18 of its caller, are passed.
use Rattle.std.specs.Prelude.{None, Ok}
use Prim.Native.Nat.{ℕ, ◌<◌}
use mathlib.Core.Path.{◌≡◌, sym, ◌∙◌}
use mathlib.Core.List.{List}
use lib.ListN.{length}
use Rattle.layout.specs.declared.Block.{Block}
use Rattle.record.specs.declared.Record.{Record}
use Rattle.protocol.specs.declared.Condition.{Condition}
use Rattle.protocol.specs.Condition.{condition_of}
use Rattle.protocol.specs.Rows.{open_rows}
use Rattle.judging.specs.declared.Judged.{Judged}
use Rattle.judging.specs.Judging.{serves_then, judged_by}
use Rattle.judging.proofs.JudgingLaws.{looked}
use Rattle.judging.proofs.ReadyLaws.{ReadyBox, serves}
use Rattle.judging.proofs.SlotLaws.{Where, where_is}

pub record Served (ssd hdd : List ℕ) (page : ℕ) (t : List ℕ) (r : Record) (b : Block) (caller : ℕ) (j : Judged) : Type 0 where
  pub none : serves_then (length ssd) (length hdd) page t r b caller None ≡ None
  pub writing_is : j.writing ≡ open_rows t
  pub box : ReadyBox ssd hdd page t r
  pub low : b.0 < r.label.blocks
  -- the block's condition, as the code has found it, and the row of its slot
  pub is : (k : Condition) → j.condition ≡ k → condition_of t b ≡ k
  pub row : (k : Condition) → j.condition ≡ k → Where r t b k

pub served : (ssd hdd : List ℕ) (page : ℕ) (t : List ℕ) (r : Record) (b : Block) (caller : ℕ) {j : Judged}
    → Ok j ≡ judged_by (serves_then (length ssd) (length hdd) page t r b caller None) t b → Served ssd hdd page t r b caller j
served ssd hdd page t r b caller e =
    let k = looked _ t b e in
    let s = serves ssd hdd page t r b caller k.none in
    record {
      none = k.none;
      writing_is = k.writing_is;
      box = s.0;
      low = s.1;
      is = λ c q. sym k.condition_is ∙ q;
      row = λ c q. where_is r t b s.0.box.sound.table-size c (sym k.condition_is ∙ q);
    }
