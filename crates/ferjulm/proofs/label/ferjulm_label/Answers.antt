use Prim.Native.Nat.{ℕ}
use mathlib.Core.Path.{◌≡◌, sym, ◌∙◌}
use mathlib.Core.List.{List}
use Rattle.layout.specs.declared.Label.{Label}
use Rattle.std.specs.Prelude.{Some, None}
use Rattle.stored.specs.Stored.{label_if}
use Rattle.stored.proofs.ReadLaws.{label_test_is, legal-read}
use Rattle.ferjulm.specs.Label.{c_label}
use Rattle.ferjulm.proofs.label.ferjulm_label.Goals as goal

read-label : (ssd : List ℕ) (slots blocks : ℕ) (l : Label) → label_if ssd ≡ Some l
    → record { code = 0; slots = l.slots; blocks = l.blocks } ≡ c_label ssd slots blocks
unfolding c_label
read-label ssd slots blocks l e = rw (label_test_is ssd, e, (legal-read ssd l e).1)

no_label : (ssd : List ℕ) (slots blocks : ℕ) → label_if ssd ≡ None → record {
  code = 2;
  slots = slots;
  blocks = blocks;
} ≡ c_label ssd slots blocks
unfolding c_label
no_label ssd slots blocks e = rw (label_test_is ssd, e)

pub returns-in-Some : goal.returns-in-Some
returns-in-Some c =
    let a = c.args in
    read-label a.ssd.now a.slots.now a.blocks.now _ (sym c.label_of.ensures ∙ c.in-Some.is)

pub returns-in-None : goal.returns-in-None
returns-in-None c =
    let a = c.args in
    no_label a.ssd.now a.slots.now a.blocks.now (sym c.label_of.ensures ∙ c.in-None.is)
