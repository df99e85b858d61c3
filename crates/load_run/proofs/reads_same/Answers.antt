use mathlib.Core.Path.{◌≡◌, ap, ◌∙◌}
use mathlib.Core.List.{List, []}
use Prim.Native.Nat.{ℕ}
use native.Mathlib.Omega.{arith}
use Rattle.pages.specs.Pages.{page_at}
use Rattle.pages.proofs.PageLaws.{length-page}
use Rattle.pages.specs.Parts.{Part, part, page_part}
use Rattle.protocol.specs.Calls.{box_of, View}
use Rattle.protocol.specs.Events.{read_of}
use Rattle.laws.proofs.ReadsAnywhere.{reads_anywhere}
use Rattle.load_run.specs.Runs.{same}
use Rattle.load_run.proofs.SameLaws.{same_told, same_nothing}
use Rattle.load_run.proofs.reads_same.Goals as goal

pub returns-in-Ok : goal.returns-in-Ok
unfolding page_part
returns-in-Ok c =
    let a = c.args in
    let h = c.in-Ok.ensures in
    let e : c.in-Ok.page.now ≡ read_of (box_of a.ssd.now a.hdd.now a.table.now a.state) a.b =
    ap (λ (w : View). w.handed.bytes) h
    ∙ (reads_anywhere (part a.ssd) (part a.hdd) a.table.now a.state a.b).bytes in
    let f : c.page_at.result.now ≡ page_at a.plain.now a.b.0 = ap (λ (w : Part). w.bytes) c.page_at.ensures in
    same_told _ _ c.same.result c.same.ensures.0 c.same.ensures.1 ∙ (λ i. same (e i) (f i))

pub returns-in-Err : goal.returns-in-Err
returns-in-Err c =
    let a = c.args in
    let e : [] ≡ read_of (box_of a.ssd.now a.hdd.now a.table.now a.state) a.b =
    ap (λ (w : View). w.handed.bytes) c.in-Err.ensures
    ∙ (reads_anywhere (part a.ssd) (part a.hdd) a.table.now a.state a.b).bytes in
    same_nothing (page_at a.plain.now a.b.0) (omega (arith, length-page a.plain.now a.b.0 c.requires))
    ∙ ap (λ (bytes : List ℕ). same bytes (page_at a.plain.now a.b.0)) e
