use mathlib.Core.Path.{◌≡◌, ap, ◌∙◌}
use borrow.Author.Tests.{le-leb, lt-leb}
use Rattle.pages.specs.Pages.{page_at}
use Rattle.pages.specs.Parts.{Part, page_part}
use Rattle.layout.specs.LabelPage.{decode_label}
use Rattle.stored.proofs.ReadLaws.{short-read, page-read}
use Rattle.stored.proofs.image.label_of.Goals as goal

pub returns-then-ssd-lt4096 : goal.returns-then-ssd-lt4096
returns-then-ssd-lt4096 c = short-read c.args.ssd.now (lt-leb _ _ c.if-ssd-lt4096.true)

pub returns : goal.returns
unfolding page_part
returns c =
    let e : c.page_at.result.now ≡ page_at c.args.ssd.now 0 = ap (λ (x : Part). x.bytes) c.page_at.ensures in
    c.decode_label.ensures ∙ ap decode_label e ∙ page-read c.args.ssd.now (le-leb _ _ c.if-ssd-lt4096.false)
