use mathlib.Core.Path.{◌≡◌, ◌∙◌}
use Rattle.pages.specs.Pages.{put_page, zero_page}
use Rattle.pages.proofs.PageLaws.{put_byte, length_zero, zero_byte}
use Rattle.pages.proofs.clear_page.Goals as goal

pub returns : goal.returns
returns c =
    let a = c.args in
    let h = c.requires in
    let e : c.store.new.image ≡ put_page a.image.now a.index zero_page = unfold zero_page in c.store.ensures in
    record { stored = e; every = λ k l. rw e (put_byte a.image.now zero_page a.index k 1 h length_zero l ∙ zero_byte k 1 l) }
