use mathlib.Core.Path.{◌≡◌, ap, ◌∙◌}
use Rattle.record.specs.Record.{window_in}
use Rattle.layout.specs.declared.Window.{Window}
use Rattle.layout.specs.Window.{slots_in}
use Rattle.protocol.specs.Plan.{lowest_page}
use Rattle.record.proofs.RecordLaws.{window_is}
use Rattle.steps.proofs.MendLaws.{mended_fits, mends-low}
use Rattle.steps.proofs.step.mend.Goals as goal
use Rattle.steps.proofs.step.mend.Goals.{After-lowest_page-p}

-- the lowest page, by the record's own window
page_is : (c : After-lowest_page-p) → c.lowest_page-p.result ≡ lowest_page (window_in c.args.state)
page_is c =
    c.lowest_page-p.ensures ∙ ap (λ (w : Window). lowest_page (slots_in w)) c.window_of.ensures ∙ ap lowest_page
    (window_is c.args.state)

pub lowest_page-p-requires : goal.lowest_page-p-requires
lowest_page-p-requires c =
    rw c.window_of.ensures c.requires.le_count

pub confirm-requires : goal.confirm-requires
confirm-requires c =
    let p = page_is (goal.at.confirm-requires c).After-lowest_page-p in
    let F = mended_fits _ _ c.args.state _ _ c.requires.fits_record c.requires.state_value c.mended-next.ensures in record {
      fits_record = F;
      p_bound = rw (c.mended-next.ensures, p) (mends-low c.args.state c.requires.state_value c.requires.le_count);
      newest_bound = rw
          c.mended-next.ensures c.requires.newest_bound;
    }

pub returns : goal.returns
returns c =
    let p = page_is (goal.at.returns c).After-lowest_page-p in
    let e = c.mended-next.ensures in
    (rw (c.confirm.ensures.0, e, p), rw (c.confirm.ensures.1, e, p))
