use Rattle.record.proofs.WindowLaws.{window_more}
use Rattle.record.proofs.window.join.Goals as goal

pub returns : goal.returns
returns c = window_more c.args.w c.args.s c.requires.zero_past c.requires.count_lt_window_most
