use Rattle.record.proofs.RecordLaws.{parts, joined_is}
use Rattle.record.proofs.state.joined.Goals as goal

pub returns : goal.returns
returns c =
    let a = c.args in
    joined_is a.r (parts a.r c.requires.r_value) a.s a.caller a.hand c.requires.count_lt_window_most
