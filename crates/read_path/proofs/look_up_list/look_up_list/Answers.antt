use Prim.Native.Nat.{ℕ, ◌*◌, ◌≤◌}
use mathlib.Core.Path.{◌≡◌, sym, ap, subst, ◌∙◌}
use mathlib.Core.List.{List}
use lib.ListN.{length, get_or}
use Rattle.layout.specs.declared.Slot.{Slot}
use Rattle.protocol.specs.Perform.{used_all, perform}
use Rattle.std.specs.Prelude.{None}
use Rattle.judging.specs.Judging.{ready_then, list_then}
use Rattle.judging.proofs.JudgingLaws.{looked, is_refused, is_passed, refused_on}
use Rattle.judging.proofs.ReadyLaws.{ReadyBox, ready}
use Rattle.judging.proofs.CallLaws.{list_unready, list-refused, list_is}
use Rattle.locating.specs.Places.{closed_words, slots_there}
use Rattle.locating.proofs.ListLaws.{listed_fits}
use Rattle.locating.proofs.PlaceLaws.{places_in_is, rows-low, words_are, slots_are}
use Rattle.read_path.proofs.look_up_list.look_up_list.Goals as goal
use Rattle.read_path.proofs.look_up_list.look_up_list.Goals.{In_ok-judge_list, In_ok-judge_ready, Start}

pub returns-in_err-judge_ready : goal.returns-in_err-judge_ready
returns-in_err-judge_ready c =
    let a = c.args in
    let r = list_unready a.ssd.now a.hdd.now a.table.now a.state a.blocks.now a.words.now c.in_err-judge_ready.field-0.0
    (is_refused _ _ _ (sym c.in_err-judge_ready.was ∙ c.judge_ready.ensures)) in
    (rw (refused_on c.from_residual.ensures.1) r.0, r.1)

-- what is found where 3 to 6 are passed
abbrev start : In_ok-judge_ready → Start
start e = (goal.at.In_ok-judge_ready e).Start

passed : (e : In_ok-judge_ready) → let a = (start e).args in
    ready_then (length a.ssd.now) (length a.hdd.now) 4096 a.table.now a.state None ≡ None
passed e = let a = (start e).args in
    (looked _ a.table.now (record { 0 = 0 }) (sym e.in_ok-judge_ready.was ∙ e.judge_ready.ensures)).none

box : (e : In_ok-judge_ready) → let a = (start e).args in ReadyBox a.ssd.now a.hdd.now 4096 a.table.now a.state
box e = let a = (start e).args in ready a.ssd.now a.hdd.now 4096 a.table.now a.state (passed e)

pub returns-in_err-judge_list : goal.returns-in_err-judge_list
returns-in_err-judge_list c =
    let z = (goal.at.returns-in_err-judge_list c).In_ok-judge_ready in
    let a = (start z).args in
    let r = list-refused a.ssd.now a.hdd.now a.table.now a.state a.blocks.now a.words.now (passed z) c.in_err-judge_list.field-0.0
    (is_refused _ _ _ (sym c.in_err-judge_list.was ∙ c.judge_list.ensures)) in
    (rw (refused_on c.from_residual-in_err-judge_list.ensures.1) r.0, r.1)

-- and where the list is not refused
listed : (j : In_ok-judge_list) → let a = (start (goal.at.In_ok-judge_list j).In_ok-judge_ready).args in
    list_then a.blocks.now (length a.words.now) a.state.label.blocks None ≡ None
listed j = (is_passed _ _ _ (sym j.in_ok-judge_list.was ∙ j.judge_list.ensures)).0

fits : (j : In_ok-judge_list) → let a = (start (goal.at.In_ok-judge_list j).In_ok-judge_ready).args in
    length a.blocks.now ≡ length a.words.now
fits j = let a = (start (goal.at.In_ok-judge_list j).In_ok-judge_ready).args in
    listed_fits a.blocks.now (length a.words.now) a.state.label.blocks (listed j)

pub locate-requires : goal.locate-requires
locate-requires c =
    let a = (start (goal.at.locate-requires c).In_ok-judge_ready).args in
    record {
      table_len = (box (goal.at.locate-requires c).In_ok-judge_ready).box.sound.table-size;
      words_len = sym (fits (goal.at.locate-requires c).In_ok-judge_list);
      slots_bound = (box (goal.at.locate-requires c).In_ok-judge_ready).box.fits.slots-most;
    }

pub use_places-requires : goal.use_places-requires
use_places-requires c =
    let a = (start (goal.at.use_places-requires c).In_ok-judge_ready).args in record {
      by_index = λ j h. subst (λ (ws : List ℕ). 2 * get_or ws j 0 ≤ length a.table.now) (sym c.locate.ensures) (places_in_is a.table.now a.blocks.now j);
      by_index_2 = rows-low a.state a.table.now (box (goal.at.use_places-requires c).In_ok-judge_ready).box.sound.table-size (box (goal.at.use_places-requires c).In_ok-judge_ready).box.rows;
    }

pub returns : goal.returns
unfolding perform
returns c =
    let e = c in
    let a = (start (goal.at.returns e).In_ok-judge_ready).args in
    let t = a.table.now in
    let ws = c.locate.ensures in
    let r = list_is a.ssd.now a.hdd.now t a.state a.blocks.now a.words.now (passed (goal.at.returns e).In_ok-judge_ready) (listed (goal.at.returns e).In_ok-judge_list) in
    let rows = c.use_places.ensures.1 ∙ ap (λ (w : List ℕ). used_all (slots_there t w) t) ws
    ∙ ap (λ (ss : List Slot). used_all ss t) (slots_are t a.blocks.now) in
    let words = c.use_places.ensures.0 ∙ ap (closed_words t) ws ∙ words_are t a.blocks.now in
    (rw (c.answered.ensures, rows) r.0, words ∙ r.1)
