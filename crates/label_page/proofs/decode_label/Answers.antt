use mathlib.Core.Path.{sym, ap, ◌∙◌}
use Rattle.layout.specs.LabelPage.{blocks_key}
use Rattle.text.specs.Numbers.{number_read}
use Rattle.label_page.proofs.LabelReads.{head_text, head_read, met, missed}
use Rattle.label_page.proofs.decode_label.Goals as goal

pub returns-in_err-bytes : goal.returns-in_err-bytes
returns-in_err-bytes c =
    let page = c.args.page.now in
    rw (c.from_residual.ensures, head_read page, missed head_text page _ c.strip_prefix.ensures.cases c.in_err-bytes.was)

pub returns-in_err-slots : goal.returns-in_err-slots
returns-in_err-slots c =
    let page = c.args.page.now in
    let a = met head_text page _ c.strip_prefix.ensures.cases c.in_ok-bytes.bytes c.in_ok-bytes.was in
    let s = sym c.read_number.ensures ∙ ap number_read c.in_err-slots.was in
    rw (c.from_residual-in_err-slots.ensures, head_read page, a, s)

pub returns-in_err-bytes-2 : goal.returns-in_err-bytes-2
returns-in_err-bytes-2 c =
    let page = c.args.page.now in
    let a = met head_text page _ c.strip_prefix.ensures.cases c.in_ok-bytes.bytes c.in_ok-bytes.was in
    let s = sym c.read_number.ensures ∙ ap number_read c.in_ok-slots.was in
    let k = missed blocks_key c.in_ok-slots.bytes.now _ c.strip_prefix-2.ensures.cases c.in_err-bytes-2.was in
    rw (c.from_residual-in_err-bytes-2.ensures, head_read page, a, s, k)

pub returns-in_err-blocks : goal.returns-in_err-blocks
returns-in_err-blocks c =
    let page = c.args.page.now in
    let a = met head_text page _ c.strip_prefix.ensures.cases c.in_ok-bytes.bytes c.in_ok-bytes.was in
    let s = sym c.read_number.ensures ∙ ap number_read c.in_ok-slots.was in
    let k = met blocks_key c.in_ok-slots.bytes.now _ c.strip_prefix-2.ensures.cases c.in_ok-bytes-2.bytes c.in_ok-bytes-2.was in
    let b = sym c.read_number-2.ensures ∙ ap number_read c.in_err-blocks.was in
    rw (c.from_residual-in_err-blocks.ensures, head_read page, a, s, k, b)

pub returns : goal.returns
returns c =
    let page = c.args.page.now in
    let a = met head_text page _ c.strip_prefix.ensures.cases c.in_ok-bytes.bytes c.in_ok-bytes.was in
    let s = sym c.read_number.ensures ∙ ap number_read c.in_ok-slots.was in
    let k = met blocks_key c.in_ok-slots.bytes.now _ c.strip_prefix-2.ensures.cases c.in_ok-bytes-2.bytes c.in_ok-bytes-2.was in
    let b = sym c.read_number-2.ensures ∙ ap number_read c.in_ok-blocks.was in
    rw (head_read page, a, s, k, b) c.legal.ensures
