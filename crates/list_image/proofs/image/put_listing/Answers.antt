use mathlib.Core.Path.{sym, ◌∙◌}
use borrow.Author.Tests.{eq-eqb, ne_eqb, le-leb, lt-leb}
use Rattle.stored.proofs.ReadLaws.{limits}
use Rattle.fields.proofs.WrittenLaws.{written_as}
use Rattle.list_image.proofs.ImageLaws.{unlabelled, wrong_length_is, too_long, bad_pages, listed_as}
use native.Mathlib.Omega.{arith}
use Rattle.list_image.proofs.image.put_listing.Goals as goal

pub returns-in_default : goal.returns-in_default
returns-in_default c =
    written_as c.put_refusal.ensures (unlabelled _ (sym c.label_of.ensures ∙ c.in_default.is)) (omega arith)

pub returns-then-ssd-ssd_length : goal.returns-then-ssd-ssd_length
returns-then-ssd-ssd_length c =
    let l = sym c.label_of.ensures ∙ c.in-Some.is in
    written_as c.put_refusal-then-ssd-ssd_length.ensures (wrong_length_is _ _ l (ne_eqb _ _ (λ q. c.if-ssd-ssd_length.true (q ∙ sym c.ssd_length.ensures))))
    (omega arith)

pub returns-then-ssd-gt65536 : goal.returns-then-ssd-gt65536
returns-then-ssd-gt65536 c =
    let l = sym c.label_of.ensures ∙ c.in-Some.is in
    let m = eq-eqb _ _ (c.if-ssd-ssd_length.false ∙ c.ssd_length.ensures) in
    written_as c.put_refusal-then-ssd-gt65536.ensures (too_long _ _ l m (lt-leb _ _ c.if-ssd-gt65536.true)) (omega arith)

pub pages_ok-requires : goal.pages_ok-requires
pages_ok-requires c =
    let l = sym c.label_of.ensures ∙ c.in-Some.is in
    record { ssd_len = c.if-ssd-ssd_length.false ∙ c.ssd_length.ensures; limits = limits c.args.ssd.now _ l }

pub returns-then-not-pages_ok : goal.returns-then-not-pages_ok
returns-then-not-pages_ok c =
    let l = sym c.label_of.ensures ∙ c.in-Some.is in
    let m = eq-eqb _ _ (c.if-ssd-ssd_length.false ∙ c.ssd_length.ensures) in
    let k = le-leb _ _ c.if-ssd-gt65536.false in
    written_as c.put_refusal-then-not-pages_ok.ensures (bad_pages _ _ l m k (sym c.pages_ok.ensures ∙ c.if-not-pages_ok.true)) (omega arith)

pub put_image-requires : goal.put_image-requires
put_image-requires c =
    let l = sym c.label_of.ensures ∙ c.in-Some.is in record {
      ssd_len = (c.if-ssd-ssd_length.false ∙ c.ssd_length.ensures, c.if-ssd-gt65536.false);
      limits = limits c.args.ssd.now _ l;
      ssd_value = sym c.pages_ok.ensures ∙ c.if-not-pages_ok.false;
    }

pub returns : goal.returns
returns c =
    let l = sym c.label_of.ensures ∙ c.in-Some.is in
    let m = eq-eqb _ _ (c.if-ssd-ssd_length.false ∙ c.ssd_length.ensures) in
    let k = le-leb _ _ c.if-ssd-gt65536.false in
    written_as c.put_image.ensures (listed_as _ _ l m k (sym c.pages_ok.ensures ∙ c.if-not-pages_ok.false)) (omega arith)
