use borrow.Author.Rules.{rules}
use mathlib.Core.Path.{◌≡◌, sym, ◌∙◌}
use lib.ListN.{length}
use Rattle.c_record.specs.Words.{numbers_of}
use Rattle.c_record.proofs.WordLaws.{numbers-length, numbers_at, packed_none, packed_more, packed_all}
use native.Mathlib.Omega.{arith}
use Rattle.c_record.proofs.words.pack_window.Goals as goal

pub loop-i-init : goal.loop-i-init
loop-i-init c = packed_none c.args.words.now 8 (numbers_of c.args.window) c.requires

pub bounds-words-i : goal.bounds-words-i
bounds-words-i c = let k = c.loop-i.invariant.size in search rules

pub loop-i-preserved : goal.loop-i-preserved
loop-i-preserved c =
    let l = c.loop-i in
    let all : length c.args.window ≡ 63 = search rules in
    packed_more c.args.words.now 8 (numbers_of c.args.window) c.requires (numbers-length c.args.window ∙ all) (omega arith) l.words l.i _
    (sym (numbers_at c.args.window l.i (record { 0 = 0 }))) l.invariant (omega arith)

pub returns : goal.returns
returns c =
    let l = c.loop-i in
    let all : length c.args.window ≡ 63 = search rules in
    packed_all c.args.words.now 8 (numbers_of c.args.window) c.requires (numbers-length c.args.window ∙ all) (omega arith) l.words l.i l.invariant
    (omega arith)
