use Rattle.std.proofs.Common.{length, refl, sym, ◌∙◌, arith, rules}
use Rattle.line_format.proofs.WordByWord.{no_more, one_more}
use Rattle.line_format.proofs.line.read_words.Goals as goal

pub loop-word-init : goal.loop-word-init
loop-word-init c = (c.requires, length c.args.line.now, omega arith, rw c.blank-cells.ensures refl)

pub returns-in_err-cells-clause-err : goal.returns-in_err-cells-clause-err
returns-in_err-cells-clause-err c =
    let i = c.loop-word.invariant in
    let h = rw c.bytes.ensures at c.with_word.ensures in
    let e = one_more i.1 c.args.letter c.args.line.now c.loop-word.at c.loop-word.cells.values c.in-Some.word c.with_word.result c.as_bad_word.result
    c.in-Some.ensures.some c.in-Some.ensures.within i.2 h c.as_bad_word.ensures in
    search rules

pub loop-word-preserved : goal.loop-word-preserved
loop-word-preserved c =
    let i = c.loop-word.invariant in
    let h = rw c.bytes.ensures at c.with_word.ensures in
    let e = one_more i.1 c.args.letter c.args.line.now c.loop-word.at c.loop-word.cells.values c.in-Some.word c.with_word.result c.as_bad_word.result
    c.in-Some.ensures.some c.in-Some.ensures.within i.2 h c.as_bad_word.ensures in
    (c.in-Some.ensures.within.inside, e.0, e.1, search rules)

pub returns-clause-ok : goal.returns-clause-ok
returns-clause-ok c =
    let i = c.loop-word.invariant in
    sym i.3 ∙ no_more i.1 c.args.letter c.args.line.now c.loop-word.at c.loop-word.cells.values c.in_default.ensures.none
