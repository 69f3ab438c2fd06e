use mathlib.Core.Path.{sym, ap, ◌∙◌}
use native.Mathlib.Omega.{arith}
use Rattle.number.specs.Varint.{word_is}
use Rattle.number.specs.declared.Word.{Word}
use Rattle.number.proofs.VarintLaws.{varint-whole}
use Rattle.cells.proofs.ReadingLaws.{one_word, steps-short, steps-taken}
use Rattle.cells.proofs.one_type.Goals as goal

pub returns-then-t-lt128 : goal.returns-then-t-lt128
returns-then-t-lt128 c =
    let t = one_word _ c.args.header c.args.at c.from-t.result c.requires.0 c.requires.1 c.from-t.ensures
    c.if-t-lt128.true in
    steps-taken _ _ _ _ _ c.requires.0 (word_is 1 c.from-t.result) t (omega arith) c.requires.2 _ c.taken.ensures

pub returns-then-word-eq0 : goal.returns-then-word-eq0
returns-then-word-eq0 c =
    steps-short _ _ _ _ _ c.requires.0 (ap (λ (w : Word). w.length) (sym c.varint_word-word.ensures) ∙ c.if-word-eq0.true)

pub overflow_add-at-2 : goal.overflow_add-at-2
overflow_add-at-2 c =
    let e = ap (λ (w : Word). w.length) c.varint_word-word.ensures in
    let w = varint-whole c.args.b.now c.args.at c.args.header (omega (arith, e, c.if-word-eq0.false)) in
    omega (arith, e, w.within)

pub returns : goal.returns
returns c =
    steps-taken _ _ _ _ _ c.requires.0 c.varint_word-word.result c.varint_word-word.ensures
    (omega (arith, c.if-word-eq0.false)) c.requires.2 _ c.taken-2.ensures
