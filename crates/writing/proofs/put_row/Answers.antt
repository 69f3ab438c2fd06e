use mathlib.Core.Path.{◌≡◌, ap, ◌∙◌}
use native.Mathlib.Omega.{arith}
use mir.Syntax.{w64}
use mir.ValLaws.{to_z-of_z}
use Rattle.number.specs.Bytes.{word_of}
use Rattle.writing.proofs.RowLaws.{row-head, row-body, row-pad, row_laid}
use Rattle.writing.proofs.put_row.Goals as goal
use Rattle.writing.proofs.put_row.Goals.{After-word_of-bits}

-- the row's number, as the word that is written
word : (c : After-word_of-bits) → c.word_of-bits.result ≡ word_of c.args.row
word c =
    c.word_of-bits.ensures ∙ ap word_of (to_z-of_z w64 _ c.ranges.row)

pub put_head-a-requires : goal.put_head-a-requires
put_head-a-requires c =
    let a = c.args in
    row-head a.u a.at a.first a.row a.payload.now (omega arith) _ _ c.local_size-local.ensures (word (goal.at.put_head-a-requires c).After-word_of-bits)
    a.out.now (omega arith)

pub put_body-b-requires : goal.put_body-b-requires
put_body-b-requires c =
    let a = c.args in
    row-body a.u a.at a.first a.row a.payload.now (omega arith) _ _ c.local_size-local.ensures (word (goal.at.put_body-b-requires c).After-word_of-bits)
    a.out.now (omega arith) _ _ c.put_head-a.ensures

pub put_pad-requires : goal.put_pad-requires
put_pad-requires c =
    let a = c.args in
    row-pad a.u a.at a.first a.row a.payload.now (omega arith) _ _ c.local_size-local.ensures (word (goal.at.put_pad-requires c).After-word_of-bits) a.out.now
    (omega arith) _ _ c.put_head-a.ensures _ _ c.put_body-b.ensures

pub returns : goal.returns
returns c =
    let a = c.args in
    row_laid a.u a.at a.first a.row a.payload.now (omega arith) _ _ c.local_size-local.ensures (word (goal.at.returns c).After-word_of-bits) a.out.now
    _ _ _ _ _ _ (omega arith) c.put_head-a.ensures c.put_body-b.ensures c.put_pad.ensures
