use mathlib.Core.Path.{◌∙◌}
use native.Mathlib.Omega.{arith}
use Rattle.image.specs.Payload.{cell_bytes}
use Rattle.payload.proofs.CopyLaws.{cell-length}
use Rattle.keys.proofs.Held.{halves}
use Rattle.keys.proofs.precedes.Goals as goal

pub returns : goal.returns
returns c =
    let a = c.args in
    let b = a.image.now in
    let k = c.copy_at.auto.out in
    let r = c.requires.2 in
    let w = c.copy_at.new.out in
    let w' = c.copy_at-2.new.out in
    c.rises.ensures ∙ halves 65536 a.work.now w w' (cell_bytes b a.q a.d) (cell_bytes b a.p a.c) a.d.payload a.c.payload
    (omega arith) (cell-length b a.h a.q a.d 65536 c.requires.0) (cell-length b a.h a.p a.c 65536 c.requires.1) c.requires.0.fits
    c.copy_at.ensures c.copy_at-2.ensures
