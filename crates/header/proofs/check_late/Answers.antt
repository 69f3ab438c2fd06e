use Prim.Native.Nat.{ℕ}
use mathlib.Core.Path.{sym, ◌∙◌}
use mathlib.Core.List.{List}
use lib.ListN.{replicate}
use native.Mathlib.Omega.{arith}
use Rattle.header.proofs.Tests.{starts-from, refuse-11, pass-11}
use Rattle.header.proofs.check_late.Goals as goal

pub returns-then-not-starts_with : goal.returns-then-not-starts_with
returns-then-not-starts_with c =
    let v = sym c.bad_vacuum.ensures ∙ c.if-bad_vacuum.false in
    let s = sym (starts-from c.args.image.now (replicate 20 0) 72 (omega arith)) ∙ sym c.starts_with.ensures.value ∙ c.if-not-starts_with.true in
    refuse-11 _ _ _ c.be32.ensures c.be32-2.ensures v s

pub returns : goal.returns
returns c =
    let v = sym c.bad_vacuum.ensures ∙ c.if-bad_vacuum.false in
    let s = sym (starts-from c.args.image.now (replicate 20 0) 72 (omega arith)) ∙ sym c.starts_with.ensures.value ∙ c.if-not-starts_with.false in
    pass-11 _ _ _ c.be32.ensures c.be32-2.ensures v s
