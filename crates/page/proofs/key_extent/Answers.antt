use Prim.Native.Nat.{◌+◌}
use mathlib.Core.Path.{refl, ap}
use native.Mathlib.Omega.{arith}
use Rattle.number.specs.declared.Word.{Word}
use Rattle.number.proofs.VarintLaws.{varint-length}
use Rattle.page.proofs.CellExtent.{key-past, key-short, key-ends, key-byte}
use Rattle.page.proofs.key_extent.Goals as goal

pub returns-then-key-u-clause-refused : goal.returns-then-key-u-clause-refused
returns-then-key-u-clause-refused c = (key-past _ _ _ c.if-key-u.true).fault

pub returns-then-p-key-lt128-clause-lies : goal.returns-then-p-key-lt128-clause-lies
returns-then-p-key-lt128-clause-lies c = key-byte _ _ _ c.if-key-u.false c.requires.1 _ refl c.if-p-key-lt128.true

pub returns-then-n-eq0-clause-refused : goal.returns-then-n-eq0-clause-refused
returns-then-n-eq0-clause-refused c =
    (key-short _ _ _ c.if-key-u.false _ (ap (λ (w : Word). w.length) c.varint_word-n.ensures) c.if-n-eq0.true).fault

pub overflow_add-end-2 : goal.overflow_add-end-2
overflow_add-end-2 c =
    omega (arith, varint-length c.args.p.now (c.args.at + 4) c.args.u, ap (λ (w : Word). w.length) c.varint_word-n.ensures)

pub returns-clause-lies : goal.returns-clause-lies
returns-clause-lies c = key-ends _ _ _ c.if-key-u.false _ (ap (λ (w : Word). w.length) c.varint_word-n.ensures) c.if-n-eq0.false
