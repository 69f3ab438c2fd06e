use mathlib.Core.Path.{◌≡◌, refl, sym, ◌∙◌}
use mathlib.Core.Logic.{inl, inr}
use native.Mathlib.Omega.{arith}
use Rattle.leaf_pass.specs.Scan.{CellTaken}
use Rattle.leaf_pass.proofs.ScanLaws.{Goes, cell-taken, local-whole, rows_next}
use Rattle.leaf_pass.proofs.ScanLaws.{entered-past, scan-more, scan-past, scan-done}
use Rattle.leaf_pass.proofs.scan_cells.Goals as goal
use Rattle.leaf_pass.proofs.scan_cells.Goals.{Joined-local, Joined-not-whole}
use Rattle.leaf_pass.proofs.scan_cells.Goals.{in-Some, in-None+in_ok-size-in-None, then-not-whole, else-not-whole}

-- the cell, once the general reader has looked where it had to
taken : (c : Joined-local) →
    CellTaken c.args.page.now.bytes.now c.args.page.now.usable c.args.page.now.head c.loop-i.i c.be16-at.result c.match-local.size.size c.match-local.size.row
taken c =
    let found = cell-taken _ _ _ _ _ _ c.args.page.now.opened c.loop-i.i (omega arith) _ c.be16-at.ensures.0 c.if-at-start.false in
    elim c.match-local.branch [
      | in-Some w ↦ rw w.size-is (found _ _ w.in-Some.ensures.taken.taken)
      | in-None+in_ok-size-in-None w ↦ rw w.size-is (found _ _ w.in_ok-size-in-None.ensures)
    ]

-- whether its payload is left to follow
goes : (c : Joined-not-whole) →
    Goes c.args.page.now.bytes.now c.args.page.now.usable c.args.page.now.head c.loop-i.i c.loop-i.from c.loop-i.to c.if-not-whole.from c.if-not-whole.to
goes c =
    let same : c.match-local.local ≡ c.local_cell-local.result =
    elim c.match-local.branch [
      | in-Some v ↦ v.local-is ∙ sym v.in-Some.is
      | in-None+in_ok-size-in-None v ↦ v.local-is
    ] in
    elim c.if-not-whole.branch [
      | then-not-whole w ↦ inr (w.from-is ∙ w.first_left-from.ensures, w.to-is)
      | else-not-whole w ↦
          inl (
            local-whole _ _ _ _ _ _ c.args.page.now.opened c.loop-i.i (omega arith) _ c.be16-at.ensures.0 _ c.local_cell-local.ensures.taken
                (rw same at (w.if-not-whole.ensures refl)),
            w.from-is,
            w.to-is,
          )
    ]

pub overflow_add-bytes : goal.overflow_add-bytes
overflow_add-bytes c =
    let x = (taken (goal.at.overflow_add-bytes c).Joined-local).extends in
    omega (arith, x.high refl, c.loop-i.invariant, c.args.page.now.opened.most)

pub enter-requires : goal.enter-requires
enter-requires c =
    let x = (taken (goal.at.enter-requires c).Joined-local).extends in (
      omega (arith, c.args.page.now.opened.whole),
      omega (arith, x.least refl),
      omega (arith, x.high refl, c.loop-i.invariant, c.requires.2),
      omega (arith, x.high refl, c.args.page.now.opened.most),
      omega (arith, x.high refl, c.loop-i.invariant, c.args.page.now.opened.most),
    )

pub returns-then-not-enter-clause-past : goal.returns-then-not-enter-clause-past
returns-then-not-enter-clause-past c =
    let w = taken (goal.at.returns-then-not-enter-clause-past c).Joined-local in
    scan-past _ _ _ _ _ _ _ _ _ _ _ c.loop-i.invariant.1 _ (entered-past _ _ _ _ _ _ _ w _ _ _ _ _ c.enter.ensures)

pub returns-in_err-least-clause-past : goal.returns-in_err-least-clause-past
returns-in_err-least-clause-past c =
    let w = taken (goal.at.returns-in_err-least-clause-past c).Joined-local in
    scan-past _ _ _ _ _ _ _ _ _ _ _ c.loop-i.invariant.1 _ (entered-past _ _ _ _ _ _ _ w _ _ _ _ _ c.enter.ensures)

pub loop-i-preserved : goal.loop-i-preserved
loop-i-preserved c =
    let w = taken (goal.at.loop-i-preserved c).Joined-local in
    let x = w.extends in (
      omega (arith, c.loop-i.invariant.0),
      scan-more _ _ _ _ _ _ _ _ _ _ _ c.loop-i.invariant.1 _ _ _ c.be16-at.ensures.0 w c.loop-i-test.true _ _ c.enter.ensures c.if-not-enter.false,
      rows_next _ _ _ _ _ _ _ _ c.loop-i.invariant.2 _ _ _ w _ c.args.page.now.opened.type _ c.in_ok-least.ensures _ _ (goes (goal.at.loop-i-preserved c).Joined-not-whole),
      omega (arith, x.high refl, c.loop-i.invariant.3, c.args.page.now.opened.most),
    )

pub returns-clause-scanned : goal.returns-clause-scanned
returns-clause-scanned c =
    scan-done _ _ _ _ _ _ _ _ _ _ _ c.loop-i.invariant.1 _ _ _ _ c.loop-i.invariant.2 c.args.page.now.count (omega arith) (omega arith)
    (omega (arith, c.loop-i.invariant, c.args.page.now.few))
