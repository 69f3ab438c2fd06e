use mathlib.Core.Path.{◌≡◌, sym, ◌∙◌}
use Rattle.std.proofs.lemmas.Result.{IfOk-weaker, IfErr-weaker}
use Rattle.refusal.specs.Rule.{number_of}
use Rattle.cell.specs.Split.{table_interior}
use Rattle.cell.specs.Cell.{cell_at}
use Rattle.page.specs.Fault.{cell_fault}
use Rattle.page.proofs.CellExtent.{extends-past, extends-low, extends-high, extends-cell, extends-key, key-fault, other-fault, fault_is}
use Rattle.page.proofs.OpenPage.cell_extent.Goals as goal
use Rattle.page.proofs.OpenPage.cell_extent.Goals.{then-at-self-via-then-at-self, then-at-self-via-else-at-self+then-at-self-2}

pub returns-then-place-self-clause-refused : goal.returns-then-place-self-clause-refused
returns-then-place-self-clause-refused c = (extends-past _ _ _ _ _ _ _ c.args.self.now.opened c.if-place-self.true).fault

pub returns-then-at-self-clause-refused : goal.returns-then-at-self-clause-refused
returns-then-at-self-clause-refused c =
    elim c.then-at-self.branch [
      | then-at-self-via-then-at-self w ↦ (extends-low _ _ _ _ _ _ _ c.args.self.now.opened c.if-place-self.false _ c.be16-at.ensures.0 w.if-at-self.true).fault
      | then-at-self-via-else-at-self+then-at-self-2 w ↦
          (extends-high _ _ _ _ _ _ _ c.args.self.now.opened c.if-place-self.false _ c.be16-at.ensures.0 w.if-at-self.false w.if-at-self-2.true).fault
    ]

pub returns-then-self-eq-TABLE_INTERIOR : goal.returns-then-self-eq-TABLE_INTERIOR
returns-then-self-eq-TABLE_INTERIOR c =
    let o = c.args.self.now.opened in
    let inside = c.if-place-self.false in
    let read = c.be16-at.ensures.0 in
    record {
      lies = IfOk-weaker _ _ _ (λ x k. extends-key _ _ _ _ _ _ _ o inside _ read c.if-at-self.false c.if-at-self-2.false c.if-self-eq-TABLE_INTERIOR.true _ _ _ k)
          c.key_extent.ensures.lies;
      refused = IfErr-weaker c.key_extent.result (λ rule. number_of rule ≡ (cell_at c.args.self.now.bytes.now c.args.self.now.usable table_interior c.be16-at.result).fault)
          (λ rule. number_of rule ≡ cell_fault c.args.self.now.bytes.now c.args.self.now.usable c.args.self.now.head c.args.i) (λ x k. k ∙ key-fault _ _ _ _ _ _ _ o inside _ read c.if-at-self.false c.if-at-self-2.false c.if-self-eq-TABLE_INTERIOR.true)
          c.key_extent.ensures.refused;
    }

pub returns-then-c-eq26-clause-refused : goal.returns-then-c-eq26-clause-refused
returns-then-c-eq26-clause-refused c =
    sym c.if-c-eq26.true ∙ fault_is _ _ _ _ _ _ _ c.args.self.now.opened c.if-place-self.false _ c.be16-at.ensures.0 c.if-at-self.false c.if-at-self-2.false _ c.read_cell-c.ensures

pub returns-then-c-ne0-clause-refused : goal.returns-then-c-ne0-clause-refused
returns-then-c-ne0-clause-refused c =
    other-fault _ _ _ _ _ _ _ c.args.self.now.opened c.if-place-self.false _ c.be16-at.ensures.0 c.if-at-self.false c.if-at-self-2.false _ c.read_cell-c.ensures
    c.if-c-ne0.true c.if-c-eq26.false

pub returns-clause-lies : goal.returns-clause-lies
returns-clause-lies c =
    rw c.if-c-ne0.false at (extends-cell _ _ _ _ _ _ _ c.args.self.now.opened c.if-place-self.false _ c.be16-at.ensures.0 c.if-at-self.false c.if-at-self-2.false _ c.read_cell-c.ensures)
