use mathlib.Core.Path.{sym}
use native.Mathlib.Omega.{arith}
use mir.Syntax.{w64}
use mir.ValLaws.{to_z-of_z}
use Rattle.lookup.proofs.Ways.{cell-limit}
use Rattle.setting.proofs.Ways as W
use Rattle.setting.proofs.Ways.{Slim, header-ok, header-is}
use Rattle.setting.proofs.fit.Goals as goal
use Rattle.setting.proofs.fit.Goals.{Else-most-fresh}

pub unwrap-h-requires : goal.unwrap-h-requires
unwrap-h-requires c = header-ok _ c.requires.0.passes _ c.check_header.ensures

pub tree_cell-c-requires : goal.tree_cell-c-requires
tree_cell-c-requires c =
    (W.page-at _ _ _ c.requires.0 _ (header-is _ _ _ c.check_header.ensures c.unwrap-h.ensures), sym c.requires.0.type, c.requires.0.sound, c.requires.0.index)

pub cell_links-requires : goal.cell_links-requires
cell_links-requires c =
    let b = W.bounds _ _ _ c.requires.0 _ (header-is _ _ _ c.check_header.ensures c.unwrap-h.ensures) in
    (b.0, b.1, cell-limit (W.cell-on _ _ _ c.requires.0 _ (header-is _ _ _ c.check_header.ensures c.unwrap-h.ensures) _ c.tree_cell-c.ensures))

pub returns-then-cell_links-ne0 : goal.returns-then-cell_links-ne0
returns-then-cell_links-ne0 c =
    W.chained _ _ _ c.requires.0 _ (header-is _ _ _ c.check_header.ensures c.unwrap-h.ensures) _ _ _ c.tree_cell-c.ensures _ c.cell_links.ensures (λ z. omega arith) _
    c.idle.ensures

pub max_local-most-requires : goal.max_local-most-requires
max_local-most-requires c =
    W.bounds _ _ _ c.requires.0 _ (header-is _ _ _ c.check_header.ensures c.unwrap-h.ensures)

pub returns-then-most-fresh : goal.returns-then-most-fresh
returns-then-most-fresh c =
    W.too_long _ _ _ c.requires.0 _ (header-is _ _ _ c.check_header.ensures c.unwrap-h.ensures) _ _ _ c.tree_cell-c.ensures _ c.cell_links.ensures (omega arith) _
    c.max_local-most.ensures (omega arith) _ c.idle-then-most-fresh.ensures

slim : (c : Else-most-fresh) → let a = c.args in Slim a.image.now a.page a.cell c.unwrap-h.result.usable a.fresh.now
slim c =
    W.slim _ _ _ c.requires.0 _ (header-is _ _ _ c.check_header.ensures c.unwrap-h.ensures) c.args.row _ _ c.tree_cell-c.ensures _ c.cell_links.ensures (omega arith) _
    c.max_local-most.ensures (omega arith)

pub measure-r-requires : goal.measure-r-requires
measure-r-requires c = (
  (W.form _ _ _ c.requires.0 _ (header-is _ _ _ c.check_header.ensures c.unwrap-h.ensures)).size_is,
  W.within _ _ _ c.requires.0 _ (header-is _ _ _ c.check_header.ensures c.unwrap-h.ensures),
  W.leaf _ _ _ c.requires.0 _ (header-is _ _ _ c.check_header.ensures c.unwrap-h.ensures) c.requires.1,
  (slim (goal.at.measure-r-requires c).Else-most-fresh).short,
)

pub returns-then-r-eq0 : goal.returns-then-r-eq0
returns-then-r-eq0 c =
    W.full _ _ _ c.requires.0 _ (header-is _ _ _ c.check_header.ensures c.unwrap-h.ensures) _ _ (slim (goal.at.returns-then-r-eq0 c).Else-most-fresh) c.requires.1 _ (to_z-of_z w64 _ c.ranges.row) _
    c.measure-r.ensures (omega arith) _ c.idle-then-r-eq0.ensures

pub overflow_cast-result : goal.overflow_cast-result
overflow_cast-result c =
    let bound = W.bounds _ _ _ c.requires.0 _ (header-is _ _ _ c.check_header.ensures c.unwrap-h.ensures) in
    let short = (slim (goal.at.overflow_cast-result c).Else-most-fresh).short in
    omega arith

pub returns : goal.returns
returns c =
    W.may _ _ _ c.requires.0 _ (header-is _ _ _ c.check_header.ensures c.unwrap-h.ensures) _ _ (slim (goal.at.returns c).Else-most-fresh) c.requires.1 _ (to_z-of_z w64 _ c.ranges.row) _
    c.measure-r.ensures (λ z. omega arith)
