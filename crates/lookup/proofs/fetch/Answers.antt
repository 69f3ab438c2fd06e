use mathlib.Core.Path.{refl}
use native.Mathlib.Omega.{arith}
use Rattle.std.proofs.lemmas.Result.{err_from_is_err_and}
use Rattle.image.proofs.Shape.{shape}
use Rattle.lookup.proofs.Ways.{cell-limit, fetch-stops, fetch-short, fetch-copied, fetchable, fetched-out}
use Rattle.lookup.proofs.fetch.Goals as goal

pub cell_links-requires : goal.cell_links-requires
cell_links-requires c =
    let cell = c.requires in
    let s = shape cell.at.opened in
    (omega arith, omega arith, cell-limit cell)

pub returns-in_err-follow_chain : goal.returns-in_err-follow_chain
returns-in_err-follow_chain c =
    let p = err_from_is_err_and c.from_residual.result c.from_residual.ensures.1 in
    rw (p.1, p.2) (fetch-stops c.requires _ c.cell_links.ensures _ _ _ c.in_err-follow_chain.ensures, refl)

pub returns-then-out-c : goal.returns-then-out-c
returns-then-out-c c = rw c.into.ensures (fetch-short c.requires _ c.cell_links.ensures _ c.in_ok-follow_chain.ensures c.if-out-c.true, refl)

pub copy_payload-requires : goal.copy_payload-requires
copy_payload-requires c = fetchable c.requires _ c.cell_links.ensures _ c.in_ok-follow_chain.ensures c.if-out-c.false

pub overflow_cast-result : goal.overflow_cast-result
overflow_cast-result c = omega (arith, cell-limit c.requires)

pub returns : goal.returns
returns c = (
  fetch-copied c.requires _ c.cell_links.ensures _ c.in_ok-follow_chain.ensures c.if-out-c.false,
  fetched-out c.requires _ _ c.copy_payload.ensures,
)
