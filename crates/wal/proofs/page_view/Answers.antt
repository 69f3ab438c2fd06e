use mathlib.Core.Path.{ap}
use native.Mathlib.Omega.{arith}
use Rattle.wal.specs.Told.{is_log}
use Rattle.wal.proofs.ViewLaws.{part_low, part-in-log, part-in-image}
use Rattle.wal.proofs.page_view.Goals as goal

pub overflow_add-end : goal.overflow_add-end
overflow_add-end c = omega (arith, part_low _ _ _ _ c.in-Ok.ensures)

pub slice_bounds-result-end : goal.slice_bounds-result-end
slice_bounds-result-end c = omega (arith, part-in-log _ _ _ _ c.in-Ok.ensures (ap is_log c.in-Log.is))

pub slice_bounds-result-end-in-Image : goal.slice_bounds-result-end-in-Image
slice_bounds-result-end-in-Image c = omega (arith, part-in-image _ _ _ _ c.in-Ok.ensures (ap is_log c.in-Image.is))
