use mathlib.Core.Path.{refl}
use Rattle.lookup.proofs.with_marks.Goals as goal

pub returns-then-usable-le512 : goal.returns-then-usable-le512
returns-then-usable-le512 g c = (_, _, record { shown = _; shows = refl; left = _; met = c.run.ensures; leaves = refl })

pub returns-then-usable-le4096 : goal.returns-then-usable-le4096
returns-then-usable-le4096 g c = (_, _, record { shown = _; shows = refl; left = _; met = c.run-then-usable-le4096.ensures; leaves = refl })

pub returns : goal.returns
returns g c = (_, _, record { shown = _; shows = refl; left = _; met = c.run-2.ensures; leaves = refl })
