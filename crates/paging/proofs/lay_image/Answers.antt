use Rattle.std.proofs.lemmas.List.{take_min}
use Rattle.paging.specs.Laying.{lay_image}
use Rattle.paging.proofs.lay_image.Goals as goal

pub returns : goal.returns
unfolding lay_image
returns c = rw (c.lay_lock.ensures, c.lay.ensures, c.min-most.ensures) (simp take_min)
