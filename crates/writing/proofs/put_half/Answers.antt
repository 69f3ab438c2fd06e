use mathlib.Core.Path.{ap, ◌∙◌}
use Rattle.paging.specs.Pages.{over}
use Rattle.writing.proofs.OverLaws.{half-bytes}
use Rattle.writing.proofs.put_half.Goals as goal

pub returns : goal.returns
returns c = c.lay.ensures ∙ ap (over c.args.out.now c.args.at) (c.to_be_bytes.ensures ∙ half-bytes c.args.n)
