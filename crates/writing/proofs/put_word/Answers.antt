use mathlib.Core.Path.{ap, ◌∙◌}
use Rattle.paging.specs.Pages.{over}
use Rattle.writing.proofs.OverLaws.{word-bytes}
use Rattle.writing.proofs.put_word.Goals as goal

pub returns : goal.returns
returns c = c.lay.ensures ∙ ap (over c.args.out.now c.args.at) (c.to_be_bytes.ensures ∙ word-bytes c.args.n)
