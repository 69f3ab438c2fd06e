-- `writing::put_header` meets its contract. Assumes nothing.
use mathlib.Core.Path.{sym, ap, ◌∙◌}
use Rattle.paging.specs.Pages.{over}
use Rattle.writing.proofs.FirstLaws.{header-bytes, header-laid}
use Rattle.writing.proofs.put_header.Goals as goal

pub returns : goal.returns
returns c =
    header-laid _ _ _ _ (c.lay.ensures ∙ ap (over c.args.out.now 0) (sym header-bytes)) c.put_word.ensures
