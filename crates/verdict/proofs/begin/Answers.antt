use mathlib.Core.Path.{sym, ap, ◌∙◌}
use lib.ListN.{replicate}
use Rattle.image.proofs.Shape.{shape}
use Rattle.verdict.proofs.VerdictLaws.{cleared}
use Rattle.verdict.proofs.begin.Goals as goal

pub returns : goal.returns
returns c =
    (c.fill_kinds.ensures, c.clear_namers.ensures ∙ cleared _ _ c.requires.1.namers_n ∙ ap (λ n. replicate n 0) (sym (shape c.requires.0).N-is))
