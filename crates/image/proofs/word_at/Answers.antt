use mathlib.Core.Path.{ap, ◌∙◌}
use native.Mathlib.Omega.{arith}
use Rattle.number.specs.Bytes.{be}
use Rattle.header.specs.Header.{page_of}
use Rattle.image.proofs.Shape.{shape, at-within}
use Rattle.image.proofs.word_at.Goals as goal

pub page_of-page-requires : goal.page_of-page-requires
page_of-page-requires c = at-within c.requires.0

pub be32-requires : goal.be32-requires
be32-requires c =
    let s = shape c.requires.0.opened in
    omega (arith, c.page_of-page.ensures.1)

pub returns : goal.returns
returns c =
    let s = shape c.requires.0.opened in
    let b = c.args.image.now in
    c.be32.ensures ∙ ap (λ l. be 4 l c.args.at) (c.page_of-page.ensures.0 ∙ ap (λ z. page_of b z c.args.p) s.size_is)
