use Rattle.image.proofs.Shape.{shape}
use borrow.Author.Rules.{rules}
use Rattle.keys.proofs.hold.Goals as goal

pub overflow_cast-result : goal.overflow_cast-result
overflow_cast-result c =
    let s = shape c.requires.at.opened in
    let i = s.inside in
    let m = s.most in
    search rules
