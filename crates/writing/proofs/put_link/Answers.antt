use Rattle.writing.proofs.OverLaws.{link-room, link-some}
use Rattle.writing.proofs.put_link.Goals as goal

pub put_word-requires : goal.put_word-requires
put_word-requires c =
    link-room c.args.out.now _ _ _ _ c.if-local-size.false c.requires

pub returns : goal.returns
returns c =
    link-some _ _ _ _ _ c.if-local-size.false _ c.put_word.ensures
