use mathlib.Core.Path.{refl}
use Rattle.builder.proofs.ImageLaid.{parts-laid}
use Rattle.builder.proofs.put_image.Goals as goal

pub returns : goal.returns
returns c =
    parts-laid _ _ _ _ c.args.keys.now _ _ _ c.requires _ _ _ _ _ _ refl c.put_first.ensures
    c.put_inners.ensures c.put_inners-2.ensures c.put_table.ensures c.put_chains.ensures
