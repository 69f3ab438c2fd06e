use Rattle.appending.proofs.LaidLaws.{fields_laid}
use Rattle.appending.proofs.put_fields.Goals as goal

pub returns : goal.returns
returns c = fields_laid _ _ _ _ _ _ _ _ c.requires c.put_two.ensures c.put_two-2.ensures c.put_two-3.ensures
