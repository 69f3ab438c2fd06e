use Rattle.appending.proofs.LaidLaws.{header-sums, header-laid}
use Rattle.appending.proofs.put_header.Goals as goal

pub returns-clause-sums : goal.returns-clause-sums
returns-clause-sums c = header-sums _ _ _ _ _ _ _ _ c.requires c.put_fields.ensures c.header_sums-sums.ensures

pub returns-clause-output : goal.returns-clause-output
returns-clause-output c = header-laid _ _ _ _ _ _ _ _ c.requires c.put_fields.ensures c.header_sums-sums.ensures _ c.put_two.ensures
