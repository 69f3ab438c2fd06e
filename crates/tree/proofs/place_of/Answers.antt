use mathlib.Core.Path.{sym, ap, ◌∙◌}
use Rattle.dealing.specs.File.{suits, schema_root, any_root, table_page, index_page}
use Rattle.tree.specs.Spots.{spot_of}
use Rattle.image.proofs.Faults.{suits-same}
use Rattle.tree.proofs.place_of.Goals as goal

pub returns-in-Schema : goal.returns-in-Schema
returns-in-Schema c = λ t. suits-same schema_root t ∙ ap (λ s. suits (spot_of s) t) (sym c.in-Schema.is)

pub returns-in-Root : goal.returns-in-Root
returns-in-Root c = λ t. suits-same any_root t ∙ ap (λ s. suits (spot_of s) t) (sym c.in-Root.is)

pub returns-in-Table : goal.returns-in-Table
returns-in-Table c = λ t. suits-same table_page t ∙ ap (λ s. suits (spot_of s) t) (sym c.in-Table.is)

pub returns-in-Index : goal.returns-in-Index
returns-in-Index c = λ t. suits-same index_page t ∙ ap (λ s. suits (spot_of s) t) (sym c.in-Index.is)
