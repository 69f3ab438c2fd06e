-- Where a tree page stands, and the types that suit the place (22).
use Rattle.std.specs.Prelude.{ℕ, Bool, ◌||◌, eqb}
use Rattle.cell.specs.Split.{table_leaf}
use Rattle.page.specs.declared.Place as D
use Rattle.page.specs.declared.Place.TheVariants.{SchemaRoot, AnyRoot, TablePage, IndexPage, PayloadPage}
use Rattle.page.specs.Header.{is_table, is_index}

unfoldable pub allowed : D.Place → (type : ℕ) → Bool
allowed SchemaRoot type = is_table type
allowed AnyRoot type = is_table type || is_index type
allowed TablePage type = is_table type
allowed IndexPage type = is_index type
allowed PayloadPage type = eqb type table_leaf || is_index type
