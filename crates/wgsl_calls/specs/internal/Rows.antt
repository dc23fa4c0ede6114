-- The rows of a name.
use Rattle.std.specs.Prelude.{List, [], ◌∷◌, Option, Some, None}
use Rattle.wgsl_syntax.specs.declared.call.Row.{Row}
use Rattle.wgsl_calls.specs.declared.call.rows.Rows.{Rows}
use Rattle.wgsl_calls.specs.declared.call.rows.Rows.TheVariants as rs

abbrev pub rows_view : Rows → List Row
rows_view (rs.Only r) = r ∷ []
rows_view (rs.Either r q) = r ∷ q ∷ []

abbrev pub found_rows : Option Rows → List Row
found_rows None = []
found_rows (Some rs) = rows_view rs
