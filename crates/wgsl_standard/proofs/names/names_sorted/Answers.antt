use Rattle.wgsl_standard.proofs.SortedTables.{functions_sorted, constructors_sorted, templates_sorted}
use Rattle.wgsl_standard.proofs.names.names_sorted.Goals as goal

pub returns-clause-functions : goal.returns-clause-functions
returns-clause-functions c = functions_sorted

pub returns-clause-constructors : goal.returns-clause-constructors
returns-clause-constructors c = constructors_sorted

pub returns-clause-templates : goal.returns-clause-templates
returns-clause-templates c = templates_sorted
