-- What a table of selectors tells.
use Rattle.std.specs.Prelude.{◌≡◌, map}
use Rattle.ns_code.specs.declared.own.Own.TheVariants.{PackageUsing, MainArgs, DoesNotUnderstand}
use Rattle.ns_code.specs.declared.program.CodeProgram.{CodeProgram}
use Rattle.ns_code.specs.declared.selectors.SelectorTable.{SelectorTable}
use Rattle.ns_code.specs.Selector.{text_arity, own_number}

-- The table has the arity of each name of the code, and the numbers of the machine's own selectors.
pub record IsTableOf (code : CodeProgram) (table : SelectorTable) : Type 0 where
  pub arities : table.arities ≡ map text_arity code.names
  pub package_using : table.package_using.0 ≡ own_number code PackageUsing
  pub main_args : table.main_args.0 ≡ own_number code MainArgs
  pub does_not_understand : table.does_not_understand.0 ≡ own_number code DoesNotUnderstand
