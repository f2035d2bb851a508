-- What is kept of selectors.
use Rattle.std.specs.Prelude.{◌≡◌, length}
use Rattle.ns_code.specs.declared.program.CodeProgram.{CodeProgram}
use Rattle.ns_code.specs.Selector.{has_name, own_text_at}
use Rattle.ns_code.specs.Selectors.{IsTableOf}
use Rattle.ns_frozen_tables.specs.declared.selectors.Selectors.{Selectors}

-- How many names there are, which of the machine's own selectors the code names, and the arity of each.
pub record AreSelectors (code : CodeProgram) (selectors : Selectors) : Type 0 where
  pub names : selectors.names ≡ length code.names
  pub first : selectors.first ≡ has_name code (own_text_at 0)
  pub second : selectors.second ≡ has_name code (own_text_at 1)
  pub third : selectors.third ≡ has_name code (own_text_at 2)
  pub arities : IsTableOf code selectors.arities
