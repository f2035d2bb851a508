-- What a class's record names is there.
use Rattle.std.specs.Prelude.{◌≡◌, true, ℕ, List}
use Rattle.ns_base.specs.Spelling.{is_identifier}
use Rattle.ns_tree.specs.Plain as p
use Rattle.ns_scope.specs.declared.scope.ClassScope.{ClassScope}
use Rattle.ns_scope.specs.declared.scope.CodeSide.TheVariants as side
use Rattle.ns_code.specs.Selector.{text_arity}
use Rattle.ns_resolved.specs.Program as m
use Rattle.ns_resolved.specs.Right.{HasInitialiser, HasClause, HaveMethods, AreIdentifiers}
use Rattle.ns_link.specs.Spelled.{HasSpelledNames}

-- Its names are identifiers, its factory takes what its selector says, and its bodies are there.
pub record NamesWhatIsThere (meant : m.Meant) (number : ℕ) (class : m.Declaration) : Type 0 where
  pub name : is_identifier class.name ≡ true
  pub factory : class.params ≡ text_arity class.factory
  pub initialiser : HasInitialiser meant number class
  pub clause : HasClause meant class class.clause
  pub slots : AreIdentifiers class.slots
  pub methods : HaveMethods meant side.Instance number class.methods
  pub side_methods : HaveMethods meant side.Class number class.side_methods

-- Names and patterns of a class are spelled so, wherever it stands.
abbrev pub SpelledIn : List ClassScope → p.Class → Type 0
SpelledIn outer class = HasSpelledNames class
