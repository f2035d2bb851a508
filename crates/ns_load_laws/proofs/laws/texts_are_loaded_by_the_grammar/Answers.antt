use Rattle.std.proofs.Common.{◌++◌}
use Rattle.ns_load.specs.Loaded.{library}
use Rattle.ns_load_laws.proofs.Texts.{loaded_is, text_is}
use Rattle.ns_load_laws.proofs.laws.texts_are_loaded_by_the_grammar.Goals as goal

pub returns-clause-text : goal.returns-clause-text
returns-clause-text c = λ file text reading. text_is file text reading c.sources_are_read_by_the_grammar.ensures

pub returns-clause-texts : goal.returns-clause-texts
returns-clause-texts c = λ k texts loading. loaded_is k texts loading c.sources_are_read_by_the_grammar.ensures

pub returns-clause-with_library : goal.returns-clause-with_library
returns-clause-with_library c = λ texts lib loading. loaded_is 0 (texts ++ library lib) loading c.sources_are_read_by_the_grammar.ensures
