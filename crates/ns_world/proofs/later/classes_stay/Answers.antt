use Rattle.ns_world.specs.laws.Lasting.{class_lasts, declaration_lasts, word_lasts}
use Rattle.ns_world.proofs.Lasting.{chain_start_lasts, chain_lasts, layout_lasts}
use Rattle.ns_world.proofs.later.classes_stay.Goals as goal

pub returns-clause-classes : goal.returns-clause-classes
returns-clause-classes c = class_lasts

pub returns-clause-starts : goal.returns-clause-starts
returns-clause-starts c = chain_start_lasts

pub returns-clause-chains : goal.returns-clause-chains
returns-clause-chains c = chain_lasts

pub returns-clause-declared : goal.returns-clause-declared
returns-clause-declared c = declaration_lasts

pub returns-clause-layouts : goal.returns-clause-layouts
returns-clause-layouts c = layout_lasts

pub returns-clause-words : goal.returns-clause-words
returns-clause-words c = word_lasts
