use Rattle.ns_moves.proofs.BlocksFit.{block_is_lawful, enclosing_live}
use Rattle.ns_moves.proofs.LocalsFit.{local_stands, local_live}
use Rattle.ns_moves.proofs.laws.what_code_names_is_there.Goals as goal

pub returns-clause-enclosing : goal.returns-clause-enclosing
returns-clause-enclosing c = λ code activation level progress. enclosing_live progress.world code activation level

pub returns-clause-stands : goal.returns-clause-stands
returns-clause-stands c = λ code activation hops progress. local_stands progress.world.cells code activation hops

pub returns-clause-local : goal.returns-clause-local
returns-clause-local c = λ code activation locals hops place progress. local_live progress.world code activation locals hops place

pub returns-clause-block : goal.returns-clause-block
returns-clause-block c = λ code activation block progress. block_is_lawful progress.world code activation block
