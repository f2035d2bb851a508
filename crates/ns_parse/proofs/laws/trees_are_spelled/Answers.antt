use Rattle.ns_parse.specs.laws.SoundFile.{parse_spelled}
use Rattle.ns_parse.proofs.laws.trees_are_spelled.Goals as goal

pub returns : goal.returns
returns c = parse_spelled
