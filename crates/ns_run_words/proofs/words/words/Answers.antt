use Rattle.std.proofs.Common.{map, string_bytes}
use Rattle.ns_run_words.proofs.LineLaws.{ranged, spelled, turning}
use Rattle.ns_run_words.proofs.words.words.Goals as goal

pub returns-clause-spelled : goal.returns-clause-spelled
returns-clause-spelled c = spelled (map string_bytes c.args.words.now) c.read.result c.read.ensures

pub returns-clause-range : goal.returns-clause-range
returns-clause-range c = ranged (map string_bytes c.args.words.now) c.read.result c.read.ensures

pub returns-clause-quantum : goal.returns-clause-quantum
returns-clause-quantum c = turning (map string_bytes c.args.words.now) c.read.result c.read.ensures
