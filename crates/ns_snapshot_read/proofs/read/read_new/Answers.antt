use Rattle.ns_image.specs.Reading.{read_image}
use Rattle.ns_snapshot_read.proofs.read.read_new.Goals as goal

pub returns-in-Err : goal.returns-in-Err
returns-in-Err c = c.image_fault.ensures c.args.state (read_image c.args.image.now) c.in-Err.ensures.exact
