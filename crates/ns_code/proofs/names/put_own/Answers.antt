use Rattle.std.proofs.Common.{rules}
use Rattle.ns_code.proofs.Fronting.{own_put}
use Rattle.ns_code.proofs.names.put_own.Goals as goal

pub returns : goal.returns
returns c =
    own_put c.args.table.now c.args.fronts.now.items c.put_front.new.fronts.items c.put_front-2.new.fronts.items c.put_front-3.new.fronts.items (search rules) (search rules) (search rules)
