use Rattle.std.proofs.Common.{sym}
use Rattle.ns_verify.proofs.Outward.{lacks_at, lacks_past}
use Rattle.ns_verify.proofs.tables.Tables.lacks_private.Goals as goal

pub returns-in-Some : goal.returns-in-Some
returns-in-Some c =
    lacks_at c.args.code.now c.args.self.now.privates c.args.class c.args.side c.args.name c.in-Some.privates.now c.has.result c.requires.tables.privates (sym c.in-Some.ensures)
    (λ declared is. c.has.ensures c.args.code.now declared is c.requires.name)

pub returns-in-None : goal.returns-in-None
returns-in-None c = lacks_past c.args.code.now c.args.self.now.privates c.args.class c.args.side c.args.name c.requires.tables.privates (sym c.in-None.ensures)
