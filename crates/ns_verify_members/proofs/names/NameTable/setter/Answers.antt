use Rattle.std.proofs.Common.{◌+◌, ◌∙◌, ap, None, Some}
use Rattle.ns_verify_members.proofs.Colons.{setter_is}
use Rattle.ns_verify_members.proofs.names.NameTable.setter.Goals as goal

pub returns-in-Some : goal.returns-in-Some
returns-in-Some c =
    setter_is c.args.code.now.names c.args.self.now.setters c.args.name.0 (Some c.in-Some.number) c.requires.table.setters c.in-Some.ensures

pub returns-in-None : goal.returns-in-None
returns-in-None c =
    ap (λ n. n + c.args.name.0) c.len.ensures
    ∙ setter_is c.args.code.now.names c.args.self.now.setters c.args.name.0 None c.requires.table.setters c.in-None.ensures
