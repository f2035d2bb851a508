use Rattle.std.proofs.Common.{sym, ◌∙◌}
use Rattle.ns_find.proofs.Setters.{front_is, no_front}
use Rattle.ns_find.proofs.members.is_setter_of.Goals as goal

pub returns-in-Some : goal.returns-in-Some
returns-in-Some c code sel fits front named = front_is code sel c.in-Some.number c.args.name fits named (sym c.in-Some.is ∙ front)

pub returns-in-None : goal.returns-in-None
returns-in-None c code sel fits front named = no_front code sel c.args.name fits named (sym c.in-None.is ∙ front)
