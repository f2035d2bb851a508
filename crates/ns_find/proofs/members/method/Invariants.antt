use Rattle.std.proofs.Common.{◌≡◌, drop}
use Rattle.ns_code.specs.declared.program.CodeProgram.{CodeProgram}
use Rattle.ns_find.specs.Members.{search, method_members}
use Rattle.ns_find.proofs.members.method.Given as goal

abbrev pub invariant-methods : goal.invariant-methods
invariant-methods l =
    (code : CodeProgram) →
    search code l.asked.sel.0 l.asked.kind (method_members l.asked.wanted l.holder (drop l.one-index l.methods))
    ≡ search code l.asked.sel.0 l.asked.kind (method_members l.asked.wanted l.holder l.methods)
