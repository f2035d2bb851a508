use Rattle.std.proofs.Common.{◌∙◌, refl, sym, ap, length, None}
use Rattle.std.specs.Prelude.{unwrap_or}
use Rattle.std.specs.Option.{option_map_or}
use Rattle.std.proofs.lemmas.Bool.{ltb-true}
use Rattle.std.proofs.lemmas.Option.{slice_get_read, slice_get_past}
use Rattle.ns_find.specs.Find.{side_of}
use Rattle.ns_machine_plan.specs.declared.members.Members.{Members}
use Rattle.ns_machine_plan.specs.declared.step.Member.TheVariants.{Absent}
use Rattle.ns_machine_plan.specs.Members.{found_on}
use Rattle.ns_machine_plan.proofs.Named.{found_by_number}
use Rattle.ns_machine_plan.proofs.members.Privates.member.Goals as goal

pub returns-in-Some : goal.returns-in-Some
returns-in-Some c =
    let all = c.args.self.now.classes in
    let side = side_of c.args.class_side in
    let there = rw c.as_slice.ensures at c.in-Some.ensures.lookup in
    let at = slice_get_read all (length all) c.args.decl c.in-Some.members.now refl (ltb-true c.args.decl (length all) (sym there.0)) there.1 in
    let found = sym (ap (λ o. option_map_or (λ (members : Members). found_on members side c.args.sel.0) o None) at)
    ∙ found_by_number c.args.code.now side c.args.sel.0 c.args.decl c.args.code.now.classes all c.requires.privates.members c.requires.name in
    c.unwrap_or.ensures ∙ ap (λ o. unwrap_or o Absent) (c.find.ensures ∙ found)

pub returns-in-None : goal.returns-in-None
returns-in-None c =
    let all = c.args.self.now.classes in
    let side = side_of c.args.class_side in
    let there = rw c.as_slice.ensures at c.in-None.ensures.lookup in
    let at = slice_get_past all c.args.decl there.3 in
    let found = sym (ap (λ o. option_map_or (λ (members : Members). found_on members side c.args.sel.0) o None) at)
    ∙ found_by_number c.args.code.now side c.args.sel.0 c.args.decl c.args.code.now.classes all c.requires.privates.members c.requires.name in
    ap (λ o. unwrap_or o Absent) found
