use Rattle.std.proofs.Common.{◌≡◌, ◌++◌, ◌∷◌, [], false, sym, ap, subst, ◌∙◌}
use Rattle.ns_base.specs.Names.{has}
use Rattle.ns_verify_members.proofs.Added.{name_new, table_step}
use Rattle.ns_verify_members.proofs.names.table_of.Goals as goal

pub add-requires : goal.add-requires
add-requires c =
    let same : c.in_ok-name.name ≡ c.name-item.result = rw c.bytes.ensures at c.in_ok-name.ensures in
    subst (λ text. has c.names.table text ≡ false) (sym same)
    (name_new c.names.table c.args.names.now c.name-item.result c.names.name-index c.names-test.true c.name-item.is c.names.invariant c.requires)

pub names-preserved : goal.names-preserved
names-preserved c =
    let same : c.in_ok-name.name ≡ c.name-item.result = rw c.bytes.ensures at c.in_ok-name.ensures in
    table_step c.names.table c.add.new.self c.args.names.now c.name-item.result c.names.name-index c.names-test.true c.name-item.is c.names.invariant
    (c.in_ok-add.ensures.put ∙ ap (λ text. c.names.table ++ text ∷ []) same)
