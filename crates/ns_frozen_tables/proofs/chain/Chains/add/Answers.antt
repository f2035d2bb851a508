use Rattle.std.proofs.Common.{ap, ◌∙◌, ◌∷◌, ◌++◌, [], arith}
use Rattle.ns_world.specs.Layout.{entries_above}
use Rattle.ns_frozen_tables.specs.declared.chain.Chain.{Chain}
use Rattle.ns_frozen_tables.specs.Chain.{next_chain}
use Rattle.ns_frozen_tables.proofs.Built.{class_more, other_kept, over_low}
use Rattle.ns_frozen_tables.proofs.chain.Chains.add.Goals as goal

pub next_chain-chain-requires-clause-few : goal.next_chain-chain-requires-clause-few
next_chain-chain-requires-clause-few c =
    over_low c.args.code.now c.args.number c.args.self.now c.in-Class.over c.over.result c.requires.fits c.requires.here (omega arith) (c.over.ensures c.args.code.now)

pub returns-in_ok-push-in-Class-2 : goal.returns-in_ok-push-in-Class-2
returns-in_ok-push-in-Class-2 c = λ heap size are.
    rw c.in-Class.is
    (class_more c.args.code.now heap c.args.self.now (record { numbers = c.push.new.self; chains = c.push-in-Class.new.self }) c.in-Class.decl
    (entries_above heap c.args.code.now c.in-Class.over) c.args.number c.in-Class.encl c.in-Class.holder c.in-Class.over are size
    c.in_ok-push-in-Class.ensures.items
    (c.in_ok-push-in-Class-2.ensures.items
    ∙ ap (λ (one : Chain). c.args.self.now.chains.items ++ one ∷ [])
    (c.next_chain-chain.ensures ∙ ap (next_chain c.args.code.now c.in-Class.decl c.in-Class.over) (c.over.ensures c.args.code.now heap are))))

pub returns-in_default : goal.returns-in_default
returns-in_default c = λ heap size are. other_kept c.args.code.now heap c.args.cell.now c.args.self.now c.in_default.not-Class are
