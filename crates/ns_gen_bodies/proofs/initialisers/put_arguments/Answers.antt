use Rattle.std.proofs.Common.{◌∙◌, sym}
use Rattle.ns_tree.specs.PlainOf.{keys_of}
use Rattle.ns_tree.specs.laws.Nodes.{keywords_out}
use Rattle.ns_gen_draft.specs.Standing.{standing}
use Rattle.ns_gen_draft.specs.laws.Keywords.{keys_many}
use Rattle.ns_gen_bodies.proofs.initialisers.put_arguments.Goals as goal

pub returns-in_ok-put_keys-in-Keys-clause-put : goal.returns-in_ok-put_keys-in-Keys-clause-put
returns-in_ok-put_keys-in-Keys-clause-put c =
    rw (keywords_out c.args.message.now _ c.in-Keys.is) (rw c.deref-in-Keys-2.ensures.value at c.in_ok-put_keys-in-Keys.ensures.put)

pub returns-in_ok-put_keys-in-Keys-clause-count : goal.returns-in_ok-put_keys-in-Keys-clause-count
returns-in_ok-put_keys-in-Keys-clause-count c =
    rw (keywords_out c.args.message.now _ c.in-Keys.is)
    ((rw c.deref-in-Keys.ensures.value at c.in_ok-count-in-Keys.ensures) ∙ sym (keys_many (standing c.args.here.now) c.args.next.now (keys_of c.in-Keys.keys.items)))

pub returns-in_ok-put_keys-in-Keys-clause-next : goal.returns-in_ok-put_keys-in-Keys-clause-next
returns-in_ok-put_keys-in-Keys-clause-next c =
    rw (keywords_out c.args.message.now _ c.in-Keys.is) (rw c.deref-in-Keys-2.ensures.value at c.in_ok-put_keys-in-Keys.ensures.next)
