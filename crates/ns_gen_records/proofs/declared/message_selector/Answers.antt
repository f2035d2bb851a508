use Rattle.ns_tree.specs.laws.Nodes.{keywords_out}
use Rattle.ns_gen_records.proofs.declared.message_selector.Goals as goal

pub returns-in-Keys : goal.returns-in-Keys
returns-in-Keys c = rw (keywords_out c.args.message.now _ c.in-Keys.is) (rw c.deref-in-Keys.ensures.value at c.joined.ensures)
