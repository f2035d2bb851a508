use Rattle.std.proofs.Common.{true, false, sym, ◌∙◌, ◌+◌}
use Rattle.ns_actors_calls.specs.Shown.{shown}
use Rattle.ns_actors_calls.specs.declared.stage.Standing.TheVariants.{Sending}
use Rattle.ns_actors_calls.proofs.Taking.{next_got, take_next, takes_named, takes_other}
use Rattle.ns_actors_calls.proofs.actor.Actor.begin_next.Goals as goal

pub begin-begins-requires : goal.begin-begins-requires
begin-begins-requires c =
    let old = c.args.self.now in
    c.requires.may c.index-as_slice-self.result
    (next_got old.letters.all c.as_slice.result.now old.taken c.index-as_slice-self.result c.as_slice.ensures c.requires.there c.index-as_slice-self.is)

pub returns-then-begins-clause-takes : goal.returns-then-begins-clause-takes
returns-then-begins-clause-takes c =
    let old = c.args.self.now in
    let letter = c.index-as_slice-self.result in
    let machine = c.begin-begins.new.machine in
    take_next c.args.behaviour true letter (shown old)
    (shown (record old { machine = machine; standing = Sending c.args.behaviour; taken = old.taken + 1 }))
    (next_got old.letters.all c.as_slice.result.now old.taken letter c.as_slice.ensures c.requires.there c.index-as_slice-self.is)
    (sym c.if-begins.true ∙ c.begin-begins.ensures.named) (takes_named old c.args.behaviour letter machine (c.begin-begins.ensures.begun c.if-begins.true))

pub returns-clause-takes : goal.returns-clause-takes
returns-clause-takes c =
    let old = c.args.self.now in
    let letter = c.index-as_slice-self.result in
    let machine = c.begin-begins.new.machine in
    take_next c.args.behaviour false letter (shown old) (shown (record old { machine = machine; taken = old.taken + 1 }))
    (next_got old.letters.all c.as_slice.result.now old.taken letter c.as_slice.ensures c.requires.there c.index-as_slice-self.is)
    (sym c.if-begins.false ∙ c.begin-begins.ensures.named) (takes_other old c.args.behaviour letter machine (c.begin-begins.ensures.unchanged c.if-begins.false))
