use Rattle.std.proofs.Common.{◌≡◌, ap, ◌∙◌, subst, sym, true, length, SomeIff}
use Rattle.std.specs.List.{list_all}
use Rattle.ns_code.specs.declared.program.CodeProgram.{CodeProgram}
use Rattle.ns_world.specs.World.{World}
use Rattle.ns_moves.specs.State.{is_idle, world_of}
use Rattle.ns_machine.specs.Asking.{named, HasSelector, MayAsk}
use Rattle.ns_machine.specs.Living.{is_live_value}
use Rattle.ns_machine.proofs.LiveTest.{live_told, all_told}
use Rattle.ns_machine.proofs.Asked.{begins, some_for}
use Rattle.ns_machine.proofs.machine.Machine.may_ask.Goals as goal

pub returns-then-not-are_live-clause-may : goal.returns-then-not-are_live-clause-may
returns-then-not-are_live-clause-may c = λ may.
    let m = c.args.self.now in
    let values = c.args.arguments.now in
    let told : c.are_live.result ≡ true =
    c.are_live.ensures
    ∙ (ap (λ (world : World). list_all (is_live_value world.cells c.code-2.result.now) values) c.world-2.ensures
    ∙ (ap (λ (code : CodeProgram). list_all (is_live_value (world_of m.state).cells code) values) c.code-2.ensures.code
    ∙ (all_told (world_of m.state).cells m.code values).1 may.all_live)) in
    let none = c.if-not-are_live.true in
    absurd (cc)

asked : (c : goal.After-selector_for)
    → SomeIff c.selector_for.result (MayAsk c.args.self.now.code c.args.self.now.state c.args.receiver c.args.name.now c.args.arguments.now)
    (named c.args.self.now.code c.args.name.now)
asked c =
    let m = c.args.self.now in
    let values = c.args.arguments.now in
    let idle : is_idle m.state ≡ true = cc (c.idle.ensures.idle, c.if-not-idle.false) in
    let receiver_told : is_live_value (world_of m.state).cells m.code c.args.receiver ≡ true =
    sym (c.is_live.ensures
    ∙ (ap (λ (world : World). is_live_value world.cells c.code.result.now c.args.receiver) c.world.ensures
    ∙ ap (λ (code : CodeProgram). is_live_value (world_of m.state).cells code c.args.receiver) c.code.ensures.code)) ∙ c.if-not-is_live.false in
    let values_told : list_all (is_live_value (world_of m.state).cells m.code) values ≡ true =
    sym (c.are_live.ensures
    ∙ (ap (λ (world : World). list_all (is_live_value world.cells c.code-2.result.now) values) c.world-2.ensures
    ∙ ap (λ (code : CodeProgram). list_all (is_live_value (world_of m.state).cells code) values) c.code-2.ensures.code)) ∙ c.if-not-are_live.false in
    some_for (HasSelector m.code c.args.name.now (length values)) (MayAsk m.code m.state c.args.receiver c.args.name.now values)
    c.selector_for.result (named m.code c.args.name.now)
    (subst (λ (code : CodeProgram). SomeIff c.selector_for.result (HasSelector code c.args.name.now (length values)) (named code c.args.name.now))
    c.code-3.ensures.code c.selector_for.ensures)
    (λ has. record {
      idle = idle;
      live = (live_told (world_of m.state).cells m.code c.args.receiver).0 receiver_told;
      all_live = (all_told (world_of m.state).cells m.code values).0 values_told;
      selector = has;
    })
    (λ may. may.selector)

pub returns-clause-may : goal.returns-clause-may
returns-clause-may c = asked c

pub returns-clause-begins : goal.returns-clause-begins
returns-clause-begins c =
    begins c.args.self.now.code c.args.self.now.state c.args.receiver c.args.name.now c.args.arguments.now c.selector_for.result (asked c)
