use Rattle.std.proofs.Common.{ap, sym, subst, ◌∙◌}
use Rattle.ns_code.specs.declared.program.CodeProgram.{CodeProgram}
use Rattle.ns_code.specs.Fits.{Fits}
use Rattle.ns_verify.specs.Verify.{IsSound}
use Rattle.ns_moves.specs.State.{world_of}
use Rattle.ns_frozen.specs.Fault.{IsValid}
use Rattle.ns_machine_core.specs.Own.{AreOwn}
use Rattle.ns_machine_thaw.specs.Thawed.{IsThawed}
use Rattle.ns_machine.specs.declared.stage.Stage.{Stage}
use Rattle.ns_machine.specs.Machine.{MachineView, IsMachine}
use Rattle.ns_machine.specs.Places.{BeginsWithPlaces}
use Rattle.ns_machine.proofs.Restored.{limits_range, front_kept, restored_machine}
use Rattle.ns_machine.proofs.machine.Machine.restore_valid.Goals as goal

pub thaw-to-requires-clause-stand : goal.thaw-to-requires-clause-stand
thaw-to-requires-clause-stand c =
    let m = c.self.inside in
    record {
      sound = c.code.ensures.sound;
      fits = c.code.ensures.fits;
      range =
          limits_range m.code m.grants m.core m.stage c.args.frozen.now c.self.invariant.valid
          (c.requires.limits ∙ sym (ap (λ (shown : MachineView). (world_of shown.state).limits) c.self.view_is));
    }

pub own_sends-self-inside-requires-clause-places : goal.own_sends-self-inside-requires-clause-places
own_sends-self-inside-requires-clause-places c =
    let m = c.self.inside in
    subst (λ (code : CodeProgram). BeginsWithPlaces code c.thaw-to.new.core.places) (sym c.code-2.ensures.code)
    (front_kept m.code m.core c.thaw-to.new.core c.place_count-first.result (c.place_count-first.ensures m.code c.self.invariant.prepared) c.self.invariant.places
    c.thaw-to.ensures.stays)

pub invariant_of-self : goal.invariant_of-self
invariant_of-self c =
    let m = c.self.inside in
    let frozen = c.args.frozen.now in
    let new = c.thaw-to.new.core in
    let own = c.own_sends-self-inside.result in
    let valid : IsValid m.code frozen = subst (λ (shown : MachineView). IsValid shown.code frozen) (sym c.self.view_is) c.requires.valid in
    subst (λ (stage : Stage). IsMachine m.code frozen.grants m.plan new own stage) (sym c.stage_of-self-inside.ensures)
    (restored_machine m.code m.grants m.plan m.core new own m.own m.stage frozen c.place_count-first.result c.thaw-to.result
    (c.place_count-first.ensures m.code c.self.invariant.prepared) c.self.invariant
    (c.valid_states_thaw.ensures m.code frozen
    (record {
      sound = subst IsSound c.code.ensures.code c.code.ensures.sound;
      fits = subst Fits c.code.ensures.code c.code.ensures.fits;
      range =
          limits_range m.code m.grants m.core m.stage frozen c.self.invariant.valid
          (c.requires.limits ∙ sym (ap (λ (shown : MachineView). (world_of shown.state).limits) c.self.view_is));
    })
    valid)
    (subst (λ (code : CodeProgram). IsThawed code c.place_count-first.result frozen m.core new c.thaw-to.result) c.code.ensures.code c.thaw-to.ensures)
    (subst (λ (code : CodeProgram). AreOwn code new.places own) c.code-2.ensures.code c.own_sends-self-inside.ensures))
