-- Sends after their lookup.
use Rattle.std.proofs.Common.{◌≡◌, ℕ, ap, ◌∙◌, subst, arith, Option, Some, None, All}
use Rattle.ns_code.specs.declared.program.CodeProgram.{CodeProgram}
use Rattle.ns_world.specs.declared.value.Value.{Value}
use Rattle.ns_world.specs.World.{WorldView}
use Rattle.ns_find.specs.declared.found.Sending.{Sending}
use Rattle.ns_find.specs.Memo.{PlaceIsRight}
use Rattle.ns_moves.specs.Control.{Activation, Progress}
use Rattle.ns_moves.specs.Sends as sends
use Rattle.ns_moves.specs.Sends.{Target, To}
use Rattle.ns_moves.specs.Arrivals.{arrived}
use Rattle.ns_moves.specs.declared.run.Run.{Run}
use Rattle.ns_moves.specs.Run.{progress_of}
use Rattle.ns_machine_frames.specs.declared.registers.Registers.{Registers}
use Rattle.ns_machine_frames.specs.Stack.{stood, with_top}
use Rattle.ns_machine_frames.specs.View.{site_shown, frames_shown}
use Rattle.ns_machine_core.specs.declared.led.Led.{Led}
use Rattle.ns_machine_core.specs.declared.led.Led.TheVariants.{Straight, Charged, On as OnTop, Answered, Nowhere}
use Rattle.ns_machine_core.specs.declared.state.Core.{Core}
use Rattle.ns_machine_core.specs.declared.state.Next.{Next}
use Rattle.ns_machine_core.specs.declared.state.Next.TheVariants.{On}
use Rattle.ns_machine_core.specs.Shown.{phase_shown}
use Rattle.ns_machine_core.specs.Straight.{StaysOnTop}
use Rattle.ns_machine_core.specs.Tried.{OnlyLookupsChanged, led_on, led_charged}
use Rattle.ns_machine_sends.specs.declared.sent.Sent.{Sent}
use Rattle.ns_machine_sends.specs.Going.{arguments_in}
use Rattle.ns_machine_sends.specs.Sending.{sent_at, Sends}
use Rattle.ns_machine_sends.specs.laws.Looked.{looked}
use Rattle.ns_machine_quick.specs.Given.{SendsOrNot, ChargesOrNot, SendLeads}

-- A send after its lookup is the send.
pub kept_sends : (code : CodeProgram) (core new : Core) (at : Registers) (sent : Sent) (run : Run) (activation : Activation) (target : Target) (next : Next)
    → looked core run → Sends code (record core { run = run }) at sent.floor (sent_at code (record core { run = run }) at sent activation target) new next
    → Sends code core at sent.floor (sent_at code core at sent activation target) new next
kept_sends code core new at sent run activation target next rest is = record {
  state = is.state
      ∙ ap (λ (p : Progress). arrived code (phase_shown core.phase)
      (sends.sent code activation target sent.site.sel (arguments_in core at sent) (site_shown core.places sent.site).place p)
      (frames_shown code core.places (stood core.stack (with_top sent.floor at)))) (ap progress_of rest);
  stand = is.stand;
  stays = record {
    world = record {
      limits = is.stays.world.limits ∙ ap (λ (w : WorldView). w.world.limits) same;
      room = (is.stays.world.room.0 ∙ ap (λ (w : WorldView). w.cell_room) same, is.stays.world.room.1 ∙ ap (λ (w : WorldView). w.out_room) same);
    };
    values = is.stays.values;
    frames = is.stays.frames;
    places = is.stays.places;
    arguments = is.stays.arguments;
  };
  kept = subst (λ (w : WorldView). All (PlaceIsRight w.world.cells code) new.run.memo) same is.kept;
}
  where
    same : run.world ≡ core.run.world
    same = ap (λ (r : Run). r.world) rest

-- What is untouched after a lookup is so before it.
pub kept_untouched : (code : CodeProgram) (core new : Core) (run : Run) → looked core run → OnlyLookupsChanged code (record core { run = run }) new → OnlyLookupsChanged code core new
kept_untouched code core new run rest is = record {
  same = is.same ∙ ap (λ (r : Run). let c : Core = record core { run = record r { memo = new.run.memo } } in c) rest;
  kept = subst (λ (w : WorldView). All (PlaceIsRight w.world.cells code) new.run.memo) (ap (λ (r : Run). r.world) rest) is.kept;
}

-- What a lookup leaves is untouched.
pub looked_untouched : (code : CodeProgram) (core : Core) (run : Run) → looked core run → All (PlaceIsRight core.run.world.world.cells code) run.memo
    → OnlyLookupsChanged code core (record core { run = run })
looked_untouched code core run rest kept = record {
  same = ap (λ (r : Run). let c : Core = record core { run = r } in c) rest;
  kept = kept;
}

-- ---- where a send leads

-- what was tried leads on with the topmost frame
pub tried_sends : (code : CodeProgram) (old new : Core) (at : Registers) (sent : Sent) (receiver : Value) (kind : Sending) (done : Option Registers)
    → SendsOrNot code old at sent receiver kind new done → SendLeads code old at sent receiver kind new (led_on done)
tried_sends code old new at sent receiver kind (Some to) is = is
tried_sends code old new at sent receiver kind None is = is

-- or straight on
pub tried_charges : (code : CodeProgram) (old new : Core) (at : Registers) (sent : Sent) (receiver : Value) (kind : Sending) (done : Option Registers)
    → ChargesOrNot code old at sent receiver kind new done → SendLeads code old at sent receiver kind new (led_charged done)
tried_charges code old new at sent receiver kind (Some to) is = is
tried_charges code old new at sent receiver kind None is = is

-- what stays on top after a lookup does so after the send
kept_on_top : (charged : ℕ) (core new : Core) (run : Run) → looked core run → StaysOnTop charged (record core { run = run }) new → StaysOnTop charged core new
kept_on_top charged core new run rest stays body runs =
    let is = stays body runs in
    let steps = is.steps in
    let same = ap (λ (r : Run). r.world.world.steps) rest in
    record { runs = is.runs; steps = omega (arith, steps, same) }

-- Where a send leads after its lookup, it leads.
pub kept_leads : (code : CodeProgram) (core new : Core) (at : Registers) (sent : Sent) (receiver : Value) (kind : Sending) (run : Run) (led : Led)
    → looked core run → SendLeads code (record core { run = run }) at sent receiver kind new led → SendLeads code core at sent receiver kind new led
kept_leads code core new at sent receiver kind run (Straight to) rest is =
    (λ activation. kept_sends code core new at sent run activation (To receiver kind) (On to) rest (is.0 activation), kept_on_top 0 core new run rest is.1)
kept_leads code core new at sent receiver kind run (Charged to) rest is =
    (λ activation. kept_sends code core new at sent run activation (To receiver kind) (On to) rest (is.0 activation), kept_on_top 1 core new run rest is.1)
kept_leads code core new at sent receiver kind run (OnTop to) rest is =
    λ activation. kept_sends code core new at sent run activation (To receiver kind) (On to) rest (is activation)
kept_leads code core new at sent receiver kind run (Answered to) rest is = is
kept_leads code core new at sent receiver kind run Nowhere rest is = kept_untouched code core new run rest is
