-- Sends can go on where they lead.
use Rattle.std.proofs.Common.{◌≡◌, ◌≤◌, ℕ, List, length, arith, Option}
use Rattle.ns_base.specs.declared.place.Place.{Place as SourcePlace}
use Rattle.ns_base.specs.declared.selector.Sel.{Sel}
use Rattle.ns_code.specs.declared.program.CodeProgram.{CodeProgram}
use Rattle.ns_code.specs.Soundness.{initialiser_kind}
use Rattle.ns_world.specs.declared.value.Value.{Value}
use Rattle.ns_moves.specs.declared.site.Site.{Site}
use Rattle.ns_moves.specs.Control.{Progress, Activation, Control, Now, Enter, FromMethod, FromBody, FromClause, Evaluate, Begin, Perform}
use Rattle.ns_moves.specs.Bodies.{no_home}
use Rattle.ns_moves.specs.Actions.{Action, Sends}
use Rattle.ns_moves.specs.Lawful.{LawfulRun, LawfulControl, FitsTarget, FitsSelector}
use Rattle.ns_moves.specs.Fitting.{GoesOnAt, Asks, HandsOn}
use Rattle.ns_moves.specs.Spending.{ControlSpends, Spends}
use Rattle.ns_moves.specs.Sends.{Target, receiver_of, site_at, sent}
use Rattle.ns_machine_sends.specs.Going.{HasRoomAbove, ControlGoesOn}

-- A frame that was charged is within the limit, and few arguments stay few.
pub room_above : (code : CodeProgram) (frames steps home : ℕ) (Few : Type 0) (old : Progress) (site : Site) (c : Control) →
    ControlSpends steps old c → LawfulControl code c
    → GoesOnAt Few site home c → Few → old.world.depth ≡ frames → HasRoomAbove frames c
room_above code frames steps home Few old site (Now after) spends lawful at few depth = tt
room_above code frames steps home Few old site (Enter FromMethod activation locals p) spends lawful at few depth =
    let charged = spends.0.depth in let within = lawful.0.within.depth in omega (arith, charged, within, depth)
room_above code frames steps home Few old site (Enter FromBody activation locals p) spends lawful at few depth =
    let charged = spends.depth in let within = lawful.0.within.depth in omega (arith, charged, within, depth)
room_above code frames steps home Few old site (Enter (FromClause object holder class) activation locals p) spends lawful at few depth =
    let charged = spends.depth in let within = lawful.0.within.depth in omega (arith, charged, within, depth)
room_above code frames steps home Few old site (Evaluate block arguments own p) spends lawful at few depth = at.1 few
room_above code frames steps home Few old site (Begin method state own p) spends lawful at few depth =
    let charged = spends.depth in let within = lawful.0.within.depth in omega (arith, charged, within, depth)
room_above code frames steps home Few old site (Perform receiver sel array own p) spends lawful at few depth = tt

-- what the laws of sends say
pub record SendsKnown : Type 0 where
  pub lawful : (code : CodeProgram) (activation : Activation) (target : Target) (sel : Sel) (values : List Value) (place : Option SourcePlace) (progress : Progress)
      → LawfulRun code progress → FitsTarget progress.world.cells code activation target → FitsSelector progress.world.cells code sel values
      → LawfulControl code (sent code activation target sel values place progress)
  pub hands : (code : CodeProgram) (action : Action) (progress : Progress) → LawfulRun code progress → Asks code action progress → HandsOn code action progress
  pub spends : (code : CodeProgram) (action : Action) (progress : Progress) → Spends code action progress
  pub stays : (code : CodeProgram) (activation : Activation) (target : Target) (sel : Sel) (values : List Value) (place : Option SourcePlace) (progress : Progress)
      → GoesOnAt (length values ≤ 255) (site_at progress.world.cells place (receiver_of progress.world.cells activation target) sel) no_home
      (sent code activation target sel values place progress)

pub send_goes : SendsKnown →
    (code : CodeProgram) (activation : Activation) (target : Target) (sel : Sel) (values : List Value) (place : Option SourcePlace) (frames : ℕ)
    (progress : Progress) → LawfulRun code progress → FitsTarget progress.world.cells code activation target → FitsSelector progress.world.cells code sel values
    → length values ≤ 255 → progress.world.depth ≡ frames → ControlGoesOn code frames (sent code activation target sel values place progress)
send_goes known code activation target sel values place frames progress lawful fits selector few depth =
    let after = known.lawful code activation target sel values place progress lawful fits selector in
    record {
      own = initialiser_kind;
      lawful = after;
      fits = known.hands code (Sends activation target sel values place) progress lawful (fits, selector);
      room = room_above code frames 1 no_home (length values ≤ 255) progress
          (site_at progress.world.cells place (receiver_of progress.world.cells activation target) sel) (sent code activation target sel values place progress)
          (known.spends code (Sends activation target sel values place) progress) after (known.stays code activation target sel values place progress) few depth;
    }
