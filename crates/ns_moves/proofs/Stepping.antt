-- The step of a send changes nothing that its lookup sees.
use Rattle.std.proofs.Common.{◌≡◌, ◌+◌, List, refl, Option, Some, None, Bool, true, false, cond}
use Rattle.std.specs.Prelude.{nat_lt}
use Rattle.ns_base.specs.declared.place.Place.{Place as SourcePlace}
use Rattle.ns_base.specs.declared.selector.Sel.{Sel}
use Rattle.ns_code.specs.declared.program.CodeProgram.{CodeProgram}
use Rattle.ns_world.specs.declared.ending.LimitKind.TheVariants.{Steps}
use Rattle.ns_world.specs.declared.value.Value.{Value}
use Rattle.ns_world.specs.declared.value.Value.TheVariants.{Nil, True, False, Int, Sym, Kernel, Ref}
use Rattle.ns_world.specs.Heap.{Heap}
use Rattle.ns_world.specs.Lawful.{IsLiveValue}
use Rattle.ns_world.specs.World.{World, stepped}
use Rattle.ns_find.specs.declared.found.Sending.TheVariants.{Plain}
use Rattle.ns_kdata.specs.Arguments.{CellIsThere}
use Rattle.ns_moves.specs.declared.site.Site.{Site}
use Rattle.ns_moves.specs.Control.{Progress, Activation, halts, charged}
use Rattle.ns_moves.specs.Sends.{Target, To, receiver_of, found_at, site_at, answered_by, sent, sent_plain}
use Rattle.ns_moves.specs.Answered.{answered}

pub send_steps : (code : CodeProgram) (activation : Activation) (target : Target) (sel : Sel) (values : List Value) (place : Option SourcePlace) (progress : Progress)
    → sent code activation target sel values place progress
    ≡ charged halts Steps (stepped progress.world) progress (answered code activation target sel values (site_at progress.world.cells place (receiver_of progress.world.cells activation target) sel))
send_steps code activation target sel values place progress = tested (nat_lt progress.world.steps progress.world.limits.steps)
  where
    heap : Heap
    heap = progress.world.cells

    site : Site
    site = site_at heap place (receiver_of heap activation target) sel

    more : World
    more = record progress.world { steps = progress.world.steps + 1 }

    tested : (b : Bool)
        → charged halts Steps (cond b (Some more) None) progress (answered_by code (found_at heap code activation target sel.0) sel (receiver_of heap activation target) values site)
        ≡ charged halts Steps (cond b (Some more) None) progress (answered code activation target sel values site)
    tested true = refl
    tested false = refl

pub plain_steps : (code : CodeProgram) (activation : Activation) (receiver : Value) (sel : Sel) (values : List Value) (place : Option SourcePlace) (progress : Progress)
    → sent_plain code receiver sel values place progress
    ≡ charged halts Steps (stepped progress.world) progress (answered code activation (To receiver Plain) sel values (site_at progress.world.cells place receiver sel))
plain_steps code activation receiver sel values place progress = send_steps code activation (To receiver Plain) sel values place progress

pub live_there : (heap : Heap) (code : CodeProgram) (value : Value) → IsLiveValue heap code value → CellIsThere heap value
live_there heap code (Ref at) live = live.0
live_there heap code Nil live = tt
live_there heap code True live = tt
live_there heap code False live = tt
live_there heap code (Int number) live = tt
live_there heap code (Sym sel) live = tt
live_there heap code (Kernel class) live = tt
