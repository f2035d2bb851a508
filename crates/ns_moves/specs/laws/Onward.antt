-- No action lowers a counter but depth, or changes a cell but those that it names.
use Rattle.std.proofs.Common.{◌≡◌, ◌≤◌, List, [], refl, arith, Option, Some, None, Bool, true, false, cond}
use Rattle.ns_code.specs.declared.program.CodeProgram.{CodeProgram}
use Rattle.ns_world.specs.declared.value.Value.{Value}
use Rattle.ns_world.specs.declared.ending.Ending.{Ending}
use Rattle.ns_world.specs.declared.ending.Ending.TheVariants.{Limit}
use Rattle.ns_world.specs.declared.ending.LimitKind.{LimitKind}
use Rattle.ns_world.specs.declared.ending.LimitKind.TheVariants.{Depth, Cells}
use Rattle.ns_world.specs.Cell.{Cell, EnvironmentCell, shape_of}
use Rattle.ns_world.specs.Heap.{Heap, heap_size, has_superclass}
use Rattle.ns_world.specs.Seek.{may_be_first}
use Rattle.ns_world.specs.Later.{IsLater, MayCome}
use Rattle.ns_world.specs.World.{World, made, entered}
use Rattle.ns_kdata.specs.Leading.{is_common}
use Rattle.ns_moves.specs.Control.{Progress, in_world, Activation, After, Halts, Control, charged, halts}
use Rattle.ns_moves.specs.Bodies.{has_environment, first_locals, opened}
use Rattle.ns_moves.specs.Onward.{Onward, after_reached, reached}
use Rattle.ns_moves.specs.laws.Growing.{Moving, moving_not, moving_on, making_moves, frame_moves}

-- What an action leaves: a world that has grown and is later, and no method activation less.
pub record Going (named : List Value) (old new : Progress) : Type 0 where
  pub world : Moving named old.world new.world
  pub begun : old.begun ≤ new.begun

pub onward_of : (named : List Value) (old new : Progress) → Going named old new → Onward named old new
onward_of named old new going = record { world = going.world.grown; begun = going.begun }

later_of : (named : List Value) (old new : Progress) → Going named old new → IsLater old.world new.world
later_of named old new going = going.world.later

-- A cell that has its superclass and isn't a first one may come.
pub may_come : (heap : Heap) (cell : Cell) → has_superclass heap cell ≡ true → may_be_first heap (shape_of cell) ≡ false → MayCome heap cell
may_come heap cell superclass no_first = record { superclass = superclass; no_first = no_first }

pub onward_not : (named : List Value) (progress : Progress) → Going named progress progress
onward_not named progress = record { world = moving_not named progress.world; begun = omega arith }

pub onward_on : (named : List Value) (first second third : Progress) → Going named first second → Going named second third →
    Going named first third
onward_on named first second third one two = record {
  world = moving_on named first.world second.world third.world one.world two.world;
  begun = omega (arith, one.begun, two.begun);
}

-- another world that has grown
pub onward_in : (named : List Value) (progress : Progress) (world : World) → Moving named progress.world world →
    Going named progress (in_world progress world)
onward_in named progress world grown = record { world = grown; begun = omega arith }

-- a charge: what holds at its end and of what goes on holds of it
pub charged_all : {A : Type 0} (P : A → Type 0) (stop : Ending → Progress → A) (limit : LimitKind) (o : Option World) (progress : Progress) (go : Progress → A)
    → P (stop (Limit limit) progress) → ((world : World) → o ≡ Some world → P (go (in_world progress world))) → P (charged stop limit o progress go)
charged_all P stop limit (Some world) progress go stops goes = goes world refl
charged_all P stop limit None progress go stops goes = stops

-- a body that begins
pub opened_all : {A : Type 0} (P : A → Type 0) (code : CodeProgram) (stop : Ending → Progress → A) (go : Activation → List Value → Progress → A) (activation : Activation) (arguments : List Value) (progress : Progress)
    → P (stop (Limit Cells) progress) → ((running : Activation) (locals : List Value) (world : World) → ((named : List Value) → Moving named progress.world world) → P (go running locals (in_world progress world)))
    → P (opened code stop go activation arguments progress)
opened_all P code stop go activation arguments progress stops goes = tested (has_environment code activation.body)
  where
    locals : List Value
    locals = first_locals code activation.body arguments

    inner : Activation
    inner = record activation { env = Rattle.ns_world.specs.declared.value.Value.TheVariants.Ref (heap_size progress.world.cells) }

    tested : (b : Bool) → P (cond b (charged stop Cells (made progress.world (EnvironmentCell activation.env locals)) progress (go inner [])) (go activation locals progress))
    tested true = charged_all P stop Cells (made progress.world (EnvironmentCell activation.env locals)) progress (go inner []) stops
        (λ world e. goes inner [] world (λ named. making_moves named progress.world world (EnvironmentCell activation.env locals) (may_come progress.world.cells (EnvironmentCell activation.env locals) refl refl) refl e))
    tested false = goes activation locals progress.world (λ named. moving_not named progress.world)

-- a charge whose world has grown
pub charge_onward : (named : List Value) (limit : LimitKind) (o : Option World) (progress : Progress) (go : Progress → Control) →
    ((world : World) → o ≡ Some world → Moving named progress.world world)
    → ((world : World) → o ≡ Some world → Going named (in_world progress world) (reached (go (in_world progress world)))) → Going named progress (reached (charged halts limit o progress go))
charge_onward named limit o progress go grows goes =
    charged_all (λ c. Going named progress (reached c)) halts limit o progress go (onward_not named progress)
    (λ world e. onward_on named progress (in_world progress world) (reached (go (in_world progress world))) (onward_in named progress world (grows world e)) (goes world e))

pub frame_onward : (named : List Value) (progress : Progress) (go : Progress → Control)
    → ((next : Progress) → Going named next (reached (go next))) → Going named progress (reached (charged halts Depth (entered progress.world) progress go))
frame_onward named progress go goes =
    charge_onward named Depth (entered progress.world) progress go (λ world e. frame_moves named progress.world world e) (λ world e. goes (in_world progress world))

pub cells_onward : (named : List Value) (cell : Cell) (progress : Progress) (go : Progress → Control) → MayCome progress.world.cells cell →
    is_common (shape_of cell) ≡ true
    → ((next : Progress) → Going named next (reached (go next))) → Going named progress (reached (charged halts Cells (made progress.world cell) progress go))
cells_onward named cell progress go may common goes =
    charge_onward named Cells (made progress.world cell) progress go (λ world e. making_moves named progress.world world cell may common e) (λ world e. goes (in_world progress world))

-- the same where a value comes next
pub after_cells_onward : (named : List Value) (cell : Cell) (progress : Progress) (go : Progress → After) →
    MayCome progress.world.cells cell → is_common (shape_of cell) ≡ true
    → ((next : Progress) → Going named next (after_reached (go next))) → Going named progress (after_reached (charged Halts Cells (made progress.world cell) progress go))
after_cells_onward named cell progress go may common goes =
    charged_all (λ a. Going named progress (after_reached a)) Halts Cells (made progress.world cell) progress go (onward_not named progress)
    (λ world e. onward_on named progress (in_world progress world) (after_reached (go (in_world progress world))) (onward_in named progress world (making_moves named progress.world world cell may common e)) (goes (in_world progress world)))

-- a body that is entered
pub opened_onward : (named : List Value) (code : CodeProgram) (go : Activation → List Value → Progress → Control) (activation : Activation) (arguments : List Value) (progress : Progress)
    → ((running : Activation) (locals : List Value) (next : Progress) → Going named next (reached (go running locals next))) → Going named progress (reached (opened code halts go activation arguments progress))
opened_onward named code go activation arguments progress goes =
    opened_all (λ c. Going named progress (reached c)) code halts go activation arguments progress (onward_not named progress)
    (λ running locals world grows. onward_on named progress (in_world progress world) (reached (go running locals (in_world progress world))) (onward_in named progress world (grows named)) (goes running locals (in_world progress world)))
