-- Bodies that begin in a lawful run.
use Rattle.std.proofs.Common.{◌≡◌, ℕ, zero, suc, ◌-◌, ◌<◌, get_or, List, [], ◌∷◌, replicate, refl, ap, ◌∙◌, arith, Some, All, Bool, true, false, cond}
use Rattle.std.proofs.lemmas.List.Elements.{All-append, All-replicate}
use Rattle.ns_code.specs.declared.program.CodeProgram.{CodeProgram}
use Rattle.ns_world.specs.declared.value.Value.{Value}
use Rattle.ns_world.specs.declared.value.Value.TheVariants.{Nil, Ref}
use Rattle.ns_world.specs.declared.ending.Ending.{Ending}
use Rattle.ns_world.specs.declared.ending.Ending.TheVariants.{Limit}
use Rattle.ns_world.specs.declared.ending.LimitKind.TheVariants.{Depth, Cells}
use Rattle.ns_world.specs.Cell.{Cell, EnvironmentCell}
use Rattle.ns_world.specs.Heap.{Heap, heap_size, find_cell}
use Rattle.ns_world.specs.World.{World, made, entered}
use Rattle.ns_world.specs.Starts.{is_receiver_cell}
use Rattle.ns_world.specs.Lawful.{IsLawful, IsLiveValue}
use Rattle.ns_world.specs.laws.Changing.{found_new}
use Rattle.ns_kdata.specs.laws.Filled.{filled_keeps}
use Rattle.ns_moves.specs.Control.{Progress, in_world, Activation, Control, charged, halts}
use Rattle.ns_moves.specs.Bodies.{locals_of, parameters_of, has_environment, first_locals, opened}
use Rattle.ns_moves.specs.Lawful.{LawfulRun, LawfulControl, LiveActivation}
use Rattle.ns_moves.specs.laws.Onward.{charged_all}
use Rattle.ns_moves.specs.lemmas.Later.{Later, later_not, later_made, later_entered}
use Rattle.ns_world.specs.laws.Making.{made_cells}

-- the first locals of a body are live where its arguments are
first_live : (heap : Heap) (code : CodeProgram) (body : ℕ) (arguments : List Value) → All (IsLiveValue heap code) arguments →
    All (IsLiveValue heap code) (first_locals code body arguments)
first_live heap code body arguments live =
    All-append (IsLiveValue heap code) arguments (replicate (locals_of code body - parameters_of code body) Nil) live
    (All-replicate (IsLiveValue heap code) (locals_of code body - parameters_of code body) Nil (tt, refl))

-- one live value
pub one_live : (heap : Heap) (code : CodeProgram) (v : Value) → IsLiveValue heap code v → All (IsLiveValue heap code) (v ∷ [])
one_live heap code v live = λ i d h. one i d h
  where
    one : (i : ℕ) (d : Value) → i < 1 → IsLiveValue heap code (get_or (v ∷ []) i d)
    one zero d h = live
    one (suc i) d h = absurd (omega (arith, h))

-- a new cell is found
pub new_found : (old new : World) (cell : Cell) → made old cell ≡ Some new → find_cell new.cells (heap_size old.cells) ≡ Some cell
new_found old new cell e = ap (λ cells. find_cell cells (heap_size old.cells)) (made_cells old new cell e) ∙ found_new old.cells cell

-- and is live, where it is no environment
pub new_live : (code : CodeProgram) (old new : World) (cell : Cell) → is_receiver_cell (Some cell) ≡ true → made old cell ≡ Some new →
    IsLiveValue new.cells code (Ref (heap_size old.cells))
new_live code old new cell receives e = let is = new_found old new cell e in (rw is refl, rw is receives)

-- a frame that is charged
pub frame_lawful : (code : CodeProgram) (progress : Progress) (go : Progress → Control) → LawfulRun code progress
    → ((world : World) → Later code progress.world world → LawfulControl code (go (in_world progress world))) → LawfulControl code (charged halts Depth (entered progress.world) progress go)
frame_lawful code progress go lawful goes =
    charged_all (LawfulControl code) halts Depth (entered progress.world) progress go lawful (λ world e. goes world (later_entered code progress.world world lawful e))

-- A body begins: its environment and its locals are live, and self is what it was.
pub opened_lawful : {A : Type 0} (P : A → Type 0) (code : CodeProgram) (stop : Ending → Progress → A) (go : Activation → List Value → Progress → A) (activation : Activation) (arguments : List Value) (progress : Progress)
    → LawfulRun code progress → LiveActivation progress.world.cells code activation arguments → P (stop (Limit Cells) progress)
    → ((running : Activation) (locals : List Value) (world : World) → Later code progress.world world → LiveActivation world.cells code running locals → P (go running locals (in_world progress world)))
    → P (opened code stop go activation arguments progress)
opened_lawful P code stop go activation arguments progress lawful live stops goes = tested (has_environment code activation.body)
  where
    locals : List Value
    locals = first_locals code activation.body arguments

    inner : Activation
    inner = record activation { env = Ref (heap_size progress.world.cells) }

    fine : All (IsLiveValue progress.world.cells code) locals
    fine = first_live progress.world.cells code activation.body arguments live.locals

    within : (world : World) → made progress.world (EnvironmentCell activation.env locals) ≡ Some world → P (go inner [] (in_world progress world))
    within world e =
        let after : IsLawful world code = filled_keeps progress.world world code (EnvironmentCell activation.env locals) lawful refl live.env fine e in
        let later = later_made code progress.world world (EnvironmentCell activation.env locals) lawful after e in
        let is = new_found progress.world world (EnvironmentCell activation.env locals) e in
        goes inner [] world later (record { self = later.live activation.self live.self; env = rw is refl; locals = λ i d h. absurd (omega (arith, h)) })

    tested : (b : Bool) → P (cond b (charged stop Cells (made progress.world (EnvironmentCell activation.env locals)) progress (go inner [])) (go activation locals progress))
    tested true = charged_all P stop Cells (made progress.world (EnvironmentCell activation.env locals)) progress (go inner []) stops (λ world e. within world e)
    tested false = goes activation locals progress.world (later_not code progress.world lawful) (record { self = live.self; env = live.env; locals = fine })
