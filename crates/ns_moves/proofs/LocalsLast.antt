-- A local stands where it stood while the run goes on.
use Rattle.std.proofs.Common.{◌≡◌, ℕ, zero, suc, ◌-◌, [], ◌∷◌, refl, ap, sym, ◌∙◌, subst, Option, Some, None, Bool, true, false, cond, eqb}
use Rattle.std.specs.Prelude.{IsSome}
use Rattle.std.specs.Option.{option_map_or}
use Rattle.ns_code.specs.declared.program.CodeProgram.{CodeProgram}
use Rattle.ns_world.specs.declared.value.Value.{Value}
use Rattle.ns_world.specs.declared.value.Value.TheVariants.{Nil, True, False, Int, Sym, Kernel, Ref}
use Rattle.ns_world.specs.declared.cell.NewCell.TheVariants as new
use Rattle.ns_world.specs.Cell.{Cell, ObjectCell, ClassCell, BlockCell, EnvironmentCell, ArrayCell, TextCell, FacetCell, MirrorCell, MessageCell, shape_of}
use Rattle.ns_world.specs.Heap.{Heap, heap_size, find_cell, cell_number}
use Rattle.ns_world.specs.World.{World}
use Rattle.ns_world.specs.Later.{RunsOn}
use Rattle.ns_world.specs.Lawful.{IsLawful, IsEnvironmentOrNil, is_environment}
use Rattle.ns_world.specs.laws.Staying.{environment_stays}
use Rattle.ns_world.specs.laws.Lasting.{keeps_of, shape_lasts}
use Rattle.ns_moves.specs.Control.{Activation}
use Rattle.ns_moves.specs.Bodies.{has_environment, environment_out, parent_in}
use Rattle.ns_moves.specs.Lawful.{FitsLocal}

-- where there is a cell there is the first one
first_there : (cell : Cell) (earlier : Heap) → IsSome (find_cell (cell ∷ earlier) 0)
first_there cell [] = refl
first_there cell (next ∷ earlier) = tested (eqb 0 (heap_size (next ∷ earlier))) (first_there next earlier)
  where
    tested : (b : Bool) → IsSome (find_cell (next ∷ earlier) 0) → IsSome (cond b (Some cell) (find_cell (next ∷ earlier) 0))
    tested true some = refl
    tested false some = some

first_of : (heap : Heap) (number : ℕ) → IsSome (find_cell heap number) → IsSome (find_cell heap 0)
first_of [] number some = absurd (cc)
first_of (cell ∷ earlier) number some = first_there cell earlier

environment_there : (o : Option Cell) → is_environment o ≡ true → IsSome o
environment_there None t = absurd (cc)
environment_there (Some cell) t = refl

-- the cell of an environment, or the first one for nil, is there
cell_there : (heap : Heap) (env : Value) → IsSome (find_cell heap 0) → IsEnvironmentOrNil heap env →
    IsSome (find_cell heap (cell_number env))
cell_there heap (Ref at) first is = environment_there (find_cell heap at) is
cell_there heap Nil first is = first
cell_there heap True first is = absurd is
cell_there heap False first is = absurd is
cell_there heap (Int number) first is = absurd is
cell_there heap (Sym sel) first is = absurd is
cell_there heap (Kernel class) first is = absurd is

-- around an environment there is another, or nil
parent_is : (world : World) (code : CodeProgram) (number : ℕ) → IsLawful world code → (o : Option Cell) → find_cell world.cells number ≡ o →
    IsEnvironmentOrNil world.cells (parent_in (option_map_or shape_of o (new.Mirror Nil)))
parent_is world code number lawful (Some (EnvironmentCell parent locals)) e = (lawful.cells number (EnvironmentCell parent locals) e).0
parent_is world code number lawful None e = tt
parent_is world code number lawful (Some (ObjectCell class entries)) e = tt
parent_is world code number lawful (Some (ClassCell decl base encl holder over)) e = tt
parent_is world code number lawful (Some (BlockCell body env home receiver holder)) e = tt
parent_is world code number lawful (Some (ArrayCell items)) e = tt
parent_is world code number lawful (Some (TextCell bytes)) e = tt
parent_is world code number lawful (Some (FacetCell kind)) e = tt
parent_is world code number lawful (Some (MirrorCell shown)) e = tt
parent_is world code number lawful (Some (MessageCell sel args)) e = tt

-- The environment so many bodies out is what it was.
record StaysOut (old later : World) (env : Value) (hops : ℕ) : Type 0 where
  same : environment_out later.cells env hops ≡ environment_out old.cells env hops
  live : IsEnvironmentOrNil old.cells (environment_out old.cells env hops)

stays_out : (code : CodeProgram) (old later : World) (env : Value) (hops : ℕ) → RunsOn code old later → IsSome (find_cell old.cells 0) →
    IsEnvironmentOrNil old.cells env → StaysOut old later env hops
stays_out code old later env zero run first is = record { same = refl; live = is }
stays_out code old later env (suc hops) run first is =
    let inner = stays_out code old later env hops run first is in
    let number = cell_number (environment_out old.cells env hops) in
    record {
      same = ap (λ v. parent_in (option_map_or shape_of (find_cell later.cells (cell_number v)) (new.Mirror Nil))) inner.same
          ∙ ap parent_in (shape_lasts number code old later run (cell_there old.cells (environment_out old.cells env hops) first inner.live));
      live = parent_is old code number run.before (find_cell old.cells number) refl;
    }

pub local_lasts : (activation : Activation) (hops : ℕ) (code : CodeProgram) (old later : World) → RunsOn code old later →
    IsEnvironmentOrNil old.cells activation.env × FitsLocal old.cells code activation hops
    → IsEnvironmentOrNil later.cells activation.env × FitsLocal later.cells code activation hops
local_lasts activation hops code old later run (is, fits) =
    (environment_stays old.cells later.cells activation.env (keeps_of code old later run) is, within)
  where
    out : ℕ
    out = cond (has_environment code activation.body) hops (hops - 1)

    place : ℕ
    place = cell_number (environment_out old.cells activation.env out)

    within : FitsLocal later.cells code activation hops
    within beside =
        let was : is_environment (find_cell old.cells place) ≡ true = fits beside in
        let first = first_of old.cells place (environment_there (find_cell old.cells place) was) in
        let stays = stays_out code old later activation.env out run first is in
        subst (λ v. is_environment (find_cell later.cells (cell_number v)) ≡ true) (sym stays.same)
        (environment_stays old.cells later.cells (Ref place) (keeps_of code old later run) was)
