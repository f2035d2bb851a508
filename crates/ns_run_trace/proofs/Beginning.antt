-- A run begins with no step used, in a valid state.
use Rattle.std.proofs.Common.{◌≡◌, ℕ, ◌+◌, List, [], ◌∷◌, refl, ◌∙◌, Some, None, Bool, true, false, nat_le, if◌then◌else◌}
use Rattle.ns_base.specs.declared.limits.Limits.{Limits}
use Rattle.ns_code.specs.declared.program.CodeProgram.{CodeProgram}
use Rattle.ns_world.specs.declared.ending.LimitKind.TheVariants.{Cells}
use Rattle.ns_world.specs.declared.value.Value.{Value}
use Rattle.ns_world.specs.declared.value.Value.TheVariants.{Nil, Ref}
use Rattle.ns_world.specs.Cell.{Cell, cell_size}
use Rattle.ns_world.specs.Heap.{heap_size}
use Rattle.ns_world.specs.World.{made}
use Rattle.ns_moves.specs.Control.{Progress, After, Gives, Halts, charged}
use Rattle.ns_moves.specs.Start.{all_made, nothing_done, start_cells, start_made}
use Rattle.ns_moves.specs.State.{world_of}
use Rattle.ns_moves.specs.Starts.{started, unbegun}
use Rattle.ns_run_code.specs.Machine.{begins_with}
use Rattle.ns_run_code.specs.Run.{granted}

-- how many steps a start has used
abbrev steps_after : After → ℕ
steps_after (Gives value progress) = progress.world.steps
steps_after (Halts ending progress) = progress.world.steps

-- a cell takes none
made_steps : (cell : Cell) (last : Value) (p : Progress) (go : Progress → After) → ((q : Progress) → steps_after (go q) ≡ q.world.steps)
    → steps_after (charged Halts Cells (made p.world cell) p go) ≡ p.world.steps
made_steps cell last p go more = tested (nat_le (heap_size p.world.cells + cell_size cell) p.world.limits.cells)
  where
    tested : (b : Bool)
        → steps_after (charged Halts Cells (if b then Some (record p.world { cells = cell ∷ p.world.cells }) else None) p go) ≡ p.world.steps
    tested true = more _
    tested false = refl

all_steps : (cells : List Cell) (last : Value) (p : Progress) → steps_after (all_made cells last p) ≡ p.world.steps
all_steps [] last p = refl
all_steps (cell ∷ cells) last p =
    made_steps cell last p (all_made cells (Ref (heap_size p.world.cells))) (λ q. all_steps cells (Ref (heap_size p.world.cells)) q)

-- nor does what begins
unbegun_steps : (code : CodeProgram) (after : After) → (world_of (started code (unbegun after))).steps ≡ steps_after after
unbegun_steps code (Gives value progress) = refl
unbegun_steps code (Halts ending progress) = refl

pub begins_without_steps : (code : CodeProgram) (limits : Limits) (arguments : List (List ℕ)) → (world_of (begins_with code limits arguments)).steps ≡ 0
begins_without_steps code limits arguments =
    unbegun_steps code (start_made code granted arguments limits) ∙ all_steps (start_cells code granted arguments) Nil (nothing_done limits)
