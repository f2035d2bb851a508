-- What a machine has used that was made and started.
use Rattle.std.proofs.Common.{◌≡◌, ℕ, ◌+◌, List, [], ◌∷◌, refl, inl, inr, Some, None, Bool, true, false, nat_le, if◌then◌else◌}
use Rattle.ns_moves.specs.Control.{Progress, After, Gives, Halts, charged}
use Rattle.ns_moves.specs.Start.{all_made, nothing_done, start_cells, start_made}
use Rattle.ns_code.specs.declared.program.CodeProgram.{CodeProgram}
use Rattle.ns_facets.specs.declared.row.Grants.{Grants}
use Rattle.ns_moves.specs.Starts.{started, unbegun}
use Rattle.ns_replay.specs.Laws.{StartedCanBegin}
use Rattle.ns_replay.specs.Replay.{CanBegin}
use Rattle.ns_world.specs.Cell.{Cell, cell_size}
use Rattle.ns_world.specs.Heap.{heap_size}
use Rattle.ns_world.specs.World.{made}
use Rattle.ns_world.specs.declared.ending.LimitKind.TheVariants.{Cells}
use Rattle.ns_world.specs.declared.value.Value.{Value}
use Rattle.ns_world.specs.declared.value.Value.TheVariants.{Nil, Ref}

-- how many steps a start has used
abbrev steps_after : After → ℕ
steps_after (Gives value progress) = progress.world.steps
steps_after (Halts ending progress) = progress.world.steps

-- a cell takes none
made_steps : (cell : Cell) (p : Progress) (go : Progress → After) → ((q : Progress) → steps_after (go q) ≡ q.world.steps)
    → steps_after (charged Halts Cells (made p.world cell) p go) ≡ p.world.steps
made_steps cell p go more = tested (nat_le (heap_size p.world.cells + cell_size cell) p.world.limits.cells)
  where
    tested : (b : Bool)
        → steps_after (charged Halts Cells (if b then Some (record p.world { cells = cell ∷ p.world.cells }) else None) p go) ≡ p.world.steps
    tested true = more _
    tested false = refl

all_steps : (cells : List Cell) (last : Value) (p : Progress) → steps_after (all_made cells last p) ≡ p.world.steps
all_steps [] last p = refl
all_steps (cell ∷ cells) last p =
    made_steps cell p (all_made cells (Ref (heap_size p.world.cells))) (λ q. all_steps cells (Ref (heap_size p.world.cells)) q)

-- So what begins can be replayed.
begins : (code : CodeProgram) (after : After) → steps_after after ≡ 0 → CanBegin (started code (unbegun after))
begins code (Gives value progress) none = record { unused = none; goes = inl refl }
begins code (Halts ending progress) none = record { unused = none; goes = inr tt }

pub started_begins : (code : CodeProgram) (grants : Grants) → StartedCanBegin code grants
started_begins code grants limits arguments =
    begins code (start_made code grants arguments limits) (all_steps (start_cells code grants arguments) Nil (nothing_done limits))
