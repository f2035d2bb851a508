-- The limits of a new machine are those that it was given.
use Rattle.std.proofs.Common.{◌≡◌, ℕ, ◌+◌, nat_le, cond, List, [], ◌∷◌, Bool, true, false, Some, None, refl}
use Rattle.ns_base.specs.declared.limits.Limits.{Limits}
use Rattle.ns_code.specs.declared.program.CodeProgram.{CodeProgram}
use Rattle.ns_facets.specs.declared.row.Grants.{Grants}
use Rattle.ns_world.specs.Cell.{Cell, cell_size}
use Rattle.ns_world.specs.Heap.{heap_size}
use Rattle.ns_world.specs.World.{World}
use Rattle.ns_world.specs.declared.ending.LimitKind.TheVariants.{Cells}
use Rattle.ns_world.specs.declared.value.Value.{Value}
use Rattle.ns_world.specs.declared.value.Value.TheVariants.{Nil, Ref}
use Rattle.ns_moves.specs.Control.{After, Gives, Halts, Progress, charged, in_world}
use Rattle.ns_moves.specs.Start.{all_made, nothing_done, start_cells, start_made}
use Rattle.ns_moves.specs.Starts.{new_machine, unbegun}
use Rattle.ns_moves.specs.State.{world_of}

-- all that an action leaves has these limits
abbrev HasLimits : Limits → After → Type 0
HasLimits limits (Gives value p) = p.world.limits ≡ limits
HasLimits limits (Halts ending p) = p.world.limits ≡ limits

all_limits : (limits : Limits) (cells : List Cell) (last : Value) (p : Progress) → p.world.limits ≡ limits → HasLimits limits (all_made cells last p)
all_limits limits [] last p e = e
all_limits limits (cell ∷ cells) last p e =
    fits (nat_le (heap_size p.world.cells + cell_size cell) p.world.limits.cells) (λ q f. all_limits limits cells (Ref (heap_size p.world.cells)) q f)
  where
    next : World
    next = record p.world { cells = cell ∷ p.world.cells }

    fits : (b : Bool) → ((q : Progress) → q.world.limits ≡ limits → HasLimits limits (all_made cells (Ref (heap_size p.world.cells)) q))
        → HasLimits limits (charged Halts Cells (cond b (Some next) None) p (all_made cells (Ref (heap_size p.world.cells))))
    fits true goes = goes (in_world p next) e
    fits false goes = e

unbegun_limits : (limits : Limits) (after : After) → HasLimits limits after → (world_of (unbegun after)).limits ≡ limits
unbegun_limits limits (Gives array p) e = e
unbegun_limits limits (Halts ending p) e = e

pub new_limits : (code : CodeProgram) (limits : Limits) (grants : Grants) (arguments : List (List ℕ)) → (world_of (new_machine code limits grants arguments)).limits ≡ limits
new_limits code limits grants arguments =
    unbegun_limits limits (start_made code grants arguments limits) (all_limits limits (start_cells code grants arguments) Nil (nothing_done limits) refl)
