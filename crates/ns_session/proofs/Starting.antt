-- Where the run of an application starts.
use Rattle.std.proofs.Common.{◌≡◌, ◌+◌, List, [], ◌∷◌, refl, ap, ◌∙◌, inl, inr, arith, Bool, true, false, cond, Some, None}
use Rattle.std.specs.Prelude.{nat_le}
use Rattle.ns_base.specs.declared.limits.Limits.{Limits}
use Rattle.ns_code.specs.declared.program.CodeProgram.{CodeProgram}
use Rattle.ns_world.specs.declared.value.Value.{Value}
use Rattle.ns_world.specs.declared.value.Value.TheVariants.{Ref, Nil}
use Rattle.ns_world.specs.declared.ending.LimitKind.TheVariants.{Cells}
use Rattle.ns_world.specs.Cell.{Cell, cell_size}
use Rattle.ns_world.specs.Heap.{heap_size}
use Rattle.ns_world.specs.World.{World, made}
use Rattle.ns_moves.specs.Control.{Progress, in_world, After, Gives, Halts, charged}
use Rattle.ns_moves.specs.Start.{start_cells, nothing_done, all_made, start_made}
use Rattle.ns_moves.specs.State.{State, world_of}
use Rattle.ns_moves.specs.Starts.{new_machine, unbegun, started}
use Rattle.ns_moves.specs.Beginning.{NewIsValid, StartKeepsValid}
use Rattle.ns_moves.specs.Turn.{is_still, one_if}
use Rattle.ns_moves.specs.Charging.{will_charge}
use Rattle.ns_moves.specs.Valid.{Valid}
use Rattle.ns_moves.specs.laws.Still.{can_move, moves_on}
use Rattle.ns_session.specs.Member.{Application, MayStart, start_of, taken, IsAlone}
use Rattle.ns_session.proofs.Counting.{Known, used}

-- ---- no step was used

-- No step was used, within these limits.
record IsUnused (limits : Limits) (p : Progress) : Type 0 where
  none : p.world.steps ≡ 0
  limits_are : p.world.limits ≡ limits

abbrev LeavesUnused : Limits → After → Type 0
LeavesUnused limits (Gives value p) = IsUnused limits p
LeavesUnused limits (Halts ending p) = IsUnused limits p

made_unused : (limits : Limits) (p : Progress) (cell : Cell) (go : Progress → After) → IsUnused limits p
    → ((q : Progress) → IsUnused limits q → LeavesUnused limits (go q)) → LeavesUnused limits (charged Halts Cells (made p.world cell) p go)
made_unused limits p cell go e goes = tested (nat_le (heap_size p.world.cells + cell_size cell) p.world.limits.cells)
  where
    next : World
    next = record p.world { cells = cell ∷ p.world.cells }

    tested : (b : Bool) → LeavesUnused limits (charged Halts Cells (cond b (Some next) None) p go)
    tested true = goes (in_world p next) (record { none = e.none; limits_are = e.limits_are })
    tested false = e

all_unused : (limits : Limits) (cells : List Cell) (last : Value) (p : Progress) → IsUnused limits p →
    LeavesUnused limits (all_made cells last p)
all_unused limits [] last p e = e
all_unused limits (cell ∷ cells) last p e =
    made_unused limits p cell (all_made cells (Ref (heap_size p.world.cells))) e (λ q f. all_unused limits cells (Ref (heap_size p.world.cells)) q f)

-- No step was used by a state, within these limits.
pub record StartsUnused (limits : Limits) (s : State) : Type 0 where
  pub none : used s ≡ 0
  pub limits_are : (world_of s).limits ≡ limits

started_unused : (limits : Limits) (code : CodeProgram) (after : After) → LeavesUnused limits after →
    StartsUnused limits (started code (unbegun after))
started_unused limits code (Gives array p) e = record { none = e.none; limits_are = e.limits_are }
started_unused limits code (Halts ending p) e = record { none = e.none; limits_are = e.limits_are }

pub start_unused : (application : Application) → StartsUnused application.limits (start_of application)
start_unused application =
    started_unused application.limits application.code (start_made application.code application.grants [] application.limits)
    (all_unused application.limits (start_cells application.code application.grants []) Nil (nothing_done application.limits)
    (record { none = refl; limits_are = refl }))

-- ---- it is valid, and it waits for a step or has ended

pub start_valid : (application : Application) → NewIsValid application.code application.grants →
    StartKeepsValid application.code application.grants → MayStart application
    → Valid application.code application.grants (start_of application)
start_valid application new start may =
    start (new_machine application.code application.limits application.grants []) (new application.limits [] may.sound may.fits may.range)

waits : (code : CodeProgram) (after : After) → is_still (started code (unbegun after)) ≡ false →
    will_charge code (started code (unbegun after)) ≡ true
waits code (Gives array p) e = refl
waits code (Halts ending p) e = absurd (cc)

pub starts_alone : (application : Application) → Known application.code application.grants →
    Valid application.code application.grants (start_of application)
    → IsAlone application (start_of application)
starts_alone application known valid = by_still (is_still (start_of application)) refl
  where
    by_still : (b : Bool) → is_still (start_of application) ≡ b → IsAlone application (start_of application)
    by_still true e =
        let all : 0 + taken (start_of application) ≡ taken (start_of application) = omega arith in
        inr (record { count = 0; spared = taken (start_of application); is = refl; charged = all; still = e })
    by_still false e =
        let none = (start_unused application).none in
        let going = ap (λ b. used (start_of application) + one_if b 0) (moves_on (start_of application) e) in
        let all : 0 ≡ taken (start_of application) = omega (arith, none, going) in
        let can = can_move application.code application.grants known.keeps (start_of application) valid in
        inl (record {
          count = 0;
          is = refl;
          charged = all;
          next = known.test (start_of application) can
              ∙ waits application.code (start_made application.code application.grants [] application.limits) e;
        })
