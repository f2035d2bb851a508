-- What blocks and the methods that evaluate them leave.
use Rattle.std.proofs.Common.{◌≡◌, List, [], ◌∷◌, length, arith, Bool, true, false, cond, eqb}
use Rattle.std.specs.Prelude.{pos, nat_lt}
use Rattle.ns_code.specs.declared.program.CodeProgram.{CodeProgram}
use Rattle.ns_world.specs.declared.value.Value.{Value}
use Rattle.ns_world.specs.declared.value.Value.TheVariants.{Ref}
use Rattle.ns_world.specs.declared.ending.Kind.TheVariants.{WrongArity, WrongKind}
use Rattle.ns_world.specs.declared.ending.LimitKind.TheVariants.{Steps, Depth, Cells}
use Rattle.ns_world.specs.declared.cell.NewCell.{NewCell}
use Rattle.ns_world.specs.declared.cell.NewCell.TheVariants as new
use Rattle.ns_world.specs.Cell.{Cell, shape_of}
use Rattle.ns_world.specs.Heap.{heap_size}
use Rattle.ns_world.specs.World.{made, stepped, entered, left}
use Rattle.ns_world.specs.Later.{IsLater, MayCome}
use Rattle.ns_world.specs.laws.Leading.{later_same, later_made}
use Rattle.ns_kdata.specs.Leading.{is_common}
use Rattle.ns_kdata.specs.Arguments.{is_array, items_of, shape_of_value}
use Rattle.ns_world.specs.declared.kernel_parts.KMethod.{KMethod}
use Rattle.ns_kcode.specs.declared.state.KState.{KState}
use Rattle.ns_kcode.specs.declared.state.KAction.{KAction}
use Rattle.ns_kcode.specs.declared.state.KAction.TheVariants as action
use Rattle.ns_kcode.specs.Next.{next}
use Rattle.ns_kcode.specs.Rows.{beginning}
use Rattle.ns_moves.specs.declared.site.Site.{Site}
use Rattle.ns_moves.specs.Control.{Progress, in_world, FromBody, Gives, Halts, Enter, Evaluate, Begin, Waiting, Waits, Finishes, halts, fails, charged}
use Rattle.ns_moves.specs.Bodies.{parameters_of, opened}
use Rattle.ns_moves.specs.Blocks.{new_cell, block_entered, evaluated, value_with_arguments, has_arguments, turns_of, method_begun, listed, waiting, turned, item_at, acted, method_next}
use Rattle.ns_moves.specs.Onward.{Onward, after_reached, reached, waiting_reached}
use Rattle.ns_moves.specs.laws.Growing.{making_grows, step_moves, leaving_moves}
use Rattle.ns_moves.specs.laws.Onward.{Going, onward_of, onward_not, onward_on, onward_in, charged_all, charge_onward, frame_onward, after_cells_onward, opened_onward}

cell_onward : (named : List Value) (cell : Cell) (progress : Progress) → MayCome progress.world.cells cell →
    is_common (shape_of cell) ≡ true
    → Going named progress (after_reached (new_cell cell progress))
cell_onward named cell progress may common =
    after_cells_onward named cell progress (Gives (Ref (heap_size progress.world.cells))) may common (λ next. onward_not named next)

-- any cell at all leaves the cells that were there
pub any_cell_onward : (named : List Value) (cell : Cell) (progress : Progress) →
    Onward named progress (after_reached (new_cell cell progress))
any_cell_onward named cell progress =
    charged_all (λ a. Onward named progress (after_reached a)) Halts Cells (made progress.world cell) progress (Gives (Ref (heap_size progress.world.cells)))
    (onward_of named progress progress (onward_not named progress)) (λ world e. record { world = making_grows named progress.world world cell e; begun = omega arith })

-- and one that may come leads on
pub any_cell_later : (cell : Cell) (progress : Progress) → MayCome progress.world.cells cell →
    IsLater progress.world (after_reached (new_cell cell progress)).world
any_cell_later cell progress may =
    charged_all (λ a. IsLater progress.world (after_reached a).world) Halts Cells (made progress.world cell) progress (Gives (Ref (heap_size progress.world.cells)))
    (later_same progress.world) (λ world e. later_made progress.world world cell may e)

block_onward : (named : List Value) (code : CodeProgram) (cell : NewCell) (arguments : List Value) (site : Site) (progress : Progress) →
    Going named progress (reached (block_entered code cell arguments site progress))
block_onward named code (new.Block body env home receiver holder) arguments site progress =
    tested (eqb (length arguments) (parameters_of code body))
  where
    tested : (b : Bool) → Going named progress (reached (cond b (charged halts Steps (stepped progress.world) progress λ progress.
        charged halts Depth (entered progress.world) progress
        (opened code halts (Enter FromBody) (record { self = receiver; holder = holder; body = body; home = home; env = env; site = site }) arguments)) (fails WrongArity site progress)))
    tested true = charge_onward named Steps (stepped progress.world) progress _ (λ world e. step_moves named progress.world world e)
        (λ world e. frame_onward named (in_world progress world) (opened code halts (Enter FromBody) _ arguments)
        (λ next. opened_onward named code (Enter FromBody) _ arguments next (λ running locals last. onward_not named last)))
    tested false = onward_not named progress
block_onward named code (new.Object class words) arguments site progress = onward_not named progress
block_onward named code (new.Class decl base encl holder over) arguments site progress = onward_not named progress
block_onward named code (new.Environment parent locals) arguments site progress = onward_not named progress
block_onward named code (new.Array size) arguments site progress = onward_not named progress
block_onward named code (new.Text bytes) arguments site progress = onward_not named progress
block_onward named code (new.Facet kind) arguments site progress = onward_not named progress
block_onward named code (new.Mirror shown) arguments site progress = onward_not named progress
block_onward named code (new.Message sel args) arguments site progress = onward_not named progress

-- The evaluation of a block goes onward and changes no cell.
pub evaluated_onward :
    (named : List Value) (code : CodeProgram) (block : Value) (arguments : List Value) (site : Site) (progress : Progress) →
    Going named progress (reached (evaluated code block arguments site progress))
evaluated_onward named code block arguments site progress =
    block_onward named code (shape_of_value progress.world.cells block) arguments site progress

pub array_onward : (named : List Value) (block array : Value) (site : Site) (progress : Progress) →
    Going named progress (reached (value_with_arguments block array site progress))
array_onward named block array site progress =
    tested (is_array progress.world.cells array) (nat_lt 255 (length (items_of progress.world.cells array)))
  where
    tested : (b c : Bool) → Going named progress (reached (cond b (cond c (fails WrongArity site progress) (Evaluate block (items_of progress.world.cells array) site progress)) (fails WrongKind site progress)))
    tested true true = onward_not named progress
    tested true false = onward_not named progress
    tested false c = onward_not named progress

pub begun_onward : (named : List Value) (method : KMethod) (receiver first second : Value) (site : Site) (progress : Progress) →
    Going named progress (reached (method_begun method receiver first second site progress))
begun_onward named method receiver first second site progress = tested (has_arguments progress.world.cells method first second)
  where
    tested : (b : Bool) → Going named progress (reached (cond b
        (charged halts Depth (entered progress.world) progress (Begin method (beginning receiver first second (pos (turns_of progress.world.cells method receiver))) site)) (fails WrongKind site progress)))
    tested true = frame_onward named progress (Begin method (beginning receiver first second (pos (turns_of progress.world.cells method receiver))) site) (λ next. onward_not named next)
    tested false = onward_not named progress

-- a turn of a loop
turned_onward : (named : List Value) (turn : Bool) (progress : Progress) (go : Progress → Waiting) →
    ((next : Progress) → Going named next (waiting_reached (go next))) → Going named progress (waiting_reached (turned turn progress go))
turned_onward named true progress go goes =
    charged_all (λ w. Going named progress (waiting_reached w)) (λ ending progress. Finishes (Halts ending progress)) Steps (stepped progress.world) progress go (onward_not named progress)
    (λ world e. onward_on named progress (in_world progress world) (waiting_reached (go (in_world progress world))) (onward_in named progress world (step_moves named progress.world world e)) (goes (in_world progress world)))
turned_onward named false progress go goes = goes progress

acted_onward : (named : List Value) (a : KAction) (state : KState) (site : Site) (progress : Progress) →
    Going named progress (waiting_reached (acted a state site progress))
acted_onward named (action.Evaluate block argument turn count) state site progress =
    turned_onward named turn progress (Waits block (listed argument) (waiting state count)) (λ next. onward_not named next)
acted_onward named (action.EvaluateItem block item count) state site progress =
    turned_onward named true progress (λ progress. Waits block (item_at progress.world.cells state.receiver item ∷ []) (waiting state count) progress) (λ next. onward_not named next)
acted_onward named (action.Answer value) state site progress =
    onward_in named progress (left progress.world) (leaving_moves named progress.world)
acted_onward named (action.Fail kind) state site progress = onward_not named progress

-- An action of a method of the kernel goes onward and changes no cell.
pub next_onward : (named : List Value) (method : KMethod) (state : KState) (site : Site) (progress : Progress) →
    Going named progress (waiting_reached (method_next method state site progress))
next_onward named method state site progress = acted_onward named (next method state) state site progress
