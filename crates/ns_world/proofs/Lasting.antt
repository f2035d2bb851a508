-- What holds of a lawful world of a run holds of each later one.
use Rattle.std.proofs.Common.{◌≡◌, ℕ, [], refl, ap, sym, ◌∙◌, Option, Some, None, IsSome, is_some, Bool, true, false, cond, eqb, ◌||◌}
use Rattle.std.specs.Option.{option_map_or}
use Rattle.ns_code.specs.declared.program.CodeProgram.{CodeProgram}
use Rattle.ns_world.specs.declared.value.Value.{Value}
use Rattle.ns_world.specs.declared.value.Value.TheVariants.{Nil, True, False, Int, Sym, Kernel, Ref}
use Rattle.ns_world.specs.declared.cell.NewCell.TheVariants.{Mirror}
use Rattle.ns_world.specs.declared.kernel.Start.{Start}
use Rattle.ns_world.specs.declared.kernel.Start.TheVariants as start
use Rattle.ns_world.specs.declared.kernel_class.KernelRow.TheVariants as row
use Rattle.ns_world.specs.declared.kernel.ClassName.TheVariants as name
use Rattle.ns_world.specs.Cell.{Cell, shape_of, cell_bytes}
use Rattle.ns_world.specs.Heap.{find_cell, is_class, is_chain_start, chain_of, bytes_at, no_class}
use Rattle.ns_world.specs.Layout.{layout_of}
use Rattle.ns_world.specs.Starts.{start_of, start_of_cell, has_class, class_name_at, declaration_in}
use Rattle.ns_world.specs.World.{World}
use Rattle.ns_world.specs.Lawful.{IsLiveValue}
use Rattle.ns_world.specs.Later.{RunsOn}
use Rattle.ns_world.specs.laws.Classes.{start_stays, layout_stays}
use Rattle.ns_world.specs.laws.Leading.{class_same}
use Rattle.ns_world.specs.laws.Lasting.{keeps_of, shape_lasts}

-- ---- cells

pub there_lasts : (number : ℕ) (code : CodeProgram) (old new : World) → RunsOn code old new → IsSome (find_cell old.cells number) →
    IsSome (find_cell new.cells number)
there_lasts number code old new run h = found (find_cell old.cells number) refl h
  where
    found : (o : Option Cell) → find_cell old.cells number ≡ o → IsSome o → IsSome (find_cell new.cells number)
    found None e h = absurd (cc)
    found (Some cell) e h = ap is_some (run.later.cells.cells number cell e).there

pub bytes_last : (number : ℕ) (code : CodeProgram) (old new : World) → RunsOn code old new → IsSome (find_cell old.cells number) →
    bytes_at new.cells number ≡ bytes_at old.cells number
bytes_last number code old new run h = found (find_cell old.cells number) refl h
  where
    found : (o : Option Cell) → find_cell old.cells number ≡ o → IsSome o → bytes_at new.cells number ≡ bytes_at old.cells number
    found None e h = absurd (cc)
    found (Some cell) e h =
        let s = run.later.cells.cells number cell e in
        ap (λ o. option_map_or cell_bytes o []) s.there ∙ (s.bytes ∙ ap (λ o. option_map_or cell_bytes o []) (sym e))

pub start_lasts : (value : Value) (code : CodeProgram) (old new : World) → RunsOn code old new → IsLiveValue old.cells code value →
    start_of new.cells value ≡ start_of old.cells value
start_lasts (Ref at) code old new run live = ap (λ shape. start_of_cell shape at) (shape_lasts at code old new run live.0)
start_lasts Nil code old new run live = refl
start_lasts True code old new run live = refl
start_lasts False code old new run live = refl
start_lasts (Int number) code old new run live = refl
start_lasts (Sym sel) code old new run live = refl
start_lasts (Kernel class) code old new run live = refl

-- a class keeps its name, and so does none
pub name_lasts : (from : Start) (code : CodeProgram) (old new : World) → RunsOn code old new → has_class old.cells from ≡ true →
    class_name_at new.cells from ≡ class_name_at old.cells from
name_lasts (start.Instance class) code old new run s = tested (is_class (find_cell old.cells class)) refl s
  where
    tested : (b : Bool) → is_class (find_cell old.cells class) ≡ b → (b || eqb class no_class) ≡ true → class_name_at new.cells (start.Instance class) ≡ class_name_at old.cells (start.Instance class)
    tested true e s =
        ap (λ o. cond (eqb class no_class) (name.Kernel row.Object) (name.Declared (declaration_in (option_map_or shape_of o (Mirror Nil))))) (class_same old.cells new.cells class run.later.cells e)
    tested false e s = rw s refl
name_lasts (start.ClassSide class factory) code old new run s =
    ap (λ o. name.ClassOf (declaration_in (option_map_or shape_of o (Mirror Nil)))) (class_same old.cells new.cells class run.later.cells s)
name_lasts (start.Kernel named) code old new run s = refl

pub chain_start_lasts : (class : ℕ) (code : CodeProgram) (old new : World) → RunsOn code old new → is_chain_start old.cells class ≡ true →
    is_chain_start new.cells class ≡ true
chain_start_lasts class code old new run s = start_stays old.cells new.cells class (keeps_of code old new run).same s

pub chain_lasts : (class : ℕ) (code : CodeProgram) (old new : World) → RunsOn code old new → is_chain_start old.cells class ≡ true →
    chain_of new.cells class ≡ chain_of old.cells class
chain_lasts class code old new run s = (keeps_of code old new run).same.chains class s

pub layout_lasts : (class : ℕ) (code : CodeProgram) (old new : World) → RunsOn code old new → is_chain_start old.cells class ≡ true →
    layout_of new.cells code class ≡ layout_of old.cells code class
layout_lasts class code old new run s = let k = keeps_of code old new run in layout_stays old.cells new.cells code class k.order k.same s
