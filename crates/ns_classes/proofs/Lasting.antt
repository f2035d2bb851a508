-- What is asked of nested classes and of superclasses is the same later in a run.
use Rattle.std.proofs.Common.{◌≡◌, ℕ, refl, ap, sym, ◌∙◌, Bool, true, false, cond, Some}
use Rattle.ns_code.specs.declared.program.CodeProgram.{CodeProgram}
use Rattle.ns_world.specs.declared.value.Value.{Value}
use Rattle.ns_world.specs.declared.value.Value.TheVariants.{Nil, True, False, Int, Sym, Kernel, Ref}
use Rattle.ns_world.specs.Heap.{find_cell, is_class, chain_of}
use Rattle.ns_world.specs.World.{World}
use Rattle.ns_world.specs.Starts.{is_class_shape}
use Rattle.ns_world.specs.Layout.{declaration_of, entry_word}
use Rattle.ns_world.specs.Lawful.{IsLiveValue}
use Rattle.ns_world.specs.Later.{RunsOn}
use Rattle.ns_world.specs.laws.Lasting.{shape_lasts, declaration_lasts, word_lasts}
use Rattle.ns_world.specs.laws.ShapeTests.{is_class_told}
use Rattle.ns_classes.specs.declared.apply.MakeFault.TheVariants.{NotAClass}
use Rattle.ns_classes.specs.Apply.{chain_fault, class_fault}
use Rattle.ns_classes.specs.Nested.{nested_entry, nested_word}

pub nested_word_lasts : (holder class : ℕ) (code : CodeProgram) (old new : World) → RunsOn code old new →
    is_class (find_cell old.cells holder) ≡ true → nested_word new.cells code holder class ≡ nested_word old.cells code holder class
nested_word_lasts holder class code old new run is =
    word_lasts holder (nested_entry code (declaration_of new.cells holder) class) code old new run is
    ∙ ap (λ decl. entry_word old.cells code holder (nested_entry code decl class)) (declaration_lasts holder code old new run is)

pub fault_lasts : (over : Value) (code : CodeProgram) (old new : World) → RunsOn code old new → IsLiveValue old.cells code over →
    class_fault new.cells over ≡ class_fault old.cells over
fault_lasts (Ref class) code old new run live = tested (is_class (find_cell old.cells class)) refl
  where
    is_one : is_class (find_cell new.cells class) ≡ is_class (find_cell old.cells class)
    is_one =
        sym (is_class_told new.cells class)
        ∙ (ap is_class_shape (shape_lasts class code old new run live.0) ∙ is_class_told old.cells class)

    tested : (b : Bool) → is_class (find_cell old.cells class) ≡ b → class_fault new.cells (Ref class) ≡ class_fault old.cells (Ref class)
    tested true e =
        ap (λ b. cond b (chain_fault (chain_of new.cells class)) (Some NotAClass)) is_one
        ∙ ap (λ chain. cond (is_class (find_cell old.cells class)) (chain_fault chain) (Some NotAClass)) (run.later.cells.chains class e)
    tested false e = rw (is_one, e) refl
fault_lasts Nil code old new run live = refl
fault_lasts True code old new run live = refl
fault_lasts False code old new run live = refl
fault_lasts (Int number) code old new run live = refl
fault_lasts (Sym sel) code old new run live = refl
fault_lasts (Kernel class) code old new run live = refl
