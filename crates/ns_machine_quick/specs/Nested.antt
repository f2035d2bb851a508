-- Sends that find nested classes, and those that are kept.
use Rattle.std.specs.Prelude.{◌≡◌, ℕ, Some}
use Rattle.ns_code.specs.declared.program.CodeProgram.{CodeProgram}
use Rattle.ns_world.specs.declared.value.Value.{Value}
use Rattle.ns_world.specs.declared.value.Value.TheVariants.{Ref}
use Rattle.ns_world.specs.Heap.{Heap}
use Rattle.ns_world.specs.Starts.{start_of}
use Rattle.ns_classes.specs.Nested.{kept_class}
use Rattle.ns_find.specs.declared.found.Found.TheVariants.{Nested}
use Rattle.ns_find.specs.declared.found.Sending.{Sending}
use Rattle.ns_find.specs.Find.{found_from}
use Rattle.ns_machine_core.specs.declared.state.Core.{Core}
use Rattle.ns_machine_sends.specs.declared.sent.Sent.{Sent}

-- A send to a value finds that nested class of a holder.
abbrev pub FindsNested : CodeProgram → Core → Sent → Value → Sending → ℕ → ℕ → Type 0
FindsNested code core sent receiver kind class holder =
    found_from core.run.world.world.cells code (start_of core.run.world.world.cells receiver) sent.site.sel.0 kind ≡ Nested class holder

-- A value is an object that keeps that class as the nested class of a holder.
abbrev pub KeepsNested : Heap → CodeProgram → Value → ℕ → ℕ → ℕ → Type 0
KeepsNested heap code (Ref object) holder class kept = kept_class heap code object holder class ≡ Some kept
KeepsNested heap code receiver holder class kept = ⊥
