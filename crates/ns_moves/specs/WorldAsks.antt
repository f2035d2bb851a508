-- What the instructions of running code ask of the world, beside live operands.
use Rattle.std.specs.Prelude.{◌≡◌, ◌<◌, ℕ, ◌∷◌, length, IsTrue}
use Rattle.std.specs.Option.{ForSome}
use Rattle.ns_base.specs.declared.place.Place.{Place as SourcePlace}
use Rattle.ns_base.specs.declared.selector.Sel.{Sel}
use Rattle.ns_code.specs.declared.program.CodeProgram.{CodeProgram}
use Rattle.ns_code.specs.declared.instruction.Instr.{Instr}
use Rattle.ns_code.specs.declared.instruction.Instr.TheVariants as instr
use Rattle.ns_code.specs.Selector.{is_selector_number, selector_arity}
use Rattle.ns_world.specs.Heap.{Heap}
use Rattle.ns_world.specs.Lawful.{IsLiveValue, BlockIsLawful}
use Rattle.ns_moves.specs.Control.{Progress, Activation}
use Rattle.ns_moves.specs.Sends.{ToPrivate, ToSuper}
use Rattle.ns_moves.specs.Lawful.{FitsTarget, FitsExit, FitsSlot, FitsLocal}
use Rattle.ns_moves.specs.Steps.{PlacedInstr}
use Rattle.ns_moves.specs.State.{Leaving, Loud, Silent, Running, State, Going}
use Rattle.ns_moves.specs.ValidFrames.{has_block_home}

-- A selector takes so many arguments.
pub record SelectorTakes (code : CodeProgram) (sel : Sel) (argc : ℕ) : Type 0 where
  pub selector : IsTrue (is_selector_number code sel.0)
  pub arity : argc ≡ selector_arity code sel.0

-- The end of a frame can be met.
abbrev pub CanLeave : Heap → CodeProgram → Leaving → Type 0
CanLeave heap code (Loud exit) = FitsExit heap code exit
CanLeave heap code Silent = Unit {0}

-- A send has as many arguments as its selector takes, and can be made; a local, a slot and a block are there for the
-- code that runs, and a body can end.
abbrev pub InstrAsks : CodeProgram → Instr → Leaving → Activation → Progress → Type 0
InstrAsks code instr.PushNil leaving activation progress = Unit {0}
InstrAsks code instr.PushTrue leaving activation progress = Unit {0}
InstrAsks code instr.PushFalse leaving activation progress = Unit {0}
InstrAsks code (instr.PushInt number) leaving activation progress = Unit {0}
InstrAsks code (instr.PushSym sel) leaving activation progress = Unit {0}
InstrAsks code (instr.PushText text) leaving activation progress = Unit {0}
InstrAsks code instr.PushSelf leaving activation progress = Unit {0}
InstrAsks code (instr.PushOuter level) leaving activation progress = Unit {0}
InstrAsks code (instr.PushLocal hops index) leaving activation progress = Unit {0}
InstrAsks code (instr.StoreLocal hops index) leaving activation progress = FitsLocal progress.world.cells code activation hops
InstrAsks code (instr.PushBlock body) leaving activation progress =
    BlockIsLawful progress.world.cells code body activation.env activation.self activation.holder
    × IsTrue (has_block_home code progress.begun body activation.home)
InstrAsks code (instr.MakeArray count) leaving activation progress = Unit {0}
InstrAsks code instr.Pop leaving activation progress = Unit {0}
InstrAsks code (instr.Pick number) leaving activation progress = Unit {0}
InstrAsks code (instr.Send sel argc) leaving activation progress = SelectorTakes code sel argc
InstrAsks code (instr.SendInner sel argc) leaving activation progress = SelectorTakes code sel argc
InstrAsks code (instr.SendPrivate level sel argc) leaving activation progress =
    SelectorTakes code sel argc × FitsTarget progress.world.cells code activation (ToPrivate level)
InstrAsks code (instr.SendSuper sel argc) leaving activation progress =
    SelectorTakes code sel argc × FitsTarget progress.world.cells code activation ToSuper
InstrAsks code (instr.InitSuper argc) leaving activation progress = IsLiveValue progress.world.cells code activation.self
InstrAsks code (instr.StoreSlot slot) leaving activation progress = FitsSlot progress.world.cells code activation slot
InstrAsks code instr.Return leaving activation progress = CanLeave progress.world.cells code leaving
InstrAsks code instr.ReturnSelf leaving activation progress =
    CanLeave progress.world.cells code leaving × IsLiveValue progress.world.cells code activation.self
InstrAsks code instr.ReturnHome leaving activation progress = Unit {0}
InstrAsks code (instr.Jump target) leaving activation progress = Unit {0}
InstrAsks code (instr.JumpFalse target) leaving activation progress = Unit {0}
InstrAsks code (instr.JumpTrue target) leaving activation progress = Unit {0}

-- An instruction finds what it asks for, and its place is in a file of the code.
pub record InstructionRunsOn (code : CodeProgram) (step : PlacedInstr) (leaving : Leaving) (activation : Activation) (progress : Progress) : Type 0 where
  pub asks : InstrAsks code step.0 leaving activation progress
  pub file : ForSome step.1 (λ (place : SourcePlace). place.file < length code.files)

-- So does the next instruction of a run that goes on with one.
abbrev pub FindsAsked : CodeProgram → State → Type 0
FindsAsked code (Going phase (Running leaving activation locals (step ∷ rest) stack ∷ frames) progress) =
    InstructionRunsOn code step leaving activation progress
FindsAsked code state = Unit {0}
