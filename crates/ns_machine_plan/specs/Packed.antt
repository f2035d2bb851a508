-- Steps in eight bytes: what a packed step stands for, over the tables that hold what doesn't fit into it.
use Rattle.std.specs.Prelude.{◌≡◌, ◌<◌, ℕ, List, [], ◌∷◌, ◌++◌, length, map, Option, Some, None, All}
use Rattle.std.specs.List.{slice_index_or}
use Rattle.ns_machine_plan.specs.declared.kept_step.KeptStep.{KeptStep}
use Rattle.ns_machine_plan.specs.declared.kept_step.KeptSteps.{KeptSteps}
use Rattle.ns_machine_plan.specs.declared.packed.Packed.{Packed}
use Rattle.ns_machine_plan.specs.declared.packed.Packed.TheVariants as packed
use Rattle.ns_machine_plan.specs.declared.packed.ValueSend.{ValueSend}
use Rattle.ns_machine_plan.specs.declared.packed.PrivateSend.{PrivateSend}
use Rattle.ns_machine_plan.specs.declared.packed.SuperSend.{SuperSend}
use Rattle.ns_machine_plan.specs.declared.step.SpelledRow.{SpelledRow}
use Rattle.ns_machine_plan.specs.declared.step.SpelledRow.TheVariants.{Integer, Boolean, Array}
use Rattle.ns_machine_plan.specs.declared.step.Step.{Step}
use Rattle.ns_machine_plan.specs.declared.step.Step.TheVariants.{PushNil, PushTrue, PushFalse, PushInt, PushSym, PushText, PushSelf, PushOuter, PushLocal}
use Rattle.ns_machine_plan.specs.declared.step.Step.TheVariants.{StoreLocal, PushBlock, MakeArray, Pop, Pick, Send, SendPrivate, SendSuper, InitSuper}
use Rattle.ns_machine_plan.specs.declared.step.Step.TheVariants.{StoreSlot, Return, ReturnSelf, ReturnHome, Jump, JumpFalse, JumpTrue}
use Rattle.ns_machine_plan.specs.declared.tables.Tables.{Tables}

-- Nothing is in the tables.
pub record AreEmpty (tables : Tables) : Type 0 where
  pub integers : tables.integers.items ≡ []
  pub sends : tables.sends.items ≡ []
  pub privates : tables.privates.items ≡ []
  pub supers : tables.supers.items ≡ []

-- the step of a send to a value, with what its selector spells
abbrev pub value_send : Option SpelledRow → ValueSend → Step
value_send row send = Send send.sel send.argc send.kind send.place row

-- the step of the send to a value of that number
abbrev pub send_at : Tables → Option SpelledRow → ℕ → Step
send_at tables row at = slice_index_or (map (value_send row) tables.sends.items) at PushNil

-- the step of a private send
abbrev pub private_send : PrivateSend → Step
private_send send = SendPrivate send.level send.sel send.argc send.place send.member

-- the step of a send to the superclass
abbrev pub super_send : SuperSend → Step
super_send send = SendSuper send.sel send.argc send.place

-- the step that a packed one stands for, over the tables
abbrev pub unpacked : Tables → Packed → Step
unpacked tables packed.PushNil = PushNil
unpacked tables packed.PushTrue = PushTrue
unpacked tables packed.PushFalse = PushFalse
unpacked tables (packed.PushShort number) = PushInt number
unpacked tables (packed.PushLong at) = slice_index_or (map PushInt tables.integers.items) at PushNil
unpacked tables (packed.PushSym sel) = PushSym sel
unpacked tables (packed.PushText text) = PushText text
unpacked tables packed.PushSelf = PushSelf
unpacked tables (packed.PushOuter level) = PushOuter level
unpacked tables (packed.PushLocal hops index) = PushLocal hops index
unpacked tables (packed.StoreLocal hops index) = StoreLocal hops index
unpacked tables (packed.PushBlock block) = PushBlock block
unpacked tables (packed.MakeArray count) = MakeArray count
unpacked tables packed.Pop = Pop
unpacked tables (packed.Pick number) = Pick number
unpacked tables (packed.Send at) = send_at tables None at
unpacked tables (packed.SendInteger row at) = send_at tables (Some (Integer row)) at
unpacked tables (packed.SendBoolean method at) = send_at tables (Some (Boolean method)) at
unpacked tables (packed.SendArray row at) = send_at tables (Some (Array row)) at
unpacked tables (packed.SendPrivate at) = slice_index_or (map private_send tables.privates.items) at PushNil
unpacked tables (packed.SendSuper at) = slice_index_or (map super_send tables.supers.items) at PushNil
unpacked tables (packed.InitSuper argc place) = InitSuper argc place
unpacked tables (packed.StoreSlot slot) = StoreSlot slot
unpacked tables packed.Return = Return
unpacked tables packed.ReturnSelf = ReturnSelf
unpacked tables packed.ReturnHome = ReturnHome
unpacked tables (packed.Jump target) = Jump target
unpacked tables (packed.JumpFalse target) = JumpFalse target
unpacked tables (packed.JumpTrue target) = JumpTrue target

-- the step that a kept one stands for
abbrev pub step_in : KeptStep → Step
step_in kept = unpacked kept.tables.now kept.packed.now

-- the steps that kept ones stand for
abbrev pub steps_in : KeptSteps → List Step
steps_in kept = map (unpacked kept.tables.now) kept.packed.now

-- the packed step of a send to a value of that number, by what its selector spells
abbrev pub packed_send : ℕ → Option SpelledRow → Packed
packed_send at (Some (Integer row)) = packed.SendInteger row at
packed_send at (Some (Boolean method)) = packed.SendBoolean method at
packed_send at (Some (Array row)) = packed.SendArray row at
packed_send at None = packed.Send at

-- The send to a value has that number, whatever its selector spells.
abbrev pub SendIsAt : Tables → ℕ → ValueSend → Type 0
SendIsAt tables at send = (row : Option SpelledRow) → send_at tables row at ≡ value_send row send

-- The number of a packed step, if it has one, is in its table.
abbrev pub EntryIsThere : Tables → Packed → Type 0
EntryIsThere tables (packed.PushLong at) = at < length tables.integers.items
EntryIsThere tables (packed.Send at) = at < length tables.sends.items
EntryIsThere tables (packed.SendInteger row at) = at < length tables.sends.items
EntryIsThere tables (packed.SendBoolean method at) = at < length tables.sends.items
EntryIsThere tables (packed.SendArray row at) = at < length tables.sends.items
EntryIsThere tables (packed.SendPrivate at) = at < length tables.privates.items
EntryIsThere tables (packed.SendSuper at) = at < length tables.supers.items
EntryIsThere tables other = Unit {0}

-- A packed step stands for that step.
pub record StandsFor (tables : Tables) (step : Step) (packed : Packed) : Type 0 where
  pub within : EntryIsThere tables packed
  pub is : unpacked tables packed ≡ step

-- Packed steps, one by one, stand for those steps.
pub record AllStandFor (tables : Tables) (steps : List Step) (packed : List Packed) : Type 0 where
  pub within : All (EntryIsThere tables) packed
  pub are : map (unpacked tables) packed ≡ steps

-- Where the packed steps stood for some steps, they stand for these and one more behind them.
abbrev pub IsPut : Tables → Tables → List Packed → List Packed → Step → Type 0
IsPut old new packed longer step = (steps : List Step) → AllStandFor old steps packed → AllStandFor new (steps ++ step ∷ []) longer

-- What stood for a step over the old tables stands for it over the new ones.
pub record StandsForSame (old new : Tables) : Type 0 where
  pub within : (packed : Packed) → EntryIsThere old packed → EntryIsThere new packed
  pub is : (packed : Packed) → EntryIsThere old packed → unpacked new packed ≡ unpacked old packed
