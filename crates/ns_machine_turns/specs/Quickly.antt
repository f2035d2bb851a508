-- A move by the quick way.
use Rattle.std.specs.Prelude.{◌≡◌, ℕ, Option, Some, None}
use Rattle.ns_code.specs.declared.program.CodeProgram.{CodeProgram}
use Rattle.ns_machine_frames.specs.declared.registers.Registers.{Registers}
use Rattle.ns_machine_core.specs.declared.state.Core.{Core}
use Rattle.ns_machine_core.specs.declared.state.Next.{Next}
use Rattle.ns_machine_core.specs.declared.state.Next.TheVariants.{On}
use Rattle.ns_machine_core.specs.Passing.{MovesTwice}
use Rattle.ns_machine_core.specs.Ready.{MakesMove}
use Rattle.ns_machine_core.specs.Straight.{StaysOnTop}
use Rattle.ns_machine_core.specs.Tried.{OnlyLookupsChanged}
use Rattle.ns_machine_turns.specs.declared.quickly.Went.{Went}
use Rattle.ns_machine_turns.specs.declared.quickly.Went.TheVariants.{Straight, Charged, On as OnTop, Answered, Turns, Nowhere}
use Rattle.ns_machine_turns.specs.Repeating.{EndsTurn}

-- The next move was made, so many steps were charged, and the body that runs goes straight on at those registers.
pub record MovesStraight (code : CodeProgram) (charged : ℕ) (old : Core) (at : Registers) (new : Core) (to : Registers) : Type 0 where
  pub moves : MakesMove code old (On at) new (On to)
  pub stays : StaysOnTop charged old new

-- The next move was made, and leads there; or nothing has changed but the lookups that are kept.
abbrev pub GoesOrNot : CodeProgram → Core → Registers → Core → Option Next → Type 0
GoesOrNot code old at new (Some next) = MakesMove code old (On at) new next
GoesOrNot code old at new None = OnlyLookupsChanged code old new

-- The next move was made, and leads there, or the one after it does, which was made too; or nothing has changed but the lookups that are kept, or
-- nothing at all where the next step ends a turn of `to:do:`.
abbrev pub MovesOrNot : CodeProgram → Core → Registers → Core → Went → Type 0
MovesOrNot code old at new (Straight to) = MovesStraight code 0 old at new to
MovesOrNot code old at new (Charged to) = MovesStraight code 1 old at new to
MovesOrNot code old at new (OnTop to) = MakesMove code old (On at) new (On to)
MovesOrNot code old at new (Answered to) = MovesTwice code old (On at) new (On to)
MovesOrNot code old at new Turns = EndsTurn code old at × (new ≡ old)
MovesOrNot code old at new Nowhere = OnlyLookupsChanged code old new
