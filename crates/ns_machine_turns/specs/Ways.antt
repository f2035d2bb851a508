-- Where moves have led, with the steps that are left.
use Rattle.std.specs.Prelude.{ℕ, ◌-◌, ◌≤◌, ◌==◌, List, [], ◌∷◌, Bool, false}
use Rattle.ns_code.specs.declared.program.CodeProgram.{CodeProgram}
use Rattle.ns_machine_frames.specs.declared.frame.Frame.{Frame}
use Rattle.ns_machine_frames.specs.declared.frame.Frame.TheVariants.{Running, Looping}
use Rattle.ns_machine_plan.specs.declared.plan.Plan.{Plan}
use Rattle.ns_machine_core.specs.declared.own.OwnSends.{OwnSends}
use Rattle.ns_machine_core.specs.declared.state.Core.{Core}
use Rattle.ns_machine_core.specs.declared.state.Next.{Next}
use Rattle.ns_machine_core.specs.declared.state.Next.TheVariants as next
use Rattle.ns_machine_turns.specs.declared.way.Way.{Way}
use Rattle.ns_machine_turns.specs.declared.way.Way.TheVariants.{On, Waits, Ended}
use Rattle.ns_machine_turns.specs.Turning.{HasGone}

-- whether the topmost frame is one of that body
abbrev pub is_on_top : ℕ → List Frame → Bool
is_on_top body [] = false
is_on_top body (Running frame ∷ frames) = frame.activation.body == body
is_on_top body (Looping frame ∷ frames) = false

-- where that leads, with so many steps but two left
abbrev pub way_of : Next → ℕ → Way
way_of (next.On to) rest = On to (rest - 2)
way_of (next.Waits to) rest = Waits to
way_of next.Ended rest = Ended

-- where it leads
abbrev pub next_of : Way → Next
next_of (On to sure) = next.On to
next_of (Waits to) = next.Waits to
next_of Ended = next.Ended

-- No more steps are told to be left surely than are, of so many, from one machine to another.
abbrev pub FewAreLeft : ℕ → Core → Core → Way → Type 0
FewAreLeft left old new (On to sure) = sure ≤ left - (new.run.world.world.steps - old.run.world.world.steps)
FewAreLeft left old new (Waits to) = Unit {0}
FewAreLeft left old new Ended = Unit {0}

-- Moves have led there, and those steps are left.
pub record HasLed (code : CodeProgram) (plan : Plan) (sends : OwnSends) (left : ℕ) (old : Core) (from : Next) (new : Core) (way : Way) : Type 0 where
  pub gone : HasGone code plan sends left old from new (next_of way)
  pub few : FewAreLeft left old new way
