-- What a row gives is what the action comes to.
use Rattle.std.proofs.Common.{◌≡◌, ℕ, List, refl, ap, ◌∙◌}
use Rattle.std.specs.Prelude.{Result, Ok, Err}
use Rattle.ns_code.specs.declared.program.CodeProgram.{CodeProgram}
use Rattle.ns_world.specs.declared.value.Value.{Value}
use Rattle.ns_world.specs.declared.ending.Fault.{Fault}
use Rattle.ns_world.specs.World.{World, WorldView, SameRoom}
use Rattle.ns_world.specs.declared.kernel_parts.DataRow.{DataRow}
use Rattle.ns_world.specs.declared.kernel_parts.DataRow.TheVariants as row
use Rattle.ns_kdata.specs.Datum.{datum}
use Rattle.ns_kdata.specs.Outcome.{RowOutcome, Answers, Fails, Gives}
use Rattle.ns_kdata.specs.Leading.{LeadsOn}
use Rattle.ns_facets.specs.declared.board.Board.{Board}
use Rattle.ns_mirror.specs.declared.row.Mirrored.{Mirrored}
use Rattle.ns_mirror.specs.Mirror.{Reflected, Reflects, Refuses, GivesMirrored}
use Rattle.ns_mirror.specs.Leading.{ReflectsOn}
use Rattle.ns_moves.specs.declared.site.Site.{Site}
use Rattle.ns_moves.specs.Site.{fault_ending}
use Rattle.ns_moves.specs.Control.{Progress, gives, halts}
use Rattle.ns_moves.specs.Shown.{reached_shown}
use Rattle.ns_moves.specs.Kernel.{outcome_reached, data_reached}
use Rattle.ns_kernel_rows.specs.Reaching.{progress_of, answered}

-- an outcome that is given is what the action comes to
pub outcome_given :
    (code : CodeProgram) (values : List Value) (outcome : RowOutcome) (answer : Result Value Fault) (old new : WorldView) (after : Board) (site : Site) (begun : ℕ) →
    Gives outcome old answer new
    → reached_shown code site values (answered answer) (progress_of new after begun) ≡ outcome_reached outcome site (progress_of old after begun)
outcome_given code values (Answers value world) (Ok answer) old new after site begun g =
    ap (λ (v : Value). gives v (progress_of new after begun)) g.0
    ∙ ap (λ (w : World). let p : Progress = record { world = w; board = after; begun = begun } in gives value p) g.1
outcome_given code values (Fails fault) (Err found) old new after site begun g =
    ap (λ (f : Fault). halts (fault_ending f site) (progress_of new after begun)) g.0
    ∙ ap (λ (v : WorldView). halts (fault_ending fault site) (progress_of v after begun)) g.1
outcome_given code values (Answers value world) (Err found) old new after site begun g = absurd g
outcome_given code values (Fails fault) (Ok answer) old new after site begun g = absurd g

-- and what is reserved stays, and so do the limits
pub room_kept : (outcome : RowOutcome) (answer : Result Value Fault) (old new : WorldView) → Gives outcome old answer new → SameRoom old new
room_kept (Answers value world) (Ok answer) old new g = g.2
room_kept (Fails fault) (Err found) old new g = (ap (λ (v : WorldView). v.cell_room) g.1, ap (λ (v : WorldView). v.out_room) g.1)
room_kept (Answers value world) (Err found) old new g = absurd g
room_kept (Fails fault) (Ok answer) old new g = absurd g

pub limits_kept : (outcome : RowOutcome) (answer : Result Value Fault) (old new : WorldView) → Gives outcome old answer new →
    LeadsOn old.world outcome → new.world.limits ≡ old.world.limits
limits_kept (Answers value world) (Ok answer) old new g later = ap (λ (w : World). w.limits) g.1 ∙ later.limits
limits_kept (Fails fault) (Err found) old new g later = ap (λ (v : WorldView). v.world.limits) g.1
limits_kept (Answers value world) (Err found) old new g later = absurd g
limits_kept (Fails fault) (Ok answer) old new g later = absurd g

pub mirror_room_kept : (outcome : Reflected) (answer : Result Mirrored Fault) (old new : WorldView) → GivesMirrored outcome old answer new →
    SameRoom old new
mirror_room_kept (Reflects answer world) (Ok found) old new g = g.2
mirror_room_kept (Refuses fault) (Err found) old new g = (ap (λ (v : WorldView). v.cell_room) g.1, ap (λ (v : WorldView). v.out_room) g.1)
mirror_room_kept (Reflects answer world) (Err found) old new g = absurd g
mirror_room_kept (Refuses fault) (Ok found) old new g = absurd g

pub mirror_limits_kept : (outcome : Reflected) (answer : Result Mirrored Fault) (old new : WorldView) →
    GivesMirrored outcome old answer new → ReflectsOn old.world outcome → new.world.limits ≡ old.world.limits
mirror_limits_kept (Reflects answer world) (Ok found) old new g later = ap (λ (w : World). w.limits) g.1 ∙ later.limits
mirror_limits_kept (Refuses fault) (Err found) old new g later = ap (λ (v : WorldView). v.world.limits) g.1
mirror_limits_kept (Reflects answer world) (Err found) old new g later = absurd g
mirror_limits_kept (Refuses fault) (Ok found) old new g later = absurd g

-- a row of data other than `doesNotUnderstand:`
pub data_other : (code : CodeProgram) (about : DataRow) (receiver : Value) (arguments : List Value) (site : Site) (progress : Progress) →
    (about ≡ row.DoesNotUnderstand → ⊥)
    → data_reached code about receiver arguments site progress ≡ outcome_reached (datum progress.world code about receiver arguments) site progress
data_other code row.Identical receiver arguments site progress other = refl
data_other code row.Equal receiver arguments site progress other = refl
data_other code row.IsNil receiver arguments site progress other = refl
data_other code row.NotNil receiver arguments site progress other = refl
data_other code row.KernelObject receiver arguments site progress other = refl
data_other code row.DoesNotUnderstand receiver arguments site progress other = absurd (other refl)
data_other code row.NewObject receiver arguments site progress other = refl
data_other code row.NewArray receiver arguments site progress other = refl
data_other code row.NilPrint receiver arguments site progress other = refl
data_other code row.Not receiver arguments site progress other = refl
data_other code row.BooleanPrint receiver arguments site progress other = refl
data_other code row.And receiver arguments site progress other = refl
data_other code row.Or receiver arguments site progress other = refl
data_other code row.IntegerPrint receiver arguments site progress other = refl
data_other code row.TextSize receiver arguments site progress other = refl
data_other code row.TextAt receiver arguments site progress other = refl
data_other code row.TextCopy receiver arguments site progress other = refl
data_other code row.TextJoin receiver arguments site progress other = refl
data_other code row.TextEqual receiver arguments site progress other = refl
data_other code row.TextLess receiver arguments site progress other = refl
data_other code row.TextPrint receiver arguments site progress other = refl
data_other code row.SymbolSize receiver arguments site progress other = refl
data_other code row.SymbolText receiver arguments site progress other = refl
data_other code row.SymbolPrint receiver arguments site progress other = refl
data_other code row.SymbolLess receiver arguments site progress other = refl
data_other code row.ArraySize receiver arguments site progress other = refl
data_other code row.ArrayAt receiver arguments site progress other = refl
data_other code row.ArrayPut receiver arguments site progress other = refl
data_other code row.MessageSelector receiver arguments site progress other = refl
data_other code row.MessageArguments receiver arguments site progress other = refl
