-- What a machine freezes to in which nothing was begun.
use Rattle.std.proofs.Common.{◌≡◌, ℕ, ap, sym, ◌∙◌, Result, Ok, Err, IfOk}
use Rattle.ns_code.specs.declared.program.CodeProgram.{CodeProgram}
use Rattle.ns_facets.specs.declared.row.Grants.{Grants}
use Rattle.ns_moves.specs.State.{Unbegun}
use Rattle.ns_frozen.specs.declared.frozen.Frozen.{Frozen}
use Rattle.ns_frozen.specs.Freezing.{frozen_of}
use Rattle.ns_machine_core.specs.declared.state.Core.{Core}
use Rattle.ns_machine_core.specs.Shown.{progress_in}
use Rattle.ns_machine.specs.declared.stage.Stage.{Stage}
use Rattle.ns_machine.specs.declared.stage.Stage.TheVariants as stage
use Rattle.ns_machine.specs.Machine.{stage_shown}

pub unbegun_freezes : {E : Type 0} (result : Result Frozen E) (code : CodeProgram) (grants : Grants) (core : Core) (at : Stage) (arguments : ℕ)
    → at ≡ stage.Unbegun arguments
    → IfOk result (λ frozen. (any : CodeProgram) (array : ℕ) → frozen ≡ frozen_of any grants (Unbegun array (progress_in core)))
    → IfOk result (λ frozen. frozen ≡ frozen_of code grants (stage_shown code core at))
unbegun_freezes (Ok frozen) code grants core at arguments is told =
    told code arguments ∙ ap (λ (s : Stage). frozen_of code grants (stage_shown code core s)) (sym is)
unbegun_freezes (Err error) code grants core at arguments is told = tt
