-- A body that an action of sound code has reached has as many arguments as it asks for, and there is room for it.
use Rattle.std.proofs.Common.{◌≡◌, ℕ, ◌+◌, ◌-◌, ◌≤◌, List, [], ◌++◌, length, take, replicate, ap, sym, ◌∙◌, refl, arith, Option, Some, None, Bool, true, false, cond, slice_get, length-take-le}
use Rattle.std.specs.Prelude.{IsSome}
use Rattle.std.specs.Option.{option_map_or}
use Rattle.std.proofs.lemmas.List.{length-drop, length-append, length-replicate}
use Rattle.ns_code.specs.declared.program.CodeProgram.{CodeProgram}
use Rattle.ns_code.specs.declared.body.BodyCode.{BodyCode}
use Rattle.ns_code.specs.Soundness.{clause_kind}
use Rattle.ns_world.specs.declared.value.Value.{Value}
use Rattle.ns_world.specs.declared.value.Value.TheVariants.{Nil}
use Rattle.ns_verify.specs.Verify.{IsSound}
use Rattle.ns_verify.specs.Uses.{StandsRight}
use Rattle.ns_moves.specs.declared.site.Site.{Site}
use Rattle.ns_moves.specs.declared.control.Exit.{Exit}
use Rattle.ns_moves.specs.declared.control.Entered.{Entered}
use Rattle.ns_moves.specs.declared.control.Given.{Given}
use Rattle.ns_moves.specs.declared.control.Given.TheVariants as given
use Rattle.ns_moves.specs.declared.control.Reached.TheVariants as reached
use Rattle.ns_moves.specs.Bodies.{parameters_of, locals_of, has_environment, height_in, greatest_of}
use Rattle.ns_moves.specs.Control.{Progress}
use Rattle.ns_moves.specs.Shown.{given_values, passed, reached_shown}
use Rattle.ns_moves.specs.Fitting.{StandsWell, FitsNext}
use Rattle.ns_machine_frames.specs.declared.calls.Call.{Call}
use Rattle.ns_machine_frames.specs.declared.registers.Registers.{Registers}
use Rattle.ns_machine_frames.specs.declared.stack.Stack.{Stack}
use Rattle.ns_machine_frames.specs.Calls.{arguments_for, arguments_of, count_for}
use Rattle.ns_machine_frames.specs.Room.{DepthGivesRoom}
use Rattle.ns_machine_frames.specs.Stack.{IsLaid}
use Rattle.ns_machine_core.specs.declared.state.Core.{Core}
use Rattle.ns_machine_core.specs.Shown.{progress_in}
use Rattle.ns_machine_core.specs.Arriving.{CanEnter}
use Rattle.ns_machine_core.specs.Entering.{MayEnter}
use Rattle.ns_machine_core.specs.laws.Sizes.{size_fits}

-- what stands right in sound code stands well
pub stands_well : ((code : CodeProgram) (number : ℕ) (body : BodyCode) → IsSound code → slice_get code.bodies number ≡ Some body → StandsRight code number body)
    → (code : CodeProgram) (body : ℕ) → IsSound code → IsSome (slice_get code.bodies body) → StandsWell code body
stands_well right code body sound some = there (slice_get code.bodies body) refl some
  where
    there : (o : Option BodyCode) → slice_get code.bodies body ≡ o → IsSome o → StandsWell code body
    there (Some b) e some =
        let own = right code body b sound e in
        let params = ap (λ o. option_map_or (λ (b : BodyCode). b.params) o 0) e in
        let locals = ap (λ o. option_map_or (λ (b : BodyCode). b.locals) o 0) e in
        let kind = ap (λ o. option_map_or (λ (b : BodyCode). b.kind) o clause_kind) e in
        let fewer = own.params in
        record {
          parameters = omega (arith, params, locals, fewer);
          alone = λ other. ap (λ o. option_map_or (λ (b : BodyCode). b.parent) o None) e ∙ own.alone (λ is. other (kind ∙ is));
        }
    there None e some = absurd (cc)

-- how many arguments there are
given_count : (there : List Value) (count : ℕ) (g : Given) → length there ≡ count → length (arguments_for there g) ≡ count_for count g
given_count there count given.Listed e = e
given_count there count (given.Message at) e = refl
given_count there count (given.Items at) e = e

arguments_count : (stack : Stack) (at : Registers) (call : Call) → IsLaid stack at →
    length (arguments_of call stack at) ≡ at.top - call.first
arguments_count stack at call laid =
    length-drop call.first (take at.top stack.values.items) ∙ ap (λ (n : ℕ). n - call.first) (length-take-le at.top stack.values.items laid.filled)

-- as many as the body asks for, where they stand beside it
as_many : (environment : Bool) (values : List Value) (params locals : ℕ) → params ≤ locals
    → length (cond environment [] (values ++ replicate (locals - params) Nil)) ≡ cond environment 0 locals → environment ≡ false → length values ≡ params
as_many true values params locals fewer e none = absurd (cc)
as_many false values params locals fewer e none =
    let all = length-append values (replicate (locals - params) Nil) in
    let nils = length-replicate (locals - params) Nil in
    omega (arith, fewer, e, all, nils)

pub can_be_entered : ((code : CodeProgram) (number : ℕ) (body : BodyCode) → IsSound code → slice_get code.bodies number ≡ Some body → StandsRight code number body)
    → ((greatest : ℕ) → DepthGivesRoom greatest)
    → (code : CodeProgram) (own : ℕ) (core : Core) (at : Registers) (call : Call) (exit : Exit) (entered : Entered) (site : Site) → IsSound code
    → FitsNext own code (reached_shown code site (arguments_of call core.stack at) (reached.Enters exit entered) (progress_in core))
    → MayEnter code core at call exit entered → CanEnter code core at call exit entered
can_be_entered right depth code own core at call exit entered site sound fits may =
    let well : StandsWell code entered.body = stands_well right code entered.body sound fits.0.fits.there in
    record {
      begins = may.begins;
      fits = record {
        floor = may.floor;
        arguments = may.first;
        count = λ none.
            sym (given_count (arguments_of call core.stack at) (at.top - call.first) entered.given (arguments_count core.stack at call may.begins.begins.laid))
            ∙ (ap length may.given
            ∙ as_many (has_environment code entered.body)
            (given_values core.run.world.world.cells (passed exit (arguments_of call core.stack at)) entered.given) (parameters_of code entered.body)
            (locals_of code entered.body) well.parameters (fits.0.beside well) none);
        locals = well.parameters;
        enough =
            let room = depth (greatest_of code.bodies) core.run.world.world.limits.depth call.first (locals_of code entered.body + height_in code entered.body)
            core.stack.frames.items may.depth may.begins.reach (size_fits code entered.body) in
            let values = may.rooms.values in
            omega (arith, room, values);
        place = may.place;
      };
      given = may.given;
    }

-- those arguments are among its locals
pub arguments_are_locals : ((code : CodeProgram) (number : ℕ) (body : BodyCode) → IsSound code → slice_get code.bodies number ≡ Some body → StandsRight code number body)
    → (code : CodeProgram) (own : ℕ) (values : List Value) (exit : Exit) (entered : Entered) (site : Site) (progress : Progress) → IsSound code
    → FitsNext own code (reached_shown code site values (reached.Enters exit entered) progress) → has_environment code entered.body ≡ false
    → length (given_values progress.world.cells (passed exit values) entered.given) ≤ locals_of code entered.body
arguments_are_locals right code own values exit entered site progress sound fits none =
    let well : StandsWell code entered.body = stands_well right code entered.body sound fits.0.fits.there in
    let many = as_many (has_environment code entered.body) (given_values progress.world.cells (passed exit values) entered.given) (parameters_of code entered.body)
    (locals_of code entered.body) well.parameters (fits.0.beside well) none in
    let fewer = well.parameters in
    omega (arith, many, fewer)
