-- A body that is entered is a valid frame.
use Rattle.std.proofs.Common.{◌≡◌, ℕ, zero, suc, ◌<◌, List, [], length, replicate, get_or, refl, ap, sym, ◌∙◌, subst, arith, All, Option, Some, None, true, slice_get}
use Rattle.std.specs.Prelude.{IsSome}
use Rattle.std.specs.Option.{option_map_or}
use Rattle.std.proofs.lemmas.Option.{slice_get-get_or}
use Rattle.ns_code.specs.declared.program.CodeProgram.{CodeProgram}
use Rattle.ns_code.specs.declared.body.BodyCode.{BodyCode}
use Rattle.ns_code.specs.declared.instruction.Instr.TheVariants as i
use Rattle.ns_code.specs.Soundness.{clause_kind}
use Rattle.ns_world.specs.declared.value.Value.{Value}
use Rattle.ns_world.specs.Lawful.{IsLiveValue}
use Rattle.ns_verify.specs.Heights.{begin, height_at}
use Rattle.ns_verify.specs.Verify.{IsSound}
use Rattle.ns_verify.specs.Places.{height_before}
use Rattle.ns_moves.specs.Control.{Progress, Activation}
use Rattle.ns_moves.specs.Fitting.{FitsEntered, StandsWell, FitsSite, kind_of}
use Rattle.ns_moves.specs.State.{Leaving}
use Rattle.ns_moves.specs.Steps.{steps_of}
use Rattle.ns_moves.specs.ValidFrames.{Nothing, has_home_of, ends_kind, FitsLeaving, StandsBefore, next_number, RunningIsValid}
use Rattle.ns_moves.proofs.FramesKnown.{Known}
use Rattle.ns_moves.proofs.FramesStanding.{all_left, height_is}

none_known : (count : ℕ) → get_or (replicate count None) 0 None ≡ (let none : Option ℕ = None in none)
none_known zero = refl
none_known (suc count) = refl

first_height : (body : BodyCode) → height_before body 0 ≡ 0
first_height body = known_none (length body.instrs)
  where
    known_none : (count : ℕ) → height_at (begin count) 0 ≡ 0
    known_none zero = refl
    known_none (suc count) = refl

module _ (known : Known) (code : CodeProgram) (sound : IsSound code) where
  pub stands_well : (body : ℕ) → IsSome (slice_get code.bodies body) → StandsWell code body
  stands_well body some = there (slice_get code.bodies body) refl some
    where
      there : (o : Option BodyCode) → slice_get code.bodies body ≡ o → IsSome o → StandsWell code body
      there (Some b) e some =
          let right = known.sound.stands code body b sound e in
          let params = ap (λ o. option_map_or (λ (b : BodyCode). b.params) o 0) e in
          let locals = ap (λ o. option_map_or (λ (b : BodyCode). b.locals) o 0) e in
          let kind = ap (λ o. option_map_or (λ (b : BodyCode). b.kind) o clause_kind) e in
          let fewer = right.params in
          record {
            parameters = omega (arith, params, locals, fewer);
            alone = λ other. ap (λ o. option_map_or (λ (b : BodyCode). b.parent) o None) e ∙ right.alone (λ is. other (kind ∙ is));
          }
      there None e some = absurd (cc)

  begins : (body : ℕ) (b : BodyCode) → slice_get code.bodies body ≡ Some b → StandsBefore b (next_number code body (steps_of code body)) 0
  begins body b e =
      let some = (known.sound.no_cause code sound).some_instr body b e in
      let none : next_number code body (steps_of code body) ≡ 0 = omega arith in
      let inside : 0 < length b.instrs = omega (arith, some) in
      let first : slice_get b.instrs 0 ≡ Some (get_or b.instrs 0 i.Pop) = slice_get-get_or b.instrs 0 i.Pop inside in
      subst (λ n. StandsBefore b n 0) (sym none)
      (inside, sym (height_is known.sound code body b sound e 0 (get_or b.instrs 0 i.Pop) first ∙ first_height b))

  pub entered_valid : (p : Progress) (leaving : Leaving) (a : Activation) (ls : List Value) → FitsEntered p.world.cells code a ls
      → ends_kind leaving (kind_of code a.body) ≡ true → FitsLeaving p.world.cells code leaving a → All (IsLiveValue p.world.cells code) ls
      → has_home_of code p.begun (kind_of code a.body) a.body a.home ≡ true → FitsSite code a.site
      → RunningIsValid code p Nothing leaving a ls (steps_of code a.body) []
  entered_valid p leaving a ls enters kind leaves live home named =
      let well = stands_well a.body enters.fits.there in
      record {
        fits = enters.fits;
        object = enters.object;
        kind = kind;
        leaves = leaves;
        inside = all_left code a.body;
        stands = λ b e. begins a.body b e;
        environment = enters.environment well;
        beside = enters.beside well;
        live_locals = live;
        live_stack = λ i d h. absurd (omega (arith, h));
        home = home;
        named = named;
      }
