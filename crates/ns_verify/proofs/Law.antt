-- In sound code the heights agree.
use Rattle.std.proofs.Common.{◌≡◌, ℕ, suc, ◌+◌, ◌≤◌, ◌<◌, length, slice_get, Some, Bool, true, false, not, ◌&&◌, ◌==◌, nat_lt, arith, subst}
use Rattle.std.specs.Option.{option_map_or}
use Rattle.std.proofs.lemmas.Option.{slice_get_within}
use Rattle.std.proofs.lemmas.Bool.Decides.{nat_tests}
use Rattle.ns_code.specs.declared.program.CodeProgram.{CodeProgram}
use Rattle.ns_code.specs.declared.body.BodyCode.{BodyCode}
use Rattle.ns_code.specs.declared.instruction.Instr.{Instr}
use Rattle.ns_code.specs.Table.{takes, height_after, target, goes_on, ends_wrongly}
use Rattle.ns_verify.specs.Heights.{falls_apart, jumps_apart}
use Rattle.ns_verify.specs.Verify.{IsSound}
use Rattle.ns_verify.specs.Places.{HasNoCause, HeightsAgree, pass_before, height_before, home_of}
use Rattle.ns_verify.proofs.Agreeing.{next_height, target_height, some_at}
use Rattle.ns_verify.proofs.Order.{NoneHolds, none_holds, or_left, or_right}
use Rattle.ns_verify.proofs.Places.{no_cause}

not_last : (at count : ℕ) (on : Bool) → (at + 1 == count && on) ≡ false → on ≡ true → at < count → at + 1 < count
not_last at count on h goes below = grind (arith, nat_tests)

jump_there : (to count : ℕ) → not (nat_lt to count) ≡ false → to < count
jump_there to count h = grind (arith, nat_tests)

at_least : (height takes : ℕ) → nat_lt height takes ≡ false → takes ≤ height
at_least height takes h = grind (arith, nat_tests)

module _ (code : CodeProgram) (number at : ℕ) (body : BodyCode) (instr : Instr) (none : HasNoCause code) (there : slice_get code.bodies number ≡ Some body) (here : slice_get body.instrs at ≡ Some instr) where
  holds_at : (i : ℕ) (one : Instr) → slice_get body.instrs i ≡ Some one → NoneHolds code number body (home_of code number body) (pass_before body i) i one
  holds_at i one is_one = none_holds code number body (home_of code number body) (pass_before body i) i one (none.instrs number i body one there is_one)

  within : at < length body.instrs
  within = slice_get_within body.instrs at instr here

  next_there : goes_on instr ≡ true → at + 1 < length body.instrs
  next_there on = not_last at (length body.instrs) (goes_on instr) (holds_at at instr here).ends on within

  target_there : (to : ℕ) → target instr ≡ Some to → to < length body.instrs
  target_there to is_target =
      jump_there to (length body.instrs) (subst (λ o. option_map_or (λ t. not (nat_lt t (length body.instrs))) o false ≡ false) is_target (holds_at at instr here).jump)

  falls_not : goes_on instr ≡ true → falls_apart (pass_before body (suc at)) (suc at) ≡ false
  falls_not on =
      let next = some_at body.instrs (suc at) (let later = next_there on in omega arith) in
      let h = (holds_at (suc at) next.0 next.1).height in
      or_left (falls_apart (pass_before body (suc at)) (suc at)) _ (or_right (ends_wrongly next.0 (height_before body (suc at))) _ (or_right (nat_lt body.height (height_before body (suc at))) _ (or_right (nat_lt (height_before body (suc at)) (takes next.0)) _ h)))

  jumps_not : jumps_apart (pass_before body at) at instr ≡ false
  jumps_not =
      or_right (falls_apart (pass_before body at) at) _ (or_right (ends_wrongly instr (height_before body at)) _ (or_right (nat_lt body.height (height_before body at)) _ (or_right (nat_lt (height_before body at) (takes instr)) _ (holds_at at instr here).height)))

  pub agree : HeightsAgree body at instr
  agree =
      let h = (holds_at at instr here).height in
      record {
        enough = at_least (height_before body at) (takes instr) (or_left (nat_lt (height_before body at) (takes instr)) _ h);
        within = at_least body.height (height_before body at) (or_left (nat_lt body.height (height_before body at)) _ (or_right (nat_lt (height_before body at) (takes instr)) _ h));
        next_there = next_there;
        next = λ on. let e : suc at ≡ at + 1 = omega arith in subst (λ n. height_before body n ≡ height_after instr (height_before body at)) e (next_height body at instr here on (falls_not on));
        target_there = target_there;
        target = λ to is_target. target_height body at instr to here is_target (target_there to is_target) jumps_not;
        ends = or_left (ends_wrongly instr (height_before body at)) _ (or_right (nat_lt body.height (height_before body at)) _ (or_right (nat_lt (height_before body at) (takes instr)) _ h));
      }

pub heights_agree : (code : CodeProgram) (number at : ℕ) (body : BodyCode) (instr : Instr) → IsSound code →
    slice_get code.bodies number ≡ Some body → slice_get body.instrs at ≡ Some instr → HeightsAgree body at instr
heights_agree code number at body instr sound there here = agree code number at body instr (no_cause code sound) there here
