-- What instructions of sound code can rely on, as the actions ask for it.
use Rattle.std.proofs.Common.{◌≡◌, ℕ, zero, suc, ◌<◌, List, [], ◌∷◌, length, refl, ap, sym, ◌∙◌, subst, arith, All, Option, Some, None, Bool, true, false, cond, slice_get}
use Rattle.std.specs.Prelude.{IsSome, nat_lt, ◌==◌, ◌||◌}
use Rattle.std.specs.Option.{option_and_then, ForSome}
use Rattle.std.proofs.lemmas.Bool.{lt-ltb}
use Rattle.std.proofs.lemmas.Option.{get_or_from_slice_get, slice_get_within}
use Rattle.ns_base.specs.declared.place.Place.{Place as SourcePlace}
use Rattle.ns_code.specs.declared.program.CodeProgram.{CodeProgram}
use Rattle.ns_code.specs.declared.body.BodyCode.{BodyCode}
use Rattle.ns_code.specs.declared.instruction.Instr.{Instr}
use Rattle.ns_code.specs.Fits.{Fits, BodyFits, InstrFits, PlaceFits}
use Rattle.ns_code.specs.Selector.{is_selector_number}
use Rattle.ns_world.specs.Lawful.{parent_of}
use Rattle.ns_verify.specs.Verify.{IsSound}
use Rattle.ns_verify.specs.Chains.{around, body_around, body_at}
use Rattle.ns_verify.specs.Uses.{HasBlock, StandsInside}
use Rattle.ns_moves.specs.Lawful.{body_out, IsBlockOf}
use Rattle.ns_moves.specs.Steps.{place_in}
use Rattle.ns_moves.proofs.FramesKnown.{SoundKnown}
use Rattle.ns_moves.specs.laws.Levels.{around_is}

-- ---- selectors, places and operands in their fields

or_first : (b c : Bool) → b ≡ true → (b || c) ≡ true
or_first true c e = refl
or_first false c e = absurd (cc)

pub is_selector : (code : CodeProgram) (number : ℕ) → number < length code.names → is_selector_number code number ≡ true
is_selector code number inside = or_first (nat_lt number (length code.names)) _ (lt-ltb number (length code.names) inside)

pub body_fits : (code : CodeProgram) (number : ℕ) (body : BodyCode) → Fits code → slice_get code.bodies number ≡ Some body →
    BodyFits code body
body_fits code number body fits e =
    subst (BodyFits code) (get_or_from_slice_get code.bodies number body body e) (fits.bodies number body (slice_get_within code.bodies number body e))

pub instr_fits : (code : CodeProgram) (number at : ℕ) (body : BodyCode) (instr : Instr) → Fits code →
    slice_get code.bodies number ≡ Some body
    → slice_get body.instrs at ≡ Some instr → InstrFits instr
instr_fits code number at body instr fits e f =
    subst InstrFits (get_or_from_slice_get body.instrs at instr instr f)
    ((body_fits code number body fits e).instrs at instr (slice_get_within body.instrs at instr f))

-- a place among those of a body is in a file
pub place_there : (code : CodeProgram) (body : BodyCode) (places : List (ℕ × SourcePlace)) (at : ℕ) → All (PlaceFits code body) places
    → ForSome (place_in places at) (λ (place : SourcePlace). place.file < length code.files)
place_there code body [] at all = λ place e. absurd (cc)
place_there code body (entry ∷ places) at all =
    tested (entry.0 == at) (all 0 entry (omega arith)).file (place_there code body places at (λ i d h. all (suc i) d (omega (arith, h))))
  where
    tested : (b : Bool) → entry.1.file < length code.files → ForSome (place_in places at) (λ (place : SourcePlace). place.file < length code.files)
        → ForSome (cond b (Some entry.1) (place_in places at)) (λ (place : SourcePlace). place.file < length code.files)
    tested true here others = λ place e. let same : entry.1 ≡ place = cc in subst (λ (place : SourcePlace). place.file < length code.files) same here
    tested false here others = others

pub place_fits : (code : CodeProgram) (number at : ℕ) (body : BodyCode) → Fits code → slice_get code.bodies number ≡ Some body
    → ForSome (place_in body.places at) (λ (place : SourcePlace). place.file < length code.files)
place_fits code number at body fits e = place_there code body body.places at (body_fits code number body fits e).places

out_is : (code : CodeProgram) (number hops out : ℕ) → body_at code hops number ≡ Some out → body_out code number hops ≡ Some out
out_is code number zero out e = e
out_is code number (suc hops) out e = mid (body_at code hops number) refl e (λ between f. out_is code number hops between f)
  where
    mid : (o : Option ℕ) → body_at code hops number ≡ o → option_and_then (body_around code) o ≡ Some out
        → ((between : ℕ) → body_at code hops number ≡ Some between → body_out code number hops ≡ Some between) → body_out code number (suc hops) ≡ Some out
    mid (Some between) f e goes = ap (option_and_then (parent_of code)) (goes between f) ∙ around_is code between out e
    mid None f e goes = absurd (cc)

pub out_there : (code : CodeProgram) (number hops out : ℕ) → body_at code hops number ≡ Some out → IsSome (body_out code number hops)
out_there code number hops out e = rw (out_is code number hops out e) refl

-- ---- blocks

pub block_in : (known : SoundKnown) (code : CodeProgram) (number block : ℕ) (body : BodyCode) → IsSound code →
    slice_get code.bodies number ≡ Some body
    → HasBlock code number block → IsBlockOf code block number
block_in known code number block body sound there (inner, inner_is, kind, parent) =
    inside ((known.stands code block inner sound inner_is).block kind)
  where
    inside : StandsInside code block inner → IsBlockOf code block number
    inside (outer, holder, is, below, holder_is, class, side, env) =
        let both : Some number ≡ Some outer = sym parent ∙ is in
        let same : number ≡ outer = cc in
        let one : Some holder ≡ Some body = sym holder_is ∙ (ap (slice_get code.bodies) (sym same) ∙ there) in
        let own : holder ≡ body = cc in
        record {
          inner = inner;
          outer = body;
          inner_is = inner_is;
          outer_is = there;
          kind = kind;
          parent = parent;
          class = sym class ∙ ap (λ (b : BodyCode). b.class) own;
          side = sym side ∙ ap (λ (b : BodyCode). b.side) own;
          around = ap (λ (b : BodyCode). b.environment) (sym own) ∙ env;
        }
