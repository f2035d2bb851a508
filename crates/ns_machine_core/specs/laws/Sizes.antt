-- Where the frame of a body stands, and how large it is.
use Rattle.std.proofs.Common.{◌≡◌, ℕ, ◌+◌, ◌≤◌, List, [], ◌∷◌, refl, subst, arith, Option, Some, None, Bool, true, false, slice_get}
use Rattle.std.specs.Prelude.{zero, suc}
use Rattle.std.specs.Option.{option_map_or}
use Rattle.ns_code.specs.declared.program.CodeProgram.{CodeProgram}
use Rattle.ns_code.specs.declared.body.BodyCode.{BodyCode}
use Rattle.ns_moves.specs.declared.control.Entered.{Entered}
use Rattle.ns_moves.specs.declared.control.Given.{Given}
use Rattle.ns_moves.specs.declared.control.Given.TheVariants as given
use Rattle.ns_moves.specs.Bodies as bodies
use Rattle.ns_machine_frames.specs.declared.calls.BodyShape.{BodyShape}
use Rattle.ns_machine_frames.specs.declared.calls.Call.{Call}
use Rattle.ns_machine_frames.specs.Calls.{frame_for}
use Rattle.ns_moves.specs.Bodies.{height_in, greatest_of}

-- a body's frame is no greater than the greatest
greatest_is : (bodies : List BodyCode) (number : ℕ) (body : BodyCode) → slice_get bodies number ≡ Some body →
    body.locals + body.height ≤ greatest_of bodies
greatest_is [] number body e = absurd (cc)
greatest_is (first ∷ bodies) zero body e =
    let same : first ≡ body = cc in
    subst (λ (b : BodyCode). b.locals + b.height ≤ greatest_of (first ∷ bodies)) same (omega arith)
greatest_is (first ∷ bodies) (suc number) body e = let rest = greatest_is bodies number body e in omega (arith, rest)

-- A body's locals and height are within the largest of the code.
pub size_fits : (code : CodeProgram) (body : ℕ) → bodies.locals_of code body + height_in code body ≤ greatest_of code.bodies
size_fits code body = by_body (slice_get code.bodies body) refl
  where
    by_body : (o : Option BodyCode) → slice_get code.bodies body ≡ o
        → option_map_or (λ (b : BodyCode). b.locals) o 0 + option_map_or (λ (b : BodyCode). b.height) o 0 ≤ greatest_of code.bodies
    by_body (Some b) e = greatest_is code.bodies body b e
    by_body None e = omega arith

-- where its frame stands
pub frame_floor : (shape : BodyShape) (call : Call) (entered : Entered) → (frame_for shape call entered).floor ≡ call.floor
frame_floor shape call entered = by_environment shape.environment
  where
    by_environment : (b : Bool) → (frame_for (record shape { environment = b }) call entered).floor ≡ call.floor
    by_environment true = refl
    by_environment false = refl

-- The base of a frame is no higher than its first local.
pub frame_base : (shape : BodyShape) (call : Call) (entered : Entered) → call.floor ≤ call.first →
    (frame_for shape call entered).base ≤ call.first
frame_base shape call entered low = by_environment shape.environment entered.given
  where
    by_environment : (b : Bool) (g : Given) → (frame_for (record shape { environment = b }) call (record entered { given = g })).base ≤ call.first
    by_environment true g = low
    by_environment false given.Listed = omega arith
    by_environment false (given.Message at) = low
    by_environment false (given.Items at) = omega arith

-- A frame is no larger than the largest body.
pub frame_size : (shape : BodyShape) (call : Call) (entered : Entered) (most : ℕ) → shape.locals + shape.height ≤ most
    → (frame_for shape call entered).operands + shape.height ≤ (frame_for shape call entered).base + most
frame_size shape call entered most fits = by_environment shape.environment entered.given
  where
    by_environment : (b : Bool) (g : Given)
        → (frame_for (record shape { environment = b }) call (record entered { given = g })).operands + shape.height
        ≤ (frame_for (record shape { environment = b }) call (record entered { given = g })).base + most
    by_environment true g = omega (arith, fits)
    by_environment false given.Listed = omega (arith, fits)
    by_environment false (given.Message at) = omega (arith, fits)
    by_environment false (given.Items at) = omega (arith, fits)
