-- The shapes of bodies: how many locals a body and those around it have.
use Rattle.std.specs.Prelude.{◌≡◌, ◌≢◌, ◌≤◌, ℕ, List, length, slice_get, Option, Some, None}
use Rattle.ns_code.specs.declared.program.CodeProgram.{CodeProgram}
use Rattle.ns_code.specs.declared.body.BodyCode.{BodyCode}

-- Two bodies have one shape.
pub record HaveShape (shapes : List ℕ) (one other : ℕ) : Type 0 where
  pub shape : ℕ
  pub has_one : slice_get shapes one ≡ Some shape
  pub has_other : slice_get shapes other ≡ Some shape

-- The bodies around two have one shape, or there are none.
abbrev pub AreAlike : List ℕ → Option ℕ → Option ℕ → Type 0
AreAlike shapes None None = Unit {0}
AreAlike shapes None (Some other) = ⊥
AreAlike shapes (Some one) None = ⊥
AreAlike shapes (Some one) (Some other) = HaveShape shapes one other

-- A body is like that of a number: it has as many locals, and what is around it has the same shape.
pub record IsTwin (code : CodeProgram) (shapes : List ℕ) (body : BodyCode) (number : ℕ) : Type 0 where
  pub other : BodyCode
  pub there : slice_get code.bodies number ≡ Some other
  pub locals : body.locals ≡ other.locals
  pub around : AreAlike shapes body.parent other.parent

-- The shape of the body of a number is told by that number, or by that of a body that is like it.
abbrev pub IsShape : CodeProgram → List ℕ → ℕ → BodyCode → ℕ → Type 0
IsShape code shapes number body shape = number ≢ shape → IsTwin code shapes body shape

-- The shapes of the first bodies.
pub record AreShapes (code : CodeProgram) (shapes : List ℕ) : Type 0 where
  pub few : length shapes ≤ length code.bodies
  pub each : (number shape : ℕ) (body : BodyCode) → slice_get code.bodies number ≡ Some body → slice_get shapes number ≡ Some shape
      → IsShape code shapes number body shape
