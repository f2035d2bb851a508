-- What is found once: for a whole code, and for what stands around one of its bodies.
use Rattle.std.specs.Prelude.{◌≡◌, ℕ, zero, suc, ◌<◌, List, [], ◌∷◌, Option, slice_get}
use Rattle.std.specs.List.{AllZip}
use Rattle.std.specs.Option.{option_map_or, option_and_then}
use Rattle.ns_code.specs.declared.program.CodeProgram.{CodeProgram}
use Rattle.ns_verify_members.specs.Numbers.{IsNameTable, IsPrivatesOf}
use Rattle.ns_verify.specs.declared.tables.Tables.{Tables}
use Rattle.ns_verify.specs.declared.around.Around.{Around}
use Rattle.ns_verify.specs.Chains.{outer_of, body_around, declaration_at, body_at}

-- what stands around one, by a table of what stands around each
abbrev pub around_in : List (Option ℕ) → ℕ → Option ℕ
around_in table number = option_and_then (λ around. around) (slice_get table number)

-- those that are met outwards, from one on, so many at most
unfoldable pub outwards : List (Option ℕ) → ℕ → Option ℕ → List ℕ
outwards table zero next = []
outwards table (suc most) next = option_map_or (λ number. number ∷ outwards table most (around_in table number)) next []

-- The names, the private members of each class, the declaration around each class and the body around each body.
pub record AreTablesOf (code : CodeProgram) (tables : Tables) : Type 0 where
  pub names : IsNameTable code tables.names
  pub privates : AllZip (IsPrivatesOf code) code.classes tables.privates
  pub outers : (number : ℕ) → around_in tables.outers number ≡ outer_of code number
  pub arounds : (number : ℕ) → around_in tables.arounds number ≡ body_around code number

-- The declarations around a class, itself first, and the bodies around a body, as far as an instruction reaches.
pub record IsAround (code : CodeProgram) (number class : ℕ) (around : Around) : Type 0 where
  pub declarations : (level : ℕ) → level < 256 → slice_get around.declarations level ≡ declaration_at code level class
  pub bodies : (hops : ℕ) → hops < 256 → slice_get around.bodies hops ≡ body_at code hops number
