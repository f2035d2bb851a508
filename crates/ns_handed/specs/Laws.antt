-- What is said of values that are told and handed over by the laws about them.
use Rattle.std.specs.Prelude.{◌≡◌, ◌<◌, ℕ, true}
use Rattle.ns_handed.specs.Hands.{hand_of, is_of, value_told}
use Rattle.ns_handed.specs.declared.value.Hand.TheVariants as hand
use Rattle.ns_world.specs.declared.value.Value.{Value}
use Rattle.ns_world.specs.declared.value.Value.TheVariants.{Nil, True, False, Int, Sym, Kernel, Ref}

-- The number of a symbol or of a cell has 32 bits, as each has that a field holds.
abbrev pub HasWord : Value → Type 0
HasWord (Sym sel) = sel.0 < 4294967296
HasWord (Ref at) = at < 4294967296
HasWord Nil = Unit {0}
HasWord True = Unit {0}
HasWord False = Unit {0}
HasWord (Int number) = Unit {0}
HasWord (Kernel class) = Unit {0}

-- A value that was told to a host is that value where the host hands it over again, and it is one of that program.
pub record IsHandedBack (program : ℕ) (value : Value) : Type 0 where
  pub value_is : hand_of (value_told program value) ≡ hand.Given value
  pub own : is_of program (value_told program value) ≡ true

-- So it is with each value.
abbrev pub HandsBack : ℕ → Type 0
HandsBack program = (value : Value) → HasWord value → IsHandedBack program value
