-- The booleans of the language.
use Rattle.std.specs.Prelude.{Bool, true, false}
use Rattle.ns_world.specs.declared.value.Value.{Value}
use Rattle.ns_world.specs.declared.value.Value.TheVariants.{True, False}

-- a test as a boolean of the language
abbrev pub truth : Bool → Value
truth true = True
truth false = False

-- whether a value is a boolean
abbrev pub is_boolean : Value → Bool
is_boolean True = true
is_boolean False = true
is_boolean value = false
