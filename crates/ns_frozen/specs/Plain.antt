-- Values in little memory.
use Rattle.std.specs.Int.{w32, w64, from_le_bytes, cast_signed}
use Rattle.ns_world.specs.declared.value.Value.{Value}
use Rattle.ns_world.specs.declared.value.Value.TheVariants as value
use Rattle.ns_frozen.specs.declared.plain.Parts.{Parts}
use Rattle.ns_frozen.specs.declared.plain.Parts.TheVariants as parts

-- the value of these parts, whose numbers are bytes, the least first
abbrev pub value_of : Parts → Value
value_of parts.Nil = value.Nil
value_of parts.True = value.True
value_of parts.False = value.False
value_of (parts.Int bytes) = value.Int (cast_signed w64 (from_le_bytes w64 bytes))
value_of (parts.Sym bytes) = value.Sym (record { 0 = from_le_bytes w32 bytes })
value_of (parts.Kernel class) = value.Kernel class
value_of (parts.Ref bytes) = value.Ref (from_le_bytes w32 bytes)
