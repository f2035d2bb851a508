-- Classes of bytes.
use Rattle.std.specs.Prelude.{ℕ, Bool, ◌==◌, ◌||◌}
use Rattle.ns_base.specs.Spelling.{is_digit, goes_on_name, is_operator_byte}
use Rattle.ns_lex.specs.declared.bytes.ByteClass.{ByteClass}
use Rattle.ns_lex.specs.declared.bytes.ByteClass.TheVariants as class

-- a tab, a line feed, a form feed, a carriage return or a space
abbrev pub is_blank : ℕ → Bool
is_blank b = b == 9 || b == 10 || b == 12 || b == 13 || b == 32

-- the byte is of the class
abbrev pub is_in : ByteClass → ℕ → Bool
is_in class.Digit b = is_digit b
is_in class.Name b = goes_on_name b
is_in class.Operator b = is_operator_byte b
