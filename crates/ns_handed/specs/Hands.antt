-- What a host hands over, and how it is told a value.
use Rattle.std.specs.Prelude.{ℕ, ◌+◌, ◌==◌, ◌&&◌, ◌||◌, not, ℤ, pos, int_lt, unsigned_abs, List, [], ◌∷◌, map, length, Option, Some, None, Bool, true, false, nat_lt, if◌then◌else◌}
use Rattle.std.specs.List.{list_all}
use Rattle.ns_world.specs.declared.value.Value.{Value}
use Rattle.ns_world.specs.declared.value.Value.TheVariants as value
use Rattle.ns_world.specs.declared.value.KClass.{KClass}
use Rattle.ns_world.specs.declared.value.KClass.TheVariants as class
use Rattle.ns_world.specs.declared.ending.Ending.{Ending}
use Rattle.ns_world.specs.declared.ending.Ending.TheVariants.{Done, Error, Limit}
use Rattle.ns_handed.specs.declared.value.HostValue.{HostValue}
use Rattle.ns_handed.specs.declared.value.Hand.{Hand}
use Rattle.ns_handed.specs.declared.value.Hand.TheVariants as hand

-- ---- what is handed over

-- a number of 32 bits, where it is one
abbrev pub word_of : ℤ → Option ℕ
word_of number = if int_lt number (pos 0) || not (int_lt number (pos 4294967296)) then None else Some (unsigned_abs number)

-- the symbol, the object and the class of the kernel of a number, where it has one
abbrev pub symbol_of : Option ℕ → Hand
symbol_of (Some number) = hand.Given (value.Sym (record { 0 = number }))
symbol_of None = hand.Nothing

abbrev pub object_of : Option ℕ → Hand
object_of (Some number) = hand.Given (value.Ref number)
object_of None = hand.Nothing

abbrev pub class_of : Option ℕ → Hand
class_of (Some number) =
    if number == 0 then hand.Given (value.Kernel class.Object) else if number == 1 then hand.Given (value.Kernel class.Array) else hand.Nothing
class_of None = hand.Nothing

-- a text of so many bytes
abbrev pub text_of : Option ℕ → Hand
text_of (Some size) = hand.Text size
text_of None = hand.Nothing

-- what a host hands over by its kind: nil, true, false, an integer, a symbol, a class of the kernel, an object, a text; any other is nothing
unfoldable pub hand_of : HostValue → Hand
hand_of given =
    if given.kind == 0 then hand.Given value.Nil else
    if given.kind == 1 then hand.Given value.True else
    if given.kind == 2 then hand.Given value.False else
    if given.kind == 3 then hand.Given (value.Int given.number) else
    if given.kind == 4 then symbol_of (word_of given.number) else
    if given.kind == 5 then class_of (word_of given.number) else
    if given.kind == 6 then object_of (word_of given.number) else
    if given.kind == 7 then text_of (word_of given.number) else hand.Nothing

-- all that is handed over
abbrev pub hands_of : List HostValue → List Hand
hands_of = map hand_of

-- whether it is something
abbrev pub is_hand : Hand → Bool
is_hand (hand.Given v) = true
is_hand (hand.Text size) = true
is_hand hand.Nothing = false

-- whether a value that is handed over is one
abbrev pub is_given : HostValue → Bool
is_given given = is_hand (hand_of given)

-- how many bytes of texts one takes
abbrev pub text_size : Hand → ℕ
text_size (hand.Given v) = 0
text_size (hand.Text size) = size
text_size hand.Nothing = 0

-- and all together
abbrev pub text_bytes : List Hand → ℕ
text_bytes [] = 0
text_bytes (hand ∷ hands) = text_size hand + text_bytes hands

-- whether a question is well formed: there is a receiver, each value is one, and the texts come to all of the bytes
abbrev pub is_question : List HostValue → List ℕ → Bool
is_question values texts =
    nat_lt 0 (length values) && list_all is_given values && (text_bytes (hands_of values) == length texts)

-- ---- whose it is

-- whether a value is of that program; any program has the values that aren't symbols or objects
abbrev pub is_of : ℕ → HostValue → Bool
is_of program given = if given.kind == 4 || given.kind == 6 then given.program == program else true

-- whether all are
abbrev pub are_of : ℕ → List HostValue → Bool
are_of program values = list_all (is_of program) values

-- ---- what is told

-- the number of a class of the kernel
abbrev pub class_number : KClass → ℤ
class_number class.Object = pos 0
class_number class.Array = pos 1

-- no value, where a run goes on or has ended without one
abbrev pub no_value : HostValue
no_value = record { kind = 8; number = pos 0; program = 0 }

-- a value of a program, by its kind and its number
abbrev pub value_told : ℕ → Value → HostValue
value_told program value.Nil = record { kind = 0; number = pos 0; program = program }
value_told program value.True = record { kind = 1; number = pos 0; program = program }
value_told program value.False = record { kind = 2; number = pos 0; program = program }
value_told program (value.Int number) = record { kind = 3; number = number; program = program }
value_told program (value.Sym sel) = record { kind = 4; number = pos sel.0; program = program }
value_told program (value.Kernel c) = record { kind = 5; number = class_number c; program = program }
value_told program (value.Ref at) = record { kind = 6; number = pos at; program = program }

-- the value with which a run has ended
abbrev pub value_at : ℕ → Option Ending → HostValue
value_at program (Some (Done v)) = value_told program v
value_at program (Some (Error error)) = no_value
value_at program (Some (Limit limit)) = no_value
value_at program None = no_value
