-- Values of JSON and their text (RFC 8259; this profile writes no blank outside of strings, and each character is a byte).
use Rattle.std.specs.Prelude.{ℕ, zero, suc, ◌+◌, ◌/◌, ◌%◌, List, [], ◌∷◌, ◌++◌, map, flat_map, Bool, ◌&&◌, not, ◌==◌, nat_lt, if◌then◌else◌}
use Rattle.std.specs.Int.Digits.{digits_of}

-- ---- strings

-- a hexadecimal digit, in small letters
abbrev pub hex_digit : ℕ → ℕ
hex_digit n = if nat_lt n 10 then 48 + n else 87 + n

-- whether a byte stands for itself: the printed characters of ASCII do, but for the quotation mark and the backslash
abbrev pub is_plain : ℕ → Bool
is_plain byte = nat_lt 31 byte && nat_lt byte 127 && not (byte == 34) && not (byte == 92)

-- any other byte, as `\u00` and its two hexadecimal digits
abbrev pub escape : ℕ → List ℕ
escape byte = 92 ∷ 117 ∷ 48 ∷ 48 ∷ hex_digit (byte / 16) ∷ hex_digit (byte % 16) ∷ []

abbrev pub character : ℕ → List ℕ
character byte = if is_plain byte then byte ∷ [] else escape byte

-- bytes, one character for each
abbrev pub characters : List ℕ → List ℕ
characters bytes = flat_map character bytes

-- a string of them
abbrev pub string_text : List ℕ → List ℕ
string_text bytes = 34 ∷ characters bytes ++ 34 ∷ []

-- ---- numbers

-- a number in decimal, without a zero in front
abbrev pub number_text : ℕ → List ℕ
number_text zero = 48 ∷ []
number_text (suc n) = map (λ digit. 48 + digit) (digits_of 10 (suc n))

-- ---- values

mutual
  -- a string, a number, an array of values, or an object of members
  pub data Value : Type 0 where
    string : (bytes : List ℕ) → Value
    number : (n : ℕ) → Value
    array : (elements : Elements) → Value
    object : (members : Members) → Value

  pub data Elements : Type 0 where
    no_elements : Elements
    more_elements : (value : Value) (more : Elements) → Elements

  pub data Members : Type 0 where
    no_members : Members
    more_members : (name : List ℕ) (value : Value) (more : Members) → Members

-- the text of a value, of elements and of members with commas between them, and of those that stand behind others
abbrev mutual
  pub value_text : Value → List ℕ
  value_text (string bytes) = string_text bytes
  value_text (number n) = number_text n
  value_text (array values) = 91 ∷ elements_text values ++ 93 ∷ []
  value_text (object fields) = 123 ∷ members_text fields ++ 125 ∷ []

  pub elements_text : Elements → List ℕ
  elements_text no_elements = []
  elements_text (more_elements value more) = value_text value ++ elements_behind more

  pub elements_behind : Elements → List ℕ
  elements_behind no_elements = []
  elements_behind (more_elements value more) = 44 ∷ value_text value ++ elements_behind more

  pub members_text : Members → List ℕ
  members_text no_members = []
  members_text (more_members name value more) = string_text name ++ 58 ∷ value_text value ++ members_behind more

  pub members_behind : Members → List ℕ
  members_behind no_members = []
  members_behind (more_members name value more) = 44 ∷ string_text name ++ 58 ∷ value_text value ++ members_behind more

-- ---- values from lists

-- a name and its value
pub record Member : Type 0 where
  pub name : List ℕ
  pub value : Value

abbrev pub elements : List Value → Elements
elements [] = no_elements
elements (value ∷ values) = more_elements value (elements values)

abbrev pub members : List Member → Members
members [] = no_members
members (member ∷ more) = more_members member.name member.value (members more)

-- an array of these values, and an object of these members
abbrev pub array_of : List Value → Value
array_of values = array (elements values)

abbrev pub object_of : List Member → Value
object_of fields = object (members fields)

-- ---- the text of an object, and its parts

-- the text of an object of these members
unfoldable pub object_text : List Member → List ℕ
object_text fields = value_text (object_of fields)

-- an object is opened before its first member
unfoldable pub opened : Member → List ℕ
opened member = 123 ∷ string_text member.name ++ 58 ∷ value_text member.value

-- a member that stands behind others
unfoldable pub behind_comma : Member → List ℕ
behind_comma member = 44 ∷ string_text member.name ++ 58 ∷ value_text member.value

-- members that stand behind others
abbrev pub behind : List Member → List ℕ
behind [] = []
behind (member ∷ more) = behind_comma member ++ behind more

-- ---- members of two kinds

-- a member whose value is a string, and one whose value is a number
abbrev pub texted : (name text : List ℕ) → Member
texted name text = record { name = name; value = string text }

abbrev pub numbered : (name : List ℕ) (n : ℕ) → Member
numbered name n = record { name = name; value = number n }
