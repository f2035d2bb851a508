-- How names, operators, keys and reserved words are spelled (Newspeak's lexical rules, as this profile has them).
use Rattle.std.specs.Prelude.{ℕ, List, [], ◌∷◌, Bool, true, false, ◌==◌, ◌&&◌, ◌||◌, nat_le, codes, if◌then◌else◌}
use Rattle.std.specs.List.{list_any, list_all}
use Rattle.std.specs.Str.{bytes_eq}

-- 0 to 9
abbrev pub is_digit : ℕ → Bool
is_digit byte = nat_le 48 byte && nat_le byte 57

-- a letter of ASCII or an underscore, with which an identifier begins
abbrev pub begins_name : ℕ → Bool
begins_name byte = (nat_le 65 byte && nat_le byte 90) || (nat_le 97 byte && nat_le byte 122) || byte == 95

-- whether a text begins as an identifier does
abbrev pub starts_name : List ℕ → Bool
starts_name [] = false
starts_name (byte ∷ bytes) = begins_name byte

-- a letter, a digit or an underscore
abbrev pub goes_on_name : ℕ → Bool
goes_on_name byte = begins_name byte || is_digit byte

-- the text of an identifier, reserved or not
abbrev pub is_identifier : List ℕ → Bool
is_identifier [] = false
is_identifier (byte ∷ bytes) = begins_name byte && list_all goes_on_name bytes

-- the rest of a text of keys, where an identifier has begun or not
abbrev pub are_keys : Bool → List ℕ → Bool
are_keys true [] = false
are_keys false [] = true
are_keys true (byte ∷ bytes) = if byte == 58 then are_keys false bytes else goes_on_name byte && are_keys true bytes
are_keys false (byte ∷ bytes) = begins_name byte && are_keys true bytes

-- one or more identifiers, each with a colon behind it
abbrev pub is_keyword : List ℕ → Bool
is_keyword [] = false
is_keyword (byte ∷ bytes) = are_keys false (byte ∷ bytes)

-- one of + - * / \ ~ < > = @ % | & ? , !
abbrev pub is_operator_byte : ℕ → Bool
is_operator_byte byte = list_any (λ c. byte == c) (codes "+-*/\\~<>=@%|&?,!")

-- the text of an operator: a run of such characters, or the two of mixin application
abbrev pub is_operator : List ℕ → Bool
is_operator [] = false
is_operator (byte ∷ bytes) = list_all is_operator_byte (byte ∷ bytes) || bytes_eq (byte ∷ bytes) (codes "<:")

-- what can be a selector
abbrev pub is_selector : List ℕ → Bool
is_selector text = is_identifier text || is_operator text || is_keyword text

-- the words that name nothing
abbrev pub reserved_words : List (List ℕ)
reserved_words =
    codes "class" ∷ codes "public" ∷ codes "protected" ∷ codes "private"
    ∷ codes "self" ∷ codes "super" ∷ codes "outer" ∷ codes "true" ∷ codes "false" ∷ codes "nil" ∷ []

abbrev pub is_reserved : List ℕ → Bool
is_reserved text = list_any (bytes_eq text) reserved_words
