-- The text and the arity of a selector by its number.
use Rattle.std.specs.Prelude.{ℕ, ◌-◌, List, [], ◌∷◌, ◌==◌, nat_lt, length, count_by, if◌then◌else◌, Bool, ◌&&◌, ◌||◌, not, ◌+◌}
use Rattle.std.specs.List.{slice_index_or, list_any}
use Rattle.std.specs.Str.{bytes_eq}
use Rattle.ns_base.specs.Spelling.{begins_name}
use Rattle.ns_code.specs.declared.program.CodeProgram.{CodeProgram}
use Rattle.ns_code.specs.declared.own.Own.{Own}
use Rattle.ns_code.specs.Own.{own_text, own_place, own_texts}

-- the text of the own selector of that place, empty past the last
abbrev pub own_text_at : ℕ → List ℕ
own_text_at place = slice_index_or own_texts place []

-- the text of the selector of that number: a name of the code, or an own selector behind them
abbrev pub selector_text : CodeProgram → ℕ → List ℕ
selector_text code number =
    if nat_lt number (length code.names) then slice_index_or code.names number [] else own_text_at (number - length code.names)

-- how many arguments a text takes: none for an identifier, one for an operator, one for each colon of keys
abbrev pub text_arity : List ℕ → ℕ
text_arity [] = 0
text_arity (byte ∷ bytes) = if begins_name byte then count_by (λ b. b == 58) (byte ∷ bytes) else 1

-- how many arguments the selector of that number takes
abbrev pub selector_arity : CodeProgram → ℕ → ℕ
selector_arity code number = text_arity (selector_text code number)

-- whether the code names that text
abbrev pub has_name : CodeProgram → List ℕ → Bool
has_name code text = list_any (bytes_eq text) code.names

-- whether that number is a selector's: a name of the code, or an own selector that the code doesn't name
abbrev pub is_selector_number : CodeProgram → ℕ → Bool
is_selector_number code number =
    nat_lt number (length code.names)
    || (nat_lt (number - length code.names) (length own_texts) && not (has_name code (own_text_at (number - length code.names))))

-- the number of the first name of that text, counted from a number on, or else another number
abbrev pub name_number : List (List ℕ) → ℕ → List ℕ → ℕ → ℕ
name_number [] number text other = other
name_number (name ∷ names) number text other = if bytes_eq name text then number else name_number names (number + 1) text other

-- the number of an own selector: that of the name where the code names it, else behind the names
abbrev pub own_number : CodeProgram → Own → ℕ
own_number code own = name_number code.names 0 (own_text own) (length code.names + own_place own)
