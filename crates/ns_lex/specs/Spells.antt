-- Which text spells which token.
use Rattle.std.specs.Prelude.{◌≡◌, ℕ, ◌≤◌, ◌<◌, ◌⊎◌, Bool, true, List, [], ◌∷◌, ◌++◌, length, Some, None}
use Rattle.ns_tree.specs.declared.token.Kind.{Kind}
use Rattle.ns_tree.specs.declared.token.Kind.TheVariants as k
use Rattle.ns_lex.specs.Piece.{Text}
use Rattle.ns_lex.specs.Word.{reserved}
use Rattle.ns_lex.specs.Number.{value, greatest}
use Rattle.ns_base.specs.Quoted.{doubled}
use Rattle.ns_base.specs.Spelling.{is_digit, begins_name, goes_on_name, is_operator_byte}

-- Each byte passes the test.
abbrev pub AllOf : (ℕ → Bool) → Text → Type 0
AllOf p [] = Unit {0}
AllOf p (b ∷ t) = (p b ≡ true) × AllOf p t

-- The text is an identifier's: a letter or _, then letters, digits and _.
abbrev pub IsIdentifierText : Text → Type 0
IsIdentifierText [] = ⊥
IsIdentifierText (b ∷ t) = (begins_name b ≡ true) × AllOf goes_on_name t

-- The text is an identifier's and a colon.
abbrev pub IsKeyText : Text → Type 0
IsKeyText t = (n : Text) × IsIdentifierText n × (t ≡ n ++ 58 ∷ [])

-- The text is one or more keys in a row.
abbrev pub IsKeysText : Text → List Text → Type 0
IsKeysText t [] = ⊥
IsKeysText t (n ∷ []) = IsKeyText n × (t ≡ n)
IsKeysText t (n ∷ m ∷ ns) = IsKeyText n × ((u : Text) × (t ≡ n ++ u) × IsKeysText u (m ∷ ns))

-- The text is a run of operator characters, or `<:`.
abbrev pub IsOperator : Text → Type 0
IsOperator t = ((0 < length t) × AllOf is_operator_byte t) ⊎ (t ≡ 60 ∷ 58 ∷ [])

-- The text spells the token.
abbrev pub SpellsToken : Text → Kind → Type 0
SpellsToken t (k.Ident s) = IsIdentifierText s × (t ≡ s) × (reserved s ≡ None)
SpellsToken t (k.Word w) = IsIdentifierText t × (reserved t ≡ Some w)
SpellsToken t (k.Key s) = IsKeyText s × (t ≡ s)
SpellsToken t (k.SetKey s) = IsIdentifierText s × (t ≡ s ++ 58 ∷ 58 ∷ [])
SpellsToken t (k.Oper s) = IsOperator s × (t ≡ s)
SpellsToken t (k.Number v) = (0 < length t) × AllOf is_digit t × (value t ≡ v) × (v ≤ greatest)
SpellsToken t (k.Str s) = t ≡ 39 ∷ (doubled s ++ 39 ∷ [])
SpellsToken t (k.Symbol s) = (IsIdentifierText s ⊎ ((ks : List Text) × IsKeysText s ks) ⊎ IsOperator s) × (t ≡ 35 ∷ s)
SpellsToken t k.Open = t ≡ 40 ∷ []
SpellsToken t k.Close = t ≡ 41 ∷ []
SpellsToken t k.OpenBlock = t ≡ 91 ∷ []
SpellsToken t k.CloseBlock = t ≡ 93 ∷ []
SpellsToken t k.OpenTuple = t ≡ 123 ∷ []
SpellsToken t k.CloseTuple = t ≡ 125 ∷ []
SpellsToken t k.Stop = t ≡ 46 ∷ []
SpellsToken t k.Semi = t ≡ 59 ∷ []
SpellsToken t k.Caret = t ≡ 94 ∷ []
SpellsToken t k.Colon = t ≡ 58 ∷ []
SpellsToken t k.SlotSet = t ≡ 58 ∷ 58 ∷ 61 ∷ []
