-- The canonical text of tokens.
use Rattle.std.specs.Prelude.{ℕ, List, [], ◌∷◌, ◌++◌, flat_map, decimal, codes}
use Rattle.ns_tree.specs.declared.token.Kind.{Kind}
use Rattle.ns_tree.specs.declared.token.Kind.TheVariants as k
use Rattle.ns_tree.specs.declared.token.Reserved.{Reserved}
use Rattle.ns_tree.specs.declared.token.Reserved.TheVariants as r
use Rattle.ns_base.specs.Quoted.{doubled}

abbrev pub word : Reserved → List ℕ
word r.Class = codes "class"
word r.Public = codes "public"
word r.Protected = codes "protected"
word r.Private = codes "private"
word r.SelfWord = codes "self"
word r.Super = codes "super"
word r.Outer = codes "outer"
word r.True = codes "true"
word r.False = codes "false"
word r.Nil = codes "nil"

-- the text of a token
abbrev pub spell : Kind → List ℕ
spell (k.Ident text) = text
spell (k.Word reserved) = word reserved
spell (k.Key text) = text
spell (k.SetKey text) = text ++ codes "::"
spell (k.Oper text) = text
spell (k.Number size) = decimal size
spell (k.Str text) = 39 ∷ (doubled text ++ 39 ∷ [])
spell (k.Symbol text) = 35 ∷ text
spell k.Open = codes "("
spell k.Close = codes ")"
spell k.OpenBlock = codes "["
spell k.CloseBlock = codes "]"
spell k.OpenTuple = codes "{"
spell k.CloseTuple = codes "}"
spell k.Stop = codes "."
spell k.Semi = codes ";"
spell k.Caret = codes "^"
spell k.Colon = codes ":"
spell k.SlotSet = codes "::="

-- what stands between a token and the next: a line feed behind a full stop, else a blank
abbrev pub gap : Kind → ℕ
gap k.Stop = 10
gap _ = 32

-- tokens, each with the gap behind it
abbrev pub lines : List Kind → List ℕ
lines = flat_map (λ kind. spell kind ++ gap kind ∷ [])

-- tokens with a gap between two, and a line feed at the end
abbrev pub printed : List Kind → List ℕ
printed [] = 10 ∷ []
printed (kind ∷ []) = spell kind ++ 10 ∷ []
printed (kind ∷ next ∷ rest) = spell kind ++ gap kind ∷ printed (next ∷ rest)
