-- Which trees the grammar gives, which tokens spell them, and which tokens begin such a spelling.
use Rattle.std.specs.Prelude.{◌≡◌, ◌≢◌, ℕ, ◌≤◌, ◌⊎◌, List, [], ◌∷◌, ◌++◌, false, IsTrue, flat_map}
use Rattle.std.specs.List.{list_all}
use Rattle.ns_base.specs.Spelling.{is_identifier, is_operator, is_reserved}
use Rattle.ns_tree.specs.declared.token.Kind.{Kind}
use Rattle.ns_tree.specs.declared.token.Kind.TheVariants as k
use Rattle.ns_tree.specs.Flat.{flat}
use Rattle.ns_tree.specs.Grammar.{file}
use Rattle.ns_tree.specs.Plain as p

-- a name and a colon
abbrev pub IsKey : List ℕ → Type 0
IsKey text = (name : List ℕ) × IsTrue (is_identifier name) × (text ≡ name ++ 58 ∷ [])

-- one name or more, each with a colon
abbrev pub IsKeys : List ℕ → Type 0
IsKeys text = (names : List (List ℕ)) × IsTrue (list_all is_identifier names) × (names ≢ []) × (text ≡ flat_map (λ name. name ++ 58 ∷ []) names)

-- some text is a token of that kind
abbrev pub HasText : Kind → Type 0
HasText (k.Ident text) = IsTrue (is_identifier text) × (is_reserved text ≡ false)
HasText (k.Key text) = IsKey text
HasText (k.SetKey text) = IsTrue (is_identifier text)
HasText (k.Oper text) = IsTrue (is_operator text)
HasText (k.Number size) = size ≤ 9223372036854775808
HasText (k.Symbol text) = IsTrue (is_identifier text) ⊎ (IsTrue (is_operator text) ⊎ IsKeys text)
HasText _ = Unit {0}

abbrev pub AllHaveText : List Kind → Type 0
AllHaveText [] = Unit {0}
AllHaveText (kind ∷ rest) = HasText kind × AllHaveText rest

-- The grammar gives the unit, each of its places is the number of its token, and each of its tokens has a text.
pub record Tree (unit : p.SourceUnit) : Type 0 where
  pub depth : ℕ
  pub given : (file depth).Good 0 unit
  pub told : AllHaveText (flat unit)

-- The kinds are those of the unit's tokens, and the unit is a tree.
pub record Spells (kinds : List Kind) (unit : p.SourceUnit) : Type 0 where
  pub spelled : kinds ≡ flat unit
  pub tree : Tree unit

-- The kinds are a front of a file, and each has a text.
pub record Front (kinds : List Kind) : Type 0 where
  pub depth : ℕ
  pub front : (file depth).Front 0 kinds
  pub told : AllHaveText kinds

-- The kinds begin the tokens of some tree.
pub record BeginsTree (kinds : List Kind) : Type 0 where
  pub unit : p.SourceUnit
  pub rest : List Kind
  pub tree : Tree unit
  pub begins : flat unit ≡ kinds ++ rest
