-- The canonical text of a token that some text spells spells it.
use Rattle.std.proofs.Common.{◌≡◌, ◌≢◌, ℕ, ◌⊎◌, inl, inr, Bool, true, false, ◌||◌, ◌&&◌, if◌then◌else◌, IsTrue, List, [], ◌∷◌, ◌++◌, Some, None, refl, sym, subst, arith, codes}
use Rattle.std.specs.Prelude.{flat_map}
use Rattle.std.specs.List.{list_all}
use Rattle.std.specs.Str.{bytes_eq}
use Rattle.std.proofs.lemmas.List.{append-nil}
use Rattle.std.proofs.lemmas.Slice.Eq.{bytes_eq-Decides}
use Rattle.ns_base.specs.Spelling.{goes_on_name, is_identifier, is_operator_byte, is_operator, is_reserved}
use Rattle.ns_tree.specs.Tree as tree
use Rattle.ns_tree.specs.declared.token.Kind.{Kind}
use Rattle.ns_tree.specs.declared.token.Kind.TheVariants as k
use Rattle.ns_tree.specs.declared.token.Reserved.{Reserved}
use Rattle.ns_tree.specs.declared.token.Reserved.TheVariants as words
use Rattle.ns_lex.specs.Piece.{Text}
use Rattle.ns_lex.specs.Spells.{AllOf, IsIdentifierText, IsKeyText, IsKeysText, IsOperator, SpellsToken}
use Rattle.ns_lex.specs.Word.{reserved}
use Rattle.ns_print.specs.Printed.{spell, word}
use Rattle.ns_load_laws.proofs.Numerals.{number_spelled}

-- ---- names

parts : (x y : Bool) → (x && y) ≡ true → (x ≡ true) × (y ≡ true)
parts true y h = (refl, h)
parts false y h = absurd cc

in_name : (t : Text) → list_all goes_on_name t ≡ true → AllOf goes_on_name t
in_name [] h = tt
in_name (b ∷ t) h = let x = parts _ _ h in (x.0, in_name t x.1)

name_of : (t : Text) → IsTrue (is_identifier t) → IsIdentifierText t
name_of [] h = absurd cc
name_of (b ∷ t) h = let x = parts _ _ h in (x.0, in_name t x.1)

-- what is none of the reserved words
none_of : (a b c d e f g h i j : Bool) → (a || (b || (c || (d || (e || (f || (g || (h || (i || (j || false)))))))))) ≡ false
    → (if a then Some words.Class else (if b then Some words.Public else (if c then Some words.Protected else (if d then Some words.Private else (if e then Some words.SelfWord else (if f then Some words.Super else (if g then Some words.Outer else (if h then Some words.True else (if i then Some words.False else (if j then Some words.Nil else None)))))))))) ≡ None
none_of true b c d e f g h i j x = absurd cc
none_of false true c d e f g h i j x = absurd cc
none_of false false true d e f g h i j x = absurd cc
none_of false false false true e f g h i j x = absurd cc
none_of false false false false true f g h i j x = absurd cc
none_of false false false false false true g h i j x = absurd cc
none_of false false false false false false true h i j x = absurd cc
none_of false false false false false false false true i j x = absurd cc
none_of false false false false false false false false true j x = absurd cc
none_of false false false false false false false false false true x = absurd cc
none_of false false false false false false false false false false x = refl

not_reserved : (t : Text) → is_reserved t ≡ false → reserved t ≡ None
not_reserved t x =
    none_of (bytes_eq t (codes "class")) (bytes_eq t (codes "public")) (bytes_eq t (codes "protected")) (bytes_eq t (codes "private")) (bytes_eq t (codes "self")) (bytes_eq t (codes "super")) (bytes_eq t (codes "outer")) (bytes_eq t (codes "true")) (bytes_eq t (codes "false")) (bytes_eq t (codes "nil")) x

word_spelled : (w : Reserved) → SpellsToken (word w) (k.Word w)
word_spelled words.Class = (name_of (codes "class") refl, refl)
word_spelled words.Public = (name_of (codes "public") refl, refl)
word_spelled words.Protected = (name_of (codes "protected") refl, refl)
word_spelled words.Private = (name_of (codes "private") refl, refl)
word_spelled words.SelfWord = (name_of (codes "self") refl, refl)
word_spelled words.Super = (name_of (codes "super") refl, refl)
word_spelled words.Outer = (name_of (codes "outer") refl, refl)
word_spelled words.True = (name_of (codes "true") refl, refl)
word_spelled words.False = (name_of (codes "false") refl, refl)
word_spelled words.Nil = (name_of (codes "nil") refl, refl)

-- ---- keys

key_of : (t : Text) → tree.IsKey t → IsKeyText t
key_of t (n, name, e) = (n, name_of n name, e)

-- one key more
keys_more : (n t u : Text) → IsKeyText n → t ≡ n ++ u → ((ks : List Text) × IsKeysText u ks) → (ks : List Text) × IsKeysText t ks
keys_more n t u key cut ([], x) = absurd x
keys_more n t u key cut (m ∷ ks, x) = (n ∷ m ∷ ks, (key, (u, cut, x)))

abbrev with_colons : List Text → Text
with_colons = flat_map (λ name. name ++ 58 ∷ [])

keys_of : (names : List Text) → IsTrue (list_all is_identifier names) → names ≢ [] → (ks : List Text) × IsKeysText (with_colons names) ks
keys_of [] all some = absurd (some refl)
keys_of (n ∷ []) all some = ((n ++ 58 ∷ []) ∷ [], ((n, name_of n (parts _ _ all).0, refl), append-nil (n ++ 58 ∷ [])))
keys_of (n ∷ m ∷ ns) all some =
    let x = parts _ _ all in keys_more (n ++ 58 ∷ []) (with_colons (n ∷ m ∷ ns)) (with_colons (m ∷ ns)) (n, name_of n x.0, refl) refl (keys_of (m ∷ ns) x.1 (λ e. cc (e)))

-- ---- operators

all_operators : (t : Text) → list_all is_operator_byte t ≡ true → AllOf is_operator_byte t
all_operators [] h = tt
all_operators (b ∷ t) h = let x = parts _ _ h in (x.0, all_operators t x.1)

operator_by : (b : ℕ) (t : Text) (run : Bool) → list_all is_operator_byte (b ∷ t) ≡ run → (run || bytes_eq (b ∷ t) (codes "<:")) ≡ true → IsOperator (b ∷ t)
operator_by b t true e h = inl (omega arith, all_operators (b ∷ t) e)
operator_by b t false e h = inr ((bytes_eq-Decides (b ∷ t) (codes "<:")).0 h)

operator_of : (t : Text) → IsTrue (is_operator t) → IsOperator t
operator_of [] h = absurd cc
operator_of (b ∷ t) h = operator_by b t (list_all is_operator_byte (b ∷ t)) refl h

-- ---- each kind

keys_spelled : (s : Text) → tree.IsKeys s → (ks : List Text) × IsKeysText s ks
keys_spelled s (names, all, some, e) = let x = keys_of names all some in (x.0, subst (λ t. IsKeysText t x.0) (sym e) x.1)

symbol_of : (s : Text) → tree.HasText (k.Symbol s) → IsIdentifierText s ⊎ ((ks : List Text) × IsKeysText s ks) ⊎ IsOperator s
symbol_of s (inl h) = inl (name_of s h)
symbol_of s (inr (inl h)) = inr (inr (operator_of s h))
symbol_of s (inr (inr h)) = inr (inl (keys_spelled s h))

-- The canonical text of a token that some text spells spells it.
pub spelled : (kind : Kind) → tree.HasText kind → SpellsToken (spell kind) kind
spelled (k.Ident s) h = (name_of s h.0, refl, not_reserved s h.1)
spelled (k.Word w) h = word_spelled w
spelled (k.Key s) h = (key_of s h, refl)
spelled (k.SetKey s) h = (name_of s h, refl)
spelled (k.Oper s) h = (operator_of s h, refl)
spelled (k.Number v) h = number_spelled v h
spelled (k.Str s) h = refl
spelled (k.Symbol s) h = (symbol_of s h, refl)
spelled k.Open h = refl
spelled k.Close h = refl
spelled k.OpenBlock h = refl
spelled k.CloseBlock h = refl
spelled k.OpenTuple h = refl
spelled k.CloseTuple h = refl
spelled k.Stop h = refl
spelled k.Semi h = refl
spelled k.Caret h = refl
spelled k.Colon h = refl
spelled k.SlotSet h = refl
