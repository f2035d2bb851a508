-- The tokens that cut a source have texts.
use Rattle.std.proofs.Common.{◌≡◌, ℕ, ◌+◌, ◌⊎◌, inl, inr, List, [], ◌∷◌, ◌++◌, length, Some, None, Bool, true, false, ◌&&◌, ◌||◌, if◌then◌else◌, IsTrue, refl, sym, ap, subst, ◌∙◌, arith, codes}
use Rattle.std.proofs.lemmas.List.{append-nil}
use Rattle.std.specs.List.{list_all}
use Rattle.std.specs.Str.{bytes_eq}
use Rattle.ns_base.specs.Spelling.{goes_on_name, is_identifier, is_operator_byte, is_operator, is_reserved}
use Rattle.ns_tree.specs.declared.token.Kind.{Kind}
use Rattle.ns_tree.specs.declared.token.Kind.TheVariants as k
use Rattle.ns_tree.specs.declared.token.Reserved.TheVariants as words
use Rattle.ns_tree.specs.declared.token.Token.{Token}
use Rattle.ns_tree.specs.Tokens.{kinds}
use Rattle.ns_tree.specs.Tree as tree
use Rattle.ns_lex.specs.Lexes.{Cuts}
use Rattle.ns_lex.specs.Piece.{Text}
use Rattle.ns_lex.specs.Spells.{AllOf, IsIdentifierText, IsKeyText, IsKeysText, IsOperator, SpellsToken}
use Rattle.ns_lex.specs.Word.{reserved}
use Rattle.ns_lex.specs.laws.Stands.{stands_spells}

-- ---- names

both : (x y : Bool) → x ≡ true → y ≡ true → (x && y) ≡ true
both true y e h = h
both false y e h = absurd cc

all_in_name : (t : Text) → AllOf goes_on_name t → list_all goes_on_name t ≡ true
all_in_name [] h = refl
all_in_name (b ∷ t) h = both _ _ h.0 (all_in_name t h.1)

name_told : (t : Text) → IsIdentifierText t → IsTrue (is_identifier t)
name_told [] h = absurd h
name_told (b ∷ t) h = both _ _ h.0 (all_in_name t h.1)

-- what is none of the reserved words
none_of : (a b c d e f g h i j : Bool) → (if a then Some words.Class else (if b then Some words.Public else (if c then Some words.Protected else (if d then Some words.Private else (if e then Some words.SelfWord else (if f then Some words.Super else (if g then Some words.Outer else (if h then Some words.True else (if i then Some words.False else (if j then Some words.Nil else None)))))))))) ≡ None → (a || (b || (c || (d || (e || (f || (g || (h || (i || (j || false)))))))))) ≡ false
none_of true b c d e f g h i j x = absurd cc
none_of false true c d e f g h i j x = absurd cc
none_of false false true d e f g h i j x = absurd cc
none_of false false false true e f g h i j x = absurd cc
none_of false false false false true f g h i j x = absurd cc
none_of false false false false false true g h i j x = absurd cc
none_of false false false false false false true h i j x = absurd cc
none_of false false false false false false false true i j x = absurd cc
none_of false false false false false false false false true j x = absurd cc
none_of false false false false false false false false false true x = absurd cc
none_of false false false false false false false false false false x = refl

not_reserved : (t : Text) → reserved t ≡ None → is_reserved t ≡ false
not_reserved t x =
    none_of (bytes_eq t (codes "class")) (bytes_eq t (codes "public")) (bytes_eq t (codes "protected")) (bytes_eq t (codes "private")) (bytes_eq t (codes "self")) (bytes_eq t (codes "super")) (bytes_eq t (codes "outer")) (bytes_eq t (codes "true")) (bytes_eq t (codes "false")) (bytes_eq t (codes "nil")) x

-- ---- keys

key_told : (t : Text) → IsKeyText t → tree.IsKey t
key_told t (n, name, e) = (n, name_told n name, e)

-- one key more
keys_more : (n t u : Text) → IsKeyText n → t ≡ n ++ u → tree.IsKeys u → tree.IsKeys t
keys_more n t u (name, is, e) cut (names, all, some, same) =
    (name ∷ names, both _ _ (name_told name is) all, (λ f. cc (f)), cut ∙ ap (λ w. w ++ u) e ∙ ap (λ w. (name ++ 58 ∷ []) ++ w) same)

keys_told : (t : Text) (ks : List Text) → IsKeysText t ks → tree.IsKeys t
keys_told t [] h = absurd h
keys_told t (n ∷ []) (key, e) = let x : tree.IsKey t = key_told t (subst IsKeyText (sym e) key) in
    (x.0 ∷ [], both _ _ x.1 refl, (λ f. cc (f)), x.2 ∙ sym (append-nil (x.0 ++ 58 ∷ [])))
keys_told t (n ∷ m ∷ ns) (key, (u, cut, more)) = keys_more n t u key cut (keys_told u (m ∷ ns) more)

-- ---- operators

all_operators : (t : Text) → AllOf is_operator_byte t → list_all is_operator_byte t ≡ true
all_operators [] h = refl
all_operators (b ∷ t) h = both _ _ h.0 (all_operators t h.1)

or_first : (x y : Bool) → x ≡ true → (x || y) ≡ true
or_first true y e = refl
or_first false y e = absurd cc

operator_told : (t : Text) → IsOperator t → IsTrue (is_operator t)
operator_told [] (inl h) = absurd (omega (arith, h.0))
operator_told [] (inr e) = absurd cc
operator_told (b ∷ t) (inl h) = or_first _ _ (all_operators (b ∷ t) h.1)
operator_told (b ∷ t) (inr e) = ap is_operator e

-- ---- tokens

symbol_told : (s : Text) → (IsIdentifierText s ⊎ ((ks : List Text) × IsKeysText s ks) ⊎ IsOperator s) → tree.HasText (k.Symbol s)
symbol_told s (inl h) = inl (name_told s h)
symbol_told s (inr (inl (ks, h))) = inr (inr (keys_told s ks h))
symbol_told s (inr (inr h)) = inr (inl (operator_told s h))

-- A token that some text spells has a text.
pub token_told : (w : Text) (kind : Kind) → SpellsToken w kind → tree.HasText kind
token_told w (k.Ident s) h = (name_told s h.0, not_reserved s h.2)
token_told w (k.Key s) h = key_told s h.0
token_told w (k.SetKey s) h = name_told s h.0
token_told w (k.Oper s) h = operator_told s h.0
token_told w (k.Number v) h = h.3
token_told w (k.Symbol s) h = symbol_told s h.0
token_told w _ h = tt

-- The tokens that cut a text have texts.
pub cuts_told : (at : ℕ) (z : Text) (ts : List Token) (behind : ℕ) (rest : Text) → Cuts at z ts behind rest → tree.AllHaveText (kinds ts)
cuts_told at z [] behind rest x = tt
cuts_told at z (t ∷ ts) behind rest (g, w, q, s, more) =
    (token_told w t.kind (stands_spells w q t.kind s.next.0), cuts_told (at + length g + length w) q ts behind rest more)
