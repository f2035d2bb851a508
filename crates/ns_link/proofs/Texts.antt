-- What the texts of tokens are: identifiers, and how many arguments a text takes.
use Rattle.std.proofs.Common.{◌≡◌, ℕ, ◌+◌, List, [], ◌∷◌, length, refl, ap, ◌∙◌, arith}
use Rattle.std.specs.Prelude.{true, false, flat_map, if◌then◌else◌}
use Rattle.ns_base.specs.Spelling.{starts_name, is_identifier, is_operator}
use Rattle.ns_tree.specs.declared.tree.Named.{Named}
use Rattle.ns_tree.specs.Tree.{IsKey}
use Rattle.ns_code.specs.Selector.{text_arity}
use Rattle.ns_link.specs.laws.Texts.{colons, none_in_identifier, colons_both, starts_arity, name_starts, key_colons, starts_left, key_starts}

-- a text that doesn't takes one
pub operator_arity : (text : List ℕ) → is_operator text ≡ true → starts_name text ≡ false → text_arity text ≡ 1
operator_arity [] o h = absurd (let f : false ≡ true = o in cc)
operator_arity (byte ∷ bytes) o h = ap (λ b. if b then colons (byte ∷ bytes) else 1) h

pub identifier_arity : (text : List ℕ) → is_identifier text ≡ true → text_arity text ≡ 0
identifier_arity text h = starts_arity text (name_starts text h) ∙ none_in_identifier text h

-- ---- keys

-- each of these texts is a name and a colon
abbrev pub AreKeys : List Named → Type 0
AreKeys [] = Unit {0}
AreKeys (key ∷ keys) = IsKey key.text × AreKeys keys

keys_colons : (keys : List Named) → AreKeys keys → colons (flat_map (λ key. key.text) keys) ≡ length keys
keys_colons [] h = refl
keys_colons (key ∷ keys) h =
    colons_both key.text (flat_map (λ key. key.text) keys)
    ∙ ap (λ n. n + colons (flat_map (λ key. key.text) keys)) (key_colons key.text h.0)
    ∙ ap (λ n. 1 + n) (keys_colons keys h.1)
    ∙ omega arith

-- the selector of some keys takes one argument for each
pub keys_arity : (key : Named) (keys : List Named) → AreKeys (key ∷ keys) →
    text_arity (flat_map (λ key. key.text) (key ∷ keys)) ≡ length (key ∷ keys)
keys_arity key keys h =
    starts_arity (flat_map (λ key. key.text) (key ∷ keys)) (starts_left key.text (flat_map (λ key. key.text) keys) (key_starts key.text h.0))
    ∙ keys_colons (key ∷ keys) h
