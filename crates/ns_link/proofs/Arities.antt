-- How many arguments the messages of an expression have.
use Rattle.std.proofs.Common.{◌≡◌, ◌<◌, ℕ, ◌+◌, List, [], ◌∷◌, ◌++◌, length, ◌^◌, refl, sym, ap, ◌∙◌, subst, arith}
use Rattle.std.specs.Prelude.{Bool, true, false, not, ◌||◌, nat_eq, codes}
use Rattle.std.specs.List.{list_any, list_all}
use Rattle.std.specs.Str.{bytes_eq}
use Rattle.std.proofs.lemmas.Bool.{eqb-true}
use Rattle.std.proofs.lemmas.Slice.Eq.{bytes_eq-Decides}
use Rattle.ns_base.specs.Spelling.{begins_name, starts_name, is_operator_byte, is_operator}
use Rattle.ns_tree.specs.Flat.{flat_bin, flat_keys}
use Rattle.ns_tree.specs.Plain as p
use Rattle.ns_tree.specs.Tree.{AllHaveText}
use Rattle.ns_scope.specs.Bodies.{bin_blocks}
use Rattle.ns_code.specs.Selector.{text_arity}
use Rattle.ns_static_rules.specs.declared.fault.Many.TheVariants as many
use Rattle.ns_static_rules.specs.Faults.{key_places, keywords_found}
use Rattle.ns_resolved.specs.Uses.{how_many}
use Rattle.ns_resolved.specs.Expressions.{Standing, joined, keys_nodes}
use Rattle.ns_link.specs.laws.Texts.{colons, colons_both, key_colons, key_starts, starts_left, starts_arity}
use Rattle.ns_link.proofs.Texts.{operator_arity}
use Rattle.ns_link.proofs.Patterns.{texts_right}
use Rattle.ns_link.proofs.Differ.{not_past, and_left, and_right, not_true}

-- ---- operators

none_of : (byte : ℕ) (bytes : List ℕ) → list_any (nat_eq byte) bytes ≡ true → list_all (λ b. not (begins_name b)) bytes ≡ true →
    begins_name byte ≡ false
none_of byte [] h all = absurd (let f : false ≡ true = h in cc)
none_of byte (first ∷ bytes) h all = by (nat_eq byte first) refl h (none_of byte bytes) where
  by : (same : Bool) → nat_eq byte first ≡ same → (same || list_any (nat_eq byte) bytes) ≡ true →
      (list_any (nat_eq byte) bytes ≡ true → list_all (λ b. not (begins_name b)) bytes ≡ true → begins_name byte ≡ false) → begins_name byte ≡ false
  by true e h further =
      subst (λ b. begins_name b ≡ false) (sym (eqb-true byte first e))
      (not_true (begins_name first) (and_left (not (begins_name first)) (list_all (λ b. not (begins_name b)) bytes) all))
  by false e h further = further h (and_right (not (begins_name first)) (list_all (λ b. not (begins_name b)) bytes) all)

operator_starts : (text : List ℕ) → is_operator text ≡ true → starts_name text ≡ false
operator_starts [] o = refl
operator_starts (byte ∷ bytes) o = by (list_all is_operator_byte (byte ∷ bytes)) refl o where
  by : (all : Bool) → list_all is_operator_byte (byte ∷ bytes) ≡ all → (all || bytes_eq (byte ∷ bytes) (codes "<:")) ≡ true → begins_name byte ≡ false
  by true e o = none_of byte (codes "+-*/\\~<>=@%|&?,!") (and_left (is_operator_byte byte) (list_all is_operator_byte bytes) e) refl
  by false e o = ap starts_name ((bytes_eq-Decides (byte ∷ bytes) (codes "<:")).0 o)

pub oper_arity : (text : List ℕ) → is_operator text ≡ true → 1 ≡ text_arity text
oper_arity text o = sym (operator_arity text o (operator_starts text o))

joined_colons : (keys : p.Keys) (here : Standing) (next : ℕ) → AllHaveText (flat_keys keys) →
    how_many (keys_nodes here next keys) ≡ colons (joined keys)
joined_colons p.no_keys here next texts = refl
joined_colons (p.more_keys name argument rest) here next texts =
    let rest_next = next + length (bin_blocks here.scope argument) in
    let further = joined_colons rest here rest_next (texts_right (flat_bin argument) (flat_keys rest) texts.1) in
    let first = key_colons name.text texts.0 in
    let both = colons_both name.text (joined rest) in
    omega (further, first, both, arith)

joined_arity : (keys : p.Keys) → AllHaveText (flat_keys keys) → text_arity (joined keys) ≡ colons (joined keys)
joined_arity p.no_keys texts = refl
joined_arity (p.more_keys name argument rest) texts =
    starts_arity (name.text ++ joined rest) (starts_left name.text (joined rest) (key_starts name.text texts.0))

as_many_places : (keys : p.Keys) (here : Standing) (next : ℕ) → how_many (keys_nodes here next keys) ≡ length (key_places keys)
as_many_places p.no_keys here next = refl
as_many_places (p.more_keys name argument rest) here next =
    let further = as_many_places rest here (next + length (bin_blocks here.scope argument)) in omega (further, arith)

-- a keyword message has as many arguments as its selector takes, and they are few
pub keys_arity : (keys : p.Keys) (here : Standing) (next : ℕ) → AllHaveText (flat_keys keys) →
    how_many (keys_nodes here next keys) ≡ text_arity (joined keys)
keys_arity keys here next texts = joined_colons keys here next texts ∙ sym (joined_arity keys texts)

pub keys_few : (keys : p.Keys) (here : Standing) (next : ℕ) → keywords_found keys ≡ [] → how_many (keys_nodes here next keys) < 2 ^ 8
keys_few keys here next e = let few = not_past 63 many.Parameters (key_places keys) e in omega (few, as_many_places keys here next, arith)
