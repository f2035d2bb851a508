-- How many arguments the name of a setter takes.
use Rattle.std.proofs.Common.{◌≡◌, ℕ, ◌+◌, List, ◌++◌, refl, sym, ◌∙◌}
use Rattle.std.specs.Prelude.{true, codes}
use Rattle.ns_base.specs.Spelling.{is_identifier}
use Rattle.ns_tree.specs.Tree.{IsKey}
use Rattle.ns_code.specs.Selector.{text_arity}
use Rattle.ns_link.specs.laws.Texts.{key_colons, key_starts, starts_arity}

key_arity : (text : List ℕ) → IsKey text → 1 ≡ text_arity text
key_arity text key = sym (starts_arity text (key_starts text key) ∙ key_colons text key)

-- The name of a setter takes one argument.
pub setter_arity : (name : List ℕ) → is_identifier name ≡ true → 1 ≡ text_arity (name ++ codes ":")
setter_arity name h = key_arity (name ++ codes ":") (name, h, refl)
