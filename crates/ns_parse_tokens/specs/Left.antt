-- What is left of the tokens.
use Rattle.std.specs.Prelude.{ℕ, List}
use Rattle.ns_tree.specs.declared.token.Kind.{Kind}

-- the number of the next token, and the kinds of the tokens from it on
pub record Left : Type 0 where
  pub at : ℕ
  pub kinds : List Kind

-- all the tokens of a file
abbrev pub all_of : List Kind → Left
all_of ts = record { at = 0; kinds = ts }
