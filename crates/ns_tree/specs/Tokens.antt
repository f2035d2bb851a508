-- Lists of tokens.
use Rattle.std.specs.Prelude.{List, map}
use Rattle.ns_tree.specs.declared.token.Kind.{Kind}
use Rattle.ns_tree.specs.declared.token.Token.{Token}

-- the kinds of tokens, without their places
abbrev pub kinds : List Token → List Kind
kinds = map (λ token. token.kind)
