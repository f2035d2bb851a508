-- The plain forms of what functions on expressions answer in pairs.
use Rattle.std.specs.Prelude.{ℕ}
use Rattle.ns_tree.specs.declared.tree.Named.{Named}
use Rattle.ns_tree.specs.declared.tree.UnExpr.{UnExpr}
use Rattle.ns_tree.specs.declared.tree.BinExpr.{BinExpr}
use Rattle.ns_tree.specs.declared.tree.Message.{Message}
use Rattle.ns_tree.specs.Plain as p
use Rattle.ns_tree.specs.PlainOf.{un_of, bin_of, message_of}

-- an operator with its argument
abbrev pub oper_view : Named × UnExpr → Named × p.UnExpr
oper_view x = (x.0, un_of x.1)

-- a key with its argument
abbrev pub key_view : Named × BinExpr → Named × p.BinExpr
key_view x = (x.0, bin_of x.1)

-- a message of a cascade with the number of its semicolon
abbrev pub cascaded_view : ℕ × Message → ℕ × p.Message
cascaded_view x = (x.0, message_of x.1)
