-- What stands in a source as the text of a token spells that token.
use Rattle.ns_tree.specs.declared.token.Kind.{Kind}
use Rattle.ns_tree.specs.declared.token.Kind.TheVariants as k
use Rattle.ns_lex.specs.Piece.{Text}
use Rattle.ns_lex.specs.Spells.{SpellsToken}
use Rattle.ns_lex.specs.Lexes.{SpellsInText}

-- a text that stands spells its token
pub stands_spells : (w q : Text) (t : Kind) → SpellsInText w q t → SpellsToken w t
stands_spells w q (k.Ident s) h = h
stands_spells w q (k.Word r) h = h
stands_spells w q (k.Key s) h = h
stands_spells w q (k.SetKey s) h = h
stands_spells w q (k.Oper s) h = h
stands_spells w q (k.Number v) h = h
stands_spells w q (k.Str s) h = h.0
stands_spells w q (k.Symbol s) h = h
stands_spells w q k.Open h = h
stands_spells w q k.Close h = h
stands_spells w q k.OpenBlock h = h
stands_spells w q k.CloseBlock h = h
stands_spells w q k.OpenTuple h = h
stands_spells w q k.CloseTuple h = h
stands_spells w q k.Stop h = h
stands_spells w q k.Semi h = h
stands_spells w q k.Caret h = h
stands_spells w q k.Colon h = h
stands_spells w q k.SlotSet h = h
