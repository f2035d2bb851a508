-- Canonical sources are texts of tokens with blanks between them.
use Rattle.std.proofs.Common.{◌≡◌, true, List, [], ◌∷◌, refl}
use Rattle.ns_tree.specs.Tree.{AllHaveText, HasText}
use Rattle.ns_tree.specs.declared.token.Kind.{Kind}
use Rattle.ns_tree.specs.declared.token.Kind.TheVariants as k
use Rattle.ns_lex.specs.Bytes.{is_blank}
use Rattle.ns_lex.specs.Spaced.{IsSpaced}
use Rattle.ns_lex.specs.Spells.{SpellsToken}
use Rattle.ns_print.specs.Printed.{gap, printed, spell}

gap_blank : (kind : Kind) → is_blank (gap kind) ≡ true
gap_blank k.Stop = refl
gap_blank _ = refl

pub printed_spaced : (wanted : List Kind) → ((kind : Kind) → HasText kind → SpellsToken (spell kind) kind) → AllHaveText wanted → IsSpaced (printed wanted) wanted
printed_spaced [] told h = (refl, tt)
printed_spaced (kind ∷ []) told h = (spell kind, 10, [], told kind h.0, refl, refl, tt)
printed_spaced (kind ∷ next ∷ rest) told h = (spell kind, gap kind, printed (next ∷ rest), told kind h.0, gap_blank kind, refl, printed_spaced (next ∷ rest) told h.1)
