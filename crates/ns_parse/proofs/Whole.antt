-- The tokens of a tree are parsed to it.
use Rattle.std.proofs.Common.{◌≡◌, ℕ, ◌≤◌, List, [], length, Option, Some, None, Ok, refl, sym, ap, ◌∙◌, arith}
use Rattle.std.specs.Prelude.{◌↔◌}
use Rattle.std.proofs.lemmas.List.{append-nil}
use Rattle.ns_tree.specs.declared.token.Kind.{Kind}
use Rattle.ns_tree.specs.Deep.{deep}
use Rattle.ns_tree.specs.Flat.{flat}
use Rattle.ns_tree.specs.Grammar as g
use Rattle.ns_tree.specs.Plain as p
use Rattle.ns_tree.specs.Tree.{AllHaveText, Tree, Spells}
use Rattle.ns_tree.specs.laws.FileFlats.{file_same}
use Rattle.ns_parse_tokens.specs.Read.{Outcome, got}
use Rattle.ns_parse.specs.Classes as readers
use Rattle.ns_parse.specs.Parse as x
use Rattle.ns_parse.specs.laws.SoundFile.{parse_spelled}
use Rattle.ns_parse.proofs.FullClasses.{full_file}

-- The reader of a file that knows enough levels reads the tokens of a tree to their end.
pub tree_read : (most : ℕ) (unit : p.SourceUnit) → Tree unit → length (flat unit) ≤ most → readers.file most 0 (flat unit) ≡ got unit (length (flat unit)) []
tree_read most unit t room =
    let same : (g.file t.depth).flat unit ≡ flat unit = file_same t.depth 0 unit t.given in
    ap (readers.file most 0) (sym same ∙ sym (append-nil ((g.file t.depth).flat unit)))
    ∙ (full_file t.depth most).reads 0 unit [] t.given (omega (arith, room, ap length same)) refl
    ∙ ap (λ w. got unit w []) (omega arith) ∙ ap (λ w. got unit (length w) []) same

pub spelled_read : (ts : List Kind) (unit : p.SourceUnit) → Spells ts unit → x.unit ts ≡ got unit (length ts) []
spelled_read ts unit s = ap x.unit s.spelled ∙ tree_read (length (flat unit)) unit s.tree (omega arith) ∙ ap (λ w. got unit (length w) []) (sym s.spelled)

-- What is spelled, with no bracket too deep, is parsed.
pub spelled_parsed : (ts : List Kind) (unit : p.SourceUnit) → Spells ts unit → deep ts ≡ None → x.parse ts ≡ Ok unit
unfolding x.parse
spelled_parsed ts unit s none = ap (λ d. x.parse_by d (x.unit ts)) none ∙ ap x.whole (spelled_read ts unit s)

same_unit : (u w : p.SourceUnit) (n m : ℕ) → got u n [] ≡ got w m [] → u ≡ w
same_unit u w n m e = cc

-- Tokens spell at most one tree.
pub spelled_once : (ts : List Kind) (u w : p.SourceUnit) → Spells ts u → Spells ts w → u ≡ w
spelled_once ts u w s t = same_unit u w (length ts) (length ts) (sym (spelled_read ts u s) ∙ spelled_read ts w t)

not_deep : (d : Option ℕ) (o : Outcome p.SourceUnit) (unit : p.SourceUnit) → x.parse_by d o ≡ Ok unit → d ≡ None
not_deep None o unit e = refl
not_deep (Some k) o unit e = absurd cc

parsed_not_deep : (ts : List Kind) (unit : p.SourceUnit) → x.parse ts ≡ Ok unit → deep ts ≡ None
unfolding x.parse
parsed_not_deep ts unit e = not_deep (deep ts) (x.unit ts) unit e

-- A tree is parsed exactly where the tokens spell it and no bracket is too deep.
pub parsed_trees : (ts : List Kind) (unit : p.SourceUnit) → AllHaveText ts → x.parse ts ≡ Ok unit ↔ (Spells ts unit × (deep ts ≡ None))
parsed_trees ts unit told = (λ e. (parse_spelled ts unit told e, parsed_not_deep ts unit e), λ s. spelled_parsed ts unit s.0 s.1)
