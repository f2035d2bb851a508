-- What `decimal` writes is digits of that number.
use Rattle.std.proofs.Common.{rules, ◌≤◌, ℕ, fold, arith}
use Rattle.std.proofs.lemmas.Fmt.{decimal_nonempty, digits_decimal, digits_value-decimal}
use Rattle.std.proofs.lemmas.Str.Parse.{IsNumeralModel, numerals_by_fold}
use Rattle.std.specs.Prelude.{decimal}
use Rattle.ns_base.specs.Spelling.{is_digit}
use Rattle.ns_lex.specs.Number.{with_digit, greatest}
use Rattle.ns_lex.specs.Piece.{Text}
use Rattle.ns_lex.specs.Spells.{AllOf, SpellsToken}
use Rattle.ns_tree.specs.declared.token.Kind.TheVariants as k

abbrev folded : ℕ → Text → ℕ
folded = fold with_digit

own : IsNumeralModel (AllOf is_digit) (folded 0)
own = numerals_by_fold (AllOf is_digit) (search rules) folded (search rules)

pub number_spelled : (v : ℕ) → v ≤ greatest → SpellsToken (decimal v) (k.Number v)
number_spelled v h = (decimal_nonempty v (omega (arith, h)), digits_decimal own v (omega (arith, h)), digits_value-decimal own v (omega (arith, h)), h)
