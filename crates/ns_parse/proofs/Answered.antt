-- What the parser answers is what the grammar says.
use Rattle.std.proofs.Common.{◌≡◌, ℕ, List, [], ◌∷◌, Option, Some, None, Result, Ok, Err, ap}
use Rattle.std.specs.Prelude.{◌↔◌}
use Rattle.ns_tree.specs.declared.token.Kind.{Kind}
use Rattle.ns_tree.specs.Deep.{deep}
use Rattle.ns_tree.specs.Plain as p
use Rattle.ns_tree.specs.Tree.{AllHaveText}
use Rattle.ns_parse_tokens.specs.declared.fault.ParseFault.{ParseFault}
use Rattle.ns_parse_tokens.specs.declared.fault.ParseFault.TheVariants.{TooDeep, Syntax, Memory}
use Rattle.ns_parse_tokens.specs.Read.{Outcome, got, fault}
use Rattle.ns_parse.specs.Parse as x
use Rattle.ns_parse.specs.Answers.{ParsesAs}
use Rattle.ns_parse.proofs.Whole.{parsed_trees}
use Rattle.ns_parse.proofs.StopsAt.{stops_at}

-- readers count no brackets, and want no memory
whole_not_deep : {A : Type 0} (o : Outcome p.SourceUnit) (k : ℕ) → x.whole o ≡ Err (TooDeep k) → A
whole_not_deep (got u n []) k e = absurd cc
whole_not_deep (got u n (kind ∷ us)) k e = absurd cc
whole_not_deep (fault j) k e = absurd cc

whole_finds : {A : Type 0} (o : Outcome p.SourceUnit) → x.whole o ≡ Err Memory → A
whole_finds (got u n []) e = absurd cc
whole_finds (got u n (kind ∷ us)) e = absurd cc
whole_finds (fault j) e = absurd cc

deep_by : (d : Option ℕ) (o : Outcome p.SourceUnit) (k : ℕ) → x.parse_by d o ≡ Err (TooDeep k) → d ≡ Some k
deep_by (Some j) o k e = let same : j ≡ k = cc in ap Some same
deep_by None o k e = whole_not_deep o k e

memory_by : {A : Type 0} (d : Option ℕ) (o : Outcome p.SourceUnit) → x.parse_by d o ≡ Err Memory → A
memory_by (Some j) o e = absurd cc
memory_by None o e = whole_finds o e

answered : (ts : List Kind) (r : Result p.SourceUnit ParseFault) → AllHaveText ts → x.parse ts ≡ r → ParsesAs ts r
unfolding x.parse
answered ts (Ok unit) told e = (parsed_trees ts unit told).0 e
answered ts (Err (Syntax k)) told e = (stops_at ts k told).0 e
answered ts (Err (TooDeep k)) told e = deep_by (deep ts) (x.unit ts) k e
answered ts (Err Memory) told e = memory_by (deep ts) (x.unit ts) e

told_so : (ts : List Kind) (r : Result p.SourceUnit ParseFault) → AllHaveText ts → ParsesAs ts r → x.parse ts ≡ r
unfolding x.parse
told_so ts (Ok unit) told h = (parsed_trees ts unit told).1 h
told_so ts (Err (Syntax k)) told h = (stops_at ts k told).1 h
told_so ts (Err (TooDeep k)) told h = ap (λ d. x.parse_by d (x.unit ts)) h
told_so ts (Err Memory) told h = absurd h

pub answers : (ts : List Kind) (r : Result p.SourceUnit ParseFault) → AllHaveText ts → x.parse ts ≡ r ↔ ParsesAs ts r
answers ts r told = (answered ts r told, told_so ts r told)
