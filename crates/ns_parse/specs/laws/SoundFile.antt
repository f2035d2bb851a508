-- A file that is parsed is spelled by its tokens.
use Rattle.std.proofs.Common.{◌≡◌, ℕ, List, [], ◌∷◌, length, Option, Some, None, Result, Ok, Err, IfOk, MatchResult, subst, ◌∙◌}
use Rattle.std.proofs.lemmas.List.{append-nil}
use Rattle.ns_tree.specs.declared.token.Kind.{Kind}
use Rattle.ns_tree.specs.Deep.{deep}
use Rattle.ns_tree.specs.Flat.{flat}
use Rattle.ns_tree.specs.Grammar as g
use Rattle.ns_tree.specs.Plain as p
use Rattle.ns_tree.specs.PlainOf.{unit_of}
use Rattle.ns_tree.specs.declared.tree.Unit as u
use Rattle.ns_parse_tokens.specs.declared.fault.ParseFault.{ParseFault}
use Rattle.ns_tree.specs.Tree.{AllHaveText, Spells}
use Rattle.ns_tree.specs.laws.FileFlats.{file_same}
use Rattle.ns_parse.specs.Parse as x
use Rattle.ns_parse_tokens.specs.Read.{Outcome, got, fault}
use Rattle.ns_parse_tokens.specs.laws.Sound.{Took, Spelled}
use Rattle.ns_parse.specs.lemmas.SoundClasses.{sound_file}

-- what was read up to the last token
spelled_by : (depth : ℕ) (ts : List Kind) (unit : p.SourceUnit) (n : ℕ) → AllHaveText ts → Took (g.file depth) 0 ts unit n [] → Spells ts unit
spelled_by depth ts unit n told t =
    let same : ts ≡ flat unit = t.spelled ∙ append-nil ((g.file depth).flat unit) ∙ file_same depth 0 unit t.good in
    record { spelled = same; tree = record { depth = depth; given = t.good; told = subst AllHaveText same told } }

whole_spelled : (depth : ℕ) (ts : List Kind) (o : Outcome p.SourceUnit) (unit : p.SourceUnit) → AllHaveText ts → Spelled (g.file depth) 0 ts o → x.whole o ≡ Ok unit → Spells ts unit
whole_spelled depth ts (got v n []) unit told t e = let same : v ≡ unit = cc in subst (Spells ts) same (spelled_by depth ts v n told t)
whole_spelled depth ts (got v n (k ∷ us)) unit told t e = absurd cc
whole_spelled depth ts (fault k) unit told t e = absurd cc

-- The same of what the parser answers, where no bracket is too deep.
pub answer_spelled : (P : ParseFault → Type 0) (ts : List Kind) (r : Result u.Unit ParseFault) → MatchResult r (λ unit. x.whole (x.unit ts) ≡ Ok (unit_of unit)) P → AllHaveText ts → IfOk r (λ unit. Spells ts (unit_of unit))
answer_spelled P ts (Ok unit) e told = whole_spelled (length ts) ts (x.unit ts) (unit_of unit) told ((sound_file (length ts)).reads 0 ts told) e
answer_spelled P ts (Err why) e told = tt

by_deep : (ts : List Kind) (unit : p.SourceUnit) (d : Option ℕ) → AllHaveText ts → x.parse_by d (x.unit ts) ≡ Ok unit → Spells ts unit
by_deep ts unit (Some k) told e = absurd cc
by_deep ts unit None told e = whole_spelled (length ts) ts (x.unit ts) unit told ((sound_file (length ts)).reads 0 ts told) e

-- The tokens of what is parsed spell it.
pub parse_spelled : (ts : List Kind) (unit : p.SourceUnit) → AllHaveText ts → x.parse ts ≡ Ok unit → Spells ts unit
unfolding x.parse
parse_spelled ts unit told e = by_deep ts unit (deep ts) told e
