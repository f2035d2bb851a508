-- The lines of a trace: those of few sends, and the line that tells how many are left out.
use Rattle.std.proofs.Common.{◌≡◌, ◌<◌, ◌≤◌, ℕ, zero, suc, List, [], ◌∷◌, ◌++◌, codes, drop, length, take, refl, sym, arith}
use Rattle.std.proofs.lemmas.List.{drop_all, take_all}
use Rattle.std.specs.Fmt.{decimal}
use Rattle.ns_json.specs.declared.saying.Site.{Site}
use Rattle.ns_run_trace.specs.Trace.{more_line, most_told}

pub more_where_some : (n : ℕ) → 0 < n → more_line n ≡ codes "  .. " ++ decimal n ++ codes " more" ++ 10 ∷ []
more_where_some zero some = absurd (omega (arith, some))
more_where_some (suc n) some = refl

-- of few sends all are told first
pub few_first : (sites : List Site) → length sites ≤ most_told → sites ≡ take most_told sites
few_first sites few = sym (take_all most_told sites few)

pub few_last : (sites : List Site) → length sites ≤ most_told → [] ≡ drop most_told sites
few_last sites few = sym (drop_all most_told sites few)
