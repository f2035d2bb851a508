-- What the walk over a file has come to.
use Rattle.std.specs.Prelude.{List, map}
use Rattle.ns_base.specs.declared.place.Place.{Place}
use Rattle.ns_static_rules.specs.declared.checker.Checker.{Checker}
use Rattle.ns_static_rules.specs.declared.kept.Kept.{Kept}
use Rattle.ns_static_rules.specs.Rules.{Found}
use Rattle.ns_static_rules.specs.Keeping.{keep_all}
use Rattle.ns_static_rules.specs.Least.{placed}

-- what is kept when this was found too
abbrev pub kept_after : List Place → Kept → List Found → Kept
kept_after marks kept found = keep_all kept (map (placed marks) found)

-- the walk, where this was found too
abbrev pub with_found : Checker → List Found → Checker
with_found checker found =
    record { alloc = checker.alloc; marks = checker.marks; kept = kept_after checker.marks.now checker.kept found }
