-- The fault that is answered: the one at the least place, at one place the one that stands first in the list of causes.
use Rattle.std.specs.Prelude.{ℕ, ◌+◌, Bool, true, false, List, [], ◌∷◌, ◌++◌, map, fold, length, zip, Option, Some, None, nat_lt, nat_eq, slice_get, if◌then◌else◌}
use Rattle.ns_base.specs.declared.place.Place.{Place}
use Rattle.ns_scope.specs.Table.{TableOf, put_first}
use Rattle.ns_tree.specs.declared.tree.Named.{Named}
use Rattle.ns_tree.specs.Plain as p
use Rattle.ns_static_rules.specs.declared.fault.StaticCause.{StaticCause}
use Rattle.ns_static_rules.specs.declared.fault.StaticCause.TheVariants as c
use Rattle.ns_static_rules.specs.declared.fault.Many.{Many}
use Rattle.ns_static_rules.specs.declared.fault.Many.TheVariants as many
use Rattle.ns_static_rules.specs.declared.fault.Placed.{Placed}
use Rattle.ns_static_rules.specs.Rules.{Found}
use Rattle.ns_static_rules.specs.Faults.{unit_faults, class_name, class_names}
use Rattle.ns_tree.specs.Parts.{unit_class}

-- the number of a cause in the list of causes; the kinds of TooMany follow one another
abbrev pub kind_number : Many → ℕ
kind_number many.Parameters = 0
kind_number many.Locals = 1
kind_number many.Elements = 2
kind_number many.Members = 3
kind_number many.Classes = 4

abbrev pub cause_number : StaticCause → ℕ
cause_number c.DuplicateMember = 0
cause_number c.DuplicateLocal = 1
cause_number c.FixedLocal = 2
cause_number c.BadReturn = 3
cause_number c.BareReceiver = 4
cause_number c.NoSuchOuter = 5
cause_number c.BadCascade = 6
cause_number c.PlainTooLarge = 7
cause_number (c.TooMany kind) = 8 + kind_number kind
cause_number c.TopSuper = 13
cause_number c.DuplicateTop = 14

abbrev pub in_line : Placed → List ℕ
in_line fault = fault.place.col ∷ cause_number fault.cause ∷ []

abbrev pub in_file : Placed → List ℕ
in_file fault = fault.place.line ∷ in_line fault

-- what is compared, in this order: the file, the line, the column, and the cause
abbrev pub order_of : Placed → List ℕ
order_of fault = fault.place.file ∷ in_file fault

-- whether the first difference of two lists is one that makes the first list less
abbrev pub comes_before : List ℕ → List ℕ → Bool
comes_before (x ∷ xs) (y ∷ ys) = if nat_lt x y then true else if nat_eq x y then comes_before xs ys else false
comes_before xs ys = false

abbrev pub earlier : Option Placed → Placed → Option Placed
earlier None fault = Some fault
earlier (Some least) fault = if comes_before (order_of fault) (order_of least) then Some fault else Some least

abbrev pub least : List Placed → Option Placed
least faults = fold earlier None faults

abbrev pub place_or : Option Place → Place
place_or None = record { file = 0; line = 0; col = 0 }
place_or (Some place) = place

-- the place of a token; that of a number without a token is never asked for
abbrev pub place_at : List Place → ℕ → Place
place_at marks at = place_or (slice_get marks at)

abbrev pub placed : List Place → Found → Placed
placed marks found = record { place = place_at marks found.0; cause = found.1 }

-- the table of the names of top-level classes, with a further one
abbrev pub with_top : TableOf ℕ → Named → TableOf ℕ
with_top seen name = put_first seen name.text name.at

-- the faults of units, each with its marks, behind units whose classes have the names in the table, and behind so
-- many classes
abbrev pub faults_behind : TableOf ℕ → ℕ → List (p.SourceUnit × List Place) → List Placed
faults_behind seen before [] = []
faults_behind seen before (unit ∷ rest) =
    map (placed unit.1) (unit_faults seen before (unit_class unit.0))
    ++ faults_behind (with_top seen (class_name (unit_class unit.0))) (before + length (class_names (unit_class unit.0))) rest

-- all faults of a program
abbrev pub faults : List p.SourceUnit → List (List Place) → List Placed
faults units marks = faults_behind [] 0 (zip units marks)
