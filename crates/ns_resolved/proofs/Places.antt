-- The number of a name is its place: each name that code uses stands in the table, once, at its number.
use Rattle.std.proofs.Common.{◌≡◌, ℕ, ◌+◌, List, [], ◌∷◌, ◌++◌, refl, sym, subst}
use Rattle.std.specs.Prelude.{Bool, true, false, Some, slice_get, if◌then◌else◌}
use Rattle.std.specs.List.{IsDistinct}
use Rattle.std.proofs.lemmas.Cmp.{nat_list_eq_equiv}
use Rattle.std.proofs.lemmas.Map.Keys.{IsDistinct-push}
use Rattle.ns_base.specs.Names.{NoRepeats, has, put_in, place_of}
use Rattle.ns_resolved.specs.Program as m
use Rattle.ns_resolved.specs.Tables.{put_all, used_names, names_of}
use Rattle.ns_resolved.specs.laws.Places.{name_at_place, has_put, has_stands_all}

pub has_all : (before : List (List ℕ)) (name : List ℕ) (after table : List (List ℕ)) →
    has (put_all table (before ++ name ∷ after)) name ≡ true
has_all [] name after table = has_stands_all after (put_in table name) name (has_put table name)
has_all (other ∷ before) name after table = has_all before name after (put_in table other)

-- ---- no name stands in it twice

distinct_step : (b : Bool) (table : List (List ℕ)) (name : List ℕ) → has table name ≡ b → NoRepeats table →
    NoRepeats (if b then table else table ++ name ∷ [])
distinct_step true table name e d = d
distinct_step false table name e d = IsDistinct-push nat_list_eq_equiv table name d e

pub no_repeats : (names table : List (List ℕ)) → NoRepeats table → NoRepeats (put_all table names)
no_repeats [] table d = d
no_repeats (name ∷ names) table d = no_repeats names (put_in table name) (distinct_step (has table name) table name refl d)

-- ---- the names of a program

-- each name that the code uses stands at its number
pub names_placed : (meant : m.Meant) (before : List (List ℕ)) (name : List ℕ) (after : List (List ℕ)) →
    used_names meant ≡ before ++ name ∷ after →
    slice_get (names_of meant) (place_of (names_of meant) name) ≡ Some name
names_placed meant before name after e =
    name_at_place (names_of meant) name (subst (λ names. has (put_all [] names) name ≡ true) (sym e) (has_all before name after []))

pub program_no_repeats : (meant : m.Meant) → NoRepeats (names_of meant)
unfolding IsDistinct
program_no_repeats meant = no_repeats (used_names meant) [] tt
