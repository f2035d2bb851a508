-- The number of a name is its place: each name that code uses stands in the table, once, at its number.
use Rattle.std.proofs.Common.{◌≡◌, ◌<◌, ℕ, ◌+◌, List, [], ◌∷◌, ◌++◌, length, refl, sym, ap, ◌∙◌}
use Rattle.std.specs.Prelude.{Bool, true, false, ◌||◌, not, Option, Some, slice_get, if◌then◌else◌, cond}
use Rattle.std.specs.List.{find}
use Rattle.std.specs.Str.{bytes_eq}
use Rattle.std.proofs.lemmas.List.Folds.{find_at, list_any-append}
use Rattle.std.proofs.lemmas.Option.{slice_get_within}
use Rattle.std.proofs.lemmas.Slice.Eq.{bytes_eq-Decides}
use Rattle.ns_base.specs.Names.{has, put_in, place_of}
use Rattle.ns_resolved.specs.Tables.{put_all}

-- ---- a name that is there stands at its place

found_step : (b : Bool) (name other : List ℕ) (rest : Bool) (further : Option (List ℕ)) → (b ≡ true → name ≡ other) →
    (rest ≡ true → further ≡ Some name) → (b || rest) ≡ true → cond b (Some other) further ≡ Some name
found_step true name other rest further same later h = ap Some (sym (same refl))
found_step false name other rest further same later h = later h

found : (table : List (List ℕ)) (name : List ℕ) → has table name ≡ true → find (bytes_eq name) table ≡ Some name
found [] name h = absurd (let f : false ≡ true = h in cc)
found (other ∷ table) name h =
    found_step (bytes_eq name other) name other (has table name) (find (bytes_eq name) table) (bytes_eq-Decides name other).0 (found table name) h

-- The name of a table stands at its place.
pub name_at_place : (table : List (List ℕ)) (name : List ℕ) → has table name ≡ true → slice_get table (place_of table name) ≡ Some name
name_at_place table name h = sym (find_at (bytes_eq name) table) ∙ found table name h

-- The place of a name that a table has is in the table.
pub place_below : (table : List (List ℕ)) (name : List ℕ) → has table name ≡ true → place_of table name < length table
place_below table name h = slice_get_within table (place_of table name) name (name_at_place table name h)

-- ---- a table that grows keeps its names at their places

same_step : (b rest : Bool) (n n' : ℕ) → (rest ≡ true → n' ≡ n) → (b || rest) ≡ true → cond (not b) (1 + n') 0 ≡ cond (not b) (1 + n) 0
same_step true rest n n' same h = refl
same_step false rest n n' same h = ap (1 +◌) (same h)

place_in_front : (table more : List (List ℕ)) (name : List ℕ) → has table name ≡ true → place_of (table ++ more) name ≡ place_of table name
place_in_front [] more name h = absurd (let f : false ≡ true = h in cc)
place_in_front (other ∷ table) more name h =
    same_step (bytes_eq name other) (has table name) (place_of table name) (place_of (table ++ more) name) (place_in_front table more name) h

-- what holds of the table, and with the name put behind it, holds of the table that the name is put in
put_cases : (b : Bool) (table : List (List ℕ)) (name : List ℕ) (P : List (List ℕ) → Type 0) → P table → P (table ++ name ∷ []) →
    P (if b then table else table ++ name ∷ [])
put_cases true table name P here behind = here
put_cases false table name P here behind = behind

place_stands : (table : List (List ℕ)) (other name : List ℕ) → has table name ≡ true →
    place_of (put_in table other) name ≡ place_of table name
place_stands table other name h =
    put_cases (has table other) table other (λ t. place_of t name ≡ place_of table name) refl (place_in_front table (other ∷ []) name h)

has_more : (table more : List (List ℕ)) (name : List ℕ) → has table name ≡ true → has (table ++ more) name ≡ true
has_more table more name h = list_any-append (bytes_eq name) table more ∙ ap (λ b. b || has more name) h

has_stands : (table : List (List ℕ)) (other name : List ℕ) → has table name ≡ true → has (put_in table other) name ≡ true
has_stands table other name h = put_cases (has table other) table other (λ t. has t name ≡ true) h (has_more table (other ∷ []) name h)

new_step : (b : Bool) (table : List (List ℕ)) (name : List ℕ) → has table name ≡ b →
    has (if b then table else table ++ name ∷ []) name ≡ true
new_step true table name e = e
new_step false table name e =
    list_any-append (bytes_eq name) table (name ∷ []) ∙ ap (λ b. b || (bytes_eq name name || false)) e
    ∙ ap (λ b. b || false) ((bytes_eq-Decides name name).1 refl)

-- A table has the name that was put in it.
pub has_put : (table : List (List ℕ)) (name : List ℕ) → has (put_in table name) name ≡ true
has_put table name = new_step (has table name) table name refl

-- ---- further names

-- A table keeps its names while names are put in it.
pub has_stands_all : (names table : List (List ℕ)) (name : List ℕ) → has table name ≡ true → has (put_all table names) name ≡ true
has_stands_all [] table name h = h
has_stands_all (other ∷ names) table name h = has_stands_all names (put_in table other) name (has_stands table other name h)

-- A name keeps its place while names are put in the table.
pub place_stands_all : (names table : List (List ℕ)) (name : List ℕ) → has table name ≡ true →
    place_of (put_all table names) name ≡ place_of table name
place_stands_all [] table name h = refl
place_stands_all (other ∷ names) table name h =
    place_stands_all names (put_in table other) name (has_stands table other name h) ∙ place_stands table other name h
