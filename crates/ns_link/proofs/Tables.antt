-- What holds of each name that is declared holds of what is found in the table of these names.
use Rattle.std.proofs.Common.{◌≡◌, ◌≤◌, ◌<◌, ℕ, ◌+◌, List, [], ◌∷◌, ◌++◌, length, refl, sym, subst, ◌^◌, arith}
use Rattle.std.specs.Prelude.{Bool, true, false, Option, Some, None, fold, if◌then◌else◌}
use Rattle.std.specs.Str.{bytes_eq}
use Rattle.std.proofs.lemmas.List.{length-map}
use Rattle.std.proofs.lemmas.Option.{same_Some}
use Rattle.std.proofs.lemmas.Slice.Eq.{bytes_eq-Decides}
use Rattle.ns_tree.specs.declared.tree.Access.{Access}
use Rattle.ns_tree.specs.declared.tree.Named.{Named}
use Rattle.ns_tree.specs.Plain as p
use Rattle.ns_scope.specs.declared.names.Declared.{Declared}
use Rattle.ns_scope.specs.declared.names.Local.{Local}
use Rattle.ns_scope.specs.declared.names.Setting.{Setting}
use Rattle.ns_scope.specs.Names.{table_of, locals_of, numbered, param_settings, bars_settings}
use Rattle.ns_scope.specs.Resolve.{is_private}
use Rattle.ns_scope.specs.Table.{TableOf, look_up, has, put_first}
use Rattle.ns_resolved.specs.Program as m
use Rattle.ns_resolved.specs.Expressions.{private_in, private_here}
use Rattle.ns_resolved.specs.Statements.{local_names}
use Rattle.ns_link.proofs.Around.{HasLocals}

module _ {V : Type 0} (Is : List ℕ → V → Type 0) where
  -- each declaration has the property
  abbrev pub AllAre : List (Declared V) → Type 0
  AllAre [] = Unit {0}
  AllAre (d ∷ rest) = Is d.name d.value × AllAre rest

  -- each entry has the property
  abbrev Hold : TableOf V → Type 0
  Hold [] = Unit {0}
  Hold (entry ∷ table) = Is entry.0 entry.1 × Hold table

  pub all_both : (a b : List (Declared V)) → AllAre a → AllAre b → AllAre (a ++ b)
  all_both [] b left right = right
  all_both (d ∷ a) b left right = (left.0, all_both a b left.1 right)

  one_more : (table : TableOf V) (name : List ℕ) (value : V) → Hold table → Is name value → Hold (table ++ (name, value) ∷ [])
  one_more [] name value h one = (one, tt)
  one_more (entry ∷ table) name value h one = (h.0, one_more table name value h.1 one)

  put : (table : TableOf V) (name : List ℕ) (value : V) → Hold table → Is name value → Hold (put_first table name value)
  put table name value h one = by (has table name) where
    by : (there : Bool) → Hold (if there then table else table ++ (name, value) ∷ [])
    by true = h
    by false = one_more table name value h one

  all_put : (declared : List (Declared V)) (table : TableOf V) → Hold table → AllAre declared →
      Hold (fold (λ (t : TableOf V) (d : Declared V). put_first t d.name d.value) table declared)
  all_put [] table h all = h
  all_put (d ∷ rest) table h all = all_put rest (put_first table d.name d.value) (put table d.name d.value h all.0) all.1

  looked_up : (table : TableOf V) (name : List ℕ) (value : V) → Hold table → look_up table name ≡ Some value → Is name value
  looked_up [] name value h e = absurd (let f : None ≡ Some value = e in cc)
  looked_up (entry ∷ table) name value h e = by (bytes_eq name entry.0) refl e (looked_up table name value h.1) where
    by : (same : Bool) → bytes_eq name entry.0 ≡ same → (if same then Some entry.1 else look_up table name) ≡ Some value →
        (look_up table name ≡ Some value → Is name value) → Is name value
    by true s e further =
        subst (λ (v : V). Is name v) (same_Some entry.1 value e)
        (subst (λ (n : List ℕ). Is n entry.1) (sym ((bytes_eq-Decides name entry.0).0 s)) h.0)
    by false s e further = further e

  pub in_table : (declared : List (Declared V)) (name : List ℕ) (value : V) → AllAre declared → look_up (table_of declared) name ≡ Some value → Is name value
  in_table declared name value all e = looked_up (table_of declared) name value (all_put declared [] tt all) e

-- ---- private members

-- a name that is private is one of these
abbrev pub IsHidden : (List ℕ → Type 0) → List ℕ → Access → Type 0
IsHidden Among name access = is_private access ≡ true → Among name

pub private_told : (Among : List ℕ → Type 0) (declared : List (Declared Access)) → AllAre (IsHidden Among) declared → (name : List ℕ) →
    private_in (Some (table_of declared)) name ≡ true → Among name
private_told Among declared all name e = by (look_up (table_of declared) name) refl e where
  by : (found : Option Access) → look_up (table_of declared) name ≡ found → private_here found ≡ true → Among name
  by None h e = absurd (let f : false ≡ true = e in cc)
  by (Some access) h e = in_table (IsHidden Among) declared name access all h e

pub hidden_moved : (P Q : List ℕ → Type 0) → ((name : List ℕ) → P name → Q name) → (declared : List (Declared Access)) →
    AllAre (IsHidden P) declared → AllAre (IsHidden Q) declared
hidden_moved P Q moved [] all = tt
hidden_moved P Q moved (d ∷ rest) all = (λ e. moved d.name (all.0 e), hidden_moved P Q moved rest all.1)

-- ---- locals

-- the local's number is below that
abbrev Below : ℕ → List ℕ → Local → Type 0
Below most name local = local.index < most

numbered_below : (settings : List (Named × Setting)) (index most : ℕ) → index + length settings ≤ most →
    AllAre (Below most) (numbered index settings)
numbered_below [] index most h = tt
numbered_below (setting ∷ settings) index most h = (omega (h, arith), numbered_below settings (index + 1) most (omega (h, arith)))

pub numbered_length : (index : ℕ) (settings : List (Named × Setting)) → length (numbered index settings) ≡ length settings
numbered_length index [] = refl
numbered_length index (setting ∷ settings) = let f = numbered_length (index + 1) settings in omega (f, arith)

pub has_locals : (params : List Named) (bars : p.Bars) (body : m.Body) → body.locals ≡ local_names params bars →
    length (local_names params bars) < 2 ^ 8 →
    HasLocals (table_of (locals_of params bars)) body
has_locals params bars body e few =
    let settings = param_settings params ++ bars_settings bars in
    let same = length-map (locals_of params bars) (λ (d : Declared Local). d.name) in
    let count = numbered_length 0 settings in
    let below : AllAre (Below (length (local_names params bars))) (locals_of params bars) =
    numbered_below settings 0 (length (local_names params bars)) (omega (same, count, arith)) in
    record {
      few = subst (λ (l : List (List ℕ)). length l < 2 ^ 8) (sym e) few;
      there = λ name local h. subst (λ (l : List (List ℕ)). local.index < length l) (sym e)
          (in_table (Below (length (local_names params bars))) (locals_of params bars) name local below h);
    }
