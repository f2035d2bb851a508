-- What names mean where a body stands is there: locals of the bodies around, and members of the declarations around.
use Rattle.std.proofs.Common.{◌≡◌, ◌<◌, ℕ, zero, suc, ◌+◌, List, [], ◌∷◌, length, ◌^◌, refl, sym, ap, ◌∙◌, subst, arith}
use Rattle.std.specs.Prelude.{Bool, true, false, not, ◌||◌, ◌==◌, map, Option, Some, None, slice_get, if◌then◌else◌}
use Rattle.std.specs.List.{list_any}
use Rattle.std.specs.Str.{bytes_eq}
use Rattle.std.proofs.lemmas.List.{length-map}
use Rattle.std.proofs.lemmas.Option.{same_Some, slice_get_within}
use Rattle.ns_tree.specs.declared.tree.Access.{Access}
use Rattle.ns_tree.specs.declared.tree.Named.{Named}
use Rattle.ns_scope.specs.declared.names.Local.{Local}
use Rattle.ns_scope.specs.declared.resolve.Target.TheVariants as t
use Rattle.ns_scope.specs.declared.scope.ClassScope.{ClassScope}
use Rattle.ns_scope.specs.declared.scope.CodeSide.{CodeSide}
use Rattle.ns_scope.specs.declared.scope.CodeSide.TheVariants as side
use Rattle.ns_scope.specs.Resolve.{innermost, here_or, local_or, member_or_self, levels, own_members, is_private}
use Rattle.ns_scope.specs.Table.{TableOf, look_up}
use Rattle.ns_static_rules.specs.declared.fault.StaticCause.TheVariants as c
use Rattle.ns_static_rules.specs.Rules.{outer_found}
use Rattle.ns_resolved.specs.Program as m
use Rattle.ns_resolved.specs.Uses.{Use, ReachHas}
use Rattle.ns_resolved.specs.Expressions.{Standing, at_level, reach_of, reach_outer, level_of, private_in, private_here, private_at}
use Rattle.ns_resolved.specs.There.{HasLevel, HasPrivate, private_members, declaration_out, body_out}
use Rattle.ns_link.specs.Reached.{IsThereButBlocks}
use Rattle.ns_link.specs.Reaching.{LocalHas, NamesHave}
use Rattle.ns_link.proofs.Around.{TellsPrivate, Stands, local_from, class_from}
use Rattle.ns_link.proofs.Differ.{if_none}

-- ---- tables, innermost first

-- the table in which a name is found, and what it stands for there
abbrev FoundIn : {V : Type 0} → List (TableOf V) → List ℕ → ℕ × V → Type 0
FoundIn {V} tables name found = (table : TableOf V) × (slice_get tables found.0 ≡ Some table) × (look_up table name ≡ Some found.1)

found_in : {V : Type 0} → (tables : List (TableOf V)) (name : List ℕ) (found : ℕ × V) → innermost tables name ≡ Some found →
    FoundIn tables name found
found_in [] name found e = absurd (let f : None ≡ Some found = e in cc)
found_in {V} (table ∷ tables) name found e = by (look_up table name) refl (innermost tables name) refl (found_in tables name) e where
  by : (here : Option V) → look_up table name ≡ here → (outer : Option (ℕ × V)) → innermost tables name ≡ outer →
      ((other : ℕ × V) → innermost tables name ≡ Some other → FoundIn tables name other) → here_or here outer ≡ Some found →
      FoundIn (table ∷ tables) name found
  by (Some value) h outer g further e =
      subst (λ (f : ℕ × V). FoundIn (table ∷ tables) name f) (same_Some (0, value) found e) (table, refl, h)
  by None h None g further e = absurd (let f : None ≡ Some found = e in cc)
  by None h (Some other) g further e =
      let behind = further other g in
      let z : suc other.0 ≡ other.0 + 1 = omega arith in
      subst (λ (f : ℕ × V). FoundIn (table ∷ tables) name f) (same_Some (other.0 + 1, other.1) found e)
      (behind.0, subst (λ n. slice_get (table ∷ tables) n ≡ Some behind.0) z behind.1, behind.2)

found_below : {V : Type 0} → (tables : List (TableOf V)) (name : List ℕ) (found : ℕ × V) → innermost tables name ≡ Some found →
    found.0 < length tables
found_below tables name found e =
    let in_table = found_in tables name found e in slice_get_within tables found.0 in_table.0 in_table.1

-- ---- levels

levels_length : (s : CodeSide) (classes : List ClassScope) → length (levels s classes) ≡ length classes
levels_length s [] = refl
levels_length s (class ∷ outer) = ap suc (length-map outer (λ (c : ClassScope). c.instance))

get_below : {A : Type 0} → (items : List A) (k : ℕ) → k < length items → (item : A) × (slice_get items k ≡ Some item)
get_below [] k h = absurd (omega (h, arith))
get_below (item ∷ items) zero h = (item, refl)
get_below (item ∷ items) (suc k) h = get_below items k (omega (h, arith))

-- a private member further out is one of instances
private_further : (outer : List ClassScope) (level : ℕ) (name : List ℕ) →
    private_in (slice_get (map (λ (c : ClassScope). c.instance) outer) level) name ≡ true →
    (scope : ClassScope) × (slice_get outer level ≡ Some scope) × (private_in (Some scope.instance) name ≡ true)
private_further [] level name e = absurd (let f : false ≡ true = e in cc)
private_further (class ∷ outer) zero name e = (class, refl, e)
private_further (class ∷ outer) (suc level) name e = private_further outer level name e

-- the side on which a private member is looked for at a level
abbrev side_at : CodeSide → ℕ → CodeSide
side_at s level = if level == 0 then s else side.Instance

side_further : (s : CodeSide) (level : ℕ) → side_at s (suc level) ≡ side.Instance
side_further s level = let e : (suc level == 0) ≡ false = grind arith in ap (λ (b : Bool). if b then s else side.Instance) e

-- a private member at a level is one of a declaration around, on the side that counts there
private_level : (s : CodeSide) (classes : List ClassScope) (level : ℕ) (name : List ℕ) →
    private_in (slice_get (levels s classes) level) name ≡ true →
    (scope : ClassScope) × (slice_get classes level ≡ Some scope) × (private_in (Some (own_members (side_at s level) scope)) name ≡ true)
private_level s [] level name e = absurd (let f : false ≡ true = e in cc)
private_level s (class ∷ outer) zero name e = (class, refl, e)
private_level s (class ∷ outer) (suc level) name e =
    let found = private_further outer level name e in
    (found.0, found.1, subst (λ (t : CodeSide). private_in (Some (own_members t found.0)) name ≡ true) (sym (side_further s level)) found.2)

told : (meant : m.Meant) (scope : ClassScope) (declared : m.Declaration) → TellsPrivate meant scope declared →
    (name : List ℕ) (s : CodeSide) →
    private_in (Some (own_members s scope)) name ≡ true → list_any (bytes_eq name) (private_members meant s declared) ≡ true
told meant scope declared tells name side.Instance e = tells.of_instances name e
told meant scope declared tells name side.Class e = tells.of_class name e

-- the level of a class that is around is one of the levels
level_below : (classes : List ClassScope) (name : List ℕ) → list_any (λ (class : ClassScope). bytes_eq name class.name) classes ≡ true →
    level_of classes name < length classes
level_below [] name h = absurd (let f : false ≡ true = h in cc)
level_below (class ∷ outer) name h = by (bytes_eq name class.name) h (level_below outer name) where
  by : (same : Bool) → (same || list_any (λ (class : ClassScope). bytes_eq name class.name) outer) ≡ true →
      (list_any (λ (class : ClassScope). bytes_eq name class.name) outer ≡ true → level_of outer name < length outer) →
      (if same then 0 else level_of outer name + 1) < suc (length outer)
  by true h further = omega arith
  by false h further = let f = further h in omega (f, arith)

pub not_false : (x : Bool) → not x ≡ false → x ≡ true
not_false true h = refl
not_false false h = absurd (let f : true ≡ false = h in cc)

-- ---- where a body stands

module _ (meant : m.Meant) (depth : ℕ) (here : Standing) (body : m.Body) (stands : Stands meant depth here body) where
  abbrev Has : Use → Type 0
  Has = IsThereButBlocks meant here.body body

  level_there : (level : ℕ) → level < length here.scope.classes → HasLevel meant body level × (level < 2 ^ 8)
  level_there level below =
      let scope = get_below here.scope.classes level below in
      let from = class_from meant here.scope.classes (Some here.class) level scope.0 stands.classes scope.1 in
      let same : here.class ≡ from.0 = same_Some here.class from.0 from.1 in
      let few = stands.few_classes in
      let shallow = stands.shallow in
      ((from.2, subst (λ n. declaration_out meant level n ≡ Some from.2) (sym (stands.class ∙ same)) from.4), omega (below, few, shallow, arith))

  private_there : (level : ℕ) (name : List ℕ) → private_at here.scope level name ≡ true → HasPrivate meant body level name × (level < 2 ^ 8)
  private_there level name e =
      let found = private_level here.scope.side here.scope.classes level name e in
      let from = class_from meant here.scope.classes (Some here.class) level found.0 stands.classes found.1 in
      let same : here.class ≡ from.0 = same_Some here.class from.0 from.1 in
      let below = slice_get_within here.scope.classes level found.0 found.1 in
      let few = stands.few_classes in
      let shallow = stands.shallow in (
        (
          from.2,
          from.3,
          subst (λ n. declaration_out meant level n ≡ Some from.2) (sym (stands.class ∙ same)) from.4,
          from.5,
          subst (λ s. list_any (bytes_eq name) (private_members meant (side_at s level) from.3) ≡ true) (sym stands.side)
              (told meant found.0 from.3 from.6 name (side_at here.scope.side level) found.2),
        ),
        omega (below, few, shallow, arith),
      )

  level_has : (level : ℕ) (private : Bool) (name : List ℕ) → level < length here.scope.classes → private_at here.scope level name ≡ private →
      ReachHas Has (at_level level private) name
  level_has level true name below e = private_there level name e
  level_has level false name below e = level_there level below

  own_has : (private : Bool) (name : List ℕ) → private_at here.scope 0 name ≡ private → ReachHas Has (if private then m.private_of 0 else m.own) name
  own_has true name e = private_there 0 name e
  own_has false name e = tt

  local_there : (name : List ℕ) (found : ℕ × Local) → innermost here.scope.bodies name ≡ Some found → LocalHas Has (t.Local found.0 found.1.index)
  local_there name found e =
      let from = local_from meant here.scope.bodies (Some here.body) name found stands.bodies e in
      let same : here.body ≡ from.0 = same_Some here.body from.0 from.1 in
      let below = found_below here.scope.bodies name found e in
      let few = stands.few_bodies in
      let shallow = stands.shallow in (
        (from.2, from.3, subst (λ n. body_out meant found.0 n ≡ Some from.2) (sym same) from.4, from.5, from.6),
        omega (below, few, shallow, arith),
        omega (from.6, from.7, arith),
      )

  -- a member that is found, at its level
  member_has : (name : List ℕ) (found : ℕ × Access) → innermost (levels here.scope.side here.scope.classes) name ≡ Some found →
      ReachHas Has (at_level found.0 (is_private found.1)) name
  member_has name found e =
      let in_table = found_in (levels here.scope.side here.scope.classes) name found e in
      let below = found_below (levels here.scope.side here.scope.classes) name found e in
      let same = levels_length here.scope.side here.scope.classes in
      level_has found.0 (is_private found.1) name (omega (below, same, arith))
      (ap (λ (table : Option (TableOf Access)). private_in table name) in_table.1 ∙ ap private_here in_table.2)

  local_has : (name : List ℕ) (found : Option (ℕ × Local)) (other : Option (ℕ × Access)) → innermost here.scope.bodies name ≡ found →
      LocalHas Has (local_or found (member_or_self other))
  local_has name None None e = tt
  local_has name None (Some member) e = tt
  local_has name (Some found) other e = local_there name found e

  send_has : (name : List ℕ) (found : Option (ℕ × Local)) (other : Option (ℕ × Access)) → innermost (levels here.scope.side here.scope.classes) name ≡ other →
      ReachHas Has (reach_of (local_or found (member_or_self other))) name
  send_has name None None e = tt
  send_has name None (Some member) e = member_has name member e
  send_has name (Some found) other e = tt

  outer_has : (class : Named) → outer_found here.scope.classes class ≡ [] → (name : List ℕ) → ReachHas Has (reach_outer here.scope class.text name) name
  outer_has class e name =
      let around = list_any (λ (c : ClassScope). bytes_eq class.text c.name) here.scope.classes in
      let below = level_below here.scope.classes class.text (not_false around (if_none (not around) class.at c.NoSuchOuter e)) in
      level_has (level_of here.scope.classes class.text) (private_at here.scope (level_of here.scope.classes class.text) name) name below refl

  pub reaches : NamesHave Has here.scope
  reaches = record {
    local = λ name. local_has name (innermost here.scope.bodies name) (innermost (levels here.scope.side here.scope.classes) name) refl;
    send = λ name. send_has name (innermost here.scope.bodies name) (innermost (levels here.scope.side here.scope.classes) name) refl;
    own = λ name. own_has (private_at here.scope 0 name) name refl;
    outer = outer_has;
    message = λ selector count same few. (same, few);
    integer = λ n fits. fits;
    array = λ count few. few;
    block = λ number. tt;
  }
