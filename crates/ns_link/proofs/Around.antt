-- What stands around the expressions of a body: the bodies and the declarations of which their scope tells.
use Rattle.std.proofs.Common.{◌≡◌, ◌<◌, ◌≤◌, ℕ, zero, suc, ◌+◌, List, [], ◌∷◌, length, ◌^◌, refl, ap, ◌∙◌, subst, arith}
use Rattle.std.specs.Prelude.{true, Option, Some, None, slice_get}
use Rattle.std.specs.List.{list_any}
use Rattle.std.specs.Option.{option_and_then}
use Rattle.std.specs.Str.{bytes_eq}
use Rattle.std.proofs.lemmas.Option.{same_Some}
use Rattle.ns_scope.specs.declared.names.Local.{Local}
use Rattle.ns_scope.specs.declared.scope.ClassScope.{ClassScope}
use Rattle.ns_scope.specs.declared.scope.CodeSide.TheVariants as side
use Rattle.ns_scope.specs.Resolve.{innermost, here_or}
use Rattle.ns_scope.specs.Table.{TableOf, look_up}
use Rattle.ns_resolved.specs.Program as m
use Rattle.ns_resolved.specs.Expressions.{Standing, private_in}
use Rattle.ns_resolved.specs.There.{outer_of, declaration_out, parent_of, body_out, private_members, StandsInMethod}

-- A body has the locals of a table, and they are few.
pub record HasLocals (table : TableOf Local) (body : m.Body) : Type 0 where
  pub few : length body.locals < 2 ^ 8
  pub there : (name : List ℕ) (local : Local) → look_up table name ≡ Some local → local.index < length body.locals

-- What a scope says to be private is a private member of the declaration, on that side.
pub record TellsPrivate (meant : m.Meant) (scope : ClassScope) (declared : m.Declaration) : Type 0 where
  pub of_instances : (name : List ℕ) → private_in (Some scope.instance) name ≡ true →
      list_any (bytes_eq name) (private_members meant side.Instance declared) ≡ true
  pub of_class : (name : List ℕ) → private_in (Some scope.class_side) name ≡ true →
      list_any (bytes_eq name) (private_members meant side.Class declared) ≡ true

module _ (meant : m.Meant) where
  -- The bodies from this one outwards have the locals of these tables.
  abbrev pub BodiesHave : List (TableOf Local) → Option ℕ → Type 0
  BodiesHave [] from = Unit {0}
  BodiesHave (table ∷ tables) None = ⊥
  BodiesHave (table ∷ tables) (Some number) =
      (body : m.Body) × (slice_get meant.bodies number ≡ Some body) × HasLocals table body × BodiesHave tables body.parent

  -- The declarations from this one outwards are those of these scopes.
  abbrev pub ClassesTell : List ClassScope → Option ℕ → Type 0
  ClassesTell [] from = Unit {0}
  ClassesTell (scope ∷ scopes) None = ⊥
  ClassesTell (scope ∷ scopes) (Some number) =
      (class : m.Declaration) × (slice_get meant.classes number ≡ Some class) × TellsPrivate meant scope class × ClassesTell scopes class.outer

-- A body, the bodies and declarations around it, and how many brackets are open there.
pub record Stands (meant : m.Meant) (depth : ℕ) (here : Standing) (body : m.Body) : Type 0 where
  pub there : slice_get meant.bodies here.body ≡ Some body
  pub class : body.class ≡ here.class
  pub side : body.side ≡ here.scope.side
  pub bodies : BodiesHave meant here.scope.bodies (Some here.body)
  pub classes : ClassesTell meant here.scope.classes (Some here.class)
  pub home : here.scope.in_method ≡ true → StandsInMethod meant here.body
  pub few_bodies : length here.scope.bodies ≤ depth + 1
  pub few_classes : length here.scope.classes ≤ depth + 1
  pub shallow : depth ≤ 100

-- ---- bodies further out

module _ (meant : m.Meant) where
  pub out_of_parent : (hops number parent : ℕ) → parent_of meant number ≡ Some parent → body_out meant (suc hops) number ≡ body_out meant hops parent
  out_of_parent zero number parent e = e
  out_of_parent (suc hops) number parent e = ap (option_and_then (parent_of meant)) (out_of_parent hops number parent e)

  pub out_of_outer : (level number outer : ℕ) → outer_of meant number ≡ Some outer →
      declaration_out meant (suc level) number ≡ declaration_out meant level outer
  out_of_outer zero number outer e = e
  out_of_outer (suc level) number outer e = ap (option_and_then (outer_of meant)) (out_of_outer level number outer e)

  -- the local that is found is one of a body around
  abbrev pub LocalFrom : Option ℕ → ℕ × Local → Type 0
  LocalFrom from found =
      (number : ℕ) × (from ≡ Some number) × (out : ℕ) × (holder : m.Body) × (body_out meant found.0 number ≡ Some out)
      × (slice_get meant.bodies out ≡ Some holder) × (found.1.index < length holder.locals) × (length holder.locals < 2 ^ 8)

  pub local_from : (tables : List (TableOf Local)) (from : Option ℕ) (name : List ℕ) (found : ℕ × Local) → BodiesHave meant tables from →
      innermost tables name ≡ Some found → LocalFrom from found
  local_from [] from name found have e = absurd (let f : None ≡ Some found = e in cc)
  local_from (table ∷ tables) None name found have e = absurd have
  local_from (table ∷ tables) (Some number) name found have e =
      by (look_up table name) refl (innermost tables name) refl (λ other g. local_from tables have.0.parent name other have.3 g) e where
        by : (here : Option Local) → look_up table name ≡ here → (outer : Option (ℕ × Local)) → innermost tables name ≡ outer →
            ((other : ℕ × Local) → innermost tables name ≡ Some other → LocalFrom have.0.parent other) → here_or here outer ≡ Some found →
            LocalFrom (Some number) found
        by (Some local) h outer g further e =
            subst (λ (f : ℕ × Local). LocalFrom (Some number) f) (same_Some (0, local) found e)
            (number, refl, number, have.0, refl, have.1, have.2.there name local h, have.2.few)
        by None h None g further e = absurd (let f : None ≡ Some found = e in cc)
        by None h (Some other) g further e =
            let out = further other g in
            let up : parent_of meant number ≡ Some out.0 = ap (option_and_then (λ (body : m.Body). body.parent)) have.1 ∙ out.1 in
            let z : suc other.0 ≡ other.0 + 1 = omega arith in
            subst (λ (f : ℕ × Local). LocalFrom (Some number) f) (same_Some (other.0 + 1, other.1) found e)
            (number, refl, out.2, out.3, subst (λ n. body_out meant n number ≡ Some out.2) z (out_of_parent other.0 number out.0 up ∙ out.4), out.5, out.6, out.7)

  -- the declaration of a scope is one around
  abbrev pub ClassFrom : Option ℕ → ℕ → ClassScope → Type 0
  ClassFrom from level scope =
      (number : ℕ) × (from ≡ Some number) × (out : ℕ) × (class : m.Declaration) × (declaration_out meant level number ≡ Some out)
      × (slice_get meant.classes out ≡ Some class) × TellsPrivate meant scope class

  pub class_from : (scopes : List ClassScope) (from : Option ℕ) (level : ℕ) (scope : ClassScope) → ClassesTell meant scopes from →
      slice_get scopes level ≡ Some scope → ClassFrom from level scope
  class_from [] from level scope tell e = absurd (let f : None ≡ Some scope = e in cc)
  class_from (first ∷ scopes) None level scope tell e = absurd tell
  class_from (first ∷ scopes) (Some number) zero scope tell e =
      (number, refl, number, tell.0, refl, tell.1, subst (λ (s : ClassScope). TellsPrivate meant s tell.0) (same_Some first scope e) tell.2)
  class_from (first ∷ scopes) (Some number) (suc level) scope tell e =
      let out = class_from scopes tell.0.outer level scope tell.3 e in
      let up : outer_of meant number ≡ Some out.0 = ap (option_and_then (λ (class : m.Declaration). class.outer)) tell.1 ∙ out.1 in
      (number, refl, out.2, out.3, out_of_outer level number out.0 up ∙ out.4, out.5, out.6)
