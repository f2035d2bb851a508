-- Lists of bodies that sit in the list of a program's bodies, and what is said of each body in one.
use Rattle.std.proofs.Common.{◌≡◌, ◌≤◌, ◌<◌, ℕ, zero, suc, ◌+◌, List, [], ◌∷◌, ◌++◌, length, refl, ap, ◌∙◌, subst, arith, length-append}
use Rattle.std.specs.Prelude.{true, Some, None, slice_get}
use Rattle.std.proofs.lemmas.List.{length-map}
use Rattle.ns_tree.specs.declared.tree.Named.{Named}
use Rattle.ns_tree.specs.Plain as p
use Rattle.ns_scope.specs.declared.scope.Scope.{Scope}
use Rattle.ns_scope.specs.declared.names.Setting.{Setting}
use Rattle.ns_scope.specs.declared.names.Setting.TheVariants as s
use Rattle.std.proofs.lemmas.Option.{same_Some}
use Rattle.ns_scope.specs.Names.{numbered, param_settings, bars_settings, locals_of}
use Rattle.ns_resolved.specs.Program as m
use Rattle.ns_resolved.specs.Expressions.{Standing}
use Rattle.ns_resolved.specs.Statements.{local_names, are_any}
use Rattle.ns_resolved.specs.There.{IsPlaced}
use Rattle.ns_resolved.specs.laws.Sits.{Sits, sits_left, sits_right, sits_first, sits_behind}

-- ---- each body of a list is placed

abbrev pub ArePlaced : m.Meant → ℕ → List m.Body → Type 0
ArePlaced meant n [] = Unit {0}
ArePlaced meant n (body ∷ bodies) = IsPlaced meant n body × ArePlaced meant (n + 1) bodies

pub placed_both : (meant : m.Meant) (n count : ℕ) (a b : List m.Body) → length a ≡ count → ArePlaced meant n a →
    ArePlaced meant (n + count) b →
    ArePlaced meant n (a ++ b)
placed_both meant n count [] b h left right = let z : n + count ≡ n = let f : 0 ≡ count = h in omega (f, arith) in subst (λ j. ArePlaced meant j b) z right
placed_both meant n zero (body ∷ a) b h left right = absurd (let f : suc (length a) ≡ 0 = h in omega (f, arith))
placed_both meant n (suc count) (body ∷ a) b h left right =
    let same : length a ≡ count = let f : suc (length a) ≡ suc count = h in omega (f, arith) in
    let z : n + suc count ≡ n + 1 + count = omega arith in
    (left.0, placed_both meant (n + 1) count a b same left.1 (subst (λ j. ArePlaced meant j b) z right))

pub placed_at : (meant : m.Meant) (n k : ℕ) (bodies : List m.Body) (body : m.Body) → ArePlaced meant n bodies →
    slice_get bodies k ≡ Some body →
    IsPlaced meant (k + n) body
placed_at meant n k [] body placed e = absurd (let f : None ≡ Some body = e in cc)
placed_at meant n zero (first ∷ bodies) body placed e =
    let z : n ≡ 0 + n = omega arith in subst (λ j. IsPlaced meant j body) z (subst (IsPlaced meant n) (same_Some first body e) placed.0)
placed_at meant n (suc k) (first ∷ bodies) body placed e =
    let z : k + (n + 1) ≡ suc k + n = omega arith in subst (λ j. IsPlaced meant j body) z (placed_at meant (n + 1) k bodies body placed.1 e)

-- ---- parameters are among the locals

numbered_length : (index : ℕ) (settings : List (Named × Setting)) → length (numbered index settings) ≡ length settings
numbered_length index [] = refl
numbered_length index (setting ∷ settings) = ap suc (numbered_length (index + 1) settings)

pub params_among : (params : List Named) (bars : p.Bars) → length params ≤ length (local_names params bars)
params_among params bars =
    let fixed : Named → Named × Setting = λ param. (param, s.Fixed) in
    omega (
      length-map (locals_of params bars) (λ local. local.name),
      numbered_length 0 (param_settings params ++ bars_settings bars),
      length-append (param_settings params) (bars_settings bars),
      length-map params fixed,
      arith,
    )

-- ---- a part of a body

-- A part of a body, with these blocks and bodies in it: the body sits before them, and has an environment if there are any.
pub record Part (meant : m.Meant) (here : Standing) (next : ℕ) (blocks : List Scope) (bodies : List m.Body) : Type 0 where
  pub holder : m.Body
  pub there : slice_get meant.bodies here.body ≡ Some holder
  pub class : holder.class ≡ here.class
  pub side : holder.side ≡ here.scope.side
  pub holds : 1 ≤ length blocks → holder.environment ≡ true
  pub later : here.body < next
  pub known : here.class < length meant.classes
  pub sits : Sits meant.bodies next bodies

pub two : (meant : m.Meant) (here : Standing) (next : ℕ) (left_blocks right_blocks : List Scope) (left right : List m.Body) →
    length left ≡ length left_blocks → Part meant here next (left_blocks ++ right_blocks) (left ++ right) →
    (Part meant here next left_blocks left → ArePlaced meant next left) →
    (Part meant here (next + length left_blocks) right_blocks right → ArePlaced meant (next + length left_blocks) right) →
    ArePlaced meant next (left ++ right)
two meant here next left_blocks right_blocks left right count part f g =
    let sum = length-append left_blocks right_blocks in
    placed_both meant next (length left_blocks) left right count
    (f (record {
      holder = part.holder;
      there = part.there;
      class = part.class;
      side = part.side;
      holds = λ h. part.holds (omega (h, sum, arith));
      later = part.later;
      known = part.known;
      sits = sits_left meant.bodies next left right part.sits;
    }))
    (g (record {
      holder = part.holder;
      there = part.there;
      class = part.class;
      side = part.side;
      holds = λ h. part.holds (omega (h, sum, arith));
      later = omega (part.later, arith);
      known = part.known;
      sits = sits_right meant.bodies next (length left_blocks) left right count part.sits;
    }))

any_there : (blocks : List Scope) → 1 ≤ length blocks → are_any blocks ≡ true
any_there blocks h = grind (arith, h)

-- what stands in a body that is first of a list
pub inner_part : (meant : m.Meant) (here : Standing) (body : m.Body) (blocks : List Scope) (bodies : List m.Body) →
    body.class ≡ here.class → body.side ≡ here.scope.side → body.environment ≡ are_any blocks → here.class < length meant.classes →
    Sits meant.bodies here.body (body ∷ bodies) → Part meant here (here.body + 1) blocks bodies
inner_part meant here body blocks bodies class side environment known sits = record {
  holder = body;
  there = sits_first meant.bodies here.body body bodies sits;
  class = class;
  side = side;
  holds = λ h. environment ∙ any_there blocks h;
  later = omega arith;
  known = known;
  sits = sits_behind meant.bodies here.body body bodies sits;
}
