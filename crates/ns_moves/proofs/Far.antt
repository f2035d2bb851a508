-- Enclosing objects and environments that are far out, and the ways to them.
use Rattle.std.proofs.Common.{◌≡◌, ℕ, zero, suc, ◌+◌, ◌-◌, ◌≤◌, ◌<◌, refl, ap, sym, ◌∙◌, arith, Option, Some, None, IsSome, IsTrue, true}
use Rattle.ns_code.specs.declared.program.CodeProgram.{CodeProgram}
use Rattle.ns_world.specs.declared.value.Value.{Value}
use Rattle.ns_world.specs.Cell.{Cell, ObjectCell, ClassCell, BlockCell, EnvironmentCell, ArrayCell, TextCell, FacetCell, MirrorCell, MessageCell}
use Rattle.ns_world.specs.Heap.{Heap, find_cell, is_class, shape_at, cell_number}
use Rattle.ns_world.specs.World.{World}
use Rattle.ns_world.specs.Lawful.{IsLawful, is_environment}
use Rattle.ns_find.specs.Outward.{around, outward, IsWay}
use Rattle.ns_moves.specs.Control.{Activation}
use Rattle.ns_moves.specs.Bodies.{enclosing_place, lexical, environment_out, parent_in}
use Rattle.ns_moves.specs.Lawful.{FitsActivation, declaration_at}
use Rattle.ns_moves.specs.StatedFinding.{LevelIsThere}
use Rattle.ns_moves.specs.Locals.{HasEnvironments}
use Rattle.ns_moves.proofs.Levels.{level_there}

class_there : (o : Option Cell) → is_class o ≡ true → IsSome o
class_there (Some cell) is = refl
class_there None is = absurd (cc)

environment_there : (o : Option Cell) → is_environment o ≡ true → IsSome o
environment_there (Some cell) is = refl
environment_there None is = absurd (cc)

-- ---- enclosing objects

-- The holders on the way out are classes.
abbrev pub AreClasses : Heap → Value → ℕ → ℕ → Type 0
AreClasses heap self holder levels = (k : ℕ) → k < levels → IsTrue (is_class (find_cell heap (lexical heap self holder k).holder))

-- what stands around a class is the holder that encloses it
holder_around : (heap : Heap) (at : ℕ) → is_class (find_cell heap at) ≡ true →
    (enclosing_place (shape_at heap at)).holder ≡ around (shape_at heap at)
holder_around heap at is = told (find_cell heap at) refl is
  where
    told : (o : Option Cell) → find_cell heap at ≡ o → is_class o ≡ true →
        (enclosing_place (shape_at heap at)).holder ≡ around (shape_at heap at)
    told (Some (ClassCell decl base encl holder over)) e t = rw e refl
    told None e t = absurd (cc)
    told (Some (ObjectCell class entries)) e t = absurd (cc)
    told (Some (BlockCell body env home receiver holder)) e t = absurd (cc)
    told (Some (EnvironmentCell parent locals)) e t = absurd (cc)
    told (Some (ArrayCell items)) e t = absurd (cc)
    told (Some (TextCell bytes)) e t = absurd (cc)
    told (Some (FacetCell kind)) e t = absurd (cc)
    told (Some (MirrorCell shown)) e t = absurd (cc)
    told (Some (MessageCell sel args)) e t = absurd (cc)

-- the holder so many levels out is the end of a way
pub holder_out : (heap : Heap) (self : Value) (holder levels : ℕ) → AreClasses heap self holder levels →
    (lexical heap self holder levels).holder ≡ outward heap holder levels
holder_out heap self holder zero all = refl
holder_out heap self holder (suc levels) all =
    holder_around heap (lexical heap self holder levels).holder (all levels (omega arith))
    ∙ ap (λ at. around (shape_at heap at)) (holder_out heap self holder levels (λ k lt. all k (omega (arith, lt))))

pub way_of_holders : (heap : Heap) (self : Value) (holder levels : ℕ) → AreClasses heap self holder levels → IsWay heap holder levels
way_of_holders heap self holder levels all = λ k lt.
    class_there (find_cell heap (outward heap holder k))
    (ap (λ at. is_class (find_cell heap at)) (sym (holder_out heap self holder k (λ j less. all j (omega (arith, lt, less))))) ∙ all k lt)

-- in a lawful world each level up to one that has a declaration has its class
pub classes_out : LevelIsThere → (world : World) (code : CodeProgram) (activation : Activation) (level : ℕ) → IsLawful world code →
    FitsActivation world.cells code activation → IsSome (declaration_at code activation.body level) →
    (levels : ℕ) → levels ≤ level + 1 → AreClasses world.cells activation.self activation.holder levels
classes_out there world code activation level lawful fits declared levels few = λ k lt.
    (there world code activation k lawful fits (level_there code activation.body level k (omega (arith, few, lt)) declared)).class

-- the class inside the one that is sought
pub class_inside : (heap : Heap) (self : Value) (holder level inside : ℕ) → AreClasses heap self holder level → 1 ≤ level →
    inside ≡ outward heap holder (level - 1) → is_class (find_cell heap inside) ≡ true
class_inside heap self holder level inside all some is =
    ap (λ at. is_class (find_cell heap at)) (is ∙ sym (holder_out heap self holder (level - 1) (λ k lt. all k (omega (arith, lt)))))
    ∙ all (level - 1) (omega (arith, some))

pub place_far_out : (heap : Heap) (self : Value) (holder level inside : ℕ) → AreClasses heap self holder level → 1 ≤ level →
    inside ≡ outward heap holder (level - 1) → enclosing_place (shape_at heap inside) ≡ lexical heap self holder level
place_far_out heap self holder level inside all some is =
    let next : suc (level - 1) ≡ level = omega (arith, some) in
    ap (λ at. enclosing_place (shape_at heap at)) (is ∙ sym (holder_out heap self holder (level - 1) (λ k lt. all k (omega (arith, lt)))))
    ∙ ap (lexical heap self holder) next

-- ---- environments

-- what stands around an environment is its parent
parent_around : (heap : Heap) (at : ℕ) → is_environment (find_cell heap at) ≡ true →
    cell_number (parent_in (shape_at heap at)) ≡ around (shape_at heap at)
parent_around heap at is = told (find_cell heap at) refl is
  where
    told : (o : Option Cell) → find_cell heap at ≡ o → is_environment o ≡ true →
        cell_number (parent_in (shape_at heap at)) ≡ around (shape_at heap at)
    told (Some (EnvironmentCell parent locals)) e t = rw e refl
    told None e t = absurd (cc)
    told (Some (ClassCell decl base encl holder over)) e t = absurd (cc)
    told (Some (ObjectCell class entries)) e t = absurd (cc)
    told (Some (BlockCell body env home receiver holder)) e t = absurd (cc)
    told (Some (ArrayCell items)) e t = absurd (cc)
    told (Some (TextCell bytes)) e t = absurd (cc)
    told (Some (FacetCell kind)) e t = absurd (cc)
    told (Some (MirrorCell shown)) e t = absurd (cc)
    told (Some (MessageCell sel args)) e t = absurd (cc)

-- the environment so many bodies out is the end of a way
pub number_out : (heap : Heap) (env : Value) (hops : ℕ) → HasEnvironments heap env hops →
    cell_number (environment_out heap env hops) ≡ outward heap (cell_number env) hops
number_out heap env zero all = refl
number_out heap env (suc hops) all =
    parent_around heap (cell_number (environment_out heap env hops)) (all hops (omega arith))
    ∙ ap (λ at. around (shape_at heap at)) (number_out heap env hops (λ k le. all k (omega (arith, le))))

pub way_of_environments : (heap : Heap) (env : Value) (hops : ℕ) → HasEnvironments heap env hops → IsWay heap (cell_number env) hops
way_of_environments heap env hops all = λ k lt.
    environment_there (find_cell heap (outward heap (cell_number env) k))
    (ap (λ at. is_environment (find_cell heap at)) (sym (number_out heap env k (λ j le. all j (omega (arith, lt, le))))) ∙ all k (omega (arith, lt)))
