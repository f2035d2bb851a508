-- A superclass part has all of the arguments of its message.
use Rattle.std.proofs.Common.{◌≡◌, ℕ, List, [], refl, ap, Option, Some, None, Bool, true, false, if◌then◌else◌, ◌==◌}
use Rattle.std.specs.Prelude.{codes}
use Rattle.std.specs.Str.{bytes_eq}
use Rattle.ns_code.specs.declared.program.CodeProgram.{CodeProgram}
use Rattle.ns_code.specs.Selector.{selector_text}
use Rattle.ns_world.specs.declared.value.Value.{Value}
use Rattle.ns_world.specs.declared.value.Value.TheVariants.{Nil, True, False, Int, Sym, Kernel, Ref}
use Rattle.ns_world.specs.declared.ending.Kind.TheVariants.{InitMismatch}
use Rattle.ns_world.specs.declared.ending.LimitKind.TheVariants.{Cells, Depth}
use Rattle.ns_world.specs.Cell.{EnvironmentCell}
use Rattle.ns_world.specs.Heap.{heap_size, find_cell, superclass_in}
use Rattle.ns_world.specs.Layout.{declaration_of}
use Rattle.ns_world.specs.World.{World, made, entered}
use Rattle.ns_moves.specs.Site.{error}
use Rattle.ns_moves.specs.Control.{Progress, Activation, PartControl, Skip, Stop, EnterPart, in_world, charged}
use Rattle.ns_moves.specs.Bodies.{has_environment, first_locals, initialiser_of, no_home, opened}
use Rattle.ns_moves.specs.Classes.{super_part, part_of, object_part, declared_part, super_selector, factory_selector}

-- the locals beside a part are those of all of these arguments
abbrev pub HasAll : CodeProgram → List Value → PartControl → Type 0
HasAll code arguments (Skip p) = Unit {0}
HasAll code arguments (Stop ending p) = Unit {0}
HasAll code arguments (EnterPart activation locals p) =
    locals ≡ (if has_environment code activation.body then [] else first_locals code activation.body arguments)

module _ (code : CodeProgram) (arguments : List Value) where
  opened_all : (activation : Activation) (p : Progress) → HasAll code arguments (opened code Stop EnterPart activation arguments p)
  opened_all activation p = by_environment (has_environment code activation.body) refl
    where
      by_made : (o : Option World) → true ≡ has_environment code activation.body
          → HasAll code arguments (charged Stop Cells o p (EnterPart (record activation { env = Ref (heap_size p.world.cells) }) []))
      by_made None e = tt
      by_made (Some world) e = ap (λ (b : Bool). if b then [] else first_locals code activation.body arguments) e

      by_environment : (b : Bool) → b ≡ has_environment code activation.body
          → HasAll code arguments (if b then charged Stop Cells (made p.world (EnvironmentCell activation.env (first_locals code activation.body arguments))) p
          (EnterPart (record activation { env = Ref (heap_size p.world.cells) }) []) else EnterPart activation (first_locals code activation.body arguments) p)
      by_environment true e = by_made (made p.world (EnvironmentCell activation.env (first_locals code activation.body arguments))) e
      by_environment false e = ap (λ (b : Bool). if b then [] else first_locals code activation.body arguments) e

  declared_all : (activation : Activation) (over sel : ℕ) (p : Progress) → HasAll code arguments (declared_part code activation over sel arguments p)
  declared_all activation over sel p = by_test (sel == factory_selector code (declaration_of p.world.cells over))
    where
      own : Activation
      own = record { self = activation.self; holder = over; body = initialiser_of code (declaration_of p.world.cells over); home = no_home; env = Nil; site = activation.site }

      by_entered : (o : Option World) → HasAll code arguments (charged Stop Depth o p (opened code Stop EnterPart own arguments))
      by_entered None = tt
      by_entered (Some world) = opened_all own (in_world p world)

      by_test : (b : Bool) → HasAll code arguments (if b then charged Stop Depth (entered p.world) p (opened code Stop EnterPart own arguments)
          else Stop (error InitMismatch activation.site) p)
      by_test true = by_entered (entered p.world)
      by_test false = tt

  object_all : (activation : Activation) (sel : ℕ) (p : Progress) → HasAll code arguments (object_part code activation sel p)
  object_all activation sel p = by_test (bytes_eq (selector_text code sel) (codes "new"))
    where
      by_test : (b : Bool) → HasAll code arguments (if b then Skip p else Stop (error InitMismatch activation.site) p)
      by_test true = tt
      by_test false = tt

  pub part_all : (activation : Activation) (p : Progress) → HasAll code arguments (super_part code activation arguments p)
  part_all activation p = by_over (superclass_in (find_cell p.world.cells activation.holder)) (super_selector code (declaration_of p.world.cells activation.holder))
    where
      by_over : (over : Value) (sel : ℕ) → HasAll code arguments (part_of code activation over sel arguments p)
      by_over (Ref over) sel = declared_all activation over sel p
      by_over Nil sel = object_all activation sel p
      by_over True sel = object_all activation sel p
      by_over False sel = object_all activation sel p
      by_over (Int number) sel = object_all activation sel p
      by_over (Sym name) sel = object_all activation sel p
      by_over (Kernel class) sel = object_all activation sel p
