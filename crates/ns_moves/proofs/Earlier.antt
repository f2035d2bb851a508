-- A superclass part enters a body of a class that was made before.
use Rattle.std.proofs.Common.{◌≡◌, ℕ, ◌<◌, List, [], ◌∷◌, refl, ap, sym, ◌∙◌, arith, eqb, Some, Bool, true, false, cond}
use Rattle.std.specs.Prelude.{codes}
use Rattle.std.specs.Str.{bytes_eq}
use Rattle.std.proofs.lemmas.Bool.{eqb-true}
use Rattle.ns_code.specs.declared.program.CodeProgram.{CodeProgram}
use Rattle.ns_code.specs.Selector.{selector_text}
use Rattle.ns_world.specs.declared.value.Value.{Value}
use Rattle.ns_world.specs.declared.value.Value.TheVariants as value
use Rattle.ns_world.specs.declared.ending.Kind.TheVariants.{InitMismatch}
use Rattle.ns_world.specs.declared.ending.LimitKind.TheVariants.{Depth, Cells}
use Rattle.ns_world.specs.Cell.{Cell, ObjectCell, ClassCell, BlockCell, EnvironmentCell, ArrayCell, TextCell, FacetCell, MirrorCell, MessageCell}
use Rattle.ns_world.specs.Heap.{Heap, heap_size, find_cell, is_superclass, has_superclass, is_ordered, superclass_in}
use Rattle.ns_world.specs.World.{made, entered}
use Rattle.ns_world.specs.Layout.{declaration_of}
use Rattle.ns_world.specs.laws.Chains.{both_of, class_below}
use Rattle.ns_moves.specs.Site.{error}
use Rattle.ns_moves.specs.Control.{Progress, in_world, Activation, PartControl, Skip, Stop, EnterPart, charged}
use Rattle.ns_moves.specs.Bodies.{initialiser_of, no_home, has_environment, first_locals, opened}
use Rattle.ns_moves.specs.Classes.{factory_selector, super_selector, declared_part, object_part, part_of, super_part}
use Rattle.ns_moves.specs.laws.Onward.{charged_all}

-- ---- superclasses

class_over : (earlier : Heap) (cell : Cell) (over : ℕ) → has_superclass earlier cell ≡ true → superclass_in (Some cell) ≡ value.Ref over →
    over < heap_size earlier
class_over earlier (ClassCell decl base encl holder above) over s e = class_below earlier over (ap (is_superclass earlier) (sym e) ∙ s)
class_over earlier (ObjectCell class entries) over s e = absurd (cc)
class_over earlier (BlockCell body env home receiver holder) over s e = absurd (cc)
class_over earlier (EnvironmentCell parent locals) over s e = absurd (cc)
class_over earlier (ArrayCell items) over s e = absurd (cc)
class_over earlier (TextCell bytes) over s e = absurd (cc)
class_over earlier (FacetCell kind) over s e = absurd (cc)
class_over earlier (MirrorCell mirrored) over s e = absurd (cc)
class_over earlier (MessageCell sel args) over s e = absurd (cc)

-- a superclass was made before
over_below : (heap : Heap) (n over : ℕ) → is_ordered heap ≡ true → superclass_in (find_cell heap n) ≡ value.Ref over → over < n
over_below [] n over o e = absurd (cc)
over_below (cell ∷ earlier) n over o e =
    let parts = both_of (has_superclass earlier cell) (is_ordered earlier) o in
    tested (eqb n (heap_size earlier)) refl e parts.0 (over_below earlier n over parts.1)
  where
    tested : (b : Bool) → eqb n (heap_size earlier) ≡ b → superclass_in (cond b (Some cell) (find_cell earlier n)) ≡ value.Ref over
        → has_superclass earlier cell ≡ true → (superclass_in (find_cell earlier n) ≡ value.Ref over → over < n) → over < n
    tested true t e s below = let there = class_over earlier cell over s e in let at = eqb-true n (heap_size earlier) t in omega (arith, there, at)
    tested false t e s below = below e

-- ---- parts

-- a body that is entered has a holder before that one
abbrev pub EntersEarlier : ℕ → PartControl → Type 0
EntersEarlier holder (Skip p) = Unit {0}
EntersEarlier holder (Stop ending p) = Unit {0}
EntersEarlier holder (EnterPart a ls p) = a.holder < holder

opened_earlier : (holder : ℕ) (code : CodeProgram) (a : Activation) (arguments : List Value) (p : Progress) → a.holder < holder
    → EntersEarlier holder (opened code Stop EnterPart a arguments p)
opened_earlier holder code a arguments p earlier = tested (has_environment code a.body)
  where
    locals : List Value
    locals = first_locals code a.body arguments

    inner : Activation
    inner = record a { env = value.Ref (heap_size p.world.cells) }

    cell : Cell
    cell = EnvironmentCell a.env locals

    tested : (b : Bool) → EntersEarlier holder (cond b (charged Stop Cells (made p.world cell) p (EnterPart inner [])) (EnterPart a locals p))
    tested true = charged_all (EntersEarlier holder) Stop Cells (made p.world cell) p (EnterPart inner []) tt (λ world e. earlier)
    tested false = earlier

declared_earlier : (holder : ℕ) (code : CodeProgram) (a : Activation) (over sel : ℕ) (arguments : List Value) (p : Progress) → over < holder
    → EntersEarlier holder (declared_part code a over sel arguments p)
declared_earlier holder code a over sel arguments p earlier = tested (eqb sel (factory_selector code (declaration_of p.world.cells over)))
  where
    inner : Activation
    inner =
        record { self = a.self; holder = over; body = initialiser_of code (declaration_of p.world.cells over); home = no_home; env = value.Nil; site = a.site }

    tested : (b : Bool) → EntersEarlier holder
        (cond b (charged Stop Depth (entered p.world) p (opened code Stop EnterPart inner arguments)) (Stop (error InitMismatch a.site) p))
    tested true =
        charged_all (EntersEarlier holder) Stop Depth (entered p.world) p (opened code Stop EnterPart inner arguments) tt
        (λ world e. opened_earlier holder code inner arguments (in_world p world) earlier)
    tested false = tt

object_earlier : (holder : ℕ) (code : CodeProgram) (a : Activation) (sel : ℕ) (p : Progress) →
    EntersEarlier holder (object_part code a sel p)
object_earlier holder code a sel p = tested (bytes_eq (selector_text code sel) (codes "new"))
  where
    tested : (b : Bool) → EntersEarlier holder (cond b (Skip p) (Stop (error InitMismatch a.site) p))
    tested true = tt
    tested false = tt

part_earlier : (holder : ℕ) (code : CodeProgram) (a : Activation) (over : Value) (sel : ℕ) (arguments : List Value) (p : Progress)
    → ((class : ℕ) → over ≡ value.Ref class → class < holder) → EntersEarlier holder (part_of code a over sel arguments p)
part_earlier holder code a (value.Ref over) sel arguments p before = declared_earlier holder code a over sel arguments p (before over refl)
part_earlier holder code a value.Nil sel arguments p before = object_earlier holder code a sel p
part_earlier holder code a value.True sel arguments p before = object_earlier holder code a sel p
part_earlier holder code a value.False sel arguments p before = object_earlier holder code a sel p
part_earlier holder code a (value.Int number) sel arguments p before = object_earlier holder code a sel p
part_earlier holder code a (value.Sym name) sel arguments p before = object_earlier holder code a sel p
part_earlier holder code a (value.Kernel class) sel arguments p before = object_earlier holder code a sel p

pub super_earlier : (code : CodeProgram) (a : Activation) (arguments : List Value) (p : Progress) → is_ordered p.world.cells ≡ true
    → EntersEarlier a.holder (super_part code a arguments p)
super_earlier code a arguments p ordered =
    part_earlier a.holder code a (superclass_in (find_cell p.world.cells a.holder)) (super_selector code (declaration_of p.world.cells a.holder)) arguments p
    (λ class e. over_below p.world.cells a.holder class ordered e)
