-- What a superclass part and the evaluation of a block enter: a body with its site and home, and the block's body.
use Rattle.std.proofs.Common.{◌≡◌, ℕ, List, [], refl, Bool, true, false, cond, eqb, length}
use Rattle.std.specs.Prelude.{codes}
use Rattle.std.specs.Str.{bytes_eq}
use Rattle.ns_code.specs.declared.program.CodeProgram.{CodeProgram}
use Rattle.ns_code.specs.Selector.{selector_text}
use Rattle.ns_world.specs.declared.value.Value.{Value}
use Rattle.ns_world.specs.declared.value.Value.TheVariants.{Nil, True, False, Int, Sym, Kernel, Ref}
use Rattle.ns_world.specs.declared.cell.NewCell.{NewCell}
use Rattle.ns_world.specs.declared.cell.NewCell.TheVariants as new
use Rattle.ns_world.specs.declared.ending.Kind.TheVariants.{InitMismatch, WrongArity}
use Rattle.ns_world.specs.declared.ending.LimitKind.TheVariants.{Steps, Depth, Cells}
use Rattle.ns_world.specs.Cell.{Cell, EnvironmentCell}
use Rattle.ns_world.specs.Heap.{heap_size, find_cell, superclass_in}
use Rattle.ns_world.specs.World.{made, stepped, entered}
use Rattle.ns_world.specs.Layout.{declaration_of}
use Rattle.ns_kdata.specs.Arguments.{shape_of_value}
use Rattle.ns_moves.specs.declared.site.Site.{Site}
use Rattle.ns_moves.specs.Site.{error}
use Rattle.ns_moves.specs.Control.{Progress, in_world, Activation, FromBody, Control, Enter, Skip, Stop, EnterPart, charged, halts, fails}
use Rattle.ns_moves.specs.Bodies.{has_environment, first_locals, parameters_of, initialiser_of, no_home, opened}
use Rattle.ns_moves.specs.Classes.{super_selector, factory_selector, declared_part, object_part, part_of, super_part}
use Rattle.ns_moves.specs.Blocks.{block_body_in, block_entered, evaluated}
use Rattle.ns_moves.specs.Fitting.{PartGoesOnAt, EntersBlock}
use Rattle.ns_moves.specs.laws.Onward.{charged_all}

-- ---- superclass parts

opened_at : (site : Site) (code : CodeProgram) (activation : Activation) (arguments : List Value) (progress : Progress) →
    (activation.site ≡ site) × (activation.home ≡ no_home)
    → PartGoesOnAt site (opened code Stop EnterPart activation arguments progress)
opened_at site code activation arguments progress has = tested (has_environment code activation.body)
  where
    locals : List Value
    locals = first_locals code activation.body arguments

    inner : Activation
    inner = record activation { env = Ref (heap_size progress.world.cells) }

    cell : Cell
    cell = EnvironmentCell activation.env locals

    tested : (b : Bool) → PartGoesOnAt site (cond b (charged Stop Cells (made progress.world cell) progress (EnterPart inner [])) (EnterPart activation locals progress))
    tested true = charged_all (PartGoesOnAt site) Stop Cells (made progress.world cell) progress (EnterPart inner []) tt (λ world e. has)
    tested false = has

declared_at : (code : CodeProgram) (activation : Activation) (over sel : ℕ) (arguments : List Value) (progress : Progress) →
    PartGoesOnAt activation.site (declared_part code activation over sel arguments progress)
declared_at code activation over sel arguments progress =
    tested (eqb sel (factory_selector code (declaration_of progress.world.cells over)))
  where
    inner : Activation
    inner = record { self = activation.self; holder = over; body = initialiser_of code (declaration_of progress.world.cells over); home = no_home; env = Nil; site = activation.site }

    tested : (b : Bool) → PartGoesOnAt activation.site (cond b (charged Stop Depth (entered progress.world) progress (opened code Stop EnterPart inner arguments)) (Stop (error InitMismatch activation.site) progress))
    tested true =
        charged_all (PartGoesOnAt activation.site) Stop Depth (entered progress.world) progress (opened code Stop EnterPart inner arguments) tt
        (λ world e. opened_at activation.site code inner arguments (in_world progress world) (refl, refl))
    tested false = tt

object_at : (code : CodeProgram) (activation : Activation) (sel : ℕ) (progress : Progress) →
    PartGoesOnAt activation.site (object_part code activation sel progress)
object_at code activation sel progress = tested (bytes_eq (selector_text code sel) (codes "new"))
  where
    tested : (b : Bool) → PartGoesOnAt activation.site (cond b (Skip progress) (Stop (error InitMismatch activation.site) progress))
    tested true = tt
    tested false = tt

part_at : (code : CodeProgram) (activation : Activation) (over : Value) (sel : ℕ) (arguments : List Value) (progress : Progress) →
    PartGoesOnAt activation.site (part_of code activation over sel arguments progress)
part_at code activation (Ref over) sel arguments progress = declared_at code activation over sel arguments progress
part_at code activation Nil sel arguments progress = object_at code activation sel progress
part_at code activation True sel arguments progress = object_at code activation sel progress
part_at code activation False sel arguments progress = object_at code activation sel progress
part_at code activation (Int number) sel arguments progress = object_at code activation sel progress
part_at code activation (Sym name) sel arguments progress = object_at code activation sel progress
part_at code activation (Kernel class) sel arguments progress = object_at code activation sel progress

pub super_part_at : (code : CodeProgram) (activation : Activation) (arguments : List Value) (progress : Progress) →
    PartGoesOnAt activation.site (super_part code activation arguments progress)
super_part_at code activation arguments progress =
    part_at code activation (superclass_in (find_cell progress.world.cells activation.holder)) (super_selector code (declaration_of progress.world.cells activation.holder)) arguments progress

-- ---- blocks

body_opened : (body : ℕ) (code : CodeProgram) (activation : Activation) (arguments : List Value) (progress : Progress) →
    activation.body ≡ body → EntersBlock body (opened code halts (Enter FromBody) activation arguments progress)
body_opened body code activation arguments progress is = tested (has_environment code activation.body)
  where
    locals : List Value
    locals = first_locals code activation.body arguments

    inner : Activation
    inner = record activation { env = Ref (heap_size progress.world.cells) }

    cell : Cell
    cell = EnvironmentCell activation.env locals

    tested : (b : Bool) → EntersBlock body (cond b (charged halts Cells (made progress.world cell) progress (Enter FromBody inner [])) (Enter FromBody activation locals progress))
    tested true = charged_all (EntersBlock body) halts Cells (made progress.world cell) progress (Enter FromBody inner []) tt (λ world e. is)
    tested false = is

block_body : (code : CodeProgram) (shape : NewCell) (arguments : List Value) (site : Site) (progress : Progress) →
    EntersBlock (block_body_in shape) (block_entered code shape arguments site progress)
block_body code (new.Block body env home receiver holder) arguments site progress =
    tested (eqb (length arguments) (parameters_of code body))
  where
    activation : Activation
    activation = record { self = receiver; holder = holder; body = body; home = home; env = env; site = site }

    framed : Progress → Control
    framed progress = charged halts Depth (entered progress.world) progress (opened code halts (Enter FromBody) activation arguments)

    tested : (b : Bool) → EntersBlock body (cond b (charged halts Steps (stepped progress.world) progress framed) (fails WrongArity site progress))
    tested true =
        charged_all (EntersBlock body) halts Steps (stepped progress.world) progress framed tt
        (λ world s. charged_all (EntersBlock body) halts Depth (entered world) (in_world progress world) _ tt
        (λ next d. body_opened body code activation arguments (in_world progress next) refl))
    tested false = tt
block_body code (new.Object class words) arguments site progress = tt
block_body code (new.Class decl base encl holder over) arguments site progress = tt
block_body code (new.Environment parent locals) arguments site progress = tt
block_body code (new.Array size) arguments site progress = tt
block_body code (new.Text bytes) arguments site progress = tt
block_body code (new.Facet kind) arguments site progress = tt
block_body code (new.Mirror mirrored) arguments site progress = tt
block_body code (new.Message sel args) arguments site progress = tt

pub evaluated_body : (code : CodeProgram) (block : Value) (arguments : List Value) (site : Site) (progress : Progress) →
    EntersBlock (block_body_in (shape_of_value progress.world.cells block)) (evaluated code block arguments site progress)
evaluated_body code block arguments site progress = block_body code (shape_of_value progress.world.cells block) arguments site progress
