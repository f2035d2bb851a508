-- Blocks that are evaluated in a lawful run, and the methods that evaluate them.
use Rattle.std.proofs.Common.{◌≡◌, ℕ, zero, suc, ◌+◌, ◌≤◌, List, length, slice_get, refl, sym, subst, arith, Option, Some, None, All, Bool, true, false, cond, eqb}
use Rattle.std.specs.Prelude.{IsSome, pos, nat_lt}
use Rattle.std.specs.Option.{option_map_or}
use Rattle.std.proofs.lemmas.Option.{slice_get_within, get_or_from_slice_get}
use Rattle.ns_code.specs.declared.program.CodeProgram.{CodeProgram}
use Rattle.ns_code.specs.declared.body.BodyCode.{BodyCode}
use Rattle.ns_code.specs.Fits.{Fits, BodyFits}
use Rattle.ns_world.specs.declared.value.Value.{Value}
use Rattle.ns_world.specs.declared.value.Value.TheVariants.{Nil, True, False, Int, Sym, Kernel, Ref}
use Rattle.ns_world.specs.declared.cell.NewCell.TheVariants as new
use Rattle.ns_world.specs.declared.ending.Kind.TheVariants.{WrongArity, WrongKind}
use Rattle.ns_world.specs.declared.ending.LimitKind.TheVariants.{Steps, Depth}
use Rattle.ns_world.specs.Cell.{Cell, ObjectCell, ClassCell, BlockCell, EnvironmentCell, ArrayCell, TextCell, FacetCell, MirrorCell, MessageCell, shape_of}
use Rattle.ns_world.specs.Heap.{Heap, find_cell}
use Rattle.ns_world.specs.World.{World, stepped, entered}
use Rattle.ns_world.specs.Lawful.{IsLawful, IsLiveValue, IsEnvironmentOrNil, FitsBody, FitsEnvironment, BlockIsLawful, environment_in, is_environment}
use Rattle.ns_kdata.specs.Arguments.{is_array, items_of}
use Rattle.ns_kdata.specs.laws.LivingItems.{items_live}
use Rattle.ns_world.specs.declared.kernel_parts.KMethod.{KMethod}
use Rattle.ns_kcode.specs.Rows.{beginning}
use Rattle.ns_moves.specs.declared.site.Site.{Site}
use Rattle.ns_moves.specs.Control.{Progress, in_world, Activation, FromBody, Control, Enter, Evaluate, Begin, halts, fails, charged}
use Rattle.ns_moves.specs.Bodies.{parameters_of, opened}
use Rattle.ns_moves.specs.Blocks.{block_entered, evaluated, value_with_arguments, has_arguments, turns_of, method_begun}
use Rattle.ns_moves.specs.Lawful.{LawfulRun, LawfulControl, LiveActivation}
use Rattle.ns_moves.specs.laws.Growing.{step_cells}
use Rattle.ns_moves.specs.laws.Onward.{charged_all}
use Rattle.ns_moves.specs.lemmas.Later.{Later, later_stepped, all_live}
use Rattle.ns_moves.specs.lemmas.LawfulBodies.{frame_lawful, opened_lawful}
use Rattle.ns_moves.specs.lemmas.LawfulClasses.{class_live, object_live}

-- an environment that fits is one, or nil
environment_fits : (depth : ℕ) (heap : Heap) (code : CodeProgram) (parent : Option ℕ) (env : Value) →
    FitsEnvironment depth heap code parent env → IsEnvironmentOrNil heap env
environment_fits depth heap code None env e = subst (IsEnvironmentOrNil heap) (sym e) tt
environment_fits zero heap code (Some body) env e = absurd e
environment_fits (suc depth) heap code (Some body) (Ref at) e = found (find_cell heap at) e.1
  where
    found : (o : Option Cell) → IsSome (environment_in o) → is_environment o ≡ true
    found (Some (EnvironmentCell parent locals)) h = refl
    found None h = absurd (cc)
    found (Some (ObjectCell class entries)) h = absurd (cc)
    found (Some (ClassCell decl base encl holder over)) h = absurd (cc)
    found (Some (BlockCell body env home receiver holder)) h = absurd (cc)
    found (Some (ArrayCell items)) h = absurd (cc)
    found (Some (TextCell bytes)) h = absurd (cc)
    found (Some (FacetCell kind)) h = absurd (cc)
    found (Some (MirrorCell shown)) h = absurd (cc)
    found (Some (MessageCell sel args)) h = absurd (cc)
environment_fits (suc depth) heap code (Some body) Nil e = tt
environment_fits (suc depth) heap code (Some body) True e = absurd e
environment_fits (suc depth) heap code (Some body) False e = absurd e
environment_fits (suc depth) heap code (Some body) (Int number) e = absurd e
environment_fits (suc depth) heap code (Some body) (Sym sel) e = absurd e
environment_fits (suc depth) heap code (Some body) (Kernel class) e = absurd e

-- a side is one of two
pub body_side : (code : CodeProgram) (number : ℕ) (body : BodyCode) → Fits code → slice_get code.bodies number ≡ Some body → body.side ≤ 1
body_side code number body fits e =
    let within = slice_get_within code.bodies number body e in
    let has : BodyFits code body = subst (BodyFits code) (get_or_from_slice_get code.bodies number body body e) (fits.bodies number body within) in
    has.side

-- a self that fits a body is live
pub self_live : (world : World) (code : CodeProgram) (number : ℕ) (body : BodyCode) (self : Value) (holder : ℕ) → IsLawful world code →
    slice_get code.bodies number ≡ Some body → FitsBody world.cells code body self holder → IsLiveValue world.cells code self
self_live world code number body (Ref at) holder lawful e fits = sided body.side refl (body_side code number body lawful.fits e)
  where
    sided : (side : ℕ) → body.side ≡ side → side ≤ 1 → IsLiveValue world.cells code (Ref at)
    sided zero s h = object_live world.cells code at (fits.2 s).1
    sided (suc zero) s h = class_live world.cells code (find_cell world.cells at) at refl (fits.3 s).0
    sided (suc (suc n)) s h = absurd (omega (arith, h))
self_live world code number body Nil holder lawful e fits = absurd fits
self_live world code number body True holder lawful e fits = absurd fits
self_live world code number body False holder lawful e fits = absurd fits
self_live world code number body (Int n) holder lawful e fits = absurd fits
self_live world code number body (Sym sel) holder lawful e fits = absurd fits
self_live world code number body (Kernel class) holder lawful e fits = absurd fits

-- what a block holds is live
block_holds :
    (world : World) (code : CodeProgram) (number : ℕ) (env receiver : Value) (holder : ℕ) (arguments : List Value) (site : Site) (home : ℕ) →
    IsLawful world code → BlockIsLawful world.cells code number env receiver holder → All (IsLiveValue world.cells code) arguments
    → (let running : Activation = record { self = receiver; holder = holder; body = number; home = home; env = env; site = site } in LiveActivation world.cells code running arguments)
block_holds world code number env receiver holder arguments site home lawful block live =
    found (slice_get code.bodies number) refl block.declared
  where
    found : (o : Option BodyCode) → slice_get code.bodies number ≡ o → IsSome o → (let running : Activation = record { self = receiver; holder = holder; body = number; home = home; env = env; site = site } in LiveActivation world.cells code running arguments)
    found (Some body) e h = record {
      self = self_live world code number body receiver holder lawful e (block.fits body e);
      env = environment_fits (number + 1) world.cells code body.parent env (block.environment body e);
      locals = live;
    }
    found None e h = absurd (cc)

block_cell : (code : CodeProgram) (o : Option Cell) (number : ℕ) (arguments : List Value) (site : Site) (progress : Progress) →
    LawfulRun code progress → find_cell progress.world.cells number ≡ o → All (IsLiveValue progress.world.cells code) arguments
    → LawfulControl code (block_entered code (option_map_or shape_of o (new.Mirror Nil)) arguments site progress)
block_cell code (Some (BlockCell body env home receiver holder)) number arguments site progress lawful e live =
    tested (eqb (length arguments) (parameters_of code body))
  where
    activation : Activation
    activation = record { self = receiver; holder = holder; body = body; home = home; env = env; site = site }

    live' : LiveActivation progress.world.cells code activation arguments
    live' = block_holds progress.world code body env receiver holder arguments site home lawful (lawful.cells number (BlockCell body env home receiver holder) e) live

    on : (world : World) → Later code progress.world world → LiveActivation world.cells code activation arguments
    on world later = record { self = later.live receiver live'.self; env = later.environment env live'.env; locals = all_live code progress.world world arguments later live }

    framed : Progress → Control
    framed progress = charged halts Depth (entered progress.world) progress (opened code halts (Enter FromBody) activation arguments)

    within : (world : World) → Later code progress.world world → LawfulControl code (framed (in_world progress world))
    within world later =
        frame_lawful code (in_world progress world) (opened code halts (Enter FromBody) activation arguments) later.lawful
        (λ next further. let here = on world later in
        opened_lawful (LawfulControl code) code halts (Enter FromBody) activation arguments (in_world progress next) further.lawful
        (record { self = further.live receiver here.self; env = further.environment env here.env; locals = all_live code world next arguments further here.locals })
        further.lawful (λ running locals last more fine. (more.lawful, fine)))

    tested : (b : Bool) → LawfulControl code (cond b (charged halts Steps (stepped progress.world) progress framed) (fails WrongArity site progress))
    tested true = charged_all (LawfulControl code) halts Steps (stepped progress.world) progress framed lawful
        (λ world s. within world (later_stepped code progress.world world lawful s (step_cells progress.world world s)))
    tested false = lawful
block_cell code None number arguments site progress lawful e live = lawful
block_cell code (Some (ObjectCell class entries)) number arguments site progress lawful e live = lawful
block_cell code (Some (ClassCell decl base encl holder over)) number arguments site progress lawful e live = lawful
block_cell code (Some (EnvironmentCell parent locals)) number arguments site progress lawful e live = lawful
block_cell code (Some (ArrayCell items)) number arguments site progress lawful e live = lawful
block_cell code (Some (TextCell bytes)) number arguments site progress lawful e live = lawful
block_cell code (Some (FacetCell kind)) number arguments site progress lawful e live = lawful
block_cell code (Some (MirrorCell shown)) number arguments site progress lawful e live = lawful
block_cell code (Some (MessageCell sel args)) number arguments site progress lawful e live = lawful

-- The evaluation of a block with live arguments leaves a lawful world.
pub evaluated_lawful : (code : CodeProgram) (block : Value) (arguments : List Value) (site : Site) (progress : Progress) →
    LawfulRun code progress → All (IsLiveValue progress.world.cells code) arguments
    → LawfulControl code (evaluated code block arguments site progress)
evaluated_lawful code (Ref at) arguments site progress lawful live =
    block_cell code (find_cell progress.world.cells at) at arguments site progress lawful refl live
evaluated_lawful code Nil arguments site progress lawful live = lawful
evaluated_lawful code True arguments site progress lawful live = lawful
evaluated_lawful code False arguments site progress lawful live = lawful
evaluated_lawful code (Int number) arguments site progress lawful live = lawful
evaluated_lawful code (Sym sel) arguments site progress lawful live = lawful
evaluated_lawful code (Kernel class) arguments site progress lawful live = lawful

pub array_lawful : (code : CodeProgram) (block array : Value) (site : Site) (progress : Progress) → LawfulRun code progress →
    IsLiveValue progress.world.cells code block → LawfulControl code (value_with_arguments block array site progress)
array_lawful code block array site progress lawful live =
    tested (is_array progress.world.cells array) (nat_lt 255 (length (items_of progress.world.cells array)))
  where
    tested : (b c : Bool) → LawfulControl code (cond b (cond c (fails WrongArity site progress) (Evaluate block (items_of progress.world.cells array) site progress)) (fails WrongKind site progress))
    tested true true = lawful
    tested true false = (lawful, live, items_live progress.world code array lawful)
    tested false c = lawful

pub begun_lawful : (code : CodeProgram) (method : KMethod) (receiver first second : Value) (site : Site) (progress : Progress) →
    LawfulRun code progress
    → IsLiveValue progress.world.cells code receiver → IsLiveValue progress.world.cells code first → IsLiveValue progress.world.cells code second → LawfulControl code (method_begun method receiver first second site progress)
begun_lawful code method receiver first second site progress lawful one two three =
    tested (has_arguments progress.world.cells method first second)
  where
    go : Progress → Control
    go = Begin method (beginning receiver first second (pos (turns_of progress.world.cells method receiver))) site

    tested : (b : Bool) → LawfulControl code (cond b (charged halts Depth (entered progress.world) progress go) (fails WrongKind site progress))
    tested true = frame_lawful code progress go lawful (λ world later. (later.lawful, record { receiver = later.live receiver one; first = later.live first two; second = later.live second three; last = λ value e. absurd (cc) }))
    tested false = lawful
