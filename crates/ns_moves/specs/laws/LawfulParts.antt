-- Superclass parts, the ends of bodies and the kernel's methods in a lawful run.
use Rattle.std.proofs.Common.{◌≡◌, ℕ, List, [], ◌∷◌, refl, subst, arith, Option, Some, None, All, Bool, true, false, cond, eqb}
use Rattle.std.specs.Prelude.{ℤ, pos, ◌+ℤ◌, int_lt, unsigned_abs, codes}
use Rattle.std.specs.Ordering.{int_eq}
use Rattle.std.specs.Option.{ForSome}
use Rattle.std.specs.Str.{bytes_eq}
use Rattle.std.specs.Int.{w64, saturate_signed}
use Rattle.ns_code.specs.declared.program.CodeProgram.{CodeProgram}
use Rattle.ns_code.specs.Selector.{selector_text}
use Rattle.ns_world.specs.declared.value.Value.{Value}
use Rattle.ns_world.specs.declared.value.Value.TheVariants.{Nil, True, False, Int, Sym, Kernel, Ref}
use Rattle.ns_world.specs.declared.ending.Kind.TheVariants.{InitMismatch}
use Rattle.ns_world.specs.declared.ending.LimitKind.TheVariants.{Steps, Depth}
use Rattle.ns_world.specs.Heap.{Heap, find_cell, superclass_in}
use Rattle.ns_world.specs.World.{World, stepped, entered, left}
use Rattle.ns_world.specs.Layout.{declaration_of}
use Rattle.ns_world.specs.Lawful.{IsLiveValue}
use Rattle.ns_kdata.specs.Arguments.{items_of}
use Rattle.ns_kdata.specs.laws.LivingItems.{get_live, items_live}
use Rattle.ns_world.specs.declared.kernel_parts.KMethod.{KMethod}
use Rattle.ns_world.specs.declared.kernel_parts.KMethod.TheVariants as method
use Rattle.ns_kcode.specs.declared.state.KState.{KState}
use Rattle.ns_kcode.specs.declared.state.KAction.{KAction}
use Rattle.ns_kcode.specs.declared.state.KAction.TheVariants as action
use Rattle.ns_kcode.specs.Next.{next, value_of, and_next, or_next, if_true_next, if_false_next, choice_next, tested, while_true_next, while_false_next, has_turn, to_do_next, times_next, do_next}
use Rattle.ns_moves.specs.declared.site.Site.{Site}
use Rattle.ns_moves.specs.Site.{error}
use Rattle.ns_moves.specs.Control.{Progress, in_world, Activation, Exit, FromMethod, FromBody, FromClause, Halts, Skip, Stop, EnterPart, Waiting, Waits, Finishes, charged}
use Rattle.ns_moves.specs.Bodies.{initialiser_of, no_home, opened}
use Rattle.ns_moves.specs.Classes.{super_selector, factory_selector, declared_part, object_part, part_of, super_part, body_ended}
use Rattle.ns_moves.specs.Blocks.{listed, waiting, turned, item_at, acted, method_next}
use Rattle.ns_moves.specs.Lawful.{LawfulRun, LawfulAfter, LawfulPart, LawfulWaiting, LiveState, FitsExit}
use Rattle.ns_moves.specs.laws.Growing.{step_cells}
use Rattle.ns_moves.specs.laws.Onward.{charged_all}
use Rattle.ns_moves.specs.lemmas.Later.{Later, later_not, later_entered, later_left, later_stepped, all_live}
use Rattle.ns_moves.specs.lemmas.LawfulBodies.{opened_lawful, one_live}
use Rattle.ns_moves.specs.lemmas.LawfulClasses.{over_lawful}

-- ---- superclass parts

declared_lawful : (code : CodeProgram) (activation : Activation) (over sel : ℕ) (arguments : List Value) (progress : Progress) →
    LawfulRun code progress → IsLiveValue progress.world.cells code activation.self → All (IsLiveValue progress.world.cells code) arguments
    → LawfulPart code (declared_part code activation over sel arguments progress)
declared_lawful code activation over sel arguments progress lawful live all =
    tested' (eqb sel (factory_selector code (declaration_of progress.world.cells over)))
  where
    inner : Activation
    inner = record { self = activation.self; holder = over; body = initialiser_of code (declaration_of progress.world.cells over); home = no_home; env = Nil; site = activation.site }

    entered' : (world : World) → Later code progress.world world → LawfulPart code (opened code Stop EnterPart inner arguments (in_world progress world))
    entered' world later =
        opened_lawful (LawfulPart code) code Stop EnterPart inner arguments (in_world progress world) later.lawful
        (record { self = later.live activation.self live; env = tt; locals = all_live code progress.world world arguments later all }) later.lawful
        (λ running locals last further fine. (further.lawful, fine))

    tested' : (b : Bool) → LawfulPart code (cond b (charged Stop Depth (entered progress.world) progress (opened code Stop EnterPart inner arguments)) (Stop (error InitMismatch activation.site) progress))
    tested' true = charged_all (LawfulPart code) Stop Depth (entered progress.world) progress (opened code Stop EnterPart inner arguments) lawful (λ world e. entered' world (later_entered code progress.world world lawful e))
    tested' false = lawful

object_lawful : (code : CodeProgram) (activation : Activation) (sel : ℕ) (progress : Progress) → LawfulRun code progress →
    LawfulPart code (object_part code activation sel progress)
object_lawful code activation sel progress lawful = tested' (bytes_eq (selector_text code sel) (codes "new"))
  where
    tested' : (b : Bool) → LawfulPart code (cond b (Skip progress) (Stop (error InitMismatch activation.site) progress))
    tested' true = lawful
    tested' false = lawful

part_lawful : (code : CodeProgram) (activation : Activation) (over : Value) (sel : ℕ) (arguments : List Value) (progress : Progress) →
    LawfulRun code progress → IsLiveValue progress.world.cells code activation.self → All (IsLiveValue progress.world.cells code) arguments
    → LawfulPart code (part_of code activation over sel arguments progress)
part_lawful code activation (Ref over) sel arguments progress lawful live all =
    declared_lawful code activation over sel arguments progress lawful live all
part_lawful code activation Nil sel arguments progress lawful live all = object_lawful code activation sel progress lawful
part_lawful code activation True sel arguments progress lawful live all = object_lawful code activation sel progress lawful
part_lawful code activation False sel arguments progress lawful live all = object_lawful code activation sel progress lawful
part_lawful code activation (Int number) sel arguments progress lawful live all = object_lawful code activation sel progress lawful
part_lawful code activation (Sym name) sel arguments progress lawful live all = object_lawful code activation sel progress lawful
part_lawful code activation (Kernel class) sel arguments progress lawful live all = object_lawful code activation sel progress lawful

-- A part of a superclass leaves a lawful world where self and the arguments are live.
pub super_lawful : (code : CodeProgram) (activation : Activation) (arguments : List Value) (progress : Progress) → LawfulRun code progress →
    IsLiveValue progress.world.cells code activation.self → All (IsLiveValue progress.world.cells code) arguments
    → LawfulPart code (super_part code activation arguments progress)
super_lawful code activation arguments progress lawful live all =
    part_lawful code activation (superclass_in (find_cell progress.world.cells activation.holder)) (super_selector code (declaration_of progress.world.cells activation.holder)) arguments progress lawful live all

-- ---- the end of a body

-- The end of a body with a live value leaves a lawful world.
pub ended_lawful : (code : CodeProgram) (exit : Exit) (activation : Activation) (value : Value) (progress : Progress) →
    LawfulRun code progress → FitsExit progress.world.cells code exit → IsLiveValue progress.world.cells code value
    → LawfulAfter code (body_ended code exit activation value progress)
ended_lawful code FromMethod activation value progress lawful fits live = let later = later_left code progress.world lawful in (later.lawful, later.live value live)
ended_lawful code FromBody activation value progress lawful fits live = let later = later_left code progress.world lawful in (later.lawful, later.live value live)
ended_lawful code (FromClause object holder class) activation value progress lawful fits live =
    over_lawful code object holder class value activation.site (in_world progress (left progress.world)) (later_left code progress.world lawful).lawful
    (record { object_has = fits.object_has; holder_is = fits.holder_is; nested = fits.nested })

-- ---- the kernel's methods

-- The values of an action are live.
abbrev LiveAction : Heap → CodeProgram → KAction → Type 0
LiveAction heap code (action.Evaluate block argument turn count) =
    IsLiveValue heap code block × ForSome argument (λ value. IsLiveValue heap code value)
LiveAction heap code (action.EvaluateItem block item count) = IsLiveValue heap code block
LiveAction heap code (action.Answer value) = IsLiveValue heap code value
LiveAction heap code (action.Fail kind) = Unit {0}

module _ (heap : Heap) (code : CodeProgram) where
  -- no value is live, or the one that there is
  abbrev LiveIf : Option Value → Type 0
  LiveIf o = ForSome o (λ value. IsLiveValue heap code value)

  chosen : (block : Value) (last : Option Value) → IsLiveValue heap code block → LiveIf last → LiveAction heap code (value_of block last)
  chosen block None live last = (live, λ value e. absurd (cc))
  chosen block (Some value) live last = last value refl

  and_live : (receiver block : Value) (last : Option Value) → IsLiveValue heap code receiver → IsLiveValue heap code block → LiveIf last → LiveAction heap code (and_next receiver block last)
  and_live Nil block last one two o = one
  and_live True block last one two o = chosen block last two o
  and_live False block last one two o = one
  and_live (Int number) block last one two o = one
  and_live (Sym sel) block last one two o = one
  and_live (Kernel class) block last one two o = one
  and_live (Ref at) block last one two o = one

  or_live : (receiver block : Value) (last : Option Value) → IsLiveValue heap code receiver → IsLiveValue heap code block → LiveIf last → LiveAction heap code (or_next receiver block last)
  or_live Nil block last one two o = one
  or_live True block last one two o = one
  or_live False block last one two o = chosen block last two o
  or_live (Int number) block last one two o = one
  or_live (Sym sel) block last one two o = one
  or_live (Kernel class) block last one two o = one
  or_live (Ref at) block last one two o = one

  if_true_live : (receiver block : Value) (last : Option Value) → IsLiveValue heap code receiver → IsLiveValue heap code block → LiveIf last → LiveAction heap code (if_true_next receiver block last)
  if_true_live Nil block last one two o = (tt, refl)
  if_true_live True block last one two o = chosen block last two o
  if_true_live False block last one two o = (tt, refl)
  if_true_live (Int number) block last one two o = (tt, refl)
  if_true_live (Sym sel) block last one two o = (tt, refl)
  if_true_live (Kernel class) block last one two o = (tt, refl)
  if_true_live (Ref at) block last one two o = (tt, refl)

  if_false_live : (receiver block : Value) (last : Option Value) → IsLiveValue heap code receiver → IsLiveValue heap code block → LiveIf last → LiveAction heap code (if_false_next receiver block last)
  if_false_live Nil block last one two o = (tt, refl)
  if_false_live True block last one two o = (tt, refl)
  if_false_live False block last one two o = chosen block last two o
  if_false_live (Int number) block last one two o = (tt, refl)
  if_false_live (Sym sel) block last one two o = (tt, refl)
  if_false_live (Kernel class) block last one two o = (tt, refl)
  if_false_live (Ref at) block last one two o = (tt, refl)

  choice_live : (receiver first second : Value) (last : Option Value) → IsLiveValue heap code first → IsLiveValue heap code second → LiveIf last → LiveAction heap code (choice_next receiver first second last)
  choice_live Nil first second last one two o = chosen second last two o
  choice_live True first second last one two o = chosen first last one o
  choice_live False first second last one two o = chosen second last two o
  choice_live (Int number) first second last one two o = chosen second last two o
  choice_live (Sym sel) first second last one two o = chosen second last two o
  choice_live (Kernel class) first second last one two o = chosen second last two o
  choice_live (Ref at) first second last one two o = chosen second last two o

  tested_live : (count : ℤ) (last : Option Value) → LiveIf last → LiveIf (tested count last)
  tested_live count last o = by_test (int_eq count (pos 0))
    where
      by_test : (b : Bool) → LiveIf (cond b None last)
      by_test true = λ value e. absurd (cc)
      by_test false = o

  while_true_live : (receiver block : Value) (o : Option Value) → IsLiveValue heap code receiver → IsLiveValue heap code block → LiveAction heap code (while_true_next receiver block o)
  while_true_live receiver block None one two = (one, λ value e. absurd (cc))
  while_true_live receiver block (Some Nil) one two = tt
  while_true_live receiver block (Some True) one two = (two, λ value e. absurd (cc))
  while_true_live receiver block (Some False) one two = (tt, refl)
  while_true_live receiver block (Some (Int number)) one two = tt
  while_true_live receiver block (Some (Sym sel)) one two = tt
  while_true_live receiver block (Some (Kernel class)) one two = tt
  while_true_live receiver block (Some (Ref at)) one two = tt

  while_false_live : (receiver block : Value) (o : Option Value) → IsLiveValue heap code receiver → IsLiveValue heap code block → LiveAction heap code (while_false_next receiver block o)
  while_false_live receiver block None one two = (one, λ value e. absurd (cc))
  while_false_live receiver block (Some Nil) one two = tt
  while_false_live receiver block (Some True) one two = (tt, refl)
  while_false_live receiver block (Some False) one two = (two, λ value e. absurd (cc))
  while_false_live receiver block (Some (Int number)) one two = tt
  while_false_live receiver block (Some (Sym sel)) one two = tt
  while_false_live receiver block (Some (Kernel class)) one two = tt
  while_false_live receiver block (Some (Ref at)) one two = tt

  counted : (block : Value) (number : ℤ) (next : ℤ) (start : ℤ) (b : Bool) → IsLiveValue heap code block → LiveAction heap code (cond b (action.Evaluate block (Some (Int number)) true next) (action.Answer (Int start)))
  counted block number next start true live = (live, λ value e. let is : Int number ≡ value = cc in subst (IsLiveValue heap code) is (tt, refl))
  counted block number next start false live = (tt, refl)

  to_do_live : (receiver end block : Value) (count : ℤ) → IsLiveValue heap code receiver → IsLiveValue heap code block → LiveAction heap code (to_do_next receiver end block count)
  to_do_live Nil end block count one two = one
  to_do_live True end block count one two = one
  to_do_live False end block count one two = one
  to_do_live (Int start) Nil block count one two = one
  to_do_live (Int start) True block count one two = one
  to_do_live (Int start) False block count one two = one
  to_do_live (Int start) (Int end) block count one two = counted block (start +ℤ count) (saturate_signed w64 (count +ℤ pos 1)) start (has_turn (start +ℤ count) end) two
  to_do_live (Int start) (Sym sel) block count one two = one
  to_do_live (Int start) (Kernel class) block count one two = one
  to_do_live (Int start) (Ref at) block count one two = one
  to_do_live (Sym sel) end block count one two = one
  to_do_live (Kernel class) end block count one two = one
  to_do_live (Ref at) end block count one two = one

  repeated : (block : Value) (next times : ℤ) (b : Bool) → IsLiveValue heap code block → LiveAction heap code (cond b (action.Evaluate block None true next) (action.Answer (Int times)))
  repeated block next times true live = (live, λ value e. absurd (cc))
  repeated block next times false live = (tt, refl)

  times_live : (receiver block : Value) (count : ℤ) → IsLiveValue heap code receiver → IsLiveValue heap code block → LiveAction heap code (times_next receiver block count)
  times_live Nil block count one two = one
  times_live True block count one two = one
  times_live False block count one two = one
  times_live (Int times) block count one two = repeated block (count +ℤ pos 1) times (int_lt count times) two
  times_live (Sym sel) block count one two = one
  times_live (Kernel class) block count one two = one
  times_live (Ref at) block count one two = one

  do_live : (receiver block : Value) (size count : ℤ) → IsLiveValue heap code receiver → IsLiveValue heap code block → LiveAction heap code (do_next receiver block size count)
  do_live receiver block size count one two = by_test (int_lt count size)
    where
      by_test : (b : Bool) → LiveAction heap code (cond b (action.EvaluateItem block count (count +ℤ pos 1)) (action.Answer receiver))
      by_test true = two
      by_test false = one

  -- what a method does next is with live values
  next_live : (m : KMethod) (state : KState) → LiveState heap code state → LiveAction heap code (next m state)
  next_live method.And s live = and_live s.receiver s.first s.last live.receiver live.first live.last
  next_live method.Or s live = or_live s.receiver s.first s.last live.receiver live.first live.last
  next_live method.IfTrue s live = if_true_live s.receiver s.first s.last live.receiver live.first live.last
  next_live method.IfFalse s live = if_false_live s.receiver s.first s.last live.receiver live.first live.last
  next_live method.IfTrueIfFalse s live = choice_live s.receiver s.first s.second s.last live.first live.second live.last
  next_live method.IfFalseIfTrue s live = choice_live s.receiver s.second s.first s.last live.second live.first live.last
  next_live method.WhileTrue s live = while_true_live s.receiver s.first (tested s.count s.last) live.receiver live.first
  next_live method.WhileFalse s live = while_false_live s.receiver s.first (tested s.count s.last) live.receiver live.first
  next_live method.ToDo s live = to_do_live s.receiver s.first s.second s.count live.receiver live.second
  next_live method.TimesRepeat s live = times_live s.receiver s.first s.count live.receiver live.first
  next_live method.Do s live = do_live s.receiver s.first s.size s.count live.receiver live.first

waiting_live : (code : CodeProgram) (old new : World) (state : KState) (count : ℤ) → Later code old new → LiveState old.cells code state →
    LiveState new.cells code (waiting state count)
waiting_live code old new state count later live =
    record { receiver = later.live state.receiver live.receiver; first = later.live state.first live.first; second = later.live state.second live.second; last = λ value e. absurd (cc) }

listed_live : (heap : Heap) (code : CodeProgram) (o : Option Value) → ForSome o (λ value. IsLiveValue heap code value) →
    All (IsLiveValue heap code) (listed o)
listed_live heap code None o = λ i d h. absurd (omega (arith, h))
listed_live heap code (Some value) o = one_live heap code value (o value refl)

-- a turn of a loop
turned_lawful : (code : CodeProgram) (turn : Bool) (progress : Progress) (go : Progress → Waiting) → LawfulRun code progress →
    ((world : World) → Later code progress.world world → LawfulWaiting code (go (in_world progress world))) →
    LawfulWaiting code (turned turn progress go)
turned_lawful code true progress go lawful goes =
    charged_all (LawfulWaiting code) (λ ending progress. Finishes (Halts ending progress)) Steps (stepped progress.world) progress go lawful
    (λ world e. goes world (later_stepped code progress.world world lawful e (step_cells progress.world world e)))
turned_lawful code false progress go lawful goes = goes progress.world (later_not code progress.world lawful)

acted_lawful : (code : CodeProgram) (a : KAction) (state : KState) (site : Site) (progress : Progress) → LawfulRun code progress →
    LiveState progress.world.cells code state → LiveAction progress.world.cells code a → LawfulWaiting code (acted a state site progress)
acted_lawful code (action.Evaluate block argument turn count) state site progress lawful live fits =
    turned_lawful code turn progress (Waits block (listed argument) (waiting state count)) lawful
    (λ world later. (later.lawful, later.live block fits.0, all_live code progress.world world (listed argument) later (listed_live progress.world.cells code argument fits.1), waiting_live code progress.world world state count later live))
acted_lawful code (action.EvaluateItem block item count) state site progress lawful live fits =
    turned_lawful code true progress (λ progress. Waits block (item_at progress.world.cells state.receiver item ∷ []) (waiting state count) progress) lawful
    (λ world later. (
      later.lawful,
      later.live block fits,
      one_live world.cells code (item_at world.cells state.receiver item) (get_live (IsLiveValue world.cells code) (items_of world.cells state.receiver) (unsigned_abs item) (items_live world code state.receiver later.lawful) (tt, refl)),
      waiting_live code progress.world world state count later live,
    ))
acted_lawful code (action.Answer value) state site progress lawful live fits = let later = later_left code progress.world lawful in (later.lawful, later.live value fits)
acted_lawful code (action.Fail kind) state site progress lawful live fits = lawful

-- An action of a method of the kernel whose values are live leaves a lawful world.
pub next_lawful : (code : CodeProgram) (m : KMethod) (state : KState) (site : Site) (progress : Progress) → LawfulRun code progress →
    LiveState progress.world.cells code state → LawfulWaiting code (method_next m state site progress)
next_lawful code m state site progress lawful live =
    acted_lawful code (next m state) state site progress lawful live (next_live progress.world.cells code m state live)
