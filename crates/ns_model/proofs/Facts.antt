-- Single actions are as the law on fuel asks.
use Rattle.std.proofs.Common.{◌≡◌, ℕ, ◌+◌, ◌<◌, List, [], ◌∷◌, length, refl, sym, ap, ◌∙◌, arith, Some, None, Bool, true, false, cond, eqb}
use Rattle.std.specs.Prelude.{nat_lt, codes, ◌&&◌}
use Rattle.std.specs.Str.{bytes_eq}
use Rattle.std.proofs.lemmas.Bool.{eqb-true, ltb-true}
use Rattle.ns_code.specs.declared.program.CodeProgram.{CodeProgram}
use Rattle.ns_code.specs.Selector.{selector_text}
use Rattle.ns_world.specs.declared.value.Value.{Value}
use Rattle.ns_world.specs.declared.value.Value.TheVariants as value
use Rattle.ns_world.specs.declared.cell.NewCell.{NewCell}
use Rattle.ns_world.specs.declared.cell.NewCell.TheVariants as new
use Rattle.ns_world.specs.declared.ending.Kind.TheVariants.{InitMismatch, WrongArity}
use Rattle.ns_world.specs.declared.ending.LimitKind.TheVariants.{Steps, Depth, Cells}
use Rattle.ns_world.specs.Cell.{Cell, ObjectCell, ClassCell, BlockCell, EnvironmentCell, ArrayCell, TextCell, FacetCell, MirrorCell, MessageCell}
use Rattle.ns_world.specs.Heap.{Heap, heap_size, find_cell, is_superclass, has_superclass, is_ordered, superclass_in}
use Rattle.ns_world.specs.World.{World, stepped, entered, made}
use Rattle.ns_world.specs.Layout.{declaration_of}
use Rattle.ns_world.specs.Later.{IsLater}
use Rattle.ns_world.specs.laws.Chains.{class_below}
use Rattle.ns_kdata.specs.Arguments.{shape_of_value}
use Rattle.ns_moves.specs.declared.site.Site.{Site}
use Rattle.ns_moves.specs.Site.{error}
use Rattle.ns_moves.specs.Control.{Progress, in_world, Activation, FromMethod, FromBody, FromClause, After, Gives, Halts, Control, Now, Enter}
use Rattle.ns_moves.specs.Control.{Evaluate, Begin, Perform}
use Rattle.ns_moves.specs.Control.{PartControl, Skip, Stop, EnterPart, Waiting, Waits, Finishes, charged, halts, fails}
use Rattle.ns_moves.specs.Bodies.{parameters_of, has_environment, first_locals, initialiser_of, no_home, opened}
use Rattle.ns_moves.specs.Classes.{super_selector, factory_selector, object_part, part_of, super_part, body_ended}
use Rattle.ns_moves.specs.Blocks.{block_entered, evaluated, method_next, new_block, new_text, new_array}
use Rattle.ns_moves.specs.Sends.{sent, sent_plain, performed}
use Rattle.ns_moves.specs.Onward.{after_reached, reached, part_reached, waiting_reached}
use Rattle.ns_moves.specs.Actions.{Sends, SendsPlain, Performs, Evaluates, Continues, BeginsPart, EndsBody, MakesBlock, MakesText, MakesArray}
use Rattle.ns_moves.specs.Actions.{FillsSlot, StoresLocal}
use Rattle.ns_moves.specs.Spending.{ControlSpends}
use Rattle.ns_moves.specs.laws.Onward.{charged_all}
use Rattle.ns_moves.specs.laws.LeadingOn.{action_leads}
use Rattle.ns_moves.specs.laws.Spending.{action_spends}
use Rattle.ns_model.proofs.Fuel.{Later, Past, AfterLater, Moves, PartLater, WaitsLater, Facts}

-- ---- from what the actions are known to leave

later_of : (old new : Progress) → IsLater old.world new.world → Later old new
later_of old new o = record { steps = o.steps; limits = ap (λ l. l.steps) o.limits; ordered = o.cells.ordered }

after_of : (old : Progress) (after : After) → IsLater old.world (after_reached after).world → AfterLater old after
after_of old (Gives v p) o = later_of old p o
after_of old (Halts e p) o = later_of old p o

waits_of : (old : Progress) (w : Waiting) → IsLater old.world (waiting_reached w).world → WaitsLater old w
waits_of old (Waits block arguments state p) o = later_of old p o
waits_of old (Finishes after) o = after_of old after o

-- ---- where control goes on a step was charged, for which there was room

abbrev IsRoom : Progress → Type 0
IsRoom old = old.world.steps < old.world.limits.steps

abbrev HasRoom : Progress → Control → Type 0
HasRoom old (Now (Gives v p)) = IsRoom old
HasRoom old (Now (Halts e p)) = Unit {0}
HasRoom old (Enter exit a ls p) = IsRoom old
HasRoom old (Evaluate block arguments site p) = IsRoom old
HasRoom old (Begin method state site p) = IsRoom old
HasRoom old (Perform receiver sel array site p) = IsRoom old

room_for : (old : Progress) (c : Control) → IsRoom old → HasRoom old c
room_for old (Now (Gives v p)) r = r
room_for old (Now (Halts e p)) r = tt
room_for old (Enter exit a ls p) r = r
room_for old (Evaluate block arguments site p) r = r
room_for old (Begin method state site p) r = r
room_for old (Perform receiver sel array site p) r = r

room_of : (world after : World) → stepped world ≡ Some after → world.steps < world.limits.steps
room_of world after e = tested (nat_lt world.steps world.limits.steps) refl e
  where
    tested : (b : Bool) → nat_lt world.steps world.limits.steps ≡ b → cond b (Some (record world { steps = world.steps + 1 })) None ≡ Some after
        → world.steps < world.limits.steps
    tested true t e = ltb-true world.steps world.limits.steps t
    tested false t e = absurd (cc)

room_charged : (old : Progress) (go : Progress → Control) → HasRoom old (charged halts Steps (stepped old.world) old go)
room_charged old go =
    charged_all (λ c. HasRoom old c) halts Steps (stepped old.world) old go tt
    (λ world e. room_for old (go (in_world old world)) (room_of old.world world e))

past_of : (old new : Progress) → IsLater old.world new.world → new.world.steps ≡ old.world.steps + 1 → IsRoom old → Past old new
past_of old new o s r = record { steps = omega (arith, s); room = r; limits = ap (λ l. l.steps) o.limits; ordered = o.cells.ordered }

moves_of : (old : Progress) (c : Control) → IsLater old.world (reached c).world → ControlSpends 1 old c → HasRoom old c → Moves old c
moves_of old (Now (Gives v p)) o s r = past_of old p o s.steps r
moves_of old (Now (Halts e p)) o s r = later_of old p o
moves_of old (Enter FromMethod a ls p) o s r = past_of old p o s.0.steps r
moves_of old (Enter FromBody a ls p) o s r = past_of old p o s.steps r
moves_of old (Enter (FromClause object holder class) a ls p) o s r = past_of old p o s.steps r
moves_of old (Evaluate block arguments site p) o s r = past_of old p o s.steps r
moves_of old (Begin method state site p) o s r = past_of old p o s.steps r
moves_of old (Perform receiver sel array site p) o s r = past_of old p o s.steps r

-- the evaluation of a block
block_room : (code : CodeProgram) (cell : NewCell) (arguments : List Value) (site : Site) (p : Progress) →
    HasRoom p (block_entered code cell arguments site p)
block_room code (new.Block body env home receiver holder) arguments site p = tested (eqb (length arguments) (parameters_of code body))
  where
    inner : Activation
    inner = record { self = receiver; holder = holder; body = body; home = home; env = env; site = site }

    tested : (b : Bool) → HasRoom p (cond b (charged halts Steps (stepped p.world) p (λ progress.
        charged halts Depth (entered progress.world) progress (opened code halts (Enter FromBody) inner arguments))) (fails WrongArity site p))
    tested true = room_charged p _
    tested false = tt
block_room code (new.Object class words) arguments site p = tt
block_room code (new.Class decl base encl holder over) arguments site p = tt
block_room code (new.Environment parent locals) arguments site p = tt
block_room code (new.Array size) arguments site p = tt
block_room code (new.Text bytes) arguments site p = tt
block_room code (new.Facet kind) arguments site p = tt
block_room code (new.Mirror shown) arguments site p = tt
block_room code (new.Message sel args) arguments site p = tt

-- ---- superclass parts

and_first : (b c : Bool) → (b && c) ≡ true → b ≡ true
and_first true c e = refl
and_first false c e = absurd (cc)

and_second : (b c : Bool) → (b && c) ≡ true → c ≡ true
and_second true c e = e
and_second false c e = absurd (cc)

-- a superclass has a smaller number
over_below : (earlier : Heap) (cell : Cell) (over : ℕ) → superclass_in (Some cell) ≡ value.Ref over → has_superclass earlier cell ≡ true
    → over < heap_size earlier
over_below earlier (ClassCell decl base encl holder under) over e s = class_below earlier over (ap (is_superclass earlier) (sym e) ∙ s)
over_below earlier (ObjectCell class entries) over e s = absurd (cc)
over_below earlier (BlockCell body env home receiver holder) over e s = absurd (cc)
over_below earlier (EnvironmentCell parent locals) over e s = absurd (cc)
over_below earlier (ArrayCell items) over e s = absurd (cc)
over_below earlier (TextCell bytes) over e s = absurd (cc)
over_below earlier (FacetCell kind) over e s = absurd (cc)
over_below earlier (MirrorCell mirrored) over e s = absurd (cc)
over_below earlier (MessageCell sel args) over e s = absurd (cc)

below : (heap : Heap) (n over : ℕ) → is_ordered heap ≡ true → superclass_in (find_cell heap n) ≡ value.Ref over → over < n
below [] n over o e = absurd (cc)
below (cell ∷ earlier) n over o e =
    tested (eqb n (heap_size earlier)) refl e (below earlier n over (and_second (has_superclass earlier cell) (is_ordered earlier) o))
  where
    tested : (b : Bool) → eqb n (heap_size earlier) ≡ b → superclass_in (cond b (Some cell) (find_cell earlier n)) ≡ value.Ref over
        → (superclass_in (find_cell earlier n) ≡ value.Ref over → over < n) → over < n
    tested true t e further =
        omega (arith, over_below earlier cell over e (and_first (has_superclass earlier cell) (is_ordered earlier) o), eqb-true n (heap_size earlier) t)
    tested false t e further = further e

abbrev Below : ℕ → PartControl → Type 0
Below n (Skip p) = Unit {0}
Below n (Stop e p) = Unit {0}
Below n (EnterPart a ls p) = a.holder < n

opened_below : (n : ℕ) (code : CodeProgram) (a : Activation) (arguments : List Value) (p : Progress) → a.holder < n
    → Below n (opened code Stop EnterPart a arguments p)
opened_below n code a arguments p h = tested (has_environment code a.body)
  where
    locals : List Value
    locals = first_locals code a.body arguments

    inner : Activation
    inner = record a { env = value.Ref (heap_size p.world.cells) }

    tested : (b : Bool) → Below n (cond b (charged Stop Cells (made p.world (EnvironmentCell a.env locals)) p (EnterPart inner [])) (EnterPart a locals p))
    tested true = charged_all (λ part. Below n part) Stop Cells (made p.world (EnvironmentCell a.env locals)) p (EnterPart inner []) tt (λ world e. h)
    tested false = h

object_below : (n : ℕ) (code : CodeProgram) (a : Activation) (sel : ℕ) (p : Progress) → Below n (object_part code a sel p)
object_below n code a sel p = tested (bytes_eq (selector_text code sel) (codes "new"))
  where
    tested : (b : Bool) → Below n (cond b (Skip p) (Stop (error InitMismatch a.site) p))
    tested true = tt
    tested false = tt

part_below : (n : ℕ) (code : CodeProgram) (a : Activation) (over : Value) (sel : ℕ) (arguments : List Value) (p : Progress)
    → ((class : ℕ) → over ≡ value.Ref class → class < n) → Below n (part_of code a over sel arguments p)
part_below n code a (value.Ref over) sel arguments p h = tested (eqb sel (factory_selector code (declaration_of p.world.cells over)))
  where
    inner : Activation
    inner =
        record { self = a.self; holder = over; body = initialiser_of code (declaration_of p.world.cells over); home = no_home; env = value.Nil; site = a.site }

    tested : (b : Bool)
        → Below n (cond b (charged Stop Depth (entered p.world) p (opened code Stop EnterPart inner arguments)) (Stop (error InitMismatch a.site) p))
    tested true =
        charged_all (λ part. Below n part) Stop Depth (entered p.world) p (opened code Stop EnterPart inner arguments) tt
        (λ world e. opened_below n code inner arguments (in_world p world) (h over refl))
    tested false = tt
part_below n code a value.Nil sel arguments p h = object_below n code a sel p
part_below n code a value.True sel arguments p h = object_below n code a sel p
part_below n code a value.False sel arguments p h = object_below n code a sel p
part_below n code a (value.Int number) sel arguments p h = object_below n code a sel p
part_below n code a (value.Sym name) sel arguments p h = object_below n code a sel p
part_below n code a (value.Kernel class) sel arguments p h = object_below n code a sel p

part_fact : (above : ℕ) (old : Progress) (part : PartControl) → IsLater old.world (part_reached part).world → Below above part →
    PartLater above old part
part_fact above old (Skip p) o b = later_of old p o
part_fact above old (Stop e p) o b = later_of old p o
part_fact above old (EnterPart a ls p) o b = (later_of old p o, b)

-- ---- all of them

pub facts : (code : CodeProgram) → Facts code
facts code = record {
  sends = λ a target sel values place p.
      moves_of p (sent code a target sel values place p) (action_leads code (Sends a target sel values place) p)
      (action_spends code (Sends a target sel values place) p) (room_charged p _);
  plain = λ receiver sel values place p.
      moves_of p (sent_plain code receiver sel values place p) (action_leads code (SendsPlain receiver sel values place) p)
      (action_spends code (SendsPlain receiver sel values place) p) (room_charged p _);
  performs = λ receiver sel array site p.
      moves_of p (performed code receiver sel array site p) (action_leads code (Performs receiver sel array site) p)
      (action_spends code (Performs receiver sel array site) p) (room_charged p _);
  evaluates = λ block arguments site p.
      moves_of p (evaluated code block arguments site p) (action_leads code (Evaluates block arguments site) p)
      (action_spends code (Evaluates block arguments site) p) (block_room code (shape_of_value p.world.cells block) arguments site p);
  next = λ named state site p. waits_of p (method_next named state site p) (action_leads code (Continues named state site) p);
  part = λ a arguments p o. part_fact a.holder p (super_part code a arguments p) (action_leads code (BeginsPart a arguments) p)
      (part_below a.holder code a (superclass_in (find_cell p.world.cells a.holder)) (super_selector code (declaration_of p.world.cells a.holder)) arguments p
      (λ class e. below p.world.cells a.holder class o e));
  text = λ bytes p. after_of p (new_text bytes p) (action_leads code (MakesText bytes) p);
  array = λ items p. after_of p (new_array items p) (action_leads code (MakesArray items) p);
  block = λ a body p. after_of p (new_block a body p) (action_leads code (MakesBlock a body) p);
  local = λ a hops index v p. later_of p _ (action_leads code (StoresLocal a hops index v) p);
  slot = λ a slot v p. later_of p _ (action_leads code (FillsSlot a slot v) p);
  ended = λ exit a v p. after_of p (body_ended code exit a v p) (action_leads code (EndsBody exit a v) p);
}
