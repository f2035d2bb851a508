-- Actions keep the world one of a run of sound code.
use Rattle.std.proofs.Common.{◌≡◌, inl, inr, ℕ, ◌+◌, ◌≤◌, List, [], ◌∷◌, ◌++◌, map, refl, sym, subst, arith, Option, Some, None, Bool, true, false}
use Rattle.std.specs.List.{list_all}
use Rattle.ns_code.specs.declared.program.CodeProgram.{CodeProgram}
use Rattle.ns_code.specs.declared.class.ClassCode.{ClassCode}
use Rattle.ns_base.specs.declared.selector.Sel.{Sel}
use Rattle.ns_world.specs.declared.value.Value.{Value}
use Rattle.ns_world.specs.declared.cell.FacetKind.{FacetKind}
use Rattle.ns_world.specs.declared.cell.NewCell.{NewCell}
use Rattle.ns_world.specs.Cell.{Cell, shape_of}
use Rattle.ns_world.specs.Lawful.{IsLiveValue}
use Rattle.ns_world.specs.Starts.{start_of}
use Rattle.ns_world.specs.World.{World, stepped}
use Rattle.ns_facets.specs.declared.row.Grants.{Grants}
use Rattle.ns_find.specs.Find.{found_from}
use Rattle.ns_find.specs.declared.found.Sending.TheVariants.{Plain}
use Rattle.ns_kdata.specs.Leading.{is_common}
use Rattle.ns_kcode.specs.Next.{next}
use Rattle.ns_moves.specs.declared.site.Site.{Site}
use Rattle.ns_moves.specs.Control.{Progress, in_world, FromMethod, FromBody, FromClause, After, Gives, Halts, Control, Now, Enter, Evaluate, Begin, Perform}
use Rattle.ns_moves.specs.Control.{PartControl, Skip, Stop, EnterPart, Waiting, Waits, Finishes}
use Rattle.ns_moves.specs.Sends.{sent, sent_plain, performed}
use Rattle.ns_moves.specs.Blocks.{evaluated, method_next, new_block, new_text, new_array}
use Rattle.ns_moves.specs.Classes.{super_part, body_ended}
use Rattle.ns_moves.specs.Start.{facet_if, facets_of, top_if, tops_of, standing_cells}
use Rattle.ns_moves.specs.Lawful.{LawfulRun, LawfulAfter, LawfulControl, LawfulPart, LawfulWaiting, FitsSelector}
use Rattle.ns_moves.specs.Onward.{reached, after_reached, part_reached, waiting_reached}
use Rattle.ns_moves.specs.Actions.{Action, Sends, SendsPlain, Performs, Evaluates, Continues, BeginsPart, EndsPart, EndsBody, MakesBlock, MakesText}
use Rattle.ns_moves.specs.Actions.{MakesArray, FillsSlot, StoresLocal, progress_after}
use Rattle.ns_moves.specs.Adding.{Adds, is_block_of}
use Rattle.ns_moves.specs.Spending.{Charged, GivenBack, Stopped, ControlSpends, PartSpends, WaitingSpends, CellSpends, EndSpends, action_steps}
use Rattle.ns_moves.specs.laws.AddingOn.{action_adds}
use Rattle.ns_moves.specs.laws.Counting.{step_charged}
use Rattle.ns_moves.specs.laws.Spending.{action_spends}
use Rattle.ns_moves.specs.laws.SendsOnward.{stepped_onward}
use Rattle.ns_moves.specs.laws.LawfulBlocks.{evaluated_lawful}
use Rattle.ns_moves.specs.laws.LawfulSends.{sent_lawful, plain_lawful, performed_lawful}
use Rattle.ns_moves.specs.laws.SentFrom.{from_lawful, from_spends}
use Rattle.ns_moves.specs.laws.LawfulParts.{super_lawful, ended_lawful, next_lawful}
use Rattle.ns_moves.specs.laws.LawfulValues.{text_lawful, array_lawful, block_lawful, slot_lawful, local_lawful}
use Rattle.ns_world.specs.laws.Charging.{leave_keeps, step_keeps}
use Rattle.ns_moves.specs.laws.Growing.{step_cells}
use Rattle.ns_moves.specs.laws.Adding.{cells_same}
use Rattle.ns_moves.specs.State.{Phase, Start, First, Second, Hosted}
use Rattle.ns_moves.specs.Move.{sent_on}
use Rattle.ns_moves.specs.Valid.{WorldIsValid, HasArgumentsIn, has_begun}
use Rattle.ns_moves.specs.WorldStays.{AsksOfWorld, ActionsKeepWorld}
use Rattle.ns_moves.proofs.WorldCells.{both_of, first_of, second_of, is_fixed, no_facet, home_fits, begins_on, arguments_on, homes_on}
use Rattle.ns_moves.proofs.WorldCells.{common_is_no_facet, common_has_home, block_is_no_facet, block_has_home, block_home_more}

-- ---- the first cells are facets and classes

fixed_more : (first second : List Cell) → list_all is_fixed (map shape_of first) ≡ true → list_all is_fixed (map shape_of second) ≡ true
    → list_all is_fixed (map shape_of (first ++ second)) ≡ true
fixed_more [] second e f = f
fixed_more (cell ∷ first) second e f =
    both_of (is_fixed (shape_of cell)) (list_all is_fixed (map shape_of (first ++ second))) (first_of (is_fixed (shape_of cell)) _ e)
    (fixed_more first second (second_of (is_fixed (shape_of cell)) _ e) f)

facet_fixed : (granted : Bool) (kind : FacetKind) → list_all is_fixed (map shape_of (facet_if granted kind)) ≡ true
facet_fixed true kind = refl
facet_fixed false kind = refl

facets_fixed : (grants : Grants) → list_all is_fixed (map shape_of (facets_of grants)) ≡ true
facets_fixed grants =
    fixed_more (facet_if grants.console _) _ (facet_fixed grants.console _)
    (fixed_more (facet_if grants.mirrors _) _ (facet_fixed grants.mirrors _)
    (fixed_more (facet_if grants.kernel _) (facet_if grants.board _) (facet_fixed grants.kernel _) (facet_fixed grants.board _)))

top_fixed : (outer : Option ℕ) (decl : ℕ) → list_all is_fixed (map shape_of (top_if outer decl)) ≡ true
top_fixed None decl = refl
top_fixed (Some outer) decl = refl

tops_fixed : (decl : ℕ) (classes : List ClassCode) → list_all is_fixed (map shape_of (tops_of decl classes)) ≡ true
tops_fixed decl [] = refl
tops_fixed decl (class ∷ classes) =
    fixed_more (top_if class.outer decl) (tops_of (decl + 1) classes) (top_fixed class.outer decl) (tops_fixed (decl + 1) classes)

pub standing_fixed : (code : CodeProgram) (grants : Grants) → list_all is_fixed (map shape_of (standing_cells code grants)) ≡ true
standing_fixed code grants = fixed_more (facets_of grants) (tops_of 0 code.classes) (facets_fixed grants) (tops_fixed 0 code.classes)

-- ---- no more methods begin than steps are charged

-- The count of begun methods has not fallen, and is no greater than the steps.
pub record Begins (old new : Progress) : Type 0 where
  pub fits : new.begun ≤ new.world.steps
  pub more : old.begun ≤ new.begun

module _ (p : Progress) (within : p.begun ≤ p.world.steps) where
  begins_same : (q : Progress) → q ≡ p → Begins p q
  begins_same q e = subst (Begins p) (sym e) (record { fits = within; more = omega arith })

  begins_back : (q : Progress) → GivenBack p q → Begins p q
  begins_back q s = record { fits = omega (arith, within, s.steps, s.begun); more = omega (arith, s.begun) }

  begins_charged : (steps frames begun : ℕ) (q : Progress) → begun ≤ steps → Charged steps frames begun p q → Begins p q
  begins_charged steps frames begun q few s = record { fits = omega (arith, within, few, s.steps, s.begun); more = omega (arith, s.begun) }

  begins_stopped : (steps : ℕ) (q : Progress) → Stopped steps p q → Begins p q
  begins_stopped steps q (inl e) = begins_same q e
  begins_stopped steps q (inr (inl s)) = begins_charged steps 0 0 q (omega arith) s
  begins_stopped steps q (inr (inr s)) = begins_charged steps 1 0 q (omega arith) s

  pub begins_control : (c : Control) → ControlSpends 1 p c → Begins p (reached c)
  begins_control (Now (Gives v q)) s = begins_charged 1 0 0 q (omega arith) s
  begins_control (Now (Halts ending q)) s = begins_stopped 1 q s
  begins_control (Enter FromMethod a ls q) s = begins_charged 1 1 1 q (omega arith) s.0
  begins_control (Enter FromBody a ls q) s = begins_charged 1 1 0 q (omega arith) s
  begins_control (Enter (FromClause object holder class) a ls q) s = begins_charged 1 1 0 q (omega arith) s
  begins_control (Evaluate block arguments site q) s = begins_charged 1 0 0 q (omega arith) s
  begins_control (Begin method state site q) s = begins_charged 1 1 0 q (omega arith) s
  begins_control (Perform receiver sel array site q) s = begins_charged 1 0 0 q (omega arith) s

  begins_part : (part : PartControl) → PartSpends p part → Begins p (part_reached part)
  begins_part (Skip q) s = begins_charged 0 0 0 q (omega arith) s
  begins_part (Stop ending q) s = begins_stopped 0 q s
  begins_part (EnterPart a ls q) s = begins_charged 0 1 0 q (omega arith) s

  begins_waiting : (steps : ℕ) (w : Waiting) → WaitingSpends steps p w → Begins p (waiting_reached w)
  begins_waiting steps (Waits block arguments state q) s = begins_charged steps 0 0 q (omega arith) s
  begins_waiting steps (Finishes (Gives v q)) s = begins_back q s
  begins_waiting steps (Finishes (Halts ending q)) s = begins_same q s

  begins_cell : (after : After) → CellSpends p after → Begins p (after_reached after)
  begins_cell (Gives v q) s = begins_charged 0 0 0 q (omega arith) s
  begins_cell (Halts ending q) s = begins_same q s

  begins_end : (after : After) → EndSpends p after → Begins p (after_reached after)
  begins_end (Gives v q) s = begins_back q s
  begins_end (Halts ending q) s = begins_back q s

  begins_action : (code : CodeProgram) (act : Action) → Begins p (progress_after code act p)
  begins_action code (Sends a target sel vs place) = begins_control (sent code a target sel vs place p) (action_spends code (Sends a target sel vs place) p)
  begins_action code (SendsPlain v sel vs place) = begins_control (sent_plain code v sel vs place p) (action_spends code (SendsPlain v sel vs place) p)
  begins_action code (Performs v sel array site) = begins_control (performed code v sel array site p) (action_spends code (Performs v sel array site) p)
  begins_action code (Evaluates block vs site) = begins_control (evaluated code block vs site p) (action_spends code (Evaluates block vs site) p)
  begins_action code (Continues method state site) =
      begins_waiting (action_steps (next method state)) (method_next method state site p) (action_spends code (Continues method state site) p)
  begins_action code (BeginsPart a vs) = begins_part (super_part code a vs p) (action_spends code (BeginsPart a vs) p)
  begins_action code EndsPart = begins_back (progress_after code EndsPart p) (action_spends code EndsPart p)
  begins_action code (EndsBody exit a v) = begins_end (body_ended code exit a v p) (action_spends code (EndsBody exit a v) p)
  begins_action code (MakesBlock a body) = begins_cell (new_block a body p) (action_spends code (MakesBlock a body) p)
  begins_action code (MakesText bytes) = begins_cell (new_text bytes p) (action_spends code (MakesText bytes) p)
  begins_action code (MakesArray items) = begins_cell (new_array items p) (action_spends code (MakesArray items) p)
  begins_action code (FillsSlot a slot v) =
      begins_charged 0 0 0 (progress_after code (FillsSlot a slot v) p) (omega arith) (action_spends code (FillsSlot a slot v) p)
  begins_action code (StoresLocal a hops place v) =
      begins_charged 0 0 0 (progress_after code (StoresLocal a hops place v) p) (omega arith) (action_spends code (StoresLocal a hops place v) p)

-- ---- the world stays lawful

after_run : (code : CodeProgram) (after : After) → LawfulAfter code after → LawfulRun code (after_reached after)
after_run code (Gives v q) l = l.0
after_run code (Halts ending q) l = l

pub control_run : (code : CodeProgram) (c : Control) → LawfulControl code c → LawfulRun code (reached c)
control_run code (Now after) l = after_run code after l
control_run code (Enter exit a ls q) l = l.0
control_run code (Evaluate block arguments site q) l = l.0
control_run code (Begin method state site q) l = l.0
control_run code (Perform receiver sel array site q) l = l.0

part_run : (code : CodeProgram) (part : PartControl) → LawfulPart code part → LawfulRun code (part_reached part)
part_run code (Skip q) l = l
part_run code (Stop ending q) l = l
part_run code (EnterPart a ls q) l = l.0

waiting_run : (code : CodeProgram) (w : Waiting) → LawfulWaiting code w → LawfulRun code (waiting_reached w)
waiting_run code (Waits block arguments state q) l = l.0
waiting_run code (Finishes after) l = after_run code after l

-- ---- the world of a run, and the arguments that the second opening send will get

pub record InWorld (code : CodeProgram) (grants : Grants) (phase : Phase) (p : Progress) : Type 0 where
  pub world : WorldIsValid code (standing_cells code grants) p
  pub some : has_begun phase ≡ true
  pub arguments : HasArgumentsIn code grants phase p.world.cells

module _ (code : CodeProgram) (grants : Grants) where
  kept : (may : NewCell → Bool) (p q : Progress) → ((shape : NewCell) → may shape ≡ true → no_facet shape ≡ true)
      → ((shape : NewCell) → may shape ≡ true → home_fits code q.begun shape ≡ true)
      → Adds may p.world.cells q.world.cells → LawfulRun code q → Begins p q → WorldIsValid code (standing_cells code grants) p
      → WorldIsValid code (standing_cells code grants) q
  kept may p q none home a lawful b w = record {
    sound = w.sound;
    lawful = lawful;
    begins = begins_on (standing_cells code grants) may p.world.cells q.world.cells (standing_fixed code grants) none a w.begins;
    homes = homes_on code may p.begun q.begun p.world.cells q.world.cells b.more home a w.homes;
    begun = b.fits;
  }

  common_kept : (p q : Progress) → Adds is_common p.world.cells q.world.cells → LawfulRun code q → Begins p q
      → WorldIsValid code (standing_cells code grants) p
      → WorldIsValid code (standing_cells code grants) q
  common_kept p q a lawful b w = kept is_common p q common_is_no_facet (common_has_home code q.begun) a lawful b w

  arguments_stay : (phase : Phase) (may : NewCell → Bool) (p q : Progress) → Adds may p.world.cells q.world.cells
      → WorldIsValid code (standing_cells code grants) p → HasArgumentsIn code grants phase p.world.cells → HasArgumentsIn code grants phase q.world.cells
  arguments_stay (First arguments) may p q a w has =
      arguments_on code grants arguments may p.world.cells q.world.cells (standing_fixed code grants) a w.begins has
  arguments_stay Start may p q a w has = tt
  arguments_stay Second may p q a w has = tt
  arguments_stay Hosted may p q a w has = tt

  pub action_keeps : ActionsKeepWorld code grants
  action_keeps (Sends a target sel vs place) p w asks =
      let act : Action = Sends a target sel vs place in
      common_kept p (progress_after code act p) (action_adds code act p)
      (control_run code (sent code a target sel vs place p) (sent_lawful code a target sel vs place p w.lawful asks.0 asks.1))
      (begins_action p w.begun code act) w
  action_keeps (SendsPlain v sel vs place) p w asks =
      let act : Action = SendsPlain v sel vs place in
      common_kept p (progress_after code act p) (action_adds code act p)
      (control_run code (sent_plain code v sel vs place p) (plain_lawful code v sel vs place p w.lawful asks.0 asks.1)) (begins_action p w.begun code act) w
  action_keeps (Performs v sel array site) p w asks =
      let act : Action = Performs v sel array site in
      common_kept p (progress_after code act p) (action_adds code act p)
      (control_run code (performed code v sel array site p) (performed_lawful code v sel array site p w.lawful asks.0 asks.1))
      (begins_action p w.begun code act) w
  action_keeps (Evaluates block vs site) p w asks =
      let act : Action = Evaluates block vs site in
      common_kept p (progress_after code act p) (action_adds code act p)
      (control_run code (evaluated code block vs site p) (evaluated_lawful code block vs site p w.lawful asks)) (begins_action p w.begun code act) w
  action_keeps (Continues method state site) p w asks =
      let act : Action = Continues method state site in
      common_kept p (progress_after code act p) (action_adds code act p)
      (waiting_run code (method_next method state site p) (next_lawful code method state site p w.lawful asks)) (begins_action p w.begun code act) w
  action_keeps (BeginsPart a vs) p w asks =
      let act : Action = BeginsPart a vs in
      common_kept p (progress_after code act p) (action_adds code act p)
      (part_run code (super_part code a vs p) (super_lawful code a vs p w.lawful asks.0 asks.1)) (begins_action p w.begun code act) w
  action_keeps EndsPart p w asks =
      common_kept p (progress_after code EndsPart p) (action_adds code EndsPart p) (leave_keeps p.world code w.lawful) (begins_action p w.begun code EndsPart) w
  action_keeps (EndsBody exit a v) p w asks =
      let act : Action = EndsBody exit a v in
      common_kept p (progress_after code act p) (action_adds code act p)
      (after_run code (body_ended code exit a v p) (ended_lawful code exit a v p w.lawful asks.0 asks.1)) (begins_action p w.begun code act) w
  action_keeps (MakesBlock a body) p w asks =
      let act : Action = MakesBlock a body in
      let q : Progress = progress_after code act p in
      let b : Begins p q = begins_action p w.begun code act in
      kept (is_block_of body a.home) p q (block_is_no_facet body a.home)
      (λ shape e. block_has_home code q.begun body a.home shape (block_home_more code p.begun q.begun body a.home b.more asks.1) e) (action_adds code act p)
      (after_run code (new_block a body p) (block_lawful code a body p w.lawful asks.0)) b w
  action_keeps (MakesText bytes) p w asks =
      let act : Action = MakesText bytes in
      common_kept p (progress_after code act p) (action_adds code act p) (after_run code (new_text bytes p) (text_lawful code bytes p w.lawful))
      (begins_action p w.begun code act) w
  action_keeps (MakesArray items) p w asks =
      let act : Action = MakesArray items in
      common_kept p (progress_after code act p) (action_adds code act p) (after_run code (new_array items p) (array_lawful code items p w.lawful asks))
      (begins_action p w.begun code act) w
  action_keeps (FillsSlot a slot v) p w asks =
      let act : Action = FillsSlot a slot v in
      common_kept p (progress_after code act p) (action_adds code act p) (slot_lawful code a slot v p w.lawful asks.0 asks.1) (begins_action p w.begun code act) w
  action_keeps (StoresLocal a hops place v) p w asks =
      let act : Action = StoresLocal a hops place v in
      common_kept p (progress_after code act p) (action_adds code act p) (local_lawful code a hops place v p w.lawful asks.0 asks.1)
      (begins_action p w.begun code act) w

  -- so the array of the arguments stays as well
  pub action_in : (phase : Phase) (act : Action) (p : Progress) → InWorld code grants phase p → AsksOfWorld code act p
      → InWorld code grants phase (progress_after code act p)
  action_in phase act p w asks = record {
    world = action_keeps act p w.world asks;
    some = w.some;
    arguments = arguments_stay phase _ p (progress_after code act p) (action_adds code act p) w.world w.arguments;
  }

  -- a plain send that waited with its site
  pub waited_in : (phase : Phase) (receiver : Value) (sel : Sel) (vs : List Value) (site : Site) (p : Progress) → InWorld code grants phase p
      → IsLiveValue p.world.cells code receiver → FitsSelector p.world.cells code sel vs
      → InWorld code grants phase (reached (sent_on code receiver sel vs site p))
  waited_in phase receiver sel vs site p w live fits =
      let c : Control = sent_on code receiver sel vs site p in
      let a : Adds is_common p.world.cells (reached c).world.cells =
      (stepped_onward code (λ cells. found_from cells code (start_of cells receiver) sel.0 Plain) sel (λ cells. receiver) vs (λ cells. site) p).world.adds in
      record {
        world = common_kept p (reached c) a (control_run code c (from_lawful code receiver sel vs site p w.world.lawful live fits))
            (begins_control p w.world.begun c (from_spends code receiver sel vs site p)) w.world;
        some = w.some;
        arguments = arguments_stay phase is_common p (reached c) a w.world w.arguments;
      }

  -- a step alone
  pub stepped_in : (phase : Phase) (p : Progress) (world : World) → InWorld code grants phase p → stepped p.world ≡ Some world
      → InWorld code grants phase (in_world p world)
  stepped_in phase p world w e =
      let q : Progress = in_world p world in
      let a : Adds is_common p.world.cells world.cells = cells_same is_common p.world world (step_cells p.world world e) in
      record {
        world = common_kept p q a (step_keeps p.world world code w.world.lawful e) (begins_charged p w.world.begun 1 0 0 q (omega arith) (step_charged p world e))
            w.world;
        some = w.some;
        arguments = arguments_stay phase is_common p q a w.world w.arguments;
      }
