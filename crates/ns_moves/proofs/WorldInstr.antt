-- Instructions leave a world of a run, and end it fitly.
use Rattle.std.proofs.Common.{◌≡◌, ℕ, zero, suc, ◌+◌, ◌<◌, List, [], ◌∷◌, length, All, ◌∙◌, arith, Option, Bool, true, false, cond}
use Rattle.std.specs.Option.{ForSome}
use Rattle.std.proofs.lemmas.List.Elements.{All-cons, All-head, All-tail, All-nil}
use Rattle.ns_base.specs.declared.place.Place.{Place as SourcePlace}
use Rattle.ns_base.specs.declared.selector.Sel.{Sel}
use Rattle.ns_code.specs.declared.program.CodeProgram.{CodeProgram}
use Rattle.ns_code.specs.declared.instruction.Instr.{Instr}
use Rattle.ns_code.specs.declared.instruction.Instr.TheVariants as i
use Rattle.ns_world.specs.declared.value.Value.{Value}
use Rattle.ns_world.specs.declared.ending.Kind.TheVariants.{MustBeBoolean}
use Rattle.ns_world.specs.declared.ending.Ending.TheVariants.{Limit}
use Rattle.ns_world.specs.declared.ending.LimitKind.TheVariants.{Steps}
use Rattle.ns_world.specs.World.{stepped}
use Rattle.ns_world.specs.Lawful.{IsLiveValue}
use Rattle.ns_facets.specs.declared.row.Grants.{Grants}
use Rattle.ns_find.specs.declared.found.Sending.TheVariants.{Inner}
use Rattle.ns_moves.specs.Site.{error}
use Rattle.ns_moves.specs.Control.{Progress, Activation, charged}
use Rattle.ns_moves.specs.Classes.{super_part, body_ended}
use Rattle.ns_moves.specs.Blocks.{new_block, new_text, new_array}
use Rattle.ns_world.specs.Booleans.{is_boolean}
use Rattle.ns_moves.specs.Sends.{Target, To, ToPrivate, ToSuper, to_value, sent}
use Rattle.ns_moves.specs.Lawful.{FitsTarget, FitsSelector}
use Rattle.ns_moves.specs.Actions.{Sends, BeginsPart, EndsPart, EndsBody, MakesBlock, MakesText, MakesArray, FillsSlot, StoresLocal}
use Rattle.ns_moves.specs.laws.Onward.{charged_all}
use Rattle.ns_moves.specs.laws.Spending.{action_spends}
use Rattle.ns_moves.specs.laws.Ending.{action_ends}
use Rattle.ns_moves.specs.laws.LawfulSends.{sent_lawful}
use Rattle.ns_moves.specs.laws.LawfulParts.{ended_lawful}
use Rattle.ns_moves.specs.laws.LawfulValues.{text_lawful, array_lawful, block_lawful}
use Rattle.ns_moves.specs.State.{Leaving, Loud, Silent, Frame, Running, Phase, State, Going, Ended, Stuck}
use Rattle.ns_moves.specs.Steps.{PlacedInstr, steps_from, literal}
use Rattle.ns_moves.specs.Operands.{on_top, taken_off, picked}
use Rattle.ns_moves.specs.Returns.{returned}
use Rattle.ns_moves.specs.Arrivals.{arrived, part_arrived}
use Rattle.ns_moves.specs.Jumps.{goes_back, jumped, takes_jump, jumped_on}
use Rattle.ns_moves.specs.Instructions.{executed}
use Rattle.ns_moves.specs.Fitting.{FitsSite}
use Rattle.ns_moves.specs.WorldAsks.{SelectorTakes, CanLeave, InstrAsks}
use Rattle.ns_moves.proofs.WorldKeeps.{InWorld, action_in, stepped_in}
use Rattle.ns_moves.proofs.WorldEnds.{InWorldOf, ended_in, settled_in, cell_settles, end_settles, arrived_in, part_in, returned_home_in}

-- ---- operands

top_live : (P : State → Type 0) (Q : Value → Type 0) (missing : State) (stack : List Value) (go : Value → List Value → State) → P missing →
    All Q stack
    → ((v : Value) (below : List Value) → Q v → All Q below → P (go v below)) → P (on_top missing stack go)
top_live P Q missing [] go m all g = m
top_live P Q missing (v ∷ below) go m all g = g v below (All-head Q v below all) (All-tail Q v below all)

taken_live : (P : State → Type 0) (Q : Value → Type 0) (missing : State) (count : ℕ) (vs stack : List Value) (go : List Value → List Value → State)
    → P missing → All Q vs → All Q stack
    → ((taken below : List Value) → length taken ≡ count + length vs → All Q taken → All Q below → P (go taken below))
    → P (taken_off missing count vs stack go)
taken_live P Q missing zero vs stack go m all rest g = g vs stack (omega arith) all rest
taken_live P Q missing (suc count) vs [] go m all rest g = m
taken_live P Q missing (suc count) vs (v ∷ stack) go m all rest g =
    taken_live P Q missing count (v ∷ vs) stack go m (All-cons Q v vs (All-head Q v stack rest) all) (All-tail Q v stack rest)
    (λ taken below e more other. let one : length (v ∷ vs) ≡ length vs + 1 = omega arith in
    let many : length taken ≡ suc count + length vs = omega (arith, e, one) in g taken below many more other)

picked_in : (P : State → Type 0) (missing : State) (place : ℕ) (stack : List Value) (go : Value → State) → P missing →
    ((v : Value) → P (go v))
    → P (picked missing place stack go)
picked_in P missing place [] go m g = m
picked_in P missing zero (v ∷ stack) go m g = g v
picked_in P missing (suc place) (v ∷ stack) go m g = picked_in P missing place stack go m g

-- ---- instructions

module _ (code : CodeProgram) (grants : Grants) (phase : Phase) (leaving : Leaving) (a : Activation) (ls : List Value) (rest : List PlacedInstr)
    (frames : List Frame) (p : Progress) (w : InWorld code grants phase p) (site : FitsSite code a.site)
    (depth : p.world.depth ≡ suc (length frames)) where
  abbrev Fits : State → Type 0
  Fits s = InWorldOf code grants s

  abbrev Live : Value → Type 0
  Live v = IsLiveValue p.world.cells code v

  abbrev frame : List Value → Frame
  frame stack = Running leaving a ls rest stack

  sends : (target : Target) (sel : Sel) (vs : List Value) (place : Option SourcePlace) (below : List Value) → FitsTarget p.world.cells code a target
      → FitsSelector p.world.cells code sel vs → ForSome place (λ (place : SourcePlace). place.file < length code.files)
      → Fits (arrived code phase (sent code a target sel vs place p) (Running leaving a ls rest below ∷ frames))
  sends target sel vs place below to fits file =
      arrived_in code grants phase (sent code a target sel vs place p) (Running leaving a ls rest below ∷ frames) p
      (action_in code grants phase (Sends a target sel vs place) p w (to, fits)) depth
      (sent_lawful code a target sel vs place p w.world.lawful to fits)
      (action_ends code (Sends a target sel vs place) p w.world.lawful (record { selector = fits.selector; file = file }))
      (action_spends code (Sends a target sel vs place) p)

  -- the operands that a send takes fit its selector
  selects : (sel : Sel) (argc : ℕ) (vs : List Value) → SelectorTakes code sel argc → length vs ≡ argc + length {A = Value} [] → All Live vs
      → FitsSelector p.world.cells code sel vs
  selects sel argc vs t e all = record { selector = t.selector; arity = (let n : length vs ≡ argc = omega (arith, e) in n ∙ t.arity); live = all }

  begins_part : (vs below : List Value) → Live a.self → All Live vs
      → Fits (part_arrived code phase (super_part code a vs p) (Running leaving a ls rest below ∷ frames))
  begins_part vs below self all =
      part_in code grants phase (super_part code a vs p) (Running leaving a ls rest below ∷ frames)
      (action_in code grants phase (BeginsPart a vs) p w (self, all)) (action_ends code (BeginsPart a vs) p w.world.lawful site)

  returns : (how : Leaving) (v : Value) → CanLeave p.world.cells code how → Live v → Fits (returned code phase how a v frames p)
  returns (Loud exit) v can live =
      settled_in code grants phase (body_ended code exit a v p) frames (action_in code grants phase (EndsBody exit a v) p w (can, live))
      (end_settles code grants p (body_ended code exit a v p) (frame []) frames depth (ended_lawful code exit a v p w.world.lawful can live)
      (action_ends code (EndsBody exit a v) p w.world.lawful site) (action_spends code (EndsBody exit a v) p))
  returns Silent v can live = action_in code grants phase EndsPart p w tt

  jumps : (landing : List PlacedInstr) (stack : List Value) → Fits (jumped phase leaving a ls rest landing stack frames p)
  jumps landing stack = tested (goes_back rest landing)
    where
      go : Progress → State
      go = Going phase (Running leaving a ls landing stack ∷ frames)

      tested : (b : Bool) → Fits (cond b (charged (λ ending q. Ended ending phase q) Steps (stepped p.world) p go) (go p))
      tested true =
          charged_all Fits (λ ending q. Ended ending phase q) Steps (stepped p.world) p go (ended_in code grants (Limit Steps) phase p w tt)
          (λ world e. stepped_in code grants phase p world w e)
      tested false = w

  jumps_on : (wanted : Bool) (v : Value) (landing : List PlacedInstr) (stack : List Value) → Fits (jumped_on phase wanted v leaving a ls rest landing stack frames p)
  jumps_on wanted v landing stack = tested (is_boolean v) (takes_jump wanted v)
    where
      tested : (b c : Bool)
          → Fits (cond b (cond c (jumped phase leaving a ls rest landing stack frames p) (Going phase (Running leaving a ls rest stack ∷ frames) p))
          (Ended (error MustBeBoolean a.site) phase p))
      tested true true = jumps landing stack
      tested true false = w
      tested false c = ended_in code grants (error MustBeBoolean a.site) phase p w site

  pub executed_in : (instr : Instr) (place : Option SourcePlace) (stack : List Value) → InstrAsks code instr leaving a p → All Live stack
      → ForSome place (λ (place : SourcePlace). place.file < length code.files) → Fits (executed code phase instr place leaving a ls rest stack frames p)
  executed_in i.PushNil place stack asks live file = w
  executed_in i.PushTrue place stack asks live file = w
  executed_in i.PushFalse place stack asks live file = w
  executed_in (i.PushInt number) place stack asks live file = w
  executed_in (i.PushSym sel) place stack asks live file = w
  executed_in (i.PushText text) place stack asks live file =
      let bytes : List ℕ = literal code text in
      settled_in code grants phase (new_text bytes p) (frame stack ∷ frames) (action_in code grants phase (MakesText bytes) p w tt)
      (cell_settles code grants p (new_text bytes p) (frame stack ∷ frames) depth (text_lawful code bytes p w.world.lawful)
      (action_ends code (MakesText bytes) p w.world.lawful tt) (action_spends code (MakesText bytes) p))
  executed_in i.PushSelf place stack asks live file = w
  executed_in (i.PushOuter level) place stack asks live file = w
  executed_in (i.PushLocal hops index) place stack asks live file = w
  executed_in (i.StoreLocal hops index) place stack asks live file =
      top_live Fits Live (Stuck p) stack _ tt live (λ v below l more. action_in code grants phase (StoresLocal a hops index v) p w (asks, l))
  executed_in (i.PushBlock body) place stack asks live file =
      settled_in code grants phase (new_block a body p) (frame stack ∷ frames) (action_in code grants phase (MakesBlock a body) p w asks)
      (cell_settles code grants p (new_block a body p) (frame stack ∷ frames) depth (block_lawful code a body p w.world.lawful asks.0)
      (action_ends code (MakesBlock a body) p w.world.lawful tt) (action_spends code (MakesBlock a body) p))
  executed_in (i.MakeArray count) place stack asks live file =
      taken_live Fits Live (Stuck p) count [] stack _ tt (All-nil Live) live
      (λ items below e all more. settled_in code grants phase (new_array items p) (frame below ∷ frames) (action_in code grants phase (MakesArray items) p w all)
      (cell_settles code grants p (new_array items p) (frame below ∷ frames) depth (array_lawful code items p w.world.lawful all)
      (action_ends code (MakesArray items) p w.world.lawful tt) (action_spends code (MakesArray items) p)))
  executed_in i.Pop place stack asks live file = top_live Fits Live (Stuck p) stack _ tt live (λ v below l more. w)
  executed_in (i.Pick number) place stack asks live file = picked_in Fits (Stuck p) number stack _ tt (λ v. w)
  executed_in (i.Send sel argc) place stack asks live file =
      taken_live Fits Live (Stuck p) argc [] stack _ tt (All-nil Live) live
      (λ vs below e all more.
      top_live Fits Live (Stuck p) below _ tt more (λ v under l less. sends (to_value v) sel vs place under l (selects sel argc vs asks e all) file))
  executed_in (i.SendInner sel argc) place stack asks live file =
      taken_live Fits Live (Stuck p) argc [] stack _ tt (All-nil Live) live
      (λ vs below e all more.
      top_live Fits Live (Stuck p) below _ tt more (λ v under l less. sends (To v Inner) sel vs place under l (selects sel argc vs asks e all) file))
  executed_in (i.SendPrivate level sel argc) place stack asks live file =
      taken_live Fits Live (Stuck p) argc [] stack _ tt (All-nil Live) live
      (λ vs below e all more. sends (ToPrivate level) sel vs place below asks.1 (selects sel argc vs asks.0 e all) file)
  executed_in (i.SendSuper sel argc) place stack asks live file =
      taken_live Fits Live (Stuck p) argc [] stack _ tt (All-nil Live) live
      (λ vs below e all more. sends ToSuper sel vs place below asks.1 (selects sel argc vs asks.0 e all) file)
  executed_in (i.InitSuper argc) place stack asks live file =
      taken_live Fits Live (Stuck p) argc [] stack _ tt (All-nil Live) live (λ vs below e all more. begins_part vs below asks all)
  executed_in (i.StoreSlot slot) place stack asks live file =
      top_live Fits Live (Stuck p) stack _ tt live (λ v below l more. action_in code grants phase (FillsSlot a slot v) p w (asks, l))
  executed_in i.Return place stack asks live file =
      top_live Fits Live (Stuck p) stack _ tt live (λ v below l more. returns leaving v asks l)
  executed_in i.ReturnSelf place stack asks live file = returns leaving a.self asks.0 asks.1
  executed_in i.ReturnHome place stack asks live file =
      top_live Fits Live (Stuck p) stack _ tt live
      (λ v below l more. returned_home_in code grants phase a v (frame below ∷ frames) p w l site depth)
  executed_in (i.Jump target) place stack asks live file = jumps (steps_from code a.body target) stack
  executed_in (i.JumpFalse target) place stack asks live file =
      top_live Fits Live (Stuck p) stack _ tt live (λ v below l more. jumps_on false v (steps_from code a.body target) below)
  executed_in (i.JumpTrue target) place stack asks live file =
      top_live Fits Live (Stuck p) stack _ tt live (λ v below l more. jumps_on true v (steps_from code a.body target) below)
