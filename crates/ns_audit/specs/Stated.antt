-- What is said of audits.
use Rattle.std.specs.Prelude.{◌≡◌, ◌⊎◌, ℕ, List, [], ◌∷◌, Option, Some, None, slice_get, Bool, true, false, ◌||◌, is_some, IsSomeAnd}
use Rattle.std.specs.Option.{option_map_or}
use Rattle.ns_base.specs.Limits.{InRange}
use Rattle.ns_base.specs.declared.limits.Limits.{Limits}
use Rattle.ns_base.specs.declared.place.Place.{Place as SourcePlace}
use Rattle.ns_base.specs.declared.selector.Sel.{Sel}
use Rattle.ns_code.specs.Fits.{Fits}
use Rattle.ns_code.specs.Instructions.{carries_place}
use Rattle.ns_code.specs.declared.program.CodeProgram.{CodeProgram}
use Rattle.ns_code.specs.declared.body.BodyCode.{BodyCode}
use Rattle.ns_code.specs.declared.instruction.Instr.{Instr}
use Rattle.ns_code.specs.declared.instruction.Instr.TheVariants.{InitSuper}
use Rattle.ns_verify.specs.Chains.{outer_of, declaration_at}
use Rattle.ns_verify.specs.Verify.{IsSound}
use Rattle.ns_world.specs.declared.value.Value.{Value}
use Rattle.ns_world.specs.declared.value.Value.TheVariants.{Ref}
use Rattle.ns_kdata.specs.Arguments.{items_of}
use Rattle.ns_facets.specs.declared.board.Board.{Board}
use Rattle.ns_facets.specs.declared.row.Grants.{Grants}
use Rattle.ns_moves.specs.declared.site.Site.{Site}
use Rattle.ns_moves.specs.Control.{Activation, Progress}
use Rattle.ns_moves.specs.Sends.{Target}
use Rattle.ns_moves.specs.Sends as actions
use Rattle.ns_moves.specs.Steps.{PlacedInstr}
use Rattle.ns_moves.specs.State.{Leaving, Frame, Running, Performing, Phase, State, Going, Pends, Stuck, swapped}
use Rattle.ns_moves.specs.Arrivals.{arrived}
use Rattle.ns_moves.specs.Move.{move, sent_on}
use Rattle.ns_moves.specs.Starts.{new_machine, started, begun}
use Rattle.ns_moves.specs.Beginning.{MayBegin}
use Rattle.ns_audit.specs.declared.answer.Audit.{Audit}
use Rattle.ns_audit.specs.declared.answer.Audit.TheVariants.{Yes, Sends, Performs}
use Rattle.ns_audit.specs.Audit.{audited, is_denied, is_perform, sent_by}
use Rattle.ns_audit.specs.Module.{tops, is_inside, is_of_module}
use Rattle.ns_audit.specs.NextSend.{BodySend, next_send}

-- ---- the states of runs

-- what happens to a machine: it starts, makes a move, a host begins a send, or gives it another board
pub data Act : Type 0 where
  Starts : Act
  Moves : Act
  Begins : (receiver : Value) (sel : Sel) (arguments : List Value) → Act
  Swaps : (board : Board) → Act

abbrev pub after_act : CodeProgram → Act → State → State
after_act code Starts state = started code state
after_act code Moves state = move code state
after_act code (Begins receiver sel arguments) state = begun receiver sel arguments state
after_act code (Swaps board) state = swapped board state

-- A host begins a send with live values, as many as the selector takes.
abbrev pub MayAct : CodeProgram → Act → State → Type 0
MayAct code (Begins receiver sel arguments) state = MayBegin code receiver sel arguments state
MayAct code act state = Unit {0}

-- All this happens, one after another, and leads from one state to another.
abbrev pub ActsLead : CodeProgram → List Act → State → State → Type 0
ActsLead code [] old new = new ≡ old
ActsLead code (act ∷ acts) old new = MayAct code act old × ActsLead code acts (after_act code act old) new

-- A state of a run of admitted code, with any arguments, grants and limits, and any sends begun later.
pub record IsOfRun (code : CodeProgram) (state : State) : Type 0 where
  pub grants : Grants
  pub limits : Limits
  pub arguments : List (List ℕ)
  pub acts : List Act
  pub range : InRange limits
  pub leads : ActsLead code acts (new_machine code limits grants arguments) state

-- ---- the words of audits, by those of others

-- A class is inside the module of a class that stands in no other exactly where that is a declaration around it.
abbrev pub ModulesAreDeclared : CodeProgram → Type 0
ModulesAreDeclared code =
    (top class : ℕ) → outer_of code top ≡ None →
    (is_inside (tops code) top class ≡ true → (level : ℕ) × (declaration_at code level class ≡ Some top))
    × ((level : ℕ) → declaration_at code level class ≡ Some top → is_inside (tops code) top class ≡ true)

-- Each instruction that carries a place is one of the sends, or the start of a superclass part.
abbrev pub starts_part : Instr → Bool
starts_part (InitSuper argc) = true
starts_part instr = false

abbrev pub SendsCarryPlaces : Type 0
SendsCarryPlaces = (instr : Instr) → carries_place instr ≡ (is_some (sent_by instr) || starts_part instr)

-- A state comes from the send of a selector by running code; or it was at a loss for operands, as no run of sound code is.
abbrev pub ComesFromSend : CodeProgram → Phase → Activation → Sel → Option SourcePlace → Progress → State → Type 0
ComesFromSend code phase activation sel place progress state =
    (state ≡ Stuck progress)
    ⊎ ((target : Target) × (values : List Value) × (frames : List Frame)
    × (state ≡ arrived code phase (actions.sent code activation target sel values place progress) frames))

-- The next move is a send of that selector by code of that body, or the one that a `perform:with:` of it comes to.
abbrev pub SendsNext : CodeProgram → State → BodySend → Type 0
SendsNext code (Going phase (Running leaving activation locals (step ∷ rest) stack ∷ frames) progress) one =
    (activation.body ≡ one.body)
    × ComesFromSend code phase activation one.sel step.1 progress
    (move code (Going phase (Running leaving activation locals (step ∷ rest) stack ∷ frames) progress))
SendsNext code (Pends phase (Performing receiver sel array site) (Running leaving activation locals rest stack ∷ frames) progress) one =
    (activation.body ≡ one.body)
    × (move code (Pends phase (Performing receiver sel array site) (Running leaving activation locals rest stack ∷ frames) progress)
    ≡ arrived code phase (sent_on code receiver one.sel (items_of progress.world.cells (Ref array)) site progress)
    (Running leaving activation locals rest stack ∷ frames))
SendsNext code state one = ⊥

-- What a state is said to send, its next move sends.
abbrev pub SendsAreMade : CodeProgram → Type 0
SendsAreMade code = (state : State) (one : BodySend) → next_send state ≡ Some one → SendsNext code state one

-- What waits as a `perform:with:` of a body is told as a send of that body, by the selector that is to be sent.
abbrev pub PerformedIsTold : Type 0
PerformedIsTold =
    (phase : Phase) (receiver : Value) (sel : Sel) (array : ℕ) (site : Site) (leaving : Leaving) (activation : Activation)
    (locals stack : List Value) (rest : List PlacedInstr) (frames : List Frame) (progress : Progress) →
    next_send (Pends phase (Performing receiver sel array site) (Running leaving activation locals rest stack ∷ frames) progress)
    ≡ Some (record { body = activation.body; sel = sel })

-- ---- what an audit says

-- whether the body of that number is of a module
abbrev pub is_body_in : CodeProgram → ℕ → ℕ → Bool
is_body_in code top number = option_map_or (is_of_module (tops code) top) (slice_get code.bodies number) false

-- No state of any run sends a denied selector from the module.
abbrev pub NeverSends : CodeProgram → ℕ → List Sel → Type 0
NeverSends code top denied =
    (state : State) (one : BodySend) → IsOfRun code state → next_send state ≡ Some one → is_body_in code top one.body ≡ true →
    is_denied denied one.sel ≡ false

-- That is so where the audit answers Yes.
abbrev pub YesIsKept : CodeProgram → Type 0
YesIsKept code =
    (top : ℕ) (denied : List Sel) → IsSound code → Fits code → audited code top denied ≡ Yes → NeverSends code top denied

-- An instruction of the module is there, and sends a selector that is so.
abbrev pub SendsThere : CodeProgram → ℕ → ℕ → ℕ → (Sel → Type 0) → Type 0
SendsThere code top body at P =
    IsSomeAnd (slice_get code.bodies body)
    (λ (b : BodyCode). (is_of_module (tops code) top b ≡ true)
    × IsSomeAnd (slice_get b.instrs at) (λ (instr : Instr). IsSomeAnd (sent_by instr) P))

-- What another answer names is there.
abbrev pub AnswerIsThere : CodeProgram → ℕ → List Sel → Audit → Type 0
AnswerIsThere code top denied Yes = Unit {0}
AnswerIsThere code top denied (Sends body at) = SendsThere code top body at (λ sel. is_denied denied sel ≡ true)
AnswerIsThere code top denied (Performs body at) = SendsThere code top body at (λ sel. is_perform code sel ≡ true)

abbrev pub OthersAreThere : CodeProgram → Type 0
OthersAreThere code = (top : ℕ) (denied : List Sel) → AnswerIsThere code top denied (audited code top denied)
