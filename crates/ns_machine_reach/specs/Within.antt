-- What it means that values, cells, frames and states of a run stay within a set of cells.
use Rattle.std.specs.Prelude.{◌≡◌, ℕ, ◌≤◌, List, [], ◌∷◌, Option, Some, None}
use Rattle.ns_world.specs.declared.value.Value.{Value}
use Rattle.ns_world.specs.declared.value.Value.TheVariants.{Nil, True, False, Int, Sym, Kernel, Ref}
use Rattle.ns_world.specs.declared.cell.FacetKind.{FacetKind}
use Rattle.ns_world.specs.declared.cell.FacetKind.TheVariants.{Manifest, Platform, Console, Mirrors, Kernel as KernelFacet, Board}
use Rattle.ns_world.specs.Cell.{Cell, ObjectCell, ClassCell, BlockCell, EnvironmentCell, ArrayCell, TextCell, FacetCell, MirrorCell, MessageCell}
use Rattle.ns_world.specs.Heap.{Heap, heap_size, find_cell, no_class}
use Rattle.ns_world.specs.Seek.{first_such, is_facet, is_top}
use Rattle.ns_world.specs.declared.ending.Ending.{Ending}
use Rattle.ns_world.specs.declared.ending.Ending.TheVariants.{Done, Error, Limit}
use Rattle.ns_kcode.specs.declared.state.KState.{KState}
use Rattle.ns_moves.specs.Control.{Progress, Activation, Exit, FromMethod, FromBody, FromClause, After, Gives, Halts, Control, Now, Enter, Evaluate}
use Rattle.ns_moves.specs.Control.{Begin, Perform, PartControl, Skip, Stop, EnterPart, Waiting, Waits, Finishes}
use Rattle.ns_moves.specs.State.{Leaving, Loud, Silent, Frame, Running, Looping, Pending, Sending, Performing, Evaluating, Phase, Start, First}
use Rattle.ns_moves.specs.State.{Second, Hosted, State, Unbegun, Going, Pends, Ended, Stuck}

-- no cell of that kind is in the set
abbrev pub Lacks : (ℕ → Type 0) → FacetKind → Heap → Type 0
Lacks Has kind heap = (n : ℕ) → Has n → find_cell heap n ≡ Some (FacetCell kind) → ⊥

-- the facets that Platform may hold
abbrev pub IsGranted : FacetKind → Type 0
IsGranted Manifest = ⊥
IsGranted Platform = ⊥
IsGranted Console = Unit {0}
IsGranted Mirrors = Unit {0}
IsGranted KernelFacet = Unit {0}
IsGranted Board = Unit {0}

-- A set of cells has all that are made from some world on, and the number of no class.
pub record HasLater (Has : ℕ → Type 0) (heap : Heap) : Type 0 where
  pub later : (n : ℕ) → heap_size heap ≤ n → Has n
  pub none : Has no_class

module _ (Has : ℕ → Type 0) where
  -- ---- values

  -- a value refers to no cell, or to one in the set
  abbrev pub In : Value → Type 0
  In (Ref n) = Has n
  In Nil = Unit {0}
  In True = Unit {0}
  In False = Unit {0}
  In (Int number) = Unit {0}
  In (Sym sel) = Unit {0}
  In (Kernel class) = Unit {0}

  abbrev pub AllIn : List Value → Type 0
  AllIn [] = Unit {0}
  AllIn (value ∷ values) = In value × AllIn values

  abbrev pub MaybeIn : Option Value → Type 0
  MaybeIn None = Unit {0}
  MaybeIn (Some value) = In value

  -- a number, where there is one
  abbrev pub NumberIn : Option ℕ → Type 0
  NumberIn None = Unit {0}
  NumberIn (Some n) = Has n

  -- ---- cells

  -- what a cell holds; Platform holds the facets that were granted, and Manifest the top-level classes
  abbrev pub CellIn : Heap → Cell → Type 0
  CellIn heap (ObjectCell class entries) = Has class × AllIn entries
  CellIn heap (ClassCell decl base encl holder over) = In encl × In holder × In over
  CellIn heap (BlockCell body env home receiver holder) = In env × In receiver × Has holder
  CellIn heap (EnvironmentCell parent locals) = In parent × AllIn locals
  CellIn heap (ArrayCell items) = AllIn items
  CellIn heap (TextCell bytes) = Unit {0}
  CellIn heap (FacetCell Manifest) = (decl : ℕ) → NumberIn (first_such (is_top decl) heap)
  CellIn heap (FacetCell Platform) = (kind : FacetKind) → IsGranted kind → NumberIn (first_such (is_facet kind) heap)
  CellIn heap (FacetCell Console) = Unit {0}
  CellIn heap (FacetCell Mirrors) = Unit {0}
  CellIn heap (FacetCell KernelFacet) = Unit {0}
  CellIn heap (FacetCell Board) = Unit {0}
  CellIn heap (MirrorCell mirrored) = In mirrored
  CellIn heap (MessageCell sel args) = In args

  -- ---- what a run has done

  -- From some moment of a run to a later one: each cell in the set holds cells in it alone; cells outside stand as they stood;
  -- facets are those that there were; and without a Console in the set nothing was printed, without a Board no board was changed.
  pub record Kept (first now : Progress) : Type 0 where
    pub size : heap_size first.world.cells ≤ heap_size now.world.cells
    pub closed : (n : ℕ) (cell : Cell) → Has n → find_cell now.world.cells n ≡ Some cell → CellIn now.world.cells cell
    pub outside : (n : ℕ) (cell : Cell) → (Has n → ⊥) → find_cell first.world.cells n ≡ Some cell
        → find_cell now.world.cells n ≡ Some cell
    pub facets : (n : ℕ) (kind : FacetKind) → find_cell now.world.cells n ≡ Some (FacetCell kind)
        → find_cell first.world.cells n ≡ Some (FacetCell kind)
    pub manifest : find_cell now.world.cells 0 ≡ Some (FacetCell Manifest)
    pub quiet : Lacks Has Console first.world.cells → now.world.output ≡ first.world.output
    pub board : Lacks Has Board first.world.cells → now.board ≡ first.board

  -- ---- what actions come to

  abbrev pub EndingIn : Ending → Type 0
  EndingIn (Done value) = In value
  EndingIn (Error error) = Unit {0}
  EndingIn (Limit limit) = Unit {0}

  abbrev pub ActivationIn : Activation → Type 0
  ActivationIn activation = In activation.self × Has activation.holder × In activation.env

  abbrev pub ExitIn : Exit → Type 0
  ExitIn FromMethod = Unit {0}
  ExitIn FromBody = Unit {0}
  ExitIn (FromClause object holder class) = Has object × Has holder

  abbrev pub KStateIn : KState → Type 0
  KStateIn state = In state.receiver × In state.first × In state.second × MaybeIn state.last

  abbrev pub AfterIn : Progress → After → Type 0
  AfterIn first (Gives value progress) = In value × Kept first progress
  AfterIn first (Halts ending progress) = EndingIn ending × Kept first progress

  abbrev pub ControlIn : Progress → Control → Type 0
  ControlIn first (Now after) = AfterIn first after
  ControlIn first (Enter exit activation locals progress) = ExitIn exit × ActivationIn activation × AllIn locals × Kept first progress
  ControlIn first (Evaluate block arguments site progress) = In block × AllIn arguments × Kept first progress
  ControlIn first (Begin method state site progress) = KStateIn state × Kept first progress
  ControlIn first (Perform receiver sel array site progress) = In receiver × Has array × Kept first progress

  abbrev pub PartIn : Progress → PartControl → Type 0
  PartIn first (Skip progress) = Kept first progress
  PartIn first (Stop ending progress) = EndingIn ending × Kept first progress
  PartIn first (EnterPart activation locals progress) = ActivationIn activation × AllIn locals × Kept first progress

  abbrev pub WaitingIn : Progress → Waiting → Type 0
  WaitingIn first (Waits block arguments state progress) = In block × AllIn arguments × KStateIn state × Kept first progress
  WaitingIn first (Finishes after) = AfterIn first after

  -- ---- states

  abbrev pub LeavingIn : Leaving → Type 0
  LeavingIn (Loud exit) = ExitIn exit
  LeavingIn Silent = Unit {0}

  abbrev pub FrameIn : Frame → Type 0
  FrameIn (Running leaving activation locals rest stack) = LeavingIn leaving × ActivationIn activation × AllIn locals × AllIn stack
  FrameIn (Looping method state site) = KStateIn state

  abbrev pub FramesIn : List Frame → Type 0
  FramesIn [] = Unit {0}
  FramesIn (frame ∷ frames) = FrameIn frame × FramesIn frames

  abbrev pub PendingIn : Pending → Type 0
  PendingIn (Sending receiver sel arguments site) = In receiver × AllIn arguments
  PendingIn (Performing receiver sel array site) = In receiver × Has array
  PendingIn (Evaluating block arguments site) = In block × AllIn arguments

  -- the second opening send is made with Platform and the array of the arguments
  abbrev pub PhaseIn : Phase → Type 0
  PhaseIn Start = Unit {0}
  PhaseIn (First arguments) = Has 1 × Has arguments
  PhaseIn Second = Unit {0}
  PhaseIn Hosted = Unit {0}

  -- What a state has at hand is in the set, and so is all that its cells hold.
  abbrev pub StateIn : Progress → State → Type 0
  StateIn first (Unbegun arguments progress) = Kept first progress
  StateIn first (Going phase frames progress) = PhaseIn phase × FramesIn frames × Kept first progress
  StateIn first (Pends phase pending frames progress) = PhaseIn phase × PendingIn pending × FramesIn frames × Kept first progress
  StateIn first (Ended ending phase progress) = EndingIn ending × Kept first progress
  StateIn first (Stuck progress) = Kept first progress
