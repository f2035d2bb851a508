-- What it means that values, cells, frames and states of two runs of one code are paired, by a relation between the numbers of their cells.
use Rattle.std.specs.Prelude.{◌≡◌, ℕ, ◌+◌, ◌-◌, ◌<◌, ◌≤◌, List, [], ◌∷◌, ◌++◌, length, Option, Some, None, false}
use Rattle.ns_world.specs.declared.value.Value.{Value}
use Rattle.ns_world.specs.declared.value.Value.TheVariants.{Ref}
use Rattle.ns_world.specs.declared.cell.FacetKind.{FacetKind}
use Rattle.ns_world.specs.declared.cell.FacetKind.TheVariants.{Manifest, Platform, Console, Mirrors, Kernel as KernelFacet, Board}
use Rattle.ns_world.specs.declared.ending.Ending.{Ending}
use Rattle.ns_world.specs.declared.ending.Ending.TheVariants.{Done, Error, Limit}
use Rattle.ns_world.specs.Cell.{Cell, ObjectCell, ClassCell, BlockCell, EnvironmentCell, ArrayCell, TextCell, FacetCell, MirrorCell, MessageCell}
use Rattle.ns_world.specs.Heap.{Heap, heap_size, find_cell, no_class, chain_of}
use Rattle.ns_world.specs.Seek.{first_such, is_facet, is_top}
use Rattle.ns_world.specs.World.{World}
use Rattle.ns_find.specs.declared.found.Found.{Found}
use Rattle.ns_find.specs.declared.found.Found.TheVariants as found
use Rattle.ns_kcode.specs.declared.state.KState.{KState}
use Rattle.ns_moves.specs.Suiting.{is_reference}
use Rattle.ns_moves.specs.Bodies.{no_home}
use Rattle.ns_moves.specs.Control.{Progress, Activation, Exit, FromMethod, FromBody, FromClause, After, Gives, Halts, Control, Now, Enter, Evaluate}
use Rattle.ns_moves.specs.Control.{Begin, Perform, PartControl, Skip, Stop, EnterPart, Waiting, Waits, Finishes}
use Rattle.ns_moves.specs.State.{Leaving, Loud, Silent, Frame, Running, Looping, Pending, Sending, Performing, Evaluating, Phase}
use Rattle.ns_moves.specs.State.{Hosted, State, Going, Pends, Ended, Stuck}
use Rattle.ns_machine_reach.specs.Within.{IsGranted}

-- ---- numbers of cells

-- A pairing of the cells of two worlds: each has one partner at most. The number of no class is its own partner. And what is made from these worlds on is
-- paired in the order in which it is made, as far as there is room: cell for cell, both runs make cells of the same sizes.
pub record IsPairing (Pair : ℕ → ℕ → Type 0) (one two : World) : Type 0 where
  pub forth : (n m k : ℕ) → Pair n m → Pair n k → m ≡ k
  pub back : (n m k : ℕ) → Pair n k → Pair m k → n ≡ m
  pub none : Pair no_class no_class
  pub later : (k : ℕ) → heap_size one.cells + k < one.limits.cells → Pair (heap_size one.cells + k) (heap_size two.cells + k)

-- ---- homes

-- Two homes are those of activations that began as many activations after the two starts.
pub record BeganAlike (own other home partner : ℕ) : Type 0 where
  pub since : ℕ
  pub one : home ≡ own + since
  pub two : partner ≡ other + since

-- Two homes are paired: both began since the start, as many activations after it; both ended before it; or there is none.
pub data HomePaired (own other home partner : ℕ) : Type 0 where
  Began : BeganAlike own other home partner → HomePaired own other home partner
  EndedBefore : home < own → partner < other → HomePaired own other home partner
  Homeless : home ≡ no_home → partner ≡ no_home → HomePaired own other home partner

-- ---- values

-- Two values are references to partners, or the same value that is no reference.
pub data Paired (Pair : ℕ → ℕ → Type 0) : Value → Value → Type 0 where
  Partners : (n m : ℕ) → Pair n m → Paired Pair (Ref n) (Ref m)
  Same : (value : Value) → is_reference value ≡ false → Paired Pair value value

module _ (Pair : ℕ → ℕ → Type 0) where
  abbrev pub AllPaired : List Value → List Value → Type 0
  AllPaired [] [] = Unit {0}
  AllPaired [] (other ∷ others) = ⊥
  AllPaired (value ∷ values) [] = ⊥
  AllPaired (value ∷ values) (other ∷ others) = Paired Pair value other × AllPaired values others

  abbrev pub MaybePaired : Option Value → Option Value → Type 0
  MaybePaired None None = Unit {0}
  MaybePaired None (Some other) = ⊥
  MaybePaired (Some value) None = ⊥
  MaybePaired (Some value) (Some other) = Paired Pair value other

  -- two numbers that may be there are partners, or neither is there
  abbrev pub NumberPaired : Option ℕ → Option ℕ → Type 0
  NumberPaired None None = Unit {0}
  NumberPaired None (Some m) = ⊥
  NumberPaired (Some n) None = ⊥
  NumberPaired (Some n) (Some m) = Pair n m

  -- so are two lists of numbers, one by one
  abbrev pub NumbersPaired : List ℕ → List ℕ → Type 0
  NumbersPaired [] [] = Unit {0}
  NumbersPaired [] (m ∷ ms) = ⊥
  NumbersPaired (n ∷ ns) [] = ⊥
  NumbersPaired (n ∷ ns) (m ∷ ms) = Pair n m × NumbersPaired ns ms

  -- Platform holds partners of each kind of facet, and Manifest of each top-level class.
  abbrev pub FacetPaired : Heap → Heap → FacetKind → Type 0
  FacetPaired heap other Manifest = (decl : ℕ) → NumberPaired (first_such (is_top decl) heap) (first_such (is_top decl) other)
  FacetPaired heap other Platform = (kind : FacetKind) → IsGranted kind → NumberPaired (first_such (is_facet kind) heap) (first_such (is_facet kind) other)
  FacetPaired heap other Console = Unit {0}
  FacetPaired heap other Mirrors = Unit {0}
  FacetPaired heap other KernelFacet = Unit {0}
  FacetPaired heap other Board = Unit {0}

  -- Two lookups find the same member: its holders or classes are partners, and all else is equal.
  abbrev pub MemberPaired : Found → Found → Type 0
  MemberPaired (found.Method body holder) (found.Method body' holder') = (body ≡ body') × Pair holder holder'
  MemberPaired (found.Getter holder word) (found.Getter holder' word') = Pair holder holder' × (word ≡ word')
  MemberPaired (found.Setter holder word) (found.Setter holder' word') = Pair holder holder' × (word ≡ word')
  MemberPaired (found.Nested class holder) (found.Nested class' holder') = (class ≡ class') × Pair holder holder'
  MemberPaired (found.Factory class) (found.Factory class') = Pair class class'
  MemberPaired (found.Kernel number) (found.Kernel number') = number ≡ number'
  MemberPaired found.NotPublic found.NotPublic = Unit {0}
  MemberPaired found.Absent found.Absent = Unit {0}
  MemberPaired member other = ⊥

  abbrev pub EndingPaired : Ending → Ending → Type 0
  EndingPaired (Done value) (Done other) = Paired Pair value other
  EndingPaired (Error error) (Error error') = error ≡ error'
  EndingPaired (Limit limit) (Limit limit') = limit ≡ limit'
  EndingPaired ending other = ⊥

  abbrev pub ExitPaired : Exit → Exit → Type 0
  ExitPaired FromMethod FromMethod = Unit {0}
  ExitPaired FromBody FromBody = Unit {0}
  ExitPaired (FromClause object holder class) (FromClause object' holder' class') = Pair object object' × Pair holder holder' × (class ≡ class')
  ExitPaired exit other = ⊥

  -- a method of the kernel has the same counts
  pub record KStatePaired (state other : KState) : Type 0 where
    pub receiver : Paired Pair state.receiver other.receiver
    pub first : Paired Pair state.first other.first
    pub second : Paired Pair state.second other.second
    pub size : state.size ≡ other.size
    pub count : state.count ≡ other.count
    pub last : MaybePaired state.last other.last

-- ---- two runs

-- Two runs of one code, that began where they were `first` and `second`.
module _ (Pair : ℕ → ℕ → Type 0) (first second : Progress) where
  -- ---- cells

  -- Two cells of one kind hold paired values.
  abbrev pub CellPaired : Heap → Heap → Cell → Cell → Type 0
  CellPaired heap other (ObjectCell class entries) (ObjectCell class' entries') = Pair class class' × AllPaired Pair entries entries'
  CellPaired heap other (ClassCell decl base encl holder over) (ClassCell decl' base' encl' holder' over') =
      (decl ≡ decl') × Paired Pair encl encl' × Paired Pair holder holder' × Paired Pair over over'
  CellPaired heap other (BlockCell body env home receiver holder) (BlockCell body' env' home' receiver' holder') =
      (body ≡ body') × Paired Pair env env' × HomePaired first.begun second.begun home home' × Paired Pair receiver receiver' × Pair holder holder'
  CellPaired heap other (EnvironmentCell parent locals) (EnvironmentCell parent' locals') = Paired Pair parent parent' × AllPaired Pair locals locals'
  CellPaired heap other (ArrayCell items) (ArrayCell items') = AllPaired Pair items items'
  CellPaired heap other (TextCell bytes) (TextCell bytes') = bytes ≡ bytes'
  CellPaired heap other (FacetCell kind) (FacetCell kind') = (kind ≡ kind') × FacetPaired Pair heap other kind
  CellPaired heap other (MirrorCell mirrored) (MirrorCell mirrored') = Paired Pair mirrored mirrored'
  CellPaired heap other (MessageCell sel args) (MessageCell sel' args') = (sel ≡ sel') × Paired Pair args args'
  CellPaired heap other cell cell' = ⊥

  -- two cells that may be there are paired, or neither is there
  abbrev pub MaybeCellPaired : Heap → Heap → Option Cell → Option Cell → Type 0
  MaybeCellPaired heap other None None = Unit {0}
  MaybeCellPaired heap other None (Some cell') = ⊥
  MaybeCellPaired heap other (Some cell) None = ⊥
  MaybeCellPaired heap other (Some cell) (Some cell') = CellPaired heap other cell cell'

  -- Partners hold partners, and the chains of classes are paired.
  pub record HeapPaired (heap other : Heap) : Type 0 where
    pub cells : (n m : ℕ) → Pair n m → MaybeCellPaired heap other (find_cell heap n) (find_cell other m)
    pub chains : (n m : ℕ) → Pair n m → NumbersPaired Pair (chain_of heap n) (chain_of other m)
    pub manifest : find_cell heap 0 ≡ Some (FacetCell Manifest)
    pub other_manifest : find_cell other 0 ≡ Some (FacetCell Manifest)

  -- ---- what two runs have done

  -- Two runs have done the same since they began: they made as many cells, began as many activations and printed the same bytes, and have as much left
  -- of each limit. Where a Board is paired, they have the same board.
  pub record Abreast (one two : Progress) : Type 0 where
    pub heaps : HeapPaired one.world.cells two.world.cells
    pub made : ℕ
    pub size : heap_size one.world.cells ≡ heap_size first.world.cells + made
    pub other_size : heap_size two.world.cells ≡ heap_size second.world.cells + made
    pub begun : ℕ
    pub begins : one.begun ≡ first.begun + begun
    pub other_begins : two.begun ≡ second.begun + begun
    pub printed : List ℕ
    pub prints : one.world.output ≡ first.world.output ++ printed
    pub other_prints : two.world.output ≡ second.world.output ++ printed
    pub limits : one.world.limits ≡ first.world.limits
    pub other_limits : two.world.limits ≡ second.world.limits
    pub steps : one.world.limits.steps - one.world.steps ≡ two.world.limits.steps - two.world.steps
    pub room : one.world.limits.cells - heap_size one.world.cells ≡ two.world.limits.cells - heap_size two.world.cells
    pub depth : one.world.depth ≡ two.world.depth
    pub deepest : one.world.limits.depth ≡ two.world.limits.depth
    pub out : one.world.limits.out - length one.world.output ≡ two.world.limits.out - length two.world.output
    pub within : length one.world.output ≤ one.world.limits.out
    pub other_within : length two.world.output ≤ two.world.limits.out
    pub board : (n m : ℕ) → Pair n m → find_cell one.world.cells n ≡ Some (FacetCell Board) → one.board ≡ two.board

  -- ---- what actions come to

  -- Code of one body runs at the same site, for partners.
  pub record ActivationPaired (activation other : Activation) : Type 0 where
    pub self : Paired Pair activation.self other.self
    pub holder : Pair activation.holder other.holder
    pub body : activation.body ≡ other.body
    pub home : HomePaired first.begun second.begun activation.home other.home
    pub env : Paired Pair activation.env other.env
    pub site : activation.site ≡ other.site

  -- the home of a method began since the start
  abbrev pub ExitHome : Exit → ℕ → ℕ → Type 0
  ExitHome FromMethod home partner = BeganAlike first.begun second.begun home partner
  ExitHome FromBody home partner = Unit {0}
  ExitHome (FromClause object holder class) home partner = Unit {0}

  abbrev pub AfterPaired : After → After → Type 0
  AfterPaired (Gives value progress) (Gives value' progress') = Paired Pair value value' × Abreast progress progress'
  AfterPaired (Halts ending progress) (Halts ending' progress') = EndingPaired Pair ending ending' × Abreast progress progress'
  AfterPaired after other = ⊥

  abbrev pub ControlPaired : Control → Control → Type 0
  ControlPaired (Now after) (Now after') = AfterPaired after after'
  ControlPaired (Enter exit activation locals progress) (Enter exit' activation' locals' progress') =
      ExitPaired Pair exit exit' × ExitHome exit activation.home activation'.home × ActivationPaired activation activation'
      × AllPaired Pair locals locals' × Abreast progress progress'
  ControlPaired (Evaluate block arguments site progress) (Evaluate block' arguments' site' progress') =
      Paired Pair block block' × AllPaired Pair arguments arguments' × (site ≡ site') × Abreast progress progress'
  ControlPaired (Begin method state site progress) (Begin method' state' site' progress') =
      (method ≡ method') × KStatePaired Pair state state' × (site ≡ site') × Abreast progress progress'
  ControlPaired (Perform receiver sel array site progress) (Perform receiver' sel' array' site' progress') =
      Paired Pair receiver receiver' × (sel ≡ sel') × Pair array array' × (site ≡ site') × Abreast progress progress'
  ControlPaired control other = ⊥

  abbrev pub PartPaired : PartControl → PartControl → Type 0
  PartPaired (Skip progress) (Skip progress') = Abreast progress progress'
  PartPaired (Stop ending progress) (Stop ending' progress') = EndingPaired Pair ending ending' × Abreast progress progress'
  PartPaired (EnterPart activation locals progress) (EnterPart activation' locals' progress') =
      ActivationPaired activation activation' × AllPaired Pair locals locals' × Abreast progress progress'
  PartPaired part other = ⊥

  abbrev pub WaitingPaired : Waiting → Waiting → Type 0
  WaitingPaired (Waits block arguments state progress) (Waits block' arguments' state' progress') =
      Paired Pair block block' × AllPaired Pair arguments arguments' × KStatePaired Pair state state' × Abreast progress progress'
  WaitingPaired (Finishes after) (Finishes after') = AfterPaired after after'
  WaitingPaired waiting other = ⊥

  -- ---- states

  abbrev pub LeavingPaired : Leaving → Leaving → Type 0
  LeavingPaired (Loud exit) (Loud exit') = ExitPaired Pair exit exit'
  LeavingPaired Silent Silent = Unit {0}
  LeavingPaired leaving other = ⊥

  abbrev pub LeavingHome : Leaving → ℕ → ℕ → Type 0
  LeavingHome (Loud exit) home partner = ExitHome exit home partner
  LeavingHome Silent home partner = Unit {0}

  -- Two frames have the same instructions left, and paired values; those of methods began since the start.
  abbrev pub FramePaired : Frame → Frame → Type 0
  FramePaired (Running leaving activation locals rest stack) (Running leaving' activation' locals' rest' stack') =
      LeavingPaired leaving leaving' × LeavingHome leaving activation.home activation'.home × ActivationPaired activation activation'
      × AllPaired Pair locals locals' × (rest ≡ rest') × AllPaired Pair stack stack'
  FramePaired (Looping method state site) (Looping method' state' site') = (method ≡ method') × KStatePaired Pair state state' × (site ≡ site')
  FramePaired frame other = ⊥

  abbrev pub FramesPaired : List Frame → List Frame → Type 0
  FramesPaired [] [] = Unit {0}
  FramesPaired [] (other ∷ others) = ⊥
  FramesPaired (frame ∷ frames) [] = ⊥
  FramesPaired (frame ∷ frames) (other ∷ others) = FramePaired frame other × FramesPaired frames others

  abbrev pub PendingPaired : Pending → Pending → Type 0
  PendingPaired (Sending receiver sel arguments site) (Sending receiver' sel' arguments' site') =
      Paired Pair receiver receiver' × (sel ≡ sel') × AllPaired Pair arguments arguments' × (site ≡ site')
  PendingPaired (Performing receiver sel array site) (Performing receiver' sel' array' site') =
      Paired Pair receiver receiver' × (sel ≡ sel') × Pair array array' × (site ≡ site')
  PendingPaired (Evaluating block arguments site) (Evaluating block' arguments' site') =
      Paired Pair block block' × AllPaired Pair arguments arguments' × (site ≡ site')
  PendingPaired pending other = ⊥

  -- both answer a send of a host
  abbrev pub PhasePaired : Phase → Phase → Type 0
  PhasePaired Hosted Hosted = Unit {0}
  PhasePaired phase other = ⊥

  -- Two states are paired: they stand at the same place, with paired frames, and have done the same.
  abbrev pub StatePaired : State → State → Type 0
  StatePaired (Going phase frames progress) (Going phase' frames' progress') =
      PhasePaired phase phase' × FramesPaired frames frames' × Abreast progress progress'
  StatePaired (Pends phase pending frames progress) (Pends phase' pending' frames' progress') =
      PhasePaired phase phase' × PendingPaired pending pending' × FramesPaired frames frames' × Abreast progress progress'
  StatePaired (Ended ending phase progress) (Ended ending' phase' progress') =
      EndingPaired Pair ending ending' × PhasePaired phase phase' × Abreast progress progress'
  StatePaired (Stuck progress) (Stuck progress') = Abreast progress progress'
  StatePaired state other = ⊥
