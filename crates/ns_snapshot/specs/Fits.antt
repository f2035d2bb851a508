-- Which states have a snapshot: each number fits its field, and each field is one that a snapshot may hold.
use Rattle.std.specs.Prelude.{◌≡◌, ℕ, ◌<◌, ◌≤◌, ◌^◌, List, length, All, FitsSigned}
use Rattle.std.specs.Option.{ForSome}
use Rattle.std.specs.Int.{w64}
use Rattle.ns_base.specs.Limits.{InRange}
use Rattle.ns_base.specs.declared.place.Place.{Place}
use Rattle.ns_code.specs.Fits.{IsByte, IsWord, IsShort}
use Rattle.ns_world.specs.declared.value.Value.{Value}
use Rattle.ns_world.specs.declared.value.Value.TheVariants as v
use Rattle.ns_world.specs.declared.kernel.ClassName.{ClassName}
use Rattle.ns_world.specs.declared.kernel.ClassName.TheVariants as name
use Rattle.ns_world.specs.declared.ending.Counters.{Counters}
use Rattle.ns_world.specs.declared.ending.RunError.{RunError}
use Rattle.ns_world.specs.declared.ending.Ending.{Ending}
use Rattle.ns_world.specs.declared.ending.Ending.TheVariants as ends
use Rattle.ns_facets.specs.declared.board.Plain.{Plain}
use Rattle.ns_facets.specs.declared.board.Plain.TheVariants as p
use Rattle.ns_kcode.specs.declared.state.KState.{KState}
use Rattle.ns_moves.specs.declared.site.Site.{Site}
use Rattle.ns_frozen.specs.declared.cell.CellData.{CellData}
use Rattle.ns_frozen.specs.declared.cell.CellData.TheVariants as held
use Rattle.ns_frozen.specs.declared.frame.FrameKind.{FrameKind}
use Rattle.ns_frozen.specs.declared.frame.FrameKind.TheVariants as kinds
use Rattle.ns_frozen.specs.declared.frame.FrozenFrame.{FrozenFrame}
use Rattle.ns_frozen.specs.declared.pending.Pending.{Pending}
use Rattle.ns_frozen.specs.declared.pending.Pending.TheVariants as waits
use Rattle.ns_frozen.specs.declared.frozen.Frozen.{Frozen}

-- a number of eight bytes
abbrev pub IsDouble : ℕ → Type 0
IsDouble n = n < 2 ^ 64

-- ---- values and sites

-- The numbers of a value fit their fields.
abbrev pub ValueFits : Value → Type 0
ValueFits (v.Int number) = FitsSigned w64 number
ValueFits (v.Sym sel) = IsWord sel.0
ValueFits (v.Ref at) = IsWord at
ValueFits _ = Unit {0}

-- So do those of values, and their count.
abbrev pub ValuesFit : List Value → Type 0
ValuesFit values = IsWord (length values) × All ValueFits values

-- So do those of a place.
pub record PlaceFits (place : Place) : Type 0 where
  pub file : IsWord place.file
  pub line : IsWord place.line
  pub col : IsWord place.col

-- So does that of the name of a class.
abbrev pub ClassNameFits : ClassName → Type 0
ClassNameFits (name.Declared decl) = IsWord decl
ClassNameFits (name.ClassOf decl) = IsWord decl
ClassNameFits (name.Kernel row) = Unit {0}

-- So do those of a site.
pub record SiteFits (site : Site) : Type 0 where
  pub place : ForSome site.place PlaceFits
  pub class : ClassNameFits site.class
  pub sel : IsWord site.sel.0

-- ---- numbers and the board

-- So do the counters.
pub record CountersFit (counters : Counters) : Type 0 where
  pub steps : IsDouble counters.steps
  pub cells : IsDouble counters.cells
  pub depth : IsDouble counters.depth
  pub out : IsDouble counters.out

-- So does that of a value of the board.
abbrev pub PlainFits : Plain → Type 0
PlainFits (p.Int number) = FitsSigned w64 number
PlainFits _ = Unit {0}

-- The board has 64 places.
abbrev pub PlacesFit : List Plain → Type 0
PlacesFit places = (length places ≡ 64) × All PlainFits places

-- ---- what waits, and endings

-- So do those of what waits.
abbrev pub PendingFits : Pending → Type 0
PendingFits (waits.Send receiver sel arguments site) = ValueFits receiver × IsWord sel.0 × ValuesFit arguments × SiteFits site
PendingFits (waits.Perform receiver sel array site) = ValueFits receiver × IsWord sel.0 × IsWord array × SiteFits site
PendingFits (waits.Evaluate block arguments site) = ValueFits block × ValuesFit arguments × SiteFits site

-- So do those of an error.
pub record ErrorFits (error : RunError) : Type 0 where
  pub place : ForSome error.place PlaceFits
  pub class : ClassNameFits error.class
  pub sel : IsWord error.sel.0

-- So do those of an ending.
abbrev pub EndingFits : Ending → Type 0
EndingFits (ends.Done answer) = ValueFits answer
EndingFits (ends.Error error) = ErrorFits error
EndingFits (ends.Limit kind) = Unit {0}

-- ---- cells

-- So do those of a cell.
abbrev pub CellFits : CellData → Type 0
CellFits (held.Object class words) = IsWord class × ValuesFit words
CellFits (held.Class decl encl holder over) = IsWord decl × ValueFits encl × ValueFits holder × ValueFits over
CellFits (held.Block body env receiver holder home) = IsWord body × ValueFits env × IsDouble home × ValueFits receiver × IsWord holder
CellFits (held.Environment parent locals) = ValueFits parent × ValuesFit locals
CellFits (held.Array items) = ValuesFit items
CellFits (held.Text bytes) = IsShort bytes
CellFits (held.Facet kind) = Unit {0}
CellFits (held.Mirror mirrored) = ValueFits mirrored
CellFits (held.Message sel args) = IsWord sel.0 × ValueFits args

-- ---- frames

-- So do those of the state of a method of the kernel.
pub record KStateFits (state : KState) : Type 0 where
  pub receiver : ValueFits state.receiver
  pub first : ValueFits state.first
  pub second : ValueFits state.second
  pub size : FitsSigned w64 state.size
  pub count : FitsSigned w64 state.count
  pub last : ForSome state.last ValueFits

-- So do those of what a frame runs.
abbrev pub FrameKindFits : FrameKind → Type 0
FrameKindFits (kinds.Method body) = IsWord body
FrameKindFits (kinds.Block body) = IsWord body
FrameKindFits (kinds.Initialiser body) = IsWord body
FrameKindFits (kinds.Clause body object holder class) = IsWord body × IsWord object × IsWord holder × IsWord class
FrameKindFits (kinds.Kernel method state) = KStateFits state

-- So do those of a frame.
pub record FrameFits (frame : FrozenFrame) : Type 0 where
  pub kind : FrameKindFits frame.kind
  pub instr : IsWord frame.instr
  pub receiver : ValueFits frame.receiver
  pub holder : IsWord frame.holder
  pub home : IsDouble frame.home
  pub env : ValueFits frame.env
  pub locals : ValuesFit frame.locals
  pub operands : ValuesFit frame.operands
  pub site : SiteFits frame.site

-- ---- whole states

-- A state of which each number fits its field, within limits in range, and which hasn't more cells than its limit.
pub record FrozenFits (frozen : Frozen) : Type 0 where
  pub limits : InRange frozen.limits
  pub used : CountersFit frozen.used
  pub places : PlacesFit frozen.board.places
  pub output : IsShort frozen.output
  pub homes : IsDouble frozen.homes
  pub phase : IsByte frozen.phase
  pub pending : ForSome frozen.pending PendingFits
  pub ending : ForSome frozen.ending EndingFits
  pub cell_count : length frozen.cells ≤ frozen.limits.cells
  pub cells : All CellFits frozen.cells
  pub frame_count : IsWord (length frozen.frames)
  pub frames : All FrameFits frozen.frames
