-- What an action comes to: where control goes next, and what the run has done by then.
use Rattle.std.specs.Prelude.{ℕ, List, Option, Some, None}
use Rattle.ns_base.specs.declared.selector.Sel.{Sel}
use Rattle.ns_world.specs.declared.value.Value.{Value}
use Rattle.ns_world.specs.declared.ending.LimitKind.{LimitKind}
use Rattle.ns_world.specs.declared.ending.Kind.{Kind}
use Rattle.ns_world.specs.declared.ending.Ending.{Ending}
use Rattle.ns_world.specs.declared.ending.Ending.TheVariants.{Limit}
use Rattle.ns_world.specs.World.{World, left}
use Rattle.ns_facets.specs.declared.board.Board.{Board}
use Rattle.ns_world.specs.declared.kernel_parts.KMethod.{KMethod}
use Rattle.ns_kcode.specs.declared.state.KState.{KState}
use Rattle.ns_moves.specs.declared.site.Site.{Site}
use Rattle.ns_moves.specs.Site.{error}

-- what a run has done so far: its world, its board, and how many method activations it has begun
pub record Progress : Type 0 where
  pub world : World
  pub board : Board
  pub begun : ℕ

-- the same with another world
abbrev pub in_world : Progress → World → Progress
in_world progress world = record progress { world = world }

-- what it has done when a frame is given back
abbrev pub frame_left : Progress → Progress
frame_left progress = in_world progress (left progress.world)

-- Running code, as far as it doesn't change while its body runs: self, the holder of its declaration, its
-- body, the home to which a block returns, the environment one body out or its own where the body has one,
-- and the site of the send being answered.
pub record Activation : Type 0 where
  pub self : Value
  pub holder : ℕ
  pub body : ℕ
  pub home : ℕ
  pub env : Value
  pub site : Site

-- what the value of a body is for
pub data Exit : Type 0 where
  -- a method's: the answer of its send, and the home of the blocks that are made in it
  FromMethod : Exit
  -- a block's or an initialiser's: the answer of the evaluation, or of the factory's send
  FromBody : Exit
  -- a clause's: the superclass of a nested class of this object and holder, which is made and kept then
  FromClause : (object holder class : ℕ) → Exit

-- a value, or the end of the run
pub data After : Type 0 where
  Gives : (value : Value) (progress : Progress) → After
  Halts : (ending : Ending) (progress : Progress) → After

-- where control goes: on at once, into a body, into a block whose evaluation waits, into a method of the
-- kernel that evaluates blocks, or into a send with the elements of an array, which waits
pub data Control : Type 0 where
  Now : (after : After) → Control
  Enter : (exit : Exit) (activation : Activation) (locals : List Value) (progress : Progress) → Control
  Evaluate : (block : Value) (arguments : List Value) (site : Site) (progress : Progress) → Control
  Begin : (method : KMethod) (state : KState) (site : Site) (progress : Progress) → Control
  Perform : (receiver : Value) (sel : Sel) (array : ℕ) (site : Site) (progress : Progress) → Control

-- where control goes in a superclass part: past it, for the kernel's Object; to the end of the run; or into
-- the initialiser of a declared superclass, whose value is dropped
pub data PartControl : Type 0 where
  Skip : (progress : Progress) → PartControl
  Stop : (ending : Ending) (progress : Progress) → PartControl
  EnterPart : (activation : Activation) (locals : List Value) (progress : Progress) → PartControl

-- what a method of the kernel does next: it waits for a block's value, or it ends
pub data Waiting : Type 0 where
  Waits : (block : Value) (arguments : List Value) (state : KState) (progress : Progress) → Waiting
  Finishes : (after : After) → Waiting

-- a value at once, and the end of the run
abbrev pub gives : Value → Progress → Control
gives value progress = Now (Gives value progress)

abbrev pub halts : Ending → Progress → Control
halts ending progress = Now (Halts ending progress)

-- an error at the site
abbrev pub fails : Kind → Site → Progress → Control
fails kind site progress = halts (error kind site) progress

-- A charge: on with the next world, or the limit where there is none, and nothing is charged.
abbrev pub charged : {A : Type 0} → (Ending → Progress → A) → LimitKind → Option World → Progress → (Progress → A) → A
charged stop limit (Some world) progress go = go (in_world progress world)
charged stop limit None progress go = stop (Limit limit) progress
