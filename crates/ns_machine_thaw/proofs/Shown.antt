-- A kept frame shows that which the plain data stands for.
use Rattle.std.proofs.Common.{◌≡◌, ℕ, ◌+◌, ◌≤◌, List, length, reverse, refl, ap, ◌∙◌, arith, Bool, true, false}
use Rattle.ns_base.specs.declared.place.Place.{Place as SourcePlace}
use Rattle.ns_code.specs.declared.program.CodeProgram.{CodeProgram}
use Rattle.ns_world.specs.declared.kernel_parts.KMethod.{KMethod}
use Rattle.ns_kcode.specs.declared.state.KState.{KState}
use Rattle.ns_moves.specs.declared.site.Site.{Site}
use Rattle.ns_moves.specs.Bodies.{greatest_of}
use Rattle.ns_moves.specs.Control.{FromClause}
use Rattle.ns_moves.specs.State as run
use Rattle.ns_moves.specs.State.{Loud}
use Rattle.ns_moves.specs.Steps.{PlacedInstr, steps_from}
use Rattle.ns_frozen.specs.declared.frame.FrameKind.TheVariants as kinds
use Rattle.ns_frozen.specs.declared.frame.FrozenFrame.{FrozenFrame}
use Rattle.ns_frozen.specs.Thawing.{rest_thawed, running_thawed, frame_thawed, initialiser_leaves}
use Rattle.ns_machine_frames.specs.declared.frame.Activation.{Activation as KeptActivation}
use Rattle.ns_machine_frames.specs.declared.frame.KeptSite.{KeptSite}
use Rattle.ns_machine_frames.specs.declared.frame.Leaving.{Leaving}
use Rattle.ns_machine_frames.specs.declared.frame.Leaving.TheVariants.{Method, Body, Clause}
use Rattle.ns_machine_frames.specs.declared.frame.Frame.TheVariants.{Running, Looping}
use Rattle.ns_machine_frames.specs.View.{site_shown, leaving_shown, frame_shown}
use Rattle.ns_machine_thaw.specs.Frames.{SiteIsPlaced, BodyFits, KindFits, KeepsFrame, next_of, kept_body, stood_of}

-- what is left behind the next instruction
rest_is : (code : CodeProgram) (waits : Bool) (body instr : ℕ) → steps_from code body (next_of waits instr) ≡ rest_thawed code waits body instr
rest_is code true body instr = refl
rest_is code false body instr = refl

-- the frame of a body, by what its end shows
body_shown : (code : CodeProgram) (places : List SourcePlace) (frame : FrozenFrame) (body : ℕ) (leaving : Leaving) (leaves : run.Leaving) (site : KeptSite) (waits : Bool) (top : ℕ)
    → site_shown places site ≡ frame.site → leaving_shown leaving (kept_body frame body leaving site waits top).activation ≡ leaves
    → frame_shown code places (stood_of (Running (kept_body frame body leaving site waits top)) frame) ≡ running_thawed code waits leaves body frame
body_shown code places frame body leaving leaves site waits top s l =
    ap (λ (shown : Site). run.Running (leaving_shown leaving (kept_body frame body leaving site waits top).activation)
    (record { self = frame.receiver; holder = frame.holder; body = body; home = frame.home; env = frame.env; site = shown })
    frame.locals (steps_from code body (next_of waits frame.instr)) (reverse frame.operands)) s
    ∙ (ap (λ (end : run.Leaving). run.Running end
    (record { self = frame.receiver; holder = frame.holder; body = body; home = frame.home; env = frame.env; site = frame.site })
    frame.locals (steps_from code body (next_of waits frame.instr)) (reverse frame.operands)) l
    ∙ ap (λ (rest : List PlacedInstr). run.Running leaves
    (record { self = frame.receiver; holder = frame.holder; body = body; home = frame.home; env = frame.env; site = frame.site })
    frame.locals rest (reverse frame.operands)) (rest_is code waits body frame.instr))

-- A site that is kept shows itself where it has its place.
abbrev pub ShowsSite : ℕ → Site → KeptSite → Type 0
ShowsSite number site kept = (places : List SourcePlace) → SiteIsPlaced places number site → site_shown places kept ≡ site

module _ (code : CodeProgram) (frame : FrozenFrame) (number : ℕ) (site : KeptSite) (kept : ShowsSite number frame.site site) (part waits : Bool) (top : ℕ) where
  pub method_shown : (body : ℕ) (places : List SourcePlace) → SiteIsPlaced places number frame.site
      → frame_shown code places (stood_of (Running (kept_body frame body Method site waits top)) frame) ≡ frame_thawed code part waits (kinds.Method body) frame
  method_shown body places placed = body_shown code places frame body Method _ site waits top (kept places placed) refl

  pub block_shown : (body : ℕ) (places : List SourcePlace) → SiteIsPlaced places number frame.site
      → frame_shown code places (stood_of (Running (kept_body frame body Body site waits top)) frame) ≡ frame_thawed code part waits (kinds.Block body) frame
  block_shown body places placed = body_shown code places frame body Body _ site waits top (kept places placed) refl

  pub initialiser_shown : (body : ℕ) (leaving : Leaving) → ((activation : KeptActivation) → leaving_shown leaving activation ≡ initialiser_leaves part)
      → (places : List SourcePlace) → SiteIsPlaced places number frame.site
      → frame_shown code places (stood_of (Running (kept_body frame body leaving site waits top)) frame) ≡ frame_thawed code part waits (kinds.Initialiser body) frame
  initialiser_shown body leaving leaves places placed =
      body_shown code places frame body leaving (initialiser_leaves part) site waits top (kept places placed) (leaves (kept_body frame body leaving site waits top).activation)

  pub clause_shown : (body object holder class : ℕ) → KindFits code frame (kinds.Clause body object holder class)
      → (places : List SourcePlace) → SiteIsPlaced places number frame.site
      → frame_shown code places (stood_of (Running (kept_body frame body (Clause class) site waits top)) frame)
      ≡ frame_thawed code part waits (kinds.Clause body object holder class) frame
  clause_shown body object holder class fits places placed =
      body_shown code places frame body (Clause class) (Loud (FromClause object holder class)) site waits top (kept places placed)
      (ap (λ (n : ℕ). Loud (FromClause n frame.holder class)) fits.1 ∙ ap (λ (n : ℕ). Loud (FromClause object n class)) fits.2)

  pub kernel_shown : (method : KMethod) (state : KState) (places : List SourcePlace) → SiteIsPlaced places number frame.site
      → frame_shown code places (stood_of (Looping (record { method = method; state = state; site = site; floor = top })) frame)
      ≡ frame_thawed code part waits (kinds.Kernel method state) frame
  kernel_shown method state places placed = ap (run.Looping method state) (kept places placed)

  pub body_kept : (body : ℕ) (leaving : Leaving) → BodyFits code frame body → KeepsFrame code top frame (Running (kept_body frame body leaving site waits top))
  body_kept body leaving fits = record { floor = refl; base = refl; behind = refl; locals = fits.locals; operands = fits.operands }

-- its values are few
pub body_small : (code : CodeProgram) (frame : FrozenFrame) (body top : ℕ) → BodyFits code frame body → top + greatest_of code.bodies ≤ 4294967295
    → top + length frame.locals ≤ 4294967295
body_small code frame body top fits small = let locals = fits.locals in omega (arith, locals, small)
