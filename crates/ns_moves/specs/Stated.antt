-- What the laws say of sends that waited, and of what running code names and makes.
use Rattle.std.specs.Prelude.{ℕ, List, All, IsSome}
use Rattle.ns_base.specs.declared.selector.Sel.{Sel}
use Rattle.ns_code.specs.declared.program.CodeProgram.{CodeProgram}
use Rattle.ns_code.specs.Soundness.{initialiser_kind}
use Rattle.ns_world.specs.declared.value.Value.{Value}
use Rattle.ns_world.specs.Lawful.{IsLiveValue, BlockIsLawful}
use Rattle.ns_world.specs.Later.{IsLater}
use Rattle.ns_kdata.specs.Arguments.{shape_of_value}
use Rattle.ns_moves.specs.declared.site.Site.{Site}
use Rattle.ns_moves.specs.Control.{Progress, Activation}
use Rattle.ns_moves.specs.Bodies.{no_home, local_at, enclosing}
use Rattle.ns_moves.specs.Blocks.{block_body_in, evaluated}
use Rattle.ns_moves.specs.Classes.{super_part}
use Rattle.ns_moves.specs.Sends.{sent_from}
use Rattle.ns_moves.specs.Lawful.{LawfulRun, LawfulControl, FitsSelector, FitsActivation, FitsLocal, declaration_at, body_out, IsBlockOf}
use Rattle.ns_moves.specs.Spending.{ControlSpends}
use Rattle.ns_moves.specs.Fitting.{FitsNext, FitsOwnEnvironment, GoesOnAt, PartGoesOnAt, EntersBlock}
use Rattle.ns_moves.specs.Onward.{reached}

-- ---- a send that waited with its site

-- To a live receiver with arguments that fit, it leaves a lawful world.
abbrev pub WaitedIsLawful : CodeProgram → Type 0
WaitedIsLawful code =
    (receiver : Value) (sel : Sel) (values : List Value) (site : Site) (progress : Progress) → LawfulRun code progress
    → IsLiveValue progress.world.cells code receiver → FitsSelector progress.world.cells code sel values
    → LawfulControl code (sent_from code receiver sel values site progress)

-- So what it hands on fits.
abbrev pub WaitedFits : CodeProgram → Type 0
WaitedFits code =
    (receiver : Value) (sel : Sel) (values : List Value) (site : Site) (progress : Progress) → LawfulRun code progress
    → IsLiveValue progress.world.cells code receiver → FitsSelector progress.world.cells code sel values
    → FitsNext initialiser_kind code (sent_from code receiver sel values site progress)

-- What it goes on with has its site, and no block is evaluated with more than 255 arguments where these fit.
abbrev pub WaitedStays : CodeProgram → Type 0
WaitedStays code =
    (receiver : Value) (sel : Sel) (values : List Value) (site : Site) (progress : Progress)
    → GoesOnAt (FitsSelector progress.world.cells code sel values) site no_home (sent_from code receiver sel values site progress)

-- It leads to a later world.
abbrev pub WaitedLeadsOn : CodeProgram → Type 0
WaitedLeadsOn code =
    (receiver : Value) (sel : Sel) (values : List Value) (site : Site) (progress : Progress)
    → IsLater progress.world (reached (sent_from code receiver sel values site progress)).world

-- It charges what a send charges.
abbrev pub WaitedSpends : CodeProgram → Type 0
WaitedSpends code =
    (receiver : Value) (sel : Sel) (values : List Value) (site : Site) (progress : Progress)
    → ControlSpends 1 progress (sent_from code receiver sel values site progress)

-- ---- what running code names and makes

-- An enclosing object is live where its level has a declaration.
abbrev pub EnclosingIsLive : CodeProgram → Type 0
EnclosingIsLive code =
    (activation : Activation) (level : ℕ) (progress : Progress) → LawfulRun code progress → FitsActivation progress.world.cells code activation
    → IsSome (declaration_at code activation.body level) → IsLiveValue progress.world.cells code (enclosing progress.world.cells activation level).object

-- A local of a body so many bodies out stands beside the code or in an environment.
abbrev pub LocalStands : CodeProgram → Type 0
LocalStands code =
    (activation : Activation) (hops : ℕ) (progress : Progress) → FitsOwnEnvironment progress.world.cells code activation
    → IsSome (body_out code activation.body hops) → FitsLocal progress.world.cells code activation hops

-- There it is live.
abbrev pub LocalIsLive : CodeProgram → Type 0
LocalIsLive code =
    (activation : Activation) (locals : List Value) (hops : ℕ) (place : ℕ) (progress : Progress) → LawfulRun code progress
    → FitsLocal progress.world.cells code activation hops → All (IsLiveValue progress.world.cells code) locals
    → IsLiveValue progress.world.cells code (local_at progress.world.cells code activation locals hops place)

-- A block of the body may be made.
abbrev pub BlockMayBeMade : CodeProgram → Type 0
BlockMayBeMade code =
    (activation : Activation) (block : ℕ) (progress : Progress) → LawfulRun code progress → FitsActivation progress.world.cells code activation
    → FitsOwnEnvironment progress.world.cells code activation → IsBlockOf code block activation.body
    → BlockIsLawful progress.world.cells code block activation.env activation.self activation.holder

-- An evaluation enters the block's body.
abbrev pub BlockIsEntered : CodeProgram → Type 0
BlockIsEntered code =
    (block : Value) (arguments : List Value) (site : Site) (progress : Progress)
    → EntersBlock (block_body_in (shape_of_value progress.world.cells block)) (evaluated code block arguments site progress)

-- The initialiser of a superclass has the site of what begins it, and no home.
abbrev pub PartStays : CodeProgram → Type 0
PartStays code =
    (activation : Activation) (arguments : List Value) (progress : Progress)
    → PartGoesOnAt activation.site (super_part code activation arguments progress)
