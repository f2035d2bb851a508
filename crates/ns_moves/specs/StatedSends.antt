-- What the laws say of sends: what they change, that they keep worlds lawful, and where they go on.
use Rattle.std.specs.Prelude.{◌<◌, ◌≤◌, ℕ, List, length, All, Option, IsTrue}
use Rattle.std.specs.Option.{ForSome}
use Rattle.ns_base.specs.declared.place.Place.{Place}
use Rattle.ns_base.specs.declared.selector.Sel.{Sel}
use Rattle.ns_code.specs.declared.program.CodeProgram.{CodeProgram}
use Rattle.ns_code.specs.Selector.{is_selector_number}
use Rattle.ns_world.specs.declared.value.Value.{Value}
use Rattle.ns_world.specs.declared.value.Value.TheVariants.{Ref}
use Rattle.ns_world.specs.Lawful.{IsLiveValue}
use Rattle.ns_kdata.specs.Arguments.{shape_of_value, items_of}
use Rattle.ns_moves.specs.declared.site.Site.{Site}
use Rattle.ns_moves.specs.Control.{Progress, Activation}
use Rattle.ns_moves.specs.Bodies.{no_home}
use Rattle.ns_moves.specs.Blocks.{evaluated}
use Rattle.ns_moves.specs.Sends.{Target, receiver_of, site_at, sent, sent_plain, performed}
use Rattle.ns_moves.specs.Lawful.{LawfulRun, LawfulControl, FitsTarget, FitsSelector}
use Rattle.ns_moves.specs.Fitting.{FitsSite, GoesOnAt, home_in}
use Rattle.ns_moves.specs.Onward.{Onward, touched, reached}

-- ---- what a send changes

-- A send from running code changes its receiver and what that mirrors, and no other cell.
abbrev pub SentGoesOnward : CodeProgram → Type 0
SentGoesOnward code =
    (activation : Activation) (target : Target) (sel : Sel) (values : List Value) (place : Option Place) (progress : Progress)
    → Onward (touched progress.world.cells (receiver_of progress.world.cells activation target)) progress
    (reached (sent code activation target sel values place progress))

-- So does a plain send.
abbrev pub PlainGoesOnward : CodeProgram → Type 0
PlainGoesOnward code =
    (receiver : Value) (sel : Sel) (values : List Value) (place : Option Place) (progress : Progress)
    → Onward (touched progress.world.cells receiver) progress (reached (sent_plain code receiver sel values place progress))

-- So does the send that a mirror performs.
abbrev pub PerformedGoesOnward : CodeProgram → Type 0
PerformedGoesOnward code =
    (receiver : Value) (sel : Sel) (array : ℕ) (site : Site) (progress : Progress)
    → Onward (touched progress.world.cells receiver) progress (reached (performed code receiver sel array site progress))

-- ---- what leaves a lawful world, with what is live

-- A send from running code, where its target and its selector fit.
abbrev pub SentKeepsLawful : CodeProgram → Type 0
SentKeepsLawful code =
    (activation : Activation) (target : Target) (sel : Sel) (values : List Value) (place : Option Place) (progress : Progress)
    → LawfulRun code progress → FitsTarget progress.world.cells code activation target → FitsSelector progress.world.cells code sel values
    → LawfulControl code (sent code activation target sel values place progress)

-- A plain send to a live receiver.
abbrev pub PlainKeepsLawful : CodeProgram → Type 0
PlainKeepsLawful code =
    (receiver : Value) (sel : Sel) (values : List Value) (place : Option Place) (progress : Progress)
    → LawfulRun code progress → IsLiveValue progress.world.cells code receiver → FitsSelector progress.world.cells code sel values
    → LawfulControl code (sent_plain code receiver sel values place progress)

-- The send that a mirror performs, with the elements of an array.
abbrev pub PerformedKeepsLawful : CodeProgram → Type 0
PerformedKeepsLawful code =
    (receiver : Value) (sel : Sel) (array : ℕ) (site : Site) (progress : Progress)
    → LawfulRun code progress → IsLiveValue progress.world.cells code receiver
    → FitsSelector progress.world.cells code sel (items_of progress.world.cells (Ref array))
    → LawfulControl code (performed code receiver sel array site progress)

-- The evaluation of a block with live arguments.
abbrev pub EvaluatedKeepsLawful : CodeProgram → Type 0
EvaluatedKeepsLawful code =
    (block : Value) (arguments : List Value) (site : Site) (progress : Progress)
    → LawfulRun code progress → All (IsLiveValue progress.world.cells code) arguments → LawfulControl code (evaluated code block arguments site progress)

-- ---- sites and homes

-- The site of a send names a class of the code, its selector, and a file of the code where its place is in one.
abbrev pub SiteFits : CodeProgram → Type 0
SiteFits code =
    (receiver : Value) (sel : Sel) (place : Option Place) (progress : Progress)
    → LawfulRun code progress → IsTrue (is_selector_number code sel.0)
    → ForSome place (λ (place : Place). place.file < length code.files)
    → FitsSite code (site_at progress.world.cells place receiver sel)

-- What a send goes on with keeps its site.
abbrev pub SentStays : CodeProgram → Type 0
SentStays code =
    (activation : Activation) (target : Target) (sel : Sel) (values : List Value) (place : Option Place) (progress : Progress)
    → GoesOnAt (length values ≤ 255)
    (site_at progress.world.cells place (receiver_of progress.world.cells activation target) sel) no_home
    (sent code activation target sel values place progress)

-- So does that of a plain send.
abbrev pub PlainStays : CodeProgram → Type 0
PlainStays code =
    (receiver : Value) (sel : Sel) (values : List Value) (place : Option Place) (progress : Progress)
    → GoesOnAt (length values ≤ 255) (site_at progress.world.cells place receiver sel) no_home
    (sent_plain code receiver sel values place progress)

-- That of an evaluation keeps its site, and has the home of the block.
abbrev pub EvaluatedStays : CodeProgram → Type 0
EvaluatedStays code =
    (block : Value) (arguments : List Value) (site : Site) (progress : Progress)
    → GoesOnAt (length arguments ≤ 255) site (home_in (shape_of_value progress.world.cells block))
    (evaluated code block arguments site progress)
