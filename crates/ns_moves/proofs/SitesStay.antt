-- What a send goes on with keeps its site and has its home, and a block is evaluated with at most 255 arguments.
use Rattle.std.proofs.Common.{ℕ, ◌≤◌, List, length, refl, Option, Bool, true, false, cond, eqb}
use Rattle.ns_moves.specs.laws.Onward.{charged_all}
use Rattle.ns_base.specs.declared.selector.Sel.{Sel}
use Rattle.ns_code.specs.declared.program.CodeProgram.{CodeProgram}
use Rattle.ns_world.specs.declared.value.Value.{Value}
use Rattle.ns_world.specs.declared.ending.Kind.TheVariants.{WrongArity}
use Rattle.ns_world.specs.declared.ending.LimitKind.TheVariants.{Steps, Depth}
use Rattle.ns_world.specs.World.{stepped, entered}
use Rattle.ns_world.specs.Starts.{start_of}
use Rattle.ns_find.specs.declared.found.Found.{Found}
use Rattle.ns_find.specs.declared.found.Found.TheVariants as found
use Rattle.ns_find.specs.Find.{found_from}
use Rattle.ns_mirror.specs.Looking.{mirrored}
use Rattle.ns_world.specs.declared.kernel_row.Row.{Row}
use Rattle.ns_world.specs.declared.kernel_row.Row.TheVariants as row
use Rattle.ns_moves.specs.declared.site.Site.{Site}
use Rattle.ns_moves.specs.Control.{Progress, in_world, Activation, FromBody, Control, Enter, halts, fails, charged}
use Rattle.ns_moves.specs.Bodies.{parameters_of, no_home, opened}
use Rattle.ns_world.specs.KernelTable.{row_at}
use Rattle.ns_base.specs.declared.place.Place.{Place as SourcePlace}
use Rattle.ns_moves.specs.Fitting.{GoesOnAt, home_in}
use Rattle.ns_moves.specs.Blocks.{block_entered, evaluated}
use Rattle.ns_moves.specs.Sends.{Target, site_at, sent, sent_plain, receiver_of, found_at}
use Rattle.ns_find.specs.declared.found.Sending.TheVariants.{Plain}
use Rattle.ns_world.specs.declared.cell.NewCell.{NewCell}
use Rattle.ns_world.specs.declared.cell.NewCell.TheVariants as new
use Rattle.ns_kdata.specs.Arguments.{shape_of_value}
use Rattle.ns_moves.specs.lemmas.SitesStay.{FewOf, FewFound, opened_at, answered_at}

-- where it is few anyway
few_row : (count : ℕ) (r : Row) → FewOf (count ≤ 255) count r
few_row count (row.Data r) = tt
few_row count (row.Integer r) = tt
few_row count row.Top = tt
few_row count (row.Facet r) = tt
few_row count (row.Mirror r) = tt
few_row count (row.Method method) = tt
few_row count row.Apply = tt
few_row count row.Value = λ few. few
few_row count row.ValueWithArguments = tt
few_row count row.NumArgs = tt

few_found : (count : ℕ) (member : Found) → FewFound (count ≤ 255) count member
few_found count (found.Kernel number) = few_row count (row_at number)
few_found count (found.Method body holder) = tt
few_found count (found.Getter holder word) = tt
few_found count (found.Setter holder word) = tt
few_found count (found.Nested class holder) = tt
few_found count (found.Factory class) = tt
few_found count found.NotPublic = tt
few_found count found.Absent = tt

pub sent_at : (code : CodeProgram) (activation : Activation) (target : Target) (sel : Sel) (values : List Value) (place : Option SourcePlace) (progress : Progress)
    → GoesOnAt (length values ≤ 255) (site_at progress.world.cells place (receiver_of progress.world.cells activation target) sel) no_home (sent code activation target sel values place progress)
sent_at code activation target sel values place progress =
    let receiver = receiver_of progress.world.cells activation target in
    let site = site_at progress.world.cells place receiver sel in
    charged_all (GoesOnAt (length values ≤ 255) site no_home) halts Steps (stepped progress.world) progress _ tt
    (λ world e. answered_at (length values ≤ 255) code (found_at progress.world.cells code activation target sel.0) sel receiver values site (in_world progress world) (few_found (length values) (found_at progress.world.cells code activation target sel.0)))

pub plain_at :
    (code : CodeProgram) (receiver : Value) (sel : Sel) (values : List Value) (place : Option SourcePlace) (progress : Progress) →
    GoesOnAt (length values ≤ 255) (site_at progress.world.cells place receiver sel) no_home (sent_plain code receiver sel values place progress)
plain_at code receiver sel values place progress =
    let site = site_at progress.world.cells place receiver sel in
    charged_all (GoesOnAt (length values ≤ 255) site no_home) halts Steps (stepped progress.world) progress _ tt
    (λ world e. answered_at (length values ≤ 255) code (found_from progress.world.cells code (start_of progress.world.cells receiver) sel.0 Plain) sel receiver values site (in_world progress world) (few_found (length values) (found_from progress.world.cells code (start_of progress.world.cells receiver) sel.0 Plain)))

-- ---- evaluations

entered_at : (code : CodeProgram) (shape : NewCell) (arguments : List Value) (site : Site) (progress : Progress) →
    GoesOnAt (length arguments ≤ 255) site (home_in shape) (block_entered code shape arguments site progress)
entered_at code (new.Block body env home receiver holder) arguments site progress =
    tested (eqb (length arguments) (parameters_of code body))
  where
    framed : Progress → Control
    framed progress = charged halts Depth (entered progress.world) progress (opened code halts (Enter FromBody) (record { self = receiver; holder = holder; body = body; home = home; env = env; site = site }) arguments)

    tested : (b : Bool) → GoesOnAt (length arguments ≤ 255) site home (cond b (charged halts Steps (stepped progress.world) progress framed) (fails WrongArity site progress))
    tested true =
        charged_all (GoesOnAt (length arguments ≤ 255) site home) halts Steps (stepped progress.world) progress framed tt
        (λ world s. charged_all (GoesOnAt (length arguments ≤ 255) site home) halts Depth (entered world) (in_world progress world) _ tt
        (λ next d. opened_at (length arguments ≤ 255) site home code (Enter FromBody) (record { self = receiver; holder = holder; body = body; home = home; env = env; site = site }) arguments (in_world progress next) (λ env' locals last. (refl, refl))))
    tested false = tt
entered_at code (new.Object class words) arguments site progress = tt
entered_at code (new.Class decl base encl holder over) arguments site progress = tt
entered_at code (new.Environment parent locals) arguments site progress = tt
entered_at code (new.Array size) arguments site progress = tt
entered_at code (new.Text bytes) arguments site progress = tt
entered_at code (new.Facet kind) arguments site progress = tt
entered_at code (new.Mirror mirrored) arguments site progress = tt
entered_at code (new.Message sel args) arguments site progress = tt

pub evaluated_at : (code : CodeProgram) (block : Value) (arguments : List Value) (site : Site) (progress : Progress) →
    GoesOnAt (length arguments ≤ 255) site (home_in (shape_of_value progress.world.cells block)) (evaluated code block arguments site progress)
evaluated_at code block arguments site progress = entered_at code (shape_of_value progress.world.cells block) arguments site progress
