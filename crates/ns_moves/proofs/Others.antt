-- A member that is there answers with the arguments as they stand.
use Rattle.std.proofs.Common.{◌≡◌, ◌<◌, List, refl, arith}
use Rattle.ns_base.specs.declared.selector.Sel.{Sel}
use Rattle.ns_code.specs.declared.program.CodeProgram.{CodeProgram}
use Rattle.ns_world.specs.declared.value.Value.{Value}
use Rattle.ns_find.specs.declared.found.Found.{Found}
use Rattle.ns_find.specs.declared.found.Found.TheVariants as found
use Rattle.ns_moves.specs.declared.site.Site.{Site}
use Rattle.ns_moves.specs.Bodies.{no_home}
use Rattle.ns_moves.specs.Control.{Progress}
use Rattle.ns_moves.specs.Sends.{Listed, done_with, answered_by}
use Rattle.ns_moves.specs.declared.run.Run.{Run}
use Rattle.ns_moves.specs.Run.{IsReady}

pub others_answer :
    (code : CodeProgram) (member : Found) (sel : Sel) (receiver : Value) (values : List Value) (site : Site) (progress : Progress) →
    (member ≡ found.Absent → ⊥)
    → done_with code member sel receiver (Listed values) site progress ≡ answered_by code member sel receiver values site progress
others_answer code found.Absent sel receiver values site progress other = absurd (other refl)
others_answer code (found.Method body holder) sel receiver values site progress other = refl
others_answer code (found.Getter holder word) sel receiver values site progress other = refl
others_answer code (found.Setter holder word) sel receiver values site progress other = refl
others_answer code (found.Nested class holder) sel receiver values site progress other = refl
others_answer code (found.Factory class) sel receiver values site progress other = refl
others_answer code (found.Kernel number) sel receiver values site progress other = refl
others_answer code found.NotPublic sel receiver values site progress other = refl

-- one method more can be counted
pub few_begun : (code : CodeProgram) (run : Run) → IsReady code run → run.begun < no_home
few_begun code run ready = omega (arith, ready.begun, ready.lawful.within.steps, ready.lawful.within.limits.0.1)
