-- What is said of runs by the laws about them.
use Rattle.std.specs.Prelude.{◌≡◌, ◌<◌, ◌≤◌, ℕ, suc, pos, ◌+◌, ◌^◌, List, Option, IsTrue, true, FitsSigned}
use Rattle.std.specs.Int.{w64}
use Rattle.ns_base.specs.declared.limits.Limits.{Limits}
use Rattle.ns_base.specs.declared.place.Place.{Place as SourcePlace}
use Rattle.ns_base.specs.declared.selector.Sel.{Sel}
use Rattle.ns_code.specs.declared.program.CodeProgram.{CodeProgram}
use Rattle.ns_world.specs.declared.value.Value.{Value}
use Rattle.ns_world.specs.declared.value.Value.TheVariants.{Int}
use Rattle.ns_world.specs.Heap.{is_ordered}
use Rattle.ns_world.specs.declared.kernel_parts.KMethod.{KMethod}
use Rattle.ns_world.specs.declared.kernel_parts.KMethod.TheVariants as method
use Rattle.ns_kcode.specs.Rows.{beginning}
use Rattle.ns_moves.specs.declared.site.Site.{Site}
use Rattle.ns_moves.specs.Control.{Progress, After, Gives, Halts, Control, Begin}
use Rattle.ns_moves.specs.Blocks.{turns_of}
use Rattle.ns_facets.specs.declared.row.Grants.{Grants}
use Rattle.ns_moves.specs.Sends.{sent_plain}
use Rattle.ns_moves.specs.Start.{start_made}
use Rattle.ns_resolved.specs.Program.{Meant}
use Rattle.ns_model.specs.Outcome.{Completion, Yields, Returns, Ends, Spent, is_live}
use Rattle.ns_model.specs.Rows.{method_row}
use Rattle.ns_model.specs.Run.{run}
use Rattle.ns_model.specs.Whole.{opened}

-- ---- returns

-- A return is on its way to a home that is live.
abbrev pub GoesHome : {A : Type 0} → List ℕ → Completion A → Type 0
GoesHome live (Yields value locals progress) = Unit {0}
GoesHome live (Returns home value progress) = is_live live home ≡ true
GoesHome live (Ends ending progress) = Unit {0}
GoesHome live Spent = Unit {0}

-- Each return that a call leaves goes to a home that is live.
abbrev pub ReturnsGoHome : Meant → CodeProgram → Type 0
ReturnsGoHome meant code = (fuel : ℕ) (control : Control) (live : List ℕ) → GoesHome live (run meant code fuel control live)

-- ---- fuel

-- The fuel didn't run out.
abbrev pub IsEnough : {A : Type 0} → Completion A → Type 0
IsEnough (Yields value locals progress) = Unit {0}
IsEnough (Returns home value progress) = Unit {0}
IsEnough (Ends ending progress) = Unit {0}
IsEnough Spent = ⊥

-- The fuel is above the steps that are left, and each class has its superclass before it.
pub record Ready (fuel : ℕ) (progress : Progress) : Type 0 where
  pub above : progress.world.limits.steps < fuel + progress.world.steps
  pub ordered : IsTrue (is_ordered progress.world.cells)

-- Such fuel doesn't run out in a send that no code makes.
abbrev pub FuelIsEnough : Meant → CodeProgram → Type 0
FuelIsEnough meant code =
    (fuel : ℕ) (receiver : Value) (sel : Sel) (values : List Value) (place : Option SourcePlace) (progress : Progress) (live : List ℕ)
    → Ready fuel progress → IsEnough (run meant code fuel (sent_plain code receiver sel values place progress) live)

-- Nor does it in what follows a start.
abbrev pub EndsByItself : Meant → CodeProgram → After → Type 0
EndsByItself meant code (Gives array progress) = IsEnough (opened meant code array progress)
EndsByItself meant code (Halts ending progress) = Unit {0}

-- A run ends by itself, whatever it is granted and given.
abbrev pub RunsEnd : Meant → CodeProgram → Type 0
RunsEnd meant code =
    (grants : Grants) (arguments : List (List ℕ)) (limits : Limits) → EndsByItself meant code (start_made code grants arguments limits)

-- Where the fuel was enough, more of it changes nothing.
abbrev pub MoreFuel : Meant → CodeProgram → Type 0
MoreFuel meant code =
    (fuel more : ℕ) (control : Control) (live : List ℕ) → fuel ≤ more → IsEnough (run meant code fuel control live)
    → run meant code more control live ≡ run meant code fuel control live

-- ---- the kernel's methods that evaluate blocks

-- The turns of `to:do:` can be counted by an Integer, as its receiver is one.
abbrev pub TurnsAreCounted : ℕ → KMethod → Value → Type 0
TurnsAreCounted turns method.ToDo (Int start) = FitsSigned w64 start × (turns < 2 ^ 63)
TurnsAreCounted turns named receiver = Unit {0}

-- where such a method begins, with its receiver and its arguments
abbrev pub method_begins : KMethod → Value → Value → Value → Site → Progress → Control
method_begins named receiver first second site progress =
    Begin named (beginning receiver first second (pos (turns_of progress.world.cells named receiver))) site progress

-- It means its row: a recursion over at most as many turns as there is fuel.
abbrev pub MethodsAreRows : Meant → CodeProgram → Type 0
MethodsAreRows meant code =
    (fuel enough : ℕ) (named : KMethod) (receiver first second : Value) (site : Site) (live : List ℕ) (progress : Progress)
    → fuel ≤ enough → TurnsAreCounted enough named receiver
    → IsEnough (run meant code fuel (method_begins named receiver first second site progress) live)
    → run meant code fuel (method_begins named receiver first second site progress) live
    ≡ method_row code (run meant code enough) live site enough named receiver first second progress

-- In such a method, too, fuel above the steps that are left doesn't run out.
abbrev pub FuelIsEnoughInMethods : Meant → CodeProgram → Type 0
FuelIsEnoughInMethods meant code =
    (fuel : ℕ) (named : KMethod) (receiver first second : Value) (site : Site) (live : List ℕ) (progress : Progress)
    → Ready fuel progress → IsEnough (run meant code (suc fuel) (method_begins named receiver first second site progress) live)
