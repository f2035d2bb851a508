-- Codes that have the same tables, over which a run means the same.
use Rattle.std.specs.Prelude.{◌≡◌, ℕ, List, map, Option}
use Rattle.ns_base.specs.declared.limits.Limits.{Limits}
use Rattle.ns_base.specs.declared.place.Place.{Place as SourcePlace}
use Rattle.ns_base.specs.declared.selector.Sel.{Sel}
use Rattle.ns_code.specs.declared.program.CodeProgram.{CodeProgram}
use Rattle.ns_code.specs.Heads.{head_of}
use Rattle.ns_world.specs.declared.value.Value.{Value}
use Rattle.ns_world.specs.declared.ending.Ending.{Ending}
use Rattle.ns_world.specs.Heap.{Heap}
use Rattle.ns_facets.specs.declared.row.Grants.{Grants}
use Rattle.ns_moves.specs.declared.site.Site.{Site}
use Rattle.ns_moves.specs.Control.{Progress, Activation, Exit, Control}
use Rattle.ns_moves.specs.Bodies.{local_at, locals_with, local_stored}
use Rattle.ns_moves.specs.Blocks.{evaluated}
use Rattle.ns_moves.specs.Classes.{super_part, slot_filled, body_ended}
use Rattle.ns_moves.specs.Sends.{Target, sent, sent_plain, performed}
use Rattle.ns_moves.specs.Start.{start_made}
use Rattle.ns_moves.specs.Report.{report_line}
use Rattle.ns_resolved.specs.Program.{Meant}
use Rattle.ns_model.specs.Run.{run}
use Rattle.ns_model.specs.Whole.{RunEnd, ran, report_of}

-- Two codes have the same tables: the same files, names and records of classes, and bodies with the same heads.
pub record SameTables (code other : CodeProgram) : Type 0 where
  pub files : other.files ≡ code.files
  pub names : other.names ≡ code.names
  pub classes : other.classes ≡ code.classes
  pub heads : map head_of other.bodies ≡ map head_of code.bodies

-- Each action that reads of the code comes to the same over both: sends, evaluations, superclass parts and the ends
-- of bodies; locals and slots; the start and the report.
pub record ActAlike (code other : CodeProgram) : Type 0 where
  pub sends : (activation : Activation) (target : Target) (sel : Sel) (values : List Value) (place : Option SourcePlace) (progress : Progress)
      → sent code activation target sel values place progress ≡ sent other activation target sel values place progress
  pub plain : (receiver : Value) (sel : Sel) (values : List Value) (place : Option SourcePlace) (progress : Progress)
      → sent_plain code receiver sel values place progress ≡ sent_plain other receiver sel values place progress
  pub performs : (receiver : Value) (sel : Sel) (array : ℕ) (site : Site) (progress : Progress)
      → performed code receiver sel array site progress ≡ performed other receiver sel array site progress
  pub evaluates : (block : Value) (arguments : List Value) (site : Site) (progress : Progress)
      → evaluated code block arguments site progress ≡ evaluated other block arguments site progress
  pub parts : (activation : Activation) (arguments : List Value) (progress : Progress)
      → super_part code activation arguments progress ≡ super_part other activation arguments progress
  pub ends : (exit : Exit) (activation : Activation) (value : Value) (progress : Progress)
      → body_ended code exit activation value progress ≡ body_ended other exit activation value progress
  pub reads : (heap : Heap) (activation : Activation) (locals : List Value) (hops index : ℕ)
      → local_at heap code activation locals hops index ≡ local_at heap other activation locals hops index
  pub sets : (activation : Activation) (locals : List Value) (hops index : ℕ) (value : Value)
      → locals_with code activation locals hops index value ≡ locals_with other activation locals hops index value
  pub stores : (activation : Activation) (hops index : ℕ) (value : Value) (progress : Progress)
      → local_stored code activation hops index value progress ≡ local_stored other activation hops index value progress
  pub fills : (activation : Activation) (slot : ℕ) (value : Value) (progress : Progress)
      → slot_filled code activation slot value progress ≡ slot_filled other activation slot value progress
  pub starts : (grants : Grants) (arguments : List (List ℕ)) (limits : Limits)
      → start_made code grants arguments limits ≡ start_made other grants arguments limits
  pub reports : (heap : Heap) (files : List (List ℕ)) (ending : Ending) → report_line heap code files ending ≡ report_line heap other files ending

-- A program means the same over both: each call, the whole run, and what is reported of it.
pub record MeansTheSame (meant : Meant) (code other : CodeProgram) : Type 0 where
  pub calls : (fuel : ℕ) (control : Control) (live : List ℕ) → run meant code fuel control live ≡ run meant other fuel control live
  pub runs : (grants : Grants) (arguments : List (List ℕ)) (limits : Limits)
      → ran meant code grants arguments limits ≡ ran meant other grants arguments limits
  pub reports : (ended : RunEnd) → report_of code ended ≡ report_of other ended
