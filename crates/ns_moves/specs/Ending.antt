-- How an action may end a run.
use Rattle.std.specs.Prelude.{◌<◌, length, Option, IsTrue}
use Rattle.std.specs.Option.{ForSome}
use Rattle.ns_base.specs.declared.place.Place.{Place as SourcePlace}
use Rattle.ns_base.specs.declared.selector.Sel.{Sel}
use Rattle.ns_code.specs.declared.program.CodeProgram.{CodeProgram}
use Rattle.ns_code.specs.Selector.{is_selector_number}
use Rattle.ns_world.specs.declared.ending.Ending.{Ending}
use Rattle.ns_world.specs.declared.ending.Ending.TheVariants.{Done, Error, Limit}
use Rattle.ns_moves.specs.Control.{Progress, After, Gives, Halts, Control, Now, Enter, Evaluate, Begin, Perform, PartControl, Skip, Stop, EnterPart, Waiting, Waits, Finishes}
use Rattle.ns_moves.specs.Classes.{super_part, body_ended}
use Rattle.ns_moves.specs.Blocks.{new_block, new_text, new_array, evaluated, method_next}
use Rattle.ns_moves.specs.Sends.{sent, sent_plain, performed}
use Rattle.ns_moves.specs.Fitting.{FitsSite}
use Rattle.ns_moves.specs.Actions.{Action, Sends, SendsPlain, Performs, Evaluates, Continues, BeginsPart, EndsPart, EndsBody, MakesBlock, MakesText, MakesArray, FillsSlot, StoresLocal}

-- No action ends a run with a value, and an error names a file, a class and a selector of the code.
abbrev pub FitsEnding : CodeProgram → Ending → Type 0
FitsEnding code (Done value) = ⊥
FitsEnding code (Error error) = FitsSite code (record { place = error.place; class = error.class; sel = error.sel })
FitsEnding code (Limit limit) = Unit {0}

-- so with what actions come to
abbrev pub EndsAfter : CodeProgram → After → Type 0
EndsAfter code (Gives value progress) = Unit {0}
EndsAfter code (Halts ending progress) = FitsEnding code ending

abbrev pub EndsControl : CodeProgram → Control → Type 0
EndsControl code (Now after) = EndsAfter code after
EndsControl code (Enter exit activation locals progress) = Unit {0}
EndsControl code (Evaluate block arguments site progress) = Unit {0}
EndsControl code (Begin method state site progress) = Unit {0}
EndsControl code (Perform receiver sel array site progress) = Unit {0}

abbrev pub PartEnds : CodeProgram → PartControl → Type 0
PartEnds code (Skip progress) = Unit {0}
PartEnds code (Stop ending progress) = FitsEnding code ending
PartEnds code (EnterPart activation locals progress) = Unit {0}

abbrev pub EndsWaiting : CodeProgram → Waiting → Type 0
EndsWaiting code (Waits block arguments state progress) = Unit {0}
EndsWaiting code (Finishes after) = EndsAfter code after

-- A selector, and a place in a file of the code where it is in one.
pub record NamesSend (code : CodeProgram) (sel : Sel) (place : Option SourcePlace) : Type 0 where
  pub selector : IsTrue (is_selector_number code sel.0)
  pub file : ForSome place (λ (place : SourcePlace). place.file < length code.files)

-- what the site of an action, by which its errors are named, has to be
abbrev pub HasSite : CodeProgram → Action → Type 0
HasSite code (Sends activation target sel values place) = NamesSend code sel place
HasSite code (SendsPlain receiver sel values place) = NamesSend code sel place
HasSite code (Performs receiver sel array site) = NamesSend code sel site.place
HasSite code (Evaluates block arguments site) = FitsSite code site
HasSite code (Continues method state site) = FitsSite code site
HasSite code (BeginsPart activation arguments) = FitsSite code activation.site
HasSite code (EndsBody exit activation value) = FitsSite code activation.site
HasSite code other = Unit {0}

-- An action ends a run so, if it does.
abbrev pub EndsFitly : CodeProgram → Action → Progress → Type 0
EndsFitly code (Sends activation target sel values place) progress =
    EndsControl code (sent code activation target sel values place progress)
EndsFitly code (SendsPlain receiver sel values place) progress = EndsControl code (sent_plain code receiver sel values place progress)
EndsFitly code (Performs receiver sel array site) progress = EndsControl code (performed code receiver sel array site progress)
EndsFitly code (Evaluates block arguments site) progress = EndsControl code (evaluated code block arguments site progress)
EndsFitly code (Continues method state site) progress = EndsWaiting code (method_next method state site progress)
EndsFitly code (BeginsPart activation arguments) progress = PartEnds code (super_part code activation arguments progress)
EndsFitly code EndsPart progress = Unit {0}
EndsFitly code (EndsBody exit activation value) progress = EndsAfter code (body_ended code exit activation value progress)
EndsFitly code (MakesBlock activation body) progress = EndsAfter code (new_block activation body progress)
EndsFitly code (MakesText bytes) progress = EndsAfter code (new_text bytes progress)
EndsFitly code (MakesArray items) progress = EndsAfter code (new_array items progress)
EndsFitly code (FillsSlot activation slot value) progress = Unit {0}
EndsFitly code (StoresLocal activation hops place value) progress = Unit {0}
