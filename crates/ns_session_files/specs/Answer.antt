-- What answers say of the applications of a session.
use Rattle.std.specs.Prelude.{◌≡◌, ℕ, List, [], ◌∷◌, ◌++◌, map, string_bytes, Result, Ok, Err}
use Rattle.ns_base.specs.declared.limits.Limits.{Limits}
use Rattle.ns_code.specs.Fits.{Fits}
use Rattle.ns_code.specs.declared.program.CodeProgram.{CodeProgram}
use Rattle.ns_facets.specs.declared.row.Grants.{Grants}
use Rattle.ns_gen_code.specs.Code.{code_of}
use Rattle.ns_link.specs.Stated.{HasFirst}
use Rattle.ns_load.specs.declared.fault.LoadCause.{LoadCause}
use Rattle.ns_load.specs.declared.fault.LoadCause.TheVariants.{Missing, TooLong, ReadFault, Spelling}
use Rattle.ns_load.specs.declared.fault.LoadFault.{LoadFault}
use Rattle.ns_load.specs.declared.fault.LoadFault.TheVariants.{At, Memory}
use Rattle.ns_session.specs.Member.{starting}
use Rattle.ns_session.specs.Session.{SessionView}
use Rattle.ns_verify.specs.Verify.{IsSound}
use Rattle.ns_session_files.specs.Joint.{Joint, has_run, stopped_for}
use Rattle.ns_session_files.specs.Making.{Making, Refusal, Source, application_of, made, refused, too_large, unchecked, unloaded}
use Rattle.ns_session_files.specs.declared.fault.JointFault.{JointFault}
use Rattle.ns_session_files.specs.declared.fault.JointFault.TheVariants as fault
use Rattle.ns_session_files.specs.declared.joint.ToldSession.{ToldSession}

-- ---- faults

-- The fault is this refusal, where it is one. That a file couldn't be read and want of memory are none.
abbrev pub IfRefusal : (Refusal → Type 0) → JointFault → Type 0
IfRefusal P fault.Unread = Unit {0}
IfRefusal P (fault.Unloaded names cause file) = P (unloaded (map string_bytes names.items) (At cause file))
IfRefusal P (fault.Unchecked names place cause) = P (unchecked (map string_bytes names.items) (record { place = place; cause = cause }))
IfRefusal P (fault.TooLarge kind) = P (too_large kind)
IfRefusal P fault.Memory = Unit {0}

-- The fault is a refusal, and this one.
abbrev pub RefusesAs : (Refusal → Type 0) → JointFault → Type 0
RefusesAs P fault.Unread = ⊥
RefusesAs P (fault.Unloaded names cause file) = P (unloaded (map string_bytes names.items) (At cause file))
RefusesAs P (fault.Unchecked names place cause) = P (unchecked (map string_bytes names.items) (record { place = place; cause = cause }))
RefusesAs P (fault.TooLarge kind) = P (too_large kind)
RefusesAs P fault.Memory = ⊥

-- Applications couldn't be made for that.
abbrev pub IsFaultOfMaking : Making → JointFault → Type 0
IsFaultOfMaking making why = IfRefusal (λ refusal. making ≡ refused refusal) why

-- The file was refused: it isn't that it couldn't be read.
abbrev pub IsRefusedFile : LoadCause → Type 0
IsRefusedFile Missing = Unit {0}
IsRefusedFile TooLong = Unit {0}
IsRefusedFile ReadFault = ⊥
IsRefusedFile (Spelling wrong place) = Unit {0}

abbrev pub HasRefusedFile : JointFault → Type 0
HasRefusedFile fault.Unread = Unit {0}
HasRefusedFile (fault.Unloaded names cause file) = IsRefusedFile cause
HasRefusedFile (fault.Unchecked names place cause) = Unit {0}
HasRefusedFile (fault.TooLarge kind) = Unit {0}
HasRefusedFile fault.Memory = Unit {0}

-- All files were loaded.
abbrev pub IsOfLoaded : JointFault → Type 0
IsOfLoaded fault.Unread = ⊥
IsOfLoaded (fault.Unloaded names cause file) = ⊥
IsOfLoaded (fault.Unchecked names place cause) = Unit {0}
IsOfLoaded (fault.TooLarge kind) = Unit {0}
IsOfLoaded fault.Memory = Unit {0}

-- A file isn't there.
abbrev pub IsMissingFile : JointFault → Type 0
IsMissingFile fault.Unread = ⊥
IsMissingFile (fault.Unloaded names cause file) = cause ≡ Missing
IsMissingFile (fault.Unchecked names place cause) = ⊥
IsMissingFile (fault.TooLarge kind) = ⊥
IsMissingFile fault.Memory = ⊥

-- why there is no application, where files were refused for that
abbrev pub fault_from : (LoadCause → ℕ → JointFault) → LoadFault → JointFault
fault_from unloading (At Missing file) = unloading Missing file
fault_from unloading (At TooLong file) = unloading TooLong file
fault_from unloading (At ReadFault file) = fault.Unread
fault_from unloading (At (Spelling wrong place) file) = unloading (Spelling wrong place) file
fault_from unloading Memory = fault.Memory

-- ---- one application

-- Its program begins, and its code is admitted.
pub record IsAdmitted (source : Source) : Type 0 where
  pub first : HasFirst source.meant
  pub sound : IsSound (code_of source.meant)
  pub fits : Fits (code_of source.meant)

-- The code is that of the one application that was made, which is granted this.
abbrev pub IsCodeOf : Grants → Making → CodeProgram → Type 0
IsCodeOf grants (made []) code = ⊥
IsCodeOf grants (made (source ∷ [])) code = (code ≡ code_of source.meant) × (source.grants ≡ grants) × IsAdmitted source
IsCodeOf grants (made (source ∷ next ∷ more)) code = ⊥
IsCodeOf grants (refused why) code = ⊥

-- The code of the application was made, or there is a refusal.
abbrev pub IsMadeAs : Grants → Making → Result CodeProgram JointFault → Type 0
IsMadeAs grants making (Ok code) = IsCodeOf grants making code
IsMadeAs grants making (Err why) = IsFaultOfMaking making why

-- ---- all applications

-- the session with these applications behind those that are there
abbrev pub with_all : Limits → List Source → SessionView → SessionView
with_all limits sources session = record session { members = session.members ++ map starting (map (application_of limits) sources) }

abbrev pub AreAdmitted : List Source → Type 0
AreAdmitted [] = Unit {0}
AreAdmitted (source ∷ sources) = IsAdmitted source × AreAdmitted sources

abbrev pub IsWithAll : Limits → Making → SessionView → SessionView → Type 0
IsWithAll limits (made sources) old new = (new ≡ with_all limits sources old) × AreAdmitted sources
IsWithAll limits (refused why) old new = ⊥

-- All applications were made and stand in the session, or one was refused.
abbrev pub AddsAll : Limits → Making → SessionView → SessionView → Result (Unit {0}) JointFault → Type 0
AddsAll limits making old new (Ok _) = IsWithAll limits making old new
AddsAll limits making old new (Err why) = IsFaultOfMaking making why

-- ---- the session

-- All have run, or there is a refusal.
abbrev pub TellsOfAll : Joint → Result ToldSession JointFault → Type 0
TellsOfAll joint (Ok told) = joint ≡ has_run told
TellsOfAll joint (Err why) = IfRefusal (λ refusal. joint ≡ stopped_for refusal) why
