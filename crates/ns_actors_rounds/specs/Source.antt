-- The actors of a program without static faults: its code is made once, where none of its sizes is too large.
use Rattle.std.specs.Prelude.{◌≡◌, ℕ, ℤ, List, Option, None, Some, Result, Ok, Err}
use Rattle.ns_base.specs.declared.limits.Limits.{Limits}
use Rattle.ns_code.specs.declared.program.CodeProgram.{CodeProgram}
use Rattle.ns_gen_code.specs.Code.{code_of}
use Rattle.ns_gen_code.specs.Sizes.{size_fault}
use Rattle.ns_gen_code.specs.declared.size.SizeKind.{SizeKind}
use Rattle.ns_resolved.specs.Program.{Meant}
use Rattle.ns_actors.specs.Rounds.{acted, played}
use Rattle.ns_actors_rounds.specs.Parts.{parts_of}
use Rattle.ns_actors_rounds.specs.declared.told.ToldActors.{ToldActors}
use Rattle.ns_actors_rounds.specs.declared.fault.PlayFault.{PlayFault}
use Rattle.ns_actors_rounds.specs.declared.fault.PlayFault.TheVariants as fault

-- what is told of so many actors of some code at rest, of which the first gets a letter of that selector and number
abbrev pub actors_told : CodeProgram → Limits → ℕ → List ℕ → ℤ → ToldActors
actors_told code limits count sel number =
    record { told = acted code limits count sel number; parts = parts_of (played code limits count sel number) }

-- What comes of the actors of a program: a size of its code passes its limit, or this is told of them at rest.
pub data Acting : Type 0 where
  has_no_code : (kind : SizeKind) → Acting
  has_acted : (told : ToldActors) → Acting

-- of code, of which this is the first size that passes its limit
abbrev pub sized_acted : CodeProgram → Limits → ℕ → List ℕ → ℤ → Option SizeKind → Acting
sized_acted code limits count sel number None = has_acted (actors_told code limits count sel number)
sized_acted code limits count sel number (Some kind) = has_no_code kind

-- of a program, of which so many actors stand within these limits, and the first gets a letter of that selector and number
abbrev pub source_acted : Meant → Limits → ℕ → List ℕ → ℤ → Acting
source_acted meant limits count sel number = sized_acted (code_of meant) limits count sel number (size_fault (code_of meant))

-- The answer is what came of the actors; want of memory is answered whatever that is.
abbrev pub Tells : Acting → Result ToldActors PlayFault → Type 0
Tells acting (Ok told) = acting ≡ has_acted told
Tells acting (Err (fault.TooLarge kind)) = acting ≡ has_no_code kind
Tells acting (Err fault.Memory) = Unit {0}
