-- What a command stores and writes, and its status.
use Rattle.std.specs.Prelude.{ℕ, List, [], ◌∷◌, ◌++◌, Option, Some, None, codes, length}
use Rattle.std.specs.Fmt.{decimal}
use Rattle.ns_base.specs.declared.place.Place.{Place}
use Rattle.ns_base.specs.declared.status.Status.TheVariants as status
use Rattle.ns_gen_code.specs.declared.size.SizeKind.{SizeKind}
use Rattle.ns_gen_code.specs.declared.size.SizeKind.TheVariants as size
use Rattle.ns_json.specs.declared.saying.Refused as saying
use Rattle.ns_json.specs.declared.saying.Refused.TheVariants as what
use Rattle.ns_json.specs.declared.saying.Saying.{Saying}
use Rattle.ns_json.specs.declared.saying.Saying.TheVariants as said
use Rattle.ns_load.specs.declared.fault.SpellingCause.{SpellingCause}
use Rattle.ns_load.specs.declared.fault.SpellingCause.TheVariants.{BadByte, UnclosedComment, UnclosedString, BigNumber, TooDeep, Syntax}
use Rattle.ns_run_outcome.specs.declared.report.Report.{Report}
use Rattle.ns_static_rules.specs.declared.fault.Many.{Many}
use Rattle.ns_static_rules.specs.declared.fault.Many.TheVariants.{Parameters, Locals, Elements, Members, Classes}
use Rattle.ns_static_rules.specs.declared.fault.StaticCause.{StaticCause}
use Rattle.ns_static_rules.specs.declared.fault.StaticCause.TheVariants.{DuplicateMember, DuplicateLocal, FixedLocal, BadReturn, BareReceiver}
use Rattle.ns_static_rules.specs.declared.fault.StaticCause.TheVariants.{NoSuchOuter, BadCascade, PlainTooLarge, TooMany, TopSuper, DuplicateTop}
use Rattle.ns_verify.specs.declared.fault.VerifyCause.{VerifyCause}
use Rattle.ns_verify.specs.declared.fault.Where.{Where}
use Rattle.ns_verify.specs.declared.fault.Where.TheVariants.{Class, Body}
use Rattle.ns_verify.specs.declared.fault.VerifyCause.TheVariants.{BadJump, BadHeight, BadSlot, BadScope, BadLiteral, NoReturn}

-- what is wrong with a text
abbrev pub spelling_name : SpellingCause → List ℕ
spelling_name BadByte = codes "BadByte"
spelling_name UnclosedComment = codes "UnclosedComment"
spelling_name UnclosedString = codes "UnclosedString"
spelling_name BigNumber = codes "BigNumber"
spelling_name TooDeep = codes "TooDeep"
spelling_name Syntax = codes "Syntax"

abbrev pub many_name : Many → List ℕ
many_name Parameters = codes "TooMany(Parameters)"
many_name Locals = codes "TooMany(Locals)"
many_name Elements = codes "TooMany(Elements)"
many_name Members = codes "TooMany(Members)"
many_name Classes = codes "TooMany(Classes)"

abbrev pub static_name : StaticCause → List ℕ
static_name DuplicateMember = codes "DuplicateMember"
static_name DuplicateLocal = codes "DuplicateLocal"
static_name FixedLocal = codes "FixedLocal"
static_name BadReturn = codes "BadReturn"
static_name BareReceiver = codes "BareReceiver"
static_name NoSuchOuter = codes "NoSuchOuter"
static_name BadCascade = codes "BadCascade"
static_name PlainTooLarge = codes "PlainTooLarge"
static_name (TooMany kind) = many_name kind
static_name TopSuper = codes "TopSuper"
static_name DuplicateTop = codes "DuplicateTop"

abbrev pub size_name : SizeKind → List ℕ
size_name size.Names = codes "TooLarge(Names)"
size_name size.Bodies = codes "TooLarge(Bodies)"
size_name size.Code = codes "TooLarge(Code)"
size_name size.Height = codes "TooLarge(Height)"

-- why code isn't admitted
abbrev pub verify_name : VerifyCause → List ℕ
verify_name BadJump = codes "BadJump"
verify_name BadHeight = codes "BadHeight"
verify_name BadSlot = codes "BadSlot"
verify_name BadScope = codes "BadScope"
verify_name BadLiteral = codes "BadLiteral"
verify_name NoReturn = codes "NoReturn"

-- A refusal writes its line alone, and is told in parts where it is more than of a word.
abbrev pub refused : Option Saying → List ℕ → Report
refused parts line = record { out = []; err = line; status = status.Refused; stored = None; said = parts }

-- the refusal of a command line: its first bad word
abbrev pub bad_word : ℕ → Report
bad_word word = refused None (codes "nspk: bad word " ++ decimal word ++ 10 ∷ [])

-- a cause, and what is refused for it
abbrev pub refusal : List ℕ → saying.Refused → Option Saying
refusal cause thing = Some (said.Refused (record { cause = cause; refused = thing }))

-- the line of a refusal: what is refused, by a name, and why
abbrev pub refusal_line : List ℕ → List ℕ → List ℕ
refusal_line name why = name ++ codes ": " ++ why ++ 10 ∷ []

-- the refusal of a file: its name and the cause
abbrev pub refused_file : List ℕ → List ℕ → Report
refused_file file cause = refused (refusal cause (what.File file)) (refusal_line file cause)

-- the refusal of a program or of its image, of which a size passes its limit
abbrev pub refused_size : List ℕ → Report
refused_size cause = refused (refusal cause what.Program) (refusal_line (codes "nspk") cause)

-- the refusal of a program of which this size passes its limit
abbrev pub too_large : SizeKind → Report
too_large kind = refused_size (size_name kind)

-- a place in a text, as what is refused
abbrev pub source_at : List ℕ → Place → saying.Refused
source_at file place = what.Source (record { file = file; line = place.line; col = place.col })

-- the line of the refusal of a text
abbrev pub text_line : List ℕ → Place → List ℕ → List ℕ
text_line file place cause =
    file ++ codes ":" ++ decimal place.line ++ codes ":" ++ decimal place.col ++ codes ": " ++ cause ++ 10 ∷ []

-- the refusal of a text: where it is wrong, and the cause
abbrev pub refused_text : List ℕ → Place → List ℕ → Report
refused_text file place cause = refused (refusal cause (source_at file place)) (text_line file place cause)

-- the refusal of an image: a field of it is bad, which begins with the byte of that number
abbrev pub bad_field : List ℕ → ℕ → Report
bad_field file at =
    refused (refusal (codes "BadField") (what.Byte file at)) (refusal_line file (codes "BadField " ++ decimal at))

-- where code isn't admitted: at a class, or at an instruction of a body
abbrev pub place_text : Where → List ℕ
place_text (Class k) = codes " class " ++ decimal k
place_text (Body k i) = codes " body " ++ decimal k ++ codes " at " ++ decimal i

-- that place in the image of that name
abbrev pub place_in : List ℕ → Where → saying.Refused
place_in file (Class k) = what.Class file k
place_in file (Body k i) = what.Body file k i

-- the refusal of the code of an image
abbrev pub unsound : List ℕ → VerifyCause → Where → Report
unsound file cause at =
    refused (refusal (verify_name cause) (place_in file at)) (refusal_line file (verify_name cause ++ place_text at))

-- A command that only tells a text writes it, and is done.
abbrev pub told : List ℕ → Report
told text = record { out = text; err = []; status = status.Done; stored = None; said = None }

-- A check of files that are a program says so.
abbrev pub checked : Report
checked = record (told (codes "ok" ++ 10 ∷ [])) { said = Some said.Checked }

-- what stands where a definition has a case that never comes: no text and no image is refused for such a cause
abbrev pub never_told : Report
never_told = told []

-- A command that only stores a file writes nothing, and is done.
abbrev pub stores : List ℕ → List ℕ → Report
stores name bytes =
    record {
      out = [];
      err = [];
      status = status.Done;
      stored = Some (record { name = name; bytes = bytes });
      said = Some (said.Stored name (length bytes));
    }
