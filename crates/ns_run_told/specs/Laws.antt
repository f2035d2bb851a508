-- The report line of an ending, made of what is told of it in parts.
use Rattle.std.specs.Prelude.{◌≡◌, ℕ, List, [], ◌∷◌, ◌++◌, codes, Option, Some, None}
use Rattle.std.specs.Fmt.{decimal}
use Rattle.ns_code.specs.declared.program.CodeProgram.{CodeProgram}
use Rattle.ns_world.specs.declared.ending.Ending.{Ending}
use Rattle.ns_world.specs.Heap.{Heap}
use Rattle.ns_moves.specs.Report.{report_line}
use Rattle.ns_json.specs.declared.saying.End.{End}
use Rattle.ns_json.specs.declared.saying.End.TheVariants.{Done, Error, Limit}
use Rattle.ns_json.specs.declared.saying.FilePlace.{FilePlace}
use Rattle.ns_run_told.specs.Told.{told_end}

-- a place, or that there is none
abbrev pub place_line : Option FilePlace → List ℕ
place_line (Some place) = place.file ++ codes ":" ++ decimal place.line ++ codes ":" ++ decimal place.col
place_line None = codes "image"

abbrev pub line_of : End → List ℕ
line_of (Done answer) = codes "=> " ++ answer ++ 10 ∷ []
line_of (Error kind site) =
    place_line site.place ++ codes ": " ++ kind ++ codes " " ++ site.class ++ codes " " ++ site.selector ++ 10 ∷ []
line_of (Limit limit) = codes "limit: " ++ limit ++ 10 ∷ []

-- The report line of each ending is that of its parts.
abbrev pub LinesTellEnds : Type 0
LinesTellEnds =
    (heap : Heap) (code : CodeProgram) (files : List (List ℕ)) (ending : Ending) → report_line heap code files ending ≡ line_of (told_end heap code files ending)
