-- What is told of one actor, if it is there, in the parts in which it is put.
use Rattle.std.specs.Prelude.{ℕ, List, [], ◌∷◌, ◌++◌, Option, Some, None, codes, option_map, option_and_then}
use Rattle.std.specs.Fmt.{decimal}
use Rattle.ns_actors.specs.declared.turn.Stop.{Stop}
use Rattle.ns_actors.specs.Actor.{ActorView, report_of, transcript_of}
use Rattle.ns_actors.specs.Rounds.{report_or}
use Rattle.ns_actors_calls.specs.Shown.{stop_of}

-- its number, and how many letters it has taken
abbrev pub taken_text : ℕ → Option ℕ → List ℕ
taken_text number (Some taken) = codes "actor " ++ decimal number ++ codes " taken " ++ decimal taken ++ 10 ∷ []
taken_text number None = []

-- what it has printed
abbrev pub printed_text : Option (List ℕ) → List ℕ
printed_text (Some bytes) = bytes
printed_text None = []

-- that it stopped, with its report line
abbrev pub report_text : Option (List ℕ) → List ℕ
report_text line = codes "stopped: " ++ report_or line

-- why it stopped, if it did
abbrev pub why_text : Option Stop → Option (List ℕ) → List ℕ
why_text (Some why) line = report_text line
why_text None line = []

-- all three
abbrev pub text_at : List (List ℕ) → ℕ → Option ActorView → List ℕ
text_at files number actor =
    taken_text number (option_map (λ (a : ActorView). a.taken) actor) ++ printed_text (option_map transcript_of actor)
    ++ why_text (option_and_then stop_of actor) (option_and_then (report_of files) actor)
