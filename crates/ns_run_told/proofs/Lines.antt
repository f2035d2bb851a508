-- Report lines, and the texts in them.
use Rattle.std.proofs.Common.{◌≡◌, ℕ, List, [], ◌∷◌, ◌++◌, codes, Option, Some, None, refl, ap, arith}
use Rattle.std.proofs.lemmas.Grind.{common_steps}
use Rattle.ns_base.specs.declared.place.Place.{Place}
use Rattle.ns_world.specs.declared.ending.Ending.TheVariants as ending
use Rattle.ns_code.specs.Selector.{selector_text}
use Rattle.ns_mirror.specs.Naming.{class_text}
use Rattle.ns_moves.specs.Report.{kind_text, place_text}
use Rattle.ns_run_told.specs.Laws.{LinesTellEnds, place_line}
use Rattle.ns_run_told.specs.Told.{text_in, told_place}

-- the text between the first three bytes of a line and its line feed
pub text_of_line : (text : List ℕ) → text_in (codes "=> " ++ text ++ 10 ∷ []) ≡ text
text_of_line text = grind (arith, common_steps)

place_same : (files : List (List ℕ)) (place : Option Place) → place_text files place ≡ place_line (told_place files place)
place_same files (Some place) = refl
place_same files None = refl

pub lines_tell_ends : LinesTellEnds
lines_tell_ends heap code files (ending.Done value) = refl
lines_tell_ends heap code files (ending.Error error) =
    ap (λ place. place ++ codes ": " ++ kind_text error.kind ++ codes " " ++ class_text code error.class ++ codes " "
    ++ selector_text code error.sel.0 ++ 10 ∷ []) (place_same files error.place)
lines_tell_ends heap code files (ending.Limit limit) = refl
