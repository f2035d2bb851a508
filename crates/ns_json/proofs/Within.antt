-- Where code is refused: its text has plain characters alone.
use Rattle.std.proofs.Common.{◌≡◌, ℕ, ◌++◌, codes, ap, ◌∙◌}
use Rattle.std.proofs.lemmas.Grind.{flat_map-append}
use Rattle.ns_json.specs.Json.{behind_comma, character, characters, number_text, texted}
use Rattle.ns_json.specs.Report.{body_text, class_text}
use Rattle.ns_json.proofs.Numbers.{number_characters}

pub class_member : (class : ℕ) →
    behind_comma (texted (codes "in") (class_text class)) ≡ codes ",\"in\":\"class " ++ number_text class ++ codes "\""
unfolding behind_comma
class_member class =
    ap (λ digits. codes ",\"in\":\"class " ++ digits ++ codes "\"") (number_characters class)

pub body_member : (body at : ℕ) →
    behind_comma (texted (codes "in") (body_text body at))
    ≡ codes ",\"in\":\"body " ++ (number_text body ++ (codes " at " ++ number_text at)) ++ codes "\""
unfolding behind_comma
body_member body at =
    ap (λ text. codes ",\"in\":\"body " ++ text ++ codes "\"")
    (flat_map-append character (number_text body) (codes " at " ++ number_text at)
    ∙ ap (λ front. front ++ characters (codes " at " ++ number_text at)) (number_characters body)
    ∙ ap (λ back. number_text body ++ (codes " at " ++ back)) (number_characters at))
