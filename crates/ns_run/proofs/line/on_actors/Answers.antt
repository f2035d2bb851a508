use Rattle.std.proofs.Common.{◌≡◌, ◌-◌, List, Some, Option, Global, String, map, string_bytes, ℕ, arith, subst, ap, ◌∙◌, drop, length, take}
use Rattle.std.proofs.lemmas.List.{length-map}
use Rattle.ns_run.proofs.LineLaws.{begins_with_three, three_names}
use Rattle.ns_run.proofs.line.on_actors.Goals as goal
use Rattle.ns_run.specs.Meaning as spec
use Rattle.ns_run_outcome.specs.Stated.{Reports}
use Rattle.ns_run_words.specs.Letter.{PostedLetter, letter_in, letter_seen}

pub unreachable-requires : goal.unreachable-requires
unreachable-requires g c =
    omega (arith, three_names (map string_bytes c.args.names.now) c.requires.letter, length-map c.args.names.now string_bytes, c.in_default.len_below)

pub returns : goal.returns
returns g c =
    let count = c.count-item.result in
    let sel = c.sel-item.result in
    let argument = c.argument-item.result in
    let files : List (List ℕ) = map string_bytes (take (length c.args.names.now - 3) (drop 3 c.args.names.now)) in
    let three = begins_with_three c.args.names.now count sel argument c.in-len3-up.len_at_least c.count-item.is c.sel-item.is c.argument-item.is in
    let letter : Some (letter_seen c.in-Some.letter) ≡ letter_in (string_bytes count) (string_bytes sel) (string_bytes argument) =
    c.in-Some.ensures.is
    ∙ (ap (λ (bytes : List ℕ). letter_in bytes c.as_bytes-in-len3-up.result.now c.as_bytes-in-len3-up-2.result.now) c.as_bytes.ensures.value
    ∙ (ap (λ (bytes : List ℕ). letter_in (string_bytes count) bytes c.as_bytes-in-len3-up-2.result.now) c.as_bytes-in-len3-up.ensures.value
    ∙ ap (λ (bytes : List ℕ). letter_in (string_bytes count) (string_bytes sel) bytes) c.as_bytes-in-len3-up-2.ensures.value)) in
    subst (λ (names : List (String Global)). Reports g.S.Shelf.holds g.S.Shelf.misses g.S.Shelf.faults g.S.Shelf.store_faults c.args.shelf.now c.on_letter.new.shelf
    (spec.behind_letter (map string_bytes names)) (spec.of_acting c.args.given (map string_bytes names)) c.on_letter.result) three
    (subst (λ (one : Option PostedLetter). Reports g.S.Shelf.holds g.S.Shelf.misses g.S.Shelf.faults g.S.Shelf.store_faults c.args.shelf.now c.on_letter.new.shelf
    files (spec.of_letter c.args.given one files) c.on_letter.result) letter c.on_letter.ensures)
