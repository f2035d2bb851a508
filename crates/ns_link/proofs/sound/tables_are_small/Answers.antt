use Rattle.std.proofs.Common.{◌≢◌, ◌≤◌, ℕ, List, [], ◌∷◌, length, refl, arith}
use Rattle.std.proofs.lemmas.List.{length-map}
use Rattle.std.proofs.lemmas.List.Elements.{All-weaker}
use Rattle.std.proofs.lemmas.Map.Made.{AllPairs-from_IsDistinct}
use Rattle.std.proofs.lemmas.Slice.Eq.{bytes_eq-Decides}
use Rattle.ns_scope.specs.Whole as whole
use Rattle.ns_code.specs.Fits.{IsFileName}
use Rattle.ns_resolved.specs.Classes.{meant}
use Rattle.ns_resolved.specs.Tables.{names_of, class_code}
use Rattle.ns_gen_code.specs.Code.{code_of}
use Rattle.ns_link.proofs.Small.{sizes_within}
use Rattle.ns_link.proofs.sound.tables_are_small.Goals as goal

not_empty : (name : List ℕ) → name ≢ [] → 1 ≤ length name
not_empty [] h = absurd (h refl)
not_empty (byte ∷ bytes) h = omega arith

file_named : (name : List ℕ) → whole.NamesFile name → IsFileName name
file_named name h = let few = h.2 in record { short = omega (few, arith); some = not_empty name h.1; utf8 = h.0 }

pub returns-clause-file_count : goal.returns-clause-file_count
returns-clause-file_count c program accepted =
    let same = accepted.whole.one_name_each in
    let few = accepted.whole.not_many in
    omega (same, few, arith)

pub returns-clause-files : goal.returns-clause-files
returns-clause-files c program accepted = All-weaker whole.NamesFile IsFileName file_named program.files accepted.whole.names

pub returns-clause-name_count : goal.returns-clause-name_count
returns-clause-name_count c program accepted = (sizes_within (code_of (meant program)) accepted.small).names

pub returns-clause-names_differ : goal.returns-clause-names_differ
returns-clause-names_differ c program accepted =
    AllPairs-from_IsDistinct bytes_eq-Decides (names_of (meant program)) (c.used_names_have_numbers.ensures.once (meant program))

pub returns-clause-class_count : goal.returns-clause-class_count
returns-clause-class_count c program accepted =
    let few = c.classes_and_members_are_few.ensures.classes program accepted.whole accepted.faultless in
    omega (few, length-map (meant program).classes (class_code (names_of (meant program))), arith)

pub returns-clause-body_count : goal.returns-clause-body_count
returns-clause-body_count c program accepted = (sizes_within (code_of (meant program)) accepted.small).bodies
