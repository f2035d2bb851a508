use Rattle.std.proofs.Common.{◌<◌, ℕ, length, arith}
use Rattle.std.specs.Prelude.{map}
use Rattle.std.proofs.lemmas.List.{length-map}
use Rattle.ns_base.specs.declared.place.Place.{Place}
use Rattle.ns_tree.specs.PlainOf.{unit_of}
use Rattle.ns_scope.specs.declared.program.Program.{Program}
use Rattle.ns_scope.specs.Whole.{IsPlaceOf}
use Rattle.ns_resolved.specs.Classes.{meant}
use Rattle.ns_link.specs.Accepted.{IsAccepted}
use Rattle.ns_link.specs.Spoken.{IsInFiles}
use Rattle.ns_link.proofs.Program.{units_say, units_records}
use Rattle.ns_link.proofs.Said.{Says, names_are_names, texts_are_short, bodies_fit}
use Rattle.ns_link.proofs.sound.names_and_places_are_there.Goals as goal

place_in : (files number : ℕ) (place : Place) → number < files → IsPlaceOf number place → IsInFiles files place
place_in files number place below h =
    let same = h.0 in
    let line = h.1.1 in
    let col = h.2.1 in
    record { file = omega (below, same, arith); line = (h.1.0, omega (line, arith)); col = (h.2.0, omega (col, arith)) }

pub returns : goal.returns
returns c =
    let says : (program : Program) → IsAccepted program → Says (meant program) =
    λ program accepted.
    let units = map unit_of program.units in
    let total = length program.files in
    let one_each = accepted.whole.one_name_each in
    let as_many = length-map program.units unit_of in
    record {
      known = record {
        right = c.whole_programs_are_right.ensures program accepted.whole accepted.faultless;
        size = accepted.small;
        few_classes = c.classes_and_members_are_few.ensures.classes program accepted.whole accepted.faultless;
        few_members = c.classes_and_members_are_few.ensures.members program accepted.whole accepted.faultless;
        coded = c.bodies_have_their_code.ensures.body (meant program);
        order = c.names_and_texts_stand_in_order.ensures.texts;
        ends = c.bodies_end.ensures;
        lines = c.lines_use_what_is_there.ensures (meant program);
      };
      ordered = c.names_and_texts_stand_in_order.ensures.body_names;
      bodies = units_say (IsInFiles total) total (λ number place below h. place_in total number place below h) units program.marks 0 0 0 (omega (one_each, as_many, arith))
          accepted.whole.units;
      classes = units_records (IsInFiles total) total (λ number place below h. place_in total number place below h) units program.marks 0 0 0 (omega (one_each, as_many, arith))
          accepted.whole.units;
    } in
    record {
      names = λ program accepted. names_are_names (meant program) (says program accepted);
      texts = λ program accepted. texts_are_short (meant program) (says program accepted);
      bodies = λ program accepted. bodies_fit (meant program) (says program accepted);
    }
