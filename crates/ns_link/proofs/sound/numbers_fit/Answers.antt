use Rattle.ns_scope.specs.declared.program.Program.{Program}
use Rattle.ns_resolved.specs.Classes.{meant}
use Rattle.ns_link.specs.Accepted.{IsAccepted}
use Rattle.ns_link.proofs.SoundWhole.{Known, few_texts, records_fit, bodies_fit}
use Rattle.ns_link.proofs.sound.numbers_fit.Goals as goal

pub returns : goal.returns
returns c =
    let known : (program : Program) → IsAccepted program → Known (meant program) =
    λ program accepted. record {
      right = c.whole_programs_are_right.ensures program accepted.whole accepted.faultless;
      size = accepted.small;
      few_classes = c.classes_and_members_are_few.ensures.classes program accepted.whole accepted.faultless;
      few_members = c.classes_and_members_are_few.ensures.members program accepted.whole accepted.faultless;
      coded = c.bodies_have_their_code.ensures.body (meant program);
      order = c.names_and_texts_stand_in_order.ensures.texts;
      ends = c.bodies_end.ensures;
      lines = c.lines_use_what_is_there.ensures (meant program);
    } in
    record {
      text_count = λ program accepted. few_texts (meant program) (known program accepted);
      classes = λ program accepted. records_fit (meant program) (known program accepted);
      bodies = λ program accepted. bodies_fit (meant program) (known program accepted);
    }
