use Rattle.std.proofs.Common.{◌≡◌, ◌++◌, [], drop}
use Rattle.std.specs.Prelude.{flat_map}
use Rattle.ns_sends.specs.Answered.{class_texts, program_texts}
use Rattle.ns_sends.specs.Texts.{put_texts}
use Rattle.ns_sends.proofs.answered.program_texts.Given as goal

abbrev pub invariant-classes : goal.invariant-classes
invariant-classes l = put_texts l.texts (flat_map (class_texts l.code) (drop l.class-index l.code.classes)) ≡ put_texts [] (program_texts l.code)
