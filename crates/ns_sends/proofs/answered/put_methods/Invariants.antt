use Rattle.std.proofs.Common.{◌≡◌, ◌++◌, [], drop}
use Rattle.std.specs.Prelude.{map}
use Rattle.ns_sends.specs.Answered.{method_text}
use Rattle.ns_sends.specs.Texts.{put_texts}
use Rattle.ns_sends.proofs.answered.put_methods.Given as goal

abbrev pub invariant-methods : goal.invariant-methods
invariant-methods l = put_texts l.texts (map (method_text l.code) (drop l.method-index l.methods)) ≡ put_texts l.fn.texts (map (method_text l.code) l.methods)
