use Rattle.std.proofs.Common.{arith}
use Rattle.std.proofs.lemmas.Grind.{common_steps}
use Rattle.std.proofs.lemmas.List.Sums.{prefix_len_passes}
use Rattle.ns_lex.specs.Bytes as bytes
use Rattle.ns_lex.specs.declared.bytes.ByteClass.TheVariants.{Digit}
use Rattle.ns_lex.proofs.number.number.Goals as goal

pub value-requires : goal.value-requires
value-requires c = λ k d h. grind (arith, common_steps, prefix_len_passes (bytes.is_in Digit) c.args.text.now k d)
