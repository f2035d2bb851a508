use Rattle.std.proofs.lemmas.Str.{IsUtf8-from_is_utf8}
use Rattle.ns_host.proofs.asked.push_word.Goals as goal

-- A word of a call is a text.
pub unreachable-requires : goal.unreachable-requires
unreachable-requires c = c.in-Err.ensures.cases.0 (IsUtf8-from_is_utf8 c.args.word.now c.requires)
