use Rattle.std.proofs.Common.{IsUtf8, string_bytes, subst, sym, ◌∙◌}
use Rattle.std.proofs.lemmas.List.Elements.{All-push, All-same}
use Rattle.ns_load.proofs.Lists.{next_mapped}
use Rattle.ns_load.proofs.names.names_of.Goals as goal

pub loop-word-preserved : goal.loop-word-preserved
loop-word-preserved c = record {
  told = next_mapped string_bytes c.args.words.now c.loop-word.word-index c.word-item.result c.in_ok-of.field-0 c.loop-word.names.items c.push.new.self.items _ c.loop-word-test.true c.word-item.is c.loop-word.invariant.told (c.in_ok-of.ensures ∙ c.as_bytes-name.ensures.value ∙ c.as_str.ensures.value) c.in_ok-push.ensures.items;
  text = All-same IsUtf8 c.push.new.self.items _ c.in_ok-push.ensures.items (All-push IsUtf8 c.loop-word.names.items c.in_ok-of.field-0 c.loop-word.invariant.text (subst IsUtf8 (sym c.in_ok-of.ensures) c.as_bytes-name.ensures.utf8));
}
