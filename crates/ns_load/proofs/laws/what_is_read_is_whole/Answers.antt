use Rattle.ns_load.proofs.WholeLaws.{are_whole}
use Rattle.ns_load.proofs.laws.what_is_read_is_whole.Goals as goal

pub returns : goal.returns
returns c = are_whole (record { scanned = c.sources_are_cut_one_way.ensures.scanned; told = c.tokens_have_texts.ensures.all })
