use Rattle.ns_load.proofs.WholeLaws.{loaded_is_whole}
use Rattle.ns_load.proofs.laws.what_is_loaded_is_whole.Goals as goal

pub returns : goal.returns
returns c = loaded_is_whole (record { scanned = c.sources_are_cut_one_way.ensures.scanned; told = c.tokens_have_texts.ensures.all })
