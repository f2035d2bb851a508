use Rattle.ns_load_laws.proofs.Sources.{IsCutOneWay, read_is}
use Rattle.ns_load_laws.proofs.laws.sources_are_read_by_the_grammar.Goals as goal

pub returns : goal.returns
returns c = λ file source reading.
    let way : IsCutOneWay source =
    record {
      some = c.sources_are_cut_one_way.ensures.some source;
      scan_is = c.sources_are_cut_one_way.ensures.scanned source;
      stop_is = c.sources_are_cut_one_way.ensures.stopped source;
      told = c.tokens_have_texts.ensures.all source;
    } in
    read_is file source reading way c.parse_answers_what_the_grammar_says.ensures
