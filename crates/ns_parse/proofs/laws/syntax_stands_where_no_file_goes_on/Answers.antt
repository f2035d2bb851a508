use Rattle.ns_parse.proofs.StopsAt.{stops_at}
use Rattle.ns_parse.proofs.laws.syntax_stands_where_no_file_goes_on.Goals as goal

pub returns : goal.returns
returns c = stops_at
