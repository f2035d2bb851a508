use Rattle.std.proofs.Common.{◌+◌, [], map, string_bytes, sym, arith}
use Rattle.std.proofs.lemmas.Bool.Decides.{nat_tests}
use Rattle.std.proofs.lemmas.List.{length-map}
use Rattle.ns_run_words.proofs.PartLaws.{arguments_past, arguments_read}
use Rattle.ns_run_words.proofs.words.arguments.Goals as goal

pub returns-then-most-words : goal.returns-then-most-words
returns-then-most-words c =
    let size = length-map c.args.words.now string_bytes in
    sym (arguments_past c.args.verb c.args.given (map string_bytes c.args.options.now) (map string_bytes c.args.names.now) [] (map string_bytes c.args.words.now) c.args.number c.args.most c.requires.most (omega arith) (grind (arith, nat_tests, size, c.if-most-words.true)) (c.args.number + c.args.most) (omega arith))

pub returns : goal.returns
returns c =
    let size = length-map c.args.words.now string_bytes in
    let names = length-map c.args.names.now string_bytes in
    sym (arguments_read c.args.verb c.args.given (map string_bytes c.args.options.now) (map string_bytes c.args.names.now) [] (map string_bytes c.args.words.now) c.args.number c.args.most c.requires.most (grind (arith, nat_tests, names, c.requires.enough)) (grind (arith, nat_tests, size, c.if-most-words.false)))
