-- A line of the code as one without where its words lie.
use Rattle.std.specs.Prelude.{Result, Ok, Err, map, string_bytes}
use Rattle.ns_run_words.specs.Application.{Asked, names_in}
use Rattle.ns_run_words.specs.Words.{CommandLine, LineReading, says, bad}
use Rattle.ns_run_words.specs.declared.application.Asked as asked
use Rattle.ns_run_words.specs.declared.words.Line as lines
use Rattle.ns_run_words.specs.declared.words.BadWord.{BadWord}

-- the line of the code
abbrev pub line_seen : lines.Line → CommandLine
line_seen line =
    record {
      verb = line.verb;
      given = line.given;
      options = map string_bytes line.options.now;
      names = map string_bytes line.names.now;
      arguments = map string_bytes line.arguments.now;
    }

-- what the code's answer stands for
abbrev pub seen : Result lines.Line BadWord → LineReading
seen (Ok line) = says (line_seen line)
seen (Err word) = bad word.0

-- the application that the code's stands for
abbrev pub asked_seen : asked.Asked → Asked
asked_seen each =
    record { console = each.console; kernel = each.kernel; mirrors = each.mirrors; board = each.board; names = names_in each.names.now }
