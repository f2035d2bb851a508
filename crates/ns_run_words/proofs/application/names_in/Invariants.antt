use Rattle.std.proofs.Common.{◌≡◌, ◌++◌, length, map, string_bytes}
use denote.Text.{Utf8}
use denote.Shadow.{shadow}
use Rattle.ns_run_words.specs.Application.{names_in}
use Rattle.ns_run_words.proofs.application.names_in.Given as goal

-- The names so far and those that are left are all.
abbrev pub invariant-loop-name : goal.invariant-loop-name
invariant-loop-name l = record {
  text : shadow (Utf8 l.left);
  all : map string_bytes l.names.items ++ names_in l.left ≡ names_in l.text;
}

abbrev pub decreases-loop-name : goal.decreases-loop-name
decreases-loop-name l = length l.left
