use Rattle.std.proofs.Common.{◌≡◌, drop}
use Rattle.std.specs.List.{list_all}
use Rattle.std.specs.Str.{is_utf8}
use Rattle.ns_host.specs.Host.{pieces}
use Rattle.ns_host.proofs.asked.are_texts.Given as goal

-- All pieces are texts where those that are left are.
abbrev pub invariant-loop-length : goal.invariant-loop-length
invariant-loop-length l =
    list_all is_utf8 (pieces (drop l.length-index l.lengths) l.rest) ≡ list_all is_utf8 (pieces l.lengths l.bytes)
