use Rattle.std.proofs.Common.{◌≡◌, ◌++◌, drop}
use Rattle.ns_json.specs.Json.{characters}
use Rattle.ns_json.proofs.put.put_characters.Given as goal

abbrev pub invariant-bytes : goal.invariant-bytes
invariant-bytes l = l.out.items ++ characters (drop l.byte-index l.bytes) ≡ l.fn.out.items ++ characters l.bytes
