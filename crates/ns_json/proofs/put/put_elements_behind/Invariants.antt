use Rattle.std.proofs.Common.{◌≡◌, ◌++◌, drop}
use Rattle.ns_json.specs.Json.{elements_behind}
use Rattle.ns_json.specs.Objects.{each}
use Rattle.ns_json.proofs.put.put_elements_behind.Given as goal

abbrev pub invariant-things : goal.invariant-things
invariant-things g l =
    let members_of = g.T.Object.members in
    l.out.items ++ elements_behind (each members_of (drop l.thing-index l.things))
    ≡ l.fn.out.items ++ elements_behind (each members_of l.things)
