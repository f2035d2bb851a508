use Rattle.std.proofs.Common.{List}
use Rattle.ns_actors.specs.declared.letter.Letter.{Letter}
use Rattle.ns_actors_calls.specs.Posting.{AreReady}
use Rattle.ns_actors_calls.proofs.Ready.{HaveReceived}
use Rattle.ns_actors_calls.proofs.posting.receive.Given as goal

abbrev pub invariant-boxes : goal.invariant-boxes
invariant-boxes l = (letters : List Letter) → AreReady 0 letters l.initial.actors → HaveReceived letters l.initial.actors l.actors l.number
