-- What a row of the kernel comes to: no body is entered, and a block is evaluated with the arguments of the send, or with the
-- elements of an array that is there.
use Rattle.ns_world.specs.declared.value.Value.TheVariants.{Ref}
use Rattle.ns_world.specs.Heap.{Heap}
use Rattle.ns_kdata.specs.Arguments.{CellIsThere}
use Rattle.ns_moves.specs.declared.control.Given.{Given}
use Rattle.ns_moves.specs.declared.control.Given.TheVariants as given
use Rattle.ns_moves.specs.declared.control.Reached.{Reached}
use Rattle.ns_moves.specs.declared.control.Reached.TheVariants as reached

abbrev pub IsGivenThere : Heap → Given → Type 0
IsGivenThere heap given.Listed = Unit {0}
IsGivenThere heap (given.Message at) = ⊥
IsGivenThere heap (given.Items at) = CellIsThere heap (Ref at)

abbrev pub IsOfRow : Heap → Reached → Type 0
IsOfRow heap (reached.Gives value) = Unit {0}
IsOfRow heap (reached.Fails fault) = Unit {0}
IsOfRow heap (reached.Refused sel) = Unit {0}
IsOfRow heap (reached.Enters exit entered) = ⊥
IsOfRow heap (reached.Evaluates block given) = IsGivenThere heap given
IsOfRow heap (reached.Begins method state) = Unit {0}
IsOfRow heap (reached.Performs receiver sel array) = Unit {0}
