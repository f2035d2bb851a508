-- The arguments of what a send or an evaluation comes to by itself: no block is evaluated, and no elements of an array go on.
use Rattle.ns_moves.specs.declared.control.Given.{Given}
use Rattle.ns_moves.specs.declared.control.Given.TheVariants as given
use Rattle.ns_moves.specs.declared.control.Reached.{Reached}
use Rattle.ns_moves.specs.declared.control.Reached.TheVariants as reached

-- They are those of the send, or a Message.
abbrev pub IsOwnGiven : Given → Type 0
IsOwnGiven given.Listed = Unit {0}
IsOwnGiven (given.Message at) = Unit {0}
IsOwnGiven (given.Items at) = ⊥

-- A body that is entered has these, and no block is evaluated.
abbrev pub IsPlain : Reached → Type 0
IsPlain (reached.Gives value) = Unit {0}
IsPlain (reached.Fails fault) = Unit {0}
IsPlain (reached.Refused sel) = Unit {0}
IsPlain (reached.Enters exit entered) = IsOwnGiven entered.given
IsPlain (reached.Evaluates block given) = ⊥
IsPlain (reached.Begins method state) = Unit {0}
IsPlain (reached.Performs receiver sel array) = Unit {0}
