-- The place of an enclosing object.
use Rattle.ns_moves.specs.Bodies.{Place}
use Rattle.ns_moves.specs.declared.enclosing.Surrounding.{Surrounding}

-- an object, and the class by which it is meant
abbrev pub place_of : Surrounding → Place
place_of enclosing = record { object = enclosing.object; holder = enclosing.holder }
