-- A small program with a proxy, a module and a mixin, and a world of it, on which the actions are tried.
use Rattle.std.specs.Prelude.{ℕ, List, [], ◌∷◌, true, Some, None, codes}
use Rattle.ns_code.specs.declared.program.CodeProgram.{CodeProgram}
use Rattle.ns_code.specs.declared.class.ClassCode.{ClassCode}
use Rattle.ns_code.specs.declared.body.BodyCode.{BodyCode}
use Rattle.ns_code.specs.Sample.{sel, method_of, class_of, body_of}
use Rattle.ns_world.specs.declared.value.Value.TheVariants.{Nil, Kernel, Ref}
use Rattle.ns_world.specs.declared.value.KClass.TheVariants.{Object}
use Rattle.ns_world.specs.declared.kernel.ClassName.TheVariants.{Declared}
use Rattle.ns_world.specs.Cell.{ObjectCell, ClassCell, BlockCell, ArrayCell}
use Rattle.ns_world.specs.Heap.{Heap}
use Rattle.ns_world.specs.World.{World}
use Rattle.ns_moves.specs.Control.{Progress, Activation}
use Rattle.ns_moves.specs.declared.site.Site.{Site}
use Rattle.ns_moves.specs.Start.{new_board}

-- the names by their numbers: 0 P, 1 new, 2 doesNotUnderstand:, 3 go:, 4 M, 5 v, 6 v:, 7 Inner, 8 base, 9 at:put:,
-- 10 <:, 11 value, 12 to:do:, 13 secret, 14 hid
abbrev pub small_names : List (List ℕ)
small_names =
    codes "P" ∷ codes "new" ∷ codes "doesNotUnderstand:" ∷ codes "go:" ∷ codes "M" ∷ codes "v" ∷ codes "v:" ∷ codes "Inner" ∷ codes "base" ∷ codes "at:put:"
    ∷ codes "<:" ∷ codes "value" ∷ codes "to:do:" ∷ codes "secret" ∷ codes "hid" ∷ []

-- P understands nothing but `doesNotUnderstand:`.
abbrev pub class_p : ClassCode
class_p = class_of 0 None 0 [] [] (method_of 2 1 1 ∷ []) []

-- M has the mutable slot `v`, the nested class Inner with a clause, the private `secret` and the protected `hid`.
abbrev pub class_m : ClassCode
class_m =
    class_of 4 None 2 (record { name = sel 5; access = 0; mutable = true } ∷ []) (record { class = 2; access = 0 } ∷ [])
    (method_of 13 2 3 ∷ method_of 14 1 4 ∷ []) []

abbrev pub class_inner : ClassCode
class_inner = record (class_of 7 (Some 1) 6 [] [] [] []) { clause = Some 5 }

-- a body of a kind and a class, with so many parameters and as many locals
abbrev pub small_body : ℕ → ℕ → ℕ → BodyCode
small_body kind class params = body_of kind 0 class params

-- initialisers are of kind 2, clauses of kind 3 and blocks of kind 1; the last method's locals stand in an environment
abbrev pub small_bodies : List BodyCode
small_bodies =
    small_body 2 0 0 ∷ small_body 0 0 1
    ∷ small_body 2 1 0 ∷ small_body 0 1 0 ∷ record (small_body 0 1 0) { environment = true; locals = 1 }
    ∷ small_body 3 1 0 ∷ small_body 2 2 0
    ∷ record (small_body 1 1 1) { parent = Some 4 } ∷ []

abbrev pub small_code : CodeProgram
small_code = record { files = []; names = small_names; texts = []; classes = class_p ∷ class_m ∷ class_inner ∷ []; bodies = small_bodies }

-- the classes P and M, M over itself, a P, an M, an M over M, an array of one element, and a block
abbrev pub small_cells : Heap
small_cells =
    BlockCell 7 Nil 3 (Ref 13) 4
    ∷ ArrayCell (Nil ∷ [])
    ∷ ObjectCell 8 (Nil ∷ Nil ∷ Nil ∷ Nil ∷ [])
    ∷ ObjectCell 4 (Nil ∷ Nil ∷ [])
    ∷ ObjectCell 0 []
    ∷ ClassCell 1 2 Nil Nil (Ref 4) ∷ ClassCell 1 0 Nil Nil (Kernel Object) ∷ ClassCell 0 0 Nil Nil (Kernel Object)
    ∷ []

-- a world of these cells in which nothing was charged but them
abbrev pub small_world : Heap → World
small_world cells =
    record { cells = cells; limits = record { steps = 10; cells = 2000; depth = 10; out = 10 }; steps = 0; depth = 0; output = [] }

-- five method activations have begun
abbrev pub small_progress : Heap → Progress
small_progress cells = record { world = small_world cells; board = new_board; begun = 5 }

abbrev pub small_site : Site
small_site = record { place = None; class = Declared 1; sel = sel 14 }

-- code of M runs in the object of M
abbrev pub in_m : Activation
in_m = record { self = Ref 13; holder = 4; body = 3; home = 3; env = Nil; site = small_site }
