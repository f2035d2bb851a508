-- Tables and code are of one program: the code without instructions is the tables.
use Rattle.std.proofs.Common.{◌≡◌, ℕ, ◌+◌, List, [], ◌∷◌, length, refl, ap}
use Rattle.std.specs.Prelude.{map}
use Rattle.ns_resolved.specs.Program as m
use Rattle.ns_resolved.specs.Tables.{body_texts, body_head, tables}
use Rattle.ns_gen_code.specs.Code.{bodies_code}
use Rattle.ns_gen_code.specs.Stated.{OneProgram}
use Rattle.ns_code.specs.Heads.{head_of}

heads_stand : (names : List (List ℕ)) (k : ℕ) (bodies : List m.Body) → map head_of (bodies_code names k bodies) ≡ map body_head bodies
heads_stand names k [] = refl
heads_stand names k (body ∷ bodies) = ap (body_head body ∷◌) (heads_stand names (k + length (body_texts body)) bodies)

pub one_program : (meant : m.Meant) → OneProgram meant
one_program meant = ap (λ bodies. record (tables meant) { bodies = bodies }) (heads_stand (tables meant).names 0 meant.bodies)
