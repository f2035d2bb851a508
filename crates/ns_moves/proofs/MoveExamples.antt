-- A small program, move by move.
use Rattle.std.specs.Prelude.{◌≡◌, ℕ, ◌+◌, ◌*◌, List, [], ◌∷◌, Some, None, true, false, codes, pos}
use Rattle.std.proofs.Common.{refl}
use Rattle.ns_base.specs.declared.limits.Limits.{Limits}
use Rattle.ns_code.specs.declared.program.CodeProgram.{CodeProgram}
use Rattle.ns_code.specs.declared.body.BodyCode.{BodyCode}
use Rattle.ns_code.specs.declared.instruction.Instr.{Instr}
use Rattle.ns_code.specs.declared.instruction.Instr.TheVariants as instr
use Rattle.ns_world.specs.declared.value.Value.{Value}
use Rattle.ns_world.specs.declared.value.Value.TheVariants.{Nil, True, False, Int}
use Rattle.ns_world.specs.declared.ending.Ending.TheVariants.{Done, Limit}
use Rattle.ns_world.specs.declared.ending.LimitKind.TheVariants.{Steps, Cells}
use Rattle.ns_world.specs.declared.ending.Kind.TheVariants.{MustBeBoolean, DeadReturn, NotPublic, WrongKind}
use Rattle.ns_world.specs.declared.kernel.ClassName.TheVariants.{Kernel as KernelName}
use Rattle.ns_world.specs.declared.kernel_class.KernelRow.TheVariants as row
use Rattle.ns_code.specs.declared.own.Own.TheVariants.{DoesNotUnderstand}
use Rattle.ns_facets.specs.declared.row.Grants.{Grants}
use Rattle.ns_code.specs.Sample.{sel, method_of, class_of}
use Rattle.ns_moves.specs.declared.site.Site.{Site}
use Rattle.ns_moves.specs.Site.{error}
use Rattle.ns_moves.specs.Control.{FromMethod, FromBody}
use Rattle.ns_moves.specs.Worked.{small_progress, small_site, in_m}
use Rattle.ns_moves.specs.State.{Loud, Running, Hosted, State, Going, Stuck, ending_of, world_of}
use Rattle.ns_moves.specs.Move.{move, moves}
use Rattle.ns_moves.specs.Sends.{own_sel}
use Rattle.ns_moves.specs.Turn.{charges, charged_in, after_turn}
use Rattle.ns_moves.specs.Starts.{new_machine, started}
use Rattle.ns_moves.specs.Charging.{will_charge}
use Rattle.ns_moves.specs.Left.{left, weight}
use Rattle.ns_moves.specs.Steps.{steps_from}

-- ---- a program: class T packageUsing: m = () (public main: p args: a = (^[^7] value))

-- a body of a kind, with so many parameters and these instructions
abbrev body_of : ℕ → ℕ → List Instr → BodyCode
body_of kind params instrs =
    record {
      kind = kind;
      side = 0;
      class = 0;
      parent = None;
      params = params;
      locals = params;
      environment = false;
      height = 1;
      instrs = instrs;
      places = [];
      local_names = [];
    }

abbrev initialiser : BodyCode
initialiser = record (body_of 2 1 (instr.InitSuper 0 ∷ instr.ReturnSelf ∷ [])) { places = (0, record { file = 0; line = 1; col = 7 }) ∷ [] }

-- the names by their numbers: 0 T, 1 packageUsing:, 2 main:args:, 3 new, 4 value
abbrev names : List (List ℕ)
names = codes "T" ∷ codes "packageUsing:" ∷ codes "main:args:" ∷ codes "new" ∷ codes "value" ∷ []

-- the class with a method whose body has these instructions, and a block with others
abbrev program : List Instr → List Instr → CodeProgram
program method block =
    record {
      files = codes "T.ns" ∷ [];
      names = names;
      texts = [];
      classes = record (class_of 0 None 1 [] [] (method_of 2 0 1 ∷ []) []) { params = 1; init = 0; super_sel = sel 3 } ∷ [];
      bodies = initialiser ∷ record (body_of 0 2 method) { environment = true } ∷ record (body_of 1 0 block) { parent = Some 1 } ∷ [];
    }

abbrev early : CodeProgram
early =
    program (instr.PushBlock 2 ∷ instr.Send (sel 4) 0 ∷ instr.Pop ∷ instr.ReturnSelf ∷ []) (instr.PushInt (pos 7) ∷ instr.ReturnHome ∷ [])

abbrev nothing_granted : Grants
nothing_granted = record { console = false; kernel = false; mirrors = false; board = false }

abbrev limits : ℕ → ℕ → Limits
limits steps cells = record { steps = steps; cells = cells; depth = 10; out = 10 }

-- the program waits for the first opening send
abbrev opened : ℕ → State
opened steps = started early (new_machine early (limits steps 100) nothing_granted [])

-- the initialiser in three moves, the method in four, and the block in two, which returns from the method
early_answers : ending_of (moves early 9 (opened 10)) ≡ Some (Done (Int (pos 7)))
early_answers = refl

-- both opening sends, the send of `value` and the evaluation charge
early_charges : charged_in early 9 (opened 10) ≡ 4
early_charges = refl

early_is_deep : (world_of (moves early 7 (opened 10))).depth ≡ 2
early_is_deep = refl

early_gives_back : (world_of (moves early 9 (opened 10))).depth ≡ 0
early_gives_back = refl

-- a turn of two steps ends before the send of `value`, and one of two more ends the run
first_turn : ending_of (after_turn early 20 2 (opened 10)) ≡ None
first_turn = refl

both_turns : after_turn early 20 2 (after_turn early 20 2 (opened 10)) ≡ moves early 9 (opened 10)
both_turns = refl

-- a limit on steps ends it in the middle
three_steps : ending_of (moves early 9 (opened 3)) ≡ Some (Limit Steps)
three_steps = refl

-- a start that doesn't fit
no_room : ending_of (new_machine early (limits 10 1) nothing_granted []) ≡ Some (Limit Cells)
no_room = refl

-- ---- single moves

-- the method of the program has these instructions and goes on with the instruction of a number
abbrev at : List Instr → ℕ → List Value → State
at instrs number stack =
    Going Hosted
    (Running (Loud FromMethod) (record in_m { body = 1 }) [] (steps_from (program instrs []) 1 number) stack ∷ [])
    (small_progress [])

-- a jump to itself goes back, and charges
abbrev here : List Instr
here = instr.Jump 0 ∷ []

here_charges : charges (program here []) (at here 0 []) ≡ true
here_charges = refl

here_is_told : will_charge (program here []) (at here 0 []) ≡ true
here_is_told = refl

here_again : (world_of (moves (program here []) 3 (at here 0 []))).steps ≡ 3
here_again = refl

-- a jump forward doesn't
abbrev forward : List Instr
forward = instr.JumpTrue 2 ∷ instr.PushNil ∷ instr.ReturnSelf ∷ []

forward_is_free : charges (program forward []) (at forward 0 (True ∷ [])) ≡ false
forward_is_free = refl

forward_passes : move (program forward []) (at forward 0 (True ∷ [])) ≡ at forward 2 []
forward_passes = refl

forward_goes_on : move (program forward []) (at forward 0 (False ∷ [])) ≡ at forward 1 []
forward_goes_on = refl

forward_asks_for_a_boolean : ending_of (move (program forward []) (at forward 0 (Nil ∷ []))) ≡ Some (error MustBeBoolean small_site)
forward_asks_for_a_boolean = refl

-- with each move that charges nothing less is left to do so
less_is_left : left (program forward []) (at forward 0 (True ∷ [])) ≡ left (program forward []) (at forward 2 []) + 2 * weight 3 4
less_is_left = refl

-- a return from a home that has ended
abbrev alone : State
alone = Going Hosted (Running (Loud FromBody) in_m [] ((instr.ReturnHome, None) ∷ []) (Nil ∷ []) ∷ []) (small_progress [])

dead : ending_of (move (program [] []) alone)
    ≡ Some (error DeadReturn small_site)
dead = refl

-- an operand that isn't there
nothing_to_pop : move (program (instr.Pop ∷ []) []) (at (instr.Pop ∷ []) 0 []) ≡ Stuck (small_progress [])
nothing_to_pop = refl

-- `doesNotUnderstand:` of all values is protected: a send from inside reaches it, and a plain one doesn't
abbrev told : Site
told = record { place = None; class = KernelName row.UndefinedObject; sel = own_sel early DoesNotUnderstand }

abbrev sending : Instr → State
sending send = move (program (send ∷ []) []) (at (send ∷ []) 0 (Nil ∷ Nil ∷ []))

inner_send_reaches : ending_of (sending (instr.SendInner (own_sel early DoesNotUnderstand) 1)) ≡ Some (error WrongKind told)
inner_send_reaches = refl

plain_send_does_not : ending_of (sending (instr.Send (own_sel early DoesNotUnderstand) 1)) ≡ Some (error NotPublic told)
plain_send_does_not = refl
