-- Worked examples of code.
use Rattle.std.proofs.Common.{◌≡◌, ℕ, List, [], ◌∷◌, refl}
use Rattle.std.specs.Prelude.{true, false, Some, None, pos, codes}
use Rattle.ns_base.specs.declared.place.Place.{Place}
use Rattle.ns_base.specs.declared.selector.Sel.{Sel}
use Rattle.ns_code.specs.declared.body.BodyCode.{BodyCode}
use Rattle.ns_code.specs.declared.class.ClassCode.{ClassCode}
use Rattle.ns_code.specs.declared.program.CodeProgram.{CodeProgram}
use Rattle.ns_code.specs.declared.instruction.Instr.{Instr}
use Rattle.ns_code.specs.declared.instruction.Instr.TheVariants as i
use Rattle.ns_resolved.specs.Program as m
use Rattle.ns_resolved.specs.Worked.{expected, at_column, sent}
use Rattle.ns_gen_code.specs.Code.{does, sends, starts, plain, inner, private_at, super, code_of, body_lines}

-- ---- the code of a class in a class
-- class W of: x = () (who = (^'outer') class In = Base (private own = (^[who])))

abbrev sel : ℕ → Sel
sel n = record { 0 = n }

-- a body of a kind and a class, with instructions and the place of one of them, or without any
abbrev body_of : ℕ → ℕ → ℕ → List Instr → List (ℕ × Place) → BodyCode
body_of kind class height instrs places =
    record {
      kind = kind;
      side = 0;
      class = class;
      parent = None;
      params = 0;
      locals = 0;
      environment = false;
      height = height;
      instrs = instrs;
      places = places;
      local_names = [];
    }

abbrev outer_code : ClassCode
outer_code =
    record {
      name = sel 0;
      outer = None;
      factory = sel 1;
      params = 1;
      clause = None;
      init = 0;
      super_sel = sel 2;
      slots = [];
      nested = record { class = 1; access = 1 } ∷ [];
      methods = record { sel = sel 3; access = 1; body = 1 } ∷ [];
      side_methods = [];
    }

abbrev inner_code : ClassCode
inner_code =
    record {
      name = sel 4;
      outer = Some 0;
      factory = sel 2;
      params = 0;
      clause = Some 2;
      init = 3;
      super_sel = sel 2;
      slots = [];
      nested = [];
      methods = record { sel = sel 5; access = 2; body = 4 } ∷ [];
      side_methods = [];
    }

abbrev expected_code : CodeProgram
expected_code =
    record {
      files = codes "W.ns" ∷ [];
      names = codes "W" ∷ codes "of:" ∷ codes "new" ∷ codes "who" ∷ codes "In" ∷ codes "own" ∷ codes "Base" ∷ [];
      texts = codes "outer" ∷ [];
      classes = outer_code ∷ inner_code ∷ [];
      bodies =
          record (body_of 2 0 0 (i.InitSuper 0 ∷ i.ReturnSelf ∷ []) ((0, at_column 1) ∷ [])) { params = 1; locals = 1; local_names = codes "x" ∷ [] }
          ∷ body_of 0 0 1 (i.PushText 0 ∷ i.Return ∷ []) []
          ∷ body_of 3 0 1 (i.PushSelf ∷ i.SendInner (sel 6) 0 ∷ i.Return ∷ []) ((1, at_column 10) ∷ [])
          ∷ body_of 2 1 0 (i.InitSuper 0 ∷ i.ReturnSelf ∷ []) ((0, at_column 8) ∷ [])
          ∷ record (body_of 0 1 1 (i.PushBlock 5 ∷ i.Return ∷ []) []) { environment = true }
          ∷ record (body_of 1 1 1 (i.PushOuter 1 ∷ i.SendInner (sel 3) 0 ∷ i.Return ∷ []) ((1, at_column 14) ∷ [])) { parent = Some 4 }
          ∷ [];
    }

program_has_its_code : code_of expected ≡ expected_code
program_has_its_code = refl

-- ---- the lines of a method, whose first literal text has the number 3

abbrev one : m.Node → m.Nodes
one node = m.more_nodes node m.no_nodes

-- | l = 'a'. | x m; o: 'b'. self n; o. l:: a:: 1
abbrev many : m.Does
many =
    m.as_method (record { index = 1; value = m.text (codes "a") } ∷ [])
    (m.evaluate (m.cascade (m.local 0 0) (m.more_messages (sent (codes "m") 1) m.no_nodes (m.last_message (sent (codes "o:") 2) (one (m.text (codes "b"))))))
    ∷ m.evaluate (m.in_turn (m.send_to (m.private_of 0) (sent (codes "n") 3) m.no_nodes) (m.send_to m.own (sent (codes "o") 4) m.no_nodes))
    ∷ m.evaluate (m.set_local 0 1 (m.set_by_send (m.enclosing 1) (sent (codes "a:") 5) (m.integer (pos 1))))
    ∷ [])

lines_of_many : body_lines 3 many
    ≡ does (i.PushText 3) ∷ does (i.StoreLocal 0 1) ∷ does i.Pop
    ∷ does (i.PushLocal 0 0) ∷ does (i.Pick 0) ∷ sends plain (sent (codes "m") 1) 0 ∷ does i.Pop ∷ does (i.PushText 4) ∷ sends plain (sent (codes "o:") 2) 1
    ∷ does i.Pop
    ∷ sends (private_at 0) (sent (codes "n") 3) 0 ∷ does i.Pop ∷ does i.PushSelf ∷ sends inner (sent (codes "o") 4) 0 ∷ does i.Pop
    ∷ does (i.PushInt (pos 1)) ∷ does (i.PushOuter 1) ∷ does (i.Pick 1) ∷ sends inner (sent (codes "a:") 5) 1 ∷ does i.Pop ∷ does (i.StoreLocal 0 1) ∷ does i.Pop
    ∷ does i.ReturnSelf ∷ []
lines_of_many = refl

-- ---- the lines of other bodies

-- { 1. x m: 2 n: 3 }: receivers first, and then what stands further right
abbrev in_order : m.Does
in_order =
    m.as_clause
    (m.array (m.more_nodes (m.integer (pos 1)) (one (m.send (m.local 0 0) (sent (codes "m:n:") 1) (m.more_nodes (m.integer (pos 2)) (one (m.integer (pos 3))))))))

lines_in_order : body_lines 0 in_order
    ≡ does (i.PushInt (pos 1)) ∷ does (i.PushLocal 0 0) ∷ does (i.PushInt (pos 2)) ∷ does (i.PushInt (pos 3)) ∷ sends plain (sent (codes "m:n:") 1) 2
    ∷ does (i.MakeArray 2) ∷ does i.Return ∷ []
lines_in_order = refl

-- a block ends with its last value, and `^` returns from its home
lines_of_a_value : body_lines 0 (m.as_block [] (m.evaluate m.self_value ∷ [])) ≡ does i.PushSelf ∷ does i.Return ∷ []
lines_of_a_value = refl

lines_of_a_return : body_lines 0 (m.as_block [] (m.return m.self_value ∷ [])) ≡ does i.PushSelf ∷ does i.ReturnHome ∷ []
lines_of_a_return = refl

-- in a method it returns from there
lines_of_a_method : body_lines 0 (m.as_method [] (m.return m.nil_value ∷ [])) ≡ does i.PushNil ∷ does i.Return ∷ []
lines_of_a_method = refl

-- an initialiser starts the superclass part before it fills its slots
abbrev starting : m.Initialiser
starting =
    record {
      place = at_column 1;
      arguments = one (m.integer (pos 1));
      slots = record { index = 2; value = m.integer (pos 2) } ∷ [];
      expressions = m.integer (pos 3) ∷ [];
    }

lines_of_an_initialiser : body_lines 0 (m.as_initialiser starting)
    ≡ does (i.PushInt (pos 1)) ∷ starts (at_column 1) 1 ∷ does (i.PushInt (pos 2)) ∷ does (i.StoreSlot 2) ∷ does (i.PushInt (pos 3)) ∷ does i.Pop
    ∷ does i.ReturnSelf ∷ []
lines_of_an_initialiser = refl

-- a send to super pushes no receiver
lines_of_super : body_lines 0 (m.as_clause (m.send_super (sent (codes "m") 1) m.no_nodes)) ≡ sends super (sent (codes "m") 1) 0 ∷ does i.Return ∷ []
lines_of_super = refl
