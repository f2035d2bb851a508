-- The opening sends have the place of the first class's name, in code as in trees.
use Rattle.std.proofs.Common.{◌≡◌, ℕ, ◌+◌, List, ◌∷◌, length, refl, sym, ap, ◌∙◌, Option, Some, None}
use Rattle.std.specs.Prelude.{slice_get}
use Rattle.std.specs.Option.{option_map, option_map_or}
use Rattle.std.proofs.lemmas.Option.{slice_get-map}
use Rattle.ns_code.specs.declared.class.ClassCode.{ClassCode}
use Rattle.ns_code.specs.declared.instruction.Instr.TheVariants as i
use Rattle.ns_moves.specs.Bodies.{initialiser_of}
use Rattle.ns_resolved.specs.Program as m
use Rattle.ns_resolved.specs.Tables.{node_texts, nodes_texts, class_code}
use Rattle.ns_model.specs.Run.{does_at}
use Rattle.ns_model.specs.Whole.{place_in, opening_place}
use Rattle.ns_gen_code.specs.Code.{CodeLine, does, sends, starts, plain, inner, private_at, super, how_many, node_lines, nodes_lines, messages_lines}
use Rattle.ns_gen_code.specs.Code.{body_lines, slots_lines, expressions_lines, code_of}
use Rattle.ns_moves.specs.Steps.{super_place, steps_of}
use Rattle.ns_moves.specs.Steps as steps
use Rattle.ns_link.specs.Shown.{shown}
use Rattle.ns_link.proofs.Coded.{coded}

module _ (names : List (List ℕ)) where
  -- no superclass part begins in an expression
  abbrev Skips : List CodeLine → List CodeLine → Type 0
  Skips lines rest = super_place (shown names lines) ≡ super_place (shown names rest)

  mutual
    skips : (e : m.Node) (k : ℕ) (rest : List CodeLine) → Skips (node_lines k e rest) rest
    skips m.nil_value k rest = refl
    skips m.true_value k rest = refl
    skips m.false_value k rest = refl
    skips (m.integer n) k rest = refl
    skips (m.text bytes) k rest = refl
    skips (m.symbol bytes) k rest = refl
    skips m.self_value k rest = refl
    skips (m.local hops index) k rest = refl
    skips (m.set_local hops index e) k rest = skips e k (does (i.StoreLocal hops index) ∷ rest)
    skips (m.set_by_send m.own message e) k rest = skips e k (does i.PushSelf ∷ does (i.Pick 1) ∷ sends inner message 1 ∷ does i.Pop ∷ rest)
    skips (m.set_by_send (m.enclosing level) message e) k rest =
        skips e k (does (i.PushOuter level) ∷ does (i.Pick 1) ∷ sends inner message 1 ∷ does i.Pop ∷ rest)
    skips (m.set_by_send (m.private_of level) message e) k rest = skips e k (does (i.Pick 0) ∷ sends (private_at level) message 1 ∷ does i.Pop ∷ rest)
    skips (m.array items) k rest = skips_all items k (does (i.MakeArray (how_many items)) ∷ rest)
    skips (m.block body) k rest = refl
    skips (m.send e message args) k rest =
        let next = k + length (node_texts e) in
        skips e k (nodes_lines next args (sends plain message (how_many args) ∷ rest)) ∙ skips_all args next (sends plain message (how_many args) ∷ rest)
    skips (m.send_to m.own message args) k rest = skips_all args k (sends inner message (how_many args) ∷ rest)
    skips (m.send_to (m.enclosing level) message args) k rest = skips_all args k (sends inner message (how_many args) ∷ rest)
    skips (m.send_to (m.private_of level) message args) k rest = skips_all args k (sends (private_at level) message (how_many args) ∷ rest)
    skips (m.send_super message args) k rest = skips_all args k (sends super message (how_many args) ∷ rest)
    skips (m.cascade e messages) k rest =
        let next = k + length (node_texts e) in
        skips e k (messages_lines next messages rest) ∙ skips_messages messages next rest
    skips (m.in_turn e other) k rest =
        let next = k + length (node_texts e) in
        skips e k (does i.Pop ∷ node_lines next other rest) ∙ skips other next rest

    skips_all : (args : m.Nodes) (k : ℕ) (rest : List CodeLine) → Skips (nodes_lines k args rest) rest
    skips_all m.no_nodes k rest = refl
    skips_all (m.more_nodes e more) k rest =
        let next = k + length (node_texts e) in
        skips e k (nodes_lines next more rest) ∙ skips_all more next rest

    skips_messages : (ms : m.Messages) (k : ℕ) (rest : List CodeLine) → Skips (messages_lines k ms rest) rest
    skips_messages (m.last_message message args) k rest = skips_all args k (sends plain message (how_many args) ∷ rest)
    skips_messages (m.more_messages message args more) k rest =
        let next = k + length (nodes_texts args) in
        skips_all args k (sends plain message (how_many args) ∷ does i.Pop ∷ messages_lines next more rest) ∙ skips_messages more next rest

-- the superclass message of an initialiser
begins : (names : List (List ℕ)) (k : ℕ) (init : m.Initialiser) →
    super_place (shown names (body_lines k (m.as_initialiser init))) ≡ Some init.place
begins names k init =
    skips_all names init.arguments k
    (starts init.place (how_many init.arguments) ∷ slots_lines (k + length (nodes_texts init.arguments)) init.slots (expressions_lines init.expressions))

pub opening_same : (meant : m.Meant) (class : m.Declaration) (init : m.Initialiser) → slice_get meant.classes 0 ≡ Some class
    → does_at meant class.initialiser ≡ m.as_initialiser init
    → steps.opening_place (code_of meant) ≡ opening_place meant
opening_same meant class init first is =
    let code = code_of meant in
    let c = coded meant class.initialiser in
    let number : initialiser_of code 0 ≡ class.initialiser =
    ap (λ (o : Option ClassCode). option_map_or (λ (k : ClassCode). k.init) o 0)
    (slice_get-map (class_code code.names) meant.classes 0 ∙ ap (option_map (class_code code.names)) first) in
    let tree : opening_place meant ≡ Some init.place =
    ap (λ (o : Option m.Declaration). option_map_or (λ (k : m.Declaration). place_in (does_at meant k.initialiser)) o None) first ∙ ap place_in is in
    ap (λ k. super_place (steps_of code k)) number
    ∙ (ap super_place (c.is ∙ ap (λ d. shown code.names (body_lines c.text d)) is) ∙ (begins code.names c.text init ∙ sym tree))
