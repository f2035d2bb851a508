-- The code of a body does what its tree means, where calls do.
use Rattle.std.proofs.Common.{◌≡◌, ℕ, suc, ◌+◌, List, [], ◌∷◌, ◌++◌, length, refl, sym, ap, ◌∙◌, subst, arith, append-nil, length-append}
use Rattle.std.proofs.Common.{Some}
use Rattle.std.specs.Prelude.{Bool, true, false, cond, flat_map}
use Rattle.ns_base.specs.declared.place.Place.{Place}
use Rattle.ns_code.specs.declared.program.CodeProgram.{CodeProgram}
use Rattle.ns_code.specs.declared.instruction.Instr.TheVariants as i
use Rattle.ns_world.specs.declared.value.Value.{Value}
use Rattle.ns_world.specs.declared.ending.Kind.TheVariants.{DeadReturn}
use Rattle.ns_find.specs.declared.found.Sending.TheVariants.{Inner}
use Rattle.ns_moves.specs.Site.{error}
use Rattle.ns_moves.specs.Control.{Progress, Activation, After, Gives, Halts, Control, PartControl}
use Rattle.ns_moves.specs.Bodies.{enclosing}
use Rattle.ns_moves.specs.Blocks.{new_block, new_text, new_array}
use Rattle.ns_moves.specs.Classes.{super_part, slot_filled}
use Rattle.ns_moves.specs.Sends.{To, ToPrivate, ToSuper, to_value, sent}
use Rattle.ns_resolved.specs.Program as m
use Rattle.ns_resolved.specs.Tables.{sel_of, node_texts, nodes_texts, messages_texts, value_of, step_node, gathered}
use Rattle.ns_model.specs.Outcome.{Completion, Yields, bind, settled, back, is_live, going_home}
use Rattle.ns_model.specs.Eval.{Call, PartCall, eval, eval_all, eval_messages, locals_begun, slots_filled, each_evaluated, method_steps, block_steps, eval_body}
use Rattle.ns_gen_code.specs.Code.{CodeLine, does, sends, starts, plain, inner, private_at, super, how_many, node_lines, nodes_lines, messages_lines}
use Rattle.ns_gen_code.specs.Code.{locals_lines, slots_lines, method_lines, block_lines, expressions_lines, body_lines}
use Rattle.ns_moves.specs.Steps.{literal}
use Rattle.ns_moves.specs.State.{Leaving, Frame, Running, Phase, State, Going, Ended, Stuck}
use Rattle.ns_moves.specs.Operands.{on_top, taken_off}
use Rattle.ns_moves.specs.Returns.{unwound, delivered, returned, has_home, settled as machine_settled}
use Rattle.ns_moves.specs.Arrivals.{arrived, part_arrived}
use Rattle.ns_link.specs.Shown.{shown, lives_in, homes}
use Rattle.ns_link.proofs.Lands.{Reaches, here, step, Lands, first, seq, OnVal, on_bind, on_any, seq_with, then_on}
use Rattle.ns_link.proofs.Homes.{has_live}

-- values on a stack, the last on top
abbrev pub push_all : List Value → List Value → List Value
push_all [] s = s
push_all (v ∷ vs) s = push_all vs (v ∷ s)

abbrev longer : List Value → ℕ → ℕ
longer [] n = n
longer (v ∷ vs) n = longer vs (suc n)

longer_is : (vs : List Value) (n : ℕ) → longer vs n ≡ length vs + n
longer_is [] n = omega arith
longer_is (v ∷ vs) n = longer_is vs (suc n) ∙ omega arith

pop_more : (missing : State) (vs acc s : List Value) (n : ℕ) (go : List Value → List Value → State)
    → taken_off missing (longer vs n) acc (push_all vs s) go ≡ taken_off missing n (vs ++ acc) s go
pop_more missing [] acc s n go = refl
pop_more missing (v ∷ vs) acc s n go = pop_more missing vs acc (v ∷ s) (suc n) go

pop_all : (missing : State) (n : ℕ) (vs s : List Value) (go : List Value → List Value → State) → length vs ≡ n
    → taken_off missing n [] (push_all vs s) go ≡ go vs s
pop_all missing n vs s go e =
    let is : n ≡ longer vs 0 = omega (arith, longer_is vs 0, e) in
    ap (λ k. taken_off missing k [] (push_all vs s) go) is ∙ pop_more missing vs [] s 0 go ∙ ap (λ l. go l s) (append-nil vs)

-- calls do what they mean, above any frames
abbrev pub CallOk : CodeProgram → Phase → Call → Type 0
CallOk code phase call =
    (c : Control) (fs : List Frame) → Lands code phase (arrived code phase c fs) (λ v _ p. delivered code phase v fs p) fs (call c (homes fs))

abbrev pub PartOk : CodeProgram → Phase → PartCall → Type 0
PartOk code phase part =
    (c : PartControl) (fs : List Frame) → Lands code phase (part_arrived code phase c fs) (λ _ _ p. Going phase fs p) fs (part c (homes fs))

-- the texts from a number on
abbrev pub Texts : CodeProgram → ℕ → List (List ℕ) → Type 0
Texts code k [] = Unit {0}
Texts code k (text ∷ texts) = (literal code k ≡ text) × Texts code (k + 1) texts

pub split : (code : CodeProgram) (k : ℕ) (before after : List (List ℕ)) → Texts code k (before ++ after)
    → Texts code k before × Texts code (k + length before) after
split code k [] after h = (tt, subst (λ n. Texts code n after) (let e : k ≡ k + 0 = omega arith in e) h)
split code k (text ∷ before) after h =
    let r = split code (k + 1) before after h.1 in
    let e : k + 1 + length before ≡ k + length (text ∷ before) = omega arith in
    ((h.0, r.0), subst (λ n. Texts code n after) e r.1)

module _ (code : CodeProgram) (phase : Phase) (call : Call) (part : PartCall) (call_ok : CallOk code phase call) (part_ok : PartOk code phase part)
    (x : Leaving) (a : Activation) (fs : List Frame) where
  abbrev live : List ℕ
  live = lives_in x a.home (homes fs)

  -- this body's frame over the others
  abbrev fr : List Value → List CodeLine → List Value → List Frame
  fr ls rest stack = Running x a ls (shown code.names rest) stack ∷ fs

  abbrev Sim : {A : Type 0} → State → (A → List Value → Progress → State) → Completion A → Type 0
  Sim s good o = Lands code phase s good (fr [] [] []) o

  -- a value on the stack
  abbrev pushed : List CodeLine → List Value → Value → List Value → Progress → State
  pushed rest stack v ls p = Going phase (fr ls rest (v ∷ stack)) p

  -- values on the stack
  abbrev all_pushed : List CodeLine → List Value → List Value → List Value → Progress → State
  all_pushed rest stack vs ls p = Going phase (fr ls rest (push_all vs stack)) p

  called : (c : Control) (ls : List Value) (rest : List CodeLine) (stack : List Value)
      → Sim (arrived code phase c (fr ls rest stack)) (pushed rest stack) (back ls (call c live))
  called c ls rest stack =
      seq code phase (arrived code phase c (fr ls rest stack)) (λ v _ p. delivered code phase v (fr ls rest stack) p) (pushed rest stack) (fr [] [] [])
      (call c live) (λ v _ p. Yields v ls p) (call_ok c (fr ls rest stack)) (λ v _ p. here code _)

  args_count : (args : m.Nodes) (ls : List Value) (p : Progress) → OnVal code phase (λ vs. length vs ≡ how_many args) (eval_all code call part a live args ls p)
  args_count m.no_nodes ls p = refl
  args_count (m.more_nodes e more) ls p =
      on_bind code phase (λ _. Unit {0}) (λ vs. length vs ≡ how_many (m.more_nodes e more)) (eval code call part a live e ls p) _
      (on_any code phase (eval code call part a live e ls p))
      (λ v ls p _.
      on_bind code phase (λ vs. length vs ≡ how_many more) _ (eval_all code call part a live more ls p) _ (args_count more ls p)
      (λ vs ls p h. omega (arith, h)))

  -- a send with its arguments on the stack
  after_args : (op : CodeLine) (args : m.Nodes) (k : ℕ) (en : List Value → Progress → Control) (ls : List Value) (rest : List CodeLine) (stack below : List Value)
      (p : Progress)
      → ((vs ls : List Value) (p : Progress) → length vs ≡ how_many args → Reaches code (all_pushed (op ∷ rest) stack vs ls p)
      (arrived code phase (en vs p) (fr ls rest below)))
      → Sim (Going phase (fr ls (nodes_lines k args (op ∷ rest)) stack) p) (all_pushed (op ∷ rest) stack) (eval_all code call part a live args ls p)
      → Sim (Going phase (fr ls (nodes_lines k args (op ∷ rest)) stack) p) (pushed rest below)
      (bind (eval_all code call part a live args ls p) (λ vs ls p. back ls (call (en vs p) live)))
  after_args op args k en ls rest stack below p go l =
      seq_with code phase (λ vs. length vs ≡ how_many args) _ (all_pushed (op ∷ rest) stack) (pushed rest below) (fr [] [] [])
      (eval_all code call part a live args ls p) _ (args_count args ls p) l
      (λ vs ls p h.
      first code phase _ (arrived code phase (en vs p) (fr ls rest below)) (pushed rest below) (fr [] [] []) _ (go vs ls p h)
      (called (en vs p) ls rest below))

  -- what each send does
  abbrev plain_send : m.Sent → Value → List Value → Progress → Control
  plain_send message v vs p = sent code a (to_value v) (sel_of code.names message.selector) vs (Some message.place) p

  abbrev inner_send : m.Sent → Value → List Value → Progress → Control
  inner_send message v vs p = sent code a (To v Inner) (sel_of code.names message.selector) vs (Some message.place) p

  abbrev private_send : ℕ → m.Sent → List Value → Progress → Control
  private_send level message vs p = sent code a (ToPrivate level) (sel_of code.names message.selector) vs (Some message.place) p

  abbrev super_send : m.Sent → List Value → Progress → Control
  super_send message vs p = sent code a ToSuper (sel_of code.names message.selector) vs (Some message.place) p

  plain_op : (message : m.Sent) (n : ℕ) (v : Value) (vs ls : List Value) (rest : List CodeLine) (stack : List Value) (p : Progress) → length vs ≡ n
      → Reaches code (all_pushed (sends plain message n ∷ rest) (v ∷ stack) vs ls p) (arrived code phase (plain_send message v vs p) (fr ls rest stack))
  plain_op message n v vs ls rest stack p h =
      step code _ _ (pop_all (Stuck p) n vs (v ∷ stack) (λ args below.
      on_top (Stuck p) below (λ v below. arrived code phase (plain_send message v args p) (fr ls rest below))) h)

  inner_op : (message : m.Sent) (n : ℕ) (v : Value) (vs ls : List Value) (rest : List CodeLine) (stack : List Value) (p : Progress) → length vs ≡ n
      → Reaches code (all_pushed (sends inner message n ∷ rest) (v ∷ stack) vs ls p) (arrived code phase (inner_send message v vs p) (fr ls rest stack))
  inner_op message n v vs ls rest stack p h =
      step code _ _ (pop_all (Stuck p) n vs (v ∷ stack) (λ args below.
      on_top (Stuck p) below (λ v below. arrived code phase (inner_send message v args p) (fr ls rest below))) h)

  private_op : (level : ℕ) (message : m.Sent) (n : ℕ) (vs ls : List Value) (rest : List CodeLine) (stack : List Value) (p : Progress) → length vs ≡ n
      → Reaches code (all_pushed (sends (private_at level) message n ∷ rest) stack vs ls p)
      (arrived code phase (private_send level message vs p) (fr ls rest stack))
  private_op level message n vs ls rest stack p h =
      step code _ _ (pop_all (Stuck p) n vs stack (λ args below. arrived code phase (private_send level message args p) (fr ls rest below)) h)

  super_op : (message : m.Sent) (n : ℕ) (vs ls : List Value) (rest : List CodeLine) (stack : List Value) (p : Progress) → length vs ≡ n
      → Reaches code (all_pushed (sends super message n ∷ rest) stack vs ls p) (arrived code phase (super_send message vs p) (fr ls rest stack))
  super_op message n vs ls rest stack p h =
      step code _ _ (pop_all (Stuck p) n vs stack (λ args below. arrived code phase (super_send message args p) (fr ls rest below)) h)

  part_op : (place : Place) (n : ℕ) (vs ls : List Value) (rest : List CodeLine) (p : Progress) → length vs ≡ n
      → Reaches code (all_pushed (starts place n ∷ rest) [] vs ls p) (part_arrived code phase (super_part code a vs p) (fr ls rest []))
  part_op place n vs ls rest p h =
      step code _ _ (pop_all (Stuck p) n vs [] (λ args below. part_arrived code phase (super_part code a args p) (fr ls rest below)) h)

  answered : (y : After) (ls : List Value) (rest : List CodeLine) (stack : List Value)
      → Sim (machine_settled code phase y (fr ls rest stack)) (pushed rest stack) (settled ls y)
  answered (Gives v p) ls rest stack = here code _
  answered (Halts e p) ls rest stack = here code _

  -- a setter's send, whose answer is dropped
  dropped : (c : Control) (v : Value) (ls : List Value) (rest : List CodeLine) (stack : List Value)
      → Sim (arrived code phase c (fr ls (does i.Pop ∷ rest) (v ∷ stack))) (pushed rest stack) (bind (back ls (call c live)) (λ answer ls p. Yields v ls p))
  dropped c v ls rest stack =
      seq code phase _ (pushed (does i.Pop ∷ rest) (v ∷ stack)) (pushed rest stack) (fr [] [] []) (back ls (call c live)) _
      (called c ls (does i.Pop ∷ rest) (v ∷ stack)) (λ answer ls p. step code _ _ refl)

  mutual
    pub sim : (e : m.Node) (k : ℕ) (ls : List Value) (rest : List CodeLine) (stack : List Value) (p : Progress) → Texts code k (node_texts e)
        → Sim (Going phase (fr ls (node_lines k e rest) stack) p) (pushed rest stack) (eval code call part a live e ls p)
    sim m.nil_value k ls rest stack p h = step code _ _ refl
    sim m.true_value k ls rest stack p h = step code _ _ refl
    sim m.false_value k ls rest stack p h = step code _ _ refl
    sim (m.integer n) k ls rest stack p h = step code _ _ refl
    sim (m.text bytes) k ls rest stack p h =
        first code phase _ (machine_settled code phase (new_text bytes p) (fr ls rest stack)) (pushed rest stack) (fr [] [] []) _
        (step code _ _ (ap (λ b. machine_settled code phase (new_text b p) (fr ls rest stack)) h.0)) (answered (new_text bytes p) ls rest stack)
    sim (m.symbol bytes) k ls rest stack p h = step code _ _ refl
    sim m.self_value k ls rest stack p h = step code _ _ refl
    sim (m.local hops index) k ls rest stack p h = step code _ _ refl
    sim (m.set_local hops index e) k ls rest stack p h =
        let op = does (i.StoreLocal hops index) in
        seq code phase _ (pushed (op ∷ rest) stack) (pushed rest stack) (fr [] [] []) (eval code call part a live e ls p) _ (sim e k ls (op ∷ rest) stack p h)
        (λ v ls p. step code _ _ refl)
    sim (m.set_by_send m.own message e) k ls rest stack p h =
        let lines = does i.PushSelf ∷ does (i.Pick 1) ∷ sends inner message 1 ∷ does i.Pop ∷ rest in
        seq code phase _ (pushed lines stack) (pushed rest stack) (fr [] [] []) (eval code call part a live e ls p) _ (sim e k ls lines stack p h)
        (λ v ls p. let c = inner_send message a.self (v ∷ []) p in
        first code phase _ (arrived code phase c (fr ls (does i.Pop ∷ rest) (v ∷ stack))) (pushed rest stack) (fr [] [] []) _
        (record { count = 3; is = refl }) (dropped c v ls rest stack))
    sim (m.set_by_send (m.enclosing level) message e) k ls rest stack p h =
        let lines = does (i.PushOuter level) ∷ does (i.Pick 1) ∷ sends inner message 1 ∷ does i.Pop ∷ rest in
        seq code phase _ (pushed lines stack) (pushed rest stack) (fr [] [] []) (eval code call part a live e ls p) _ (sim e k ls lines stack p h)
        (λ v ls p. let c = inner_send message (enclosing p.world.cells a level).object (v ∷ []) p in
        first code phase _ (arrived code phase c (fr ls (does i.Pop ∷ rest) (v ∷ stack))) (pushed rest stack) (fr [] [] []) _
        (record { count = 3; is = refl }) (dropped c v ls rest stack))
    sim (m.set_by_send (m.private_of level) message e) k ls rest stack p h =
        let lines = does (i.Pick 0) ∷ sends (private_at level) message 1 ∷ does i.Pop ∷ rest in
        seq code phase _ (pushed lines stack) (pushed rest stack) (fr [] [] []) (eval code call part a live e ls p) _ (sim e k ls lines stack p h)
        (λ v ls p. let c = private_send level message (v ∷ []) p in
        first code phase _ (arrived code phase c (fr ls (does i.Pop ∷ rest) (v ∷ stack))) (pushed rest stack) (fr [] [] []) _
        (record { count = 2; is = refl }) (dropped c v ls rest stack))
    sim (m.array items) k ls rest stack p h =
        let op = does (i.MakeArray (how_many items)) in
        seq_with code phase (λ vs. length vs ≡ how_many items) _ (all_pushed (op ∷ rest) stack) (pushed rest stack) (fr [] [] []) _ _ (args_count items ls p)
        (sim_all items k ls (op ∷ rest) stack p h)
        (λ vs ls p h. first code phase _ (machine_settled code phase (new_array vs p) (fr ls rest stack)) (pushed rest stack) (fr [] [] []) _
        (step code _ _ (pop_all (Stuck p) (how_many items) vs stack (λ vs below. machine_settled code phase (new_array vs p) (fr ls rest below)) h))
        (answered (new_array vs p) ls rest stack))
    sim (m.block body) k ls rest stack p h =
        first code phase _ (machine_settled code phase (new_block a body p) (fr ls rest stack)) (pushed rest stack) (fr [] [] []) _ (step code _ _ refl)
        (answered (new_block a body p) ls rest stack)
    sim (m.send e message args) k ls rest stack p h =
        let op = sends plain message (how_many args) in
        let both = split code k (node_texts e) (nodes_texts args) h in
        let next = k + length (node_texts e) in
        seq code phase _ (pushed (nodes_lines next args (op ∷ rest)) stack) (pushed rest stack) (fr [] [] []) (eval code call part a live e ls p) _
        (sim e k ls (nodes_lines next args (op ∷ rest)) stack p both.0)
        (λ v ls p.
        after_args op args next (plain_send message v) ls rest (v ∷ stack) stack p (λ vs ls p h. plain_op message (how_many args) v vs ls rest stack p h)
        (sim_all args next ls (op ∷ rest) (v ∷ stack) p both.1))
    sim (m.send_to m.own message args) k ls rest stack p h =
        let op = sends inner message (how_many args) in
        first code phase _ (Going phase (fr ls (nodes_lines k args (op ∷ rest)) (a.self ∷ stack)) p) (pushed rest stack) (fr [] [] []) _ (step code _ _ refl)
        (after_args op args k (inner_send message a.self) ls rest (a.self ∷ stack) stack p (λ vs ls p h.
        inner_op message (how_many args) a.self vs ls rest stack p h) (sim_all args k ls (op ∷ rest) (a.self ∷ stack) p h))
    sim (m.send_to (m.enclosing level) message args) k ls rest stack p h =
        let op = sends inner message (how_many args) in
        let v = (enclosing p.world.cells a level).object in
        first code phase _ (Going phase (fr ls (nodes_lines k args (op ∷ rest)) (v ∷ stack)) p) (pushed rest stack) (fr [] [] []) _ (step code _ _ refl)
        (after_args op args k (inner_send message v) ls rest (v ∷ stack) stack p (λ vs ls p h.
        inner_op message (how_many args) v vs ls rest stack p h) (sim_all args k ls (op ∷ rest) (v ∷ stack) p h))
    sim (m.send_to (m.private_of level) message args) k ls rest stack p h =
        let op = sends (private_at level) message (how_many args) in
        after_args op args k (private_send level message) ls rest stack stack p (λ vs ls p h. private_op level message (how_many args) vs ls rest stack p h)
        (sim_all args k ls (op ∷ rest) stack p h)
    sim (m.send_super message args) k ls rest stack p h =
        let op = sends super message (how_many args) in
        after_args op args k (super_send message) ls rest stack stack p (λ vs ls p h. super_op message (how_many args) vs ls rest stack p h)
        (sim_all args k ls (op ∷ rest) stack p h)
    sim (m.cascade e messages) k ls rest stack p h =
        let both = split code k (node_texts e) (messages_texts messages) h in
        let next = k + length (node_texts e) in
        seq code phase _ (pushed (messages_lines next messages rest) stack) (pushed rest stack) (fr [] [] []) (eval code call part a live e ls p) _
        (sim e k ls (messages_lines next messages rest) stack p both.0)
        (λ v ls p. sim_messages messages next v ls rest stack p both.1)
    sim (m.in_turn e other) k ls rest stack p h =
        let both = split code k (node_texts e) (node_texts other) h in
        let next = k + length (node_texts e) in
        let lines = node_lines next other rest in
        seq code phase _ (pushed (does i.Pop ∷ lines) stack) (pushed rest stack) (fr [] [] []) (eval code call part a live e ls p) _
        (sim e k ls (does i.Pop ∷ lines) stack p both.0)
        (λ v ls p.
        first code phase _ (Going phase (fr ls lines stack) p) (pushed rest stack) (fr [] [] []) _ (step code _ _ refl)
        (sim other next ls rest stack p both.1))

    pub sim_all : (args : m.Nodes) (k : ℕ) (ls : List Value) (rest : List CodeLine) (stack : List Value) (p : Progress) → Texts code k (nodes_texts args)
        → Sim (Going phase (fr ls (nodes_lines k args rest) stack) p) (all_pushed rest stack) (eval_all code call part a live args ls p)
    sim_all m.no_nodes k ls rest stack p h = here code _
    sim_all (m.more_nodes e more) k ls rest stack p h =
        let both = split code k (node_texts e) (nodes_texts more) h in
        let next = k + length (node_texts e) in
        seq code phase _ (pushed (nodes_lines next more rest) stack) (all_pushed rest stack) (fr [] [] []) (eval code call part a live e ls p) _
        (sim e k ls (nodes_lines next more rest) stack p both.0)
        (λ v ls p.
        seq code phase _ (all_pushed rest (v ∷ stack)) (all_pushed rest stack) (fr [] [] []) (eval_all code call part a live more ls p) _
        (sim_all more next ls rest (v ∷ stack) p both.1) (λ vs ls p. here code _))

    pub sim_messages : (ms : m.Messages) (k : ℕ) (v : Value) (ls : List Value) (rest : List CodeLine) (stack : List Value) (p : Progress)
        → Texts code k (messages_texts ms)
        → Sim (Going phase (fr ls (messages_lines k ms rest) (v ∷ stack)) p) (pushed rest stack) (eval_messages code call part a live ms v ls p)
    sim_messages (m.last_message message args) k v ls rest stack p h =
        let op = sends plain message (how_many args) in
        after_args op args k (plain_send message v) ls rest (v ∷ stack) stack p (λ vs ls p h. plain_op message (how_many args) v vs ls rest stack p h)
        (sim_all args k ls (op ∷ rest) (v ∷ stack) p h)
    sim_messages (m.more_messages message args more) k v ls rest stack p h =
        let op = sends plain message (how_many args) in
        let both = split code k (nodes_texts args) (messages_texts more) h in
        let next = k + length (nodes_texts args) in
        let lines = does i.Pop ∷ messages_lines next more rest in
        first code phase _ (Going phase (fr ls (nodes_lines k args (op ∷ lines)) (v ∷ v ∷ stack)) p) (pushed rest stack) (fr [] [] []) _ (step code _ _ refl)
        (seq code phase _ (pushed lines (v ∷ stack)) (pushed rest stack) (fr [] [] []) _ _
        (after_args op args k (plain_send message v) ls lines (v ∷ v ∷ stack) (v ∷ stack) p (λ vs ls p h.
        plain_op message (how_many args) v vs ls lines (v ∷ stack) p h) (sim_all args k ls (op ∷ lines) (v ∷ v ∷ stack) p both.0))
        (λ r ls p.
        first code phase _ (Going phase (fr ls (messages_lines next more rest) (v ∷ stack)) p) (pushed rest stack) (fr [] [] []) _ (step code _ _ refl)
        (sim_messages more next v ls rest stack p both.1)))

  -- ---- bodies

  abbrev firsts_texts : List m.First → List (List ℕ)
  firsts_texts firsts = flat_map (λ first. node_texts (value_of first)) firsts

  abbrev steps_texts : List m.Step → List (List ℕ)
  steps_texts steps = flat_map (λ step. node_texts (step_node step)) steps

  abbrev next_text : ℕ → List m.First → ℕ
  next_text k [] = k
  next_text k (f ∷ firsts) = next_text (k + length (node_texts f.value)) firsts

  -- the frame goes on with these lines
  abbrev on_with : (ℕ → List CodeLine) → ℕ → Unit {0} → List Value → Progress → State
  on_with rest k u ls p = Going phase (fr ls (rest k) []) p

  sim_locals : (firsts : List m.First) (k : ℕ) (rest : ℕ → List CodeLine) (ls : List Value) (p : Progress) → Texts code k (firsts_texts firsts)
      → Sim (Going phase (fr ls (locals_lines k firsts rest) []) p) (on_with rest (next_text k firsts)) (locals_begun code call part a live firsts ls p)
  sim_locals [] k rest ls p h = here code _
  sim_locals (f ∷ firsts) k rest ls p h =
      let both = split code k (node_texts f.value) (firsts_texts firsts) h in
      let next = k + length (node_texts f.value) in
      let more = locals_lines next firsts rest in
      let lines = does (i.StoreLocal 0 f.index) ∷ does i.Pop ∷ more in
      seq code phase _ (pushed (does i.Pop ∷ more) []) (on_with rest (next_text k (f ∷ firsts))) (fr [] [] []) _ _
      (seq code phase _ (pushed lines []) (pushed (does i.Pop ∷ more) []) (fr [] [] []) _ _ (sim f.value k ls lines [] p both.0) (λ v ls p. step code _ _ refl))
      (λ v ls p.
      first code phase _ (Going phase (fr ls more []) p) (on_with rest (next_text k (f ∷ firsts))) (fr [] [] []) _ (step code _ _ refl)
      (sim_locals firsts next rest ls p both.1))

  sim_slots : (firsts : List m.First) (k : ℕ) (rest : ℕ → List CodeLine) (ls : List Value) (p : Progress) → Texts code k (firsts_texts firsts)
      → Sim (Going phase (fr ls (slots_lines k firsts rest) []) p) (on_with rest (next_text k firsts)) (slots_filled code call part a live firsts ls p)
  sim_slots [] k rest ls p h = here code _
  sim_slots (f ∷ firsts) k rest ls p h =
      let both = split code k (node_texts f.value) (firsts_texts firsts) h in
      let next = k + length (node_texts f.value) in
      let more = slots_lines next firsts rest in
      let lines = does (i.StoreSlot f.index) ∷ more in
      seq code phase _ (pushed lines []) (on_with rest (next_text k (f ∷ firsts))) (fr [] [] []) _ _ (sim f.value k ls lines [] p both.0)
      (λ v ls p.
      first code phase _ (Going phase (fr ls more []) (slot_filled code a f.index v p)) (on_with rest (next_text k (f ∷ firsts))) (fr [] [] []) _
      (step code _ _ refl) (sim_slots firsts next rest ls (slot_filled code a f.index v p) both.1))

  sim_each : (nodes : List m.Node) (k : ℕ) (ls : List Value) (p : Progress) → Texts code k (flat_map node_texts nodes)
      → Sim (Going phase (fr ls (expressions_lines nodes k) []) p) (on_with (λ _. does i.ReturnSelf ∷ []) 0) (each_evaluated code call part a live nodes ls p)
  sim_each [] k ls p h = here code _
  sim_each (e ∷ nodes) k ls p h =
      let both = split code k (node_texts e) (flat_map node_texts nodes) h in
      let next = k + length (node_texts e) in
      let more = expressions_lines nodes next in
      seq code phase _ (pushed (does i.Pop ∷ more) []) (on_with (λ _. does i.ReturnSelf ∷ []) 0) (fr [] [] []) _ _ (sim e k ls (does i.Pop ∷ more) [] p both.0)
      (λ v ls p.
      first code phase _ (Going phase (fr ls more []) p) (on_with (λ _. does i.ReturnSelf ∷ []) 0) (fr [] [] []) _ (step code _ _ refl)
      (sim_each nodes next ls p both.1))

  -- the body's end
  abbrev ended : Value → List Value → Progress → State
  ended v ls p = returned code phase x a v fs p

  sim_method : (steps : List m.Step) (k : ℕ) (ls : List Value) (p : Progress) → Texts code k (steps_texts steps)
      → Sim (Going phase (fr ls (method_lines steps k) []) p) ended (method_steps code call part a live steps ls p)
  sim_method [] k ls p h = step code _ _ refl
  sim_method (m.evaluate e ∷ steps) k ls p h =
      let both = split code k (node_texts e) (steps_texts steps) h in
      let next = k + length (node_texts e) in
      let more = method_lines steps next in
      seq code phase _ (pushed (does i.Pop ∷ more) []) ended (fr [] [] []) _ _ (sim e k ls (does i.Pop ∷ more) [] p both.0)
      (λ v ls p. first code phase _ (Going phase (fr ls more []) p) ended (fr [] [] []) _ (step code _ _ refl) (sim_method steps next ls p both.1))
  sim_method (m.return e ∷ []) k ls p h =
      let both = split code k (node_texts e) [] h in
      then_on code phase _ (pushed (does i.Return ∷ []) []) ended (fr [] [] []) _ (sim e k ls (does i.Return ∷ []) [] p both.0) (λ v ls p. step code _ _ refl)
  sim_method (m.return e ∷ (s ∷ steps)) k ls p h =
      let both = split code k (node_texts e) (steps_texts (s ∷ steps)) h in
      let lines = does i.Return ∷ method_lines (s ∷ steps) (k + length (node_texts e)) in
      then_on code phase _ (pushed lines []) ended (fr [] [] []) _ (sim e k ls lines [] p both.0) (λ v ls p. step code _ _ refl)

  -- a block's return to its home
  to_home : (b : Bool) (s : State) (v : Value) (p : Progress)
      → Reaches code s (cond b (unwound code phase a.home v (fr [] [] []) p) (Ended (error DeadReturn a.site) phase p)) → Sim s ended (going_home b a v p)
  to_home true s v p r = r
  to_home false s v p r = r

  home_ok : (lines : List CodeLine) (v : Value) (ls : List Value) (p : Progress)
      → Sim (pushed (does i.ReturnHome ∷ lines) [] v ls p) ended (going_home (is_live live a.home) a v p)
  home_ok lines v ls p =
      let s = pushed (does i.ReturnHome ∷ lines) [] v ls p in
      let one : Reaches code s
      (cond (has_home a.home (fr [] [] [])) (unwound code phase a.home v (fr [] [] []) p) (Ended (error DeadReturn a.site) phase p)) = step code _ _ refl in
      to_home (is_live live a.home) s v p
      (subst (λ b.
      Reaches code s (cond b (unwound code phase a.home v (fr [] [] []) p) (Ended (error DeadReturn a.site) phase p))) (has_live a.home (fr [] [] [])) one)

  sim_block : (steps : List m.Step) (k : ℕ) (ls : List Value) (p : Progress) → Texts code k (steps_texts steps)
      → Sim (Going phase (fr ls (block_lines steps k) []) p) ended (block_steps code call part a live steps ls p)
  sim_block [] k ls p h = record { count = 2; is = refl }
  sim_block (m.evaluate e ∷ []) k ls p h =
      let both = split code k (node_texts e) [] h in
      then_on code phase _ (pushed (does i.Return ∷ []) []) ended (fr [] [] []) _ (sim e k ls (does i.Return ∷ []) [] p both.0) (λ v ls p. step code _ _ refl)
  sim_block (m.return e ∷ []) k ls p h =
      let both = split code k (node_texts e) [] h in
      seq code phase _ (pushed (does i.ReturnHome ∷ []) []) ended (fr [] [] []) _ _ (sim e k ls (does i.ReturnHome ∷ []) [] p both.0)
      (λ v ls p. home_ok [] v ls p)
  sim_block (m.evaluate e ∷ (s ∷ steps)) k ls p h =
      let both = split code k (node_texts e) (steps_texts (s ∷ steps)) h in
      let next = k + length (node_texts e) in
      let more = block_lines (s ∷ steps) next in
      seq code phase _ (pushed (does i.Pop ∷ more) []) ended (fr [] [] []) _ _ (sim e k ls (does i.Pop ∷ more) [] p both.0)
      (λ v ls p. first code phase _ (Going phase (fr ls more []) p) ended (fr [] [] []) _ (step code _ _ refl) (sim_block (s ∷ steps) next ls p both.1))
  sim_block (m.return e ∷ (s ∷ steps)) k ls p h =
      let both = split code k (node_texts e) (steps_texts (s ∷ steps)) h in
      let more = block_lines (s ∷ steps) (k + length (node_texts e)) in
      seq code phase _ (pushed (does i.ReturnHome ∷ more) []) ended (fr [] [] []) _ _ (sim e k ls (does i.ReturnHome ∷ more) [] p both.0)
      (λ v ls p. home_ok more v ls p)

  next_is : (firsts : List m.First) (k : ℕ) → next_text k firsts ≡ k + length (firsts_texts firsts)
  next_is [] k = omega arith
  next_is (f ∷ firsts) k = next_is firsts (k + length (node_texts f.value)) ∙ omega (arith, length-append (node_texts f.value) (firsts_texts firsts))

  sim_initialiser : (init : m.Initialiser) (k : ℕ) (ls : List Value) (p : Progress)
      → Texts code k (nodes_texts init.arguments ++ (firsts_texts init.slots ++ flat_map node_texts init.expressions))
      → Sim (Going phase (fr ls (body_lines k (m.as_initialiser init)) []) p) ended (eval_body code call part a live (m.as_initialiser init) ls p)
  sim_initialiser init k ls p h =
      let one = split code k (nodes_texts init.arguments) (firsts_texts init.slots ++ flat_map node_texts init.expressions) h in
      let next = k + length (nodes_texts init.arguments) in
      let two = split code next (firsts_texts init.slots) (flat_map node_texts init.expressions) one.1 in
      let n = how_many init.arguments in
      let last = next_text next init.slots in
      let more = slots_lines next init.slots (expressions_lines init.expressions) in
      let op = starts init.place n in
      let last_texts : Texts code last (flat_map node_texts init.expressions) = subst (λ j. Texts code j (flat_map node_texts init.expressions))
      (sym (next_is init.slots next)) two.1 in
      seq code phase _ (on_with (λ _. more) 0) ended (fr [] [] []) _ _
      (seq_with code phase (λ vs.
      length vs ≡ n) _ (all_pushed (op ∷ more) []) (on_with (λ _. more) 0) (fr [] [] []) _ _ (args_count init.arguments ls p) (sim_all init.arguments k ls
      (op ∷ more) [] p one.0)
      (λ vs ls p h. let c = super_part code a vs p in
      first code phase _ (part_arrived code phase c (fr ls more [])) (on_with (λ _. more) 0) (fr [] [] []) _ (part_op init.place n vs ls more p h)
      (seq code phase _ (λ _ _ p.
      Going phase (fr ls more []) p) (on_with (λ _. more) 0) (fr [] [] []) (part c live) _ (part_ok c (fr ls more [])) (λ u _ p. here code _))))
      (λ u ls p.
      seq code phase _ (on_with (expressions_lines init.expressions) last) ended (fr [] [] []) _ _
      (sim_slots init.slots next (expressions_lines init.expressions) ls p two.0)
      (λ u ls p. seq code phase _ (on_with (λ _. does i.ReturnSelf ∷ []) 0) ended (fr [] [] []) _ _ (sim_each init.expressions last ls p last_texts)
      (λ u ls p. step code _ _ refl)))

  abbrev pub does_texts : m.Does → List (List ℕ)
  does_texts d = gathered node_texts nodes_texts d

  -- the code of a body does what the body does
  pub sim_body : (d : m.Does) (k : ℕ) (ls : List Value) (p : Progress) → Texts code k (does_texts d)
      → Sim (Going phase (fr ls (body_lines k d) []) p) ended (eval_body code call part a live d ls p)
  sim_body (m.as_method firsts steps) k ls p h =
      let both = split code k (firsts_texts firsts) (steps_texts steps) h in
      let last_texts : Texts code (next_text k firsts) (steps_texts steps) = subst (λ j. Texts code j (steps_texts steps)) (sym (next_is firsts k)) both.1 in
      seq code phase _ (on_with (method_lines steps) (next_text k firsts)) ended (fr [] [] []) _ _ (sim_locals firsts k (method_lines steps) ls p both.0)
      (λ u ls p. sim_method steps (next_text k firsts) ls p last_texts)
  sim_body (m.as_block firsts steps) k ls p h =
      let both = split code k (firsts_texts firsts) (steps_texts steps) h in
      let last_texts : Texts code (next_text k firsts) (steps_texts steps) = subst (λ j. Texts code j (steps_texts steps)) (sym (next_is firsts k)) both.1 in
      seq code phase _ (on_with (block_lines steps) (next_text k firsts)) ended (fr [] [] []) _ _ (sim_locals firsts k (block_lines steps) ls p both.0)
      (λ u ls p. sim_block steps (next_text k firsts) ls p last_texts)
  sim_body (m.as_initialiser init) k ls p h = sim_initialiser init k ls p h
  sim_body (m.as_clause e) k ls p h =
      then_on code phase _ (pushed (does i.Return ∷ []) []) ended (fr [] [] []) _ (sim e k ls (does i.Return ∷ []) [] p h) (λ v ls p. step code _ _ refl)
