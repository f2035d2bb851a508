-- The lines of an expression push its literal texts in their order, by the numbers from the first one on.
use Rattle.std.proofs.Common.{◌≡◌, ℕ, ◌+◌, List, [], ◌∷◌, ◌++◌, length, refl, sym, ap, ◌∙◌, append_assoc, arith}
use Rattle.std.specs.Prelude.{flat_map}
use Rattle.ns_code.specs.declared.instruction.Instr.TheVariants as i
use Rattle.ns_resolved.specs.Program as m
use Rattle.ns_resolved.specs.Tables.{node_texts, nodes_texts, messages_texts}
use Rattle.ns_gen_code.specs.Code.{CodeLine, does, sends, plain, inner, private_at, super, how_many, set_lines, node_lines, nodes_lines, messages_lines}
use Rattle.ns_gen_code.specs.Stated.{line_texts, numbers_from, TextsInOrder}

-- the texts that lines push
abbrev pub pushed : List CodeLine → List ℕ
pushed lines = flat_map line_texts lines

numbers_append : (k : ℕ) (a b : List (List ℕ)) → numbers_from k (a ++ b) ≡ numbers_from k a ++ numbers_from (k + length a) b
numbers_append k [] b = let e : k ≡ k + 0 = omega arith in ap (λ n. numbers_from n b) e
numbers_append k (text ∷ a) b =
    let e : k + 1 + length a ≡ k + length (text ∷ a) = omega arith in
    ap (k ∷◌) (numbers_append (k + 1) a b ∙ ap (λ n. numbers_from (k + 1) a ++ numbers_from n b) e)

-- the numbers of two parts, and then more
two_parts : (k : ℕ) (a b : List (List ℕ)) (more : List ℕ) →
    numbers_from k a ++ (numbers_from (k + length a) b ++ more) ≡ numbers_from k (a ++ b) ++ more
two_parts k a b more =
    sym (append_assoc (numbers_from k a) (numbers_from (k + length a) b) more) ∙ ap (λ numbers. numbers ++ more) (sym (numbers_append k a b))

mutual
  pub texts_in_order : (node : m.Node) → TextsInOrder node
  texts_in_order m.nil_value k rest = refl
  texts_in_order m.true_value k rest = refl
  texts_in_order m.false_value k rest = refl
  texts_in_order (m.integer n) k rest = refl
  texts_in_order (m.text bytes) k rest = refl
  texts_in_order (m.symbol name) k rest = refl
  texts_in_order m.self_value k rest = refl
  texts_in_order (m.local hops index) k rest = refl
  texts_in_order (m.set_local hops index value) k rest = texts_in_order value k (does (i.StoreLocal hops index) ∷ rest)
  texts_in_order (m.set_by_send m.own sent value) k rest = texts_in_order value k (set_lines m.own sent rest)
  texts_in_order (m.set_by_send (m.enclosing level) sent value) k rest = texts_in_order value k (set_lines (m.enclosing level) sent rest)
  texts_in_order (m.set_by_send (m.private_of level) sent value) k rest = texts_in_order value k (set_lines (m.private_of level) sent rest)
  texts_in_order (m.array items) k rest = nodes_texts_in_order items k (does (i.MakeArray (how_many items)) ∷ rest)
  texts_in_order (m.block number) k rest = refl
  texts_in_order (m.send receiver sent arguments) k rest =
      texts_in_order receiver k (nodes_lines (k + length (node_texts receiver)) arguments (sends plain sent (how_many arguments) ∷ rest))
      ∙ ap (numbers_from k (node_texts receiver) ++◌)
      (nodes_texts_in_order arguments (k + length (node_texts receiver)) (sends plain sent (how_many arguments) ∷ rest))
      ∙ two_parts k (node_texts receiver) (nodes_texts arguments) (pushed rest)
  texts_in_order (m.send_to m.own sent arguments) k rest = nodes_texts_in_order arguments k (sends inner sent (how_many arguments) ∷ rest)
  texts_in_order (m.send_to (m.enclosing level) sent arguments) k rest = nodes_texts_in_order arguments k (sends inner sent (how_many arguments) ∷ rest)
  texts_in_order (m.send_to (m.private_of level) sent arguments) k rest =
      nodes_texts_in_order arguments k (sends (private_at level) sent (how_many arguments) ∷ rest)
  texts_in_order (m.send_super sent arguments) k rest = nodes_texts_in_order arguments k (sends super sent (how_many arguments) ∷ rest)
  texts_in_order (m.cascade receiver messages) k rest =
      texts_in_order receiver k (messages_lines (k + length (node_texts receiver)) messages rest)
      ∙ ap (numbers_from k (node_texts receiver) ++◌) (messages_texts_in_order messages (k + length (node_texts receiver)) rest)
      ∙ two_parts k (node_texts receiver) (messages_texts messages) (pushed rest)
  texts_in_order (m.in_turn first then_node) k rest =
      texts_in_order first k (does i.Pop ∷ node_lines (k + length (node_texts first)) then_node rest)
      ∙ ap (numbers_from k (node_texts first) ++◌) (texts_in_order then_node (k + length (node_texts first)) rest)
      ∙ two_parts k (node_texts first) (node_texts then_node) (pushed rest)

  pub nodes_texts_in_order : (nodes : m.Nodes) (k : ℕ) (rest : List CodeLine) →
      pushed (nodes_lines k nodes rest) ≡ numbers_from k (nodes_texts nodes) ++ pushed rest
  nodes_texts_in_order m.no_nodes k rest = refl
  nodes_texts_in_order (m.more_nodes node others) k rest =
      texts_in_order node k (nodes_lines (k + length (node_texts node)) others rest)
      ∙ ap (numbers_from k (node_texts node) ++◌) (nodes_texts_in_order others (k + length (node_texts node)) rest)
      ∙ two_parts k (node_texts node) (nodes_texts others) (pushed rest)

  pub messages_texts_in_order : (messages : m.Messages) (k : ℕ) (rest : List CodeLine) →
      pushed (messages_lines k messages rest) ≡ numbers_from k (messages_texts messages) ++ pushed rest
  messages_texts_in_order (m.last_message sent arguments) k rest = nodes_texts_in_order arguments k (sends plain sent (how_many arguments) ∷ rest)
  messages_texts_in_order (m.more_messages sent arguments others) k rest =
      nodes_texts_in_order arguments k (sends plain sent (how_many arguments) ∷ does i.Pop ∷ messages_lines (k + length (nodes_texts arguments)) others rest)
      ∙ ap (numbers_from k (nodes_texts arguments) ++◌) (messages_texts_in_order others (k + length (nodes_texts arguments)) rest)
      ∙ two_parts k (nodes_texts arguments) (messages_texts others) (pushed rest)
