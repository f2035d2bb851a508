-- Each rule of a run in a small program: sends, members, blocks and returns, classes, limits.
use Rattle.std.proofs.Common.{◌≡◌, ℕ, List, [], ◌∷◌, ◌++◌, refl, Some, None, true, false}
use Rattle.std.specs.Prelude.{codes, pos}
use Rattle.std.specs.Fmt.{digits}
use Rattle.ns_base.specs.declared.place.Place.{Place}
use Rattle.ns_tree.specs.declared.tree.Access.{Access}
use Rattle.ns_tree.specs.declared.tree.Access.TheVariants as access
use Rattle.ns_scope.specs.declared.scope.CodeSide.TheVariants as side
use Rattle.ns_facets.specs.declared.row.Grants.{Grants}
use Rattle.ns_resolved.specs.Program as m
use Rattle.ns_model.specs.Whole.{meaning_of_run}

-- ---- the program
-- class T packageUsing: m = (| s = 4. t ::= nil. |) (
--   class In = () ()
--   public main: p args: a = (STEPS, with a block of SAID)
--   protected kept = (^5)  private own = (^6)  public make = (^[^1])  public doesNotUnderstand: m = (^8)  public quiet = ())

place : Place
place = record { file = 0; line = 2; col = 3 }

none : Grants
none = record { console = false; kernel = false; mirrors = false; board = false }

abbrev number : ℕ → m.Node
number n = m.integer (pos n)

abbrev method : ℕ → List (List ℕ) → m.Node → m.Body
method params locals node =
    record {
      side = side.Instance;
      class = 0;
      parent = None;
      params = params;
      locals = locals;
      environment = true;
      does = m.as_method [] (m.return node ∷ []);
    }

abbrev block : ℕ → List (List ℕ) → List m.Step → m.Body
block parent locals steps =
    record { side = side.Instance; class = 0; parent = Some parent; params = 0; locals = locals; environment = false; does = m.as_block [] steps }

abbrev begins : ℕ → List (List ℕ) → List m.First → m.Body
begins class locals slots =
    record {
      side = side.Instance;
      class = class;
      parent = None;
      params = 0;
      locals = locals;
      environment = false;
      does = m.as_initialiser (record { place = place; arguments = m.no_nodes; slots = slots; expressions = [] });
    }

abbrev member : List ℕ → Access → ℕ → m.Method
member selector access body = record { selector = selector; access = access; body = body }

abbrev inner : m.Declaration
inner =
    record {
      name = codes "In";
      outer = Some 0;
      factory = codes "new";
      params = 0;
      clause = None;
      initialiser = 8;
      super_selector = codes "new";
      slots = [];
      nested = [];
      methods = [];
      side_methods = [];
    }

-- the program without its last two methods, and with some of them
abbrev with_methods : List m.Method → m.Node → m.Node → m.Meant
with_methods more main said =
    record {
      files = codes "T.ns" ∷ [];
      classes = record {
        name = codes "T";
        outer = None;
        factory = codes "packageUsing:";
        params = 1;
        clause = None;
        initialiser = 0;
        super_selector = codes "new";
        slots = record { name = codes "s"; access = access.Protected; mutable = false } ∷ record { name = codes "t"; access = access.Protected; mutable = true } ∷ [];
        nested = record { class = 1; access = access.Protected } ∷ [];
        methods = member (codes "main:args:") access.Public 1 ∷ member (codes "kept") access.Protected 3 ∷ member (codes "own") access.Private 4
            ∷ member (codes "make") access.Public 5 ∷ more;
        side_methods = [];
      } ∷ inner ∷ [];
      bodies = record (begins 0 (codes "m" ∷ []) (record { index = 0; value = number 4 } ∷ [])) { params = 1 }
          ∷ method 2 (codes "p" ∷ codes "a" ∷ []) main ∷ block 1 [] (m.evaluate said ∷ []) ∷ method 0 [] (number 5) ∷ method 0 [] (number 6)
          ∷ method 0 [] (m.block 6) ∷ block 5 [] (m.return (number 1) ∷ []) ∷ method 1 (codes "m" ∷ []) (number 8) ∷ begins 1 [] [] ∷ record (method 0 [] (number 0)) { does = m.as_method [] [] } ∷ [];
    }

abbrev program : m.Node → m.Node → m.Meant
program main said = with_methods [] main said

abbrev understanding : m.Node → m.Meant
understanding main = with_methods (member (codes "doesNotUnderstand:") access.Public 7 ∷ []) main m.nil_value

abbrev line_within : ℕ → m.Meant → List ℕ
line_within cells meant = (meaning_of_run meant [] none (record { steps = 30; cells = cells; depth = 10; out = 10 })).line

abbrev line : m.Meant → List ℕ
line meant = line_within 100 meant

-- what a program says that returns this from its main method
abbrev says : m.Node → List ℕ
says main = line (program main m.nil_value)

-- the same with what stands in its block, which is body 2
abbrev says_with : m.Node → m.Node → List ℕ
says_with said main = line (program main said)

abbrev to : m.Node → List ℕ → m.Node
to receiver selector = m.send receiver (record { selector = selector; place = place }) m.no_nodes

abbrev to_with : m.Node → List ℕ → m.Node → m.Node
to_with receiver selector argument = m.send receiver (record { selector = selector; place = place }) (m.more_nodes argument m.no_nodes)

abbrev to_own : m.Reach → List ℕ → m.Node
to_own reach selector = m.send_to reach (record { selector = selector; place = place }) m.no_nodes

abbrev set_own : List ℕ → m.Node → m.Node
set_own selector value = m.set_by_send m.own (record { selector = selector; place = place }) value

-- ---- the rules

-- a protected member isn't public
plain_protected : says (to m.self_value (codes "kept")) ≡ codes "T.ns:2:3: NotPublic T kept" ++ 10 ∷ []
unfolding none place digits
plain_protected = refl

-- a private member isn't found by a lookup
plain_private : says (to m.self_value (codes "own")) ≡ codes "T.ns:2:3: NotUnderstood T own" ++ 10 ∷ []
unfolding none place digits
plain_private = refl

-- a send to self finds a protected member
inner_protected : says (to_own m.own (codes "kept")) ≡ codes "=> 5" ++ 10 ∷ []
unfolding none place digits
inner_protected = refl

-- a private member is found in its declaration
private_own : says (to_own (m.private_of 0) (codes "own")) ≡ codes "=> 6" ++ 10 ∷ []
unfolding none place digits
private_own = refl

-- a send to super looks above the class of the code
super_send : says (m.send_super (record { selector = codes "kept"; place = place }) m.no_nodes) ≡ codes "T.ns:2:3: NotUnderstood T kept" ++ 10 ∷ []
unfolding none place digits
super_send = refl

-- a slot answers what it was given at the beginning
getter : says (to_own m.own (codes "s")) ≡ codes "=> 4" ++ 10 ∷ []
unfolding none place digits
getter = refl

-- a setter stores its argument
setter : says (m.in_turn (set_own (codes "t:") (number 9)) (to_own m.own (codes "t"))) ≡ codes "=> 9" ++ 10 ∷ []
unfolding none place digits
setter = refl

-- and its expression's value is the argument
set_value : says (set_own (codes "t:") (number 9)) ≡ codes "=> 9" ++ 10 ∷ []
unfolding none place digits
set_value = refl

-- what stands in one expression is evaluated from left to right
left_to_right : says (m.in_turn (m.array (m.more_nodes (set_own (codes "t:") (number 1)) (m.more_nodes (set_own (codes "t:") (number 2)) m.no_nodes))) (to_own m.own (codes "t"))) ≡ codes "=> 2" ++ 10 ∷ []
unfolding none place digits
left_to_right = refl

-- a receiver before the arguments
receiver_first : says (m.in_turn (to_with (set_own (codes "t:") (number 1)) (codes "+") (set_own (codes "t:") (number 2))) (to_own m.own (codes "t"))) ≡ codes "=> 2" ++ 10 ∷ []
unfolding none place digits
receiver_first = refl

-- a method without a return answers self
quiet_answers_self : line (with_methods (member (codes "quiet") access.Public 9 ∷ []) (to m.self_value (codes "quiet")) m.nil_value) ≡ codes "=> object T" ++ 10 ∷ []
unfolding none place digits
quiet_answers_self = refl

-- a nested class is made once
kept_class : says (to_with (to_own m.own (codes "In")) (codes "==") (to_own m.own (codes "In"))) ≡ codes "=> true" ++ 10 ∷ []
unfolding none place digits
kept_class = refl

-- a factory makes an object
new_object : says (to (to_own m.own (codes "In")) (codes "new")) ≡ codes "=> object In" ++ 10 ∷ []
unfolding none place digits
new_object = refl

-- a cascade has the value of its last message, which goes to the receiver of the first
cascade_last : says (m.cascade (number 7) (m.more_messages (record { selector = codes "negated"; place = place }) m.no_nodes (m.last_message (record { selector = codes "+"; place = place }) (m.more_nodes (number 1) m.no_nodes)))) ≡ codes "=> 8" ++ 10 ∷ []
unfolding none place digits
cascade_last = refl

-- a block takes its arguments
wrong_arity : says (to_with (m.block 2) (codes "value:") (number 1)) ≡ codes "T.ns:2:3: WrongArity Block value:" ++ 10 ∷ []
unfolding none place digits
wrong_arity = refl

-- and answers its last value
block_value : says_with (number 3) (to (m.block 2) (codes "value")) ≡ codes "=> 3" ++ 10 ∷ []
unfolding none place digits
block_value = refl

-- no return goes to a home that has ended
dead_return : says (to (to m.self_value (codes "make")) (codes "value")) ≡ codes "T.ns:2:3: DeadReturn Block value" ++ 10 ∷ []
unfolding none place digits
dead_return = refl

-- `ifTrue:` evaluates its block where the receiver is true
if_true : says_with (number 3) (to_with m.true_value (codes "ifTrue:") (m.block 2)) ≡ codes "=> 3" ++ 10 ∷ []
unfolding none place digits
if_true = refl

-- and answers nil where it is false
if_not_true : says_with (number 3) (to_with m.false_value (codes "ifTrue:") (m.block 2)) ≡ codes "=> nil" ++ 10 ∷ []
unfolding none place digits
if_not_true = refl

-- `whileTrue:` answers nil when its receiver answers false
while_false : says_with m.false_value (to_with (m.block 2) (codes "whileTrue:") (m.block 2)) ≡ codes "=> nil" ++ 10 ∷ []
unfolding none place digits
while_false = refl

-- and asks for true or false
while_other : says_with (number 3) (to_with (m.block 2) (codes "whileTrue:") (m.block 2)) ≡ codes "T.ns:2:3: MustBeBoolean Block whileTrue:" ++ 10 ∷ []
unfolding none place digits
while_other = refl

-- and goes on as long as it is true
while_on : says_with m.true_value (to_with (m.block 2) (codes "whileTrue:") (m.block 2)) ≡ codes "limit: steps" ++ 10 ∷ []
unfolding none place digits
while_on = refl

-- `timesRepeat:` answers its receiver
times : says_with m.nil_value (to_with (number 2) (codes "timesRepeat:") (m.block 2)) ≡ codes "=> 2" ++ 10 ∷ []
unfolding none place digits
times = refl

-- sums stay within 64 bits
overflow : says (to_with (number 9223372036854775807) (codes "+") (number 1)) ≡ codes "T.ns:2:3: Overflow Integer +" ++ 10 ∷ []
unfolding none place digits
overflow = refl

-- no number is divided by zero
zero_divide : says (to_with (number 1) (codes "//") (number 0)) ≡ codes "T.ns:2:3: ZeroDivide Integer //" ++ 10 ∷ []
unfolding none place digits
zero_divide = refl

-- a send that finds nothing goes on as `doesNotUnderstand:`
not_understood : line (understanding (to m.self_value (codes "other"))) ≡ codes "=> 8" ++ 10 ∷ []
unfolding none place digits
not_understood = refl

-- a cell for which there is no room ends the run
cells : line_within 12 (program (m.block 2) m.nil_value) ≡ codes "limit: cells" ++ 10 ∷ []
unfolding none place digits
cells = refl
