-- Rules of classes in a small program: enclosing objects, super, overridden nested classes, mixins, superclass parts.
use Rattle.std.proofs.Common.{◌≡◌, ℕ, List, [], ◌∷◌, ◌++◌, refl, Option, Some, None, true, false}
use Rattle.std.specs.Prelude.{codes, pos}
use Rattle.std.specs.Fmt.{digits}
use Rattle.ns_base.specs.declared.place.Place.{Place}
use Rattle.ns_tree.specs.declared.tree.Access.TheVariants as access
use Rattle.ns_scope.specs.declared.scope.CodeSide.TheVariants as side
use Rattle.ns_facets.specs.declared.row.Grants.{Grants}
use Rattle.ns_resolved.specs.Program as m
use Rattle.ns_model.specs.Whole.{meaning_of_run}

-- ---- the program
-- class P packageUsing: m = () (
--   class A = (| public n ::= 1. |) (
--     class In = () (
--       public it = (^1)  public far = (^kept)  public around = (^outer P kept)
--       public hidden = (^outer P secret)  public mine = (^n))
--     public get = (^In new)
--     public says = (^1))
--   class B = A () (
--     class In = super In () (public it = (^super it + 1))
--     public says = (^super says + 10))
--   class M = (| private count ::= 0. |) (public says = (count:: count + 1. ^super says + count))
--   class D of: x = (| public got = x. |) ()
--   class E = D of: 3 (| public more ::= got. |) ()
--   class F = D () ()
--   kept = (^5)
--   private secret = (^6)
--   public main: p args: a = (^MAIN))

abbrev pub place : Place
place = record { file = 0; line = 2; col = 3 }

none : Grants
none = record { console = false; kernel = false; mirrors = false; board = false }

abbrev pub number : ℕ → m.Node
number n = m.integer (pos n)

abbrev pub sent : List ℕ → m.Sent
sent selector = record { selector = selector; place = place }

abbrev pub to : m.Node → List ℕ → m.Node
to receiver selector = m.send receiver (sent selector) m.no_nodes

abbrev pub to_with : m.Node → List ℕ → m.Node → m.Node
to_with receiver selector argument = m.send receiver (sent selector) (m.more_nodes argument m.no_nodes)

abbrev pub to_own : m.Reach → List ℕ → m.Node
to_own reach selector = m.send_to reach (sent selector) m.no_nodes

abbrev pub to_super : List ℕ → m.Node
to_super selector = m.send_super (sent selector) m.no_nodes

abbrev pub plus : m.Node → m.Node → m.Node
plus left right = to_with left (codes "+") right

-- ---- bodies

abbrev pub body : ℕ → ℕ → List (List ℕ) → m.Does → m.Body
body class params locals does =
    record { side = side.Instance; class = class; parent = None; params = params; locals = locals; environment = false; does = does }

-- a method without parameters that returns this
abbrev pub returns : ℕ → m.Node → m.Body
returns class node = body class 0 [] (m.as_method [] (m.return node ∷ []))

abbrev pub head : m.Node → m.Body
head node = body 0 0 [] (m.as_clause node)

-- an initialiser that sends these arguments to the superclass, and fills slots
abbrev pub begins : ℕ → List (List ℕ) → m.Nodes → List m.First → m.Body
begins class locals arguments slots =
    record (body class 0 locals (m.as_initialiser (record { place = place; arguments = arguments; slots = slots; expressions = [] }))) { params = 0 }

abbrev pub first : m.Node → List m.First
first value = record { index = 0; value = value } ∷ []

abbrev one_more : List m.Step
one_more =
    m.evaluate (m.set_by_send (m.private_of 0) (sent (codes "count:")) (plus (to_own (m.private_of 0) (codes "count")) (number 1)))
    ∷ m.return (plus (to_super (codes "says")) (to_own (m.private_of 0) (codes "count"))) ∷ []

-- ---- classes

abbrev pub shows : List ℕ → ℕ → m.Method
shows selector body = record { selector = selector; access = access.Public; body = body }

abbrev slot : List ℕ → List m.Slot
slot name = record { name = name; access = access.Public; mutable = true } ∷ []

abbrev pub inside : ℕ → m.Nested
inside class = record { class = class; access = access.Protected }

-- a class in another, by its initialiser, its slots, its nested classes and its methods
abbrev pub class_in : ℕ → List ℕ → Option ℕ → ℕ → List m.Slot → List m.Nested → List m.Method → m.Declaration
class_in outer name clause initialiser slots nested methods =
    record {
      name = name;
      outer = Some outer;
      factory = codes "new";
      params = 0;
      clause = clause;
      initialiser = initialiser;
      super_selector = codes "new";
      slots = slots;
      nested = nested;
      methods = methods;
      side_methods = [];
    }

abbrev top : m.Declaration
top =
    record {
      name = codes "P";
      outer = None;
      factory = codes "packageUsing:";
      params = 1;
      clause = None;
      initialiser = 0;
      super_selector = codes "new";
      slots = [];
      nested = inside 1 ∷ inside 3 ∷ inside 5 ∷ inside 6 ∷ inside 7 ∷ inside 8 ∷ [];
      methods = record { selector = codes "kept"; access = access.Protected; body = 1 } ∷ record { selector = codes "secret"; access = access.Private; body = 2 }
          ∷ shows (codes "main:args:") 3 ∷ [];
      side_methods = [];
    }

abbrev program : m.Node → m.Meant
program main =
    record {
      files = codes "P.ns" ∷ [];
      classes = top
          ∷ class_in 0 (codes "A") None 4 (slot (codes "n")) (inside 2 ∷ []) (shows (codes "get") 5 ∷ shows (codes "says") 6 ∷ [])
          ∷ class_in 1 (codes "In") None 7 [] []
          (shows (codes "it") 8 ∷ shows (codes "far") 9 ∷ shows (codes "around") 10 ∷ shows (codes "hidden") 11 ∷ shows (codes "mine") 12 ∷ [])
          ∷ class_in 0 (codes "B") (Some 13) 14 [] (inside 4 ∷ []) (shows (codes "says") 15 ∷ [])
          ∷ class_in 3 (codes "In") (Some 16) 17 [] [] (shows (codes "it") 18 ∷ [])
          ∷ class_in 0 (codes "M") None 19 (record { name = codes "count"; access = access.Private; mutable = true } ∷ []) [] (shows (codes "says") 20 ∷ [])
          ∷ record (class_in 0 (codes "D") None 21 (record { name = codes "got"; access = access.Public; mutable = false } ∷ []) [] [])
          { factory = codes "of:"; params = 1 }
          ∷ record (class_in 0 (codes "E") (Some 22) 23 (slot (codes "more")) [] []) { super_selector = codes "of:" }
          ∷ class_in 0 (codes "F") (Some 24) 25 [] [] [] ∷ [];
      bodies = record (begins 0 (codes "m" ∷ []) m.no_nodes []) { params = 1 } ∷ returns 0 (number 5) ∷ returns 0 (number 6)
          ∷ body 0 2 (codes "p" ∷ codes "a" ∷ []) (m.as_method [] (m.return main ∷ [])) ∷ begins 1 [] m.no_nodes (first (number 1))
          ∷ returns 1 (to (to_own (m.enclosing 0) (codes "In")) (codes "new")) ∷ returns 1 (number 1) ∷ begins 2 [] m.no_nodes [] ∷ returns 2 (number 1)
          ∷ returns 2 (to_own (m.enclosing 2) (codes "kept")) ∷ returns 2 (to_own (m.enclosing 2) (codes "kept"))
          ∷ returns 2 (to_own (m.private_of 2) (codes "secret")) ∷ returns 2 (to_own (m.enclosing 1) (codes "n")) ∷ head (to_own (m.enclosing 0) (codes "A"))
          ∷ begins 3 [] m.no_nodes [] ∷ returns 3 (plus (to_super (codes "says")) (number 10)) ∷ head (to_super (codes "In")) ∷ begins 4 [] m.no_nodes []
          ∷ returns 4 (plus (to_super (codes "it")) (number 1)) ∷ begins 5 [] m.no_nodes (first (number 0)) ∷ body 5 0 [] (m.as_method [] one_more)
          ∷ record (begins 6 (codes "x" ∷ []) m.no_nodes (first (m.local 0 0))) { params = 1 } ∷ head (to_own (m.enclosing 0) (codes "D"))
          ∷ begins 7 [] (m.more_nodes (number 3) m.no_nodes) (first (to_own m.own (codes "got"))) ∷ head (to_own (m.enclosing 0) (codes "D")) ∷ begins 8 [] m.no_nodes [] ∷ [];
    }

abbrev says : m.Node → List ℕ
says main = (meaning_of_run (program main) [] none (record { steps = 30; cells = 200; depth = 10; out = 10 })).line

-- a nested class of the program, a new object of one, and the object that `A new get` answers, or `B new get`
abbrev class : List ℕ → m.Node
class name = to_own (m.enclosing 0) name

abbrev new : List ℕ → m.Node
new name = to (class name) (codes "new")

abbrev got : List ℕ → List ℕ → m.Node
got name selector = to (to (new name) (codes "get")) selector

-- ---- the rules

-- a name that a declaration further out has is sent to its object
enclosing_object : says (got (codes "A") (codes "far")) ≡ codes "=> 5" ++ 10 ∷ []
unfolding none digits
enclosing_object = refl

-- and one of the class around to the object in which this class was made
object_around : says (got (codes "A") (codes "mine")) ≡ codes "=> 1" ++ 10 ∷ []
unfolding none digits
object_around = refl

-- `outer N` reaches a private member of that declaration
outer_private : says (got (codes "A") (codes "hidden")) ≡ codes "=> 6" ++ 10 ∷ []
unfolding none digits
outer_private = refl

-- a send to super finds the member of the class above
super_found : says (to (new (codes "B")) (codes "says")) ≡ codes "=> 11" ++ 10 ∷ []
unfolding none digits
super_found = refl

-- code of a class makes instances of its own nested class
nested_class : says (got (codes "A") (codes "it")) ≡ codes "=> 1" ++ 10 ∷ []
unfolding none digits
nested_class = refl

-- and inherited code those of the one that overrides it
nested_class_overridden : says (got (codes "B") (codes "it")) ≡ codes "=> 2" ++ 10 ∷ []
unfolding none digits
nested_class_overridden = refl

-- a mixin goes over any superclass
mixin : says (to (to (to_with (class (codes "M")) (codes "<:") (class (codes "A"))) (codes "new")) (codes "says")) ≡ codes "=> 2" ++ 10 ∷ []
unfolding none digits
mixin = refl

-- and has slots of its own each time
mixin_twice : says (to (to (to_with (class (codes "M")) (codes "<:") (to_with (class (codes "M")) (codes "<:") (class (codes "A")))) (codes "new")) (codes "says"))
    ≡ codes "=> 3" ++ 10 ∷ []
unfolding none digits
mixin_twice = refl

-- nothing but a class is a superclass
mixin_of_a_number : says (to_with (class (codes "M")) (codes "<:") (number 3)) ≡ codes "P.ns:2:3: NotAClass M class <:" ++ 10 ∷ []
unfolding none digits
mixin_of_a_number = refl

-- the part of the superclass gets the arguments of its message
superclass_part : says (to (new (codes "E")) (codes "got")) ≡ codes "=> 3" ++ 10 ∷ []
unfolding none digits
superclass_part = refl

-- before the slots are filled
superclass_part_first : says (to (new (codes "E")) (codes "more")) ≡ codes "=> 3" ++ 10 ∷ []
unfolding none digits
superclass_part_first = refl

-- that message is to be the superclass's factory
superclass_mismatch : says (new (codes "F")) ≡ codes "P.ns:2:3: InitMismatch F class new" ++ 10 ∷ []
unfolding none digits
superclass_mismatch = refl

-- a setter that is sent answers its receiver
setter_answers : says (to_with (new (codes "A")) (codes "n:") (number 4)) ≡ codes "=> object A" ++ 10 ∷ []
unfolding none digits
setter_answers = refl
