-- Programs of examples/ run: two as they are, and two with less to do.
use Rattle.std.proofs.Common.{◌≡◌, ℕ, List, [], ◌∷◌, ◌++◌, refl, Some, None, true, false}
use Rattle.std.specs.Prelude.{codes}
use Rattle.std.specs.Fmt.{digits}
use Rattle.ns_tree.specs.declared.tree.Access.TheVariants as access
use Rattle.ns_facets.specs.declared.row.Grants.{Grants}
use Rattle.ns_resolved.specs.Program as m
use Rattle.ns_model.specs.Whole.{meaning_of_run}
use Rattle.ns_model.proofs.ClassExamples.{number, sent, to, to_with, to_own, to_super, plus, body, returns, head, begins, first, shows, inside, class_in}

all : Grants
all = record { console = true; kernel = true; mirrors = true; board = true }

-- what a program prints with so many bytes of output at most
abbrev printed_within : ℕ → m.Meant → List ℕ
printed_within out meant = (meaning_of_run meant [] all (record { steps = 60; cells = 200; depth = 12; out = out })).output

abbrev printed : m.Meant → List ℕ
printed meant = printed_within 40 meant

-- ---- words for these programs

-- the first class of a file, of a name, whose main method has this number
abbrev unit : List ℕ → ℕ → List m.Nested → List m.Method → m.Declaration
unit name main nested methods =
    record (class_in 0 name None 0 [] nested (shows (codes "main:args:") main ∷ methods)) { outer = None; factory = codes "packageUsing:"; params = 1 }

-- its initialiser, and its main method with so many locals more
abbrev unit_begins : m.Body
unit_begins = record (begins 0 (codes "manifest" ∷ []) m.no_nodes []) { params = 1 }

abbrev main : List (List ℕ) → List m.Step → m.Body
main locals steps = body 0 2 (codes "platform" ∷ codes "args" ∷ locals) (m.as_method [] steps)

abbrev one : m.Node → m.Nodes
one node = m.more_nodes node m.no_nodes

abbrev two : m.Node → m.Node → m.Nodes
two left right = m.more_nodes left (one right)

-- platform console printLine: VALUE; printLine: OTHER
abbrev print_lines : m.Node → m.Node → m.Step
print_lines value other =
    m.evaluate (m.cascade (to (m.local 0 0) (codes "console"))
    (m.more_messages (sent (codes "printLine:")) (one value) (m.last_message (sent (codes "printLine:")) (one other))))

-- platform console printLine: VALUE
abbrev print_line : m.Node → m.Step
print_line value = m.evaluate (to_with (to (m.local 0 0) (codes "console")) (codes "printLine:") value)

-- ---- Hello

abbrev hello : m.Meant
hello =
    record {
      files = codes "Hello.ns" ∷ [];
      classes = unit (codes "Hello") 1 [] [] ∷ [];
      bodies = unit_begins ∷ main [] (print_line (m.text (codes "Hello")) ∷ []) ∷ [];
    }

hello_prints : printed hello ≡ codes "Hello" ++ 10 ∷ []
unfolding all digits
hello_prints = refl

-- a line that doesn't fit whole isn't begun
hello_is_not_begun : printed_within 5 hello ≡ []
unfolding all digits
hello_is_not_begun = refl

hello_ends_at_the_limit : (meaning_of_run hello [] all (record { steps = 60; cells = 200; depth = 12; out = 5 })).line ≡ codes "limit: out" ++ 10 ∷ []
unfolding all digits
hello_ends_at_the_limit = refl

-- three steps are too few, and four are enough
hello_in_three_steps : (meaning_of_run hello [] all (record { steps = 3; cells = 200; depth = 12; out = 40 })).line ≡ codes "limit: steps" ++ 10 ∷ []
unfolding all digits
hello_in_three_steps = refl

hello_in_four_steps : (meaning_of_run hello [] all (record { steps = 4; cells = 200; depth = 12; out = 40 })).line ≡ codes "=> object Hello" ++ 10 ∷ []
unfolding all digits
hello_in_four_steps = refl

-- ---- Override: inherited code makes instances of the nested class that overrides

abbrev joined : m.Node → m.Node → m.Node
joined left right = to_with left (codes ",") right

abbrev receipt_of : List ℕ → m.Node
receipt_of bakery = to (to (to_own (m.enclosing 0) bakery) (codes "new")) (codes "receipt")

-- | bread | bread:: Bread new. ^bread name , ': ' , bread price printString
abbrev receipt : m.Body
receipt =
    body 1 0 (codes "bread" ∷ [])
    (m.as_method []
    (m.evaluate (m.set_local 0 0 (to (to_own (m.enclosing 0) (codes "Bread")) (codes "new")))
    ∷ m.return (joined (joined (to (m.local 0 0) (codes "name")) (m.text (codes ": "))) (to (to (m.local 0 0) (codes "price")) (codes "printString"))) ∷ []))

abbrev override : m.Meant
override =
    record {
      files = codes "Override.ns" ∷ [];
      classes = unit (codes "Override") 1 (inside 1 ∷ inside 3 ∷ []) []
          ∷ class_in 0 (codes "Bakery") None 2 [] (inside 2 ∷ []) (shows (codes "receipt") 3 ∷ [])
          ∷ class_in 1 (codes "Bread") None 4 [] [] (shows (codes "name") 5 ∷ shows (codes "price") 6 ∷ [])
          ∷ class_in 0 (codes "OrganicBakery") (Some 7) 8 [] (inside 4 ∷ []) []
          ∷ class_in 3 (codes "Bread") (Some 9) 10 [] [] (shows (codes "name") 11 ∷ shows (codes "price") 12 ∷ []) ∷ [];
      bodies = unit_begins ∷ main [] (print_lines (receipt_of (codes "Bakery")) (receipt_of (codes "OrganicBakery")) ∷ []) ∷ begins 1 [] m.no_nodes []
          ∷ receipt ∷ begins 2 [] m.no_nodes [] ∷ returns 2 (m.text (codes "bread")) ∷ returns 2 (number 3) ∷ head (to_own (m.enclosing 0) (codes "Bakery"))
          ∷ begins 3 [] m.no_nodes [] ∷ record (head (to_super (codes "Bread"))) { class = 3 } ∷ begins 4 [] m.no_nodes []
          ∷ returns 4 (joined (m.text (codes "organic ")) (to_super (codes "name"))) ∷ returns 4 (plus (to_super (codes "price")) (number 2)) ∷ [];
    }

override_prints : printed override ≡ codes "bread: 3" ++ 10 ∷ codes "organic bread: 5" ++ 10 ∷ []
unfolding all digits
override_prints = refl

-- ---- Search: `^` in a block returns from its method, past `do:` and `ifTrue:`

abbrev block : ℕ → ℕ → List (List ℕ) → m.Step → m.Body
block parent params locals step = record (body 0 params locals (m.as_block [] (step ∷ []))) { parent = Some parent }

-- firstOf: {3. 5} suchThat: TEST otherwise: ALTERNATIVE
abbrev first_of : ℕ → ℕ → m.Node
first_of test alternative =
    m.send_to (m.private_of 0) (sent (codes "firstOf:suchThat:otherwise:"))
    (m.more_nodes (m.array (two (number 3) (number 5))) (two (m.block test) (m.block alternative)))

abbrev more_than : ℕ → m.Step
more_than n = m.evaluate (to_with (m.local 0 0) (codes ">") (number n))

-- elements do: [:each | (test value: each) ifTrue: [^each]]. ^alternative value
abbrev search : m.Meant
search =
    record {
      files = codes "Search.ns" ∷ [];
      classes = unit (codes "Search") 4 [] (record { selector = codes "firstOf:suchThat:otherwise:"; access = access.Private; body = 1 } ∷ []) ∷ [];
      bodies = unit_begins
          ∷ record (body 0 3 (codes "elements" ∷ codes "test" ∷ codes "alternative" ∷ [])
          (m.as_method [] (m.evaluate (to_with (m.local 0 0) (codes "do:") (m.block 2)) ∷ m.return (to (m.local 0 2) (codes "value")) ∷ [])))
          { environment = true }
          ∷ record (block 1 1 (codes "each" ∷ []) (m.evaluate (to_with (to_with (m.local 1 1) (codes "value:") (m.local 0 0)) (codes "ifTrue:") (m.block 3))))
          { environment = true }
          ∷ block 2 0 [] (m.return (m.local 1 0)) ∷ record (main [] (print_lines (first_of 5 6) (first_of 7 8) ∷ [])) { environment = true }
          ∷ block 4 1 (codes "n" ∷ []) (more_than 4) ∷ block 4 0 [] (m.evaluate (number 0)) ∷ block 4 1 (codes "n" ∷ []) (more_than 9)
          ∷ block 4 0 [] (m.evaluate (m.text (codes "none"))) ∷ [];
    }

search_prints : printed search ≡ codes "5" ++ 10 ∷ codes "none" ++ 10 ∷ []
unfolding all digits
search_prints = refl

-- ---- Proxy: what isn't understood is told, and sent on by a mirror

abbrev own_slot : List ℕ → m.Slot
own_slot name = record { name = name; access = access.Private; mutable = false }

-- balance:: balance + amount
abbrev deposit : m.Body
deposit =
    body 1 1 (codes "amount" ∷ [])
    (m.as_method [] (m.evaluate (m.set_by_send (m.enclosing 0) (sent (codes "balance:")) (plus (to_own (m.enclosing 0) (codes "balance")) (m.local 0 0))) ∷ []))

-- console printLine: message selector. ^mirror perform: message selector with: message arguments
abbrev tells : m.Body
tells =
    body 2 1 (codes "message" ∷ [])
    (m.as_method []
    (m.evaluate (to_with (to_own (m.private_of 0) (codes "console")) (codes "printLine:") (to (m.local 0 0) (codes "selector")))
    ∷ m.return (m.send (to_own (m.private_of 0) (codes "mirror")) (sent (codes "perform:with:"))
    (two (to (m.local 0 0) (codes "selector")) (to (m.local 0 0) (codes "arguments")))) ∷ []))

-- | account | account:: Tracer on: Account new usingPlatform: platform. account deposit: 30. platform console printLine: account balance
abbrev proxy : m.Meant
proxy =
    record {
      files = codes "Proxy.ns" ∷ [];
      classes = unit (codes "Proxy") 1 (inside 1 ∷ inside 2 ∷ []) []
          ∷ class_in 0 (codes "Account") None 2 (record { name = codes "balance"; access = access.Public; mutable = true } ∷ []) [] (shows (codes "deposit:") 3 ∷ [])
          ∷ record (class_in 0 (codes "Tracer") None 4 (own_slot (codes "mirror") ∷ own_slot (codes "console") ∷ []) []
          (record { selector = codes "doesNotUnderstand:"; access = access.Protected; body = 5 } ∷ []))
          { factory = codes "on:usingPlatform:"; params = 2 }
          ∷ [];
      bodies = unit_begins
          ∷ main (codes "account" ∷ [])
          (m.evaluate (m.set_local 0 2 (m.send (to_own (m.enclosing 0) (codes "Tracer")) (sent (codes "on:usingPlatform:"))
          (two (to (to_own (m.enclosing 0) (codes "Account")) (codes "new")) (m.local 0 0))))
          ∷ m.evaluate (to_with (m.local 0 2) (codes "deposit:") (number 30)) ∷ print_line (to (m.local 0 2) (codes "balance")) ∷ [])
          ∷ begins 1 [] m.no_nodes (first (number 0)) ∷ deposit
          ∷ record (begins 2 (codes "target" ∷ codes "platform" ∷ []) m.no_nodes
          (record { index = 0; value = to_with (to (m.local 0 1) (codes "mirrors")) (codes "on:") (m.local 0 0) }
          ∷ record { index = 1; value = to (m.local 0 1) (codes "console") } ∷ []))
          { params = 2 }
          ∷ tells ∷ [];
    }

proxy_prints : printed proxy ≡ codes "deposit:" ++ 10 ∷ codes "balance" ++ 10 ∷ codes "30" ++ 10 ∷ []
unfolding all digits
proxy_prints = refl
