-- What the file W.ns means, with the class W of: x = () (who = (^'outer') class In = Base (private own = (^[who]))).
use Rattle.std.specs.Prelude.{ℕ, List, [], ◌∷◌, Some, None, codes, false, true}
use Rattle.ns_base.specs.declared.place.Place.{Place}
use Rattle.ns_tree.specs.declared.tree.Access.TheVariants as a
use Rattle.ns_scope.specs.declared.scope.CodeSide.TheVariants as side
use Rattle.ns_resolved.specs.Program as m

-- the place of a token, which stands in the column of its number
abbrev pub at_column : ℕ → Place
at_column n = record { file = 0; line = 1; col = n }

-- a message with the selector, at that place
abbrev pub sent : List ℕ → ℕ → m.Sent
sent selector n = record { selector = selector; place = at_column n }

-- a body without parameters, locals and blocks
abbrev pub plain_body : ℕ → m.Does → m.Body
plain_body class does =
    record { side = side.Instance; class = class; parent = None; params = 0; locals = []; environment = false; does = does }

abbrev pub bare_initialiser : ℕ → m.Does
bare_initialiser n = m.as_initialiser (record { place = at_column n; arguments = m.no_nodes; slots = []; expressions = [] })

-- what the file with that class means
abbrev pub expected : m.Meant
expected =
    record {
      files = codes "W.ns" ∷ [];
      classes =
          record {
            name = codes "W";
            outer = None;
            factory = codes "of:";
            params = 1;
            clause = None;
            initialiser = 0;
            super_selector = codes "new";
            slots = [];
            nested = record { class = 1; access = a.Protected } ∷ [];
            methods = record { selector = codes "who"; access = a.Protected; body = 1 } ∷ [];
            side_methods = [];
          }
          ∷ record {
            name = codes "In";
            outer = Some 0;
            factory = codes "new";
            params = 0;
            clause = Some 2;
            initialiser = 3;
            super_selector = codes "new";
            slots = [];
            nested = [];
            methods = record { selector = codes "own"; access = a.Private; body = 4 } ∷ [];
            side_methods = [];
          }
          ∷ [];
      bodies =
          record (plain_body 0 (bare_initialiser 1)) { params = 1; locals = codes "x" ∷ [] }
          ∷ plain_body 0 (m.as_method [] (m.return (m.text (codes "outer")) ∷ []))
          ∷ plain_body 0 (m.as_clause (m.send_to m.own (sent (codes "Base") 10) m.no_nodes))
          ∷ plain_body 1 (bare_initialiser 8)
          ∷ record (plain_body 1 (m.as_method [] (m.return (m.block 5) ∷ []))) { environment = true }
          ∷ record (plain_body 1 (m.as_block [] (m.evaluate (m.send_to (m.enclosing 1) (sent (codes "who") 14) m.no_nodes) ∷ []))) { parent = Some 4 }
          ∷ [];
    }
