-- What declarations and programs mean. Numbers beside them are those of the next declaration and of the next body.
use Rattle.std.specs.Prelude.{ℕ, ◌+◌, ◌-◌, ◌++◌, Bool, true, false, List, [], ◌∷◌, length, map, Option, Some, None, codes}
use Rattle.std.specs.Option.{option_map_or}
use Rattle.ns_base.specs.declared.place.Place.{Place}
use Rattle.ns_tree.specs.declared.tree.Named.{Named}
use Rattle.ns_tree.specs.declared.tree.Access.{Access}
use Rattle.ns_tree.specs.declared.tree.Access.TheVariants as a
use Rattle.ns_tree.specs.declared.tree.Base.{Base}
use Rattle.ns_tree.specs.declared.tree.Origin.{Origin}
use Rattle.ns_tree.specs.declared.tree.Origin.TheVariants as o
use Rattle.ns_tree.specs.Plain as p
use Rattle.ns_tree.specs.PlainOf.{unit_of}
use Rattle.ns_tree.specs.Parts.{unit_class}
use Rattle.ns_scope.specs.declared.program.Program.{Program}
use Rattle.ns_scope.specs.declared.scope.ClassScope.{ClassScope}
use Rattle.ns_scope.specs.declared.scope.Scope.{Scope}
use Rattle.ns_scope.specs.declared.scope.CodeSide.{CodeSide}
use Rattle.ns_scope.specs.declared.scope.CodeSide.TheVariants as side
use Rattle.ns_scope.specs.Names.{access_or, selector_of}
use Rattle.ns_scope.specs.Scopes.{class_scope, clause_scope, initialiser_scope, method_scope, factory_params}
use Rattle.ns_scope.specs.Bodies as b
use Rattle.ns_resolved.specs.Program as m
use Rattle.ns_resolved.specs.Expressions.{Standing, place_at, sent_at, name_sent, name_node, send_node, to_value, to_super, to_outer, one, joined, message_said}
use Rattle.ns_resolved.specs.Statements.{bars_values, statements_steps, body_with, routine, routine_bodies, message_bodies, bars_bodies}
use Rattle.ns_resolved.specs.Statements.{statements_bodies}
use Rattle.ns_resolved.specs.Tables.{step_node}

-- ---- where declarations stand

-- The declarations around, innermost first; the number of the innermost; the places of the file's tokens.
pub record Around : Type 0 where
  pub classes : List ClassScope
  pub outer : Option ℕ
  pub marks : List Place

-- in a file
abbrev pub in_file : List Place → Around
in_file marks = record { classes = []; outer = None; marks = marks }

-- in a class of this number
abbrev pub within : Around → ℕ → p.Class → Around
within around number class = record { classes = class_scope class ∷ around.classes; outer = Some number; marks = around.marks }

-- where the expressions of a body of a declaration stand
abbrev pub standing : Around → Scope → ℕ → ℕ → Standing
standing around scope class body = record { scope = scope; body = body; class = class; marks = around.marks }

-- ---- the superclass clause

-- a base is a message: a name, or a send to super or to an enclosing object
abbrev pub base_by : Standing → Origin → Named → m.Node
base_by here o.Here name = name_node here (name_sent here name)
base_by here o.Super name = send_node here.scope to_super (name_sent here name) m.no_nodes
base_by here (o.Outer class) name = send_node here.scope (to_outer class.text) (name_sent here name) m.no_nodes

abbrev pub base_node : Standing → Base → m.Node
base_node here base = base_by here base.origin base.name

-- how many tokens stand before a base's name
abbrev pub words_before : Origin → ℕ
words_before o.Here = 0
words_before o.Super = 1
words_before (o.Outer class) = 2

-- the number of the `<:` before a base
abbrev pub over_sign_at : Base → ℕ
over_sign_at base = base.name.at - words_before base.origin - 1

-- a base, or a mixin to which the superclass is sent by `<:`
abbrev pub head_node : Standing → Base → Option Base → m.Node
head_node here head None = base_node here head
head_node here head (Some over) =
    send_node here.scope (to_value (base_node here head)) (sent_at here (codes "<:") (over_sign_at over)) (one (base_node here over))

abbrev pub clause_body : Standing → p.SuperClause → m.Body
clause_body here (p.clause_with head over message) = body_with here None [] p.no_bars [] (m.as_clause (head_node here head over))

-- A nested class's clause is a body of the declaration around.
abbrev pub clause_bodies : Around → ℕ → Option p.SuperClause → List m.Body
clause_bodies around number None = []
clause_bodies around number (Some clause) =
    option_map_or (λ outer. clause_body (standing around (clause_scope around.classes) outer number) clause ∷ []) around.outer []

abbrev pub clause_number : Around → ℕ → Option p.SuperClause → Option ℕ
clause_number around number None = None
clause_number around number (Some clause) = option_map_or (λ outer. Some number) around.outer None

abbrev pub message_selector : p.Message → List ℕ
message_selector (p.unary name) = name.text
message_selector (p.binary name argument) = name.text
message_selector (p.keywords keys) = joined keys

-- the selector of the message that initialises the superclass part: that of the clause, or `new`
abbrev pub super_selector : Option p.SuperClause → List ℕ
super_selector (Some (p.clause_with head over (Some message))) = message_selector message
super_selector (Some (p.clause_with head over None)) = codes "new"
super_selector None = codes "new"

-- its arguments
abbrev pub super_arguments : Standing → ℕ → Option p.SuperClause → m.Nodes
super_arguments here next (Some (p.clause_with head over (Some message))) = (message_said here next message).arguments
super_arguments here next (Some (p.clause_with head over None)) = m.no_nodes
super_arguments here next None = m.no_nodes

-- the blocks in them
abbrev pub super_bodies : Standing → ℕ → Option p.SuperClause → List m.Body
super_bodies here next (Some (p.clause_with head over (Some message))) = message_bodies here next message
super_bodies here next (Some (p.clause_with head over None)) = []
super_bodies here next None = []

-- ---- the initialiser

-- the superclass part, the slots and the expressions of an initialiser, whose expressions stand so
abbrev pub initialiser_of : Standing → Named → Option p.SuperClause → p.Bars → p.Statements → m.Initialiser
initialiser_of here name clause bars body =
    record {
      place = place_at here.marks name.at;
      arguments = super_arguments here (here.body + 1) clause;
      slots = bars_values here (here.body + 1 + length (b.super_blocks here.scope clause)) 0 bars;
      expressions =
          map step_node (statements_steps here (here.body + 1 + length (b.super_blocks here.scope clause) + length (b.bars_blocks here.scope bars)) body);
    }

abbrev pub initialiser_body : Standing → p.Class → m.Body
initialiser_body here (p.class_with name factory clause bars body members others) =
    body_with here None (factory_params factory) p.no_bars
    (b.super_blocks here.scope clause ++ (b.bars_blocks here.scope bars ++ b.statements_blocks here.scope body))
    (m.as_initialiser (initialiser_of here name clause bars body))

-- the blocks in an initialiser
abbrev pub initialiser_inside : Standing → p.Class → List m.Body
initialiser_inside here (p.class_with name factory clause bars body members others) =
    super_bodies here (here.body + 1) clause
    ++ (bars_bodies here (here.body + 1 + length (b.super_blocks here.scope clause)) bars
    ++ statements_bodies here (here.body + 1 + length (b.super_blocks here.scope clause) + length (b.bars_blocks here.scope bars)) body)

-- ---- methods

-- where the expressions of a method of this number stand
abbrev pub in_method : Around → CodeSide → ℕ → ℕ → List Named → p.Bars → Standing
in_method around side class number params bars = standing around (method_scope around.classes side params bars) class number

-- a method and its blocks
abbrev pub method_bodies : Around → CodeSide → ℕ → ℕ → p.Method → List m.Body
method_bodies around side class number (p.method_with (p.pattern_with parts params) bars body) =
    routine (in_method around side class number params bars) None m.as_method params bars body
    ∷ routine_bodies (in_method around side class number params bars) bars body

abbrev pub what_methods : Around → CodeSide → ℕ → ℕ → p.What → List m.Body
what_methods around side class next (p.class_member inner) = []
what_methods around side class next (p.method_member method) = method_bodies around side class next method

abbrev pub members_methods : Around → CodeSide → ℕ → ℕ → p.Members → List m.Body
members_methods around side class next p.no_members = []
members_methods around side class next (p.more_members (p.member_with categories access what) rest) =
    what_methods around side class next what ++ members_methods around side class (next + length (b.member_methods around.classes side what)) rest

abbrev pub side_methods : Around → CodeSide → ℕ → ℕ → p.Side → List m.Body
side_methods around side class next (p.side_with members tail) = members_methods around side class next members

abbrev pub class_side_methods : Around → ℕ → ℕ → p.ClassSide → List m.Body
class_side_methods around class next p.no_class_side = []
class_side_methods around class next (p.class_side_with others) = side_methods around side.Class class next others

-- a method, with the number of its body
abbrev pub method_of : ℕ → Access → p.Method → m.Method
method_of number access (p.method_with (p.pattern_with parts params) bars body) =
    record { selector = selector_of parts; access = access; body = number }

abbrev pub what_listed : ℕ → Access → p.What → List m.Method
what_listed number access (p.class_member inner) = []
what_listed number access (p.method_member method) = method_of number access method ∷ []

-- the methods among members of the innermost declaration, which have this access where no word says another
abbrev pub methods_listed : Around → CodeSide → ℕ → Access → p.Members → List m.Method
methods_listed around side next other p.no_members = []
methods_listed around side next other (p.more_members (p.member_with categories access what) rest) =
    what_listed next (access_or other access) what ++ methods_listed around side (next + length (b.member_methods around.classes side what)) other rest

abbrev pub side_listed : Around → CodeSide → ℕ → Access → p.Side → List m.Method
side_listed around side next other (p.side_with members tail) = methods_listed around side next other members

abbrev pub class_side_listed : Around → ℕ → p.ClassSide → List m.Method
class_side_listed around next p.no_class_side = []
class_side_listed around next (p.class_side_with others) = side_listed around side.Class next a.Public others

-- ---- the bodies of a class

-- the initialiser and the methods of a class of this number, in which these stand
abbrev pub own_bodies : Around → ℕ → ℕ → p.Class → List m.Body
own_bodies around number next (p.class_with name factory clause bars body members others) =
    let class = p.class_with name factory clause bars body members others in
    let here = standing around (initialiser_scope around.classes factory) number next in
    let methods_next = next + length (b.initialiser_bodies around.classes class) in
    initialiser_body here class
    ∷ (initialiser_inside here class
    ++ (side_methods around side.Instance number methods_next members
    ++ class_side_methods around number (methods_next + length (b.side_bodies around.classes side.Instance members)) others))

abbrev mutual
  -- how many declarations a class and those in it are
  pub class_count : p.Class → ℕ
  class_count (p.class_with name factory clause bars body members others) = 1 + side_count members

  pub side_count : p.Side → ℕ
  side_count (p.side_with members tail) = members_count members

  pub members_count : p.Members → ℕ
  members_count p.no_members = 0
  members_count (p.more_members member rest) = member_count member + members_count rest

  pub member_count : p.Member → ℕ
  member_count (p.member_with categories access what) = what_count what

  pub what_count : p.What → ℕ
  what_count (p.class_member class) = class_count class
  what_count (p.method_member method) = 0

abbrev mutual
  -- the bodies of a class and of those in it
  pub class_bodies : Around → ℕ → ℕ → p.Class → List m.Body
  class_bodies around number next (p.class_with name factory clause bars body members others) =
      let class = p.class_with name factory clause bars body members others in
      let own_next = next + length (b.clause_bodies around.classes clause) in
      clause_bodies around next clause
      ++ (own_bodies (within around number class) number own_next class
      ++ nested_bodies (within around number class) (number + 1) (own_next + length (b.own_bodies (class_scope class ∷ around.classes) class)) members)

  pub nested_bodies : Around → ℕ → ℕ → p.Side → List m.Body
  nested_bodies around number next (p.side_with members tail) = members_bodies around number next members

  pub members_bodies : Around → ℕ → ℕ → p.Members → List m.Body
  members_bodies around number next p.no_members = []
  members_bodies around number next (p.more_members member rest) =
      member_bodies around number next member
      ++ members_bodies around (number + member_count member) (next + length (b.member_nested around.classes member)) rest

  pub member_bodies : Around → ℕ → ℕ → p.Member → List m.Body
  member_bodies around number next (p.member_with categories access what) = what_bodies around number next what

  pub what_bodies : Around → ℕ → ℕ → p.What → List m.Body
  what_bodies around number next (p.class_member class) = class_bodies around number next class
  what_bodies around number next (p.method_member method) = []

-- ---- declarations

-- without a pattern the factory is `new`
abbrev pub factory_selector : Option p.Pattern → List ℕ
factory_selector None = codes "new"
factory_selector (Some (p.pattern_with parts params)) = selector_of parts

abbrev pub is_mutable : p.SlotInit → Bool
is_mutable (p.bare stop) = true
is_mutable (p.fixed value) = false
is_mutable (p.mutable value) = true

abbrev pub slots_of : p.Slots → List m.Slot
slots_of p.no_slots = []
slots_of (p.more_slots (p.slot_with access name init) rest) =
    record { name = name.text; access = access_or a.Protected access; mutable = is_mutable init } ∷ slots_of rest

abbrev pub bars_slots : p.Bars → List m.Slot
bars_slots p.no_bars = []
bars_slots (p.bars_around slots) = slots_of slots

abbrev pub what_nested : ℕ → Access → p.What → List m.Nested
what_nested number access (p.class_member class) = record { class = number; access = access } ∷ []
what_nested number access (p.method_member method) = []

-- the classes among members, which are numbered from this one on
abbrev pub members_nested : ℕ → p.Members → List m.Nested
members_nested number p.no_members = []
members_nested number (p.more_members (p.member_with categories access what) rest) =
    what_nested number (access_or a.Protected access) what ++ members_nested (number + what_count what) rest

abbrev pub side_nested : ℕ → p.Side → List m.Nested
side_nested number (p.side_with members tail) = members_nested number members

-- a class of this number without those in it, whose first body has that number
abbrev pub declaration_of : Around → ℕ → ℕ → p.Class → m.Declaration
declaration_of around number next (p.class_with name factory clause bars body members others) =
    let class = p.class_with name factory clause bars body members others in
    let inside = within around number class in
    let initialiser = next + length (b.clause_bodies around.classes clause) in
    let methods_next = initialiser + length (b.initialiser_bodies inside.classes class) in
    record {
      name = name.text;
      outer = around.outer;
      factory = factory_selector factory;
      params = length (factory_params factory);
      clause = clause_number around next clause;
      initialiser = initialiser;
      super_selector = super_selector clause;
      slots = bars_slots bars;
      nested = side_nested (number + 1) members;
      methods = side_listed inside side.Instance methods_next a.Protected members;
      side_methods = class_side_listed inside (methods_next + length (b.side_bodies inside.classes side.Instance members)) others;
    }

abbrev mutual
  -- a class, and those in it
  pub class_declared : Around → ℕ → ℕ → p.Class → List m.Declaration
  class_declared around number next (p.class_with name factory clause bars body members others) =
      let class = p.class_with name factory clause bars body members others in
      let own_next = next + length (b.clause_bodies around.classes clause) in
      let inner_next = own_next + length (b.own_bodies (class_scope class ∷ around.classes) class) in
      declaration_of around number next class ∷ side_declared (within around number class) (number + 1) inner_next members

  pub side_declared : Around → ℕ → ℕ → p.Side → List m.Declaration
  side_declared around number next (p.side_with members tail) = members_declared around number next members

  pub members_declared : Around → ℕ → ℕ → p.Members → List m.Declaration
  members_declared around number next p.no_members = []
  members_declared around number next (p.more_members member rest) =
      member_declared around number next member
      ++ members_declared around (number + member_count member) (next + length (b.member_nested around.classes member)) rest

  pub member_declared : Around → ℕ → ℕ → p.Member → List m.Declaration
  member_declared around number next (p.member_with categories access what) = what_declared around number next what

  pub what_declared : Around → ℕ → ℕ → p.What → List m.Declaration
  what_declared around number next (p.class_member class) = class_declared around number next class
  what_declared around number next (p.method_member method) = []

-- ---- programs

-- how many declarations stand in units
abbrev pub units_count : List p.SourceUnit → ℕ
units_count [] = 0
units_count (unit ∷ units) = class_count (unit_class unit) + units_count units

-- the classes of units, each with the places of its tokens
abbrev pub units_declared : ℕ → ℕ → List p.SourceUnit → List (List Place) → List m.Declaration
units_declared number next [] marks = []
units_declared number next (unit ∷ units) [] = []
units_declared number next (unit ∷ units) (places ∷ marks) =
    class_declared (in_file places) number next (unit_class unit)
    ++ units_declared (number + class_count (unit_class unit)) (next + length (b.unit_bodies unit)) units marks

-- their bodies
abbrev pub units_bodies : ℕ → ℕ → List p.SourceUnit → List (List Place) → List m.Body
units_bodies number next [] marks = []
units_bodies number next (unit ∷ units) [] = []
units_bodies number next (unit ∷ units) (places ∷ marks) =
    class_bodies (in_file places) number next (unit_class unit)
    ++ units_bodies (number + class_count (unit_class unit)) (next + length (b.unit_bodies unit)) units marks

abbrev pub meant_of : List (List ℕ) → List p.SourceUnit → List (List Place) → m.Meant
meant_of files units marks = record { files = files; classes = units_declared 0 0 units marks; bodies = units_bodies 0 0 units marks }

-- what a program means
abbrev pub meant : Program → m.Meant
meant program = meant_of program.files (map unit_of program.units) program.marks
