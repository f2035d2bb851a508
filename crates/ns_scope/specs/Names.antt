-- What a body and a side declare, in the order of the text.
use Rattle.std.specs.Prelude.{ℕ, ◌+◌, List, [], ◌∷◌, ◌++◌, map, flat_map, fold, Option, Some, None, codes}
use Rattle.ns_tree.specs.declared.tree.Named.{Named}
use Rattle.ns_tree.specs.declared.tree.Access.{Access}
use Rattle.ns_tree.specs.declared.tree.Access.TheVariants as a
use Rattle.ns_tree.specs.Plain as p
use Rattle.ns_scope.specs.declared.names.Declared.{Declared}
use Rattle.ns_scope.specs.declared.names.Local.{Local}
use Rattle.ns_scope.specs.declared.names.Setting.{Setting}
use Rattle.ns_scope.specs.declared.names.Setting.TheVariants as s
use Rattle.ns_scope.specs.Table.{TableOf, put_first}

abbrev pub declare : {V : Type 0} → List ℕ → ℕ → V → Declared V
declare name at value = record { name = name; at = at; value = value }

-- what each name stands for; the first that declares it decides
abbrev pub table_of : {V : Type 0} → List (Declared V) → TableOf V
table_of declared = fold (λ table d. put_first table d.name d.value) [] declared

-- ---- locals

-- a local of the form `x = e.` can't be set
abbrev pub setting_of : p.SlotInit → Setting
setting_of (p.fixed value) = s.Fixed
setting_of (p.mutable value) = s.Mutable
setting_of (p.bare stop) = s.Mutable

-- a parameter can't be set
abbrev pub param_settings : List Named → List (Named × Setting)
param_settings params = map (λ param. (param, s.Fixed)) params

abbrev pub slot_settings : p.Slots → List (Named × Setting)
slot_settings p.no_slots = []
slot_settings (p.more_slots (p.slot_with access name init) rest) = (name, setting_of init) ∷ slot_settings rest

abbrev pub bars_settings : p.Bars → List (Named × Setting)
bars_settings p.no_bars = []
bars_settings (p.bars_around slots) = slot_settings slots

-- locals, with their numbers from this one on
abbrev pub numbered : ℕ → List (Named × Setting) → List (Declared Local)
numbered index [] = []
numbered index (x ∷ rest) = declare x.0.text x.0.at (record { index = index; setting = x.1 }) ∷ numbered (index + 1) rest

-- what a body declares: its parameters, and then its locals
abbrev pub locals_of : List Named → p.Bars → List (Declared Local)
locals_of params bars = numbered 0 (param_settings params ++ bars_settings bars)

-- ---- members

abbrev pub access_or : Access → Option Access → Access
access_or other None = other
access_or other (Some access) = access

abbrev pub setter_of : List ℕ → List ℕ
setter_of name = name ++ codes ":"

-- a getter, and a setter where the slot is mutable
abbrev pub getter_setter : Setting → List ℕ → ℕ → Access → List (Declared Access)
getter_setter s.Fixed name at access = declare name at access ∷ []
getter_setter s.Mutable name at access = declare name at access ∷ declare (setter_of name) at access ∷ []

abbrev pub slot_members : p.Slots → List (Declared Access)
slot_members p.no_slots = []
slot_members (p.more_slots (p.slot_with access name init) rest) =
    getter_setter (setting_of init) name.text name.at (access_or a.Protected access) ++ slot_members rest

abbrev pub bars_members : p.Bars → List (Declared Access)
bars_members p.no_bars = []
bars_members (p.bars_around slots) = slot_members slots

-- the parts of a pattern, joined
abbrev pub selector_of : List Named → List ℕ
selector_of parts = flat_map (λ part. part.text) parts

-- the number of the first part's token
abbrev pub start_of : List Named → ℕ
start_of [] = 0
start_of (part ∷ parts) = part.at

-- a class or method, with this access
abbrev pub what_member : Access → p.What → Declared Access
what_member access (p.class_member (p.class_with name factory clause bars body side other)) = declare name.text name.at access
what_member access (p.method_member (p.method_with (p.pattern_with parts params) bars body)) = declare (selector_of parts) (start_of parts) access

-- members, which have this access where no word says another
abbrev pub members_named : Access → p.Members → List (Declared Access)
members_named other p.no_members = []
members_named other (p.more_members (p.member_with categories access what) rest) = what_member (access_or other access) what ∷ members_named other rest

abbrev pub side_members : Access → p.Side → List (Declared Access)
side_members other (p.side_with members tail) = members_named other members

-- the members of the instance side: getters and setters, nested classes and methods; without a word they are protected
abbrev pub instance_members : p.Bars → p.Side → List (Declared Access)
instance_members bars side = bars_members bars ++ side_members a.Protected side

-- the members of the class side, to which the factory doesn't belong; without a word they are public
abbrev pub class_members : p.ClassSide → List (Declared Access)
class_members p.no_class_side = []
class_members (p.class_side_with side) = side_members a.Public side
