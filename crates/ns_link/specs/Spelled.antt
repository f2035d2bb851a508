-- What the spelling of a class's names gives: identifiers, and patterns with as many parameters as their selectors take.
use Rattle.std.specs.Prelude.{◌≡◌, true, length, Option, Some, None}
use Rattle.ns_base.specs.Spelling.{is_identifier}
use Rattle.ns_tree.specs.Plain as p
use Rattle.ns_scope.specs.Names.{selector_of}
use Rattle.ns_code.specs.Selector.{text_arity}

-- A pattern has as many parameters as its selector takes arguments.
abbrev pub PatternTakes : p.Pattern → Type 0
PatternTakes (p.pattern_with parts params) = length params ≡ text_arity (selector_of parts)

abbrev pub FactoryTakes : Option p.Pattern → Type 0
FactoryTakes None = Unit {0}
FactoryTakes (Some pattern) = PatternTakes pattern

abbrev pub MethodTakes : p.Method → Type 0
MethodTakes (p.method_with pattern bars body) = PatternTakes pattern

abbrev pub WhatTakes : p.What → Type 0
WhatTakes (p.class_member class) = Unit {0}
WhatTakes (p.method_member method) = MethodTakes method

abbrev pub MembersTake : p.Members → Type 0
MembersTake p.no_members = Unit {0}
MembersTake (p.more_members (p.member_with categories access what) rest) = WhatTakes what × MembersTake rest

abbrev pub SideTakes : p.Side → Type 0
SideTakes (p.side_with members tail) = MembersTake members

abbrev pub ClassSideTakes : p.ClassSide → Type 0
ClassSideTakes p.no_class_side = Unit {0}
ClassSideTakes (p.class_side_with others) = SideTakes others

-- A class side declares methods alone.
abbrev pub IsMethod : p.What → Type 0
IsMethod (p.class_member class) = ⊥
IsMethod (p.method_member method) = Unit {0}

abbrev pub AreMethods : p.Members → Type 0
AreMethods p.no_members = Unit {0}
AreMethods (p.more_members (p.member_with categories access what) rest) = IsMethod what × AreMethods rest

abbrev pub HasMethodsAlone : p.ClassSide → Type 0
HasMethodsAlone p.no_class_side = Unit {0}
HasMethodsAlone (p.class_side_with (p.side_with members tail)) = AreMethods members

-- The names of slots are identifiers.
abbrev pub SlotsNamed : p.Slots → Type 0
SlotsNamed p.no_slots = Unit {0}
SlotsNamed (p.more_slots (p.slot_with access name init) rest) = (is_identifier name.text ≡ true) × SlotsNamed rest

abbrev pub BarsNamed : p.Bars → Type 0
BarsNamed p.no_bars = Unit {0}
BarsNamed (p.bars_around slots) = SlotsNamed slots

-- The names of a class and of its slots are identifiers, its patterns take what their selectors say, and its class side
-- declares methods alone.
abbrev pub HasSpelledNames : p.Class → Type 0
HasSpelledNames (p.class_with name factory clause bars body members others) =
    (is_identifier name.text ≡ true) × FactoryTakes factory × BarsNamed bars × SideTakes members × ClassSideTakes others
    × HasMethodsAlone others
