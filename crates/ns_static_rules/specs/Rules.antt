-- The rules, each for the part of a tree at which it looks. A fault stands at the number of a token.
use Rattle.std.specs.Prelude.{ℕ, Bool, true, false, ◌&&◌, not, List, [], ◌∷◌, ◌++◌, map, Option, Some, None, slice_get, nat_eq, ◌-◌, if◌then◌else◌, codes}
use Rattle.std.specs.List.{list_any}
use Rattle.std.specs.Str.{bytes_eq}
use Rattle.ns_tree.specs.declared.tree.Named.{Named}
use Rattle.ns_tree.specs.declared.tree.Access.{Access}
use Rattle.ns_tree.specs.declared.tree.Base.{Base}
use Rattle.ns_tree.specs.declared.tree.Origin.{Origin}
use Rattle.ns_tree.specs.declared.tree.Origin.TheVariants as o
use Rattle.ns_tree.specs.Plain as p
use Rattle.ns_scope.specs.declared.names.Declared.{Declared}
use Rattle.ns_scope.specs.declared.names.Local.{Local}
use Rattle.ns_scope.specs.declared.names.Setting.{Setting}
use Rattle.ns_scope.specs.declared.names.Setting.TheVariants as s
use Rattle.ns_scope.specs.declared.scope.ClassScope.{ClassScope}
use Rattle.ns_scope.specs.declared.scope.Scope.{Scope}
use Rattle.ns_scope.specs.Resolve.{innermost}
use Rattle.ns_scope.specs.Table.{TableOf, has, put_first}
use Rattle.ns_static_rules.specs.declared.fault.StaticCause.{StaticCause}
use Rattle.ns_static_rules.specs.declared.fault.StaticCause.TheVariants as c
use Rattle.ns_static_rules.specs.declared.fault.Many.{Many}
use Rattle.ns_static_rules.specs.declared.fault.Many.TheVariants as many
use Rattle.ns_static_rules.specs.declared.fault.Role.{Role}
use Rattle.ns_static_rules.specs.declared.fault.Role.TheVariants as r

-- a cause, and the number of the token at which it stands
abbrev pub Found : Type 0
Found = ℕ × StaticCause

abbrev pub found_if : Bool → ℕ → StaticCause → List Found
found_if wrong at cause = if wrong then (at, cause) ∷ [] else []

abbrev pub found_at : Option ℕ → StaticCause → List Found
found_at None cause = []
found_at (Some at) cause = (at, cause) ∷ []

-- at the first that has so many before it
abbrev pub found_past : ℕ → Many → List ℕ → List Found
found_past most kind places = found_at (slice_get places most) (c.TooMany kind)

-- at each name that was declared before, in this table or here
abbrev pub found_repeated : {V : Type 0} → StaticCause → TableOf V → List (Declared V) → List Found
found_repeated cause seen [] = []
found_repeated cause seen (d ∷ rest) = found_if (has seen d.name) d.at cause ++ found_repeated cause (put_first seen d.name d.value) rest

-- ---- names that are declared

-- DuplicateMember, and TooMany(Members) past 1,023
abbrev pub members_found : List (Declared Access) → List Found
members_found members = found_repeated c.DuplicateMember [] members ++ found_past 1023 many.Members (map (λ d. d.at) members)

-- DuplicateLocal, and TooMany(Locals) past 255
abbrev pub locals_found : List (Declared Local) → List Found
locals_found locals = found_repeated c.DuplicateLocal [] locals ++ found_past 255 many.Locals (map (λ d. d.at) locals)

-- TooMany(Parameters) past 63 parameters of a pattern
abbrev pub params_found : List Named → List Found
params_found params = found_past 63 many.Parameters (map (λ param. param.at) params)

-- ---- expressions

abbrev pub setting_is_fixed : Setting → Bool
setting_is_fixed s.Fixed = true
setting_is_fixed s.Mutable = false

-- a parameter, or a local of the form `x = e.`
abbrev pub is_fixed : Option (ℕ × Local) → Bool
is_fixed None = false
is_fixed (Some found) = setting_is_fixed found.1.setting

-- FixedLocal: at `x::`, where x can't be set
abbrev pub set_found : Scope → Named → List Found
set_found scope name = found_if (is_fixed (innermost scope.bodies name.text)) name.at c.FixedLocal

-- BadReturn: at `^` outside methods
abbrev pub return_found : Scope → Option ℕ → List Found
return_found scope None = []
return_found scope (Some at) = found_if (not scope.in_method) at c.BadReturn

-- BareReceiver: at `super` or `outer` to which no message is sent
abbrev pub bare_found : Role → ℕ → List Found
bare_found r.Receiver at = []
bare_found r.Value at = (at, c.BareReceiver) ∷ []

-- NoSuchOuter: at the name of no enclosing class
abbrev pub outer_found : List ClassScope → Named → List Found
outer_found classes name = found_if (not (list_any (λ class. bytes_eq name.text class.name) classes)) name.at c.NoSuchOuter

-- PlainTooLarge: at a number that is an Integer with a minus alone
abbrev pub number_found : Bool → ℕ → ℕ → List Found
number_found minus size at = found_if (not minus && nat_eq size 9223372036854775808) at c.PlainTooLarge

-- ---- cascades

-- `super` or `outer N`
abbrev pub is_bare : p.Primary → Bool
is_bare p.super_word = true
is_bare (p.outer_name name) = true
is_bare _ = false

abbrev pub has_names : List Named → Bool
has_names [] = false
has_names (name ∷ names) = true

abbrev pub has_opers : p.Opers → Bool
has_opers p.no_opers = false
has_opers (p.more_opers name argument rest) = true

abbrev pub has_keys : p.Keys → Bool
has_keys p.no_keys = false
has_keys (p.more_keys name argument rest) = true

-- whether a message may be sent to it: it is more than `super` or `outer N`
abbrev pub is_written : p.UnExpr → Bool
is_written (p.un_with at primary names) = if has_names names then true else not (is_bare primary)

-- whether a primary with these unary messages is a message to a written receiver
abbrev pub unary_sends : p.Primary → List Named → Bool
unary_sends primary [] = false
unary_sends primary (name ∷ []) = not (is_bare primary)
unary_sends primary (name ∷ other ∷ names) = true

abbrev pub un_sends : p.UnExpr → Bool
un_sends (p.un_with at primary names) = unary_sends primary names

abbrev pub opers_send : p.UnExpr → p.Opers → Bool
opers_send first p.no_opers = un_sends first
opers_send first (p.more_opers name argument p.no_opers) = is_written first
opers_send first (p.more_opers name argument (p.more_opers other next rest)) = true

abbrev pub bin_sends : p.BinExpr → Bool
bin_sends (p.bin_with first more) = opers_send first more

abbrev pub written_bin : p.BinExpr → Bool
written_bin (p.bin_with first more) = if has_opers more then true else is_written first

-- whether an expression is a message to a written receiver: its last message is a keyword message, else the last
-- binary one, else the last unary one
abbrev pub sends_to_written : p.KeyExpr → Bool
sends_to_written (p.implicit keys) = false
sends_to_written (p.sent receiver keys) = if has_keys keys then written_bin receiver else bin_sends receiver

-- BadCascade: at the first `;`, where what stands before it is no message to a written receiver
abbrev pub cascade_found : p.KeyExpr → p.Cascade → List Found
cascade_found first p.no_messages = []
cascade_found first (p.more_messages at message rest) = found_if (not (sends_to_written first)) at c.BadCascade

-- ---- classes

abbrev pub origin_start : Origin → ℕ → ℕ
origin_start o.Here at = at
origin_start o.Super at = at - 1
origin_start (o.Outer name) at = name.at - 1

-- the number of a base's first token
abbrev pub base_start : Base → ℕ
base_start base = origin_start base.origin base.name.at

abbrev pub is_here : Origin → Bool
is_here o.Here = true
is_here o.Super = false
is_here (o.Outer name) = false

abbrev pub is_object_name : Base → Bool
is_object_name base = is_here base.origin && bytes_eq base.name.text (codes "Object")

abbrev pub is_new_message : p.Message → Bool
is_new_message (p.unary name) = bytes_eq name.text (codes "new")
is_new_message (p.binary name argument) = false
is_new_message (p.keywords keys) = false

-- no message, or `new`
abbrev pub is_new : Option p.Message → Bool
is_new None = true
is_new (Some message) = is_new_message message

-- `Object`, or `Object new`
abbrev pub is_object : p.SuperClause → Bool
is_object (p.clause_with head None message) = is_object_name head && is_new message
is_object (p.clause_with head (Some base) message) = false

abbrev pub clause_start : p.SuperClause → ℕ
clause_start (p.clause_with head over message) = base_start head

-- TopSuper: at the first token of a top-level clause that is neither
abbrev pub top_found : List ClassScope → p.SuperClause → List Found
top_found [] clause = found_if (not (is_object clause)) (clause_start clause) c.TopSuper
top_found (outer ∷ classes) clause = []

-- DuplicateTop: at the name of a top-level class that an earlier one has; the table is that of the earlier ones' names
abbrev pub top_name_found : TableOf ℕ → Named → List Found
top_name_found seen name = found_if (has seen name.text) name.at c.DuplicateTop
