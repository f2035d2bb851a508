-- What the bodies and the records of the classes of a program say.
use Rattle.std.proofs.Common.{ℕ, zero, suc, ◌+◌, ◌≤◌, List, [], ◌∷◌, length, refl, arith}
use Rattle.std.specs.Prelude.{false, Option, Some, None, All, codes}
use Rattle.std.specs.Option.{option_map_or}
use Rattle.std.proofs.lemmas.List.Elements.{All-nil, All-cons, All-append}
use Rattle.ns_base.specs.declared.place.Place.{Place}
use Rattle.ns_tree.specs.declared.token.Kind.TheVariants as k
use Rattle.ns_tree.specs.declared.token.Reserved.TheVariants as r
use Rattle.ns_tree.specs.declared.tree.Base.{Base}
use Rattle.ns_tree.specs.declared.tree.Named.{Named}
use Rattle.ns_tree.specs.declared.tree.Access.{Access}
use Rattle.ns_tree.specs.declared.tree.Access.TheVariants as a
use Rattle.ns_tree.specs.Flat.{equals, over_sign}
use Rattle.ns_tree.specs.Forms.{class_side_form}
use Rattle.ns_tree.specs.Grammar as g
use Rattle.ns_tree.specs.Lists.{member_list}
use Rattle.ns_tree.specs.Plain as p
use Rattle.ns_tree.specs.Rule.{Rule, ◌&◌, many, maybe, ◌▸◌, ◌◂◌}
use Rattle.ns_scope.specs.declared.scope.CodeSide.{CodeSide}
use Rattle.ns_scope.specs.declared.scope.CodeSide.TheVariants as side
use Rattle.ns_scope.specs.Bodies as b
use Rattle.ns_scope.specs.Names.{access_or}
use Rattle.ns_scope.specs.Scopes.{class_scope, clause_scope, initialiser_scope, factory_params}
use Rattle.ns_code.specs.Fits.{IsLocalName}
use Rattle.ns_resolved.specs.Program as m
use Rattle.ns_resolved.specs.Expressions.{Standing}
use Rattle.ns_resolved.specs.Statements.{routine, routine_bodies, bars_bodies, statements_bodies}
use Rattle.ns_resolved.specs.Classes.{Around, within, standing, in_method, clause_bodies, clause_body, message_selector, super_selector, super_arguments, super_bodies}
use Rattle.ns_resolved.specs.Classes.{initialiser_body, initialiser_inside, method_bodies, members_methods, side_methods, class_side_methods}
use Rattle.ns_resolved.specs.Classes.{what_listed, methods_listed, side_listed, class_side_listed, own_bodies, class_bodies, nested_bodies, members_bodies}
use Rattle.ns_resolved.specs.Classes.{member_bodies, what_bodies, factory_selector, slots_of, bars_slots, declaration_of, class_declared, side_declared}
use Rattle.ns_resolved.specs.Classes.{members_declared, member_declared, what_declared, member_count}
use Rattle.ns_link.proofs.Held.{Held, AllHeld, both, behind, before, all_held}
use Rattle.ns_link.proofs.Says.{NodesSay, BodySays, MethodSays, SlotSays, ClassSays}
use Rattle.ns_link.proofs.SoundExpressions.{message_says}
use Rattle.ns_link.proofs.Blocks.{AreLocals, SlotsHeld, BarsHeld, local_gives, slot_gives, bars_held, locals_named, bars_say, statements_say, expressions_say}
use Rattle.ns_link.proofs.Inner.{BodiesSay, two, message_say, bars_bodies_say, statements_bodies_say}
use Rattle.ns_link.proofs.SoundPatterns.{PatternSays, pattern_says, factory_says, head_says}
use Rattle.ns_link.proofs.SoundTokens.{ident_held}
use Rattle.ns_link.proofs.Words.{Spoken, spoken_name, named_there}

new_spoken : Spoken (codes "new")
new_spoken = let few : length (codes "new") ≤ 1048576 = omega arith in spoken_name (codes "new") refl few

module _ (Fine : Place → Type 0) (deep : ℕ) where
  abbrev P : Rule p.Primary
  P = g.primary deep

  none : BodiesSay Fine []
  none = All-nil (BodySays Fine)

  -- ---- superclass clauses

  super_message : (marks : List Place) (message : p.Message) → Held Fine marks (g.super_message P) message → Held Fine marks (g.message P g.oper) message
  super_message marks (p.unary name) h = h
  super_message marks (p.binary name argument) h = absurd h.1
  super_message marks (p.keywords p.no_keys) h = absurd h.1
  super_message marks (p.keywords (p.more_keys name argument rest)) h = h

  abbrev ClauseHeld : List Place → Option p.SuperClause → Type 0
  ClauseHeld marks clause = Held Fine marks (maybe (g.clause P)) clause

  -- the message of a clause
  clause_message : (marks : List Place) (head : Base) (over : Option Base) (message : p.Message) → ClauseHeld marks (Some (p.clause_with head over (Some message))) →
      Held Fine marks (g.message P g.oper) message
  clause_message marks head over message h =
      let rest = maybe (over_sign ▸ g.base) & maybe (g.super_message P) in
      let parts = both Fine marks g.base rest head (over, Some message) h in
      super_message marks message (both Fine marks (maybe (over_sign ▸ g.base)) (maybe (g.super_message P)) over (Some message) parts.1).1

  clause_says : (here : Standing) (clause : p.SuperClause) → ClauseHeld here.marks (Some clause) → BodySays Fine (clause_body here clause)
  clause_says here (p.clause_with head over message) h =
      let rest = maybe (over_sign ▸ g.base) & maybe (g.super_message P) in
      let parts = both Fine here.marks g.base rest head (over, message) h in
      let others = both Fine here.marks (maybe (over_sign ▸ g.base)) (maybe (g.super_message P)) over message parts.1 in
      record { locals = All-nil IsLocalName; does = head_says Fine here head over parts.0 others.0 }

  clause_bodies_say : (clause : Option p.SuperClause) (around : Around) (number : ℕ) → ClauseHeld around.marks clause → BodiesSay Fine (clause_bodies around number clause)
  clause_bodies_say None around number h = none
  clause_bodies_say (Some clause) around number h = by around.outer where
    by : (outer : Option ℕ) → BodiesSay Fine (option_map_or (λ outer. clause_body (standing around (clause_scope around.classes) outer number) clause ∷ []) outer [])
    by None = none
    by (Some outer) =
        let here = standing around (clause_scope around.classes) outer number in
        All-cons (BodySays Fine) (clause_body here clause) [] (clause_says here clause h) none

  super_says : (clause : Option p.SuperClause) (here : Standing) (next : ℕ) → ClauseHeld here.marks clause → NodesSay Fine (super_arguments here next clause)
  super_says (Some (p.clause_with head over (Some message))) here next h =
      (message_says Fine here message deep false next (clause_message here.marks head over message h)).0
  super_says (Some (p.clause_with head over None)) here next h = tt
  super_says None here next h = tt

  super_bodies_say : (clause : Option p.SuperClause) (here : Standing) (next : ℕ) → ClauseHeld here.marks clause → BodiesSay Fine (super_bodies here next clause)
  super_bodies_say (Some (p.clause_with head over (Some message))) here next h =
      message_say Fine message deep false here next (clause_message here.marks head over message h)
  super_bodies_say (Some (p.clause_with head over None)) here next h = none
  super_bodies_say None here next h = none

  message_spoken : (message : p.Message) (here : Standing) → Held Fine here.marks (g.message P g.oper) message → Spoken (message_selector message)
  message_spoken (p.unary name) here h = (message_says Fine here (p.unary name) deep false 0 h).1.0
  message_spoken (p.binary name argument) here h = (message_says Fine here (p.binary name argument) deep false 0 h).1.0
  message_spoken (p.keywords keys) here h = (message_says Fine here (p.keywords keys) deep false 0 h).1.0

  super_spoken : (clause : Option p.SuperClause) (here : Standing) → ClauseHeld here.marks clause → Spoken (super_selector clause)
  super_spoken (Some (p.clause_with head over (Some message))) here h = message_spoken message here (clause_message here.marks head over message h)
  super_spoken (Some (p.clause_with head over None)) here h = new_spoken
  super_spoken None here h = new_spoken

  -- ---- methods

  -- the parts of a method
  method_parts : (marks : List Place) (parts params : List Named) (bars : p.Bars) (body : p.Statements) →
      Held Fine marks (g.method P) (p.method_with (p.pattern_with parts params) bars body) →
      PatternSays Fine marks parts params × BarsHeld Fine marks deep bars × Held Fine marks (g.stmts P) body
  method_parts marks parts params bars body h =
      let rest = g.bars P (g.local P) & g.stmts P ◂ k.Close in
      let both_parts = both Fine marks g.pattern (equals ▸ (k.Open ▸ rest)) (p.pattern_with parts params) (bars, body) h in
      let inner = behind Fine marks k.Open rest (bars, body) (behind Fine marks equals (k.Open ▸ rest) (bars, body) both_parts.1) in
      let others = both Fine marks (g.bars P (g.local P)) (g.stmts P ◂ k.Close) bars body inner in (
        pattern_says Fine marks parts params both_parts.0,
        bars_held Fine marks deep (g.local P) (local_gives Fine marks deep) bars others.0,
        before Fine marks (g.stmts P) k.Close body others.1,
      )

  method_say : (method : p.Method) (around : Around) (s : CodeSide) (class number : ℕ) → Held Fine around.marks (g.method P) method →
      BodiesSay Fine (method_bodies around s class number method)
  method_say (p.method_with (p.pattern_with parts params) bars body) around s class number h =
      let here = in_method around s class number params bars in
      let held = method_parts around.marks parts params bars body h in
      let next = number + 1 + length (b.bars_blocks here.scope bars) in
      All-cons (BodySays Fine) (routine here None m.as_method params bars body) (routine_bodies here bars body)
      (record {
        locals = locals_named Fine around.marks params bars deep held.0.1 held.1;
        does = (bars_say Fine here bars deep (number + 1) (length params) held.1, statements_say Fine here body deep next held.2);
      })
      (two Fine (bars_bodies here (number + 1) bars) (statements_bodies here next body) (bars_bodies_say Fine bars deep here (number + 1) held.1)
      (statements_bodies_say Fine body deep here next held.2))

  method_spoken : (method : p.Method) (marks : List Place) (number : ℕ) (access : Access) → Held Fine marks (g.method P) method →
      All MethodSays (what_listed number access (p.method_member method))
  method_spoken (p.method_with (p.pattern_with parts params) bars body) marks number access h =
      let held = method_parts marks parts params bars body h in All-cons MethodSays _ [] (record { selector = held.0.0 }) (All-nil MethodSays)

  -- what a member is
  what_method : (depth : ℕ) (marks : List Place) (method : p.Method) → Held Fine marks (g.what P depth) (p.method_member method) → Held Fine marks (g.method P) method
  what_method zero marks method h = h
  what_method (suc depth) marks method h = h

  member_what : (depth : ℕ) (marks : List Place) (categories : List (List ℕ)) (access : Option Access) (what : p.What) →
      Held Fine marks (g.member P (g.what P depth)) (p.member_with categories access what) → Held Fine marks (g.what P depth) what
  member_what depth marks categories access what h =
      let rest = maybe g.access & g.what P depth in
      (both Fine marks (maybe g.access) (g.what P depth) access what (both Fine marks (many g.string) rest categories (access, what) h).1).1

  abbrev MembersHeld : ℕ → List Place → p.Members → Type 0
  MembersHeld depth marks members = AllHeld Fine marks (g.member P (g.what P depth)) (member_list members)

  side_held : (depth : ℕ) (marks : List Place) (members : p.Members) (tail : List (List ℕ)) → Held Fine marks (g.side P (g.what P depth)) (p.side_with members tail) →
      MembersHeld depth marks members
  side_held depth marks members tail h =
      let member = g.member P (g.what P depth) in
      let rest = many member & many g.string ◂ k.Close in
      all_held Fine marks member (member_list members)
      (both Fine marks (many member) (many g.string ◂ k.Close) (member_list members) tail (behind Fine marks k.Open rest (member_list members, tail) h)).0

  members_say : (members : p.Members) (depth : ℕ) (around : Around) (s : CodeSide) (class next : ℕ) → MembersHeld depth around.marks members →
      BodiesSay Fine (members_methods around s class next members)
  members_say p.no_members depth around s class next h = none
  members_say (p.more_members (p.member_with categories access (p.class_member inner)) rest) depth around s class next h =
      members_say rest depth around s class _ h.1
  members_say (p.more_members (p.member_with categories access (p.method_member method)) rest) depth around s class next h =
      two Fine (method_bodies around s class next method) (members_methods around s class _ rest)
      (method_say method around s class next
      (what_method depth around.marks method (member_what depth around.marks categories access (p.method_member method) h.0)))
      (members_say rest depth around s class _ h.1)

  side_say : (members : p.Side) (depth : ℕ) (around : Around) (s : CodeSide) (class next : ℕ) → Held Fine around.marks (g.side P (g.what P depth)) members →
      BodiesSay Fine (side_methods around s class next members)
  side_say (p.side_with members tail) depth around s class next h = members_say members depth around s class next (side_held depth around.marks members tail h)

  abbrev OthersHeld : List Place → p.ClassSide → Type 0
  OthersHeld marks others = Held Fine marks (maybe (k.Colon ▸ g.side P (g.method_member P))) (class_side_form others)

  class_side_say : (others : p.ClassSide) (around : Around) (class next : ℕ) → OthersHeld around.marks others → BodiesSay Fine (class_side_methods around class next others)
  class_side_say p.no_class_side around class next h = none
  class_side_say (p.class_side_with others) around class next h =
      side_say others zero around side.Class class next (behind Fine around.marks k.Colon (g.side P (g.what P zero)) others h)

  members_spoken : (members : p.Members) (depth : ℕ) (around : Around) (s : CodeSide) (next : ℕ) (other : Access) → MembersHeld depth around.marks members →
      All MethodSays (methods_listed around s next other members)
  members_spoken p.no_members depth around s next other h = All-nil MethodSays
  members_spoken (p.more_members (p.member_with categories access (p.class_member inner)) rest) depth around s next other h =
      members_spoken rest depth around s _ other h.1
  members_spoken (p.more_members (p.member_with categories access (p.method_member method)) rest) depth around s next other h =
      All-append MethodSays (what_listed next (access_or other access) (p.method_member method)) (methods_listed around s _ other rest)
      (method_spoken method around.marks next (access_or other access)
      (what_method depth around.marks method (member_what depth around.marks categories access (p.method_member method) h.0)))
      (members_spoken rest depth around s _ other h.1)

  side_spoken : (members : p.Side) (depth : ℕ) (around : Around) (s : CodeSide) (next : ℕ) (other : Access) → Held Fine around.marks (g.side P (g.what P depth)) members →
      All MethodSays (side_listed around s next other members)
  side_spoken (p.side_with members tail) depth around s next other h =
      members_spoken members depth around s next other (side_held depth around.marks members tail h)

  class_side_spoken : (others : p.ClassSide) (around : Around) (next : ℕ) → OthersHeld around.marks others → All MethodSays (class_side_listed around next others)
  class_side_spoken p.no_class_side around next h = All-nil MethodSays
  class_side_spoken (p.class_side_with others) around next h =
      side_spoken others zero around side.Class next a.Public (behind Fine around.marks k.Colon (g.side P (g.what P zero)) others h)

  -- ---- classes

  -- the parts of a class
  record Parts (depth : ℕ) (marks : List Place) (name : Named) (factory : Option p.Pattern) (clause : Option p.SuperClause) (bars : p.Bars) (body : p.Statements)
      (members : p.Side) (others : p.ClassSide) : Type 0 where
    its_name : Held Fine marks g.ident name
    its_factory : Held Fine marks (maybe g.factory) factory
    its_clause : ClauseHeld marks clause
    its_bars : BarsHeld Fine marks deep bars
    its_body : Held Fine marks (g.stmts P) body
    its_members : Held Fine marks (g.side P (g.what P depth)) members
    its_others : OthersHeld marks others

  class_parts : (depth : ℕ) (marks : List Place) (name : Named) (factory : Option p.Pattern) (clause : Option p.SuperClause) (bars : p.Bars) (body : p.Statements)
      (members : p.Side) (others : p.ClassSide) →
      Held Fine marks (g.class P (g.what P depth)) (p.class_with name factory clause bars body members others) →
      Parts depth marks name factory clause bars body members others
  class_parts depth marks name factory clause bars body members others h =
      let side = g.side P (g.what P depth) in
      let other_side = maybe (k.Colon ▸ g.side P (g.method_member P)) in
      let sides = side & other_side in
      let inner = g.bars P (g.slot P) & g.stmts P ◂ k.Close in
      let code = k.Open ▸ inner in
      let clauses = maybe (g.clause P) in
      let behind_equals = clauses & (code & sides) in
      let behind_name = maybe g.factory & (equals ▸ behind_equals) in
      let other = class_side_form others in
      let one = behind Fine marks (k.Word r.Class) (g.ident & behind_name) (name, (factory, (clause, ((bars, body), (members, other))))) h in
      let two = both Fine marks g.ident behind_name name (factory, (clause, ((bars, body), (members, other)))) one in
      let three = both Fine marks (maybe g.factory) (equals ▸ behind_equals) factory (clause, ((bars, body), (members, other))) two.1 in
      let four = both Fine marks clauses (code & sides) clause ((bars, body), (members, other))
      (behind Fine marks equals behind_equals (clause, ((bars, body), (members, other))) three.1) in
      let five = both Fine marks code sides (bars, body) (members, other) four.1 in
      let six = both Fine marks side other_side members other five.1 in
      let seven = both Fine marks (g.bars P (g.slot P)) (g.stmts P ◂ k.Close) bars body (behind Fine marks k.Open inner (bars, body) five.0) in
      record {
        its_name = two.0;
        its_factory = three.0;
        its_clause = four.0;
        its_bars = bars_held Fine marks deep (g.slot P) (slot_gives Fine marks deep) bars seven.0;
        its_body = before Fine marks (g.stmts P) k.Close body seven.1;
        its_members = six.0;
        its_others = six.1;
      }

  factory_local : (factory : Option p.Pattern) (marks : List Place) → Held Fine marks (maybe g.factory) factory → AreLocals Fine marks (factory_params factory)
  factory_local None marks h = All-nil _
  factory_local (Some (p.pattern_with parts params)) marks h = (factory_says Fine marks parts params h).1

  factory_spoken : (factory : Option p.Pattern) (marks : List Place) → Held Fine marks (maybe g.factory) factory → Spoken (factory_selector factory)
  factory_spoken None marks h = new_spoken
  factory_spoken (Some (p.pattern_with parts params)) marks h = (factory_says Fine marks parts params h).0

  slots_spoken : (slots : p.Slots) (marks : List Place) → SlotsHeld Fine marks deep slots → All SlotSays (slots_of slots)
  slots_spoken p.no_slots marks h = All-nil SlotSays
  slots_spoken (p.more_slots (p.slot_with access name init) rest) marks h =
      let one = ident_held Fine marks name h.0 in
      All-cons SlotSays _ (slots_of rest) (record { name = named_there name.text one.0.0 one.1 }) (slots_spoken rest marks h.2)

  bars_spoken : (bars : p.Bars) (marks : List Place) → BarsHeld Fine marks deep bars → All SlotSays (bars_slots bars)
  bars_spoken p.no_bars marks h = All-nil SlotSays
  bars_spoken (p.bars_around slots) marks h = slots_spoken slots marks h

  own_say : (class : p.Class) (depth : ℕ) (around : Around) (number next : ℕ) → Held Fine around.marks (g.class P (g.what P depth)) class →
      BodiesSay Fine (own_bodies around number next class)
  own_say (p.class_with name factory clause bars body members others) depth around number next h =
      let class = p.class_with name factory clause bars body members others in
      let parts = class_parts depth around.marks name factory clause bars body members others h in
      let here = standing around (initialiser_scope around.classes factory) number next in
      let supers = length (b.super_blocks here.scope clause) in
      let slots = length (b.bars_blocks here.scope bars) in
      let methods_next = next + length (b.initialiser_bodies around.classes class) in
      let named = ident_held Fine around.marks name parts.its_name in
      All-cons (BodySays Fine) (initialiser_body here class) _
      (record {
        locals = locals_named Fine around.marks (factory_params factory) p.no_bars deep (factory_local factory around.marks parts.its_factory) tt;
        does = (
          super_says clause here (next + 1) parts.its_clause,
          named.2,
          bars_say Fine here bars deep (next + 1 + supers) 0 parts.its_bars,
          expressions_say Fine here body deep (next + 1 + supers + slots) parts.its_body,
        );
      })
      (two Fine (initialiser_inside here class) _
      (two Fine (super_bodies here (next + 1) clause) _ (super_bodies_say clause here (next + 1) parts.its_clause)
      (two Fine (bars_bodies here (next + 1 + supers) bars) (statements_bodies here (next + 1 + supers + slots) body)
      (bars_bodies_say Fine bars deep here (next + 1 + supers) parts.its_bars)
      (statements_bodies_say Fine body deep here (next + 1 + supers + slots) parts.its_body)))
      (two Fine (side_methods around side.Instance number methods_next members) _
      (side_say members depth around side.Instance number methods_next parts.its_members)
      (class_side_say others around number (methods_next + length (b.side_bodies around.classes side.Instance members)) parts.its_others)))

  record_says : (class : p.Class) (depth : ℕ) (around : Around) (number next : ℕ) → Held Fine around.marks (g.class P (g.what P depth)) class →
      ClassSays (declaration_of around number next class)
  record_says (p.class_with name factory clause bars body members others) depth around number next h =
      let class = p.class_with name factory clause bars body members others in
      let parts = class_parts depth around.marks name factory clause bars body members others h in
      let inside = within around number class in
      let named = ident_held Fine around.marks name parts.its_name in
      record {
        name = named_there name.text named.0.0 named.1;
        factory = factory_spoken factory around.marks parts.its_factory;
        super_selector = super_spoken clause (standing around (clause_scope around.classes) number next) parts.its_clause;
        slots = bars_spoken bars around.marks parts.its_bars;
        methods = side_spoken members depth inside side.Instance _ a.Protected parts.its_members;
        side_methods = class_side_spoken others inside _ parts.its_others;
      }

  mutual
    -- the bodies of a class and of those in it
    pub class_say : (class : p.Class) (depth : ℕ) (around : Around) (number next : ℕ) → Held Fine around.marks (g.class P (g.what P depth)) class →
        BodiesSay Fine (class_bodies around number next class)
    class_say (p.class_with name factory clause bars body members others) depth around number next h =
        let class = p.class_with name factory clause bars body members others in
        let parts = class_parts depth around.marks name factory clause bars body members others h in
        let inner = within around number class in
        let own_next = next + length (b.clause_bodies around.classes clause) in
        two Fine (clause_bodies around next clause) _ (clause_bodies_say clause around next parts.its_clause)
        (two Fine (own_bodies inner number own_next class) _ (own_say class depth inner number own_next h)
        (nested_say members depth inner (number + 1) (own_next + length (b.own_bodies (class_scope class ∷ around.classes) class)) parts.its_members))

    nested_say : (part : p.Side) (depth : ℕ) (around : Around) (number next : ℕ) → Held Fine around.marks (g.side P (g.what P depth)) part →
        BodiesSay Fine (nested_bodies around number next part)
    nested_say (p.side_with members tail) depth around number next h = inner_say members depth around number next (side_held depth around.marks members tail h)

    inner_say : (part : p.Members) (depth : ℕ) (around : Around) (number next : ℕ) → MembersHeld depth around.marks part →
        BodiesSay Fine (members_bodies around number next part)
    inner_say p.no_members depth around number next h = none
    inner_say (p.more_members member rest) depth around number next h =
        two Fine (member_bodies around number next member) _ (member_say member depth around number next h.0)
        (inner_say rest depth around (number + member_count member) (next + length (b.member_nested around.classes member)) h.1)

    member_say : (part : p.Member) (depth : ℕ) (around : Around) (number next : ℕ) → Held Fine around.marks (g.member P (g.what P depth)) part →
        BodiesSay Fine (member_bodies around number next part)
    member_say (p.member_with categories access what) depth around number next h =
        what_say what depth around number next (member_what depth around.marks categories access what h)

    what_say : (part : p.What) (depth : ℕ) (around : Around) (number next : ℕ) → Held Fine around.marks (g.what P depth) part →
        BodiesSay Fine (what_bodies around number next part)
    what_say (p.class_member class) zero around number next h = absurd h.1
    what_say (p.class_member class) (suc depth) around number next h = class_say class depth around number next h
    what_say (p.method_member method) depth around number next h = none

  -- ---- records

  abbrev pub RecordsSay : List m.Declaration → Type 0
  RecordsSay classes = All ClassSays classes

  mutual
    -- the records of a class and of those in it
    pub class_records : (class : p.Class) (depth : ℕ) (around : Around) (number next : ℕ) → Held Fine around.marks (g.class P (g.what P depth)) class →
        RecordsSay (class_declared around number next class)
    class_records (p.class_with name factory clause bars body members others) depth around number next h =
        let class = p.class_with name factory clause bars body members others in
        let parts = class_parts depth around.marks name factory clause bars body members others h in
        All-cons ClassSays (declaration_of around number next class) _ (record_says class depth around number next h)
        (side_records members depth (within around number class) (number + 1) _ parts.its_members)

    side_records : (part : p.Side) (depth : ℕ) (around : Around) (number next : ℕ) → Held Fine around.marks (g.side P (g.what P depth)) part →
        RecordsSay (side_declared around number next part)
    side_records (p.side_with members tail) depth around number next h = members_records members depth around number next (side_held depth around.marks members tail h)

    members_records : (part : p.Members) (depth : ℕ) (around : Around) (number next : ℕ) → MembersHeld depth around.marks part →
        RecordsSay (members_declared around number next part)
    members_records p.no_members depth around number next h = All-nil ClassSays
    members_records (p.more_members member rest) depth around number next h =
        All-append ClassSays (member_declared around number next member) _ (member_records member depth around number next h.0)
        (members_records rest depth around (number + member_count member) (next + length (b.member_nested around.classes member)) h.1)

    member_records : (part : p.Member) (depth : ℕ) (around : Around) (number next : ℕ) → Held Fine around.marks (g.member P (g.what P depth)) part →
        RecordsSay (member_declared around number next part)
    member_records (p.member_with categories access what) depth around number next h =
        what_records what depth around number next (member_what depth around.marks categories access what h)

    what_records : (part : p.What) (depth : ℕ) (around : Around) (number next : ℕ) → Held Fine around.marks (g.what P depth) part →
        RecordsSay (what_declared around number next part)
    what_records (p.class_member class) zero around number next h = absurd h.1
    what_records (p.class_member class) (suc depth) around number next h = class_records class depth around number next h
    what_records (p.method_member method) depth around number next h = All-nil ClassSays
