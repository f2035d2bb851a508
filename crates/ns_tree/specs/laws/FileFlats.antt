-- What a rule spells is the flat form of the tree: for primaries, declarations and files.
use Rattle.std.proofs.Common.{◌≡◌, refl, sym, ap, ◌∙◌, ℕ, zero, suc, ◌+◌, ◌⊎◌, inr, Bool, true, false, if◌then◌else◌, List, [], ◌∷◌, ◌++◌, length, Option, Some, None, option_map, append_assoc}
use Rattle.std.specs.Prelude.{flat_map, zip, codes}
use Rattle.ns_base.specs.Spelling.{starts_name}
use Rattle.ns_tree.specs.declared.token.Kind.{Kind}
use Rattle.ns_tree.specs.declared.token.Kind.TheVariants as k
use Rattle.ns_tree.specs.declared.token.Reserved.TheVariants as r
use Rattle.ns_tree.specs.declared.tree.Named.{Named}
use Rattle.ns_tree.specs.declared.tree.Base.{Base}
use Rattle.ns_tree.specs.declared.tree.Origin.{Origin}
use Rattle.ns_tree.specs.declared.tree.Origin.TheVariants as o
use Rattle.ns_tree.specs.Flat as fl
use Rattle.ns_tree.specs.Forms as f
use Rattle.ns_tree.specs.Grammar as g
use Rattle.ns_tree.specs.Lists.{expr_list, member_list}
use Rattle.ns_tree.specs.Plain as p
use Rattle.ns_tree.specs.Rule.{Rule, ◌&◌, flat_all, GoodAll, flat_option, GoodOption, either, mapped, flat_from, GoodFrom}
use Rattle.ns_tree.specs.Rule.{Listed, ◌▸◌, ◌◂◌, once_or_more}
use Rattle.ns_tree.specs.lemmas.Flats.{Same, both, strings_same, access_same, joined, more_joined, joined_flat, leaf_same, any_expr_same, slot_same, local_same, stmts_same}
use Rattle.ns_tree.specs.lemmas.Flats.{keys_same, bars_same}

-- ---- primaries

colons_same : (ns : List Named) → flat_all (k.Colon ▸ g.ident) ns ≡ flat_map (λ n. k.Colon ∷ fl.ident n ∷ []) ns
colons_same [] = refl
colons_same (n ∷ ns) = ap (λ w. k.Colon ∷ fl.ident n ∷ w) (colons_same ns)

block_params_same : (ns : List Named) → flat_option (once_or_more (k.Colon ▸ g.ident) ◂ fl.bar) (f.once_or_more_of ns) ≡ fl.flat_params ns
block_params_same [] = refl
block_params_same (n ∷ ns) = ap (λ w. k.Colon ∷ fl.ident n ∷ (w ++ fl.bar ∷ [])) (colons_same ns)

module _ (primary : Rule p.Primary) (P : Same primary fl.flat_primary) where
  block_same : Same (g.block primary) fl.flat_block
  block_same n (p.block_with params bars body) good =
      let m : ℕ = n + 1 + length (flat_option (once_or_more (k.Colon ▸ g.ident) ◂ fl.bar) (f.once_or_more_of params)) in
      ap (λ w. k.OpenBlock ∷ w) (both (block_params_same params)
      (both (bars_same primary P (g.local primary) (local_same primary P) m bars good.1.1.0)
      (ap (λ w. w ++ k.CloseBlock ∷ []) (stmts_same primary P (m + length ((g.bars primary (g.local primary)).flat bars)) body good.1.1.1.0))))

  more_items_same : (items : p.Exprs) → more_joined (g.expr primary g.oper) fl.flat_expr (any_expr_same primary P) (expr_list items) ≡ fl.flat_more_items items
  more_items_same p.no_exprs = refl
  more_items_same (p.more_exprs x rest) = ap (λ w. k.Stop ∷ (fl.flat_expr x ++ w)) (more_items_same rest)

  items_same : (items : p.Exprs) → joined (g.expr primary g.oper) fl.flat_expr (any_expr_same primary P) (expr_list items) ≡ fl.flat_items items
  items_same p.no_exprs = refl
  items_same (p.more_exprs x rest) = ap (λ w. fl.flat_expr x ++ w) (more_items_same rest)

  tuple_same : (n : ℕ) (items : p.Exprs) (stop : Bool) (l : Option (Listed p.Expr)) → f.listed_of (expr_list items) stop ≡ l
      → GoodFrom f.primary_form (either g.leaf (g.bracketed primary)) n (option_map (λ x. inr (inr (inr x))) l)
      → flat_from f.primary_form (either g.leaf (g.bracketed primary)) (option_map (λ x. inr (inr (inr x))) l) ≡ fl.flat_primary (p.tuple items stop)
  tuple_same n items stop None e good = absurd good
  tuple_same n items stop (Some l) e good =
      ap (λ w. k.OpenTuple ∷ (w ++ k.CloseTuple ∷ [])) (joined_flat (g.expr primary g.oper) fl.flat_expr (any_expr_same primary P) (n + 1) (expr_list items) stop l e good.1.0 ∙ ap (λ w. w ++ fl.stop_if stop) (items_same items))
      ∙ ap (λ w. k.OpenTuple ∷ w) (append_assoc (fl.flat_items items) (fl.stop_if stop) (k.CloseTuple ∷ []))

  deeper_same : Same (mapped f.primary_form (either g.leaf (g.bracketed primary))) fl.flat_primary
  deeper_same n (p.name text) good = refl
  deeper_same n (p.number true size) good = refl
  deeper_same n (p.number false size) good = refl
  deeper_same n (p.string text) good = refl
  deeper_same n (p.symbol text) good = refl
  deeper_same n p.nil_word good = refl
  deeper_same n p.true_word good = refl
  deeper_same n p.false_word good = refl
  deeper_same n p.self_word good = refl
  deeper_same n p.super_word good = refl
  deeper_same n (p.outer_name name) good = refl
  deeper_same n (p.paren inner) good = ap (λ w. k.Open ∷ (w ++ k.Close ∷ [])) (any_expr_same primary P (n + 1) inner good.1.0)
  deeper_same n (p.block_literal block) good = block_same n block good
  deeper_same n (p.tuple items stop) good = tuple_same n items stop (f.listed_of (expr_list items) stop) refl good

-- The rule of primaries spells a primary as its list of tokens, at each depth.
pub primary_same : (depth : ℕ) → Same (g.primary depth) fl.flat_primary
primary_same zero = leaf_same
primary_same (suc depth) = deeper_same (g.primary depth) (primary_same depth)

-- ---- patterns

abbrev in_turn : List (Named × Named) → List Kind
in_turn = flat_map (λ x. fl.part_before x.0.text ∷ fl.ident x.1 ∷ [])

pairs_by : (part param : Named) (parts params : List Named) (b : Bool) (l : Option (List (Named × Named))) → starts_name part.text ≡ b
    → ((qs : List (Named × Named)) → l ≡ Some qs → flat_all (g.part_key & g.ident) qs ≡ in_turn (zip parts params))
    → (ps : List (Named × Named)) → (if b then option_map (λ pairs. (part, param) ∷ pairs) l else None) ≡ Some ps → flat_all (g.part_key & g.ident) ps ≡ in_turn (zip (part ∷ parts) (param ∷ params))
pairs_by part param parts params false l e after ps h = absurd cc
pairs_by part param parts params true None e after ps h = absurd cc
pairs_by part param parts params true (Some qs) e after ps h =
    let same : ps ≡ (part, param) ∷ qs = cc in
    ap (flat_all (g.part_key & g.ident)) same ∙ ap (λ w. k.Key part.text ∷ fl.ident param ∷ w) (after qs refl) ∙ ap (λ b. (if b then k.Key part.text else k.Oper part.text) ∷ fl.ident param ∷ in_turn (zip parts params)) (sym e)

pairs_same : (parts params : List Named) (ps : List (Named × Named)) → f.paired parts params ≡ Some ps → flat_all (g.part_key & g.ident) ps ≡ in_turn (zip parts params)
pairs_same [] [] ps h = let same : ps ≡ [] = cc in ap (flat_all (g.part_key & g.ident)) same
pairs_same [] (param ∷ params) ps h = absurd cc
pairs_same (part ∷ parts) [] ps h = absurd cc
pairs_same (part ∷ parts) (param ∷ params) ps h = pairs_by part param parts params (starts_name part.text) (f.paired parts params) refl (λ qs e. pairs_same parts params qs e) ps h

-- what patterns and factories are mapped from
abbrev Parts : Rule (Named ⊎ ((Named × Named) ⊎ f.ParamsForm))
Parts = either g.ident (either (g.part_oper & g.ident) (once_or_more (g.part_key & g.ident)))

abbrev FactoryParts : Rule (Named ⊎ f.ParamsForm)
FactoryParts = either g.ident (once_or_more (g.part_key & g.ident))

-- an operator or keys, and their parameters
params_by : (n : ℕ) (part param : Named) (parts params : List Named) (b : Bool) (l : Option (List (Named × Named))) → starts_name part.text ≡ b → f.paired parts params ≡ l
    → GoodFrom f.pattern_form Parts n (if b then option_map (λ pairs. inr (inr ((part, param), pairs))) l else f.operator_form part param parts params)
    → flat_from f.pattern_form Parts (if b then option_map (λ pairs. inr (inr ((part, param), pairs))) l else f.operator_form part param parts params) ≡ in_turn (zip (part ∷ parts) (param ∷ params))
params_by n part param [] [] false l e h good = ap (λ b. (if b then k.Key part.text else k.Oper part.text) ∷ fl.ident param ∷ []) (sym e)
params_by n part param [] (x ∷ xs) false l e h good = absurd good
params_by n part param (x ∷ xs) [] false l e h good = absurd good
params_by n part param (x ∷ xs) (y ∷ ys) false l e h good = absurd good
params_by n part param parts params true None e h good = absurd good
params_by n part param parts params true (Some ps) e h good =
    ap (λ w. k.Key part.text ∷ fl.ident param ∷ w) (pairs_same parts params ps h) ∙ ap (λ b. (if b then k.Key part.text else k.Oper part.text) ∷ fl.ident param ∷ in_turn (zip parts params)) (sym e)

pattern_same : Same g.pattern fl.flat_pattern
pattern_same n (p.pattern_with [] []) good = absurd good
pattern_same n (p.pattern_with (part ∷ []) []) good = refl
pattern_same n (p.pattern_with (part ∷ other ∷ parts) []) good = absurd good
pattern_same n (p.pattern_with [] (param ∷ params)) good = absurd good
pattern_same n (p.pattern_with (part ∷ parts) (param ∷ params)) good = params_by n part param parts params (starts_name part.text) (f.paired parts params) refl refl good

factory_by : (n : ℕ) (part param : Named) (parts params : List Named) (b : Bool) (l : Option (List (Named × Named))) → starts_name part.text ≡ b → f.paired parts params ≡ l
    → GoodFrom f.factory_form FactoryParts n (f.factory_by (if b then option_map (λ pairs. inr (inr ((part, param), pairs))) l else f.operator_form part param parts params))
    → flat_from f.factory_form FactoryParts (f.factory_by (if b then option_map (λ pairs. inr (inr ((part, param), pairs))) l else f.operator_form part param parts params)) ≡ in_turn (zip (part ∷ parts) (param ∷ params))
factory_by n part param [] [] false l e h good = absurd good
factory_by n part param [] (x ∷ xs) false l e h good = absurd good
factory_by n part param (x ∷ xs) [] false l e h good = absurd good
factory_by n part param (x ∷ xs) (y ∷ ys) false l e h good = absurd good
factory_by n part param parts params true None e h good = absurd good
factory_by n part param parts params true (Some ps) e h good =
    ap (λ w. k.Key part.text ∷ fl.ident param ∷ w) (pairs_same parts params ps h) ∙ ap (λ b. (if b then k.Key part.text else k.Oper part.text) ∷ fl.ident param ∷ in_turn (zip parts params)) (sym e)

factory_same : Same g.factory fl.flat_pattern
factory_same n (p.pattern_with [] []) good = absurd good
factory_same n (p.pattern_with (part ∷ []) []) good = refl
factory_same n (p.pattern_with (part ∷ other ∷ parts) []) good = absurd good
factory_same n (p.pattern_with [] (param ∷ params)) good = absurd good
factory_same n (p.pattern_with (part ∷ parts) (param ∷ params)) good = factory_by n part param parts params (starts_name part.text) (f.paired parts params) refl refl good

maybe_factory_same : (n : ℕ) (o : Option p.Pattern) → GoodOption g.factory n o → flat_option g.factory o ≡ fl.flat_factory o
maybe_factory_same n None good = refl
maybe_factory_same n (Some x) good = factory_same n x good

-- ---- superclass clauses

base_by_same : (origin : Origin) (name : Named) → flat_from f.base_form (either g.ident (either (k.Word r.Super ▸ g.ident) (k.Word r.Outer ▸ (g.ident & g.ident)))) (Some (f.base_by origin name)) ≡ fl.flat_origin origin ++ fl.ident name ∷ []
base_by_same o.Here name = refl
base_by_same o.Super name = refl
base_by_same (o.Outer class) name = refl

base_same : (base : Base) → g.base.flat base ≡ fl.flat_base base
base_same base = base_by_same base.origin base.name

over_same : (over : Option Base) → flat_option (fl.over_sign ▸ g.base) over ≡ fl.flat_over over
over_same None = refl
over_same (Some base) = ap (λ w. fl.over_sign ∷ w) (base_same base)

module _ (primary : Rule p.Primary) (P : Same primary fl.flat_primary) where
  super_message_same : (n : ℕ) (o : Option p.Message) → GoodOption (g.super_message primary) n o → flat_option (g.super_message primary) o ≡ fl.flat_super_message o
  super_message_same n None good = refl
  super_message_same n (Some (p.unary name)) good = refl
  super_message_same n (Some (p.binary name argument)) good = absurd good
  super_message_same n (Some (p.keywords p.no_keys)) good = absurd good
  super_message_same n (Some (p.keywords (p.more_keys name argument rest))) good = keys_same primary P g.oper (λ x. refl) n (p.more_keys name argument rest) good

  clause_same : (n : ℕ) (o : Option p.SuperClause) → GoodOption (g.clause primary) n o → flat_option (g.clause primary) o ≡ fl.flat_super o
  clause_same n None good = refl
  clause_same n (Some (p.clause_with base over message)) good =
      both (base_same base) (both (over_same over) (super_message_same (n + length (g.base.flat base) + length (flat_option (fl.over_sign ▸ g.base) over)) message good.1.1))

  -- ---- methods

  body_same : (slot : Rule p.Slot) → Same slot fl.flat_slot → (n : ℕ) (bars : p.Bars) (body : p.Statements) → (g.bars primary slot & g.stmts primary ◂ k.Close).Good n (bars, body)
      → (g.bars primary slot & g.stmts primary ◂ k.Close).flat (bars, body) ≡ fl.flat_bars bars ++ (fl.flat_statements body ++ k.Close ∷ [])
  body_same slot S n bars body good =
      both (bars_same primary P slot S n bars good.0) (ap (λ w. w ++ k.Close ∷ []) (stmts_same primary P (n + length ((g.bars primary slot).flat bars)) body good.1.0))

  method_same : Same (g.method primary) fl.flat_method
  method_same n (p.method_with pattern bars body) good =
      both (pattern_same n pattern good.0) (ap (λ w. fl.equals ∷ k.Open ∷ w) (body_same (g.local primary) (local_same primary P) (n + length (g.pattern.flat pattern) + 1 + 1) bars body good.1.1.1))

  method_member_same : Same (g.method_member primary) fl.flat_what
  method_member_same n (p.class_member class) good = absurd good
  method_member_same n (p.method_member method) good = method_same n method good

  -- ---- sides and classes

  module _ (what : Rule p.What) (W : Same what fl.flat_what) where
    member_same : Same (g.member primary what) fl.flat_member
    member_same n (p.member_with categories access x) good =
        both (strings_same categories) (both (access_same access) (W (n + length (flat_all g.string categories) + length (flat_option g.access access)) x good.1.1))

    members_same : (n : ℕ) (members : p.Members) → GoodAll (g.member primary what) n (member_list members) → flat_all (g.member primary what) (member_list members) ≡ fl.flat_members members
    members_same n p.no_members good = refl
    members_same n (p.more_members member rest) good = both (member_same n member good.0) (members_same (n + length ((g.member primary what).flat member)) rest good.1)

    side_same : Same (g.side primary what) fl.flat_side
    side_same n (p.side_with members tail) good =
        ap (λ w. k.Open ∷ w) (both (members_same (n + 1) members good.1.0) (ap (λ w. w ++ k.Close ∷ []) (strings_same tail)))

    class_side_same : (n : ℕ) (side : p.ClassSide) → GoodOption (k.Colon ▸ g.side primary what) n (f.class_side_form side) → flat_option (k.Colon ▸ g.side primary what) (f.class_side_form side) ≡ fl.flat_class_side side
    class_side_same n p.no_class_side good = refl
    class_side_same n (p.class_side_with side) good = ap (λ w. k.Colon ∷ w) (side_same (n + 1) side good.1)

  class_same : (what : Rule p.What) → Same what fl.flat_what → Same (g.class primary what) fl.flat_class
  class_same what W n (p.class_with name factory clause bars body side other) good =
      let m : ℕ = n + 1 + 1 + length (flat_option g.factory factory) + 1 in
      let l : ℕ = m + length (flat_option (g.clause primary) clause) in
      let i : ℕ = l + length ((k.Open ▸ (g.bars primary (g.slot primary) & g.stmts primary ◂ k.Close)).flat (bars, body)) in
      let eb : (g.bars primary (g.slot primary) & g.stmts primary ◂ k.Close).flat (bars, body) ≡ fl.flat_bars bars ++ (fl.flat_statements body ++ k.Close ∷ []) = body_same (g.slot primary) (slot_same primary P) (l + 1) bars body good.1.1.1.1.1.0.1 in
      let es : (g.side primary what).flat side ≡ fl.flat_side side = side_same what W i side good.1.1.1.1.1.1.0 in
      let eo : flat_option (k.Colon ▸ g.side primary (g.method_member primary)) (f.class_side_form other) ≡ fl.flat_class_side other = class_side_same (g.method_member primary) method_member_same (i + length ((g.side primary what).flat side)) other good.1.1.1.1.1.1.1 in
      ap (λ w. k.Word r.Class ∷ fl.ident name ∷ w)
      (both (maybe_factory_same (n + 1 + 1) factory good.1.1.0) (ap (λ w. fl.equals ∷ w) (both (clause_same m clause good.1.1.1.1.0) (ap (λ w. k.Open ∷ w) (both eb (both es eo)))))
      ∙ ap (λ w. fl.flat_factory factory ++ fl.equals ∷ w) (sym (append_assoc (fl.flat_super clause) (k.Open ∷ (fl.flat_bars bars ++ (fl.flat_statements body ++ k.Close ∷ []))) (fl.flat_side side ++ fl.flat_class_side other)))
      ∙ sym (append_assoc (fl.flat_factory factory) (fl.equals ∷ (fl.flat_super clause ++ k.Open ∷ (fl.flat_bars bars ++ (fl.flat_statements body ++ k.Close ∷ [])))) (fl.flat_side side ++ fl.flat_class_side other)))

  what_same : (depth : ℕ) → Same (g.what primary depth) fl.flat_what
  what_same zero n x good = method_member_same n x good
  what_same (suc depth) n (p.class_member class) good = class_same (g.what primary depth) (what_same depth) n class good
  what_same (suc depth) n (p.method_member method) good = method_same n method good

  unit_same : (depth : ℕ) → Same (g.file_over primary depth) fl.flat
  unit_same depth n (p.unit_with true None class) good = ap (λ w. k.Ident (codes "Newspeak3") ∷ w) (class_same (g.what primary depth) (what_same depth) (n + 1 + 0) class good.1.1)
  unit_same depth n (p.unit_with true (Some text) class) good = ap (λ w. k.Ident (codes "Newspeak3") ∷ k.Str text ∷ w) (class_same (g.what primary depth) (what_same depth) (n + 1 + 1) class good.1.1)
  unit_same depth n (p.unit_with false None class) good = class_same (g.what primary depth) (what_same depth) (n + 0 + 0) class good.1.1
  unit_same depth n (p.unit_with false (Some text) class) good = ap (λ w. k.Str text ∷ w) (class_same (g.what primary depth) (what_same depth) (n + 0 + 1) class good.1.1)

-- what the rule of a file spells is the flat form of the file
pub file_same : (depth : ℕ) → Same (g.file depth) fl.flat
file_same depth = unit_same (g.primary depth) (primary_same depth) depth
