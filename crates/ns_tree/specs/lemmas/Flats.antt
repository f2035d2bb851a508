-- What a rule spells is the flat form of the tree: for expressions.
use Rattle.std.proofs.Common.{◌≡◌, refl, sym, ap, subst, ◌∙◌, ℕ, ◌+◌, Bool, true, false, List, [], ◌∷◌, ◌++◌, length, map, Option, Some, None, option_map, append_assoc}
use Rattle.std.proofs.lemmas.List.{append-nil}
use Rattle.ns_tree.specs.declared.token.Kind.{Kind}
use Rattle.ns_tree.specs.declared.token.Kind.TheVariants as k
use Rattle.ns_tree.specs.declared.tree.Named.{Named}
use Rattle.ns_tree.specs.declared.tree.Access.{Access}
use Rattle.ns_tree.specs.Flat as fl
use Rattle.ns_tree.specs.Forms as f
use Rattle.ns_tree.specs.Grammar as g
use Rattle.ns_tree.specs.Lists.{key_list, oper_list, message_list, slot_list, statement_list}
use Rattle.ns_tree.specs.Plain as p
use Rattle.ns_tree.specs.Rule.{Rule, ◌&◌, flat_all, GoodAll, flat_option, mapped, flat_from, GoodFrom}
use Rattle.ns_tree.specs.Rule.{Listed, none, last, next, listed, flat_listed, GoodListed}

-- a rule spells what it gives as `flat` says
abbrev pub Same : {A : Type 0} → Rule A → (A → List Kind) → Type 0
Same {A} r flat = (n : ℕ) (a : A) → r.Good n a → r.flat a ≡ flat a

-- two parts that are the same, one behind the other
pub both : {a b c d : List Kind} → a ≡ c → b ≡ d → a ++ b ≡ c ++ d
both {b = b} {c = c} e h = ap (λ w. w ++ b) e ∙ ap (λ w. c ++ w) h

-- ---- lists

pub idents_same : (ns : List Named) → flat_all g.ident ns ≡ map fl.ident ns
idents_same [] = refl
idents_same (n ∷ ns) = ap (λ w. fl.ident n ∷ w) (idents_same ns)

pub set_keys_same : (ns : List Named) → flat_all g.set_key ns ≡ map fl.set_key ns
set_keys_same [] = refl
set_keys_same (n ∷ ns) = ap (λ w. fl.set_key n ∷ w) (set_keys_same ns)

pub strings_same : (ts : List (List ℕ)) → flat_all g.string ts ≡ map k.Str ts
strings_same [] = refl
strings_same (t ∷ ts) = ap (λ w. k.Str t ∷ w) (strings_same ts)

pub access_same : (o : Option Access) → flat_option g.access o ≡ fl.flat_access o
access_same None = refl
access_same (Some access) = refl

-- items with a full stop between two
module _ {A : Type 0} (r : Rule A) (flat : A → List Kind) (S : Same r flat) where
  abbrev pub more_joined : List A → List Kind
  more_joined [] = []
  more_joined (a ∷ rest) = k.Stop ∷ (flat a ++ more_joined rest)

  abbrev pub joined : List A → List Kind
  joined [] = []
  joined (a ∷ rest) = flat a ++ more_joined rest

  module _ (n : ℕ) (a b : A) (rest : List A) (stop : Bool) where
    next_joined : (m : Listed A) → flat_listed r k.Stop m ≡ joined (b ∷ rest) ++ fl.stop_if stop → r.flat a ≡ flat a → flat_listed r k.Stop (next a m) ≡ joined (a ∷ b ∷ rest) ++ fl.stop_if stop
    next_joined m e h = both h (ap (λ w. k.Stop ∷ w) e) ∙ sym (append_assoc (flat a) (more_joined (b ∷ rest)) (fl.stop_if stop))

  joined_by : (n : ℕ) (a b : A) (rest : List A) (stop : Bool) (l : Listed A) (o : Option (Listed A)) → f.listed_of (b ∷ rest) stop ≡ o → option_map (next a) o ≡ Some l → GoodListed r k.Stop n l → ((m : Listed A) → f.listed_of (b ∷ rest) stop ≡ Some m → GoodListed r k.Stop (n + length (r.flat a) + 1) m → flat_listed r k.Stop m ≡ joined (b ∷ rest) ++ fl.stop_if stop) → flat_listed r k.Stop l ≡ joined (a ∷ b ∷ rest) ++ fl.stop_if stop
  joined_by n a b rest stop l None e h good after = absurd cc
  joined_by n a b rest stop l (Some m) e h good after =
      let same : l ≡ next a m = cc in
      let goods : GoodListed r k.Stop n (next a m) = subst (GoodListed r k.Stop n) same good in
      ap (flat_listed r k.Stop) same ∙ next_joined n a b rest stop m (after m e goods.1) (S n a goods.0)

  pub joined_flat : (n : ℕ) (xs : List A) (stop : Bool) (l : Listed A) → f.listed_of xs stop ≡ Some l → GoodListed r k.Stop n l → flat_listed r k.Stop l ≡ joined xs ++ fl.stop_if stop
  joined_flat n [] true l e good = absurd cc
  joined_flat n [] false l e good = let same : l ≡ none = cc in ap (flat_listed r k.Stop) same
  joined_flat n (a ∷ []) true l e good =
      let same : l ≡ next a none = cc in
      let goods : GoodListed r k.Stop n (next a none) = subst (GoodListed r k.Stop n) same good in
      ap (flat_listed r k.Stop) same ∙ ap (λ w. w ++ k.Stop ∷ []) (S n a goods.0 ∙ sym (append-nil (flat a)))
  joined_flat n (a ∷ []) false l e good =
      let same : l ≡ last a = cc in
      ap (flat_listed r k.Stop) same ∙ S n a (subst (GoodListed r k.Stop n) same good) ∙ sym (append-nil (flat a)) ∙ sym (append-nil (flat a ++ []))
  joined_flat n (a ∷ b ∷ rest) stop l e good = joined_by n a b rest stop l (f.listed_of (b ∷ rest) stop) refl e good (λ m e' good'. joined_flat (n + length (r.flat a) + 1) (b ∷ rest) stop m e' good')

  pub listed_same : {B : Type 0} (form : B → Option (Listed A)) (n : ℕ) (xs : List A) (stop : Bool) (o : Option (Listed A)) → f.listed_of xs stop ≡ o → GoodFrom form (listed r k.Stop) n o → flat_from form (listed r k.Stop) o ≡ joined xs ++ fl.stop_if stop
  listed_same form n xs stop None e good = absurd good
  listed_same form n xs stop (Some l) e good = joined_flat n xs stop l e good

-- ---- leaves

pub leaf_same : Same (mapped f.leaf_of g.leaf) fl.flat_primary
leaf_same n (p.name text) good = refl
leaf_same n (p.number true size) good = refl
leaf_same n (p.number false size) good = refl
leaf_same n (p.string text) good = refl
leaf_same n (p.symbol text) good = refl
leaf_same n p.nil_word good = refl
leaf_same n p.true_word good = refl
leaf_same n p.false_word good = refl
leaf_same n p.self_word good = refl
leaf_same n p.super_word good = refl
leaf_same n (p.outer_name name) good = refl
leaf_same n (p.paren inner) good = absurd good
leaf_same n (p.block_literal block) good = absurd good
leaf_same n (p.tuple items stop) good = absurd good

-- ---- expressions

module _ (primary : Rule p.Primary) (P : Same primary fl.flat_primary) where
  pub un_same : Same (g.un primary) fl.flat_un
  un_same n (p.un_with at x names) good = both (P n x good.0.1) (idents_same names)

  module _ (operator : Rule Named) (O : (name : Named) → operator.flat name ≡ k.Oper name.text ∷ []) where
    opers_same : (n : ℕ) (opers : p.Opers) → GoodAll (operator & g.un primary) n (oper_list opers) → flat_all (operator & g.un primary) (oper_list opers) ≡ fl.flat_opers opers
    opers_same n p.no_opers good = refl
    opers_same n (p.more_opers name argument rest) good =
        both (both (O name) (un_same (n + length (operator.flat name)) argument good.0.1)) (opers_same (n + length ((operator & g.un primary).flat (name, argument))) rest good.1)

    bin_same : Same (g.bin primary operator) fl.flat_bin
    bin_same n (p.bin_with first more) good = both (un_same n first good.0) (opers_same (n + length ((g.un primary).flat first)) more good.1)

    pub keys_same : (n : ℕ) (keys : p.Keys) → GoodAll (g.key & g.bin primary operator) n (key_list keys) → flat_all (g.key & g.bin primary operator) (key_list keys) ≡ fl.flat_keys keys
    keys_same n p.no_keys good = refl
    keys_same n (p.more_keys name argument rest) good =
        ap (λ w. k.Key name.text ∷ w) (both (bin_same (n + 1) argument good.0.1) (keys_same (n + length ((g.key & g.bin primary operator).flat (name, argument))) rest good.1))

    key_expr_same : Same (g.key_expr primary operator) fl.flat_key_expr
    key_expr_same n (p.sent receiver keys) good = both (bin_same n receiver good.0) (keys_same (n + length ((g.bin primary operator).flat receiver)) keys good.1)
    key_expr_same n (p.implicit p.no_keys) good = absurd good
    key_expr_same n (p.implicit (p.more_keys name argument rest)) good = keys_same n (p.more_keys name argument rest) good

    message_same : Same (g.message primary operator) fl.flat_message
    message_same n (p.unary name) good = refl
    message_same n (p.binary name argument) good = both (O name) (un_same (n + length (operator.flat name)) argument good.1)
    message_same n (p.keywords p.no_keys) good = absurd good
    message_same n (p.keywords (p.more_keys name argument rest)) good = keys_same n (p.more_keys name argument rest) good

    cascade_same : (n : ℕ) (messages : p.Cascade) → GoodAll (g.semi & g.message primary operator) n (message_list messages) → flat_all (g.semi & g.message primary operator) (message_list messages) ≡ fl.flat_cascade messages
    cascade_same n p.no_messages good = refl
    cascade_same n (p.more_messages at message rest) good =
        ap (λ w. k.Semi ∷ w) (both (message_same (n + 1) message good.0.1) (cascade_same (n + length ((g.semi & g.message primary operator).flat (at, message))) rest good.1))

    expr_same : Same (g.expr primary operator) fl.flat_expr
    expr_same n (p.expr_with sets first more) good =
        both (set_keys_same sets) (both (key_expr_same (n + length (flat_all g.set_key sets)) first good.1.0) (cascade_same (n + length (flat_all g.set_key sets) + length ((g.key_expr primary operator).flat first)) more good.1.1))

  slot_expr_same : Same (g.expr primary g.slot_oper) fl.flat_expr
  slot_expr_same = expr_same g.slot_oper (λ name. refl)

  pub any_expr_same : Same (g.expr primary g.oper) fl.flat_expr
  any_expr_same = expr_same g.oper (λ name. refl)

  -- ---- slots and statements

  init_same : Same (g.init primary) fl.flat_init
  init_same n (p.fixed value) good = ap (λ w. fl.equals ∷ (w ++ k.Stop ∷ [])) (slot_expr_same (n + 1) value good.1.0)
  init_same n (p.mutable value) good = ap (λ w. k.SlotSet ∷ (w ++ k.Stop ∷ [])) (slot_expr_same (n + 1) value good.1.0)
  init_same n (p.bare true) good = refl
  init_same n (p.bare false) good = refl

  pub slot_same : Same (g.slot primary) fl.flat_slot
  slot_same n (p.slot_with access name init) good =
      both (access_same access) (ap (λ w. fl.ident name ∷ w) (init_same (n + length (flat_option g.access access) + 1) init good.1.1))

  pub local_same : Same (g.local primary) fl.flat_slot
  local_same n (p.slot_with None name init) good = ap (λ w. fl.ident name ∷ w) (init_same (n + 1) init good.1)
  local_same n (p.slot_with (Some access) name init) good = absurd good

  module _ (slot : Rule p.Slot) (S : Same slot fl.flat_slot) where
    slots_same : (n : ℕ) (slots : p.Slots) → GoodAll slot n (slot_list slots) → flat_all slot (slot_list slots) ≡ fl.flat_slots slots
    slots_same n p.no_slots good = refl
    slots_same n (p.more_slots x rest) good = both (S n x good.0) (slots_same (n + length (slot.flat x)) rest good.1)

    pub bars_same : Same (g.bars primary slot) fl.flat_bars
    bars_same n p.no_bars good = refl
    bars_same n (p.bars_around slots) good = ap (λ w. fl.bar ∷ (w ++ fl.bar ∷ [])) (slots_same (n + 1) slots good.1.0)

  stmt_same : Same (g.stmt primary) fl.flat_statement
  stmt_same n (p.statement_with None expr) good = any_expr_same (n + 0) expr good.1
  stmt_same n (p.statement_with (Some at) expr) good = ap (λ w. k.Caret ∷ w) (any_expr_same (n + 1) expr good.1)

  more_list_same : (list : p.StatementList) → more_joined (g.stmt primary) fl.flat_statement stmt_same (statement_list list) ≡ fl.flat_more_list list
  more_list_same p.no_statements = refl
  more_list_same (p.more_statements x rest) = ap (λ w. k.Stop ∷ (fl.flat_statement x ++ w)) (more_list_same rest)

  list_same : (list : p.StatementList) → joined (g.stmt primary) fl.flat_statement stmt_same (statement_list list) ≡ fl.flat_list list
  list_same p.no_statements = refl
  list_same (p.more_statements x rest) = ap (λ w. fl.flat_statement x ++ w) (more_list_same rest)

  pub stmts_same : Same (g.stmts primary) fl.flat_statements
  stmts_same n (p.statements_with list stop) good =
      listed_same (g.stmt primary) fl.flat_statement stmt_same f.statements_form n (statement_list list) stop (f.listed_of (statement_list list) stop) refl good ∙ ap (λ w. w ++ fl.stop_if stop) (list_same list)
