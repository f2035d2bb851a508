-- The lists of a plain tree, as lists.
use Rattle.std.specs.Prelude.{ℕ, List, [], ◌∷◌}
use Rattle.ns_tree.specs.declared.tree.Named.{Named}
use Rattle.ns_tree.specs.Plain as p

-- each key with its argument
abbrev pub key_list : p.Keys → List (Named × p.BinExpr)
key_list p.no_keys = []
key_list (p.more_keys name argument rest) = (name, argument) ∷ key_list rest

-- each operator with its argument
abbrev pub oper_list : p.Opers → List (Named × p.UnExpr)
oper_list p.no_opers = []
oper_list (p.more_opers name argument rest) = (name, argument) ∷ oper_list rest

-- each message of a cascade with the number of its `;`
abbrev pub message_list : p.Cascade → List (ℕ × p.Message)
message_list p.no_messages = []
message_list (p.more_messages at message rest) = (at, message) ∷ message_list rest

abbrev pub expr_list : p.Exprs → List p.Expr
expr_list p.no_exprs = []
expr_list (p.more_exprs expr rest) = expr ∷ expr_list rest

abbrev pub slot_list : p.Slots → List p.Slot
slot_list p.no_slots = []
slot_list (p.more_slots slot rest) = slot ∷ slot_list rest

abbrev pub statement_list : p.StatementList → List p.Statement
statement_list p.no_statements = []
statement_list (p.more_statements statement rest) = statement ∷ statement_list rest

abbrev pub member_list : p.Members → List p.Member
member_list p.no_members = []
member_list (p.more_members member rest) = member ∷ member_list rest

-- ---- and back

abbrev pub list_keys : List (Named × p.BinExpr) → p.Keys
list_keys [] = p.no_keys
list_keys (x ∷ xs) = p.more_keys x.0 x.1 (list_keys xs)

abbrev pub list_opers : List (Named × p.UnExpr) → p.Opers
list_opers [] = p.no_opers
list_opers (x ∷ xs) = p.more_opers x.0 x.1 (list_opers xs)

abbrev pub list_messages : List (ℕ × p.Message) → p.Cascade
list_messages [] = p.no_messages
list_messages (x ∷ xs) = p.more_messages x.0 x.1 (list_messages xs)

abbrev pub list_exprs : List p.Expr → p.Exprs
list_exprs [] = p.no_exprs
list_exprs (x ∷ xs) = p.more_exprs x (list_exprs xs)

abbrev pub list_slots : List p.Slot → p.Slots
list_slots [] = p.no_slots
list_slots (x ∷ xs) = p.more_slots x (list_slots xs)

abbrev pub list_statements : List p.Statement → p.StatementList
list_statements [] = p.no_statements
list_statements (x ∷ xs) = p.more_statements x (list_statements xs)

abbrev pub list_members : List p.Member → p.Members
list_members [] = p.no_members
list_members (x ∷ xs) = p.more_members x (list_members xs)
