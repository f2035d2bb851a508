-- What a function of the parser answers: what its reader gives, unless memory ran out.
use Rattle.std.specs.Prelude.{◌≡◌, Bool, Result, Ok, Err}
use Rattle.ns_tree.specs.declared.token.Kind.{Kind}
use Rattle.ns_parse_tokens.specs.declared.fault.ParseFault.{ParseFault}
use Rattle.ns_parse_tokens.specs.declared.fault.ParseFault.TheVariants.{TooDeep, Syntax, Memory}
use Rattle.ns_parse_tokens.specs.Left.{Left}
use Rattle.ns_parse_tokens.specs.Read.{Outcome, Reader, got, fault, begins}

-- The outcome is that fault. Want of memory says nothing of it, and no reader counts brackets.
abbrev pub Fails : {A : Type 0} → Outcome A → ParseFault → Type 0
Fails outcome (Syntax k) = outcome ≡ fault k
Fails outcome (TooDeep k) = ⊥
Fails outcome Memory = Unit {0}

-- The reader gives the value, in its plain form, and the tokens that are left behind it; or the fault.
abbrev pub Reads : {X A : Type 0} → (X → A) → Reader A → Result X ParseFault → Left → Left → Type 0
Reads view reader (Ok x) old new = reader old.at old.kinds ≡ got (view x) new.at new.kinds
Reads view reader (Err e) old new = Fails (reader old.at old.kinds) e

-- The reader gives that value, and the tokens that are left behind it.
abbrev pub ReaderGives : {A : Type 0} → Reader A → A → Left → Left → Type 0
ReaderGives reader a old new = reader old.at old.kinds ≡ got a new.at new.kinds

-- The next token passes the test.
abbrev pub next_is : (Kind → Bool) → Left → Bool
next_is test left = begins test left.kinds
