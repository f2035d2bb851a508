-- What a function answers that ends with another's answer, and where a reader that is put together of others stops.
use Rattle.std.specs.Prelude.{◌≡◌, ℕ, List, Bool, true, false, cond, Result, Ok, Err, IfOk, IsErr, IsErrAnd}
use Rattle.std.proofs.Common.{sym, ap, subst, ◌∙◌}
use Rattle.ns_tree.specs.declared.token.Kind.{Kind}
use Rattle.ns_parse_tokens.specs.declared.fault.ParseFault.{ParseFault}
use Rattle.ns_parse_tokens.specs.declared.fault.ParseFault.TheVariants.{TooDeep, Syntax, Memory}
use Rattle.ns_parse_tokens.specs.Left.{Left}
use Rattle.ns_parse_tokens.specs.Read.{Outcome, Reader, got, and_then, read_or, read_after, read_until}
use Rattle.ns_parse_tokens.specs.Reads.{Fails, ReaderGives, Reads, next_is}

-- Nothing is read behind a fault.
pub stops : {A B : Type 0} (o : Outcome A) (f : A → Reader B) (e : ParseFault) → Fails o e → Fails (and_then o f) e
stops o f (Syntax k) h = ap (λ u. and_then u f) h
stops o f (TooDeep k) h = h
stops o f Memory h = tt

-- Readers that give the same there are read alike.
pub reads_same : {X A : Type 0} (view : X → A) (p q : Reader A) (r : Result X ParseFault) (old new : Left) → q old.at old.kinds ≡ p old.at old.kinds
    → Reads view p r old new → Reads view q r old new
reads_same view p q (Ok x) old new e h = e ∙ h
reads_same view p q (Err (Syntax k)) old new e h = e ∙ h
reads_same view p q (Err (TooDeep k)) old new e h = h
reads_same view p q (Err Memory) old new e h = tt

-- The next token decides which of two is read.
pub reads_first : {X A : Type 0} (view : X → A) (first : Kind → Bool) (p q : Reader A) (r : Result X ParseFault) (old new : Left)
    → next_is first old ≡ true → Reads view p r old new → Reads view (read_or first p q) r old new
reads_first view first p q r old new t h = reads_same view p (read_or first p q) r old new (ap (λ b. cond b (p old.at old.kinds) (q old.at old.kinds)) t) h

pub reads_second : {X A : Type 0} (view : X → A) (first : Kind → Bool) (p q : Reader A) (r : Result X ParseFault) (old new : Left)
    → next_is first old ≡ false → Reads view q r old new → Reads view (read_or first p q) r old new
reads_second view first p q r old new t h = reads_same view q (read_or first p q) r old new (ap (λ b. cond b (p old.at old.kinds) (q old.at old.kinds)) t) h

-- What is read behind something is what the whole reads.
pub reads_after : {X A B : Type 0} (view : X → A) (p : Reader B) (q : Reader A) (b : B) (r : Result X ParseFault) (old mid new : Left)
    → ReaderGives p b old mid → Reads view q r mid new → Reads view (read_after p q) r old new
reads_after view p q b (Ok x) old mid new e h = ap (λ o. and_then o (λ a m us. q m us)) e ∙ h
reads_after view p q b (Err (Syntax k)) old mid new e h = ap (λ o. and_then o (λ a m us. q m us)) e ∙ h
reads_after view p q b (Err (TooDeep k)) old mid new e h = h
reads_after view p q b (Err Memory) old mid new e h = tt

-- What closes a part is read, and the part is kept.
pub reads_closed : {X A B : Type 0} (view : X → A) (p : Reader A) (q : Reader B) (b : B) (x : X) (r : Result X ParseFault) (old mid new : Left)
    → ReaderGives p (view x) old mid → Reads (λ _. b) q r mid new → IfOk r (λ it. it ≡ x) → Reads view (read_until p q) r old new
reads_closed view p q b x (Ok y) old mid new e h same =
    ap (λ o. and_then o (λ a m us. and_then (q m us) (λ b l vs. got a l vs))) e ∙ ap (λ o. and_then o (λ b l vs. got (view x) l vs)) h
    ∙ ap (λ v. got (view v) new.at new.kinds) (sym same)
reads_closed view p q b x (Err (Syntax k)) old mid new e h same =
    ap (λ o. and_then o (λ a m us. and_then (q m us) (λ b l vs. got a l vs))) e ∙ ap (λ o. and_then o (λ b l vs. got (view x) l vs)) h
reads_closed view p q b x (Err (TooDeep k)) old mid new e h same = h
reads_closed view p q b x (Err Memory) old mid new e h same = tt

-- A fault that is handed on is the reader's.
pub fails_on : {X A : Type 0} (view : X → A) (reader : Reader A) (r : Result X ParseFault) (why : ParseFault) (old new : Left) → IsErr r
    × IsErrAnd r (λ e. e ≡ why) → Fails (reader old.at old.kinds) why → Reads view reader r old new
fails_on view reader (Ok x) why old new h f = absurd h.1
fails_on view reader (Err e) why old new h f = subst (Fails (reader old.at old.kinds)) (sym h.1) f

-- the same value, where the same is left
pub gives : {A : Type 0} {a b : A} {n : ℕ} {ts : List Kind} → a ≡ b → got a n ts ≡ got b n ts
gives {n = n} {ts = ts} e = ap (λ v. got v n ts) e
