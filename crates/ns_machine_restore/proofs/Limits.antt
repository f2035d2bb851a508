-- What a reader gives is so, by its parts; the limits that are read are in their ranges.
use Rattle.std.specs.Prelude.{◌≡◌, ℕ, ◌&&◌, ◌==◌, nat_eq, nat_le, List, [], ◌∷◌, length, drop, Bool, true, false, Option, Some, None, Result, Ok, Err, cond, refl}
use Rattle.std.proofs.Common.{ap, sym, subst, ◌∙◌, arith}
use Rattle.std.proofs.lemmas.Bool.Decides.{nat_tests}
use Rattle.std.specs.List.{starts_with}
use Rattle.ns_base.specs.Limits.{InRange, IsFrom1To}
use Rattle.ns_code.specs.declared.program.CodeProgram.{CodeProgram}
use Rattle.ns_frozen.specs.declared.frozen.Frozen.{Frozen}
use Rattle.ns_image.specs.Read.{Outcome, got, truncated, bad, Reader, ◌>>=◌, and_then, byte, checked, given, half, passed, text}
use Rattle.ns_image.specs.Reading.{read_image}
use Rattle.ns_image.specs.declared.fault.ImageFault.{ImageFault}
use Rattle.ns_machine_restore.specs.Laws.{LimitsAreRead}
use Rattle.ns_snapshot.specs.Bytes.{mark}
use Rattle.ns_snapshot.specs.Fields.{counted, double, from_1_to, option}
use Rattle.ns_snapshot.specs.Reading as r
use Rattle.ns_snapshot.specs.Reading.{Parts, answer, parts, read_parts, versioned, whole}
use Rattle.ns_snapshot.specs.Snapshot.{is_new, of_code, of_image, of_parts}
use Rattle.ns_snapshot.specs.declared.fault.SnapFault.{SnapFault}
use Rattle.ns_snapshot.specs.declared.fault.SnapFault.TheVariants as fault
use Rattle.ns_snapshot.specs.declared.snapshot.Snapshot.{Snapshot}
use Rattle.ns_verify.specs.Verify as verifier
use Rattle.ns_verify.specs.declared.fault.Fault.{Fault}

-- What a reader gives is so, whatever the bytes.
abbrev Gives : {A : Type 0} → (A → Type 0) → Reader A → Type 0
Gives {A} P reader = (bytes : List ℕ) (a : A) (rest : List ℕ) → reader bytes ≡ got a rest → P a

gives_given : {A : Type 0} (P : A → Type 0) (a : A) → P a → Gives P (given a)
gives_given P a is bytes b rest e = let same : a ≡ b = cc (e) in subst P same is

gives_then : {A B : Type 0} (Q : A → Type 0) (P : B → Type 0) (reader : Reader A) (next : A → Reader B) → Gives Q reader → ((a : A) → Q a → Gives P (next a)) → Gives P (reader >>= next)
gives_then {A} {B} Q P reader next first then bytes b rest e = by (reader bytes) refl e
  where
    by : (o : Outcome A) → reader bytes ≡ o → and_then o next ≡ got b rest → P b
    by (got a more) is e = then a (first bytes a more is) more b rest e
    by truncated is e = absurd (cc (e))
    by (bad left) is e = absurd (cc (e))

-- whatever the first one gives
gives_after : {A B : Type 0} (P : B → Type 0) (reader : Reader A) (next : A → Reader B) → ((a : A) → Gives P (next a)) → Gives P (reader >>= next)
gives_after P reader next then = gives_then (λ a. Unit {0}) P reader next (λ bytes a rest e. tt) (λ a u. then a)

gives_checked : (test : ℕ → Bool) (reader : Reader ℕ) → Gives (λ n. test n ≡ true) (checked test reader)
gives_checked test reader bytes n rest e = by (reader bytes) e
  where
    passes : (m : ℕ) (more : List ℕ) (q : Bool) → test m ≡ q → cond q (got m more) (bad (length bytes)) ≡ got n rest → test n ≡ true
    passes m more true is e = let same : m ≡ n = cc (e) in ap test (sym same) ∙ is
    passes m more false is e = absurd (cc (e))

    by : (o : Outcome ℕ) → and_then o (λ a more. passed (test a) a (length bytes) more) ≡ got n rest → test n ≡ true
    by (got m more) e = passes m more (test m) refl e
    by truncated e = absurd (cc (e))
    by (bad left) e = absurd (cc (e))

gives_ranged : (greatest : ℕ) → Gives (λ n. IsFrom1To n greatest) (from_1_to greatest)
gives_ranged greatest bytes n rest e =
    let is = gives_checked (λ m. nat_le 1 m && nat_le m greatest) double bytes n rest e in both (nat_le 1 n) (nat_le n greatest) refl refl is
  where
    both : (p q : Bool) → nat_le 1 n ≡ p → nat_le n greatest ≡ q → (p && q) ≡ true → IsFrom1To n greatest
    both true true e f is = (grind (arith, nat_tests, e), grind (arith, nat_tests, f))
    both true false e f is = absurd (cc (is))
    both false q e f is = absurd (cc (is))

limits_give : Gives InRange r.limits
unfolding r.limits
limits_give =
    gives_then (λ n. IsFrom1To n 1000000000000) InRange _ _ (gives_ranged 1000000000000) (λ steps a.
    gives_then (λ n. IsFrom1To n 64000000) InRange _ _ (gives_ranged 64000000) (λ cells b.
    gives_then (λ n. IsFrom1To n 100000) InRange _ _ (gives_ranged 100000) (λ depth c.
    gives_then (λ n. IsFrom1To n 16777216) InRange _ _ (gives_ranged 16777216) (λ out d.
    gives_given InRange (record { steps = steps; cells = cells; depth = depth; out = out }) (a, b, c, d)))))

abbrev HasRange : Frozen → Type 0
HasRange frozen = InRange frozen.limits

frozen_gives : Gives HasRange r.frozen
unfolding r.frozen r.frozen_from r.with_pending r.with_cells
frozen_gives =
    gives_then InRange HasRange _ _ limits_give (λ limits range.
    gives_after HasRange r.counters _ (λ used.
    gives_after HasRange r.grants _ (λ grants.
    gives_after HasRange r.board _ (λ board.
    gives_after HasRange text _ (λ output.
    gives_after HasRange double _ (λ homes.
    gives_after HasRange byte _ (λ phase.
    gives_after HasRange (option r.waiting) _ (λ pending.
    gives_after HasRange (option r.ended) _ (λ ending.
    gives_after HasRange (r.cells limits.cells) _ (λ cells.
    gives_after HasRange (counted r.frame) _ (λ frames. gives_given HasRange _ range)))))))))))

parts_give : Gives (λ p. HasRange p.frozen) parts
unfolding r.parts
parts_give =
    gives_after (λ (p : Parts). HasRange p.frozen) text _ (λ image.
    gives_then HasRange (λ (p : Parts). HasRange p.frozen) _ _ frozen_gives (λ frozen range. gives_given (λ (p : Parts). HasRange p.frozen) _ range))

-- ---- all of them

parts_read : (bytes : List ℕ) (p : Parts) → read_parts bytes ≡ Ok p → HasRange p.frozen
unfolding read_parts
parts_read bytes p e = marked (starts_with nat_eq bytes mark) e
  where
    at_end : (q : Parts) (rest : List ℕ) → HasRange q.frozen → whole q rest ≡ Ok p → HasRange p.frozen
    at_end q [] range e = let same : q ≡ p = cc (e) in subst (λ (x : Parts). HasRange x.frozen) same range
    at_end q (b ∷ rest) range e = absurd (cc (e))

    answered : (rest : List ℕ) (o : Outcome Parts) → parts rest ≡ o → answer (length bytes) o ≡ Ok p → HasRange p.frozen
    answered rest (got q more) is e = at_end q more (parts_give rest q more is) e
    answered rest truncated is e = absurd (cc (e))
    answered rest (bad left) is e = absurd (cc (e))

    one : (rest : List ℕ) (q : Bool) → cond q (answer (length bytes) (parts rest)) (Err fault.BadVersion) ≡ Ok p → HasRange p.frozen
    one rest true e = answered rest (parts rest) refl e
    one rest false e = absurd (cc (e))

    version : (o : Outcome ℕ) → versioned (length bytes) o ≡ Ok p → HasRange p.frozen
    version (got n rest) e = one rest (n == 1) e
    version truncated e = absurd (cc (e))
    version (bad left) e = absurd (cc (e))

    marked : (q : Bool) → cond q (versioned (length bytes) (half (drop 4 bytes))) (Err fault.NotASnapshot) ≡ Ok p → HasRange p.frozen
    marked true e = version (half (drop 4 bytes)) e
    marked false e = absurd (cc (e))

pub limits_read : (bytes : List ℕ) → LimitsAreRead bytes
limits_read bytes snapshot e = by (read_parts bytes) refl e
  where
    coded : (frozen : Frozen) (code : CodeProgram) (why : Option Fault) → HasRange frozen → of_code frozen code why ≡ Ok snapshot → HasRange snapshot.frozen
    coded frozen code None range e =
        let same : record { code = code; frozen = frozen } ≡ snapshot = cc (e) in subst (λ (s : Snapshot). HasRange s.frozen) same range
    coded frozen code (Some why) range e = absurd (cc (e))

    imaged : (frozen : Frozen) (image : Result CodeProgram ImageFault) → HasRange frozen → of_image frozen image ≡ Ok snapshot → HasRange snapshot.frozen
    imaged frozen (Ok code) range e = coded frozen code (verifier.fault_of code) range e
    imaged frozen (Err why) range e = absurd (cc (e))

    new : (p : Parts) (q : Bool) → HasRange p.frozen → cond q (of_image p.frozen (read_image p.image)) (Err fault.BadImage) ≡ Ok snapshot → HasRange snapshot.frozen
    new p true range e = imaged p.frozen (read_image p.image) range e
    new p false range e = absurd (cc (e))

    by : (o : Result Parts SnapFault) → read_parts bytes ≡ o → of_parts o ≡ Ok snapshot → HasRange snapshot.frozen
    by (Ok p) is e = new p (is_new p.image) (parts_read bytes p is) e
    by (Err why) is e = absurd (cc (e))
