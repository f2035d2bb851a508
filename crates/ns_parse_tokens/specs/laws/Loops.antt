-- A loop that reads items while the next token begins one.
use Rattle.std.proofs.Common.{◌≡◌, ℕ, zero, suc, ◌+◌, ◌-◌, ◌≤◌, ◌<◌, cond, List, [], ◌∷◌, ◌++◌, length, Bool, true, false, refl, sym, ap, ◌∙◌, append_assoc, length-append, arith}
use Rattle.std.proofs.lemmas.List.{append-nil}
use Rattle.ns_tree.specs.declared.token.Kind.{Kind}
use Rattle.ns_parse_tokens.specs.declared.fault.ParseFault.{ParseFault}
use Rattle.ns_parse_tokens.specs.declared.fault.ParseFault.TheVariants.{TooDeep, Syntax, Memory}
use Rattle.ns_parse_tokens.specs.Left.{Left}
use Rattle.ns_parse_tokens.specs.Read.{Outcome, Reader, got, fault, and_then, begins, read_mapped, read_many, read_turns, put}
use Rattle.ns_parse_tokens.specs.Reads.{Fails, ReaderGives, next_is}
use Rattle.ns_parse_tokens.specs.laws.Takes.{Takes, fewer}

begun_long : (first : Kind → Bool) (ts : List Kind) → begins first ts ≡ true → 0 < length ts
begun_long first [] h = absurd cc
begun_long first (k ∷ ts) h = omega arith

-- these items, before those of an outcome
abbrev pub before : {A : Type 0} → List A → Outcome (List A) → Outcome (List A)
before xs (got ys n ts) = got (xs ++ ys) n ts
before xs (fault k) = fault k

module _ {A : Type 0} (first : Kind → Bool) (p : Reader A) where
  -- A loop over the tokens from a place on has read these items, and stands at another place.
  pub record Goes (xs : List A) (now start : Left) : Type 0 where
    pub reads : before xs (read_turns first p (length start.kinds - length xs) now.at now.kinds) ≡ read_many first p start.at start.kinds
    pub room : length now.kinds + length xs ≤ length start.kinds

  before_none : (o : Outcome (List A)) → before [] o ≡ o
  before_none (got xs n ts) = refl
  before_none (fault k) = refl

  before_one : (xs : List A) (a : A) (o : Outcome (List A)) → before (xs ++ a ∷ []) o ≡ before xs (and_then o (put first p a))
  before_one xs a (got ys n ts) = ap (λ zs. got zs n ts) (append_assoc xs (a ∷ []) ys)
  before_one xs a (fault k) = refl

  turn_goes : (t n : ℕ) (ts : List Kind) (a : A) (m : ℕ) (us : List Kind) → begins first ts ≡ true → p n ts ≡ got a m us
      → read_turns first p (suc t) n ts ≡ and_then (read_turns first p t m us) (put first p a)
  turn_goes t n ts a m us h e =
      ap (λ v. cond v (and_then (p n ts) (λ a m us. and_then (read_turns first p t m us) (put first p a))) (got [] n ts)) h
      ∙ ap (λ o. and_then o (λ a m us. and_then (read_turns first p t m us) (put first p a))) e

  turn_ends : (t n : ℕ) (ts : List Kind) → begins first ts ≡ false → read_turns first p t n ts ≡ got [] n ts
  turn_ends zero n ts h = refl
  turn_ends (suc t) n ts h = ap (λ v. cond v (and_then (p n ts) (λ a m us. and_then (read_turns first p t m us) (put first p a))) (got [] n ts)) h

  turn_stuck : (t n : ℕ) (ts : List Kind) (k : ℕ) → begins first ts ≡ true → p n ts ≡ fault k → read_turns first p (suc t) n ts ≡ fault k
  turn_stuck t n ts k h e =
      ap (λ v. cond v (and_then (p n ts) (λ a m us. and_then (read_turns first p t m us) (put first p a))) (got [] n ts)) h
      ∙ ap (λ o. and_then o (λ a m us. and_then (read_turns first p t m us) (put first p a))) e

  -- no items yet
  pub goes_start : (start : Left) (xs : List A) → xs ≡ [] → Goes xs start start
  goes_start start xs none = record {
    reads = ap (λ v. before v (read_turns first p (length start.kinds - length v) start.at start.kinds)) none ∙ before_none _
        ∙ ap (λ t. read_turns first p t start.at start.kinds) (omega arith);
    room = omega (arith, ap length none);
  }

  room_left : (xs : List A) (now start : Left) → next_is first now ≡ true → length now.kinds + length xs ≤ length start.kinds → length xs < length start.kinds
  room_left xs now start h room = omega (arith, begun_long first now.kinds h, room)

  -- one item more
  pub goes_on : (xs ys : List A) (now start : Left) (a : A) (new : Left) → Takes 1 p → Goes xs now start → next_is first now ≡ true
      → ReaderGives p a now new → ys ≡ xs ++ a ∷ [] → Goes ys new start
  goes_on xs ys now start a new P g h e grown =
      let t : ℕ = length start.kinds - length ys in
      let count : length ys ≡ length xs + 1 = ap length grown ∙ length-append xs (a ∷ []) in
      let left : length xs < length start.kinds = room_left xs now start h g.room in
      let turns : length start.kinds - length xs ≡ suc t = omega arith in
      record {
        reads = ap (λ v. before v (read_turns first p t new.at new.kinds)) grown ∙ before_one xs a (read_turns first p t new.at new.kinds)
            ∙ ap (before xs) (sym (turn_goes t now.at now.kinds a new.at new.kinds h e))
            ∙ ap (λ u. before xs (read_turns first p u now.at now.kinds)) (sym turns) ∙ g.reads;
        room = omega (arith, g.room, fewer p now new a P e);
      }

  -- no more items
  pub goes_end : (xs : List A) (now start : Left) → Goes xs now start → next_is first now ≡ false → ReaderGives (read_many first p) xs start now
  goes_end xs now start g h = sym g.reads ∙ ap (before xs) (turn_ends (length start.kinds - length xs) now.at now.kinds h)
      ∙ ap (λ v. got v now.at now.kinds) (append-nil xs)

  -- an item can't be read
  pub goes_stuck : (xs : List A) (now start : Left) (e : ParseFault) → Goes xs now start → next_is first now ≡ true → Fails (p now.at now.kinds) e
      → Fails (read_many first p start.at start.kinds) e
  goes_stuck xs now start (Syntax k) g h f =
      let t : ℕ = length start.kinds - length xs - 1 in
      let turns : length start.kinds - length xs ≡ suc t = omega (arith, room_left xs now start h g.room) in
      sym g.reads ∙ ap (λ u. before xs (read_turns first p u now.at now.kinds)) turns ∙ ap (before xs) (turn_stuck t now.at now.kinds k h f)
  goes_stuck xs now start (TooDeep k) g h f = f
  goes_stuck xs now start Memory g h f = tt

  -- the same for another value of the items
  pub goes_end_mapped : {B : Type 0} (to : List A → B) (xs : List A) (b : B) (now start : Left) → Goes xs now start → next_is first now ≡ false → b ≡ to xs
      → ReaderGives (read_mapped to (read_many first p)) b start now
  goes_end_mapped to xs b now start g h e = ap (λ o. and_then o (λ a m us. got (to a) m us)) (goes_end xs now start g h)
      ∙ ap (λ v. got v now.at now.kinds) (sym e)

  stuck_mapped : {B : Type 0} (to : List A → B) (o : Outcome (List A)) (e : ParseFault) → Fails o e → Fails (and_then o (λ a m us. got (to a) m us)) e
  stuck_mapped to o (Syntax k) f = ap (λ o. and_then o (λ a m us. got (to a) m us)) f
  stuck_mapped to o (TooDeep k) f = f
  stuck_mapped to o Memory f = tt

  pub goes_stuck_mapped : {B : Type 0} (to : List A → B) (xs : List A) (now start : Left) (e : ParseFault) → Goes xs now start
      → next_is first now ≡ true → Fails (p now.at now.kinds) e
      → Fails (read_mapped to (read_many first p) start.at start.kinds) e
  goes_stuck_mapped to xs now start e g h f = stuck_mapped to (read_many first p start.at start.kinds) e (goes_stuck xs now start e g h f)
