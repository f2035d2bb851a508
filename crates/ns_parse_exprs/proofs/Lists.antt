-- A loop that reads items with separators, while the next token begins one.
use Rattle.std.proofs.Common.{◌≡◌, ℕ, zero, suc, ◌+◌, ◌-◌, ◌≤◌, ◌<◌, cond, List, [], ◌∷◌, ◌++◌, length, Bool, true, false, refl, sym, ap, ◌∙◌, length-append, arith}
use Rattle.std.proofs.lemmas.List.{append-nil}
use Rattle.ns_tree.specs.declared.token.Kind.{Kind}
use Rattle.ns_tree.specs.Rule.{Listed, none, last, next}
use Rattle.ns_tree.specs.Made.{listed_items}
use Rattle.ns_parse_tokens.specs.declared.fault.ParseFault.{ParseFault}
use Rattle.ns_parse_tokens.specs.declared.fault.ParseFault.TheVariants.{TooDeep, Syntax, Memory}
use Rattle.ns_parse_tokens.specs.declared.mark.Mark.{Mark}
use Rattle.ns_parse_tokens.specs.Left.{Left}
use Rattle.ns_parse_tokens.specs.Mark.{is_mark, skip, flag}
use Rattle.ns_parse_tokens.specs.Read.{Outcome, Reader, got, fault, and_then, begins, read_mapped, read_listed, read_list_turns, behind, put_next, ends_there, ends_separated}
use Rattle.ns_parse_tokens.specs.Reads.{Fails, ReaderGives, next_is}
use Rattle.ns_parse_tokens.specs.laws.Takes.{Takes, fewer}
use Rattle.ns_parse_tokens.specs.laws.TakesTokens.{takes_skip}

-- these items, each with a separator, before a list
abbrev pub nexts : {A : Type 0} → List A → Listed A → Listed A
nexts [] l = l
nexts (x ∷ xs) l = next x (nexts xs l)

-- the same before an outcome
abbrev pub followed : {A : Type 0} → List A → Outcome (Listed A) → Outcome (Listed A)
followed xs (got l n ts) = got (nexts xs l) n ts
followed xs (fault k) = fault k

-- Something stands in the list.
abbrev pub is_some : {A : Type 0} → List A → Bool
is_some [] = false
is_some (x ∷ xs) = true

nexts_items : {A : Type 0} (xs : List A) (l : Listed A) → listed_items (nexts xs l) ≡ xs ++ listed_items l
nexts_items [] l = refl
nexts_items (x ∷ xs) l = ap (λ ys. x ∷ ys) (nexts_items xs l)

nexts_there : {A : Type 0} (xs : List A) (l : Listed A) → ends_there (nexts xs l) ≡ ends_there l
nexts_there [] l = refl
nexts_there (x ∷ xs) l = nexts_there xs l

last_separated : {A : Type 0} (xs : List A) (a : A) → ends_separated (nexts xs (last a)) ≡ false
last_separated [] a = refl
last_separated (x ∷ xs) a = nexts_there xs (last a)

none_separated : {A : Type 0} (xs : List A) → ends_separated (nexts xs none) ≡ is_some xs
none_separated [] = refl
none_separated (x ∷ xs) = nexts_there xs none

nexts_one : {A : Type 0} (xs : List A) (a : A) (l : Listed A) → nexts (xs ++ a ∷ []) l ≡ nexts xs (next a l)
nexts_one [] a l = refl
nexts_one (x ∷ xs) a l = ap (next x) (nexts_one xs a l)

begun_long : (first : Kind → Bool) (ts : List Kind) → begins first ts ≡ true → 0 < length ts
begun_long first [] h = absurd cc
begun_long first (k ∷ ts) h = omega arith

-- whether a mark is there, by whether the next token is one
abbrev skip_by : Bool → ℕ → List Kind → Outcome (Unit {0})
skip_by there n ts = cond there (got tt (n + 1) ts) (fault n)

abbrev flag_by : Bool → Kind → ℕ → List Kind → Outcome Bool
flag_by there k n ts = cond there (and_then (skip_by there n ts) (λ a m us. got true m us)) (got false n (k ∷ ts))

by_true : (there : Bool) (k : Kind) (n : ℕ) (ts : List Kind) (m : ℕ) (us : List Kind) → flag_by there k n ts ≡ got true m us → (there ≡ true) × (skip_by there n ts ≡ got tt m us)
by_true true k n ts m us e = let i : n + 1 ≡ m = cc in let w : ts ≡ us = cc in (refl, ap (λ j. got tt j ts) i ∙ ap (got tt m) w)
by_true false k n ts m us e = absurd cc

by_false : (there : Bool) (k : Kind) (n : ℕ) (ts : List Kind) (m : ℕ) (us : List Kind) → flag_by there k n ts ≡ got false m us → (there ≡ false) × (n ≡ m) × (k ∷ ts ≡ us)
by_false true k n ts m us e = absurd cc
by_false false k n ts m us e = (refl, (cc), (cc))

flag_begins : (sep : Mark) (n : ℕ) (ts : List Kind) (m : ℕ) (us : List Kind) → flag sep n ts ≡ got true m us → begins (is_mark sep) ts ≡ true
flag_begins sep n [] m us e = absurd cc
flag_begins sep n (k ∷ ts) m us e = (by_true (is_mark sep k) k n ts m us e).0

flag_skips : (sep : Mark) (n : ℕ) (ts : List Kind) (m : ℕ) (us : List Kind) → flag sep n ts ≡ got true m us → skip sep n ts ≡ got tt m us
flag_skips sep n [] m us e = absurd cc
flag_skips sep n (k ∷ ts) m us e = (by_true (is_mark sep k) k n ts m us e).1

flag_lacks : (sep : Mark) (n : ℕ) (ts : List Kind) (m : ℕ) (us : List Kind) → flag sep n ts ≡ got false m us → begins (is_mark sep) ts ≡ false
flag_lacks sep n [] m us e = refl
flag_lacks sep n (k ∷ ts) m us e = (by_false (is_mark sep k) k n ts m us e).0

flag_stays : {B : Type 0} (b : B) (sep : Mark) (n : ℕ) (ts : List Kind) (m : ℕ) (us : List Kind) → flag sep n ts ≡ got false m us → got b n ts ≡ got b m us
flag_stays b sep n [] m us e = let i : n ≡ m = cc in let w : [] ≡ us = cc in ap (λ j. got b j []) i ∙ ap (got b m) w
flag_stays b sep n (k ∷ ts) m us e = let h = by_false (is_mark sep k) k n ts m us e in ap (λ j. got b j (k ∷ ts)) h.1 ∙ ap (got b m) h.2

module _ {A : Type 0} (first : Kind → Bool) (sep : Mark) (p : Reader A) where
  -- A loop over the tokens from a place on has read these items, each with its separator, and stands at another place.
  pub record Lists (xs : List A) (now start : Left) : Type 0 where
    pub reads : followed xs (read_list_turns first (is_mark sep) p (length start.kinds - length xs) now.at now.kinds) ≡ read_listed first (is_mark sep) p start.at start.kinds
    pub room : length now.kinds + length xs ≤ length start.kinds

  followed_none : (o : Outcome (Listed A)) → followed [] o ≡ o
  followed_none (got xs n ts) = refl
  followed_none (fault k) = refl

  followed_one : (xs : List A) (a : A) (o : Outcome (Listed A)) → followed (xs ++ a ∷ []) o ≡ followed xs (and_then o (put_next first (is_mark sep) p a))
  followed_one xs a (got l n ts) = ap (λ r. got r n ts) (nexts_one xs a l)
  followed_one xs a (fault k) = refl

  abbrev turn : ℕ → ℕ → List Kind → Outcome (Listed A)
  turn t n ts = read_list_turns first (is_mark sep) p t n ts

  abbrev then_behind : ℕ → Outcome A → Outcome (Listed A)
  then_behind t o = and_then o (behind first (is_mark sep) p (turn t))

  turn_reads : (t n : ℕ) (ts : List Kind) (o : Outcome A) → begins first ts ≡ true → p n ts ≡ o → turn (suc t) n ts ≡ then_behind t o
  turn_reads t n ts o h e = ap (λ v. cond v (then_behind t (p n ts)) (got none n ts)) h ∙ ap (then_behind t) e

  turn_ends : (t n : ℕ) (ts : List Kind) → begins first ts ≡ false → turn t n ts ≡ got none n ts
  turn_ends zero n ts h = refl
  turn_ends (suc t) n ts h = ap (λ v. cond v (then_behind t (p n ts)) (got none n ts)) h

  behind_ends : (again : Reader (Listed A)) (a : A) (n : ℕ) (ts : List Kind) → begins (is_mark sep) ts ≡ false → behind first (is_mark sep) p again a n ts ≡ got (last a) n ts
  behind_ends again a n [] h = refl
  behind_ends again a n (k ∷ ts) h = ap (λ v. cond v (and_then (again (n + 1) ts) (put_next first (is_mark sep) p a)) (got (last a) n (k ∷ ts))) h

  behind_goes : (again : Reader (Listed A)) (a : A) (n : ℕ) (ts : List Kind) (m : ℕ) (us : List Kind) → begins (is_mark sep) ts ≡ true → skip sep n ts ≡ got tt m us
      → behind first (is_mark sep) p again a n ts ≡ and_then (again m us) (put_next first (is_mark sep) p a)
  behind_goes again a n [] m us h e = absurd cc
  behind_goes again a n (k ∷ ts) m us h e =
      let here : got tt (n + 1) ts ≡ got tt m us = sym (ap (λ v. cond v (got tt (n + 1) ts) (fault n)) h) ∙ e in
      let place : n + 1 ≡ m = cc in
      let left : ts ≡ us = cc in
      ap (λ v. cond v (and_then (again (n + 1) ts) (put_next first (is_mark sep) p a)) (got (last a) n (k ∷ ts))) h
      ∙ ap (λ i. and_then (again i ts) (put_next first (is_mark sep) p a)) place ∙ ap (λ w. and_then (again m w) (put_next first (is_mark sep) p a)) left

  -- no items yet
  pub lists_start : (start : Left) (xs : List A) → xs ≡ [] → Lists xs start start
  lists_start start xs empty = record {
    reads = ap (λ v. followed v (turn (length start.kinds - length v) start.at start.kinds)) empty ∙ followed_none _ ∙ ap (λ t. turn t start.at start.kinds) (omega arith);
    room = omega (arith, ap length empty);
  }

  room_left : (xs : List A) (now start : Left) → next_is first now ≡ true → length now.kinds + length xs ≤ length start.kinds → length xs < length start.kinds
  room_left xs now start h room = omega (arith, begun_long first now.kinds h, room)

  -- one item and its separator more
  pub lists_on : (xs ys : List A) (now start : Left) (a : A) (new past : Left) → Takes 1 p → Lists xs now start → next_is first now ≡ true → ReaderGives p a now new → next_is (is_mark sep) new ≡ true → ReaderGives (skip sep) tt new past → ys ≡ xs ++ a ∷ []
      → Lists ys past start
  lists_on xs ys now start a new past P g h e s es grown =
      let t : ℕ = length start.kinds - length ys in
      let count : length ys ≡ length xs + 1 = ap length grown ∙ length-append xs (a ∷ []) in
      let left : length xs < length start.kinds = room_left xs now start h g.room in
      let turns : length start.kinds - length xs ≡ suc t = omega arith in
      record {
        reads = ap (λ v. followed v (turn t past.at past.kinds)) grown ∙ followed_one xs a (turn t past.at past.kinds)
            ∙ ap (followed xs) (sym (behind_goes (turn t) a new.at new.kinds past.at past.kinds s es))
            ∙ ap (followed xs) (sym (turn_reads t now.at now.kinds (got a new.at new.kinds) h e)) ∙ ap (λ u. followed xs (turn u now.at now.kinds)) (sym turns) ∙ g.reads;
        room = omega (arith, g.room, fewer p now new a P e, fewer (skip sep) new past tt (takes_skip sep) es);
      }

  -- the same, where it is asked whether the separator is there
  pub lists_flag : (xs ys : List A) (now start : Left) (a : A) (new past : Left) → Takes 1 p → Lists xs now start → next_is first now ≡ true → ReaderGives p a now new → ReaderGives (flag sep) true new past → ys ≡ xs ++ a ∷ [] → Lists ys past start
  lists_flag xs ys now start a new past P g h e f grown =
      lists_on xs ys now start a new past P g h e (flag_begins sep new.at new.kinds past.at past.kinds f) (flag_skips sep new.at new.kinds past.at past.kinds f) grown

  module _ {B : Type 0} (to : List A → Bool → B) where
    abbrev pub made : Listed A → B
    made l = to (listed_items l) (ends_separated l)

    made_of : (o : Outcome (Listed A)) (l : Listed A) (xs : List A) (stop : Bool) (b : B) (n : ℕ) (ts : List Kind) → o ≡ got l n ts → listed_items l ≡ xs → ends_separated l ≡ stop → b ≡ to xs stop
        → and_then o (λ a m us. got (made a) m us) ≡ got b n ts
    made_of o l xs stop b n ts e i s same =
        ap (λ o. and_then o (λ a m us. got (made a) m us)) e ∙ ap (λ v. got v n ts) (ap (λ ys. to ys (ends_separated l)) i ∙ ap (to xs) s ∙ sym same)

    -- a last item without a separator
    pub lists_last : (xs : List A) (now start : Left) (a : A) (new : Left) (ys : List A) (b : B) → Lists xs now start → next_is first now ≡ true → ReaderGives p a now new → next_is (is_mark sep) new ≡ false → ys ≡ xs ++ a ∷ [] → b ≡ to ys false
        → ReaderGives (read_mapped made (read_listed first (is_mark sep) p)) b start new
    lists_last xs now start a new ys b g h e s grown same =
        let t : ℕ = length start.kinds - length xs - 1 in
        let turns : length start.kinds - length xs ≡ suc t = omega (arith, room_left xs now start h g.room) in
        made_of (read_listed first (is_mark sep) p start.at start.kinds) (nexts xs (last a)) ys false b new.at new.kinds
        (sym g.reads ∙ ap (λ u. followed xs (turn u now.at now.kinds)) turns ∙ ap (followed xs) (turn_reads t now.at now.kinds (got a new.at new.kinds) h e ∙ behind_ends (turn t) a new.at new.kinds s))
        (nexts_items xs (last a) ∙ sym grown) (last_separated xs a) same

    -- no item behind the last separator, or none at all
    pub lists_end : (xs : List A) (now start : Left) (b : B) → Lists xs now start → next_is first now ≡ false → b ≡ to xs (is_some xs)
        → ReaderGives (read_mapped made (read_listed first (is_mark sep) p)) b start now
    lists_end xs now start b g h same =
        made_of (read_listed first (is_mark sep) p start.at start.kinds) (nexts xs none) xs (is_some xs) b now.at now.kinds
        (sym g.reads ∙ ap (followed xs) (turn_ends (length start.kinds - length xs) now.at now.kinds h))
        (nexts_items xs none ∙ append-nil xs) (none_separated xs) same

    -- the same, where it is asked whether the separator is there
    pub lists_last_flag : (xs : List A) (now start : Left) (a : A) (new past : Left) (ys : List A) (b : B) → Lists xs now start → next_is first now ≡ true → ReaderGives p a now new → ReaderGives (flag sep) false new past → ys ≡ xs ++ a ∷ [] → b ≡ to ys false
        → ReaderGives (read_mapped made (read_listed first (is_mark sep) p)) b start past
    lists_last_flag xs now start a new past ys b g h e f grown same =
        lists_last xs now start a new ys b g h e (flag_lacks sep new.at new.kinds past.at past.kinds f) grown same
        ∙ flag_stays b sep new.at new.kinds past.at past.kinds f

    stuck_made : (o : Outcome (Listed A)) (k : ℕ) → o ≡ fault k → and_then o (λ a m us. got (made a) m us) ≡ fault k
    stuck_made o k e = ap (λ o. and_then o (λ a m us. got (made a) m us)) e

    -- an item can't be read
    pub lists_stuck : (xs : List A) (now start : Left) (e : ParseFault) → Lists xs now start → next_is first now ≡ true → Fails (p now.at now.kinds) e
        → Fails (read_mapped made (read_listed first (is_mark sep) p) start.at start.kinds) e
    lists_stuck xs now start (Syntax k) g h f =
        let t : ℕ = length start.kinds - length xs - 1 in
        let turns : length start.kinds - length xs ≡ suc t = omega (arith, room_left xs now start h g.room) in
        stuck_made (read_listed first (is_mark sep) p start.at start.kinds) k
        (sym g.reads ∙ ap (λ u. followed xs (turn u now.at now.kinds)) turns ∙ ap (followed xs) (turn_reads t now.at now.kinds (fault k) h f))
    lists_stuck xs now start (TooDeep k) g h f = f
    lists_stuck xs now start Memory g h f = tt
