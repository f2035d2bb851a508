-- What a reader sees of the next token, and sets of that.
use Rattle.std.proofs.Common.{◌≡◌, ℕ, List, [], ◌∷◌, ◌++◌, Bool, true, false, ◌||◌, ◌&&◌, cond, refl, sym, ap, ◌∙◌, eqb-true}
use Rattle.std.specs.Prelude.{codes, not, nat_eq}
use Rattle.std.specs.List.{list_all}
use Rattle.std.specs.Str.{bytes_eq}
use Rattle.ns_tree.specs.declared.token.Kind.{Kind}
use Rattle.ns_tree.specs.declared.token.Kind.TheVariants as k
use Rattle.ns_tree.specs.declared.token.Reserved.{Reserved}
use Rattle.ns_tree.specs.declared.token.Reserved.TheVariants as r
use Rattle.ns_parse_tokens.specs.Read.{begins}

-- Tokens between which no reader tells are seen alike: a name but for `Newspeak3`, an operator but for four signs.
pub data Seen : Type 0 where
  name : Seen
  marker : Seen
  key : Seen
  set_key : Seen
  bar : Seen
  equals : Seen
  over : Seen
  minus : Seen
  oper : Seen
  number : Seen
  string : Seen
  symbol : Seen
  open_paren : Seen
  close_paren : Seen
  open_block : Seen
  close_block : Seen
  open_tuple : Seen
  close_tuple : Seen
  stop : Seen
  semi : Seen
  caret : Seen
  colon : Seen
  slot_set : Seen
  class_word : Seen
  access_word : Seen
  super_word : Seen
  outer_word : Seen
  simple_word : Seen

-- by whether the operator is a bar, an equals sign, `<:` or a minus
abbrev pub sign_seen : Bool → Bool → Bool → Bool → Seen
sign_seen b e o m = cond b bar (cond e equals (cond o over (cond m minus oper)))

abbrev pub word_seen : Reserved → Seen
word_seen r.Class = class_word
word_seen r.Public = access_word
word_seen r.Protected = access_word
word_seen r.Private = access_word
word_seen r.Super = super_word
word_seen r.Outer = outer_word
word_seen _ = simple_word

-- what is seen of a token
abbrev pub seen : Kind → Seen
seen (k.Ident text) = cond (bytes_eq text (codes "Newspeak3")) marker name
seen (k.Word word) = word_seen word
seen (k.Key text) = key
seen (k.SetKey text) = set_key
seen (k.Oper text) = sign_seen (bytes_eq text (codes "|")) (bytes_eq text (codes "=")) (bytes_eq text (codes "<:")) (bytes_eq text (codes "-"))
seen (k.Number size) = number
seen (k.Str text) = string
seen (k.Symbol text) = symbol
seen k.Open = open_paren
seen k.Close = close_paren
seen k.OpenBlock = open_block
seen k.CloseBlock = close_block
seen k.OpenTuple = open_tuple
seen k.CloseTuple = close_tuple
seen k.Stop = stop
seen k.Semi = semi
seen k.Caret = caret
seen k.Colon = colon
seen k.SlotSet = slot_set

-- its number among these
abbrev pub place : Seen → ℕ
place name = 0
place marker = 1
place key = 2
place set_key = 3
place bar = 4
place equals = 5
place over = 6
place minus = 7
place oper = 8
place number = 9
place string = 10
place symbol = 11
place open_paren = 12
place close_paren = 13
place open_block = 14
place close_block = 15
place open_tuple = 16
place close_tuple = 17
place stop = 18
place semi = 19
place caret = 20
place colon = 21
place slot_set = 22
place class_word = 23
place access_word = 24
place super_word = 25
place outer_word = 26
place simple_word = 27

abbrev pub among : List Seen → ℕ → Bool
among [] n = false
among (c ∷ cs) n = nat_eq (place c) n || among cs n

-- Whether what is seen of the token is one of these.
abbrev pub shows : List Seen → Kind → Bool
shows cs kind = among cs (place (seen kind))

-- the same of the next token, if there is one
abbrev pub next_shows : List Seen → List Kind → Bool
next_shows cs ts = begins (shows cs) ts

-- None of the first is one of the second.
abbrev pub apart : List Seen → List Seen → Bool
apart cs ds = list_all (λ c. not (among ds (place c))) cs

-- Each of the first is one of the second.
abbrev pub within : List Seen → List Seen → Bool
within cs ds = list_all (λ c. among ds (place c)) cs

-- The test is whether one of these is seen.
abbrev pub Sees : (Kind → Bool) → List Seen → Type 0
Sees test cs = (kind : Kind) → test kind ≡ shows cs kind

-- ---- sets

pub or_false : (a b : Bool) → (a || b) ≡ false → (a ≡ false) × (b ≡ false)
or_false true b h = absurd cc
or_false false b h = (refl, h)

pub or_left : (a b : Bool) → a ≡ true → (a || b) ≡ true
or_left true b h = refl
or_left false b h = absurd cc

pub or_right : (a b : Bool) → b ≡ true → (a || b) ≡ true
or_right true b h = refl
or_right false b h = h

pub and_both : (a b : Bool) → (a && b) ≡ true → (a ≡ true) × (b ≡ true)
and_both true b h = (refl, h)
and_both false b h = absurd cc

fails : (a : Bool) → not a ≡ true → a ≡ false
fails true h = absurd cc
fails false h = refl

pub clash : {A : Type 0} (a : Bool) → a ≡ true → a ≡ false → A
clash true h e = absurd cc
clash false h e = absurd cc

-- what holds of each of a set holds of what is among it
module _ (f : ℕ → Bool) where
  holds_by : (c n : ℕ) (same rest : Bool) → nat_eq c n ≡ same → (same || rest) ≡ true → f c ≡ true → (rest ≡ true → f n ≡ true) → f n ≡ true
  holds_by c n true rest e any one others = ap f (sym (eqb-true c n e)) ∙ one
  holds_by c n false rest e any one others = others any

  holds : (cs : List Seen) (n : ℕ) → list_all (λ c. f (place c)) cs ≡ true → among cs n ≡ true → f n ≡ true
  holds [] n all h = absurd cc
  holds (c ∷ cs) n all h =
      let both : (f (place c) ≡ true) × (list_all (λ c. f (place c)) cs ≡ true) = and_both (f (place c)) (list_all (λ c. f (place c)) cs) all in
      holds_by (place c) n (nat_eq (place c) n) (among cs n) refl h both.0 (λ more. holds cs n both.1 more)

pub are_apart : (cs ds : List Seen) (kind : Kind) → apart cs ds ≡ true → shows cs kind ≡ true → shows ds kind ≡ false
are_apart cs ds kind all h = fails (shows ds kind) (holds (λ n. not (among ds n)) cs (place (seen kind)) all h)

pub are_within : (cs ds : List Seen) (kind : Kind) → within cs ds ≡ true → shows cs kind ≡ true → shows ds kind ≡ true
are_within cs ds kind all h = holds (λ n. among ds n) cs (place (seen kind)) all h

among_append : (cs ds : List Seen) (n : ℕ) → among (cs ++ ds) n ≡ (among cs n || among ds n)
among_append [] ds n = refl
among_append (c ∷ cs) ds n = ap (λ v. nat_eq (place c) n || v) (among_append cs ds n) ∙ or_assoc (nat_eq (place c) n) (among cs n) (among ds n)
  where
    or_assoc : (a b c : Bool) → (a || (b || c)) ≡ ((a || b) || c)
    or_assoc true b c = refl
    or_assoc false b c = refl

pub shows_left : (cs ds : List Seen) (kind : Kind) → shows cs kind ≡ true → shows (cs ++ ds) kind ≡ true
shows_left cs ds kind h = among_append cs ds (place (seen kind)) ∙ or_left (shows cs kind) (shows ds kind) h

pub shows_right : (cs ds : List Seen) (kind : Kind) → shows ds kind ≡ true → shows (cs ++ ds) kind ≡ true
shows_right cs ds kind h = among_append cs ds (place (seen kind)) ∙ or_right (shows cs kind) (shows ds kind) h

-- what isn't seen of two sets isn't seen of each
pub ends_each : (cs ds : List Seen) (ts : List Kind) → next_shows (cs ++ ds) ts ≡ false → (next_shows cs ts ≡ false) × (next_shows ds ts ≡ false)
ends_each cs ds [] h = (refl, refl)
ends_each cs ds (kind ∷ ts) h = or_false (shows cs kind) (shows ds kind) (sym (among_append cs ds (place (seen kind))) ∙ h)

by_value : (a b : Bool) → (a ≡ true → b ≡ true) → b ≡ false → a ≡ false
by_value true b h e = clash b (h refl) e
by_value false b h e = refl

pub ends_within : (cs ds : List Seen) (ts : List Kind) → within cs ds ≡ true → next_shows ds ts ≡ false → next_shows cs ts ≡ false
ends_within cs ds [] all h = refl
ends_within cs ds (kind ∷ ts) all h = by_value (shows cs kind) (shows ds kind) (are_within cs ds kind all) h

-- a test of the next token
pub next_sees : (test : Kind → Bool) (cs : List Seen) → Sees test cs → (ts : List Kind) → begins test ts ≡ next_shows cs ts
next_sees test cs S [] = refl
next_sees test cs S (kind ∷ ts) = S kind

-- one test or another
pub sees_or : {f g : Kind → Bool} (cs ds : List Seen) → Sees f cs → Sees g ds → Sees (λ kind. f kind || g kind) (cs ++ ds)
sees_or {f = f} {g = g} cs ds F G kind = ap (λ v. v || g kind) (F kind) ∙ ap (λ v. shows cs kind || v) (G kind) ∙ sym (among_append cs ds (place (seen kind)))
