-- What the tokens of a tree give as names: each is spelled as a selector is, and not too long.
use Rattle.std.proofs.Common.{◌≡◌, ℕ, ◌+◌, ◌*◌, ◌≤◌, List, [], ◌∷◌, ◌++◌, length, refl, sym, ap, ◌∙◌, subst, arith, append_assoc}
use Rattle.std.proofs.lemmas.List.{append-nil, length-append}
use Rattle.std.proofs.lemmas.Bool.{eqb-true}
use Rattle.std.specs.Prelude.{Bool, true, false, ◌&&◌, ◌||◌, ◌==◌, ◌≢◌, not, flat_map, codes, if◌then◌else◌}
use Rattle.std.proofs.Common.{inl, inr}
use Rattle.std.specs.List.{list_all}
use Rattle.ns_base.specs.Spelling.{begins_name, starts_name, goes_on_name, is_identifier, are_keys, is_keyword, is_operator, is_selector, is_reserved}
use Rattle.ns_tree.specs.declared.token.Kind.TheVariants as k
use Rattle.ns_tree.specs.Tree.{IsKey, HasText}
use Rattle.ns_code.specs.Fits.{IsName, IsLocalName, IsShort}
use Rattle.ns_code.specs.Selector.{text_arity}
use Rattle.ns_link.specs.laws.Texts.{colons, colons_both, key_colons, key_starts, starts_left, starts_arity}
use Rattle.ns_link.specs.laws.Setters.{setter_arity}

-- A selector, each of whose keys is no longer than a source.
pub record Spoken (text : List ℕ) : Type 0 where
  pub spelled : is_selector text ≡ true
  pub within : length text ≤ 1048576 * (text_arity text + 1)

or_left : (x y : Bool) → x ≡ true → (x || y) ≡ true
or_left true y h = refl
or_left false y h = absurd (let f : false ≡ true = h in cc)

or_right : (x y : Bool) → y ≡ true → (x || y) ≡ true
or_right true y h = refl
or_right false y h = h

-- ---- how selectors are spelled

identifier_spelled : (text : List ℕ) → is_identifier text ≡ true → is_selector text ≡ true
identifier_spelled text h =
    or_left (is_identifier text || is_operator text) (is_keyword text) (or_left (is_identifier text) (is_operator text) h)

operator_spelled : (text : List ℕ) → is_operator text ≡ true → is_selector text ≡ true
operator_spelled text h =
    or_left (is_identifier text || is_operator text) (is_keyword text) (or_right (is_identifier text) (is_operator text) h)

keyword_spelled : (text : List ℕ) → is_keyword text ≡ true → is_selector text ≡ true
keyword_spelled text h = or_right (is_identifier text || is_operator text) (is_keyword text) h

and_left : (x y : Bool) → (x && y) ≡ true → x ≡ true
and_left true y h = refl
and_left false y h = h

and_right : (x y : Bool) → (x && y) ≡ true → y ≡ true
and_right true y h = h
and_right false y h = absurd (let f : false ≡ true = h in cc)

and_both : (x y : Bool) → x ≡ true → y ≡ true → (x && y) ≡ true
and_both true y h e = e
and_both false y h e = h

no_colon : (byte : ℕ) → goes_on_name byte ≡ true → (byte == 58) ≡ false
no_colon byte h = by (byte == 58) refl where
  by : (is : Bool) → (byte == 58) ≡ is → (byte == 58) ≡ false
  by false e = e
  by true e = absurd (let f : goes_on_name 58 ≡ true = subst (λ b. goes_on_name b ≡ true) (eqb-true byte 58 e) h in let g : false ≡ true = f in cc)

-- the rest of a name and a colon before other keys
keys_go_on : (bytes rest : List ℕ) → list_all goes_on_name bytes ≡ true → are_keys false rest ≡ true →
    are_keys true (bytes ++ 58 ∷ rest) ≡ true
keys_go_on [] rest h r = r
keys_go_on (byte ∷ bytes) rest h r =
    let one = and_left (goes_on_name byte) (list_all goes_on_name bytes) h in
    ap (λ b. if b then are_keys false (bytes ++ 58 ∷ rest) else (goes_on_name byte && are_keys true (bytes ++ 58 ∷ rest))) (no_colon byte one)
    ∙ and_both (goes_on_name byte) (are_keys true (bytes ++ 58 ∷ rest)) one
    (keys_go_on bytes rest (and_right (goes_on_name byte) (list_all goes_on_name bytes) h) r)

key_before : (name rest : List ℕ) → is_identifier name ≡ true → are_keys false rest ≡ true → are_keys false (name ++ 58 ∷ rest) ≡ true
key_before [] rest h r = absurd (let f : false ≡ true = h in cc)
key_before (byte ∷ bytes) rest h r =
    and_both (begins_name byte) (are_keys true (bytes ++ 58 ∷ rest)) (and_left (begins_name byte) (list_all goes_on_name bytes) h)
    (keys_go_on bytes rest (and_right (begins_name byte) (list_all goes_on_name bytes) h) r)

some_keyword : (text : List ℕ) → are_keys false text ≡ true → text ≢ [] → is_keyword text ≡ true
some_keyword [] h some = absurd (some refl)
some_keyword (byte ∷ bytes) h some = h

-- keys before others
pub key_and : (text rest : List ℕ) → IsKey text → are_keys false rest ≡ true → are_keys false (text ++ rest) ≡ true
key_and text rest key r =
    subst (λ x. are_keys false (x ++ rest) ≡ true) (sym key.2)
    (subst (λ x. are_keys false x ≡ true) (sym (append_assoc key.0 (58 ∷ []) rest)) (key_before key.0 rest key.1 r))

keys_are : (names : List (List ℕ)) → list_all is_identifier names ≡ true → are_keys false (flat_map (λ name. name ++ 58 ∷ []) names) ≡ true
keys_are [] h = refl
keys_are (name ∷ names) h =
    key_and (name ++ 58 ∷ []) (flat_map (λ name. name ++ 58 ∷ []) names) (name, and_left (is_identifier name) (list_all is_identifier names) h, refl)
    (keys_are names (and_right (is_identifier name) (list_all is_identifier names) h))

some_more : (text rest : List ℕ) → IsKey text → (text ++ rest) ≢ []
some_more text rest key e = by (text ++ rest) (starts_left text rest (key_starts text key)) e where
  by : (x : List ℕ) → starts_name x ≡ true → x ≢ []
  by [] h e = absurd (let f : false ≡ true = h in cc)
  by (byte ∷ bytes) h e = absurd (let f : byte ∷ bytes ≡ [] = e in cc)

keys_some : (names : List (List ℕ)) → list_all is_identifier names ≡ true → names ≢ [] → flat_map (λ name. name ++ 58 ∷ []) names ≢ []
keys_some [] h some e = some refl
keys_some (name ∷ names) h some e =
    some_more (name ++ 58 ∷ []) (flat_map (λ name. name ++ 58 ∷ []) names) (name, and_left (is_identifier name) (list_all is_identifier names) h, refl) e

-- a symbol's text
pub symbol_spelled : (text : List ℕ) → HasText (k.Symbol text) → is_selector text ≡ true
symbol_spelled text (inl name) = identifier_spelled text name
symbol_spelled text (inr (inl oper)) = operator_spelled text oper
symbol_spelled text (inr (inr keys)) =
    subst (λ x. is_selector x ≡ true) (sym keys.3)
    (keyword_spelled (flat_map (λ name. name ++ 58 ∷ []) keys.0)
    (some_keyword (flat_map (λ name. name ++ 58 ∷ []) keys.0) (keys_are keys.0 keys.1) (keys_some keys.0 keys.1 keys.2)))

-- ---- texts of tokens

short : (text : List ℕ) → length text ≤ 1048576 → IsShort text
short text h = omega (h, arith)

pub text_short : (text : List ℕ) → length text ≤ 1048576 → IsShort text
text_short text h = short text h

pub spoken_name : (text : List ℕ) → is_identifier text ≡ true → length text ≤ 1048576 → Spoken text
spoken_name text h few = record { spelled = identifier_spelled text h; within = omega (few, arith) }

pub spoken_operator : (text : List ℕ) → is_operator text ≡ true → length text ≤ 1048576 → Spoken text
spoken_operator text h few = record { spelled = operator_spelled text h; within = omega (few, arith) }

pub spoken_setter : (text : List ℕ) → is_identifier text ≡ true → length text ≤ 1048576 → Spoken (text ++ codes ":")
spoken_setter text h few =
    let key : IsKey (text ++ codes ":") = (text, h, refl) in
    let one = setter_arity text h in
    let longer = length-append text (codes ":") in
    record {
      spelled = keyword_spelled (text ++ codes ":") (some_keyword (text ++ codes ":") (key_before text [] h refl)
          (λ e. some_more (text ++ codes ":") [] key (append-nil (text ++ codes ":") ∙ e)));
      within = omega (few, one, longer, arith);
    }

pub named_there : (text : List ℕ) → is_identifier text ≡ true → length text ≤ 1048576 → IsName text
named_there text h few = record { short = short text few; spelled = identifier_spelled text h }

pub symbol_named : (text : List ℕ) → HasText (k.Symbol text) → length text ≤ 1048576 → IsName text
symbol_named text h few = record { short = short text few; spelled = symbol_spelled text h }

pub local_named : (text : List ℕ) → HasText (k.Ident text) → length text ≤ 1048576 → IsLocalName text
local_named text h few =
    record { short = short text few; spelled = and_both (is_identifier text) (not (is_reserved text)) h.0 (ap not h.1) }

-- ---- keys

-- each text is a key, and not too long
abbrev pub KeyTexts : List (List ℕ) → Type 0
KeyTexts [] = Unit {0}
KeyTexts (text ∷ texts) = IsKey text × (length text ≤ 1048576) × KeyTexts texts

abbrev pub all_of : List (List ℕ) → List ℕ
all_of [] = []
all_of (text ∷ texts) = text ++ all_of texts

keys_long : (texts : List (List ℕ)) → KeyTexts texts → length (all_of texts) ≤ 1048576 * colons (all_of texts)
keys_long [] h = omega arith
keys_long (text ∷ texts) h =
    let further = keys_long texts h.2 in
    let first = h.1 in
    let one = key_colons text h.0 in
    let both = colons_both text (all_of texts) in
    omega (further, first, one, both, length-append text (all_of texts), arith)

keys_spelled : (texts : List (List ℕ)) → KeyTexts texts → are_keys false (all_of texts) ≡ true
keys_spelled [] h = refl
keys_spelled (text ∷ texts) h = key_and text (all_of texts) h.0 (keys_spelled texts h.2)

pub spoken_keys : (text : List ℕ) (texts : List (List ℕ)) → KeyTexts (text ∷ texts) → Spoken (all_of (text ∷ texts))
spoken_keys text texts h =
    let whole = all_of (text ∷ texts) in
    let long = keys_long (text ∷ texts) h in
    let arity = starts_arity whole (starts_left text (all_of texts) (key_starts text h.0)) in
    record {
      spelled = keyword_spelled whole (some_keyword whole (keys_spelled (text ∷ texts) h) (some_more text (all_of texts) h.0));
      within = omega (long, arity, arith);
    }

-- few keys are short
pub spoken_short : (text : List ℕ) → Spoken text → text_arity text ≤ 255 → IsName text
spoken_short text h few = let long = h.within in record { short = omega (long, few, arith); spelled = h.spelled }
