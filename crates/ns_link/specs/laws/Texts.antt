-- What the texts of tokens are: identifiers, and how many arguments a text takes.
use Rattle.std.proofs.Common.{◌≡◌, ℕ, ◌+◌, List, [], ◌∷◌, ◌++◌, refl, sym, ap, ◌∙◌, subst}
use Rattle.std.specs.Prelude.{Bool, true, false, cond, ◌&&◌, ◌||◌, ◌==◌, count_by, if◌then◌else◌}
use Rattle.std.specs.List.{list_all}
use Rattle.std.proofs.lemmas.Bool.{eqb-true}
use Rattle.std.proofs.lemmas.List.Sums.{sum_by-cons, sum_by-append}
use Rattle.ns_base.specs.Spelling.{is_digit, begins_name, starts_name, goes_on_name, is_identifier}
use Rattle.ns_tree.specs.Tree.{IsKey}
use Rattle.ns_code.specs.Selector.{text_arity}

-- ---- colons

abbrev pub colon : ℕ → ℕ
colon byte = cond (byte == 58) 1 0

-- How many colons a text has.
abbrev pub colons : List ℕ → ℕ
colons text = count_by (λ b. b == 58) text

and_left : (x y : Bool) → (x && y) ≡ true → x ≡ true
and_left true y h = refl
and_left false y h = h

and_right : (x y : Bool) → (x && y) ≡ true → y ≡ true
and_right true y h = h
and_right false y h = absurd (let f : false ≡ true = h in cc)

-- a byte of a name is no colon
no_colon : (byte : ℕ) → goes_on_name byte ≡ true → (byte == 58) ≡ false
no_colon byte h = by (byte == 58) refl where
  by : (is : Bool) → (byte == 58) ≡ is → (byte == 58) ≡ false
  by false e = e
  by true e = absurd (let f : goes_on_name 58 ≡ true = subst (λ b. goes_on_name b ≡ true) (eqb-true byte 58 e) h in let g : false ≡ true = f in cc)

none_in_name : (bytes : List ℕ) → list_all goes_on_name bytes ≡ true → colons bytes ≡ 0
none_in_name [] h = refl
none_in_name (byte ∷ bytes) h =
    sum_by-cons colon byte bytes
    ∙ ap (λ b. cond b 1 0 + colons bytes) (no_colon byte (and_left (goes_on_name byte) (list_all goes_on_name bytes) h))
    ∙ ap (λ n. 0 + n) (none_in_name bytes (and_right (goes_on_name byte) (list_all goes_on_name bytes) h))

begins_goes_on : (byte : ℕ) → begins_name byte ≡ true → goes_on_name byte ≡ true
begins_goes_on byte h = ap (λ b. b || is_digit byte) h

pub none_in_identifier : (text : List ℕ) → is_identifier text ≡ true → colons text ≡ 0
none_in_identifier [] h = refl
none_in_identifier (byte ∷ bytes) h =
    let begins = and_left (begins_name byte) (list_all goes_on_name bytes) h in
    sum_by-cons colon byte bytes
    ∙ ap (λ b. cond b 1 0 + colons bytes) (no_colon byte (begins_goes_on byte begins))
    ∙ ap (λ n. 0 + n) (none_in_name bytes (and_right (begins_name byte) (list_all goes_on_name bytes) h))

-- Two texts have together the colons of both.
pub colons_both : (a b : List ℕ) → colons (a ++ b) ≡ colons a + colons b
colons_both a b = sum_by-append colon a b

-- ---- how many arguments a text takes

-- a text that begins as a name takes one for each colon
pub starts_arity : (text : List ℕ) → starts_name text ≡ true → text_arity text ≡ colons text
starts_arity [] h = absurd (let f : false ≡ true = h in cc)
starts_arity (byte ∷ bytes) h = ap (λ b. if b then colons (byte ∷ bytes) else 1) h

pub name_starts : (text : List ℕ) → is_identifier text ≡ true → starts_name text ≡ true
name_starts [] h = absurd (let f : false ≡ true = h in cc)
name_starts (byte ∷ bytes) h = and_left (begins_name byte) (list_all goes_on_name bytes) h

-- A keyword has one colon.
pub key_colons : (text : List ℕ) → IsKey text → colons text ≡ 1
key_colons text key =
    ap colons key.2 ∙ colons_both key.0 (58 ∷ [])
    ∙ ap (λ n. n + 1) (none_in_identifier key.0 key.1)

-- A text begins as a name does where its front does.
pub starts_left : (a b : List ℕ) → starts_name a ≡ true → starts_name (a ++ b) ≡ true
starts_left [] b h = absurd (let f : false ≡ true = h in cc)
starts_left (byte ∷ a) b h = h

-- A keyword begins as a name does.
pub key_starts : (text : List ℕ) → IsKey text → starts_name text ≡ true
key_starts text key = subst (λ x. starts_name x ≡ true) (sym key.2) (starts_left key.0 (58 ∷ []) (name_starts key.0 key.1))
