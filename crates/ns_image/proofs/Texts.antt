-- The formats of texts and names.
use Rattle.std.proofs.Common.{◌≡◌, ◌≢◌, ℕ, suc, ◌≤◌, Bool, true, false, List, [], ◌∷◌, length, All, refl, sym, ap, subst, ◌∙◌, arith}
use Rattle.std.specs.Prelude.{not, ◌&&◌, ◌||◌, nat_lt}
use Rattle.std.specs.List.{AllPairs, AllByRecursion, IsDistinct}
use Rattle.std.specs.Str.{bytes_eq, is_utf8}
use Rattle.std.specs.Cmp.Lexicographic.{bytes_decides}
use Rattle.std.proofs.lemmas.Bool.{ltb-true, lt-ltb}
use Rattle.std.proofs.lemmas.List.Elements.{All-nil, All-cons}
use Rattle.std.proofs.lemmas.Map.Made.{AllPairs-from_IsDistinct, IsDistinct-from_AllPairs}
use Rattle.std.proofs.lemmas.List.Folds.{list_any-append}
use Rattle.std.proofs.lemmas.Str.{is_utf8-from_IsUtf8, IsUtf8-from_is_utf8}
use Rattle.ns_base.specs.Names.{has}
use Rattle.ns_base.specs.Spelling.{is_selector}
use Rattle.ns_code.specs.Fits.{IsWord, IsShort, IsFileName, IsName, IsLocalName}
use Rattle.ns_image.specs.Bytes as b
use Rattle.ns_image.specs.Reading as r
use Rattle.ns_image.specs.laws.Format.{Step, Any, Format, field, refit, checks}
use Rattle.ns_image.specs.laws.Fields.{word_format, word_up_to_format, text_format, chained_format, times_format, AllGood}

pub both : (p q : Bool) → (p && q) ≡ true → (p ≡ true) × (q ≡ true)
both true q e = (refl, e)
both false q e = absurd (cc)

pub together : (p q : Bool) → p ≡ true → q ≡ true → (p && q) ≡ true
together true q e f = f
together false q e f = absurd (cc)

not_false : (p : Bool) → not p ≡ true → p ≡ false
not_false true e = absurd (cc)
not_false false e = refl

pub file_name_format : Format r.file_name IsFileName b.text
file_name_format =
    refit (checks r.is_file_name text_format)
    (λ name k g.
    let t = both (nat_lt 0 (length name)) (is_utf8 name) g.1 in
    (tt, record { short = g.0; some = ltb-true 0 (length name) t.0; utf8 = IsUtf8-from_is_utf8 name t.1 }))
    (λ name k g. (tt, (g.short, together (nat_lt 0 (length name)) (is_utf8 name) (lt-ltb 0 (length name) g.some) (is_utf8-from_IsUtf8 name g.utf8))))

pub local_name_format : Format r.local_name IsLocalName b.text
local_name_format =
    refit (checks r.is_local_name text_format) (λ name k g. (tt, record { short = g.0; spelled = g.1 })) (λ name k g. (tt, (g.short, g.spelled)))

-- ---- names, of which no two are equal

-- a name that isn't among the earlier ones
abbrev IsNew : List (List ℕ) → List ℕ → Type 0
IsNew earlier name = IsShort name × (r.is_new_name earlier name ≡ true)

name_format : (earlier : List (List ℕ)) → Format (r.name_after earlier) (IsNew earlier) b.text
name_format earlier = checks (r.is_new_name earlier) text_format

-- None of the names is among the earlier ones.
abbrev AreNew : List (List ℕ) → List (List ℕ) → Type 0
AreNew earlier names = AllByRecursion (λ name. has earlier name ≡ false) names

or_false : (p q : Bool) → (p || q) ≡ false → (p ≡ false) × (q ≡ false)
or_false true q e = absurd (cc)
or_false false q e = (refl, e)

both_false : (p q : Bool) → p ≡ false → q ≡ false → (p || q) ≡ false
both_false true q e f = absurd (cc)
both_false false q e f = f

last_differs : (earlier : List (List ℕ)) (last name : List ℕ) → has (r.with_name earlier last) name ≡ false →
    (has earlier name ≡ false) × (bytes_eq name last ≡ false)
last_differs earlier last name e =
    let split = or_false (has earlier name) (bytes_eq name last || false) (sym (list_any-append (bytes_eq name) earlier (last ∷ [])) ∙ e) in
    (split.0, (or_false (bytes_eq name last) false split.1).0)

differs_too : (earlier : List (List ℕ)) (last name : List ℕ) → has earlier name ≡ false → bytes_eq name last ≡ false →
    has (r.with_name earlier last) name ≡ false
differs_too earlier last name e f =
    list_any-append (bytes_eq name) earlier (last ∷ []) ∙ both_false (has earlier name) (bytes_eq name last || false) e (both_false (bytes_eq name last) false f refl)

flipped : (x y : List ℕ) → bytes_eq x y ≡ false → bytes_eq y x ≡ false
flipped x y e = tested (bytes_eq y x) refl
  where
    tested : (answer : Bool) → bytes_eq y x ≡ answer → bytes_eq y x ≡ false
    tested false h = h
    tested true h =
        let same : y ≡ x = (bytes_decides y x).0 h in
        let true_too : bytes_eq x y ≡ true = subst (λ (z : List ℕ). bytes_eq z y ≡ true) same (subst (λ (z : List ℕ). bytes_eq y z ≡ true) (sym same) h) in
        absurd (cc (e, true_too))

split_new : (earlier : List (List ℕ)) (last : List ℕ) (names : List (List ℕ)) → AreNew (r.with_name earlier last) names →
    AreNew earlier names × AllByRecursion (λ y. bytes_eq last y ≡ false) names
split_new earlier last [] new = (tt, tt)
split_new earlier last (name ∷ names) new =
    let one = last_differs earlier last name new.0 in
    let more = split_new earlier last names new.1 in
    ((one.0, more.0), (flipped name last one.1, more.1))

join_new : (earlier : List (List ℕ)) (last : List ℕ) (names : List (List ℕ)) → AreNew earlier names →
    AllByRecursion (λ y. bytes_eq last y ≡ false) names → AreNew (r.with_name earlier last) names
join_new earlier last [] new differ = tt
join_new earlier last (name ∷ names) new differ =
    (differs_too earlier last name new.0 (flipped last name differ.0), join_new earlier last names new.1 differ.1)

good_names : (earlier names : List (List ℕ)) → AllGood IsNew r.with_name earlier names →
    All IsName names × IsDistinct bytes_eq names × AreNew earlier names
unfolding IsDistinct
good_names earlier [] good = (All-nil IsName, tt, tt)
good_names earlier (name ∷ names) good =
    let tested = both (is_selector name) (not (has earlier name)) good.0.1 in
    let more = good_names (r.with_name earlier name) names good.1 in
    let split = split_new earlier name names more.2 in
    (All-cons IsName name names (record { short = good.0.0; spelled = tested.0 }) more.0, (split.1, more.1), (not_false (has earlier name) tested.1, split.0))

names_good : (earlier names : List (List ℕ)) → All IsName names → IsDistinct bytes_eq names → AreNew earlier names →
    AllGood IsNew r.with_name earlier names
unfolding IsDistinct
names_good earlier [] fit distinct new = tt
names_good earlier (name ∷ names) fit distinct new =
    let first : IsName name = fit 0 name (omega arith) in
    let is-new : not (has earlier name) ≡ true = ap not new.0 in (
      (first.short, together (is_selector name) (not (has earlier name)) first.spelled is-new),
      names_good (r.with_name earlier name) names (λ k d lt. fit (suc k) d (omega arith)) distinct.1 (join_new earlier name names new.1 distinct.0),
    )

none_new : (names : List (List ℕ)) → AreNew [] names
none_new [] = tt
none_new (name ∷ names) = (refl, none_new names)

abbrev pub AreNames : List (List ℕ) → Type 0
AreNames names = (length names ≤ 65536) × (All IsName names × AllPairs (λ x y. x ≢ y) names)

pub names_format : Format r.names AreNames (b.counted b.text)
names_format =
    let parts : Step Any r.names (λ names. (length names ≤ 65536) × AllGood IsNew r.with_name [] names) (b.counted b.text) =
    field length (word_up_to_format 65536 (omega arith)) (λ n. chained_format r.name_after r.with_name IsNew b.text name_format n []) in
    refit parts
    (λ names k g.
    let t = good_names [] names g.1 in
    (tt, (g.0, (t.0, AllPairs-from_IsDistinct bytes_decides names t.1))))
    (λ names k g. (tt, (g.0, names_good [] names g.1.0 (IsDistinct-from_AllPairs bytes_decides names g.1.1) (none_new names))))

pub texts_format : Format r.texts (λ texts. IsWord (length texts) × All IsShort texts) (b.counted b.text)
texts_format = field length word_format (λ n. times_format n text_format)
