-- A table has the texts that were put in, and no other.
use Rattle.std.proofs.Common.{◌≡◌, ◌∙◌, refl, sym, ap, subst, ℕ, Bool, true, false, ◌||◌, List, [], ◌∷◌, ◌++◌, Option, Some, None, if◌then◌else◌}
use Rattle.std.specs.List.{list_any}
use Rattle.std.specs.Str.{bytes_eq}
use Rattle.std.specs.Option.{is_some}
use Rattle.std.specs.Bool.{Decides}
use Rattle.std.proofs.lemmas.Slice.Eq.{bytes_eq-Decides}
use Rattle.ns_scope.specs.Table.{TableOf, has, look_up, put_first}
use Rattle.ns_sends.specs.Texts.{put_text, put_texts}

some_further : (text name : List ℕ) (value : ℕ) (table : TableOf ℕ) →
    is_some (look_up (table ++ (name, value) ∷ []) text) ≡ (is_some (look_up table text) || bytes_eq text name)
some_further text name value [] = by (bytes_eq text name) where
  by : (same : Bool) → is_some (if same then Some value else None) ≡ (false || same)
  by true = refl
  by false = refl
some_further text name value (entry ∷ table) = by (bytes_eq text entry.0) (some_further text name value table) where
  by : (same : Bool) → is_some (look_up (table ++ (name, value) ∷ []) text) ≡ (is_some (look_up table text) || bytes_eq text name) →
      is_some (if same then Some entry.1 else look_up (table ++ (name, value) ∷ []) text) ≡ (is_some (if same then Some entry.1 else look_up table text) || bytes_eq text name)
  by true rest = refl
  by false rest = rest

same_or_other : (table : TableOf ℕ) (text name : List ℕ) (same : Bool) → Decides same (text ≡ name) → has table name ≡ true → has table text ≡ (has table text || same)
same_or_other table text name true d h = let e : has table text ≡ true = ap (has table) (d.0 refl) ∙ h in e ∙ sym (ap (λ b. b || true) e)
same_or_other table text name false d h = by (has table text) where
  by : (b : Bool) → b ≡ (b || false)
  by true = refl
  by false = refl

has_one_by : (table : TableOf ℕ) (text name : List ℕ) (there : Bool) → has table name ≡ there →
    has (if there then table else table ++ (name, 0) ∷ []) text ≡ (has table text || bytes_eq text name)
has_one_by table text name true h = same_or_other table text name (bytes_eq text name) (bytes_eq-Decides text name) h
has_one_by table text name false h = some_further text name 0 table

has_one : (table : TableOf ℕ) (text name : List ℕ) → has (put_text table name) text ≡ (has table text || bytes_eq text name)
has_one table text name = has_one_by table text name (has table name) refl

or_or : (a b c : Bool) → ((a || b) || c) ≡ (a || (b || c))
or_or true b c = refl
or_or false b c = refl

or_false : (a : Bool) → a ≡ (a || false)
or_false true = refl
or_false false = refl

has_all : (table : TableOf ℕ) (texts : List (List ℕ)) (text : List ℕ) → has (put_texts table texts) text ≡ (has table text || list_any (bytes_eq text) texts)
has_all table [] text = or_false (has table text)
has_all table (name ∷ texts) text =
    has_all (put_text table name) texts text
    ∙ (ap (λ b. b || list_any (bytes_eq text) texts) (has_one table text name) ∙ or_or (has table text) (bytes_eq text name) (list_any (bytes_eq text) texts))

pub has_texts : (table : TableOf ℕ) (texts : List (List ℕ)) (text : List ℕ) → table ≡ put_texts [] texts → is_some (look_up table text) ≡ list_any (bytes_eq text) texts
has_texts table texts text e = ap (λ t. has t text) e ∙ has_all [] texts text
