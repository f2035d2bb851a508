-- Single tokens, leaves, patterns and bases are read whole.
use Rattle.std.proofs.Common.{◌≡◌, ℕ, suc, ◌+◌, ◌⊎◌, inl, inr, List, [], ◌∷◌, ◌++◌, length, Option, Some, None, Bool, true, false, not, cond, if◌then◌else◌, refl, sym, ap, ◌∙◌}
use Rattle.std.specs.Prelude.{codes}
use Rattle.std.specs.Str.{bytes_eq}
use Rattle.ns_base.specs.Spelling.{starts_name}
use Rattle.ns_tree.specs.declared.token.Kind.{Kind}
use Rattle.ns_tree.specs.declared.token.Kind.TheVariants as k
use Rattle.ns_tree.specs.declared.token.Reserved.{Reserved}
use Rattle.ns_tree.specs.declared.token.Reserved.TheVariants as r
use Rattle.ns_tree.specs.declared.tree.Named.{Named}
use Rattle.ns_tree.specs.declared.tree.Access.{Access}
use Rattle.ns_tree.specs.declared.tree.Access.TheVariants as a
use Rattle.ns_tree.specs.declared.tree.Base.{Base}
use Rattle.ns_tree.specs.declared.tree.Origin.TheVariants as from
use Rattle.ns_tree.specs.Flat.{bar, access_word}
use Rattle.ns_tree.specs.Forms as f
use Rattle.ns_tree.specs.Grammar as g
use Rattle.ns_tree.specs.Made
use Rattle.ns_tree.specs.Plain as p
use Rattle.ns_tree.specs.Rule.{Rule, token, ◌&◌, many, maybe, either, mapped, flat_from, GoodFrom, ◌▸◌, ◌◂◌, once_or_more, flag}
use Rattle.ns_parse_tokens.specs.declared.mark.Mark.{Mark}
use Rattle.ns_parse_tokens.specs.declared.mark.Mark.TheVariants as m
use Rattle.ns_parse_tokens.specs.declared.name.Sort.TheVariants as s
use Rattle.ns_parse_tokens.specs.declared.name.Operators.TheVariants as o
use Rattle.ns_parse_tokens.specs.Leaf as leaves
use Rattle.ns_parse_tokens.specs.Mark as marks
use Rattle.ns_parse_tokens.specs.Name as names
use Rattle.ns_parse_tokens.specs.Pattern as x
use Rattle.ns_parse_tokens.specs.Read.{Reader, got, fault, read_never, read_or, read_none}
use Rattle.ns_parse_tokens.specs.laws.SoundMarks.{kind_of}
use Rattle.ns_parse.proofs.Seen.{Seen, Sees, shows}
use Rattle.ns_parse.proofs.Seen as v
use Rattle.ns_parse.proofs.SeenMarks.{seen_mark, sees_mark}
use Rattle.ns_parse.proofs.SeenTests.{idents, operators, but_bar, simples, leaves_begin, sees_idents, sees_keys, sees_set_keys, sees_operators, sees_but_bar, sees_strings, sees_access, sees_simples}
use Rattle.ns_parse.proofs.Full.{Full, Comes, full_one, full_token, full_from, full_form, full_within, full_mapped, full_both, full_after, full_until}
use Rattle.ns_parse.proofs.FullChoice.{Splits, full_choice, full_either, full_option, full_maybe, full_only}
use Rattle.ns_parse.proofs.FullLists.{full_many, full_some}
use Rattle.ns_parse.proofs.Forth as forth

-- ---- marks

is_its_mark : (mark : Mark) → marks.is_mark mark (kind_of mark) ≡ true
is_its_mark m.Open = refl
is_its_mark _ = refl

its_seen : (mark : Mark) → shows (seen_mark mark ∷ []) (kind_of mark) ≡ true
its_seen m.Open = refl
its_seen _ = refl

pub full_skip : (most : ℕ) (mark : Mark) → Full most (seen_mark mark ∷ []) [] false (marks.skip mark) (token (kind_of mark)) (λ _. tt)
full_skip most mark = full_token most (kind_of mark) (seen_mark mark ∷ []) tt (λ n us. ap (λ b. cond b (got tt (n + 1) us) (fault n)) (is_its_mark mark)) (its_seen mark)

-- a mark of which the number is kept
module _ (most : ℕ) (mark : Mark) (rule : Rule ℕ) (flat : (n : ℕ) → rule.flat n ≡ kind_of mark ∷ []) (good : (n a : ℕ) → rule.Good n a → a ≡ n) where
  place_reads : (n b : ℕ) (us w : List Kind) → b ≡ n → w ≡ kind_of mark ∷ [] → marks.place mark n (w ++ us) ≡ got b (n + length w) us
  place_reads n b us w same e =
      ap (λ u. marks.place mark n (u ++ us)) e ∙ ap (λ b. cond b (got n (n + 1) us) (fault n)) (is_its_mark mark) ∙ ap (λ i. got i (n + 1) us) (sym same) ∙ ap (λ u. got b (n + length u) us) (sym e)

  pub full_place : Full most (seen_mark mark ∷ []) [] false (marks.place mark) rule (λ n. n)
  full_place = record {
    reads = λ n b us h room ends. place_reads n b us (rule.flat b) (good n b h) (flat b);
    starts = λ n b kind w h e. let same : kind_of mark ≡ kind = (let e' : kind_of mark ∷ [] ≡ kind ∷ w = sym (flat b) ∙ e in cc) in ap (shows (seen_mark mark ∷ [])) (sym same) ∙ its_seen mark;
    filled = λ z n b h e. absurd (let e' : kind_of mark ∷ [] ≡ [] = sym (flat b) ∙ e in cc);
  }

some_same : {A : Type 0} (a b : A) → Some a ≡ Some b → b ≡ a
some_same a b e = cc

pub full_semi : (most : ℕ) → Full most (v.semi ∷ []) [] false (marks.place m.Semi) g.semi (λ n. n)
full_semi most = full_place most m.Semi g.semi (λ n. refl) (λ n a h. some_same n a h)

pub full_caret : (most : ℕ) → Full most (v.caret ∷ []) (v.caret ∷ []) true (marks.maybe_place m.Caret) (maybe g.caret) (λ o. o)
full_caret most = full_maybe (marks.is_mark m.Caret) (v.caret ∷ []) (sees_mark m.Caret) (full_place most m.Caret g.caret (λ n. refl) (λ n a h. some_same n a h)) refl

-- whether a mark is there
abbrev there : Option (Unit {0}) → Bool
there None = false
there (Some x) = true

there_forth : (b : Bool) (o : Option (Unit {0})) → Some (if b then Some tt else None) ≡ Some o → there o ≡ b
there_forth true o e = ap there (some_same (Some tt) o e)
there_forth false o e = ap there (some_same None o e)

pub full_flag : (most : ℕ) (mark : Mark) → Full most (seen_mark mark ∷ []) (seen_mark mark ∷ []) true (marks.flag mark) (flag (kind_of mark)) (λ b. b)
full_flag most mark = full_form (λ there. Some (if there then Some tt else None)) (λ b. b) there_forth (full_option (marks.is_mark mark) (seen_mark mark ∷ []) (sees_mark mark) there (full_mapped (λ _. true) (full_skip most mark)) (itself (seen_mark mark)))
  where
    itself : (c : Seen) → v.within (c ∷ []) (c ∷ []) ≡ true
    itself v.name = refl
    itself _ = refl

-- ---- names

pub full_ident : (most : ℕ) → Full most idents [] false (names.name s.Ident) g.ident (λ a. a)
full_ident most = full_one g.make_ident (λ name. k.Ident name.text) (names.make_name s.Ident) most idents (λ n a h. h) (λ n a h. sym (sees_idents (k.Ident a.text)))

pub full_key : (most : ℕ) → Full most (v.key ∷ []) [] false (names.name s.Key) g.key (λ a. a)
full_key most = full_one g.make_key (λ name. k.Key name.text) (names.make_name s.Key) most (v.key ∷ []) (λ n a h. h) (λ n a h. refl)

pub full_set_key : (most : ℕ) → Full most (v.set_key ∷ []) [] false (names.name s.SetKey) g.set_key (λ a. a)
full_set_key most = full_one g.make_set_key (λ name. k.SetKey name.text) (names.make_name s.SetKey) most (v.set_key ∷ []) (λ n a h. h) (λ n a h. refl)

pub full_oper : (most : ℕ) → Full most operators [] false (names.name (s.Operator o.All)) g.oper (λ a. a)
full_oper most = full_one g.make_oper (λ name. k.Oper name.text) (names.make_name (s.Operator o.All)) most operators (λ n a h. h) (λ n a h. sym (sees_operators (k.Oper a.text)))

not_bar : (b : Bool) (name a : Named) → (if b then None else Some name) ≡ Some a → (not b ≡ true) × (name ≡ a)
not_bar true name a h = absurd cc
not_bar false name a h = (refl, cc)

slot_makes : (b : Bool) (name a : Named) → (if b then None else Some name) ≡ Some a → cond (not b) (Some name) None ≡ Some a
slot_makes true name a h = absurd cc
slot_makes false name a h = h

pub full_slot_oper : (most : ℕ) → Full most but_bar [] false (names.name (s.Operator o.ButBar)) g.slot_oper (λ a. a)
full_slot_oper most = full_one g.make_slot_oper (λ name. k.Oper name.text) (names.make_name (s.Operator o.ButBar)) most but_bar
    (λ n a h. slot_makes (bytes_eq a.text (codes "|")) (g.named n a.text) a h) (λ n a h. sym (sees_but_bar (k.Oper a.text)) ∙ (not_bar (bytes_eq a.text (codes "|")) (g.named n a.text) a h).0)

if_made : (b : Bool) (name a : Named) → (if b then Some name else None) ≡ Some a → Some name ≡ Some a
if_made true name a h = h
if_made false name a h = absurd cc

if_not_made : (b : Bool) (name a : Named) → (if b then None else Some name) ≡ Some a → Some name ≡ Some a
if_not_made false name a h = h
if_not_made true name a h = absurd cc

pub full_part_key : (most : ℕ) → Full most (v.key ∷ []) [] false (names.name s.Key) g.part_key (λ a. a)
full_part_key most = full_one g.make_part_key (λ name. k.Key name.text) (names.make_name s.Key) most (v.key ∷ []) (λ n a h. if_made (starts_name a.text) (g.named n a.text) a h) (λ n a h. refl)

pub full_part_oper : (most : ℕ) → Full most operators [] false (names.name (s.Operator o.All)) g.part_oper (λ a. a)
full_part_oper most = full_one g.make_part_oper (λ name. k.Oper name.text) (names.make_name (s.Operator o.All)) most operators
    (λ n a h. if_not_made (starts_name a.text) (g.named n a.text) a h) (λ n a h. sym (sees_operators (k.Oper a.text)))

-- names, any number of them
pub full_idents : (most : ℕ) → Full most idents idents true (names.names s.Ident) (many g.ident) (λ ns. ns)
full_idents most = full_many (names.is_name s.Ident) idents sees_idents (full_ident most) refl refl

pub full_set_keys : (most : ℕ) → Full most (v.set_key ∷ []) (v.set_key ∷ []) true (names.names s.SetKey) (many g.set_key) (λ ns. ns)
full_set_keys most = full_many (names.is_name s.SetKey) (v.set_key ∷ []) sees_set_keys (full_set_key most) refl refl

-- ---- numbers, strings and access words

pub full_number : (most : ℕ) → Full most (v.number ∷ []) [] false leaves.number g.number (λ a. a)
full_number most = full_one g.make_number k.Number g.make_number most (v.number ∷ []) (λ n a h. h) (λ n a h. refl)

pub full_string : (most : ℕ) → Full most (v.string ∷ []) [] false leaves.string g.string (λ a. a)
full_string most = full_one g.make_string k.Str leaves.make_string most (v.string ∷ []) (λ n a h. h) (λ n a h. refl)

pub full_strings : (most : ℕ) → Full most (v.string ∷ []) (v.string ∷ []) true leaves.strings (many g.string) (λ ts. ts)
full_strings most = full_many leaves.is_string (v.string ∷ []) sees_strings (full_string most) refl refl

access_makes : (n : ℕ) (x : Access) → g.make_access n (access_word x) ≡ Some x → leaves.make_access n (access_word x) ≡ Some x
access_makes n a.Public h = refl
access_makes n _ h = refl

access_seen : (n : ℕ) (x : Access) → g.make_access n (access_word x) ≡ Some x → shows (v.access_word ∷ []) (access_word x) ≡ true
access_seen n a.Public h = refl
access_seen n _ h = refl

pub full_access : (most : ℕ) → Full most (v.access_word ∷ []) (v.access_word ∷ []) true leaves.maybe_access (maybe g.access) (λ o. o)
full_access most = full_maybe leaves.is_access (v.access_word ∷ []) sees_access (full_one g.make_access access_word leaves.make_access most (v.access_word ∷ []) access_makes access_seen) refl

-- ---- primaries without brackets

word_same : (word : Reserved) → g.word_primary word ≡ g.word_primary word
word_same r.Class = refl
word_same _ = refl

simple_same : (n : ℕ) (kind : Kind) → g.make_simple n kind ≡ leaves.make_simple n kind
simple_same n (k.Word word) = word_same word
simple_same n _ = refl

is_some_of : {A : Type 0} (o : Option A) (a : A) → o ≡ Some a → leaves.is_some o ≡ true
is_some_of (Some b) a h = refl
is_some_of None a h = absurd cc

pub full_simple : (most : ℕ) → Full most simples [] false leaves.simple g.simple (λ a. a)
full_simple most = full_one g.make_simple g.simple_kind leaves.make_simple most simples (λ n a h. sym (simple_same n (g.simple_kind a)) ∙ h)
    (λ n a h. sym (sees_simples (g.simple_kind a)) ∙ is_some_of (leaves.kind_primary (g.simple_kind a)) a (sym (simple_same n (g.simple_kind a)) ∙ h))

pub full_leaf_form : (most : ℕ) → Full most leaves_begin [] false leaves.leaf g.leaf Made.made_leaf
unfolding leaves.leaf
full_leaf_form most =
    full_either leaves.is_simple simples sees_simples Made.made_leaf (full_simple most)
    (full_either (marks.is_mark m.Minus) (v.minus ∷ []) (sees_mark m.Minus) (λ x. Made.made_leaf (inr x)) (full_mapped (p.number true) (full_after (full_skip (suc most) m.Minus) (full_number most)))
    (full_mapped p.outer_name (full_after (full_skip (suc most) m.OuterWord) (full_ident most))) refl refl) refl refl

pub full_leaf : (most : ℕ) → Full most leaves_begin [] false leaves.leaf (mapped f.leaf_of g.leaf) (λ a. a)
full_leaf most = full_form f.leaf_of (λ a. a) forth.leaf_forth (full_leaf_form most)

-- ---- patterns and bases

pub full_key_params : (most : ℕ) → Full most (v.key ∷ []) (v.key ∷ []) false x.key_params (once_or_more (g.part_key & g.ident)) (λ x. x.0 ∷ x.1)
full_key_params most = full_some (names.is_name s.Key) (v.key ∷ []) sees_keys (full_both (full_part_key most) (full_ident most) refl) refl refl

abbrev pub patterns : List Seen
patterns = idents ++ (operators ++ (v.key ∷ []))

pub full_pattern : (most : ℕ) → Full most patterns (v.key ∷ []) false x.pattern g.pattern (λ a. a)
unfolding x.pattern
full_pattern most = full_form f.pattern_form (λ a. a) forth.pattern_forth
    (full_either (names.is_name s.Ident) idents sees_idents Made.made_pattern (full_mapped x.unary (full_ident most))
    (full_either (names.is_name (s.Operator o.All)) operators sees_operators (λ x. Made.made_pattern (inr x)) (full_mapped x.binary (full_both (full_part_oper most) (full_ident most) refl))
    (full_only (names.is_name s.Key) (v.key ∷ []) sees_keys read_never (full_mapped x.keyword (full_key_params most)) refl) refl refl) refl refl)

abbrev pub bases : List Seen
bases = v.super_word ∷ v.outer_word ∷ idents

-- the readers try the word before the name, the grammar tells the name first
abbrev word_forms : (Named × Named) ⊎ Named → Base
word_forms (inl x) = Made.made_base (inr (inr x))
word_forms (inr name) = Made.made_base (inl name)

base_splits : Splits (k.Word r.Super ▸ g.ident) (λ name. Made.made_base (inr (inl name))) (either (k.Word r.Outer ▸ (g.ident & g.ident)) g.ident) word_forms (either g.ident (either (k.Word r.Super ▸ g.ident) (k.Word r.Outer ▸ (g.ident & g.ident)))) Made.made_base
base_splits n (inl name) good = inr (record { value = inr name; good = good; same = refl; is = refl })
base_splits n (inr (inl name)) good = inl (record { value = name; good = good; same = refl; is = refl })
base_splits n (inr (inr x)) good = inr (record { value = inl x; good = good; same = refl; is = refl })

pub full_base : (most : ℕ) → Full most bases [] false x.base g.base (λ a. a)
unfolding x.base
full_base most = full_form f.base_form (λ a. a) forth.base_forth
    (full_choice (marks.is_mark m.SuperWord) (v.super_word ∷ []) (sees_mark m.SuperWord) (either g.ident (either (k.Word r.Super ▸ g.ident) (k.Word r.Outer ▸ (g.ident & g.ident)))) Made.made_base
    (full_mapped (x.base_of from.Super) (full_after (full_skip (suc most) m.SuperWord) (full_ident most)))
    (full_either (marks.is_mark m.OuterWord) (v.outer_word ∷ []) (sees_mark m.OuterWord) word_forms (full_mapped (λ y. x.base_of (from.Outer y.0) y.1) (full_after (full_skip (suc most) m.OuterWord) (full_both (full_ident most) (full_ident most) refl)))
    (full_mapped (x.base_of from.Here) (full_ident most)) refl refl) base_splits refl refl)

-- ---- a form of two, or nothing

module _ {A B C : Type 0} (form : C → Option (A ⊎ B)) (made : A ⊎ B → C) (forth : (c : C) (a : A ⊎ B) → form c ≡ Some a → made a ≡ c) (r : Rule A) (s : Rule B) where
  abbrev made_option : Option (A ⊎ B) → Option C
  made_option None = None
  made_option (Some x) = Some (made x)

  abbrev made_second : Option B → Option C
  made_second None = None
  made_second (Some b) = Some (made (inr b))

  option_splits : Splits r (λ a. Some (made (inl a))) (maybe s) made_second (maybe (either r s)) made_option
  option_splits n None good = inr (record { value = None; good = good; same = refl; is = refl })
  option_splits n (Some (inl a)) good = inl (record { value = a; good = good; same = refl; is = refl })
  option_splits n (Some (inr b)) good = inr (record { value = Some b; good = good; same = refl; is = refl })

  option_comes : (n : ℕ) (c : Option C) → (maybe (mapped form (either r s))).Good n c → Comes (maybe (either r s)) made_option (maybe (mapped form (either r s))) (λ o. o) n c
  option_comes n None good = record { value = None; good = good; same = refl; is = refl }
  option_comes n (Some c) good = by_form (form c) refl good
    where
      by_form : (o : Option (A ⊎ B)) → form c ≡ o → GoodFrom form (either r s) n o → Comes (maybe (either r s)) made_option (maybe (mapped form (either r s))) (λ o. o) n (Some c)
      by_form None e h = absurd h
      by_form (Some x) e h = record { value = Some x; good = h; same = ap (flat_from form (either r s)) (sym e); is = ap Some (forth c x e) }

  module _ {most : ℕ} {f1 m1 f2 m2 : List Seen} {p q : Reader (Option C)} (test1 : Kind → Bool) (cs1 : List Seen) (S1 : Sees test1 cs1) (test2 : Kind → Bool) (cs2 : List Seen) (S2 : Sees test2 cs2)
      (P : Full most f1 m1 false p r (λ a. Some (made (inl a)))) (Q : Full most f2 m2 false q s (λ b. Some (made (inr b)))) (begin1 : v.within f1 cs1 ≡ true) (begin2 : v.within f2 cs2 ≡ true) (others : v.apart (f2 ++ []) cs1 ≡ true) where
    pub full_either_or_none : Full most (f1 ++ (f2 ++ [])) (m1 ++ ((m2 ++ cs2) ++ cs1)) true (read_or test1 p (read_or test2 q (read_none None))) (maybe (mapped form (either r s))) (λ o. o)
    full_either_or_none = full_from (maybe (mapped form (either r s))) (λ o. o)
        (full_choice test1 cs1 S1 (maybe (either r s)) made_option P (full_option test2 cs2 S2 made_second Q begin2) option_splits begin1 others) option_comes

abbrev pub factories : List Seen
factories = v.key ∷ idents

pub full_factory : (most : ℕ) → Full most factories factories true x.factory (maybe g.factory) (λ o. o)
unfolding x.factory
full_factory most = full_within factories factories refl refl (full_either_or_none f.factory_form Made.made_factory forth.factory_forth g.ident (once_or_more (g.part_key & g.ident))
    (names.is_name s.Ident) idents sees_idents (names.is_name s.Key) (v.key ∷ []) sees_keys (full_mapped (λ n. Some (x.unary n)) (full_ident most)) (full_mapped (λ pairs. Some (x.keyword pairs)) (full_key_params most)) refl refl refl)

-- ---- block parameters

pub full_params : (most : ℕ) → Full most (v.colon ∷ []) (v.colon ∷ []) true x.params (maybe (once_or_more (k.Colon ▸ g.ident) ◂ bar)) Made.maybe_list
unfolding x.params
full_params most = full_option (marks.is_mark m.Colon) (v.colon ∷ []) (sees_mark m.Colon) Made.maybe_list
    (full_until (full_some (marks.is_mark m.Colon) (v.colon ∷ []) (sees_mark m.Colon) (full_after (full_skip (suc most) m.Colon) (full_ident most)) refl refl) (full_skip most m.Bar) refl) refl
