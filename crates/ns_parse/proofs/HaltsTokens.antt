-- Single tokens, leaves, patterns and bases stop behind fronts.
use Rattle.std.proofs.Common.{◌≡◌, ℕ, ◌+◌, inl, inr, List, [], ◌∷◌, ◌++◌, Some, None, Bool, true, false, if◌then◌else◌, cond, refl, ap, ◌∙◌, eqb-true}
use Rattle.std.specs.Prelude.{codes, ◌&&◌, ◌||◌, not, nat_eq, IsTrue}
use Rattle.std.specs.List.{list_all, list_any}
use Rattle.std.specs.Str.{bytes_eq}
use Rattle.std.proofs.lemmas.Slice.Eq.{bytes_eq-Decides}
use Rattle.ns_base.specs.Spelling.{begins_name, starts_name, goes_on_name, is_identifier, is_operator_byte, is_operator}
use Rattle.ns_tree.specs.declared.token.Kind.{Kind}
use Rattle.ns_tree.specs.declared.token.Kind.TheVariants as k
use Rattle.ns_tree.specs.declared.token.Reserved.TheVariants as r
use Rattle.ns_tree.specs.declared.tree.Named.{Named}
use Rattle.ns_tree.specs.declared.tree.Origin.TheVariants as from
use Rattle.ns_tree.specs.Flat.{bar}
use Rattle.ns_tree.specs.Grammar as g
use Rattle.ns_tree.specs.Plain as p
use Rattle.ns_tree.specs.Rule.{Rule, token, ◌&◌, many, maybe, ◌▸◌, ◌◂◌, flag}
use Rattle.ns_tree.specs.Tree.{AllHaveText}
use Rattle.ns_parse_tokens.specs.declared.mark.Mark.{Mark}
use Rattle.ns_parse_tokens.specs.declared.mark.Mark.TheVariants as m
use Rattle.ns_parse_tokens.specs.declared.name.Sort.{Sort}
use Rattle.ns_parse_tokens.specs.declared.name.Sort.TheVariants as s
use Rattle.ns_parse_tokens.specs.declared.name.Operators.TheVariants as o
use Rattle.ns_parse_tokens.specs.Leaf as leaves
use Rattle.ns_parse_tokens.specs.Mark as marks
use Rattle.ns_parse_tokens.specs.Name as names
use Rattle.ns_parse_tokens.specs.Pattern as x
use Rattle.ns_parse_tokens.specs.Read.{Reader, got, fault, begins, read_never, read_none, read_mapped, read_after, read_until, read_both, read_or}
use Rattle.ns_parse_tokens.specs.laws.SoundLists.{some}
use Rattle.ns_parse_tokens.specs.laws.SoundMarks.{kind_of, sound_skip, sound_semi, sound_caret, sound_flag}
use Rattle.ns_parse_tokens.specs.laws.SoundTokens.{sound_name, sound_ident, sound_key, sound_set_key, sound_oper, sound_slot_oper, sound_number, sound_string, sound_access, leaf, sound_leaf}
use Rattle.ns_parse_tokens.specs.laws.SoundPatterns.{sound_pattern, sound_factory, sound_base, params, sound_params}
use Rattle.ns_parse.proofs.Halts.{Halts, HaltsIf, Stopped, at_once, stopped_value, stopped_test, stopped_if, stopped_leads, one_stops, halts_one, halts_both, halts_after, halts_if_until}
use Rattle.ns_parse.proofs.HaltsLists.{halts_many, halts_some}

-- ---- marks

mark_stops : {A B : Type 0} (rule : Rule A) → ((n : ℕ) → rule.Front n []) → (b : B) (n : ℕ) (k : Kind) (ts : List Kind) (is : Bool) → Stopped rule n (k ∷ ts) (cond is (got b (n + 1) ts) (fault n))
mark_stops rule nothing b n k ts true = tt
mark_stops rule nothing b n k ts false = at_once rule n (k ∷ ts) (nothing n)

skip_stops : (mark : Mark) (n : ℕ) (ts : List Kind) → Stopped (token (kind_of mark)) n ts (marks.skip mark n ts)
skip_stops mark n [] = at_once (token (kind_of mark)) n [] (inl refl)
skip_stops mark n (k ∷ ts) = mark_stops (token (kind_of mark)) (λ n. inl refl) tt n k ts (marks.is_mark mark k)

pub halts_skip : (mark : Mark) → Halts (marks.skip mark) (token (kind_of mark))
halts_skip mark = record { sound = sound_skip mark; stops = λ n ts told. skip_stops mark n ts }

place_stops : {A : Type 0} (rule : Rule A) → ((n : ℕ) → rule.Front n []) → (mark : Mark) (n : ℕ) (ts : List Kind) → Stopped rule n ts (marks.place mark n ts)
place_stops rule nothing mark n [] = at_once rule n [] (nothing n)
place_stops rule nothing mark n (k ∷ ts) = mark_stops rule nothing n n k ts (marks.is_mark mark k)

pub halts_semi : Halts (marks.place m.Semi) g.semi
halts_semi = record { sound = sound_semi; stops = λ n ts told. place_stops g.semi (λ n. inl refl) m.Semi n ts }

pub halts_caret : Halts (marks.maybe_place m.Caret) (maybe g.caret)
halts_caret = record {
  sound = sound_caret;
  stops = λ n ts told. stopped_test (maybe g.caret) n ts (begins (marks.is_mark m.Caret) ts) (read_mapped Some (marks.place m.Caret) n ts) (got None n ts) (stopped_value (maybe g.caret) n ts (marks.place m.Caret n ts) Some (place_stops (maybe g.caret) (λ n. inl refl) m.Caret n ts)) tt;
}

pub halts_flag : (mark : Mark) → Halts (marks.flag mark) (flag (kind_of mark))
halts_flag mark = record {
  sound = sound_flag mark;
  stops = λ n ts told. stopped_test (flag (kind_of mark)) n ts (begins (marks.is_mark mark) ts) (read_mapped (λ _. true) (marks.skip mark) n ts) (got false n ts)
      (stopped_value (flag (kind_of mark)) n ts (marks.skip mark n ts) (λ _. true) (stopped_leads (token (kind_of mark)) (flag (kind_of mark)) (λ n f h. inr h) n ts (marks.skip mark n ts) (skip_stops mark n ts))) tt;
}

-- ---- names and values

pub halts_ident : Halts (names.name s.Ident) g.ident
halts_ident = halts_one (names.make_name s.Ident) g.ident (λ n. inl refl) sound_ident

pub halts_key : Halts (names.name s.Key) g.key
halts_key = halts_one (names.make_name s.Key) g.key (λ n. inl refl) sound_key

pub halts_set_key : Halts (names.name s.SetKey) g.set_key
halts_set_key = halts_one (names.make_name s.SetKey) g.set_key (λ n. inl refl) sound_set_key

pub halts_oper : Halts (names.name (s.Operator o.All)) g.oper
halts_oper = halts_one (names.make_name (s.Operator o.All)) g.oper (λ n. inl refl) sound_oper

pub halts_slot_oper : Halts (names.name (s.Operator o.ButBar)) g.slot_oper
halts_slot_oper = halts_one (names.make_name (s.Operator o.ButBar)) g.slot_oper (λ n. inl refl) sound_slot_oper

pub halts_names : {rule : Rule Named} (sort : Sort) → Halts (names.name sort) rule → Halts (names.names sort) (many rule)
halts_names sort N = halts_many (names.is_name sort) N

pub halts_string : Halts leaves.string g.string
halts_string = halts_one leaves.make_string g.string (λ n. inl refl) sound_string

pub halts_strings : Halts leaves.strings (many g.string)
halts_strings = halts_many leaves.is_string halts_string

halts_number : Halts leaves.number g.number
halts_number = halts_one g.make_number g.number (λ n. inl refl) sound_number

pub halts_access : Halts leaves.maybe_access (maybe g.access)
halts_access = record {
  sound = sound_access;
  stops = λ n ts told. stopped_test (maybe g.access) n ts (begins leaves.is_access ts) (read_mapped Some leaves.access n ts) (got None n ts) (stopped_value (maybe g.access) n ts (leaves.access n ts) Some (stopped_leads g.access (maybe g.access) (λ n f h. inr h) n ts (leaves.access n ts) (one_stops leaves.make_access g.access (λ n. inl refl) n ts))) tt;
}

-- ---- primaries without brackets

minus_number : Halts (read_after (marks.skip m.Minus) leaves.number) (k.Oper (codes "-") ▸ g.number)
minus_number = halts_after (halts_skip m.Minus) halts_number

outer_ident : Halts (read_after (marks.skip m.OuterWord) (names.name s.Ident)) (k.Word r.Outer ▸ g.ident)
outer_ident = halts_after (halts_skip m.OuterWord) halts_ident

leaf_stops : (n : ℕ) (ts : List Kind) → AllHaveText ts → Stopped leaf n ts (leaves.leaf n ts)
unfolding leaves.leaf
leaf_stops n ts told =
    let minus : Reader (ℕ) = read_after (marks.skip m.Minus) leaves.number in
    let outer : Reader Named = read_after (marks.skip m.OuterWord) (names.name s.Ident) in
    stopped_test leaf n ts (begins leaves.is_simple ts) (leaves.simple n ts) (read_or (marks.is_mark m.Minus) (read_mapped (p.number true) minus) (read_mapped p.outer_name outer) n ts) (one_stops leaves.make_simple leaf (λ n. inl (inl refl)) n ts)
    (stopped_test leaf n ts (begins (marks.is_mark m.Minus) ts) (read_mapped (p.number true) minus n ts) (read_mapped p.outer_name outer n ts)
    (stopped_value leaf n ts (minus n ts) (p.number true) (stopped_leads (k.Oper (codes "-") ▸ g.number) leaf (λ n f h. inr (inl h)) n ts (minus n ts) (minus_number.stops n ts told)))
    (stopped_value leaf n ts (outer n ts) p.outer_name (stopped_leads (k.Word r.Outer ▸ g.ident) leaf (λ n f h. inr (inr h)) n ts (outer n ts) (outer_ident.stops n ts told))))

pub halts_leaf : Halts leaves.leaf leaf
halts_leaf = record { sound = sound_leaf; stops = leaf_stops }

-- ---- keys and operators before parameters

both_hold : (a b : Bool) → (a && b) ≡ true → (a ≡ true) × (b ≡ true)
both_hold true b h = (refl, h)
both_hold false b h = absurd cc

key_starts : (name text : List ℕ) → IsTrue (is_identifier name) → text ≡ name ++ 58 ∷ [] → starts_name text ≡ true
key_starts [] text h e = absurd cc
key_starts (b ∷ rest) text h e = ap starts_name e ∙ (both_hold (begins_name b) (list_all goes_on_name rest) h).0

fails : (v : Bool) → not v ≡ true → v ≡ false
fails true e = absurd cc
fails false e = refl

by_first : (test : ℕ → Bool) (b c : ℕ) (rest same : Bool) → nat_eq b c ≡ same → (same || rest) ≡ true → not (test c) ≡ true → (rest ≡ true → test b ≡ false) → test b ≡ false
by_first test b c rest true e any one others = ap test (eqb-true b c e) ∙ fails (test c) one
by_first test b c rest false e any one others = others any

none_of : (test : ℕ → Bool) (b : ℕ) (bytes : List ℕ) → list_all (λ c. not (test c)) bytes ≡ true → list_any (nat_eq b) bytes ≡ true → test b ≡ false
none_of test b [] all any = absurd cc
none_of test b (c ∷ bytes) all any =
    let h : (not (test c) ≡ true) × (list_all (λ c. not (test c)) bytes ≡ true) = both_hold (not (test c)) (list_all (λ c. not (test c)) bytes) all in
    by_first test b c (list_any (nat_eq b) bytes) (nat_eq b c) refl any h.0 (λ more. none_of test b bytes h.1 more)

operator_starts : (text : List ℕ) → IsTrue (is_operator text) → starts_name text ≡ false
operator_starts [] h = refl
operator_starts (b ∷ rest) h = by_run (list_all is_operator_byte (b ∷ rest)) refl h
  where
    by_run : (run : Bool) → list_all is_operator_byte (b ∷ rest) ≡ run → (run || bytes_eq (b ∷ rest) (codes "<:")) ≡ true → begins_name b ≡ false
    by_run true e h = none_of begins_name b (codes "+-*/\\~<>=@%|&?,!") refl (both_hold (is_operator_byte b) (list_all is_operator_byte rest) e).0
    by_run false e h = ap starts_name ((bytes_eq-Decides (b ∷ rest) (codes "<:")).0 h)

if_yes : (test : Bool) (name : Named) → test ≡ true → (if test then Some name else None) ≡ Some name
if_yes true name h = refl
if_yes false name h = absurd cc

if_not : (test : Bool) (name : Named) → test ≡ false → (if test then None else Some name) ≡ Some name
if_not true name h = absurd cc
if_not false name h = refl

halts_part_key : Halts (names.name s.Key) g.part_key
halts_part_key = halts_one (names.make_name s.Key) g.part_key (λ n. inl refl) (sound_name s.Key g.part_key (λ n text h e. if_yes (starts_name text) (g.named n text) (key_starts h.0 text h.1 h.2)) (λ name. refl))

halts_part_oper : Halts (names.name (s.Operator o.All)) g.part_oper
halts_part_oper = halts_one (names.make_name (s.Operator o.All)) g.part_oper (λ n. inl refl) (sound_name (s.Operator o.All) g.part_oper (λ n text h e. if_not (starts_name text) (g.named n text) (operator_starts text h)) (λ name. refl))

-- ---- patterns

binary_stops : Halts (read_both (names.name (s.Operator o.All)) (names.name s.Ident)) (g.part_oper & g.ident)
binary_stops = halts_both halts_part_oper halts_ident

params_stop : HaltsIf (names.is_name s.Key) x.key_params (some (g.part_key & g.ident))
params_stop = halts_some (names.is_name s.Key) (λ n. inl (inl refl)) (halts_both halts_part_key halts_ident)

pattern_stops : (n : ℕ) (ts : List Kind) → AllHaveText ts → Stopped g.pattern n ts (x.pattern n ts)
unfolding x.pattern
pattern_stops n ts told =
    let oper : Reader (Named × Named) = read_both (names.name (s.Operator o.All)) (names.name s.Ident) in
    let keys : Reader p.Pattern = read_or (names.is_name s.Key) (read_mapped x.keyword x.key_params) read_never in
    stopped_test g.pattern n ts (begins (names.is_name s.Ident) ts) (read_mapped x.unary (names.name s.Ident) n ts) (read_or (names.is_name (s.Operator o.All)) (read_mapped x.binary oper) keys n ts)
    (stopped_value g.pattern n ts (names.name s.Ident n ts) x.unary (stopped_leads g.ident g.pattern (λ n f h. inl h) n ts (names.name s.Ident n ts) (halts_ident.stops n ts told)))
    (stopped_test g.pattern n ts (begins (names.is_name (s.Operator o.All)) ts) (read_mapped x.binary oper n ts) (keys n ts)
    (stopped_value g.pattern n ts (oper n ts) x.binary (stopped_leads (g.part_oper & g.ident) g.pattern (λ n f h. inr (inl h)) n ts (oper n ts) (binary_stops.stops n ts told)))
    (stopped_if g.pattern n ts (begins (names.is_name s.Key) ts) (read_mapped x.keyword x.key_params n ts) (fault n)
    (λ e. stopped_value g.pattern n ts (x.key_params n ts) x.keyword (stopped_leads (some (g.part_key & g.ident)) g.pattern (λ n f h. inr (inr h)) n ts (x.key_params n ts) (params_stop.stops n ts e told))) (at_once g.pattern n ts (inl (inl refl)))))

pub halts_pattern : Halts x.pattern g.pattern
halts_pattern = record { sound = sound_pattern; stops = pattern_stops }

factory_stops : (n : ℕ) (ts : List Kind) → AllHaveText ts → Stopped (maybe g.factory) n ts (x.factory n ts)
unfolding x.factory
factory_stops n ts told =
    stopped_test (maybe g.factory) n ts (begins (names.is_name s.Ident) ts) (read_mapped (λ n. Some (x.unary n)) (names.name s.Ident) n ts) (read_or (names.is_name s.Key) (read_mapped (λ pairs. Some (x.keyword pairs)) x.key_params) (read_none None) n ts)
    (stopped_value (maybe g.factory) n ts (names.name s.Ident n ts) (λ n. Some (x.unary n)) (stopped_leads g.ident (maybe g.factory) (λ n f h. inr (inl h)) n ts (names.name s.Ident n ts) (halts_ident.stops n ts told)))
    (stopped_if (maybe g.factory) n ts (begins (names.is_name s.Key) ts) (read_mapped (λ pairs. Some (x.keyword pairs)) x.key_params n ts) (got None n ts)
    (λ e. stopped_value (maybe g.factory) n ts (x.key_params n ts) (λ pairs. Some (x.keyword pairs)) (stopped_leads (some (g.part_key & g.ident)) (maybe g.factory) (λ n f h. inr (inr h)) n ts (x.key_params n ts) (params_stop.stops n ts e told))) tt)

pub halts_factory : Halts x.factory (maybe g.factory)
halts_factory = record { sound = sound_factory; stops = factory_stops }

-- ---- bases

super_ident : Halts (read_after (marks.skip m.SuperWord) (names.name s.Ident)) (k.Word r.Super ▸ g.ident)
super_ident = halts_after (halts_skip m.SuperWord) halts_ident

outer_idents : Halts (read_after (marks.skip m.OuterWord) (read_both (names.name s.Ident) (names.name s.Ident))) (k.Word r.Outer ▸ (g.ident & g.ident))
outer_idents = halts_after (halts_skip m.OuterWord) (halts_both halts_ident halts_ident)

base_stops : (n : ℕ) (ts : List Kind) → AllHaveText ts → Stopped g.base n ts (x.base n ts)
unfolding x.base
base_stops n ts told =
    let over : Reader Named = read_after (marks.skip m.SuperWord) (names.name s.Ident) in
    let outer : Reader (Named × Named) = read_after (marks.skip m.OuterWord) (read_both (names.name s.Ident) (names.name s.Ident)) in
    stopped_test g.base n ts (begins (marks.is_mark m.SuperWord) ts) (read_mapped (x.base_of from.Super) over n ts) _
    (stopped_value g.base n ts (over n ts) (x.base_of from.Super) (stopped_leads (k.Word r.Super ▸ g.ident) g.base (λ n f h. inr (inl h)) n ts (over n ts) (super_ident.stops n ts told)))
    (stopped_test g.base n ts (begins (marks.is_mark m.OuterWord) ts) (read_mapped (λ y. x.base_of (from.Outer y.0) y.1) outer n ts) (read_mapped (x.base_of from.Here) (names.name s.Ident) n ts)
    (stopped_value g.base n ts (outer n ts) (λ y. x.base_of (from.Outer y.0) y.1) (stopped_leads (k.Word r.Outer ▸ (g.ident & g.ident)) g.base (λ n f h. inr (inr h)) n ts (outer n ts) (outer_idents.stops n ts told)))
    (stopped_value g.base n ts (names.name s.Ident n ts) (x.base_of from.Here) (stopped_leads g.ident g.base (λ n f h. inl h) n ts (names.name s.Ident n ts) (halts_ident.stops n ts told))))

pub halts_base : Halts x.base g.base
halts_base = record { sound = sound_base; stops = base_stops }

-- ---- block parameters

colons_stop : HaltsIf (marks.is_mark m.Colon) (read_until x.colon_params (marks.skip m.Bar)) (some (k.Colon ▸ g.ident) ◂ bar)
colons_stop = halts_if_until (halts_some (marks.is_mark m.Colon) (λ n. inl (inl refl)) (halts_after (halts_skip m.Colon) halts_ident)) (halts_skip m.Bar)

some_closed : (n : ℕ) (f : List Kind) → (some (k.Colon ▸ g.ident) ◂ bar).Front n f → params.Front n f
some_closed n f (inl h) = inr (inl h)
some_closed n f (inr ([], g, good, h, e)) = absurd good
some_closed n f (inr (a ∷ rest, g, good, h, e)) = inr (inr ((a, rest), g, good, h, e))

params_stops : (n : ℕ) (ts : List Kind) → AllHaveText ts → Stopped params n ts (x.params n ts)
unfolding x.params
params_stops n ts told = stopped_if params n ts (begins (marks.is_mark m.Colon) ts) (read_until x.colon_params (marks.skip m.Bar) n ts) (got [] n ts)
    (λ e. stopped_leads (some (k.Colon ▸ g.ident) ◂ bar) params some_closed n ts (read_until x.colon_params (marks.skip m.Bar) n ts) (colons_stop.stops n ts e told)) tt

pub halts_params : Halts x.params params
halts_params = record { sound = sound_params; stops = params_stops }
