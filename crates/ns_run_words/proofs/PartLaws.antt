-- What the parts of a command line are read as.
use Rattle.std.specs.Prelude.{◌≡◌, ℕ, ◌&&◌, nat_eq, nat_le, nat_lt, not, length, List, [], ◌∷◌, ◌++◌, Bool, true, false, Option, Some, None, codes, take, option_and_then, refl}
use Rattle.std.proofs.Common.{◌≤◌, ◌<◌, ◌+◌, arith, ap, sym, subst, ◌∙◌, append_assoc}
use Rattle.std.proofs.lemmas.Bool.Decides.{nat_tests}
use Rattle.std.proofs.lemmas.List.{append-nil}
use Rattle.std.specs.Option.{is_some, option_or as or_else}
use Rattle.std.specs.Str.{bytes_eq}
use Rattle.ns_base.specs.declared.limits.Limits.{Limits}
use Rattle.ns_help.specs.Topics.{text_of}
use Rattle.ns_run_words.specs.Application.{is_application}
use Rattle.ns_run_words.specs.FileName.{is_file_name}
use Rattle.ns_run_words.specs.Forms.{AreNames, all_given}
use Rattle.ns_run_words.specs.Options.{arguments_of, denial_where, run_where, tests_where, value_behind, with_denied, with_only, with_text}
use Rattle.ns_run_words.specs.Own.{check_where, json_where, least_of, listing_where, most_of, own_option, to_where, with_to}
use Rattle.ns_run_words.specs.Table.{form_of, item_at}
use Rattle.ns_run_words.specs.Words.{Options, Names, Arguments, at_given, at_where, bad, says, given_or, has_needed, is_item, limit_where, number_given, number_of, option_or, part_or, quantum_where, read_from, steps_of, with_at, with_cells, with_depth, with_limit, with_name, with_option, with_out, with_quantum, with_steps}
use Rattle.ns_run_words.specs.declared.form.Form.{Form}
use Rattle.ns_run_words.specs.declared.form.Item.{Item}
use Rattle.ns_run_words.specs.declared.form.Item.TheVariants.{File, Number, Application, Text, Topic, Selector, Integer, Move}
use Rattle.ns_run_words.specs.declared.form.Verb.{Verb}
use Rattle.ns_run_words.specs.declared.form.Verb.TheVariants.{Check, Show, Format, Run, Eval, Build, Exec, Listing, Session, Sample, Actors, Audit, Test, Snap, Resume, Replay, Library, Help, Explain, Version}
use Rattle.ns_run_words.specs.declared.words.Given.{Given}

-- ---- words that are no options

pub no_number : (name : List ℕ) (greatest : ℕ) (before : Option ℕ) (word : List ℕ) → bytes_eq (take (length name) word) name ≡ false → number_given name greatest before word ≡ None
no_number name greatest (Some n) word e = refl
no_number name greatest None word e = rw e refl

-- The word begins with the front of no option, and is none.
abbrev pub BeginsOtherwise : List ℕ → Type 0
BeginsOtherwise word = (c : ℕ) (name : List ℕ) → bytes_eq (take (length (45 ∷ 45 ∷ c ∷ name)) word) (45 ∷ 45 ∷ c ∷ name) ≡ false

abbrev pub IsOther : List ℕ → Type 0
IsOther word = (c : ℕ) (name : List ℕ) → bytes_eq word (45 ∷ 45 ∷ c ∷ name) ≡ false

pub no_limit : (greatest : Limits) (given : Given) (word : List ℕ) → BeginsOtherwise word → with_limit greatest given word ≡ None
no_limit greatest given word e =
    ap (λ n. with_steps given n (with_cells given (number_given (codes "--cells=") greatest.cells given.cells word) (with_depth given (number_given (codes "--depth=") greatest.depth given.depth word) (with_out given (number_given (codes "--out=") greatest.out given.out word)))))
    (no_number (codes "--steps=") greatest.steps given.steps word (e 115 (codes "teps=")))
    ∙ ap (λ n. with_cells given n (with_depth given (number_given (codes "--depth=") greatest.depth given.depth word) (with_out given (number_given (codes "--out=") greatest.out given.out word))))
    (no_number (codes "--cells=") greatest.cells given.cells word (e 99 (codes "ells=")))
    ∙ ap (λ n. with_depth given n (with_out given (number_given (codes "--out=") greatest.out given.out word))) (no_number (codes "--depth=") greatest.depth given.depth word (e 100 (codes "epth=")))
    ∙ ap (with_out given) (no_number (codes "--out=") greatest.out given.out word (e 111 (codes "ut=")))

pub no_limit_where : (greatest : Option Limits) (given : Given) (word : List ℕ) → BeginsOtherwise word → limit_where greatest given word ≡ None
no_limit_where None given word e = refl
no_limit_where (Some greatest) given word e = no_limit greatest given word e

pub no_quantum : (takes : Bool) (given : Given) (word : List ℕ) → BeginsOtherwise word → quantum_where takes given word ≡ None
no_quantum true given word e = ap (with_quantum given) (no_number (codes "--quantum=") 1000000 given.quantum word (e 113 (codes "uantum=")))
no_quantum false given word e = refl

pub no_value : (name word : List ℕ) → bytes_eq (take (length name) word) name ≡ false → value_behind name word ≡ None
no_value name word e = rw e refl

pub no_test : (takes : Bool) (given : Given) (word : List ℕ) → IsOther word → BeginsOtherwise word → tests_where takes given word ≡ None
no_test false given word o n = refl
no_test true given word o n =
    rw (o 114 (codes "everse")) (ap (with_only given) (no_value (codes "--only=") word (n 111 (codes "nly="))))

pub no_denial : (takes : Bool) (given : Given) (word : List ℕ) → BeginsOtherwise word → denial_where takes given word ≡ None
no_denial false given word n = refl
no_denial true given word n = ap (with_denied given) (no_value (codes "--deny=") word (n 100 (codes "eny=")))

pub no_run : (takes : Bool) (given : Given) (word : List ℕ) → IsOther word → BeginsOtherwise word → run_where takes given word ≡ None
no_run false given word o n = refl
no_run true given word o n =
    rw (o 115 (codes "tats"), o 116 (codes "race"), o 116 (codes "rue")) (ap (with_text given) (no_value (codes "--text=") word (n 116 (codes "ext="))))

pub no_check : (takes : Bool) (given : Given) (word : List ℕ) → IsOther word → check_where takes given word ≡ None
no_check false given word o = refl
no_check true given word o = rw (o 97 (codes "ll"), o 115 (codes "ends")) refl

pub no_listing : (takes : Bool) (given : Given) (word : List ℕ) → IsOther word → listing_where takes given word ≡ None
no_listing false given word o = refl
no_listing true given word o = rw (o 109 (codes "embers")) refl

pub no_image : (takes : Bool) (given : Given) (word : List ℕ) → BeginsOtherwise word → to_where takes given word ≡ None
no_image false given word n = refl
no_image true given word n = ap (with_to given) (no_value (codes "--to=") word (n 116 (codes "o=")))

pub no_json : (takes : Bool) (given : Given) (word : List ℕ) → IsOther word → json_where takes given word ≡ None
no_json false given word o = refl
no_json true given word o = rw (o 106 (codes "son")) refl

pub no_own : (form : Form) (given : Given) (word : List ℕ) → IsOther word → BeginsOtherwise word → own_option form given word ≡ None
no_own form given word o n =
    let last = or_else (to_where form.to given word) (json_where form.json given word) in
    ap (λ q. or_else q (or_else (listing_where form.members given word) last)) (no_check form.checks given word o)
    ∙ ap (λ q. or_else q last) (no_listing form.members given word o)
    ∙ ap (λ q. or_else q (json_where form.json given word)) (no_image form.to given word n)
    ∙ no_json form.json given word o

pub no_pause : (takes : Bool) (given : Given) (word : List ℕ) → BeginsOtherwise word → at_where takes given word ≡ None
no_pause false given word n = refl
no_pause true given word n = ap (with_at given) (none given.at)
  where
    none : (at : Option ℕ) → at_given at word ≡ None
    none (Some steps) = refl
    none None = ap (option_and_then steps_of) (no_value (codes "--at=") word (n 97 (codes "t=")))

pub no_option : (form : Form) (given : Given) (word : List ℕ) → IsOther word → BeginsOtherwise word → with_option form given word ≡ None
no_option form given word o n =
    let last = given_or (at_where form.at given word) (limit_where form.greatest given word) in
    let others = given_or (own_option form given word) last in
    let runs = given_or (run_where form.runs given word) others in
    rw (o 108 (codes "ib"))
    (ap (λ q. given_or q (given_or (tests_where form.tests given word) (given_or (denial_where form.denies given word) runs))) (no_quantum form.quantum given word n)
    ∙ ap (λ q. given_or q (given_or (denial_where form.denies given word) runs)) (no_test form.tests given word o n)
    ∙ ap (λ q. given_or q runs) (no_denial form.denies given word n)
    ∙ ap (λ q. given_or q others) (no_run form.runs given word o n)
    ∙ ap (λ q. given_or q last) (no_own form given word o n)
    ∙ ap (λ q. given_or q (limit_where form.greatest given word)) (no_pause form.at given word n)
    ∙ no_limit_where form.greatest given word n)

-- A name has no dash in front.
pub no_dash : (b : ℕ) (bs : List ℕ) → is_file_name (b ∷ bs) ≡ true → nat_eq b 45 ≡ false
no_dash b bs h =
    elim (nat_eq b 45) as (λ q. (not q && nat_le (length (b ∷ bs)) 4294967295) ≡ true → q ≡ false) [
      | true ↦ λ k. absurd (cc (k))
      | false ↦ λ k. refl
    ] h

-- A number has no dash in front.
pub no_dash_of_number : (greatest b : ℕ) (bs : List ℕ) → is_some (number_of greatest (b ∷ bs)) ≡ true → nat_eq b 45 ≡ false
no_dash_of_number greatest b bs h =
    elim (nat_eq b 45) as (λ q. nat_eq b 45 ≡ q → q ≡ false) [
      | true ↦ λ e.
          let is : b ≡ 45 = grind (arith, nat_tests, e) in
          let none : false ≡ true = subst (λ x. is_some (number_of greatest (x ∷ bs)) ≡ true) is h in
          absurd (cc (none))
      | false ↦ λ e. refl
    ] refl

-- An application has no dash in front.
pub no_dash_of_application : (b : ℕ) (bs : List ℕ) → is_application (b ∷ bs) ≡ true → nat_eq b 45 ≡ false
no_dash_of_application b bs h =
    elim (nat_eq b 45) as (λ q. nat_eq b 45 ≡ q → q ≡ false) [
      | true ↦ λ e.
          let is : b ≡ 45 = grind (arith, nat_tests, e) in
          let none : false ≡ true = subst (λ x. is_application (x ∷ bs) ≡ true) is h in
          absurd (cc (none))
      | false ↦ λ e. refl
    ] refl

never : {P : Type 0} → false ≡ true → P
never e = absurd (cc (e))

-- What there is a text on has no dash in front.
pub no_dash_of_topic : (b : ℕ) (bs : List ℕ) → is_some (text_of (b ∷ bs)) ≡ true → nat_eq b 45 ≡ false
no_dash_of_topic b bs h =
    elim (nat_eq b 45) as (λ q. nat_eq b 45 ≡ q → q ≡ false) [
      | true ↦ λ e. by (grind (arith, nat_tests, e))
      | false ↦ λ e. refl
    ] refl
  where
    by : b ≡ 45 → true ≡ false
    by is = never (subst (λ x. is_some (text_of (x ∷ bs)) ≡ true) is h)

-- Any text has none either.
pub no_dash_of_text : (b : ℕ) → not (nat_eq b 45) ≡ true → nat_eq b 45 ≡ false
no_dash_of_text b h =
    elim (nat_eq b 45) as (λ q. not q ≡ true → q ≡ false) [
      | true ↦ λ k. absurd (cc (k))
      | false ↦ λ k. refl
    ] h

-- Names of that kind have none in front, and `--` is no such name: of all kinds but those that stand behind the count of a letter, and moves.
abbrev IsPlain : Item → Type 0
IsPlain File = Unit {0}
IsPlain (Number greatest) = Unit {0}
IsPlain Application = Unit {0}
IsPlain Text = Unit {0}
IsPlain Topic = Unit {0}
IsPlain Selector = ⊥
IsPlain Integer = ⊥
IsPlain Move = ⊥

no_dash_of_item : (item : Item) (b : ℕ) (bs : List ℕ) → IsPlain item → is_item item (b ∷ bs) ≡ true → nat_eq b 45 ≡ false
no_dash_of_item File b bs p h = no_dash b bs h
no_dash_of_item (Number greatest) b bs p h = no_dash_of_number greatest b bs h
no_dash_of_item Application b bs p h = no_dash_of_application b bs h
no_dash_of_item Text b bs p h = no_dash_of_text b h
no_dash_of_item Topic b bs p h = no_dash_of_topic b bs h
no_dash_of_item Selector b bs p h = absurd p
no_dash_of_item Integer b bs p h = absurd p
no_dash_of_item Move b bs p h = absurd p

dashes_are_no_item : (item : Item) → IsPlain item → is_item item (codes "--") ≡ false
dashes_are_no_item File p = refl
dashes_are_no_item (Number greatest) p = refl
dashes_are_no_item Application p = refl
dashes_are_no_item Text p = refl
dashes_are_no_item Topic p = refl
dashes_are_no_item Selector p = absurd p
dashes_are_no_item Integer p = absurd p
dashes_are_no_item Move p = absurd p

-- So are the first names of all forms, and all names of a form that takes arguments.
first_is_plain : (verb : Verb) → IsPlain (item_at (form_of verb) 0)
first_is_plain Check = tt
first_is_plain Show = tt
first_is_plain Format = tt
first_is_plain Run = tt
first_is_plain Eval = tt
first_is_plain Build = tt
first_is_plain Exec = tt
first_is_plain Listing = tt
first_is_plain Session = tt
first_is_plain Sample = tt
first_is_plain Actors = tt
first_is_plain Audit = tt
first_is_plain Test = tt
first_is_plain Snap = tt
first_is_plain Resume = tt
first_is_plain Replay = tt
first_is_plain Library = tt
first_is_plain Help = tt
first_is_plain Explain = tt
first_is_plain Version = tt

each_is_plain : (verb : Verb) (given : Given) (m count : ℕ) → arguments_of (form_of verb) given ≡ Some m → IsPlain (item_at (form_of verb) count)
each_is_plain Check given m count e = tt
each_is_plain Show given m count e = tt
each_is_plain Format given m count e = tt
each_is_plain Run given m count e = tt
each_is_plain Eval given m count e = tt
each_is_plain Build given m count e = tt
each_is_plain Exec given m count e = tt
each_is_plain Listing given m count e = tt
each_is_plain Session given m count e = tt
each_is_plain Sample given m count e = tt
each_is_plain Actors given m count e = absurd (cc (e))
each_is_plain Audit given m count e = tt
each_is_plain Test given m count e = tt
each_is_plain Snap given m count e = tt
each_is_plain Resume given m count e = tt
each_is_plain Replay given m count e = absurd (cc (e))
each_is_plain Library given m count e = tt
each_is_plain Help given m count e = tt
each_is_plain Explain given m count e = tt
each_is_plain Version given m count e = tt

pub name_is_no_option : (verb : Verb) (given : Given) (word : List ℕ) → is_item (item_at (form_of verb) 0) word ≡ true → with_option (form_of verb) given word ≡ None
name_is_no_option verb given [] h = no_option (form_of verb) given [] (λ c name. refl) (λ c name. refl)
name_is_no_option verb given (b ∷ bs) h =
    let e : nat_eq b 45 ≡ false = no_dash_of_item (item_at (form_of verb) 0) b bs (first_is_plain verb) h in
    no_option (form_of verb) given (b ∷ bs) (λ c name. rw e refl) (λ c name. rw e refl)

-- `--` is no name of a form that takes arguments.
pub dashes_are_no_name : (verb : Verb) (given : Given) (m count : ℕ) → arguments_of (form_of verb) given ≡ Some m → is_item (item_at (form_of verb) count) (codes "--") ≡ false
dashes_are_no_name verb given m count e = dashes_are_no_item (item_at (form_of verb) count) (each_is_plain verb given m count e)

pub dashes_are_no_option : (form : Form) (given : Given) → with_option form given (codes "--") ≡ None
dashes_are_no_option form given = no_option form given (codes "--") (λ c name. refl) (λ c name. refl)

-- ---- options

pub all_given_append : (form : Form) (given last : Given) (options more : List (List ℕ)) → all_given form given options ≡ Some last → all_given form given (options ++ more) ≡ all_given form last more
all_given_append form given last [] more h = let e : given ≡ last = cc (h) in ap (λ g. all_given form g more) e
all_given_append form given last (w ∷ ws) more h =
    elim (with_option form given w) as (λ o. option_and_then (λ g. all_given form g ws) o ≡ Some last → option_and_then (λ g. all_given form g (ws ++ more)) o ≡ all_given form last more) [
      | None ↦ λ k. absurd (cc (k))
      | Some next ↦ λ k. all_given_append form next last ws more k
    ] h

pub options_read : (verb : Verb) (given last : Given) (before options words : List (List ℕ)) (k : ℕ) → all_given (form_of verb) given options ≡ Some last
    → read_from verb (Options given before) k (options ++ words) ≡ read_from verb (Options last (before ++ options)) (k + length options) words
options_read verb given last before [] words k h =
    let e : given ≡ last = cc (h) in
    let n : k ≡ k + 0 = omega arith in
    ap (λ g. read_from verb (Options g before) k words) e
    ∙ ap (λ b. read_from verb (Options last b) k words) (sym (append-nil before))
    ∙ ap (λ j. read_from verb (Options last (before ++ [])) j words) n
options_read verb given last before (w ∷ ws) words k h =
    elim (with_option (form_of verb) given w) as (λ o. option_and_then (λ g. all_given (form_of verb) g ws) o ≡ Some last
    → part_or (bad k) (λ part. read_from verb part (k + 1) (ws ++ words)) (option_or (with_name (form_of verb) given before [] w) (before ++ w ∷ []) o) ≡ read_from verb (Options last (before ++ w ∷ ws)) (k + length (w ∷ ws)) words) [
      | None ↦ λ q. absurd (cc (q))
      | Some next ↦ λ q.
          let n : k + 1 + length ws ≡ k + length (w ∷ ws) = omega arith in
          options_read verb next last (before ++ w ∷ []) ws words (k + 1) q
          ∙ ap (λ b. read_from verb (Options last b) (k + 1 + length ws) words) (append_assoc before (w ∷ []) ws)
          ∙ ap (λ j. read_from verb (Options last (before ++ w ∷ ws)) j words) n
    ] h

-- ---- names

pub length_one : (xs : List (List ℕ)) (x : List ℕ) → length (xs ++ x ∷ []) ≡ length xs + 1
length_one [] x = omega arith
length_one (y ∷ ys) x = omega (arith, length_one ys x)

pub names_append : (form : Form) (count : ℕ) (names : List (List ℕ)) (w : List ℕ) → AreNames form count names → is_item (item_at form (count + length names)) w ≡ true
    → AreNames form count (names ++ w ∷ [])
names_append form count [] w a e =
    let all : count + 0 ≡ count = omega arith in
    (sym (ap (λ j. is_item (item_at form j) w) all) ∙ e, tt)
names_append form count (n ∷ ns) w a e =
    let next : (count + 1) + length ns ≡ count + length (n ∷ ns) = omega arith in
    (a.0, names_append form (count + 1) ns w a.1 (ap (λ j. is_item (item_at form j) w) next ∙ e))

pub names_read : (verb : Verb) (given : Given) (options before names words : List (List ℕ)) (k : ℕ) → has_needed (form_of verb) given ≡ true → AreNames (form_of verb) (length before) names → length before + length names ≤ most_of (form_of verb) given
    → read_from verb (Names given options before) k (names ++ words) ≡ read_from verb (Names given options (before ++ names)) (k + length names) words
names_read verb given options before [] words k d a l =
    let n : k ≡ k + 0 = omega arith in
    ap (λ b. read_from verb (Names given options b) k words) (sym (append-nil before)) ∙ ap (λ j. read_from verb (Names given options (before ++ [])) j words) n
names_read verb given options before (w ∷ ws) words k d a l =
    let room : nat_lt (length before) (most_of (form_of verb) given) ≡ true = grind (arith, nat_tests) in
    let n : k + 1 + length ws ≡ k + length (w ∷ ws) = omega arith in
    let size : length (before ++ w ∷ []) + length ws ≤ most_of (form_of verb) given = omega (arith, length_one before w) in
    let more : AreNames (form_of verb) (length (before ++ w ∷ [])) ws = subst (λ j. AreNames (form_of verb) j ws) (sym (length_one before w)) a.1 in
    first room
    ∙ names_read verb given options (before ++ w ∷ []) ws words (k + 1) d more size
    ∙ ap (λ b. read_from verb (Names given options b) (k + 1 + length ws) words) (append_assoc before (w ∷ []) ws)
    ∙ ap (λ j. read_from verb (Names given options (before ++ w ∷ ws)) j words) n
  where
    first : nat_lt (length before) (most_of (form_of verb) given) ≡ true → read_from verb (Names given options before) k (w ∷ ws ++ words) ≡ read_from verb (Names given options (before ++ w ∷ [])) (k + 1) (ws ++ words)
    first r = rw (a.0, r, d) refl

-- ---- arguments

pub arguments_read : (verb : Verb) (given : Given) (options names before words : List (List ℕ)) (k m : ℕ) → arguments_of (form_of verb) given ≡ Some m → least_of (form_of verb) given ≤ length names → length before + length words ≤ m
    → read_from verb (Arguments given options names before) k words ≡ says (record { verb = verb; given = given; options = options; names = names; arguments = before ++ words })
arguments_read verb given options names before [] k m a e l =
    let enough : nat_le (least_of (form_of verb) given) (length names) ≡ true = grind (arith, nat_tests) in
    rw enough (ap (λ b. says (record { verb = verb; given = given; options = options; names = names; arguments = b })) (sym (append-nil before)))
arguments_read verb given options names before (w ∷ ws) k m a e l =
    let room : nat_lt (length before) m ≡ true = grind (arith, nat_tests) in
    let size : length (before ++ w ∷ []) + length ws ≤ m = omega (arith, length_one before w) in
    first room
    ∙ arguments_read verb given options names (before ++ w ∷ []) ws (k + 1) m a e size
    ∙ ap (λ b. says (record { verb = verb; given = given; options = options; names = names; arguments = b })) (append_assoc before (w ∷ []) ws)
  where
    first : nat_lt (length before) m ≡ true → read_from verb (Arguments given options names before) k (w ∷ ws) ≡ read_from verb (Arguments given options names (before ++ w ∷ [])) (k + 1) ws
    first r = rw (a, r) refl

-- The first argument that is too many is a bad word.
pub arguments_past : (verb : Verb) (given : Given) (options names before words : List (List ℕ)) (k m : ℕ) → arguments_of (form_of verb) given ≡ Some m → length before ≤ m → m < length before + length words
    → (j : ℕ) → j + length before ≡ k + m → read_from verb (Arguments given options names before) k words ≡ bad j
arguments_past verb given options names before [] k m a b l j e = absurd (omega (arith, b, l))
arguments_past verb given options names before (w ∷ ws) k m a b l j e =
    by (λ lt. arguments_past verb given options names (before ++ w ∷ []) ws (k + 1) m a (omega (arith, lt, length_one before w)) (omega (arith, l, length_one before w)) j (omega (arith, e, length_one before w)))
    (nat_lt (length before) m) refl
  where
    first : nat_lt (length before) m ≡ true → read_from verb (Arguments given options names before) k (w ∷ ws) ≡ read_from verb (Arguments given options names (before ++ w ∷ [])) (k + 1) ws
    first r = rw (a, r) refl

    none : nat_lt (length before) m ≡ false → read_from verb (Arguments given options names before) k (w ∷ ws) ≡ bad k
    none r = rw (a, r) refl

    by : (length before < m → read_from verb (Arguments given options names (before ++ w ∷ [])) (k + 1) ws ≡ bad j) → (q : Bool) → nat_lt (length before) m ≡ q → read_from verb (Arguments given options names before) k (w ∷ ws) ≡ bad j
    by more true r =
        let lt : length before < m = grind (arith, nat_tests, r) in first r ∙ more lt
    by more false r =
        let full : m ≤ length before = grind (arith, nat_tests, r) in
        let n : k ≡ j = omega (arith, e, b, full) in none r ∙ ap bad n
