-- What is read of words is what they spell, or tells the first bad word.
use Rattle.std.specs.Prelude.{◌≡◌, ℕ, ◌⊎◌, ◌&&◌, ◌==◌, nat_le, nat_lt, length, List, [], ◌∷◌, ◌++◌, Bool, true, false, Option, Some, None, cond, codes, take, refl}
use Rattle.std.proofs.Common.{◌≤◌, ◌+◌, ◌-◌, zero, suc, arith, ap, sym, ◌∙◌, subst, inl, inr, append_assoc}
use Rattle.std.proofs.Math.Seq.{take-append-add}
use Rattle.std.proofs.lemmas.Bool.Decides.{nat_tests}
use Rattle.std.proofs.lemmas.List.{append-nil, length-append}
use Rattle.std.proofs.lemmas.Slice.Eq.{bytes_eq-Decides}
use Rattle.std.specs.Option.{is_some}
use Rattle.std.specs.Str.{bytes_eq}
use Rattle.ns_run_words.proofs.FormLaws.{form_is_read, word_is_read}
use Rattle.ns_run_words.proofs.PartLaws.{all_given_append, length_one, names_append}
use Rattle.ns_run_words.specs.Forms.{AreArguments, AreNames, Begins, IsForm, IsOneOf, IsReadingOf, all_given}
use Rattle.ns_run_words.specs.Options.{arguments_of}
use Rattle.ns_run_words.specs.Own.{least_of, most_of}
use Rattle.ns_run_words.specs.Table.{form_of, item_at, verb_of, words_of}
use Rattle.ns_run_words.specs.Words.{CommandLine, ReadSoFar, Options, Names, Arguments, LineReading, at_given, bad, bad_of, says, arguments_behind, first_bad, given_of, has_needed, has_room, is_item, limit_where, given_or, line_of, names_read, nothing_given, option_or, part_or, read_from, reading_of, with_argument, with_at, with_dashes, with_name, with_option, with_word}
use Rattle.ns_run_words.specs.declared.form.Form.{Form}
use Rattle.ns_run_words.specs.declared.form.Item.{Item}
use Rattle.ns_run_words.specs.declared.form.Item.TheVariants.{File, Number, Application, Text, Topic, Selector, Integer, Move}
use Rattle.ns_run_words.specs.declared.form.Verb.{Verb}
use Rattle.ns_run_words.specs.declared.form.Verb.TheVariants.{Check, Show, Format, Run, Eval, Build, Exec, Listing, Session, Sample, Actors, Audit, Test, Snap, Resume, Replay, Library, Help, Explain, Version}
use Rattle.ns_run_words.specs.declared.words.Given.{Given}

-- ---- what was read so far

-- Options that give this, and names of which the form takes so many, behind options that it needs.
pub record AreNamed (form : Form) (words : List (List ℕ)) (given : Given) (options names : List (List ℕ)) : Type 0 where
  pub spelled : words ≡ options ++ names
  pub gives : all_given form nothing_given options ≡ Some given
  pub needed : names ≡ [] ⊎ (has_needed form given ≡ true)
  pub named : AreNames form 0 names
  pub few : length names ≤ most_of form given

-- The form takes `--` behind so many names, and so many arguments behind it.
abbrev pub TakesArguments : Form → Given → List (List ℕ) → List (List ℕ) → Type 0
TakesArguments form given names arguments = (m : ℕ) × (arguments_of form given ≡ Some m) × (least_of form given ≤ length names) × (length arguments ≤ m)

-- The words spell what was read, and the form can go on behind them.
abbrev pub IsPart : Form → List (List ℕ) → ReadSoFar → Type 0
IsPart form words (Options given options) = (words ≡ options) × (all_given form nothing_given words ≡ Some given)
IsPart form words (Names given options names) = AreNamed form words given options names
IsPart form words (Arguments given options names arguments) =
    (front : List (List ℕ)) × (words ≡ front ++ codes "--" ∷ arguments) × AreNamed form front given options names × TakesArguments form given names arguments

-- ---- one word more

pub argument_more : (form : Form) (words : List (List ℕ)) (given : Given) (options names arguments : List (List ℕ)) (w : List ℕ) (next : ReadSoFar) → IsPart form words (Arguments given options names arguments)
    → with_argument form given options names arguments w ≡ Some next → IsPart form (words ++ w ∷ []) next
argument_more form words given options names arguments w next (front, s, n, (m, a, e, l)) h =
    elim (has_room (arguments_of form given) (length arguments)) as (λ q. has_room (arguments_of form given) (length arguments) ≡ q → cond q (Some (Arguments given options names (arguments ++ w ∷ []))) None ≡ Some next → IsPart form (words ++ w ∷ []) next) [
      | false ↦ λ r k. absurd (cc (k))
      | true ↦ λ r k.
          let room : nat_lt (length arguments) m ≡ true = sym (ap (λ o. has_room o (length arguments)) a) ∙ r in
          let few : length (arguments ++ w ∷ []) ≤ m = grind (arith, nat_tests, room, length_one arguments w) in
          let is : Arguments given options names (arguments ++ w ∷ []) ≡ next = cc (k) in
          subst (IsPart form (words ++ w ∷ [])) is (front, ap (λ x. x ++ w ∷ []) s ∙ append_assoc front (codes "--" ∷ arguments) (w ∷ []), n, (m, a, e, few))
    ] refl h

pub dashes_more : (form : Form) (words : List (List ℕ)) (given : Given) (options names : List (List ℕ)) (w : List ℕ) (next : ReadSoFar) → AreNamed form words given options names
    → with_dashes given options names (arguments_behind form given (length names) w) ≡ Some next → IsPart form (words ++ w ∷ []) next
dashes_more form words given options names w next n h =
    elim (bytes_eq w (codes "--")) as (λ q. bytes_eq w (codes "--") ≡ q → with_dashes given options names (cond (q && nat_le (least_of form given) (length names)) (arguments_of form given) None) ≡ Some next → IsPart form (words ++ w ∷ []) next) [
      | false ↦ λ e k. absurd (cc (k))
      | true ↦ λ e k.
          let dashes : w ≡ codes "--" = (bytes_eq-Decides w (codes "--")).0 e in
          enough dashes k
    ] refl h
  where
    taken : (o : Option ℕ) → w ≡ codes "--" → least_of form given ≤ length names → arguments_of form given ≡ o → with_dashes given options names o ≡ Some next → IsPart form (words ++ w ∷ []) next
    taken None e l a k = absurd (cc (k))
    taken (Some m) e l a k =
        let is : Arguments given options names [] ≡ next = cc (k) in
        subst (IsPart form (words ++ w ∷ [])) is (words, ap (λ v. words ++ v ∷ []) e, n, (m, a, l, omega arith))

    enough : w ≡ codes "--" → with_dashes given options names (cond (nat_le (least_of form given) (length names)) (arguments_of form given) None) ≡ Some next → IsPart form (words ++ w ∷ []) next
    enough e k =
        elim (nat_le (least_of form given) (length names)) as (λ q. nat_le (least_of form given) (length names) ≡ q → with_dashes given options names (cond q (arguments_of form given) None) ≡ Some next → IsPart form (words ++ w ∷ []) next) [
          | false ↦ λ r j. absurd (cc (j))
          | true ↦ λ r j.
              let l : least_of form given ≤ length names = grind (arith, nat_tests, r) in taken (arguments_of form given) e l refl j
        ] refl k

pub name_more : (form : Form) (words : List (List ℕ)) (given : Given) (options names : List (List ℕ)) (w : List ℕ) (next : ReadSoFar) → AreNamed form words given options names
    → with_name form given options names w ≡ Some next → IsPart form (words ++ w ∷ []) next
name_more form words given options names w next n h =
    elim (is_item (item_at form (length names)) w) as (λ q. is_item (item_at form (length names)) w ≡ q
    → cond (q && nat_lt (length names) (most_of form given) && has_needed form given) (Some (Names given options (names ++ w ∷ []))) other ≡ Some next → IsPart form (words ++ w ∷ []) next) [
      | false ↦ λ e k. dashes_more form words given options names w next n k
      | true ↦ λ e k. room e k
    ] refl h
  where
    other : Option ReadSoFar
    other = with_dashes given options names (arguments_behind form given (length names) w)

    needed : is_item (item_at form (length names)) w ≡ true → nat_lt (length names) (most_of form given) ≡ true → cond (has_needed form given) (Some (Names given options (names ++ w ∷ []))) other ≡ Some next → IsPart form (words ++ w ∷ []) next
    needed e r k =
        elim (has_needed form given) as (λ q. has_needed form given ≡ q → cond q (Some (Names given options (names ++ w ∷ []))) other ≡ Some next → IsPart form (words ++ w ∷ []) next) [
          | false ↦ λ d j. dashes_more form words given options names w next n j
          | true ↦ λ d j.
              let few : length (names ++ w ∷ []) ≤ most_of form given = grind (arith, nat_tests, r, length_one names w) in
              let is : Names given options (names ++ w ∷ []) ≡ next = cc (j) in
              let none : 0 + length names ≡ length names = omega arith in
              let all : AreNamed form (words ++ w ∷ []) given options (names ++ w ∷ []) =
              record { spelled = ap (λ x. x ++ w ∷ []) n.spelled ∙ append_assoc options names (w ∷ []); gives = n.gives; needed = inr d; named = names_append form 0 names w n.named (ap (λ j. is_item (item_at form j) w) none ∙ e); few = few }
              in
              subst (IsPart form (words ++ w ∷ [])) is all
        ] refl k

    room : is_item (item_at form (length names)) w ≡ true → cond (nat_lt (length names) (most_of form given) && has_needed form given) (Some (Names given options (names ++ w ∷ []))) other ≡ Some next → IsPart form (words ++ w ∷ []) next
    room e k =
        elim (nat_lt (length names) (most_of form given)) as (λ q. nat_lt (length names) (most_of form given) ≡ q
        → cond (q && has_needed form given) (Some (Names given options (names ++ w ∷ []))) other ≡ Some next → IsPart form (words ++ w ∷ []) next) [
          | false ↦ λ r j. dashes_more form words given options names w next n j
          | true ↦ λ r j. needed e r j
        ] refl k

-- Options alone are options and no names.
pub no_names : (form : Form) (words : List (List ℕ)) (given : Given) (options : List (List ℕ)) → IsPart form words (Options given options) → AreNamed form words given options []
no_names form words given options (e, o) =
    record { spelled = e ∙ sym (append-nil options); gives = subst (λ x. all_given form nothing_given x ≡ Some given) e o; needed = inl refl; named = tt; few = omega arith }

pub option_more : (form : Form) (words : List (List ℕ)) (given : Given) (options : List (List ℕ)) (w : List ℕ) (next : ReadSoFar) → IsPart form words (Options given options) → with_word form (Options given options) w ≡ Some next
    → IsPart form (words ++ w ∷ []) next
option_more form words given options w next o h =
    elim (with_option form given w) as (λ g. with_option form given w ≡ g → option_or (with_name form given options [] w) (options ++ w ∷ []) g ≡ Some next → IsPart form (words ++ w ∷ []) next) [
      | None ↦ λ e k. name_more form words given options [] w next (no_names form words given options o) k
      | Some more ↦ λ e k.
          let is : Options more (options ++ w ∷ []) ≡ next = cc (k) in
          let one : all_given form given (w ∷ []) ≡ Some more = rw e refl in
          subst (IsPart form (words ++ w ∷ [])) is (ap (λ x. x ++ w ∷ []) o.0, all_given_append form nothing_given given words (w ∷ []) o.1 ∙ one)
    ] refl h

-- The words of a part, with a word more with which the form can go on.
pub part_more : (form : Form) (words : List (List ℕ)) (part : ReadSoFar) (w : List ℕ) (next : ReadSoFar) → IsPart form words part → with_word form part w ≡ Some next → IsPart form (words ++ w ∷ []) next
part_more form words (Options given options) w next p h = option_more form words given options w next p h
part_more form words (Names given options names) w next p h = name_more form words given options names w next p h
part_more form words (Arguments given options names arguments) w next p h = argument_more form words given options names arguments w next p h

-- ---- what a part begins

-- a name of each kind: `1` can be the name of a file, and is a number
abbrev pub filler : Item → List ℕ
filler File = codes "1"
filler (Number greatest) = codes "1"
filler Application = codes "=1"
filler Text = codes "1"
filler Topic = codes "run"
filler Selector = codes "a:"
filler Integer = codes "1"
filler Move = codes "=1"

-- so many names of a form, behind so many others
abbrev pub fill : Form → ℕ → ℕ → List (List ℕ)
fill form count zero = []
fill form count (suc n) = filler (item_at form count) ∷ fill form (count + 1) n

pub fill_length : (form : Form) (count n : ℕ) → length (fill form count n) ≡ n
fill_length form count zero = refl
fill_length form count (suc n) = omega (arith, fill_length form (count + 1) n)

pub fill_item : (verb : Verb) (count : ℕ) → is_item (item_at (form_of verb) count) (filler (item_at (form_of verb) count)) ≡ true
fill_item Check count = refl
fill_item Show count = refl
fill_item Format count = refl
fill_item Run count = refl
fill_item Eval count = refl
fill_item Build count = refl
fill_item Exec count = refl
fill_item Listing count = refl
fill_item Session count = refl
fill_item Sample count = refl
fill_item Actors count = in_a_letter (count == 0) (count == 1) (count == 2)
  where
    in_a_letter : (first second third : Bool) →
        is_item (cond first (Number 16) (cond second Selector (cond third Integer File)))
        (filler (cond first (Number 16) (cond second Selector (cond third Integer File)))) ≡ true
    in_a_letter true second third = refl
    in_a_letter false true third = refl
    in_a_letter false false true = refl
    in_a_letter false false false = refl
fill_item Audit count = refl
fill_item Test count = refl
fill_item Snap count = refl
fill_item Resume count = refl
fill_item Replay count = behind_a_file (count == 0)
  where
    behind_a_file : (first : Bool) → is_item (cond first File Move) (filler (cond first File Move)) ≡ true
    behind_a_file true = refl
    behind_a_file false = refl
fill_item Library count = refl
fill_item Help count = refl
fill_item Explain count = refl
fill_item Version count = refl

pub fill_named : (verb : Verb) (count n : ℕ) → AreNames (form_of verb) count (fill (form_of verb) count n)
fill_named verb count zero = tt
fill_named verb count (suc n) = (fill_item verb count, fill_named verb (count + 1) n)

pub both_named : (form : Form) (count : ℕ) (names more : List (List ℕ)) → AreNames form count names → AreNames form (count + length names) more
    → AreNames form count (names ++ more)
both_named form count [] more a b =
    let all : count + 0 ≡ count = omega arith in subst (λ j. AreNames form j more) all b
both_named form count (n ∷ ns) more a b =
    let next : count + length (n ∷ ns) ≡ (count + 1) + length ns = omega arith in
    (a.0, both_named form (count + 1) ns more a.1 (subst (λ j. AreNames form j more) next b))

pub least_is_less : (verb : Verb) (given : Given) → least_of (form_of verb) given ≤ most_of (form_of verb) given
least_is_less Check given = omega arith
least_is_less Show given = omega arith
least_is_less Format given = omega arith
least_is_less Run given = omega arith
least_is_less Eval given = omega arith
least_is_less Build given =
    elim given.to as (λ q. cond q (2 - 1) 2 ≤ cond q (17 - 1) 17) [
      | true ↦ omega arith
      | false ↦ omega arith
    ]
least_is_less Exec given = omega arith
least_is_less Listing given = omega arith
least_is_less Session given = omega arith
least_is_less Sample given = omega arith
least_is_less Actors given = omega arith
least_is_less Audit given = omega arith
least_is_less Test given = omega arith
least_is_less Snap given = omega arith
least_is_less Resume given = omega arith
least_is_less Replay given = omega arith
least_is_less Library given = omega arith
least_is_less Help given = omega arith
least_is_less Explain given = omega arith
least_is_less Version given = omega arith

pub no_arguments : (most : Option ℕ) → AreArguments most [] []
no_arguments None = (refl, refl)
no_arguments (Some m) = inl (refl, refl)

pub some_arguments : (most : Option ℕ) (m : ℕ) (arguments : List (List ℕ)) → most ≡ Some m → length arguments ≤ m → AreArguments most (codes "--" ∷ arguments) arguments
some_arguments most m arguments e l = subst (λ o. AreArguments o (codes "--" ∷ arguments) arguments) (sym e) (inr (refl, l))

-- A form that needs an option needs a name too: so with names enough the option is there.
pub enough_needs : (verb : Verb) (given : Given) (names : List (List ℕ)) → names ≡ [] ⊎ (has_needed (form_of verb) given ≡ true) → least_of (form_of verb) given ≤ length names → has_needed (form_of verb) given ≡ true
enough_needs verb given names (inr d) l = d
enough_needs verb given names (inl e) l = none verb (subst (λ x. least_of (form_of verb) given ≤ length x) e l)
  where
    none : (verb : Verb) → least_of (form_of verb) given ≤ 0 → has_needed (form_of verb) given ≡ true
    none Check m = refl
    none Show m = refl
    none Format m = refl
    none Run m = refl
    none Eval m = refl
    none Build m = refl
    none Exec m = refl
    none Listing m = refl
    none Session m = refl
    none Sample m = refl
    none Actors m = refl
    none Audit m = absurd (omega (arith, m))
    none Test m = refl
    none Snap m = absurd (omega (arith, m))
    none Resume m = refl
    none Replay m = refl
    none Library m = refl
    none Help m = refl
    none Explain m = refl
    none Version m = refl

-- Names behind the options that the form needs, and as many more as it needs.
pub filled_begin : (verb : Verb) (first : List ℕ) → IsOneOf first (words_of verb) → (words : List (List ℕ)) (given : Given) (options names : List (List ℕ)) → AreNamed (form_of verb) words given options names → has_needed (form_of verb) given ≡ true → Begins (first ∷ words)
filled_begin verb first o words given options names n d =
    let some : ℕ = least_of (form_of verb) given - length names in
    let more : List (List ℕ) = fill (form_of verb) (0 + length names) some in
    let size : length (names ++ more) ≡ length names + (least_of (form_of verb) given - length names) = length-append names more ∙ ap (λ j. length names + j) (fill_length (form_of verb) (0 + length names) some) in
    let spelled : words ++ more ≡ options ++ (names ++ more) ++ [] =
    ap (λ x. x ++ more) n.spelled ∙ append_assoc options names more ∙ sym (append-nil (options ++ (names ++ more)))
    in (
      more,
      record { verb = verb; given = given; options = options; names = names ++ more; arguments = [] },
      record {
        first = first;
        named_by = o;
        last = [];
        spelled = ap (λ x. first ∷ x) spelled;
        given = n.gives;
        needed = d;
        enough = omega (arith, size);
        few = omega (arith, size, n.few, least_is_less verb given);
        named = both_named (form_of verb) 0 names more n.named (fill_named verb (0 + length names) some);
        ends = no_arguments (arguments_of (form_of verb) given);
      },
    )

-- A form that needs an option takes this one, where it has none yet.
abbrev pub needed_option : Form → List ℕ
needed_option form = cond form.at (codes "--at=1") (codes "--deny=a")

-- what is given with it
abbrev pub with_needed : Form → Given → Given
with_needed form given = cond form.at (record given { at = Some 1 }) (record given { denied = given.denied + 1 })

pub denial_given : (verb : Verb) (given : Given) → has_needed (form_of verb) given ≡ false → with_option (form_of verb) given (needed_option (form_of verb)) ≡ Some (with_needed (form_of verb) given)
denial_given Check given h = absurd (cc (h))
denial_given Show given h = absurd (cc (h))
denial_given Format given h = absurd (cc (h))
denial_given Run given h = absurd (cc (h))
denial_given Eval given h = absurd (cc (h))
denial_given Build given h = absurd (cc (h))
denial_given Exec given h = absurd (cc (h))
denial_given Listing given h = absurd (cc (h))
denial_given Session given h = absurd (cc (h))
denial_given Sample given h = absurd (cc (h))
denial_given Actors given h = absurd (cc (h))
denial_given Audit given h =
    let few : nat_lt given.denied 16 ≡ true = grind (arith, nat_tests, h) in rw few refl
denial_given Test given h = absurd (cc (h))
denial_given Snap given h =
    elim given.at as (λ o. is_some o ≡ false → given_or (with_at given (at_given o (codes "--at=1"))) (limit_where (form_of Snap).greatest given (codes "--at=1")) ≡ Some (record given { at = Some 1 })) [
      | None ↦ λ k. refl
      | Some n ↦ λ k. absurd (cc (k))
    ] h
denial_given Resume given h = absurd (cc (h))
denial_given Replay given h = absurd (cc (h))
denial_given Library given h = absurd (cc (h))
denial_given Help given h = absurd (cc (h))
denial_given Explain given h = absurd (cc (h))
denial_given Version given h = absurd (cc (h))

pub denial_serves : (verb : Verb) (given : Given) → has_needed (form_of verb) (with_needed (form_of verb) given) ≡ true
denial_serves Check given = refl
denial_serves Show given = refl
denial_serves Format given = refl
denial_serves Run given = refl
denial_serves Eval given = refl
denial_serves Build given = refl
denial_serves Exec given = refl
denial_serves Listing given = refl
denial_serves Session given = refl
denial_serves Sample given = refl
denial_serves Actors given = refl
denial_serves Audit given = grind (arith, nat_tests)
denial_serves Test given = refl
denial_serves Snap given = refl
denial_serves Resume given = refl
denial_serves Replay given = refl
denial_serves Library given = refl
denial_serves Help given = refl
denial_serves Explain given = refl
denial_serves Version given = refl

-- What begins a form with a word more begins one.
pub fewer_begin : (words : List (List ℕ)) (w : List ℕ) → Begins (words ++ w ∷ []) → Begins words
fewer_begin words w (more, line, f) = (w ∷ more, line, subst (λ x. IsForm x line) (append_assoc words (w ∷ []) more) f)

pub denied_begin : (verb : Verb) (first : List ℕ) → IsOneOf first (words_of verb) → (words : List (List ℕ)) (given : Given) (options names : List (List ℕ)) → AreNamed (form_of verb) words given options names → names ≡ [] → has_needed (form_of verb) given ≡ false → Begins (first ∷ words)
denied_begin verb first o words given options names n none h =
    let next : Given = with_needed (form_of verb) given in
    let denial = needed_option (form_of verb) in
    let one : all_given (form_of verb) given (denial ∷ []) ≡ Some next = rw (denial_given verb given h) refl in
    let named : AreNamed (form_of verb) (words ++ denial ∷ []) next (options ++ denial ∷ []) [] =
    record {
      spelled = ap (λ x. x ++ denial ∷ []) (n.spelled ∙ ap (λ x. options ++ x) none ∙ append-nil options) ∙ sym (append-nil (options ++ denial ∷ []));
      gives = all_given_append (form_of verb) nothing_given given options (denial ∷ []) n.gives ∙ one;
      needed = inl refl;
      named = tt;
      few = omega arith;
    }
    in
    fewer_begin (first ∷ words) denial (filled_begin verb first o (words ++ denial ∷ []) next (options ++ denial ∷ []) [] named (denial_serves verb given))

pub named_begin : (verb : Verb) (first : List ℕ) → IsOneOf first (words_of verb) → (words : List (List ℕ)) (given : Given) (options names : List (List ℕ)) → AreNamed (form_of verb) words given options names → Begins (first ∷ words)
named_begin verb first o words given options names n = by (has_needed (form_of verb) given) refl n.needed
  where
    by : (q : Bool) → has_needed (form_of verb) given ≡ q → names ≡ [] ⊎ (has_needed (form_of verb) given ≡ true) → Begins (first ∷ words)
    by true e d = filled_begin verb first o words given options names n e
    by false e (inl none) = denied_begin verb first o words given options names n none e
    by false e (inr d) = absurd (cc (e, d))

pub part_begins : (verb : Verb) (first : List ℕ) → IsOneOf first (words_of verb) → (words : List (List ℕ)) (part : ReadSoFar) → IsPart (form_of verb) words part → Begins (first ∷ words)
part_begins verb first o words (Options given options) p = named_begin verb first o words given options [] (no_names (form_of verb) words given options p)
part_begins verb first o words (Names given options names) p = named_begin verb first o words given options names p
part_begins verb first o words (Arguments given options names arguments) (front, s, n, (m, a, e, l)) =
    let spelled : words ++ [] ≡ options ++ names ++ codes "--" ∷ arguments =
    append-nil words ∙ s ∙ ap (λ x. x ++ codes "--" ∷ arguments) n.spelled
    in (
      [],
      record { verb = verb; given = given; options = options; names = names; arguments = arguments },
      record {
        first = first;
        named_by = o;
        last = codes "--" ∷ arguments;
        spelled = ap (λ x. first ∷ x) spelled;
        given = n.gives;
        needed = enough_needs verb given names n.needed e;
        enough = e;
        few = n.few;
        named = n.named;
        ends = some_arguments (arguments_of (form_of verb) given) m arguments a l;
      },
    )

-- Where there are names enough, the words are a form.
pub named_form : (verb : Verb) (first : List ℕ) → IsOneOf first (words_of verb) → (words : List (List ℕ)) (given : Given) (options names : List (List ℕ)) → AreNamed (form_of verb) words given options names → least_of (form_of verb) given ≤ length names
    → IsForm (first ∷ words) (record { verb = verb; given = given; options = options; names = names; arguments = [] })
named_form verb first o words given options names n l =
    let spelled : words ≡ options ++ names ++ [] = n.spelled ∙ sym (append-nil (options ++ names)) in
    record {
      first = first;
      named_by = o;
      last = [];
      spelled = ap (λ x. first ∷ x) spelled;
      given = n.gives;
      needed = enough_needs verb given names n.needed l;
      enough = l;
      few = n.few;
      named = n.named;
      ends = no_arguments (arguments_of (form_of verb) given);
    }

pub part_form : (verb : Verb) (first : List ℕ) → IsOneOf first (words_of verb) → (words : List (List ℕ)) (part : ReadSoFar) → IsPart (form_of verb) words part → least_of (form_of verb) (given_of part) ≤ length (names_read part) → IsForm (first ∷ words) (line_of verb part)
part_form verb first o words (Options given options) p l = named_form verb first o words given options [] (no_names (form_of verb) words given options p) l
part_form verb first o words (Names given options names) p l = named_form verb first o words given options names p l
part_form verb first o words (Arguments given options names arguments) (front, s, n, (m, a, e, few)) l =
    let spelled : words ≡ options ++ names ++ codes "--" ∷ arguments = s ∙ ap (λ x. x ++ codes "--" ∷ arguments) n.spelled in
    record {
      first = first;
      named_by = o;
      last = codes "--" ∷ arguments;
      spelled = ap (λ x. first ∷ x) spelled;
      given = n.gives;
      needed = enough_needs verb given names n.needed e;
      enough = e;
      few = n.few;
      named = n.named;
      ends = some_arguments (arguments_of (form_of verb) given) m arguments a few;
    }

-- ---- the first bad word

-- The word behind those that begin a form, where no form goes on with it.
pub bad_behind : (words next : List (List ℕ)) (k : ℕ) → k ≡ length words → Begins words
    → ((w : List ℕ) (rest : List (List ℕ)) → next ≡ w ∷ rest → (more : List (List ℕ)) (line : CommandLine) → IsForm (words ++ w ∷ more) line → ⊥) → IsReadingOf (words ++ next) (bad k)
bad_behind words [] k at b n =
    let all : words ++ [] ≡ words = append-nil words in
    let cut : take k (words ++ []) ≡ words = ap (λ j. take j (words ++ [])) (omega (arith, at)) ∙ take-append-add words [] 0 ∙ append-nil words in
    (omega (arith, at, ap length all), subst Begins (sym cut) b, λ l. absurd (omega (arith, at, ap length all, l)))
bad_behind words (w ∷ rest) k at b n =
    let size : length (words ++ w ∷ rest) ≡ length words + length (w ∷ rest) = length-append words (w ∷ rest) in
    let cut : take k (words ++ w ∷ rest) ≡ words = ap (λ j. take j (words ++ w ∷ rest)) (omega (arith, at)) ∙ take-append-add words (w ∷ rest) 0 ∙ append-nil words in
    let next : take (k + 1) (words ++ w ∷ rest) ≡ words ++ w ∷ [] = ap (λ j. take j (words ++ w ∷ rest)) (omega (arith, at)) ∙ take-append-add words (w ∷ rest) 1 in
    (omega (arith, at, size), subst Begins (sym cut) b, λ l c. further (subst Begins next c))
  where
    further : Begins (words ++ w ∷ []) → ⊥
    further (more, line, f) = n w rest refl more line (subst (λ x. IsForm x line) (append_assoc words (w ∷ []) more) f)

-- ---- all words

-- Behind these words is read on from the part.
abbrev pub ReadsOn : Verb → List ℕ → List (List ℕ) → ReadSoFar → Type 0
ReadsOn verb first words part = (rest : List (List ℕ)) → reading_of (first ∷ words ++ rest) ≡ read_from verb part (1 + length words) rest

pub reading_from : (verb : Verb) (first : List ℕ) → IsOneOf first (words_of verb) → (words rest : List (List ℕ)) (part : ReadSoFar) → IsPart (form_of verb) words part → ReadsOn verb first words part → IsReadingOf (first ∷ words ++ rest) (read_from verb part (1 + length words) rest)
reading_from verb first o words [] part p r =
    elim (nat_le (least_of (form_of verb) (given_of part)) (length (names_read part))) as (λ q. nat_le (least_of (form_of verb) (given_of part)) (length (names_read part)) ≡ q → IsReadingOf (first ∷ words ++ []) (cond q (says (line_of verb part)) (bad (1 + length words)))) [
      | true ↦ λ e.
          let l : least_of (form_of verb) (given_of part) ≤ length (names_read part) = grind (arith, nat_tests, e) in
          subst (λ x. IsForm (first ∷ x) (line_of verb part)) (sym (append-nil words)) (part_form verb first o words part p l)
      | false ↦ λ e. bad_behind (first ∷ words) [] (1 + length words) (omega arith) (part_begins verb first o words part p) (λ w rest h. absurd (cc (h)))
    ] refl
reading_from verb first o words (w ∷ rest) part p r =
    elim (with_word (form_of verb) part w) as (λ p. with_word (form_of verb) part w ≡ p → IsReadingOf (first ∷ words ++ w ∷ rest) (part_or (bad (1 + length words)) (λ more. read_from verb more (1 + length words + 1) rest) p)) [
      | None ↦ λ e. bad_behind (first ∷ words) (w ∷ rest) (1 + length words) (omega arith) (part_begins verb first o words part p) (λ v others same more line f.
          let v_is : w ≡ v = cc (same) in
          let stops : read_from verb part (1 + length words) (v ∷ more) ≡ bad (1 + length words) =
          ap (part_or (bad (1 + length words)) (λ part. read_from verb part (1 + length words + 1) more)) (ap (with_word (form_of verb) part) (sym v_is) ∙ e)
          in
          let both : says line ≡ bad (1 + length words) = sym (form_is_read (first ∷ words ++ v ∷ more) line f) ∙ r (v ∷ more) ∙ stops in
          cc)
      | Some next ↦ λ e.
          let more : List (List ℕ) = words ++ w ∷ [] in
          let size : 1 + length words + 1 ≡ 1 + length more = omega (arith, length_one words w) in
          let on : ReadsOn verb first more next = λ others.
          ap (λ x. reading_of (first ∷ x)) (append_assoc words (w ∷ []) others)
          ∙ r (w ∷ others)
          ∙ ap (part_or (bad (1 + length words)) (λ part. read_from verb part (1 + length words + 1) others)) e
          ∙ ap (λ k. read_from verb next k others) size
          in
          let is : IsReadingOf (first ∷ more ++ rest) (read_from verb next (1 + length more) rest) = reading_from verb first o more rest next (part_more (form_of verb) words part w next p e) on in
          subst (λ k. IsReadingOf (first ∷ words ++ w ∷ rest) (read_from verb next k rest)) (sym size)
          (subst (λ x. IsReadingOf (first ∷ x) (read_from verb next (1 + length more) rest)) (append_assoc words (w ∷ []) rest) is)
    ] refl

-- ---- the first word

pub apart : (a b : List ℕ) → bytes_eq a b ≡ false → a ≡ b → ⊥
apart a b e f = let t : true ≡ false = sym ((bytes_eq-Decides a b).1 f) ∙ e in cc

-- what follows of the command that the first word names
pub by_verb : (w : List ℕ) (P : Option Verb → Type 0) → ((verb : Verb) → IsOneOf w (words_of verb) → P (Some verb)) → (((verb : Verb) → IsOneOf w (words_of verb) → ⊥) → P None) → P (verb_of w)
by_verb w P some none =
    test (codes "check") _ _ (λ is. some Check (inl is)) λ a.
    test (codes "show") _ _ (λ is. some Show (inl is)) λ b.
    test (codes "format") _ _ (λ is. some Format (inl is)) λ t.
    test (codes "run") _ _ (λ is. some Run (inl is)) λ c.
    test (codes "eval") _ _ (λ is. some Eval (inl is)) λ d.
    test (codes "build") _ _ (λ is. some Build (inl is)) λ e.
    test (codes "exec") _ _ (λ is. some Exec (inl is)) λ f.
    test (codes "list") _ _ (λ is. some Listing (inl is)) λ g.
    test (codes "session") _ _ (λ is. some Session (inl is)) λ h.
    test (codes "sample") _ _ (λ is. some Sample (inl is)) λ i.
    test (codes "actors") _ _ (λ is. some Actors (inl is)) λ o.
    test (codes "audit") _ _ (λ is. some Audit (inl is)) λ j.
    test (codes "test") _ _ (λ is. some Test (inl is)) λ k.
    test (codes "snap") _ _ (λ is. some Snap (inl is)) λ u.
    test (codes "resume") _ _ (λ is. some Resume (inl is)) λ v.
    test (codes "replay") _ _ (λ is. some Replay (inl is)) λ x.
    test (codes "library") _ _ (λ is. some Library (inl is)) λ l.
    test (codes "--help") _ _ (λ is. some Help (inl is)) λ m.
    test (codes "-h") _ _ (λ is. some Help (inr (inl is))) λ n.
    test (codes "help") _ _ (λ is. some Explain (inl is)) λ q.
    test (codes "--version") _ _ (λ is. some Version (inl is)) λ r.
    test (codes "-V") _ _ (λ is. some Version (inr (inl is))) λ s.
    none (all a b t c d e f g h i o j k u v x l m n q r s)
  where
    test : (text : List ℕ) (x y : Option Verb) → (w ≡ text → P x) → (bytes_eq w text ≡ false → P y) → P (cond (bytes_eq w text) x y)
    test text x y f g =
        elim (bytes_eq w text) as (λ q. bytes_eq w text ≡ q → P (cond q x y)) [
          | true ↦ λ e. f ((bytes_eq-Decides w text).0 e)
          | false ↦ g
        ] refl

    all : bytes_eq w (codes "check") ≡ false → bytes_eq w (codes "show") ≡ false → bytes_eq w (codes "format") ≡ false → bytes_eq w (codes "run") ≡ false → bytes_eq w (codes "eval") ≡ false → bytes_eq w (codes "build") ≡ false → bytes_eq w (codes "exec") ≡ false → bytes_eq w (codes "list") ≡ false → bytes_eq w (codes "session") ≡ false → bytes_eq w (codes "sample") ≡ false → bytes_eq w (codes "actors") ≡ false → bytes_eq w (codes "audit") ≡ false → bytes_eq w (codes "test") ≡ false → bytes_eq w (codes "snap") ≡ false → bytes_eq w (codes "resume") ≡ false → bytes_eq w (codes "replay") ≡ false → bytes_eq w (codes "library") ≡ false → bytes_eq w (codes "--help") ≡ false → bytes_eq w (codes "-h") ≡ false → bytes_eq w (codes "help") ≡ false → bytes_eq w (codes "--version") ≡ false → bytes_eq w (codes "-V") ≡ false → (verb : Verb) → IsOneOf w (words_of verb) → ⊥
    all a b t c d e f g h i o j k u v x l m n q r s Check (inl is) = apart w (codes "check") a is
    all a b t c d e f g h i o j k u v x l m n q r s Check (inr void) = void
    all a b t c d e f g h i o j k u v x l m n q r s Show (inl is) = apart w (codes "show") b is
    all a b t c d e f g h i o j k u v x l m n q r s Show (inr void) = void
    all a b t c d e f g h i o j k u v x l m n q r s Format (inl is) = apart w (codes "format") t is
    all a b t c d e f g h i o j k u v x l m n q r s Format (inr void) = void
    all a b t c d e f g h i o j k u v x l m n q r s Run (inl is) = apart w (codes "run") c is
    all a b t c d e f g h i o j k u v x l m n q r s Run (inr void) = void
    all a b t c d e f g h i o j k u v x l m n q r s Eval (inl is) = apart w (codes "eval") d is
    all a b t c d e f g h i o j k u v x l m n q r s Eval (inr void) = void
    all a b t c d e f g h i o j k u v x l m n q r s Build (inl is) = apart w (codes "build") e is
    all a b t c d e f g h i o j k u v x l m n q r s Build (inr void) = void
    all a b t c d e f g h i o j k u v x l m n q r s Exec (inl is) = apart w (codes "exec") f is
    all a b t c d e f g h i o j k u v x l m n q r s Exec (inr void) = void
    all a b t c d e f g h i o j k u v x l m n q r s Listing (inl is) = apart w (codes "list") g is
    all a b t c d e f g h i o j k u v x l m n q r s Listing (inr void) = void
    all a b t c d e f g h i o j k u v x l m n q r s Session (inl is) = apart w (codes "session") h is
    all a b t c d e f g h i o j k u v x l m n q r s Session (inr void) = void
    all a b t c d e f g h i o j k u v x l m n q r s Sample (inl is) = apart w (codes "sample") i is
    all a b t c d e f g h i o j k u v x l m n q r s Sample (inr void) = void
    all a b t c d e f g h i o j k u v x l m n q r s Actors (inl is) = apart w (codes "actors") o is
    all a b t c d e f g h i o j k u v x l m n q r s Actors (inr void) = void
    all a b t c d e f g h i o j k u v x l m n q r s Audit (inl is) = apart w (codes "audit") j is
    all a b t c d e f g h i o j k u v x l m n q r s Audit (inr void) = void
    all a b t c d e f g h i o j k u v x l m n q r s Test (inl is) = apart w (codes "test") k is
    all a b t c d e f g h i o j k u v x l m n q r s Test (inr void) = void
    all a b t c d e f g h i o j k u v x l m n q r s Snap (inl is) = apart w (codes "snap") u is
    all a b t c d e f g h i o j k u v x l m n q r s Snap (inr void) = void
    all a b t c d e f g h i o j k u v x l m n q r s Resume (inl is) = apart w (codes "resume") v is
    all a b t c d e f g h i o j k u v x l m n q r s Resume (inr void) = void
    all a b t c d e f g h i o j k u v x l m n q r s Replay (inl is) = apart w (codes "replay") x is
    all a b t c d e f g h i o j k u v x l m n q r s Replay (inr void) = void
    all a b t c d e f g h i o j k u v x l m n q r s Library (inl is) = apart w (codes "library") l is
    all a b t c d e f g h i o j k u v x l m n q r s Library (inr void) = void
    all a b t c d e f g h i o j k u v x l m n q r s Help (inl is) = apart w (codes "--help") m is
    all a b t c d e f g h i o j k u v x l m n q r s Help (inr (inl is)) = apart w (codes "-h") n is
    all a b t c d e f g h i o j k u v x l m n q r s Help (inr (inr void)) = void
    all a b t c d e f g h i o j k u v x l m n q r s Explain (inl is) = apart w (codes "help") q is
    all a b t c d e f g h i o j k u v x l m n q r s Explain (inr void) = void
    all a b t c d e f g h i o j k u v x l m n q r s Version (inl is) = apart w (codes "--version") r is
    all a b t c d e f g h i o j k u v x l m n q r s Version (inr (inl is)) = apart w (codes "-V") s is
    all a b t c d e f g h i o j k u v x l m n q r s Version (inr (inr void)) = void

pub begins_nothing : Begins []
begins_nothing =
    let first : List ℕ = codes "--help" in
    let b : Begins (first ∷ []) = part_begins Help first (inl refl) [] (Options nothing_given []) (refl, refl) in (first ∷ b.0, b.1, b.2)

pub after_first : (w : List ℕ) (words : List (List ℕ)) → IsReadingOf (w ∷ words) (reading_of (w ∷ words))
after_first w words = by_verb w (λ o. IsReadingOf (w ∷ words) (after words o)) known unknown
  where
    after : List (List ℕ) → Option Verb → LineReading
    after rest None = bad 0
    after rest (Some verb) = read_from verb (Options nothing_given []) 1 rest

    known : (verb : Verb) → IsOneOf w (words_of verb) → IsReadingOf (w ∷ words) (read_from verb (Options nothing_given []) 1 words)
    known verb o =
        let at : 1 ≡ 1 + length {A = List ℕ} [] = omega arith in
        let on : ReadsOn verb w [] (Options nothing_given []) = λ rest. word_is_read verb w rest o ∙ ap (λ k. read_from verb (Options nothing_given []) k rest) at in
        subst (λ k. IsReadingOf (w ∷ words) (read_from verb (Options nothing_given []) k words)) (sym at) (reading_from verb w o [] words (Options nothing_given []) (refl, refl) on)

    first : (more : List (List ℕ)) (line : CommandLine) (f : IsForm (w ∷ more) line) → f.first ≡ w
    first more line f = cc (f.spelled)

    unknown : ((verb : Verb) → IsOneOf w (words_of verb) → ⊥) → IsReadingOf (w ∷ words) (bad 0)
    unknown n = (omega arith, begins_nothing, λ l b. n b.1.verb (subst (λ x. IsOneOf x (words_of b.1.verb)) (first b.0 b.1 b.2) b.2.named_by))

-- What is read of words is what they spell, or tells the first bad word.
pub reading_is : (words : List (List ℕ)) → IsReadingOf words (reading_of words)
reading_is [] = (omega arith, begins_nothing, λ l. absurd (omega arith))
reading_is (w ∷ ws) = after_first w ws

-- ---- a word that is no text

-- Where a word that is no text stands behind them, the first bad word of a line is told.
pub cut_is : (words : List (List ℕ)) → IsReadingOf words (bad (first_bad words))
cut_is words = by (reading_of words) (reading_is words)
  where
    by : (reading : LineReading) → IsReadingOf words reading → IsReadingOf words (bad (bad_of (length words) reading))
    by (bad word) r = r
    by (says line) r =
        let all : words ++ [] ≡ words = append-nil words in
        let b : Begins words = ([], line, subst (λ x. IsForm x line) (sym all) r) in
        subst (λ x. IsReadingOf x (bad (length words))) all (bad_behind words [] (length words) refl b (λ w rest h. absurd (cc (h))))
