-- Words that spell a form are read as what they spell.
use Rattle.std.specs.Prelude.{◌≡◌, ◌⊎◌, ℕ, nat_le, length, List, [], ◌∷◌, ◌++◌, true, Option, Some, None, codes, refl}
use Rattle.std.proofs.Common.{◌≤◌, ◌+◌, arith, ap, sym, ◌∙◌, inl, inr, append_assoc}
use Rattle.std.proofs.lemmas.Bool.Decides.{nat_tests}
use Rattle.ns_run_words.proofs.PartLaws.{arguments_read, dashes_are_no_name, dashes_are_no_option, name_is_no_option, names_read, options_read}
use Rattle.ns_run_words.specs.Forms.{AreArguments, AreNames, IsForm, IsOneOf}
use Rattle.ns_run_words.specs.Options.{arguments_of}
use Rattle.ns_run_words.specs.Own.{least_of}
use Rattle.ns_run_words.specs.Table.{form_of, verb_of, words_of}
use Rattle.ns_run_words.specs.Words.{CommandLine, Options, Names, Arguments, after_verb, bad, says, nothing_given, option_or, part_or, read_from, reading_of, with_name, with_option}
use Rattle.ns_run_words.specs.declared.form.Verb.{Verb}
use Rattle.ns_run_words.specs.declared.form.Verb.TheVariants.{Check, Show, Format, Run, Eval, Build, Exec, Listing, Session, Sample, Actors, Audit, Test, Snap, Resume, Replay, Library, Help, Explain, Version}
use Rattle.ns_run_words.specs.declared.words.Given.{Given}

-- The first word of a form names its command.
pub first_names : (verb : Verb) (first : List ℕ) → IsOneOf first (words_of verb) → verb_of first ≡ Some verb
first_names Check first (inl e) = ap verb_of e
first_names Check first (inr none) = absurd none
first_names Show first (inl e) = ap verb_of e
first_names Show first (inr none) = absurd none
first_names Format first (inl e) = ap verb_of e
first_names Format first (inr none) = absurd none
first_names Run first (inl e) = ap verb_of e
first_names Run first (inr none) = absurd none
first_names Eval first (inl e) = ap verb_of e
first_names Eval first (inr none) = absurd none
first_names Build first (inl e) = ap verb_of e
first_names Build first (inr none) = absurd none
first_names Exec first (inl e) = ap verb_of e
first_names Exec first (inr none) = absurd none
first_names Listing first (inl e) = ap verb_of e
first_names Listing first (inr none) = absurd none
first_names Session first (inl e) = ap verb_of e
first_names Session first (inr none) = absurd none
first_names Sample first (inl e) = ap verb_of e
first_names Sample first (inr none) = absurd none
first_names Actors first (inl e) = ap verb_of e
first_names Actors first (inr none) = absurd none
first_names Audit first (inl e) = ap verb_of e
first_names Audit first (inr none) = absurd none
first_names Test first (inl e) = ap verb_of e
first_names Test first (inr none) = absurd none
first_names Snap first (inl e) = ap verb_of e
first_names Snap first (inr none) = absurd none
first_names Resume first (inl e) = ap verb_of e
first_names Resume first (inr none) = absurd none
first_names Replay first (inl e) = ap verb_of e
first_names Replay first (inr none) = absurd none
first_names Library first (inl e) = ap verb_of e
first_names Library first (inr none) = absurd none
first_names Help first (inl e) = ap verb_of e
first_names Help first (inr (inl e)) = ap verb_of e
first_names Help first (inr (inr none)) = absurd none
first_names Explain first (inl e) = ap verb_of e
first_names Explain first (inr none) = absurd none
first_names Version first (inl e) = ap verb_of e
first_names Version first (inr (inl e)) = ap verb_of e
first_names Version first (inr (inr none)) = absurd none

pub word_is_read : (verb : Verb) (first : List ℕ) (words : List (List ℕ)) → IsOneOf first (words_of verb) → reading_of (first ∷ words) ≡ read_from verb (Options nothing_given []) 1 words
word_is_read verb first words named = ap (after_verb words) (first_names verb first named)

-- Where no option follows, names follow.
pub behind_options : (verb : Verb) (given : Given) (options : List (List ℕ)) (w : List ℕ) (words : List (List ℕ)) (k : ℕ) → with_option (form_of verb) given w ≡ None
    → read_from verb (Options given options) k (w ∷ words) ≡ read_from verb (Names given options []) k (w ∷ words)
behind_options verb given options w words k h =
    ap (λ o. part_or (bad k) (λ part. read_from verb part (k + 1) words) (option_or (with_name (form_of verb) given options [] w) (options ++ w ∷ []) o)) h

-- What stands behind the names is nothing, or `--` and arguments of which the form takes so many.
abbrev pub IsLast : Option ℕ → List (List ℕ) → List (List ℕ) → Type 0
IsLast most last arguments =
    ((last ≡ []) × (arguments ≡ [])) ⊎ ((m : ℕ) × (most ≡ Some m) × (last ≡ codes "--" ∷ arguments) × (length arguments ≤ m))

pub is_last : (most : Option ℕ) (last arguments : List (List ℕ)) → AreArguments most last arguments → IsLast most last arguments
is_last None last arguments a = inl a
is_last (Some m) last arguments (inl a) = inl a
is_last (Some m) last arguments (inr a) = inr (m, refl, a.0, a.1)

pub last_read : (verb : Verb) (given : Given) (options names last arguments : List (List ℕ)) (k : ℕ) → least_of (form_of verb) given ≤ length names → IsLast (arguments_of (form_of verb) given) last arguments
    → read_from verb (Names given options names) k last ≡ says (record { verb = verb; given = given; options = options; names = names; arguments = arguments })
last_read verb given options names last arguments k e (inl (l, a)) =
    let enough : nat_le (least_of (form_of verb) given) (length names) ≡ true = grind (arith, nat_tests) in
    rw (l, a, enough) refl
last_read verb given options names last arguments k e (inr (m, s, l, few)) =
    let enough : nat_le (least_of (form_of verb) given) (length names) ≡ true = grind (arith, nat_tests) in
    ap (read_from verb (Names given options names) k) l
    ∙ dashes enough
    ∙ arguments_read verb given options names [] arguments (k + 1) m s e (omega (arith, few))
  where
    dashes : nat_le (least_of (form_of verb) given) (length names) ≡ true → read_from verb (Names given options names) k (codes "--" ∷ arguments) ≡ read_from verb (Arguments given options names []) (k + 1) arguments
    dashes enough = rw (dashes_are_no_name verb given m (length names) s, enough, s) refl

pub names_behind_options : (verb : Verb) (given : Given) (options names last arguments : List (List ℕ)) (k : ℕ) → AreNames (form_of verb) 0 names → IsLast (arguments_of (form_of verb) given) last arguments
    → read_from verb (Options given options) k (names ++ last) ≡ read_from verb (Names given options []) k (names ++ last)
names_behind_options verb given options [] last arguments k a (inl (l, s)) =
    ap (read_from verb (Options given options) k) l ∙ sym (ap (read_from verb (Names given options []) k) l)
names_behind_options verb given options [] last arguments k a (inr (m, s, l, few)) =
    ap (read_from verb (Options given options) k) l
    ∙ behind_options verb given options (codes "--") arguments k (dashes_are_no_option (form_of verb) given)
    ∙ sym (ap (read_from verb (Names given options []) k) l)
names_behind_options verb given options (w ∷ ws) last arguments k a s =
    behind_options verb given options w (ws ++ last) k (name_is_no_option verb given w a.0)

-- The words of a form are read as what they spell.
pub form_is_read : (words : List (List ℕ)) (line : CommandLine) → IsForm words line → reading_of words ≡ says line
form_is_read words line f =
    let most : Option ℕ = arguments_of (form_of line.verb) line.given in
    let last : IsLast most f.last line.arguments = is_last most f.last line.arguments f.ends in
    let k : ℕ = 1 + length line.options in
    ap reading_of f.spelled
    ∙ word_is_read line.verb f.first (line.options ++ line.names ++ f.last) f.named_by
    ∙ ap (read_from line.verb (Options nothing_given []) 1) (append_assoc line.options line.names f.last)
    ∙ options_read line.verb nothing_given line.given [] line.options (line.names ++ f.last) 1 f.given
    ∙ names_behind_options line.verb line.given line.options line.names f.last line.arguments k f.named last
    ∙ names_read line.verb line.given line.options [] line.names f.last k f.needed f.named (omega (arith, f.few))
    ∙ last_read line.verb line.given line.options line.names f.last line.arguments (k + length line.names) f.enough last
