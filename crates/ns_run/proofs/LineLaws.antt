-- What the lines of forms say.
use Rattle.std.proofs.Common.{◌≡◌, ◌≤◌, ◌+◌, ◌-◌, ℕ, ℤ, Bool, true, false, cond, List, [], ◌∷◌, Option, Some, None, ap, arith, drop, get_or, length, refl, sym, subst, take, take_all, ◌∙◌}
use Rattle.std.proofs.lemmas.Bool.Decides.{nat_tests}
use Rattle.std.specs.Option.{is_some}
use Rattle.std.specs.Prelude.{IsSome}
use Rattle.ns_run.specs.Letter.{HasLetter}
use Rattle.ns_run.specs.Meaning.{behind_first, behind_letter, first_of, sources_of}
use Rattle.ns_run_words.specs.Application.{AreApplications}
use Rattle.ns_run_words.specs.Forms.{AreFiles, AreItems, AreNames, IsSpelledLine}
use Rattle.ns_run_words.specs.Letter.{PostedLetter, letter_to}
use Rattle.ns_run_words.specs.Own.{image_among, least_of, most_of}
use Rattle.ns_run_words.specs.Table.{form_of, item_at}
use Rattle.ns_run_words.specs.Words.{CommandLine, integer_of, is_item, number_of, takes_one}
use Rattle.ns_run_words.specs.declared.form.Item.TheVariants.{File, Application}
use Rattle.ns_run_words.specs.declared.form.Form.{Form}
use Rattle.ns_run_words.specs.declared.form.Item.{Item}
use Rattle.ns_run_words.specs.declared.form.Verb.{Verb}
use Rattle.ns_run_words.specs.declared.words.Given.{Given}
use Rattle.ns_run_words.specs.laws.Image.{image_is_given}
use Rattle.ns_run_words.specs.declared.form.Verb.TheVariants.{Check, Show, Format, Run, Eval, Build, Exec, Listing, Session, Sample, Actors, Audit, Test, Snap, Resume, Replay, Library, Help, Explain, Version}

-- The command works on files.
abbrev pub TakesFiles : Verb → Type 0
TakesFiles Check = Unit {0}
TakesFiles Show = Unit {0}
TakesFiles Format = Unit {0}
TakesFiles Run = Unit {0}
TakesFiles Eval = ⊥
TakesFiles Build = ⊥
TakesFiles Exec = Unit {0}
TakesFiles Listing = Unit {0}
TakesFiles Session = ⊥
TakesFiles Sample = ⊥
TakesFiles Actors = ⊥
TakesFiles Audit = ⊥
TakesFiles Test = Unit {0}
TakesFiles Snap = ⊥
TakesFiles Resume = Unit {0}
TakesFiles Replay = ⊥
TakesFiles Library = ⊥
TakesFiles Help = ⊥
TakesFiles Explain = ⊥
TakesFiles Version = ⊥

-- Names of a form that are all of one kind.
all_of : (form : Form) (item : Item) (count : ℕ) (names : List (List ℕ)) → ((count : ℕ) → item_at form count ≡ item) → AreNames form count names → AreItems item names
all_of form item count [] e a = tt
all_of form item count (name ∷ names) e a =
    (subst (λ (i : Item). is_item i name ≡ true) (e count) a.0, all_of form item (count + 1) names e a.1)

-- Its form takes 1 to 16 names, and each is that of a file.
abbrev pub NamesFiles : Given → Verb → Type 0
NamesFiles given verb =
    (1 ≤ least_of (form_of verb) given) × (most_of (form_of verb) given ≤ 16) × ((count : ℕ) → item_at (form_of verb) count ≡ File)

pub within : (given : Given) (verb : Verb) → TakesFiles verb → NamesFiles given verb
within given Check t = (omega arith, omega arith, λ count. refl)
within given Show t = (omega arith, omega arith, λ count. refl)
within given Format t = (omega arith, omega arith, λ count. refl)
within given Run t = (omega arith, omega arith, λ count. refl)
within given Eval t = absurd t
within given Build t = absurd t
within given Exec t = (omega arith, omega arith, λ count. refl)
within given Listing t = (omega arith, omega arith, λ count. refl)
within given Session t = absurd t
within given Sample t = absurd t
within given Actors t = absurd t
within given Audit t = absurd t
within given Test t = (omega arith, omega arith, λ count. refl)
within given Snap t = absurd t
within given Resume t = (omega arith, omega arith, λ count. refl)
within given Replay t = absurd t
within given Library t = absurd t
within given Help t = absurd t
within given Explain t = absurd t
within given Version t = absurd t

-- The names of such a command are 1 to 16 files.
pub are_files : (verb : Verb) (line : CommandLine) → line.verb ≡ verb → TakesFiles verb → IsSpelledLine line → AreFiles line.names
are_files verb line e t (words, f) =
    let w : NamesFiles line.given line.verb = subst (NamesFiles line.given) (sym e) (within line.given verb t) in
    (omega (arith, w.0, f.enough), omega (arith, w.1, f.few), all_of (form_of line.verb) File 0 line.names w.2 f.named)

-- The names of a session are at most 16 applications.
pub are_applications : (line : CommandLine) → line.verb ≡ Session → IsSpelledLine line → AreApplications line.names
are_applications line e (words, f) =
    all line.names (all_of (form_of Session) Application 0 line.names (λ count. refl) (subst (λ verb. AreNames (form_of verb) 0 line.names) e f.named))
  where
    all : (names : List (List ℕ)) → AreItems Application names → AreApplications names
    all [] a = tt
    all (name ∷ names) a = (a.0, all names a.1)

pub few_applications : (line : CommandLine) → line.verb ≡ Session → IsSpelledLine line → length line.names ≤ 16
few_applications line e (words, f) = subst (λ verb. length line.names ≤ most_of (form_of verb) line.given) e f.few

-- The names of a line are as many as its form takes.
pub sized : (verb : Verb) (line : CommandLine) → line.verb ≡ verb → IsSpelledLine line →
    (least_of (form_of verb) line.given ≤ length line.names) × (length line.names ≤ most_of (form_of verb) line.given)
sized verb line e (words, f) = (
  subst (λ v. least_of (form_of v) line.given ≤ length line.names) e f.enough,
  subst (λ v. length line.names ≤ most_of (form_of v) line.given) e f.few,
)

-- The sources of a program that is built are 1 to 16 files: all names where an option names the image, all but the first where none does.
pub are_sources : (line : CommandLine) → line.verb ≡ Build → IsSpelledLine line → AreFiles (sources_of (image_among line.options) line.names)
are_sources line e (words, f) =
    let s = sized Build line e (words, f) in
    sources (image_among line.options) line.given.to line.names (image_is_given line e (words, f)) s.0 s.1 (all_of (form_of Build) File 0 line.names (λ count. refl) (subst (λ v. AreNames (form_of v) 0 line.names) e f.named))
  where
    sources : (image : Option (List ℕ)) (to : Bool) (names : List (List ℕ)) → to ≡ is_some image → cond to (2 - 1) 2 ≤ length names → length names ≤ cond to (17 - 1) 17 → AreItems File names →
        AreFiles (sources_of image names)
    sources None true names t l m a = absurd (cc (t))
    sources None false [] t l m a = absurd (omega (arith, l))
    sources None false (name ∷ names) t l m a = (omega (arith, l), omega (arith, m), a.1)
    sources (Some image) true names t l m a = (omega (arith, l), omega (arith, m), a)
    sources (Some image) false names t l m a = absurd (cc (t))

-- The program whose run is paused has 1 to 16 files: all names but the first.
pub are_behind : (line : CommandLine) → line.verb ≡ Snap → IsSpelledLine line → AreFiles (behind_first line.names)
are_behind line e (words, f) =
    let s = sized Snap line e (words, f) in
    behind line.names s.0 s.1 (all_of (form_of Snap) File 0 line.names (λ count. refl) (subst (λ v. AreNames (form_of v) 0 line.names) e f.named))
  where
    behind : (names : List (List ℕ)) → 2 ≤ length names → length names ≤ 17 → AreItems File names → AreFiles (behind_first names)
    behind [] l m a = absurd (omega (arith, l))
    behind (name ∷ names) l m a = (omega (arith, l), omega (arith, m), a.1)

-- The program that is replayed is that of one file, the first name.
pub is_replayed : (line : CommandLine) → line.verb ≡ Replay → IsSpelledLine line → AreFiles (first_of line.names)
is_replayed line e (words, f) =
    let s = sized Replay line e (words, f) in first line.names s.0 (subst (λ v. AreNames (form_of v) 0 line.names) e f.named)
  where
    first : (names : List (List ℕ)) → 2 ≤ length names → AreNames (form_of Replay) 0 names → AreFiles (first_of names)
    first [] l a = absurd (omega (arith, l))
    first (name ∷ names) l a = (omega arith, omega arith, (a.0, tt))

-- The program of actors has 1 to 16 files: all names but the three of the letter.
pub are_behind_letter : (line : CommandLine) → line.verb ≡ Actors → IsSpelledLine line → AreFiles (behind_letter line.names)
are_behind_letter line e (words, f) =
    let s = sized Actors line e (words, f) in behind line.names s.0 s.1 (subst (λ v. AreNames (form_of v) 0 line.names) e f.named)
  where
    -- those behind the third are files
    files : (count : ℕ) (names : List (List ℕ)) → 3 ≤ count → AreNames (form_of Actors) count names → AreItems File names
    files count [] l a = tt
    files count (name ∷ names) l a =
        (subst (λ (item : Item). is_item item name ≡ true) (a_file count l) a.0, files (count + 1) names (omega (arith, l)) a.1)
      where
        a_file : (count : ℕ) → 3 ≤ count → item_at (form_of Actors) count ≡ File
        a_file count l = grind (arith, nat_tests)

    behind : (names : List (List ℕ)) → 4 ≤ length names → length names ≤ 19 → AreNames (form_of Actors) 0 names → AreFiles (behind_letter names)
    behind [] l m a = absurd (omega (arith, l))
    behind (count ∷ []) l m a = absurd (omega (arith, l))
    behind (count ∷ sel ∷ []) l m a = absurd (omega (arith, l))
    behind (count ∷ sel ∷ argument ∷ names) l m a = (omega (arith, l), omega (arith, m), files 3 names (omega arith) (a.1.1.1))

-- The first three are a letter.
pub has_letter : (line : CommandLine) → line.verb ≡ Actors → IsSpelledLine line → HasLetter line.names
has_letter line e (words, f) =
    let s = sized Actors line e (words, f) in begins line.names s.0 (subst (λ v. AreNames (form_of v) 0 line.names) e f.named)
  where
    is_there : (count : Option ℕ) (sel : List ℕ) (argument : Option ℤ) → is_some count ≡ true → takes_one sel ≡ true → is_some argument ≡ true
        → IsSome (letter_to count sel argument)
    is_there None sel argument c t a = absurd (cc (c))
    is_there (Some count) sel None c t a = absurd (cc (a))
    is_there (Some count) sel (Some number) c t a =
        let letter : PostedLetter = record { count = count; sel = sel; number = number } in
        subst (λ (b : Bool). IsSome (cond b (Some letter) None)) (sym t) refl

    begins : (names : List (List ℕ)) → 4 ≤ length names → AreNames (form_of Actors) 0 names → HasLetter names
    begins [] l a = absurd (omega (arith, l))
    begins (count ∷ []) l a = absurd (omega (arith, l))
    begins (count ∷ sel ∷ []) l a = absurd (omega (arith, l))
    begins (count ∷ sel ∷ argument ∷ names) l a = is_there (number_of 16 count) sel (integer_of argument) a.0 a.1.0 (a.1.1.0)

-- A letter is three names.
pub three_names : (names : List (List ℕ)) → HasLetter names → 3 ≤ length names
three_names [] h = absurd h
three_names (count ∷ []) h = absurd h
three_names (count ∷ sel ∷ []) h = absurd h
three_names (count ∷ sel ∷ argument ∷ names) h = omega arith

-- Names that begin with these three are these three and the others.
pub begins_with_three : {A : Type 0} (names : List A) (count sel argument : A) → 3 ≤ length names → count ≡ get_or names 0 count
    → sel ≡ get_or names 1 sel → argument ≡ get_or names 2 argument → count ∷ sel ∷ argument ∷ take (length names - 3) (drop 3 names) ≡ names
begins_with_three [] count sel argument l c s a = absurd (omega (arith, l))
begins_with_three (x ∷ []) count sel argument l c s a = absurd (omega (arith, l))
begins_with_three (x ∷ y ∷ []) count sel argument l c s a = absurd (omega (arith, l))
begins_with_three (x ∷ y ∷ z ∷ names) count sel argument l c s a =
    ap (λ others. count ∷ sel ∷ argument ∷ others) (take_all (length (x ∷ y ∷ z ∷ names) - 3) names (omega arith))
    ∙ (ap (λ first. first ∷ sel ∷ argument ∷ names) c ∙ (ap (λ second. x ∷ second ∷ argument ∷ names) s ∙ ap (λ third. x ∷ y ∷ third ∷ names) a))
