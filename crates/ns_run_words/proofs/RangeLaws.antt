-- The limits that options give are in their ranges.
use Rattle.std.specs.Prelude.{◌≡◌, ℕ, ◌+◌, ◌&&◌, nat_le, nat_lt, List, [], ◌∷◌, Bool, true, false, Option, Some, None, cond, codes, drop, length, option_and_then, refl, take}
use Rattle.std.proofs.Common.{◌≤◌, arith, subst}
use Rattle.std.proofs.lemmas.Bool.Decides.{nat_tests}
use Rattle.std.specs.Option.{option_or as or_else, unwrap_or}
use Rattle.std.specs.Str.{bytes_eq}
use Rattle.ns_base.specs.Limits.{InRange, IsFrom1To}
use Rattle.ns_base.specs.declared.limits.Limits.{Limits}
use Rattle.ns_run_words.specs.Forms.{IsForm, all_given}
use Rattle.ns_base.specs.Spelling.{is_identifier, is_selector}
use Rattle.ns_run_words.specs.Options.{denial_where, run_where, tests_where, value_behind, with_denied, with_only, with_reverse, with_stats, with_text, with_trace, with_truth}
use Rattle.ns_run_words.specs.Own.{check_where, json_where, listing_where, own_option, to_where, with_all, with_json, with_members, with_sends, with_to}
use Rattle.ns_run_words.specs.FileName.{is_file_name}
use Rattle.ns_run_words.specs.Table.{form_of}
use Rattle.ns_run_words.specs.Words.{CommandLine, at_given, at_where, begins_bad, in_range, limits_of, nothing_given, number_given, number_of, value_from, given_or, limit_where, quantum_of, quantum_where, with_at, with_cells, with_depth, with_lib, with_limit, with_option, with_out, with_quantum, with_steps}
use Rattle.ns_run_words.specs.declared.form.Form.{Form}
use Rattle.ns_run_words.specs.declared.form.Verb.{Verb}
use Rattle.ns_run_words.specs.declared.form.Verb.TheVariants.{Check, Show, Format, Run, Eval, Build, Exec, Listing, Session, Sample, Actors, Audit, Test, Snap, Resume, Replay, Library, Help, Explain, Version}
use Rattle.ns_run_words.specs.declared.words.Given.{Given}

-- The number, where there is one, is from 1 to the greatest.
abbrev pub IsWithin : ℕ → Option ℕ → Type 0
IsWithin greatest None = Unit {0}
IsWithin greatest (Some n) = (1 ≤ n) × (n ≤ greatest)

-- The numbers that are given are within their ranges.
pub record AreWithin (given : Given) : Type 0 where
  pub steps : IsWithin 1000000000000 given.steps
  pub cells : IsWithin 64000000 given.cells
  pub depth : IsWithin 100000 given.depth
  pub out : IsWithin 16777216 given.out
  pub quantum : IsWithin 1000000 given.quantum

abbrev pub IsFine : Option Given → Type 0
IsFine None = Unit {0}
IsFine (Some given) = AreWithin given

pub range_within : (greatest : ℕ) (value : Option ℕ) → IsWithin greatest (option_and_then (in_range greatest) value)
range_within greatest None = tt
range_within greatest (Some n) =
    elim (nat_le 1 n) as (λ p. nat_le 1 n ≡ p → IsWithin greatest (cond (p && nat_le n greatest) (Some n) None)) [
      | false ↦ λ e. tt
      | true ↦ λ e. elim (nat_le n greatest) as (λ q. nat_le n greatest ≡ q → IsWithin greatest (cond q (Some n) None)) [
        | false ↦ λ f. tt
        | true ↦ λ f. (grind (arith, nat_tests, e), grind (arith, nat_tests, f))
      ] refl
    ] refl

pub number_within : (greatest : ℕ) (text : List ℕ) → IsWithin greatest (number_of greatest text)
number_within greatest text =
    elim (begins_bad text) as (λ q. IsWithin greatest (cond q None (option_and_then (in_range greatest) (value_from 0 text)))) [
      | true ↦ tt
      | false ↦ range_within greatest (value_from 0 text)
    ]

pub given_within : (name : List ℕ) (greatest : ℕ) (before : Option ℕ) (word : List ℕ) → IsWithin greatest (number_given name greatest before word)
given_within name greatest (Some n) word = tt
given_within name greatest None word =
    elim (bytes_eq (take (length name) word) name) as (λ q. IsWithin greatest (cond q (number_of greatest (drop (length name) word)) None)) [
      | true ↦ number_within greatest (drop (length name) word)
      | false ↦ tt
    ]

pub out_within : (given : Given) (n : Option ℕ) → AreWithin given → IsWithin 16777216 n → IsFine (with_out given n)
out_within given None a w = tt
out_within given (Some n) a w = record { steps = a.steps; cells = a.cells; depth = a.depth; out = w; quantum = a.quantum }

pub depth_within : (given : Given) (n : Option ℕ) (other : Option Given) → AreWithin given → IsWithin 100000 n → IsFine other → IsFine (with_depth given n other)
depth_within given None other a w o = o
depth_within given (Some n) other a w o = record { steps = a.steps; cells = a.cells; depth = w; out = a.out; quantum = a.quantum }

pub cells_within : (given : Given) (n : Option ℕ) (other : Option Given) → AreWithin given → IsWithin 64000000 n → IsFine other → IsFine (with_cells given n other)
cells_within given None other a w o = o
cells_within given (Some n) other a w o = record { steps = a.steps; cells = w; depth = a.depth; out = a.out; quantum = a.quantum }

pub steps_within : (given : Given) (n : Option ℕ) (other : Option Given) → AreWithin given → IsWithin 1000000000000 n → IsFine other → IsFine (with_steps given n other)
steps_within given None other a w o = o
steps_within given (Some n) other a w o = record { steps = w; cells = a.cells; depth = a.depth; out = a.out; quantum = a.quantum }

-- The greatest limits are no greater than those of a run.
abbrev pub IsSmall : Option Limits → Type 0
IsSmall None = Unit {0}
IsSmall (Some greatest) = InRange greatest

pub fewer : (greatest most : ℕ) (n : Option ℕ) → greatest ≤ most → IsWithin greatest n → IsWithin most n
fewer greatest most None l w = tt
fewer greatest most (Some n) l w = (w.0, omega (arith, l, w.1))

pub limit_within : (greatest : Limits) (given : Given) (word : List ℕ) → InRange greatest → AreWithin given → IsFine (with_limit greatest given word)
limit_within greatest given word (s, c, d, o) a =
    steps_within given _ _ a (fewer greatest.steps _ _ s.1 (given_within (codes "--steps=") greatest.steps given.steps word))
    (cells_within given _ _ a (fewer greatest.cells _ _ c.1 (given_within (codes "--cells=") greatest.cells given.cells word))
    (depth_within given _ _ a (fewer greatest.depth _ _ d.1 (given_within (codes "--depth=") greatest.depth given.depth word))
    (out_within given _ a (fewer greatest.out _ _ o.1 (given_within (codes "--out=") greatest.out given.out word)))))

pub where_within : (greatest : Option Limits) (given : Given) (word : List ℕ) → IsSmall greatest → AreWithin given → IsFine (limit_where greatest given word)
where_within None given word s a = tt
where_within (Some greatest) given word s a = limit_within greatest given word s a

pub quantum_within : (takes : Bool) (given : Given) (word : List ℕ) → AreWithin given → IsFine (quantum_where takes given word)
quantum_within false given word a = tt
quantum_within true given word a = within (number_given (codes "--quantum=") 1000000 given.quantum word) (given_within (codes "--quantum=") 1000000 given.quantum word)
  where
    within : (n : Option ℕ) → IsWithin 1000000 n → IsFine (with_quantum given n)
    within None w = tt
    within (Some n) w = record { steps = a.steps; cells = a.cells; depth = a.depth; out = a.out; quantum = w }

pub one_within : (one other : Option Given) → IsFine one → IsFine other → IsFine (given_or one other)
one_within None other f g = g
one_within (Some given) other f g = f

pub lib_within : (given : Given) → AreWithin given → IsFine (with_lib given)
lib_within given a =
    elim given.lib as (λ q. IsFine (cond q None (Some (record given { lib = true })))) [
      | true ↦ tt
      | false ↦ record { steps = a.steps; cells = a.cells; depth = a.depth; out = a.out; quantum = a.quantum }
    ]

-- Options of tests and denials give no numbers of these.
pub reverse_within : (given : Given) → AreWithin given → IsFine (with_reverse given)
reverse_within given a =
    elim given.reverse as (λ q. IsFine (cond q None (Some (record given { reverse = true })))) [
      | true ↦ tt
      | false ↦ record { steps = a.steps; cells = a.cells; depth = a.depth; out = a.out; quantum = a.quantum }
    ]

pub only_within : (given : Given) (name : Option (List ℕ)) → AreWithin given → IsFine (with_only given name)
only_within given None a = tt
only_within given (Some name) a =
    elim given.only as (λ q. IsFine (cond q None (cond (is_identifier name) (Some (record given { only = true })) None))) [
      | true ↦ tt
      | false ↦ elim (is_identifier name) as (λ q. IsFine (cond q (Some (record given { only = true })) None)) [
        | true ↦ record { steps = a.steps; cells = a.cells; depth = a.depth; out = a.out; quantum = a.quantum }
        | false ↦ tt
      ]
    ]

pub tests_within : (takes : Bool) (given : Given) (word : List ℕ) → AreWithin given → IsFine (tests_where takes given word)
tests_within false given word a = tt
tests_within true given word a =
    elim (bytes_eq word (codes "--reverse")) as (λ q. IsFine (cond q (with_reverse given) (with_only given (value_behind (codes "--only=") word)))) [
      | true ↦ reverse_within given a
      | false ↦ only_within given (value_behind (codes "--only=") word) a
    ]

pub denied_within : (given : Given) (text : Option (List ℕ)) → AreWithin given → IsFine (with_denied given text)
denied_within given None a = tt
denied_within given (Some text) a =
    elim (is_selector text) as (λ q. IsFine (cond q (cond (nat_lt given.denied 16) (Some (record given { denied = given.denied + 1 })) None) None)) [
      | false ↦ tt
      | true ↦ elim (nat_lt given.denied 16) as (λ q. IsFine (cond q (Some (record given { denied = given.denied + 1 })) None)) [
        | true ↦ record { steps = a.steps; cells = a.cells; depth = a.depth; out = a.out; quantum = a.quantum }
        | false ↦ tt
      ]
    ]

pub denial_within : (takes : Bool) (given : Given) (word : List ℕ) → AreWithin given → IsFine (denial_where takes given word)
denial_within false given word a = tt
denial_within true given word a = denied_within given (value_behind (codes "--deny=") word) a

pub text_within : (given : Given) (name : Option (List ℕ)) → AreWithin given → IsFine (with_text given name)
text_within given None a = tt
text_within given (Some name) a =
    elim (is_file_name name) as (λ q. IsFine (cond q (cond (nat_lt given.texts 255) (Some (record given { texts = given.texts + 1 })) None) None)) [
      | false ↦ tt
      | true ↦ elim (nat_lt given.texts 255) as (λ q. IsFine (cond q (Some (record given { texts = given.texts + 1 })) None)) [
        | true ↦ record { steps = a.steps; cells = a.cells; depth = a.depth; out = a.out; quantum = a.quantum }
        | false ↦ tt
      ]
    ]

pub run_within : (takes : Bool) (given : Given) (word : List ℕ) → AreWithin given → IsFine (run_where takes given word)
run_within false given word a = tt
run_within true given word a =
    elim (bytes_eq word (codes "--stats")) as (λ q. IsFine (cond q (with_stats given) (cond (bytes_eq word (codes "--trace")) (with_trace given) (cond (bytes_eq word (codes "--true")) (with_truth given) (with_text given (value_behind (codes "--text=") word)))))) [
      | true ↦ elim given.stats as (λ q. IsFine (cond q None (Some (record given { stats = true })))) [
        | true ↦ tt
        | false ↦ record { steps = a.steps; cells = a.cells; depth = a.depth; out = a.out; quantum = a.quantum }
      ]
      | false ↦ elim (bytes_eq word (codes "--trace")) as (λ q. IsFine (cond q (with_trace given) (cond (bytes_eq word (codes "--true")) (with_truth given) (with_text given (value_behind (codes "--text=") word))))) [
        | true ↦ elim given.trace as (λ q. IsFine (cond q None (Some (record given { trace = true })))) [
          | true ↦ tt
          | false ↦ record { steps = a.steps; cells = a.cells; depth = a.depth; out = a.out; quantum = a.quantum }
        ]
        | false ↦ elim (bytes_eq word (codes "--true")) as (λ q. IsFine (cond q (with_truth given) (with_text given (value_behind (codes "--text=") word)))) [
          | true ↦ elim given.truth as (λ q. IsFine (cond q None (Some (record given { truth = true })))) [
            | true ↦ tt
            | false ↦ record { steps = a.steps; cells = a.cells; depth = a.depth; out = a.out; quantum = a.quantum }
          ]
          | false ↦ text_within given (value_behind (codes "--text=") word) a
        ]
      ]
    ]

pub check_within : (takes : Bool) (given : Given) (word : List ℕ) → AreWithin given → IsFine (check_where takes given word)
check_within false given word a = tt
check_within true given word a =
    elim (bytes_eq word (codes "--all")) as (λ q. IsFine (cond q (with_all given) (cond (bytes_eq word (codes "--sends")) (with_sends given) None))) [
      | true ↦ elim given.all as (λ q. IsFine (cond q None (Some (record given { all = true })))) [
        | true ↦ tt
        | false ↦ record { steps = a.steps; cells = a.cells; depth = a.depth; out = a.out; quantum = a.quantum }
      ]
      | false ↦ elim (bytes_eq word (codes "--sends")) as (λ q. IsFine (cond q (with_sends given) None)) [
        | true ↦ elim given.sends as (λ q. IsFine (cond q None (Some (record given { sends = true })))) [
          | true ↦ tt
          | false ↦ record { steps = a.steps; cells = a.cells; depth = a.depth; out = a.out; quantum = a.quantum }
        ]
        | false ↦ tt
      ]
    ]

pub listing_within : (takes : Bool) (given : Given) (word : List ℕ) → AreWithin given → IsFine (listing_where takes given word)
listing_within false given word a = tt
listing_within true given word a =
    elim (bytes_eq word (codes "--members")) as (λ q. IsFine (cond q (with_members given) None)) [
      | true ↦ elim given.members as (λ q. IsFine (cond q None (Some (record given { members = true })))) [
        | true ↦ tt
        | false ↦ record { steps = a.steps; cells = a.cells; depth = a.depth; out = a.out; quantum = a.quantum }
      ]
      | false ↦ tt
    ]

pub image_within : (given : Given) (name : Option (List ℕ)) → AreWithin given → IsFine (with_to given name)
image_within given None a = tt
image_within given (Some name) a =
    elim given.to as (λ q. IsFine (cond q None (cond (is_file_name name) (Some (record given { to = true })) None))) [
      | true ↦ tt
      | false ↦ elim (is_file_name name) as (λ q. IsFine (cond q (Some (record given { to = true })) None)) [
        | true ↦ record { steps = a.steps; cells = a.cells; depth = a.depth; out = a.out; quantum = a.quantum }
        | false ↦ tt
      ]
    ]

pub to_within : (takes : Bool) (given : Given) (word : List ℕ) → AreWithin given → IsFine (to_where takes given word)
to_within false given word a = tt
to_within true given word a = image_within given (value_behind (codes "--to=") word) a

pub json_within : (takes : Bool) (given : Given) (word : List ℕ) → AreWithin given → IsFine (json_where takes given word)
json_within false given word a = tt
json_within true given word a =
    elim (bytes_eq word (codes "--json")) as (λ q. IsFine (cond q (with_json given) None)) [
      | true ↦ elim given.json as (λ q. IsFine (cond q None (Some (record given { json = true })))) [
        | true ↦ tt
        | false ↦ record { steps = a.steps; cells = a.cells; depth = a.depth; out = a.out; quantum = a.quantum }
      ]
      | false ↦ tt
    ]

pub either_within : (one other : Option Given) → IsFine one → IsFine other → IsFine (or_else one other)
either_within None other f g = g
either_within (Some given) other f g = f

pub own_within : (form : Form) (given : Given) (word : List ℕ) → AreWithin given → IsFine (own_option form given word)
own_within form given word a =
    either_within _ _ (check_within form.checks given word a)
    (either_within _ _ (listing_within form.members given word a)
    (either_within _ _ (to_within form.to given word a) (json_within form.json given word a)))

pub pause_within : (takes : Bool) (given : Given) (word : List ℕ) → AreWithin given → IsFine (at_where takes given word)
pause_within false given word a = tt
pause_within true given word a = within (at_given given.at word)
  where
    within : (at : Option ℕ) → IsFine (with_at given at)
    within None = tt
    within (Some n) = record { steps = a.steps; cells = a.cells; depth = a.depth; out = a.out; quantum = a.quantum }

pub option_within : (form : Form) (given : Given) (word : List ℕ) → IsSmall form.greatest → AreWithin given → IsFine (with_option form given word)
option_within form given word s a =
    elim (bytes_eq word (codes "--lib")) as (λ q. IsFine (cond q (cond form.lib (with_lib given) None)
    (given_or (quantum_where form.quantum given word)
    (given_or (tests_where form.tests given word)
    (given_or (denial_where form.denies given word)
    (given_or (run_where form.runs given word)
    (given_or (own_option form given word)
    (given_or (at_where form.at given word) (limit_where form.greatest given word))))))))) [
      | true ↦ elim form.lib as (λ q. IsFine (cond q (with_lib given) None)) [
        | true ↦ lib_within given a
        | false ↦ tt
      ]
      | false ↦
          one_within _ _ (quantum_within form.quantum given word a)
          (one_within _ _ (tests_within form.tests given word a)
          (one_within _ _ (denial_within form.denies given word a)
          (one_within _ _ (run_within form.runs given word a)
          (one_within _ _ (own_within form given word a)
          (one_within _ _ (pause_within form.at given word a) (where_within form.greatest given word s a))))))
    ]

pub all_within : (form : Form) (given last : Given) (options : List (List ℕ)) → IsSmall form.greatest → AreWithin given → all_given form given options ≡ Some last → AreWithin last
all_within form given last [] s a h = let e : given ≡ last = cc (h) in subst AreWithin e a
all_within form given last (w ∷ ws) s a h =
    elim (with_option form given w) as (λ o. IsFine o → option_and_then (λ g. all_given form g ws) o ≡ Some last → AreWithin last) [
      | None ↦ λ f k. absurd (cc (k))
      | Some next ↦ λ f k. all_within form next last ws s f k
    ] (option_within form given w s a) h

pub nothing_within : AreWithin nothing_given
nothing_within = record { steps = tt; cells = tt; depth = tt; out = tt; quantum = tt }

-- The greatest limits of each form are such.
pub forms_small : (verb : Verb) → IsSmall (form_of verb).greatest
forms_small Check = tt
forms_small Show = tt
forms_small Format = tt
forms_small Run = ((omega arith, omega arith), (omega arith, omega arith), (omega arith, omega arith), (omega arith, omega arith))
forms_small Eval = ((omega arith, omega arith), (omega arith, omega arith), (omega arith, omega arith), (omega arith, omega arith))
forms_small Build = tt
forms_small Exec = ((omega arith, omega arith), (omega arith, omega arith), (omega arith, omega arith), (omega arith, omega arith))
forms_small Listing = tt
forms_small Session = ((omega arith, omega arith), (omega arith, omega arith), (omega arith, omega arith), (omega arith, omega arith))
forms_small Sample = tt
forms_small Actors = ((omega arith, omega arith), (omega arith, omega arith), (omega arith, omega arith), (omega arith, omega arith))
forms_small Audit = tt
forms_small Test = ((omega arith, omega arith), (omega arith, omega arith), (omega arith, omega arith), (omega arith, omega arith))
forms_small Snap = ((omega arith, omega arith), (omega arith, omega arith), (omega arith, omega arith), (omega arith, omega arith))
forms_small Resume = tt
forms_small Replay = ((omega arith, omega arith), (omega arith, omega arith), (omega arith, omega arith), (omega arith, omega arith))
forms_small Library = tt
forms_small Help = tt
forms_small Explain = tt
forms_small Version = tt

-- What the options of a form give is within its ranges.
pub form_within : (words : List (List ℕ)) (line : CommandLine) → IsForm words line → AreWithin line.given
form_within words line f = all_within (form_of line.verb) nothing_given line.given line.options (forms_small line.verb) nothing_within f.given

-- The steps of a turn are some.
pub form_turns : (words : List (List ℕ)) (line : CommandLine) → IsForm words line → 1 ≤ quantum_of line.given
form_turns words line f = some line.given.quantum (form_within words line f).quantum
  where
    some : (n : Option ℕ) → IsWithin 1000000 n → 1 ≤ unwrap_or n 1000
    some None w = omega arith
    some (Some n) w = w.0

-- The limits of a form are in their ranges.
pub form_in_range : (words : List (List ℕ)) (line : CommandLine) → IsForm words line → InRange (limits_of line.given)
form_in_range words line f = ranges line.given (form_within words line f)
  where
    within : (greatest other : ℕ) (n : Option ℕ) → IsWithin greatest n → 1 ≤ other → other ≤ greatest → IsFrom1To (unwrap_or n other) greatest
    within greatest other None w l m = (l, m)
    within greatest other (Some n) w l m = w

    ranges : (given : Given) → AreWithin given → InRange (limits_of given)
    ranges given a = (
      within 1000000000000 10000000 given.steps a.steps (omega arith) (omega arith),
      within 64000000 4000000 given.cells a.cells (omega arith) (omega arith),
      within 100000 10000 given.depth a.depth (omega arith) (omega arith),
      within 16777216 1048576 given.out a.out (omega arith) (omega arith),
    )
