-- Of a line of `build`, an option names the image exactly where it is given so.
use Rattle.std.specs.Prelude.{◌≡◌, ℕ, ◌||◌, List, [], ◌∷◌, Bool, true, false, Option, Some, None, cond, codes, option_and_then, refl}
use Rattle.std.proofs.Common.{ap, sym, ◌∙◌, subst}
use Rattle.std.proofs.lemmas.Slice.Eq.{bytes_eq-Decides}
use Rattle.std.specs.Option.{is_some, option_or}
use Rattle.std.specs.Str.{bytes_eq}
use Rattle.ns_run_words.specs.FileName.{is_file_name}
use Rattle.ns_run_words.specs.Forms.{IsSpelledLine, all_given}
use Rattle.ns_run_words.specs.Options.{value_behind}
use Rattle.ns_run_words.specs.Own.{image_among, with_json, with_to}
use Rattle.ns_run_words.specs.Table.{form_of}
use Rattle.ns_run_words.specs.Words.{CommandLine, given_or, nothing_given, with_lib, with_option}
use Rattle.ns_run_words.specs.declared.form.Verb.TheVariants.{Build}
use Rattle.ns_run_words.specs.declared.words.Given.{Given}

or_false : (a : Bool) → (a || false) ≡ a
or_false true = refl
or_false false = refl

or_either : (a : Bool) (one other : Option (List ℕ)) → ((a || is_some one) || is_some other) ≡ (a || is_some (option_or one other))
or_either true one other = refl
or_either false None other = refl
or_either false (Some name) other = refl

-- `--lib` names no image.
lib_keeps : (given next : Given) → with_lib given ≡ Some next → next.to ≡ given.to
lib_keeps given next h =
    elim given.lib as (λ q. cond q None (Some (record given { lib = true })) ≡ Some next → next.to ≡ given.to) [
      | true ↦ λ k. absurd (cc (k))
      | false ↦ λ k.
          let is : record given { lib = true } ≡ next = cc (k) in sym (ap (λ (g : Given). g.to) is)
    ] h

-- `--json` names no image.
json_keeps : (given next : Given) → given_or (with_json given) None ≡ Some next → next.to ≡ given.to
json_keeps given next h =
    elim given.json as (λ q. given_or (cond q None (Some (record given { json = true }))) None ≡ Some next → next.to ≡ given.to) [
      | true ↦ λ k. absurd (cc (k))
      | false ↦ λ k.
          let is : record given { json = true } ≡ next = cc (k) in sym (ap (λ (g : Given). g.to) is)
    ] h

-- What names the image is given so.
to_counts : (given next : Given) (name : Option (List ℕ)) → given_or (option_or (with_to given name) None) None ≡ Some next → next.to ≡ (given.to || is_some name)
to_counts given next None h = absurd (cc (h))
to_counts given next (Some name) h =
    elim given.to as (λ t. given_or (option_or (cond t None (cond (is_file_name name) (Some (record given { to = true })) None)) None) None ≡ Some next → next.to ≡ (t || true)) [
      | true ↦ λ k. absurd (cc (k))
      | false ↦ λ k. elim (is_file_name name) as (λ q. given_or (option_or (cond q (Some (record given { to = true })) None) None) None ≡ Some next → next.to ≡ true) [
        | true ↦ λ j.
            let is : record given { to = true } ≡ next = cc (j) in sym (ap (λ (g : Given). g.to) is)
        | false ↦ λ j. absurd (cc (j))
      ] k
    ] h

-- what `build` is given with a word more that isn't `--lib`
abbrev other_given : Given → List ℕ → Bool → Option Given
other_given given w json = given_or (option_or (with_to given (value_behind (codes "--to=") w)) (cond json (with_json given) None)) None

other_counts : (given next : Given) (w : List ℕ) → other_given given w (bytes_eq w (codes "--json")) ≡ Some next → next.to ≡ (given.to || is_some (value_behind (codes "--to=") w))
other_counts given next w h =
    elim (bytes_eq w (codes "--json")) as (λ q. bytes_eq w (codes "--json") ≡ q → other_given given w q ≡ Some next → next.to ≡ (given.to || is_some (value_behind (codes "--to=") w))) [
      | true ↦ λ e k.
          let same : w ≡ codes "--json" = (bytes_eq-Decides w (codes "--json")).0 e in
          let none : is_some (value_behind (codes "--to=") w) ≡ false = ap (λ x. is_some (value_behind (codes "--to=") x)) same in
          json_keeps given next (subst (λ x. other_given given x true ≡ Some next) same k) ∙ sym (ap (λ b. given.to || b) none ∙ or_false given.to)
      | false ↦ λ e k. to_counts given next (value_behind (codes "--to=") w) k
    ] refl h

one_counts : (given next : Given) (w : List ℕ) → with_option (form_of Build) given w ≡ Some next → next.to ≡ (given.to || is_some (value_behind (codes "--to=") w))
one_counts given next w h =
    elim (bytes_eq w (codes "--lib")) as (λ q. bytes_eq w (codes "--lib") ≡ q → cond q (with_lib given) (other_given given w (bytes_eq w (codes "--json"))) ≡ Some next → next.to ≡ (given.to || is_some (value_behind (codes "--to=") w))) [
      | true ↦ λ e k.
          let none : is_some (value_behind (codes "--to=") w) ≡ false = ap (λ x. is_some (value_behind (codes "--to=") x)) ((bytes_eq-Decides w (codes "--lib")).0 e) in
          lib_keeps given next k ∙ sym (ap (λ b. given.to || b) none ∙ or_false given.to)
      | false ↦ λ e k. other_counts given next w k
    ] refl h

all_count : (given last : Given) (options : List (List ℕ)) → all_given (form_of Build) given options ≡ Some last → last.to ≡ (given.to || is_some (image_among options))
all_count given last [] h =
    let is : given ≡ last = cc (h) in sym (ap (λ (g : Given). g.to) is) ∙ sym (or_false given.to)
all_count given last (w ∷ ws) h =
    elim (with_option (form_of Build) given w) as (λ o. with_option (form_of Build) given w ≡ o → option_and_then (λ g. all_given (form_of Build) g ws) o ≡ Some last → last.to ≡ (given.to || is_some (image_among (w ∷ ws)))) [
      | None ↦ λ e k. absurd (cc (k))
      | Some next ↦ λ e k.
          all_count next last ws k
          ∙ ap (λ b. b || is_some (image_among ws)) (one_counts given next w e)
          ∙ or_either given.to (value_behind (codes "--to=") w) (image_among ws)
    ] refl h

-- An option names the image of a line exactly where it is given so.
pub image_is_given : (line : CommandLine) → line.verb ≡ Build → IsSpelledLine line → line.given.to ≡ is_some (image_among line.options)
image_is_given line e (words, f) =
    all_count nothing_given line.given line.options (subst (λ verb. all_given (form_of verb) nothing_given line.options ≡ Some line.given) e f.given)
