-- Which sends are told: each is one of those that were open, and the first isn't told as the line before it.
use Rattle.std.proofs.Common.{◌≡◌, ℕ, ◌+◌, ◌-◌, List, [], ◌∷◌, length, take, drop, refl, ap, ◌∙◌, Bool, true, false, nat_lt, bytes_eq, if◌then◌else◌, All}
use Rattle.std.specs.Prelude.{Contains}
use Rattle.std.proofs.lemmas.List.Elements.{All-append, All-cons, All-contains_itself, All-drop, All-head, All-nil, All-tail, All-take}
use Rattle.std.proofs.lemmas.Slice.Eq.{bytes_eq-Decides}
use Rattle.ns_code.specs.declared.program.CodeProgram.{CodeProgram}
use Rattle.ns_json.specs.declared.saying.End.{End}
use Rattle.ns_json.specs.declared.saying.End.TheVariants.{Done, Error, Limit}
use Rattle.ns_json.specs.declared.saying.Site.{Site}
use Rattle.ns_run_trace.specs.Laws.{FirstIsTheCaller, TellsFirst, TracesTellFrames}
use Rattle.ns_run_trace.specs.Trace.{most_told, sends_before, site_line, told_once, shortened, trace_of, trimmed, whole}

module _ (P : Site → Type 0) where
  once_all : (line : List ℕ) (sites : List Site) → All P sites → All P (told_once line sites)
  once_all line [] all = All-nil P
  once_all line (site ∷ sites) all =
      tested (bytes_eq (site_line site) line) (once_all line sites (All-tail P site sites all)) (once_all (site_line site) sites (All-tail P site sites all))
    where
      tested : (b : Bool) → All P (told_once line sites) → All P (told_once (site_line site) sites)
          → All P (if b then told_once line sites else site ∷ told_once (site_line site) sites)
      tested true same other = same
      tested false same other = All-cons P site (told_once (site_line site) sites) (All-head P site sites all) other

  trimmed_all : (sites : List Site) → All P sites → All P (trimmed sites).sites
  trimmed_all sites all = tested (nat_lt (most_told + most_told) (length sites))
    where
      tested : (b : Bool) → All P (if b then shortened sites else whole sites).sites
      tested true =
          All-append P (take most_told sites) (drop (length sites - most_told) sites) (All-take P most_told sites all)
          (All-drop P (length sites - most_told) sites all)
      tested false = all

  trace_all : (end : End) (sites : List Site) → All P sites → All P (trace_of end sites).sites
  trace_all (Done answer) sites all = All-nil P
  trace_all (Error kind site) sites all = trimmed_all (told_once (site_line site) sites) (once_all (site_line site) sites all)
  trace_all (Limit limit) sites all = trimmed_all (told_once [] sites) (once_all [] sites all)

pub traces_tell_frames : (code : CodeProgram) → TracesTellFrames code
traces_tell_frames code end first =
    trace_all (Contains (sends_before code first)) end (sends_before code first) (All-contains_itself (sends_before code first))

pub first_is_the_caller : FirstIsTheCaller
first_is_the_caller line [] rest first e = absurd (cc)
first_is_the_caller line (site ∷ sites) rest first e =
    tested (bytes_eq (site_line site) line) refl e (first_is_the_caller line sites rest first)
  where
    further : site_line site ≡ line → TellsFirst line sites first → TellsFirst line (site ∷ sites) first
    further same t = record {
      within = site ∷ t.within;
      around = t.around;
      is = ap (λ (l : List Site). site ∷ l) t.is;
      alike = All-cons (λ (s : Site). site_line s ≡ line) site t.within same t.alike;
      other = t.other;
    }

    here : bytes_eq (site_line site) line ≡ false → site ≡ first → TellsFirst line (site ∷ sites) first
    here is same = record {
      within = [];
      around = sites;
      is = ap (λ (s : Site). s ∷ sites) same;
      alike = All-nil (λ (s : Site). site_line s ≡ line);
      other = λ alike. (let equal = (bytes_eq-Decides (site_line site) line).1 (ap site_line same ∙ alike) in absurd (cc));
    }

    tested : (b : Bool) → bytes_eq (site_line site) line ≡ b
        → (if b then told_once line sites else site ∷ told_once (site_line site) sites) ≡ first ∷ rest
        → (told_once line sites ≡ first ∷ rest → TellsFirst line sites first) → TellsFirst line (site ∷ sites) first
    tested true is e later = further ((bytes_eq-Decides (site_line site) line).0 is) (later e)
    tested false is e later = here is (cc)
