-- The sends that were open before the move that ended a run (this profile).
use Rattle.std.specs.Prelude.{ℕ, zero, suc, ◌+◌, ◌-◌, List, [], ◌∷◌, ◌++◌, map, length, take, drop, codes, flat_map, nat_lt, if◌then◌else◌}
use Rattle.std.specs.Fmt.{decimal}
use Rattle.std.specs.Str.{bytes_eq}
use Rattle.ns_base.specs.declared.limits.Limits.{Limits}
use Rattle.ns_code.specs.declared.program.CodeProgram.{CodeProgram}
use Rattle.ns_code.specs.Selector.{selector_text}
use Rattle.ns_mirror.specs.Naming.{class_text}
use Rattle.ns_moves.specs.declared.site.Site.{Site as SendSite}
use Rattle.ns_json.specs.declared.saying.End.{End}
use Rattle.ns_json.specs.declared.saying.End.TheVariants.{Done, Error, Limit}
use Rattle.ns_json.specs.declared.saying.Site.{Site}
use Rattle.ns_json.specs.declared.saying.Trace.{Trace}
use Rattle.ns_machine.specs.Sites.{sites_of}
use Rattle.ns_moves.specs.State.{State}
use Rattle.ns_run_code.specs.Machine.{begins_with}
use Rattle.ns_run_told.specs.Told.{code_told, told_place}
use Rattle.ns_run_told.specs.Laws.{place_line}
use Rattle.ns_run_trace.specs.Before.{before_end}

-- ---- a send

-- a send by the names of its class, its selector and its file
abbrev pub told : CodeProgram → SendSite → Site
told code site =
    record { class = class_text code site.class; selector = selector_text code site.sel.0; place = told_place code.files site.place }

-- the line of a send
abbrev pub site_line : Site → List ℕ
site_line site = codes "  " ++ site.class ++ codes " " ++ site.selector ++ codes " at " ++ place_line site.place ++ 10 ∷ []

-- ---- which sends are told

-- those whose line isn't the one before
abbrev pub told_once : List ℕ → List Site → List Site
told_once line [] = []
told_once line (site ∷ sites) =
    if bytes_eq (site_line site) line then told_once line sites else site ∷ told_once (site_line site) sites

-- the most that are told at one side where some are left out
abbrev pub most_told : ℕ
most_told = 50

-- all of them; and the first and the last, where they are many
abbrev pub whole : List Site → Trace
whole sites = record { sites = sites; left_out = 0 }

abbrev pub shortened : List Site → Trace
shortened sites =
    record { sites = take most_told sites ++ drop (length sites - most_told) sites; left_out = length sites - (most_told + most_told) }

abbrev pub trimmed : List Site → Trace
trimmed sites = if nat_lt (most_told + most_told) (length sites) then shortened sites else whole sites

-- The sends that are told of a run that ended so: none where it answered; the line before the first is that of an error's own send.
abbrev pub trace_of : End → List Site → Trace
trace_of (Done answer) sites = whole []
trace_of (Error kind site) sites = trimmed (told_once (site_line site) sites)
trace_of (Limit limit) sites = trimmed (told_once [] sites)

-- the sends that are open before the move that ends a run, from its first state on
abbrev pub sends_before : CodeProgram → State → List Site
sends_before code first = map (told code) (sites_of (before_end code first))

-- the trace of a run that ended so
abbrev pub run_trace : CodeProgram → End → State → Trace
run_trace code end first = trace_of end (sends_before code first)

-- the trace of the run of some code within these limits with these arguments
abbrev pub code_trace : CodeProgram → Limits → List (List ℕ) → Trace
code_trace code limits arguments = run_trace code (code_told code limits arguments).end (begins_with code limits arguments)

-- ---- its lines

-- how many are left out, where some are
abbrev pub more_line : ℕ → List ℕ
more_line zero = []
more_line (suc n) = codes "  .. " ++ decimal (suc n) ++ codes " more" ++ 10 ∷ []

abbrev pub site_lines : List Site → List ℕ
site_lines sites = flat_map site_line sites

-- a line for each send, and where some are left out how many, between the first and the last
abbrev pub trace_lines : Trace → List ℕ
trace_lines trace =
    site_lines (take most_told trace.sites) ++ more_line trace.left_out ++ site_lines (drop most_told trace.sites)
