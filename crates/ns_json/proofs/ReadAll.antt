-- What a command says is read back from the value that tells it; so two reports of one text are the same report.
use Rattle.std.proofs.Common.{◌≡◌, ℕ, List, [], ◌∷◌, ◌++◌, codes, cond, refl, ap, sym, ◌∙◌}
use Rattle.std.specs.Str.{bytes_eq}
use Rattle.ns_json.specs.Json.{Value, Members, string, number, array, object}
use Rattle.ns_json.specs.Json.{members, value_text}
use Rattle.ns_json.specs.Report as spec
use Rattle.ns_json.specs.Report.{json_of, report}
use Rattle.ns_json.specs.declared.saying.End.{End}
use Rattle.ns_json.specs.declared.saying.End.TheVariants.{Done, Error, Limit}
use Rattle.ns_json.specs.declared.saying.Saying.TheVariants as saying
use Rattle.ns_json.specs.declared.saying.Saying.{Saying}
use Rattle.ns_json.proofs.Apart.{values_apart}
use Rattle.ns_json.proofs.Read.{bytes, natural, elements_in, first, is_named, next, things_of, things_back}
use Rattle.ns_json.proofs.ReadRuns.{run_of, behind_end, run_back}
use Rattle.ns_json.proofs.ReadRefusals.{refusal_of, refusal_back, fault_of, fault_back, unanswered_of, unanswered_back}
use Rattle.ns_json.proofs.ReadOthers.{tests_of, tests_back, audit_of, audit_back, actor_of, actor_back}

abbrev pub ok_of : Members → Saying
ok_of m = cond (is_named (codes "unanswered") m) (saying.Searched (things_of unanswered_of (elements_in (first m)))) saying.Checked

abbrev pub refused_in : Members → Saying
refused_in m =
    cond (is_named (codes "faults") m) (saying.Faulty (things_of fault_of (elements_in (first m)))) (saying.Refused (refusal_of m))

-- what a command says whose object has that status, from the members behind it, or all
abbrev pub said_by : List ℕ → Members → Members → Saying
said_by word m all =
    cond (bytes_eq word (codes "ok")) (ok_of m)
    (cond (bytes_eq word (codes "refused")) (refused_in m)
    (cond (bytes_eq word (codes "stored")) (saying.Stored (bytes (first m)) (natural (first (next m))))
    (cond (bytes_eq word (codes "tested")) (saying.Tested (tests_of m))
    (cond (bytes_eq word (codes "audited")) (saying.Audited (audit_of m))
    (cond (bytes_eq word (codes "acted")) (saying.Acted (things_of actor_of (elements_in (first m))))
    (saying.Ran (run_of all)))))))

abbrev pub said_in : Members → Saying
said_in m = said_by (bytes (first m)) (next m) m

abbrev pub said : Value → Saying
said (string text) = saying.Checked
said (number n) = saying.Checked
said (array runs) = saying.Session (things_of run_of runs)
said (object m) = said_in m

pub ran_back : (end : End) (m all : Members) → said_by (spec.end_status end) m all ≡ saying.Ran (run_of all)
ran_back (Done answer) m all = refl
ran_back (Error kind site) m all = refl
ran_back (Limit limit) m all = refl

pub said_back : (s : Saying) → said (report s) ≡ s
said_back (saying.Ran run) =
    ran_back run.end (members (spec.end_members run.end ++ behind_end run)) (members (spec.run_members run)) ∙ ap saying.Ran (run_back run)
said_back (saying.Session runs) = ap saying.Session (things_back spec.run_members run_of run_back runs)
said_back saying.Checked = refl
said_back (saying.Searched unanswered) = ap saying.Searched (things_back spec.unanswered_members unanswered_of unanswered_back unanswered)
said_back (saying.Faulty faults) = ap saying.Faulty (things_back spec.fault_members fault_of fault_back faults)
said_back (saying.Stored image bytes) = refl
said_back (saying.Refused refusal) = ap saying.Refused (refusal_back refusal)
said_back (saying.Tested tests) = ap saying.Tested (tests_back tests)
said_back (saying.Audited audit) = ap saying.Audited (audit_back audit)
said_back (saying.Acted actors) = ap saying.Acted (things_back spec.actor_members actor_of actor_back actors)

-- a list without its last item
abbrev pub but_last : List ℕ → List ℕ
but_last [] = []
but_last (c ∷ []) = []
but_last (c ∷ d ∷ more) = c ∷ but_last (d ∷ more)

pub but_last_back : (text : List ℕ) (c : ℕ) → but_last (text ++ c ∷ []) ≡ text
but_last_back [] c = refl
but_last_back (a ∷ []) c = refl
but_last_back (a ∷ b ∷ text) c = ap (λ more. a ∷ more) (but_last_back (b ∷ text) c)

-- Two reports of one text are the same report.
pub reports_apart : (a b : Saying) → json_of a ≡ json_of b → a ≡ b
reports_apart a b e =
    sym (said_back a)
    ∙ ap said (values_apart (report a) (report b)
    (sym (but_last_back (value_text (report a)) 10) ∙ ap but_last e ∙ but_last_back (value_text (report b)) 10))
    ∙ said_back b
