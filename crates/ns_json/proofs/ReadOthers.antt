-- Tests, audits and actors are read back from the values that tell them.
use Rattle.std.proofs.Common.{◌≡◌, ℕ, List, [], ◌∷◌, ◌++◌, codes, cond, refl, ap, ◌∙◌}
use Rattle.std.specs.Str.{bytes_eq}
use Rattle.ns_json.specs.Json.{Member, Members}
use Rattle.ns_json.specs.Json.{members, numbered, texted}
use Rattle.ns_json.specs.Report as spec
use Rattle.ns_json.specs.declared.saying.Actor.{Actor}
use Rattle.ns_json.specs.declared.saying.Audit.{Audit}
use Rattle.ns_json.specs.declared.saying.Audit.TheVariants.{Yes, Sends, Performs}
use Rattle.ns_json.specs.declared.saying.End.{End}
use Rattle.ns_json.specs.declared.saying.End.TheVariants.{Done, Error, Limit}
use Rattle.ns_json.specs.declared.saying.Outcome.{Outcome}
use Rattle.ns_json.specs.declared.saying.Outcome.TheVariants.{Passed, Failed, Erred}
use Rattle.ns_json.specs.declared.saying.Stage.{Stage}
use Rattle.ns_json.specs.declared.saying.Stage.TheVariants.{Rests, Stopped, BadOutbox}
use Rattle.ns_json.specs.declared.saying.Test.{Test}
use Rattle.ns_json.specs.declared.saying.Tests.{Tests}
use Rattle.ns_json.proofs.Read.{bytes, natural, elements_in, first, next, things_of, things_back}
use Rattle.ns_json.proofs.ReadEnds.{end_of, after_end, end_back, end_after, end_alone}

abbrev pub outcome_with : List ℕ → Members → Outcome
outcome_with word m =
    cond (bytes_eq word (codes "passed")) Passed (cond (bytes_eq word (codes "failed")) Failed (Erred (end_of word m)))

abbrev pub test_of : Members → Test
test_of m = record { name = bytes (first m); outcome = outcome_with (bytes (first (next m))) (next (next m)) }

pub erred_back : (end : End) → outcome_with (spec.end_status end) (members (spec.end_members end)) ≡ Erred end
erred_back (Done answer) = refl
erred_back (Error kind site) = ap Erred (end_alone (Error kind site))
erred_back (Limit limit) = refl

pub test_back : (test : Test) → test_of (members (spec.test_members test)) ≡ test
test_back test = went test.name test.outcome
  where
    went : (name : List ℕ) (outcome : Outcome) →
        test_of (members (spec.test_members (record { name = name; outcome = outcome }))) ≡ record { name = name; outcome = outcome }
    went name Passed = refl
    went name Failed = refl
    went name (Erred end) = ap (λ outcome. record { name = name; outcome = outcome }) (erred_back end)

abbrev pub tests_of : Members → Tests
tests_of m =
    record {
      tests = things_of test_of (elements_in (first m));
      passed = natural (first (next m));
      failed = natural (first (next (next m)));
      errors = natural (first (next (next (next m))));
    }

pub tests_back : (tests : Tests) → tests_of (next (members (spec.tests_members tests))) ≡ tests
tests_back tests =
    ap (λ all. record { tests = all; passed = tests.passed; failed = tests.failed; errors = tests.errors })
    (things_back spec.test_members test_of test_back tests.tests)

abbrev pub audit_with : List ℕ → Members → Audit
audit_with word m =
    cond (bytes_eq word (codes "yes")) Yes
    (cond (bytes_eq word (codes "sends")) (Sends (bytes (first m)) (natural (first (next m))) (natural (first (next (next m)))))
    (Performs (natural (first m)) (natural (first (next m)))))

abbrev pub audit_of : Members → Audit
audit_of m = audit_with (bytes (first m)) (next m)

pub audit_back : (audit : Audit) → audit_of (members (spec.audit_members audit)) ≡ audit
audit_back Yes = refl
audit_back (Sends selector body at) = refl
audit_back (Performs body at) = refl

abbrev pub actor_with : Stage → Members → Actor
actor_with stage m = record { stage = stage; output = bytes (first m); taken = natural (first (next m)) }

abbrev pub staged : List ℕ → Members → Actor
staged word m =
    cond (bytes_eq word (codes "rests")) (actor_with Rests m)
    (cond (bytes_eq word (codes "outbox")) (actor_with BadOutbox m) (actor_with (Stopped (end_of word m)) (after_end word m)))

abbrev pub actor_of : Members → Actor
actor_of m = staged (bytes (first m)) (next m)

-- what stands behind the stage of an actor
abbrev pub behind_stage : List ℕ → ℕ → List Member
behind_stage output taken = texted (codes "output") output ∷ numbered (codes "taken") taken ∷ []

pub stopped_back : (end : End) (output : List ℕ) (taken : ℕ) →
    actor_with (Stopped (end_of (spec.end_status end) (members (spec.end_members end ++ behind_stage output taken))))
    (after_end (spec.end_status end) (members (spec.end_members end ++ behind_stage output taken)))
    ≡ record { stage = Stopped end; output = output; taken = taken }
stopped_back end output taken =
    ap (λ e. actor_with (Stopped e) (after_end (spec.end_status end) (members (spec.end_members end ++ behind_stage output taken))))
    (end_back end (behind_stage output taken))
    ∙ ap (actor_with (Stopped end)) (end_after end (behind_stage output taken))

pub actor_back : (actor : Actor) → actor_of (members (spec.actor_members actor)) ≡ actor
actor_back actor = stood actor.stage actor.output actor.taken
  where
    stood : (stage : Stage) (output : List ℕ) (taken : ℕ) →
        actor_of (members (spec.actor_members (record { stage = stage; output = output; taken = taken })))
        ≡ record { stage = stage; output = output; taken = taken }
    stood Rests output taken = refl
    stood BadOutbox output taken = refl
    stood (Stopped (Done answer)) output taken = refl
    stood (Stopped (Error kind site)) output taken = stopped_back (Error kind site) output taken
    stood (Stopped (Limit limit)) output taken = refl
