-- Runs are read back from the values that tell them.
use Rattle.std.proofs.Common.{◌≡◌, ℕ, zero, suc, List, ◌∷◌, ◌++◌, codes, Option, Some, None, cond, refl, ap, ◌∙◌}
use Rattle.ns_base.specs.declared.limits.Limits.{Limits}
use Rattle.ns_world.specs.declared.ending.Counters.{Counters}
use Rattle.ns_json.specs.Json.{Member, Members}
use Rattle.ns_json.specs.Json.{members, texted}
use Rattle.ns_json.specs.Report as spec
use Rattle.ns_json.specs.declared.saying.End.{End}
use Rattle.ns_json.specs.declared.saying.Run.{Run}
use Rattle.ns_json.specs.declared.saying.Site.{Site}
use Rattle.ns_json.specs.declared.saying.Trace.{Trace}
use Rattle.ns_json.proofs.Read.{bytes, natural, elements_in, members_in, first, is_named, next, things_of, things_back}
use Rattle.ns_json.proofs.ReadEnds.{site_of, site_back, end_of, after_end, end_back, end_after}

abbrev pub left_out_of : Members → ℕ
left_out_of m = cond (is_named (codes "more") m) (natural (first m)) 0

abbrev pub after_more : Members → Members
after_more m = cond (is_named (codes "more") m) (next m) m

abbrev pub trace_in : Members → Trace
trace_in m = record { sites = things_of site_of (elements_in (first m)); left_out = left_out_of (next m) }

abbrev pub trace_of : Members → Option Trace
trace_of m = cond (is_named (codes "trace") m) (Some (trace_in m)) None

abbrev pub after_trace : Members → Members
after_trace m = cond (is_named (codes "trace") m) (after_more (next m)) m

abbrev pub limits_in : Members → Limits
limits_in m =
    record {
      steps = natural (first m);
      cells = natural (first (next m));
      depth = natural (first (next (next m)));
      out = natural (first (next (next (next m))));
    }

abbrev pub limits_of : Members → Option Limits
limits_of m = cond (is_named (codes "limits") m) (Some (limits_in (members_in (first m)))) None

abbrev pub used_in : Members → Counters
used_in m =
    record {
      steps = natural (first m);
      cells = natural (first (next m));
      depth = natural (first (next (next m)));
      out = natural (first (next (next (next m))));
    }

-- a run that ended so, of which this is told besides
abbrev pub run_with : End → Members → Run
run_with end m =
    record {
      end = end;
      output = bytes (first m);
      used = used_in (next m);
      trace = trace_of (next (next (next (next (next m)))));
      limits = limits_of (after_trace (next (next (next (next (next m))))));
    }

abbrev pub run_of : Members → Run
run_of m = run_with (end_of (bytes (first m)) (next m)) (after_end (bytes (first m)) (next m))

pub trace_back : (trace : Option Trace) (limits : Option Limits) → trace_of (members (spec.asked_members trace limits)) ≡ trace
trace_back None None = refl
trace_back None (Some limits) = refl
trace_back (Some trace) limits = some trace.sites trace.left_out limits
  where
    some : (sites : List Site) (left_out : ℕ) (limits : Option Limits) →
        trace_of (members (spec.asked_members (Some (record { sites = sites; left_out = left_out })) limits))
        ≡ Some (record { sites = sites; left_out = left_out })
    some sites zero None =
        ap (λ s. Some (record { sites = s; left_out = zero })) (things_back spec.site_members site_of site_back sites)
    some sites zero (Some limits) =
        ap (λ s. Some (record { sites = s; left_out = zero })) (things_back spec.site_members site_of site_back sites)
    some sites (suc n) limits =
        ap (λ s. Some (record { sites = s; left_out = suc n })) (things_back spec.site_members site_of site_back sites)

pub limits_back : (trace : Option Trace) (limits : Option Limits) →
    limits_of (after_trace (members (spec.asked_members trace limits))) ≡ limits
limits_back None None = refl
limits_back None (Some limits) = refl
limits_back (Some trace) limits = some trace.sites trace.left_out limits
  where
    some : (sites : List Site) (left_out : ℕ) (limits : Option Limits) →
        limits_of (after_trace (members (spec.asked_members (Some (record { sites = sites; left_out = left_out })) limits))) ≡ limits
    some sites zero None = refl
    some sites zero (Some limits) = refl
    some sites (suc n) None = refl
    some sites (suc n) (Some limits) = refl

-- what stands behind the end of a run
abbrev pub behind_end : Run → List Member
behind_end run = texted (codes "output") run.output ∷ (spec.used_members run.used ++ spec.asked_members run.trace run.limits)

pub asked_back : (run : Run) → run_with run.end (members (behind_end run)) ≡ run
asked_back run =
    ap (λ trace. record {
      end = run.end;
      output = run.output;
      used = run.used;
      trace = trace;
      limits = limits_of (after_trace (members (spec.asked_members run.trace run.limits)));
    }) (trace_back run.trace run.limits)
    ∙ ap (λ limits. record { end = run.end; output = run.output; used = run.used; trace = run.trace; limits = limits })
    (limits_back run.trace run.limits)

pub run_back : (run : Run) → run_of (members (spec.run_members run)) ≡ run
run_back run =
    ap (λ end. run_with end (after_end (spec.end_status run.end) (members (spec.end_members run.end ++ behind_end run))))
    (end_back run.end (behind_end run))
    ∙ ap (run_with run.end) (end_after run.end (behind_end run))
    ∙ asked_back run
