-- Places, sends and ends of runs are read back from the members that tell them.
use Rattle.std.proofs.Common.{◌≡◌, ℕ, List, [], ◌++◌, codes, Option, Some, None, cond, refl, ap, sym, ◌∙◌}
use Rattle.std.proofs.lemmas.List.{append-nil}
use Rattle.std.specs.Str.{bytes_eq}
use Rattle.ns_json.specs.Json.{Member, Members}
use Rattle.ns_json.specs.Json.{members}
use Rattle.ns_json.specs.Report as spec
use Rattle.ns_json.specs.declared.saying.End.{End}
use Rattle.ns_json.specs.declared.saying.End.TheVariants.{Done, Error, Limit}
use Rattle.ns_json.specs.declared.saying.FilePlace.{FilePlace}
use Rattle.ns_json.specs.declared.saying.Site.{Site}
use Rattle.ns_json.proofs.Read.{bytes, natural, first, is_named, next}

abbrev pub place_in : Members → FilePlace
place_in m = record { file = bytes (first m); line = natural (first (next m)); col = natural (first (next (next m))) }

abbrev pub place_of : Members → Option FilePlace
place_of m = cond (is_named (codes "file") m) (Some (place_in m)) None

abbrev pub after_place : Members → Members
after_place m = cond (is_named (codes "file") m) (next (next (next m))) m

abbrev pub site_of : Members → Site
site_of m = record { class = bytes (first m); selector = bytes (first (next m)); place = place_of (next (next m)) }

pub site_back : (site : Site) → site_of (members (spec.site_members site)) ≡ site
site_back site = placed site.class site.selector site.place
  where
    placed : (class selector : List ℕ) (place : Option FilePlace) →
        site_of (members (spec.site_members (record { class = class; selector = selector; place = place })))
        ≡ record { class = class; selector = selector; place = place }
    placed class selector None = refl
    placed class selector (Some place) = refl

-- ---- ends

-- the end of a run, of which this is the word, and what stands behind its members
abbrev pub error_of : Members → End
error_of m =
    Error (bytes (first m))
    (record {
      class = bytes (first (after_place (next m)));
      selector = bytes (first (next (after_place (next m))));
      place = place_of (next m);
    })

abbrev pub end_of : List ℕ → Members → End
end_of word m =
    cond (bytes_eq word (codes "done")) (Done (bytes (first m)))
    (cond (bytes_eq word (codes "error")) (error_of m) (Limit (bytes (first m))))

abbrev pub after_end : List ℕ → Members → Members
after_end word m = cond (bytes_eq word (codes "error")) (next (next (after_place (next m)))) (next m)

pub error_back : (kind class selector : List ℕ) (place : Option FilePlace) (more : List Member) →
    end_of (codes "error") (members (spec.error_members kind (record { class = class; selector = selector; place = place }) ++ more))
    ≡ Error kind (record { class = class; selector = selector; place = place })
error_back kind class selector None more = refl
error_back kind class selector (Some place) more = refl

pub error_after : (kind class selector : List ℕ) (place : Option FilePlace) (more : List Member) →
    after_end (codes "error") (members (spec.error_members kind (record { class = class; selector = selector; place = place }) ++ more))
    ≡ members more
error_after kind class selector None more = refl
error_after kind class selector (Some place) more = refl

pub end_back : (end : End) (more : List Member) → end_of (spec.end_status end) (members (spec.end_members end ++ more)) ≡ end
end_back (Done answer) more = refl
end_back (Error kind site) more = error_back kind site.class site.selector site.place more
end_back (Limit limit) more = refl

pub end_after : (end : End) (more : List Member) → after_end (spec.end_status end) (members (spec.end_members end ++ more)) ≡ members more
end_after (Done answer) more = refl
end_after (Error kind site) more = error_after kind site.class site.selector site.place more
end_after (Limit limit) more = refl

pub end_alone : (end : End) → end_of (spec.end_status end) (members (spec.end_members end)) ≡ end
end_alone end =
    ap (λ all. end_of (spec.end_status end) (members all)) (sym (append-nil (spec.end_members end))) ∙ end_back end []
