-- All of some sends, or the first and the last.
use Rattle.std.proofs.Common.{◌≡◌, ◌+◌, ◌-◌, ◌<◌, ◌≤◌, ℕ, List, ◌++◌, map, length, take, drop, ap, ◌∙◌, arith, Bool, true, false, nat_lt, if◌then◌else◌}
use Rattle.std.proofs.lemmas.Bool.{le-ltb, lt-ltb}
use Rattle.std.proofs.lemmas.List.{drop-map, length-map, take-map}
use Rattle.ns_code.specs.declared.program.CodeProgram.{CodeProgram}
use Rattle.ns_moves.specs.declared.site.Site.{Site as SendSite}
use Rattle.ns_json.specs.declared.saying.Site.{Site}
use Rattle.ns_json.specs.declared.saying.Trace.{Trace}
use Rattle.ns_run_trace.specs.Trace.{most_told, shortened, told, trimmed, whole}

pub few_are_whole : (code : CodeProgram) (sites : List SendSite) → length sites ≤ most_told + most_told
    → trimmed (map (told code) sites) ≡ whole (map (told code) sites)
few_are_whole code sites few =
    let as_many = length-map sites (told code) in
    let test : nat_lt (most_told + most_told) (length (map (told code) sites)) ≡ false =
    le-ltb (most_told + most_told) (length (map (told code) sites)) (omega (arith, few, as_many)) in
    ap (λ (b : Bool). if b then shortened (map (told code) sites) else whole (map (told code) sites)) test

pub many_are_shortened : (code : CodeProgram) (sites : List SendSite) → most_told + most_told < length sites
    → trimmed (map (told code) sites) ≡ shortened (map (told code) sites)
many_are_shortened code sites many =
    let as_many = length-map sites (told code) in
    let test : nat_lt (most_told + most_told) (length (map (told code) sites)) ≡ true =
    lt-ltb (most_told + most_told) (length (map (told code) sites)) (omega (arith, many, as_many)) in
    ap (λ (b : Bool). if b then shortened (map (told code) sites) else whole (map (told code) sites)) test

-- some sends, and how many are left out
abbrev cut : List Site → List Site → ℕ → Trace
cut first last left_out = record { sites = first ++ last; left_out = left_out }

pub shortened_is : (code : CodeProgram) (sites : List SendSite)
    → shortened (map (told code) sites)
    ≡ cut (map (told code) (take most_told sites)) (map (told code) (drop (length sites - most_told) sites)) (length sites - (most_told + most_told))
shortened_is code sites =
    let all = map (told code) sites in
    ap (λ (n : ℕ). cut (take most_told all) (drop (n - most_told) all) (n - (most_told + most_told))) (length-map sites (told code))
    ∙ (ap (λ (first : List Site). cut first (drop (length sites - most_told) all) (length sites - (most_told + most_told))) (take-map (told code) most_told sites)
    ∙ ap (λ (last : List Site). cut (map (told code) (take most_told sites)) last (length sites - (most_told + most_told)))
    (drop-map (told code) (length sites - most_told) sites))
