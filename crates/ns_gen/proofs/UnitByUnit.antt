-- One unit with its places, and those behind it.
use Rattle.std.proofs.Common.{◌≡◌, ◌<◌, ◌∙◌, ℕ, ◌+◌, List, [], ◌∷◌, length, drop, get_or, ap, sym}
use Rattle.std.specs.Prelude.{map, slice_get, Some}
use Rattle.std.proofs.lemmas.List.{drop_more}
use Rattle.ns_base.specs.declared.place.Place.{Place}
use Rattle.ns_tree.specs.declared.tree.Unit as u
use Rattle.ns_tree.specs.PlainOf.{unit_of, class_of}
use Rattle.ns_scope.specs.Bodies as b
use Rattle.ns_resolved.specs.Classes as c
use Rattle.ns_gen_bodies.specs.Coding.{Coded, with_bodies}
use Rattle.ns_gen_records.specs.laws.Places.{places_left}
use Rattle.ns_gen.proofs.Onward.{with_more}

pub unit_put : (number number' next next' k : ℕ) (units : List u.Unit) (unit : u.Unit) (marks : List (List Place)) (places : List Place) (s0 s1 whole : Coded) →
    k < length units → unit ≡ get_or units k unit → slice_get marks k ≡ Some places →
    with_bodies (c.units_bodies number next (map unit_of (drop k units)) (drop k marks)) s0 ≡ whole →
    s1 ≡ with_bodies (c.class_bodies (c.in_file places) number next (class_of unit.class)) s0 →
    number' ≡ number + c.class_count (class_of unit.class) → next' ≡ next + length (b.class_bodies [] (class_of unit.class)) →
    with_bodies (c.units_bodies number' next' (map unit_of (drop (k + 1) units)) (drop (k + 1) marks)) s1 ≡ whole
unit_put number number' next next' k units unit marks places s0 s1 whole within is at before put p q =
    let units_left = drop (k + 1) units in
    let marks_left = drop (k + 1) marks in
    let class = class_of unit.class in
    let one = c.class_bodies (c.in_file places) number next class in
    let rest = c.units_bodies (number + c.class_count class) (next + length (b.class_bodies [] class)) (map unit_of units_left) marks_left in
    let here : drop k units ≡ unit ∷ units_left = drop_more units k unit within ∙ ap (λ x. x ∷ units_left) (sym is) in
    ap (λ i. with_bodies (c.units_bodies i next' (map unit_of units_left) marks_left) s1) p
    ∙ ap (λ n. with_bodies (c.units_bodies (number + c.class_count class) n (map unit_of units_left) marks_left) s1) q
    ∙ ap (with_bodies rest) put
    ∙ sym (with_more one rest s0)
    ∙ ap (λ all. with_bodies (c.units_bodies number next (map unit_of (unit ∷ units_left)) all) s0) (sym (places_left marks k places at))
    ∙ ap (λ all. with_bodies (c.units_bodies number next (map unit_of all) (drop k marks)) s0) (sym here)
    ∙ before
