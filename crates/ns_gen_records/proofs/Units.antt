-- One unit with its places, and those behind it.
use Rattle.std.proofs.Common.{◌≡◌, ◌<◌, ◌∙◌, ℕ, ◌+◌, List, [], ◌∷◌, ◌++◌, length, drop, get_or, ap, sym, append_assoc, length-append, arith}
use Rattle.std.specs.Prelude.{map, slice_get, Some}
use Rattle.std.proofs.lemmas.List.{drop_more}
use Rattle.ns_base.specs.declared.place.Place.{Place}
use Rattle.ns_tree.specs.declared.tree.Unit as u
use Rattle.ns_tree.specs.PlainOf.{unit_of, class_of}
use Rattle.ns_scope.specs.Bodies as b
use Rattle.ns_resolved.specs.Program as m
use Rattle.ns_resolved.specs.Classes as c
use Rattle.ns_resolved.specs.laws.Counting.{class_counted}
use Rattle.ns_gen_records.specs.laws.Places.{places_left}

pub unit_listed : (number number' next next' k : ℕ) (units : List u.Unit) (unit : u.Unit) (marks : List (List Place)) (places : List Place) (l0 l1 whole : List m.Declaration) →
    k < length units → unit ≡ get_or units k unit → slice_get marks k ≡ Some places →
    l0 ++ c.units_declared number next (map unit_of (drop k units)) (drop k marks) ≡ whole →
    l1 ≡ l0 ++ c.class_declared (c.in_file places) number next (class_of unit.class) →
    number' ≡ number + c.class_count (class_of unit.class) → next' ≡ next + length (b.class_bodies [] (class_of unit.class)) →
    l1 ++ c.units_declared number' next' (map unit_of (drop (k + 1) units)) (drop (k + 1) marks) ≡ whole
unit_listed number number' next next' k units unit marks places l0 l1 whole within is at before put p q =
    let units_left = drop (k + 1) units in
    let marks_left = drop (k + 1) marks in
    let class = class_of unit.class in
    let one = c.class_declared (c.in_file places) number next class in
    let rest = c.units_declared (number + c.class_count class) (next + length (b.class_bodies [] class)) (map unit_of units_left) marks_left in
    let here : drop k units ≡ unit ∷ units_left = drop_more units k unit within ∙ ap (λ x. x ∷ units_left) (sym is) in
    ap (λ i. l1 ++ c.units_declared i next' (map unit_of units_left) marks_left) p
    ∙ ap (λ n. l1 ++ c.units_declared (number + c.class_count class) n (map unit_of units_left) marks_left) q
    ∙ ap (λ l. l ++ rest) put
    ∙ append_assoc l0 one rest
    ∙ ap (λ all. l0 ++ c.units_declared number next (map unit_of (unit ∷ units_left)) all) (sym (places_left marks k places at))
    ∙ ap (λ all. l0 ++ c.units_declared number next (map unit_of all) (drop k marks)) (sym here)
    ∙ before

pub unit_number : (number number' next next' k last : ℕ) (units : List u.Unit) (unit : u.Unit) (marks : List (List Place)) (places : List Place) →
    k < length units → unit ≡ get_or units k unit → slice_get marks k ≡ Some places →
    next + length (c.units_bodies number next (map unit_of (drop k units)) (drop k marks)) ≡ last →
    number' ≡ number + c.class_count (class_of unit.class) → next' ≡ next + length (b.class_bodies [] (class_of unit.class)) →
    next' + length (c.units_bodies number' next' (map unit_of (drop (k + 1) units)) (drop (k + 1) marks)) ≡ last
unit_number number number' next next' k last units unit marks places within is at before p q =
    let units_left = drop (k + 1) units in
    let marks_left = drop (k + 1) marks in
    let class = class_of unit.class in
    let one = c.class_bodies (c.in_file places) number next class in
    let behind = next + length (b.class_bodies [] class) in
    let rest = c.units_bodies (number + c.class_count class) behind (map unit_of units_left) marks_left in
    let here : drop k units ≡ unit ∷ units_left = drop_more units k unit within ∙ ap (λ x. x ∷ units_left) (sym is) in
    let whole : next + length (one ++ rest) ≡ last =
    ap (λ all. next + length (c.units_bodies number next (map unit_of (unit ∷ units_left)) all)) (sym (places_left marks k places at))
    ∙ ap (λ all. next + length (c.units_bodies number next (map unit_of all) (drop k marks))) (sym here)
    ∙ before in
    let many : length one ≡ length (b.class_bodies [] class) = class_counted class (c.in_file places) number next tt in
    let end : behind + length rest ≡ last = omega (whole, many, length-append one rest, arith) in
    ap (λ i. next' + length (c.units_bodies i next' (map unit_of units_left) marks_left)) p
    ∙ ap (λ n. n + length (c.units_bodies (number + c.class_count class) n (map unit_of units_left) marks_left)) q
    ∙ end
