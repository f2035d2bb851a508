-- The names of members that differ still differ where nested classes stand before methods.
use Rattle.std.proofs.Common.{◌≡◌, ℕ, List, [], ◌∷◌, ◌++◌, refl, sym, ap, ◌∙◌}
use Rattle.std.specs.Prelude.{Bool, true, false, not, ◌||◌}
use Rattle.std.specs.List.{list_any}
use Rattle.std.specs.Str.{bytes_eq}
use Rattle.ns_tree.specs.declared.tree.Access.{Access}
use Rattle.ns_tree.specs.Plain as p
use Rattle.ns_scope.specs.Names.{selector_of, members_named}
use Rattle.ns_code.specs.Soundness.{are_different}
use Rattle.ns_link.proofs.Differ.{or_left, or_right, or_none, and_left, and_right, not_true, and_is, same_turned, names_of}

-- ---- lists in which an item moves

pub any_both : (test : List ℕ → Bool) (xs ys : List (List ℕ)) → list_any test (xs ++ ys) ≡ (list_any test xs || list_any test ys)
any_both test [] ys = refl
any_both test (x ∷ xs) ys = ap (λ b. test x || b) (any_both test xs ys) ∙ or_assoc (test x) (list_any test xs) (list_any test ys) where
  or_assoc : (x y z : Bool) → (x || (y || z)) ≡ ((x || y) || z)
  or_assoc true y z = refl
  or_assoc false y z = refl

any_moved : (test : List ℕ → Bool) (xs : List (List ℕ)) (y : List ℕ) (ys : List (List ℕ)) →
    list_any test (xs ++ y ∷ ys) ≡ (test y || list_any test (xs ++ ys))
any_moved test [] y ys = refl
any_moved test (x ∷ xs) y ys = ap (λ b. test x || b) (any_moved test xs y ys) ∙ turned (test x) (test y) (list_any test (xs ++ ys)) where
  turned : (x y z : Bool) → (x || (y || z)) ≡ (y || (x || z))
  turned true true z = refl
  turned true false z = refl
  turned false y z = refl

-- an item that is none of the others, put among them
differ_with : (xs : List (List ℕ)) (y : List ℕ) (ys : List (List ℕ)) → list_any (bytes_eq y) (xs ++ ys) ≡ false →
    are_different (xs ++ ys) ≡ true →
    are_different (xs ++ y ∷ ys) ≡ true
differ_with [] y ys none differ = and_is (list_any (bytes_eq y) ys) (are_different ys) none differ
differ_with (x ∷ xs) y ys none differ =
    let others = list_any (bytes_eq x) (xs ++ ys) in
    let new = not_true others (and_left (not others) (are_different (xs ++ ys)) differ) in
    and_is (list_any (bytes_eq x) (xs ++ y ∷ ys)) (are_different (xs ++ y ∷ ys))
    (any_moved (bytes_eq x) xs y ys ∙ or_none (bytes_eq x y) others (same_turned x y ∙ or_left (bytes_eq y x) (list_any (bytes_eq y) (xs ++ ys)) none) new)
    (differ_with xs y ys (or_right (bytes_eq y x) (list_any (bytes_eq y) (xs ++ ys)) none) (and_right (not others) (are_different (xs ++ ys)) differ))

-- ---- the names of members, nested classes first

abbrev pub nested_of : p.Members → List (List ℕ)
nested_of p.no_members = []
nested_of (p.more_members (p.member_with categories access (p.class_member (p.class_with name factory clause bars body members others))) rest) =
    name.text ∷ nested_of rest
nested_of (p.more_members (p.member_with categories access (p.method_member method)) rest) = nested_of rest

abbrev pub methods_of : p.Members → List (List ℕ)
methods_of p.no_members = []
methods_of (p.more_members (p.member_with categories access (p.class_member class)) rest) = methods_of rest
methods_of (p.more_members (p.member_with categories access (p.method_member (p.method_with (p.pattern_with parts params) bars body))) rest) =
    selector_of parts ∷ methods_of rest

any_apart : (test : List ℕ → Bool) (other : Access) (members : p.Members) →
    list_any test (nested_of members ++ methods_of members) ≡ list_any test (names_of (members_named other members))
any_apart test other p.no_members = refl
any_apart test other (p.more_members (p.member_with categories access (p.class_member (p.class_with name factory clause bars body members others))) rest) =
    ap (λ b. test name.text || b) (any_apart test other rest)
any_apart test other (p.more_members (p.member_with categories access (p.method_member (p.method_with (p.pattern_with parts params) bars body))) rest) =
    any_moved test (nested_of rest) (selector_of parts) (methods_of rest) ∙ ap (λ b. test (selector_of parts) || b) (any_apart test other rest)

pub differ_apart : (other : Access) (members : p.Members) → are_different (names_of (members_named other members)) ≡ true →
    are_different (nested_of members ++ methods_of members) ≡ true
differ_apart other p.no_members h = refl
differ_apart other (p.more_members (p.member_with categories access (p.class_member (p.class_with name factory clause bars body members others))) rest) h =
    let named = names_of (members_named other rest) in
    let some = list_any (bytes_eq name.text) named in
    and_is (list_any (bytes_eq name.text) (nested_of rest ++ methods_of rest)) (are_different (nested_of rest ++ methods_of rest))
    (any_apart (bytes_eq name.text) other rest ∙ not_true some (and_left (not some) (are_different named) h))
    (differ_apart other rest (and_right (not some) (are_different named) h))
differ_apart other (p.more_members (p.member_with categories access (p.method_member (p.method_with (p.pattern_with parts params) bars body))) rest) h =
    let named = names_of (members_named other rest) in
    let some = list_any (bytes_eq (selector_of parts)) named in
    differ_with (nested_of rest) (selector_of parts) (methods_of rest)
    (any_apart (bytes_eq (selector_of parts)) other rest ∙ not_true some (and_left (not some) (are_different named) h))
    (differ_apart other rest (and_right (not some) (are_different named) h))

-- behind the same names
differ_behind : (xs ys zs : List (List ℕ)) → ((test : List ℕ → Bool) → list_any test zs ≡ list_any test ys) →
    (are_different ys ≡ true → are_different zs ≡ true) → are_different (xs ++ ys) ≡ true → are_different (xs ++ zs) ≡ true
differ_behind [] ys zs any differ h = differ h
differ_behind (x ∷ xs) ys zs any differ h =
    let some = list_any (bytes_eq x) (xs ++ ys) in
    and_is (list_any (bytes_eq x) (xs ++ zs)) (are_different (xs ++ zs))
    (any_both (bytes_eq x) xs zs ∙ ap (λ b. list_any (bytes_eq x) xs || b) (any (bytes_eq x)) ∙ sym (any_both (bytes_eq x) xs ys)
    ∙ not_true some (and_left (not some) (are_different (xs ++ ys)) h))
    (differ_behind xs ys zs any differ (and_right (not some) (are_different (xs ++ ys)) h))

-- without the first of them
pub differ_further : (xs ys : List (List ℕ)) → are_different (xs ++ ys) ≡ true → are_different ys ≡ true
differ_further [] ys h = h
differ_further (x ∷ xs) ys h = differ_further xs ys (and_right (not (list_any (bytes_eq x) (xs ++ ys))) (are_different (xs ++ ys)) h)

pub side_differs : (slots : List (List ℕ)) (other : Access) (members : p.Members) →
    are_different (slots ++ names_of (members_named other members)) ≡ true →
    are_different (slots ++ (nested_of members ++ methods_of members)) ≡ true
side_differs slots other members h =
    differ_behind slots (names_of (members_named other members)) (nested_of members ++ methods_of members)
    (λ test. any_apart test other members) (differ_apart other members) h
