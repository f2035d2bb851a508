-- The declarations of a class, part by part.
use Rattle.std.proofs.Common.{◌≡◌, ◌<◌, ◌∙◌, ℕ, ◌+◌, List, [], ◌∷◌, ◌++◌, length, drop, get_or, ap, refl, sym, length-append, append_assoc, arith}
use Rattle.std.specs.Prelude.{Option, Some, option_map}
use Rattle.std.proofs.lemmas.List.{drop_more}
use Rattle.ns_tree.specs.declared.tree.Access.TheVariants as a
use Rattle.ns_tree.specs.declared.tree.Class.{Class, out-Class}
use Rattle.ns_tree.specs.PlainOf.{class_of, bars_of, statements_of, clause_of, pattern_of, side_of, class_side_of}
use Rattle.ns_tree.specs.laws.Nodes.{class_out}
use Rattle.ns_scope.specs.declared.scope.ClassScope.{ClassScope}
use Rattle.ns_scope.specs.declared.scope.CodeSide.TheVariants as side
use Rattle.ns_scope.specs.Scopes.{class_scope, initialiser_scope, factory_params}
use Rattle.ns_scope.specs.Bodies as b
use Rattle.ns_scope.specs.Bodies.{start_blocks}
use Rattle.ns_resolved.specs.Program as m
use Rattle.ns_resolved.specs.Classes as c
use Rattle.ns_gen_records.specs.Declaring.{declaration_in, methods_in, side_methods_in}

-- ---- one of a list, and those behind it

pub loop_listed : {A B : Type 0} (one : ℕ → ℕ → A → List B) (classes count : A → ℕ) (rest : ℕ → ℕ → List A → List B) →
    ((i n : ℕ) (x : A) (xs : List A) → rest i n (x ∷ xs) ≡ one i n x ++ rest (i + classes x) (n + count x) xs) →
    (number number' next next' k : ℕ) (items : List A) (item : A) (all all' whole : List B) → k < length items → item ≡ get_or items k item →
    all ++ rest number next (drop k items) ≡ whole → all' ≡ all ++ one number next item → number' ≡ number + classes item → next' ≡ next + count item →
    all' ++ rest number' next' (drop (k + 1) items) ≡ whole
loop_listed one classes count rest parts number number' next next' k items item all all' whole within is before put p q =
    let left = drop (k + 1) items in
    let here : drop k items ≡ item ∷ left = drop_more items k item within ∙ ap (λ x. x ∷ left) (sym is) in
    ap (λ i. all' ++ rest i next' left) p
    ∙ ap (λ n. all' ++ rest (number + classes item) n left) q
    ∙ ap (λ l. l ++ rest (number + classes item) (next + count item) left) put
    ∙ append_assoc all (one number next item) (rest (number + classes item) (next + count item) left)
    ∙ ap (all ++◌) (sym (parts number next item left))
    ∙ ap (λ l. all ++ rest number next l) (sym here)
    ∙ before

-- ---- the declaration of a class

-- the number behind an initialiser
pub start_number : (classes : List ClassScope) (first n0 n1 : ℕ) (class : Class) → n0 ≡ first + 1 →
    n1 ≡ n0 + length (start_blocks (initialiser_scope classes (option_map pattern_of (out-Class class).factory)) (option_map clause_of (out-Class class).clause) (bars_of (out-Class class).slots) (statements_of (out-Class class).body)) →
    n1 ≡ first + length (b.initialiser_bodies classes (class_of class))
start_number classes first n0 n1 class one two =
    let there = initialiser_scope classes (option_map pattern_of (out-Class class).factory) in
    let blocks = start_blocks there (option_map clause_of (out-Class class).clause) (bars_of (out-Class class).slots) (statements_of (out-Class class).body) in
    let parts : there ∷ blocks ≡ b.initialiser_bodies classes (class_of class) = rw (class_out class) refl in
    let whole : n1 ≡ first + length (there ∷ blocks) = omega (one, two, arith) in
    whole ∙ ap (λ all. first + length all) parts

pub methods_made : (inside : c.Around) (first n0 n1 : ℕ) (class : Class) (methods : List m.Method) → n0 ≡ first + 1 →
    n1 ≡ n0 + length (start_blocks (initialiser_scope inside.classes (option_map pattern_of (out-Class class).factory)) (option_map clause_of (out-Class class).clause) (bars_of (out-Class class).slots) (statements_of (out-Class class).body)) →
    methods ≡ c.side_listed inside side.Instance n1 a.Protected (side_of (out-Class class).side) → methods ≡ methods_in inside first (class_of class)
methods_made inside first n0 n1 class methods e0 e1 e2 =
    let members = side_of (out-Class class).side in
    let parts : c.side_listed inside side.Instance (first + length (b.initialiser_bodies inside.classes (class_of class))) a.Protected members
    ≡ methods_in inside first (class_of class) = rw (class_out class) refl in
    e2 ∙ ap (λ n. c.side_listed inside side.Instance n a.Protected members) (start_number inside.classes first n0 n1 class e0 e1) ∙ parts

pub side_methods_made : (inside : c.Around) (first n0 n1 n2 : ℕ) (class : Class) (methods : List m.Method) → n0 ≡ first + 1 →
    n1 ≡ n0 + length (start_blocks (initialiser_scope inside.classes (option_map pattern_of (out-Class class).factory)) (option_map clause_of (out-Class class).clause) (bars_of (out-Class class).slots) (statements_of (out-Class class).body)) →
    n2 ≡ n1 + length (b.side_bodies inside.classes side.Instance (side_of (out-Class class).side)) →
    methods ≡ c.class_side_listed inside n2 (class_side_of (out-Class class).class_side) → methods ≡ side_methods_in inside first (class_of class)
side_methods_made inside first n0 n1 n2 class methods e0 e1 e2 e3 =
    let others = class_side_of (out-Class class).class_side in
    let sides = length (b.side_bodies inside.classes side.Instance (side_of (out-Class class).side)) in
    let at : n2 ≡ first + length (b.initialiser_bodies inside.classes (class_of class)) + sides =
    e2 ∙ ap (λ n. n + sides) (start_number inside.classes first n0 n1 class e0 e1) in
    let parts : c.class_side_listed inside (first + length (b.initialiser_bodies inside.classes (class_of class)) + sides) others
    ≡ side_methods_in inside first (class_of class) = rw (class_out class) refl in
    e3 ∙ ap (λ n. c.class_side_listed inside n others) at ∙ parts

pub declaration_made : (inside : c.Around) (outer clause : Option ℕ) (number first : ℕ) (class : Class) (name factory super : List ℕ) (params : ℕ) (slots : List m.Slot) (nested : List m.Nested) (methods side_methods : List m.Method) →
    name ≡ (out-Class class).name.text → factory ≡ c.factory_selector (option_map pattern_of (out-Class class).factory) →
    params ≡ length (factory_params (option_map pattern_of (out-Class class).factory)) →
    super ≡ c.super_selector (option_map clause_of (out-Class class).clause) → slots ≡ c.bars_slots (bars_of (out-Class class).slots) →
    nested ≡ c.side_nested (number + 1) (side_of (out-Class class).side) → methods ≡ methods_in inside first (class_of class) →
    side_methods ≡ side_methods_in inside first (class_of class) →
    record { name = name; outer = outer; factory = factory; params = params; clause = clause; initialiser = first; super_selector = super; slots = slots; nested = nested; methods = methods; side_methods = side_methods }
    ≡ declaration_in inside outer clause number first (class_of class)
declaration_made inside outer clause number first class name factory super params slots nested methods side_methods e0 e1 e2 e3 e4 e5 e6 e7 =
    let pattern = option_map pattern_of (out-Class class).factory in
    let built : List ℕ → List ℕ → ℕ → List ℕ → List m.Slot → List m.Nested → List m.Method → List m.Method → m.Declaration =
    λ nm f ps s sl n me sm. record { name = nm; outer = outer; factory = f; params = ps; clause = clause; initialiser = first; super_selector = s; slots = sl; nested = n; methods = me; side_methods = sm } in
    let nm = (out-Class class).name.text in
    let f = c.factory_selector pattern in
    let ps = length (factory_params pattern) in
    let s = c.super_selector (option_map clause_of (out-Class class).clause) in
    let sl = c.bars_slots (bars_of (out-Class class).slots) in
    let n = c.side_nested (number + 1) (side_of (out-Class class).side) in
    let me = methods_in inside first (class_of class) in
    let parts : built nm f ps s sl n me (side_methods_in inside first (class_of class)) ≡ declaration_in inside outer clause number first (class_of class) =
    rw (class_out class) refl in
    ap (λ x. built x factory params super slots nested methods side_methods) e0
    ∙ ap (λ x. built nm x params super slots nested methods side_methods) e1
    ∙ ap (λ x. built nm f x super slots nested methods side_methods) e2
    ∙ ap (λ x. built nm f ps x slots nested methods side_methods) e3
    ∙ ap (λ x. built nm f ps s x nested methods side_methods) e4
    ∙ ap (λ x. built nm f ps s sl x methods side_methods) e5
    ∙ ap (λ x. built nm f ps s sl n x side_methods) e6
    ∙ ap (built nm f ps s sl n me) e7
    ∙ parts

-- ---- a class, and those in it

pub class_listed : (around : c.Around) (number number' next n1 n2 : ℕ) (class : Class) (classes : List ClassScope) (declaration : m.Declaration) (l0 l1 l2 : List m.Declaration) →
    classes ≡ class_scope (class_of class) ∷ around.classes → n1 ≡ next + length (b.clause_bodies around.classes (option_map clause_of (out-Class class).clause)) →
    declaration ≡ declaration_in (record { classes = classes; outer = Some number; marks = around.marks }) around.outer (c.clause_number around next (option_map clause_of (out-Class class).clause)) number n1 (class_of class) →
    n2 ≡ n1 + length (b.own_bodies classes (class_of class)) → number' ≡ number + 1 → l1 ≡ l0 ++ declaration ∷ [] →
    l2 ≡ l1 ++ c.side_declared (record { classes = classes; outer = Some number; marks = around.marks }) number' n2 (side_of (out-Class class).side) →
    l2 ≡ l0 ++ c.class_declared around number next (class_of class)
class_listed around number number' next n1 n2 class classes declaration l0 l1 l2 seen e1 made e2 inner one two =
    let clause = option_map clause_of (out-Class class).clause in
    let members = side_of (out-Class class).side in
    let there : List ClassScope → c.Around = λ all. record { classes = all; outer = Some number; marks = around.marks } in
    let own = class_scope (class_of class) ∷ around.classes in
    let at = next + length (b.clause_bodies around.classes clause) in
    let behind = at + length (b.own_bodies own (class_of class)) in
    let first : List ClassScope → ℕ → m.Declaration = λ all n. declaration_in (there all) around.outer (c.clause_number around next clause) number n (class_of class) in
    let rest : List ClassScope → ℕ → ℕ → List m.Declaration = λ all i n. c.side_declared (there all) i n members in
    let parts : first own at ∷ rest own (number + 1) behind ≡ c.class_declared around number next (class_of class) = rw (class_out class) refl in
    let second : n2 ≡ behind = e2 ∙ ap (λ n. n + length (b.own_bodies classes (class_of class))) e1 ∙ ap (λ all. at + length (b.own_bodies all (class_of class))) seen in
    two
    ∙ ap (λ l. l ++ rest classes number' n2) one
    ∙ append_assoc l0 (declaration ∷ []) (rest classes number' n2)
    ∙ ap (λ d. l0 ++ d ∷ rest classes number' n2) (made ∙ ap (first classes) e1)
    ∙ ap (λ i. l0 ++ first classes at ∷ rest classes i n2) inner
    ∙ ap (λ n. l0 ++ first classes at ∷ rest classes (number + 1) n) second
    ∙ ap (λ all. l0 ++ first all at ∷ rest all (number + 1) behind) seen
    ∙ ap (l0 ++◌) parts

pub class_number : (outer classes : List ClassScope) (next n1 n2 last : ℕ) (class : Class) →
    classes ≡ class_scope (class_of class) ∷ outer →
    n1 ≡ next + length (b.clause_bodies outer (option_map clause_of (out-Class class).clause)) → n2 ≡ n1 + length (b.own_bodies classes (class_of class)) →
    last ≡ n2 + length (b.nested_bodies classes (side_of (out-Class class).side)) → last ≡ next + length (b.class_bodies outer (class_of class))
class_number outer classes next n1 n2 last class seen e1 e2 e3 =
    let clause = b.clause_bodies outer (option_map clause_of (out-Class class).clause) in
    let all = class_scope (class_of class) ∷ outer in
    let own = b.own_bodies all (class_of class) in
    let nested = b.nested_bodies all (side_of (out-Class class).side) in
    let parts : clause ++ (own ++ nested) ≡ b.class_bodies outer (class_of class) = rw (class_out class) refl in
    let q2 : n2 ≡ n1 + length own = e2 ∙ ap (λ l. n1 + length (b.own_bodies l (class_of class))) seen in
    let q3 : last ≡ n2 + length nested = e3 ∙ ap (λ l. n2 + length (b.nested_bodies l (side_of (out-Class class).side))) seen in
    let whole : last ≡ next + length (clause ++ (own ++ nested)) = omega (e1, q2, q3, length-append clause (own ++ nested), length-append own nested, arith) in
    whole ∙ ap (λ l. next + length l) parts

pub class_counted : (number number' last : ℕ) (class : Class) → number' ≡ number + 1 →
    last ≡ number' + c.side_count (side_of (out-Class class).side) →
    last ≡ number + c.class_count (class_of class)
class_counted number number' last class one two =
    let parts : c.class_count (class_of class) ≡ 1 + c.side_count (side_of (out-Class class).side) = rw (class_out class) refl in
    omega (one, two, parts, arith)
