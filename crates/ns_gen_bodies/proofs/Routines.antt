-- The code of one body, from its head and its lines.
use Rattle.std.proofs.Common.{◌≡◌, ◌∙◌, ℕ, ◌+◌, List, [], ◌++◌, length, ap, refl, sym, length-append, arith}
use Rattle.std.specs.Prelude.{nat_lt, Bool, true, false, Option, None, option_map}
use Rattle.std.proofs.lemmas.Bool.{ltb-true, ltb-false}
use Rattle.ns_tree.specs.declared.tree.Class.{Class, out-Class}
use Rattle.ns_tree.specs.declared.tree.Named.{Named}
use Rattle.ns_tree.specs.PlainOf.{class_of, bars_of, statements_of, clause_of, pattern_of}
use Rattle.ns_tree.specs.Plain as p
use Rattle.ns_tree.specs.laws.Nodes.{class_out}
use Rattle.ns_scope.specs.Scopes.{factory_params}
use Rattle.ns_scope.specs.Bodies as b
use Rattle.ns_code.specs.declared.body.BodyCode.{BodyCode}
use Rattle.ns_resolved.specs.Program as m
use Rattle.ns_resolved.specs.Expressions as e
use Rattle.ns_resolved.specs.Statements.{routine, body_with, are_any, bars_values, statements_steps}
use Rattle.ns_resolved.specs.Classes.{initialiser_body, clause_body}
use Rattle.ns_resolved.specs.Tables.{body_head, kind_of}
use Rattle.ns_gen_draft.specs.Drafts.{Written}
use Rattle.ns_gen_bodies.specs.Stepping.{with_body, routine_does}
use Rattle.ns_gen_bodies.specs.Starting.{start_of}
use Rattle.ns_gen_bodies.specs.Heading.{head_of}
use Rattle.ns_gen_bodies.specs.Coding.{Coded, begun, with_lines_of, with_one}

-- whether numbers were given
pub any_told : (first next count : ℕ) → next ≡ first + count → nat_lt first next ≡ nat_lt 0 count
any_told first next count e = tested (nat_lt first next) (nat_lt 0 count) refl refl where
  tested : (x y : Bool) → nat_lt first next ≡ x → nat_lt 0 count ≡ y → x ≡ y
  tested true true p q = refl
  tested false false p q = refl
  tested true false p q = absurd (omega (ltb-true first next p, ltb-false 0 count q, e, arith))
  tested false true p q = absurd (omega (ltb-false first next p, ltb-true 0 count q, e, arith))

one_put : (body : m.Body) (head : BodyCode) (lines : Written) (view before after : Coded) → head ≡ body_head body →
    lines ≡ with_body body.does (begun view) → after ≡ with_lines_of head lines view → view ≡ before → after ≡ with_one body before
one_put body head lines view before after is written put seen =
    put ∙ ap (λ (h : BodyCode). with_lines_of h lines view) is ∙ ap (λ (l : Written). with_lines_of (body_head body) l view) written
    ∙ ap (with_one body) seen

-- a method or a block
pub routine_put : (kind : List m.First → List m.Step → m.Does) (tag : ℕ) (here : e.Standing) (parent : Option ℕ) (given params : List Named) (bars : p.Bars) (body : p.Statements) (first parameters next : ℕ) (head : BodyCode) (w0 w1 : Written) (view before after : Coded) →
    ((values : List m.First) (steps : List m.Step) → kind_of (kind values steps) ≡ tag) → given ≡ params → first ≡ here.body + 1 →
    parameters ≡ length given → next ≡ first + length (b.bars_blocks here.scope bars ++ b.statements_blocks here.scope body) →
    head ≡ head_of here tag parent given bars (nat_lt first next) → w0 ≡ begun view →
    w1 ≡ with_body (routine_does kind here first parameters bars body) w0 → after ≡ with_lines_of head w1 view → view ≡ before →
    after ≡ with_one (routine here parent kind params bars body) before
routine_put kind tag here parent given params bars body first parameters next head w0 w1 view before after tags same begins many numbered headed clear written put seen =
    let whole = routine here parent kind params bars body in
    let blocks = b.bars_blocks here.scope bars ++ b.statements_blocks here.scope body in
    let values = bars_values here (here.body + 1) (length params) bars in
    let steps = statements_steps here (here.body + 1 + length (b.bars_blocks here.scope bars)) body in
    let head_is : head ≡ body_head whole =
    headed ∙ ap (λ ps. head_of here tag parent ps bars (nat_lt first next)) same
    ∙ ap (head_of here tag parent params bars) (any_told first next (length blocks) numbered)
    ∙ ap (λ k. head_of here k parent params bars (are_any blocks)) (sym (tags values steps)) in
    let lines : w1 ≡ with_body whole.does (begun view) =
    written ∙ ap (λ n. with_body (routine_does kind here n parameters bars body) w0) begins
    ∙ ap (λ n. with_body (routine_does kind here (here.body + 1) n bars body) w0) (many ∙ ap length same)
    ∙ ap (with_body whole.does) clear in
    one_put whole head w1 view before after head_is lines put seen

-- an initialiser
pub start_put : (here : e.Standing) (class : Class) (given : List Named) (first next : ℕ) (head : BodyCode) (w0 w1 : Written) (view before after : Coded) →
    given ≡ factory_params (option_map pattern_of (out-Class class).factory) → first ≡ here.body + 1 →
    next ≡ first + length (b.super_blocks here.scope (option_map clause_of (out-Class class).clause)) + length (b.bars_blocks here.scope (bars_of (out-Class class).slots)) + length (b.statements_blocks here.scope (statements_of (out-Class class).body)) →
    head ≡ head_of here 2 None given p.no_bars (nat_lt first next) → w0 ≡ begun view →
    w1 ≡ with_body (m.as_initialiser (start_of here first (out-Class class).name (option_map clause_of (out-Class class).clause) (bars_of (out-Class class).slots) (statements_of (out-Class class).body))) w0 →
    after ≡ with_lines_of head w1 view → view ≡ before → after ≡ with_one (initialiser_body here (class_of class)) before
start_put here class given first next head w0 w1 view before after same begins numbered headed clear written put seen =
    let clause = option_map clause_of (out-Class class).clause in
    let bars = bars_of (out-Class class).slots in
    let body = statements_of (out-Class class).body in
    let params = factory_params (option_map pattern_of (out-Class class).factory) in
    let in_super = b.super_blocks here.scope clause in
    let in_bars = b.bars_blocks here.scope bars in
    let in_body = b.statements_blocks here.scope body in
    let blocks = in_super ++ (in_bars ++ in_body) in
    let does : m.Does = m.as_initialiser (start_of here (here.body + 1) (out-Class class).name clause bars body) in
    let count : next ≡ first + length blocks = omega (numbered, length-append in_super (in_bars ++ in_body), length-append in_bars in_body, arith) in
    let head_is : head ≡ head_of here 2 None params p.no_bars (are_any blocks) =
    headed ∙ ap (λ ps. head_of here 2 None ps p.no_bars (nat_lt first next)) same
    ∙ ap (head_of here 2 None params p.no_bars) (any_told first next (length blocks) count) in
    let lines : w1 ≡ with_body does (begun view) =
    written ∙ ap (λ n. with_body (m.as_initialiser (start_of here n (out-Class class).name clause bars body)) w0) begins ∙ ap (with_body does) clear in
    let plain : m.Body = body_with here None params p.no_bars blocks does in
    let parts : with_one plain before ≡ with_one (initialiser_body here (class_of class)) before = rw (class_out class) refl in
    one_put plain head w1 view before after head_is lines put seen ∙ parts

-- a clause
pub clause_put : (here : e.Standing) (clause : p.SuperClause) (does : m.Does) (head : BodyCode) (w0 w1 : Written) (view before after : Coded) →
    body_head (clause_body here clause) ≡ head_of here 3 None [] p.no_bars false → (clause_body here clause).does ≡ does →
    head ≡ head_of here 3 None [] p.no_bars false → w0 ≡ begun view → w1 ≡ with_body does w0 → after ≡ with_lines_of head w1 view → view ≡ before →
    after ≡ with_one (clause_body here clause) before
clause_put here clause does head w0 w1 view before after heads same headed clear written put seen =
    one_put (clause_body here clause) head w1 view before after (headed ∙ sym heads)
    (written ∙ ap (λ d. with_body d w0) (sym same) ∙ ap (with_body (clause_body here clause).does) clear) put seen
