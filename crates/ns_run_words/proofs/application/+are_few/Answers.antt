use Rattle.std.proofs.Common.{◌≡◌, ◌∙◌, ◌≤◌, ◌-◌, ◌&&◌, ◌∷◌, [], None, Some, ap, sym, arith, true, false}
use Rattle.std.proofs.lemmas.Bool.Decides.{nat_tests}
use Rattle.ns_run_words.specs.Application.{are_few, names_in}
use Rattle.ns_run_words.specs.FileName.{is_file_name}
use Rattle.ns_run_words.proofs.ApplicationLaws.{more_are_few, no_room, one_is_few, split_names}
use Rattle.ns_run_words.proofs.application.+are_few.Goals as goal

pub returns-then-most-eq0 : goal.returns-then-most-eq0
returns-then-most-eq0 m c =
    let none : c.args.most ≡ 0 = grind (arith, nat_tests, c.if-most-eq0.true) in
    sym (ap (λ n. are_few n (names_in c.args.names.now)) none ∙ no_room c.args.names.now)

pub returns-then-is_file_name : goal.returns-then-is_file_name
returns-then-is_file_name m c =
    let some : 1 ≤ c.args.most = grind (arith, nat_tests, c.if-most-eq0.false) in
    let names : names_in c.args.names.now ≡ c.in-Some.name.now ∷ names_in c.in-Some.rest.now = split_names c.args.names.now (Some (c.in-Some.name, c.in-Some.rest)) c.in-Some.ensures.cases in
    let first : is_file_name c.in-Some.name.now ≡ true = sym (ap is_file_name c.as_bytes.ensures.value) ∙ sym c.is_file_name.ensures ∙ c.if-is_file_name.true in
    c.are_few.ensures
    ∙ ap (λ q. q && are_few (c.args.most - 1) (names_in c.in-Some.rest.now)) (sym first)
    ∙ sym (more_are_few c.args.most c.in-Some.name.now (names_in c.in-Some.rest.now) some)
    ∙ ap (are_few c.args.most) (sym names)

pub returns-else-is_file_name : goal.returns-else-is_file_name
returns-else-is_file_name m c =
    let some : 1 ≤ c.args.most = grind (arith, nat_tests, c.if-most-eq0.false) in
    let names : names_in c.args.names.now ≡ c.in-Some.name.now ∷ names_in c.in-Some.rest.now = split_names c.args.names.now (Some (c.in-Some.name, c.in-Some.rest)) c.in-Some.ensures.cases in
    let first : is_file_name c.in-Some.name.now ≡ false = sym (ap is_file_name c.as_bytes.ensures.value) ∙ sym c.is_file_name.ensures ∙ c.if-is_file_name.false in
    c.if-is_file_name.false
    ∙ ap (λ q. q && are_few (c.args.most - 1) (names_in c.in-Some.rest.now)) (sym first)
    ∙ sym (more_are_few c.args.most c.in-Some.name.now (names_in c.in-Some.rest.now) some)
    ∙ ap (are_few c.args.most) (sym names)

pub returns-in-None : goal.returns-in-None
returns-in-None m c =
    let some : 1 ≤ c.args.most = grind (arith, nat_tests, c.if-most-eq0.false) in
    let names : names_in c.args.names.now ≡ c.args.names.now ∷ [] = split_names c.args.names.now None c.in-None.ensures.cases in
    c.is_file_name-in-None.ensures
    ∙ ap is_file_name c.as_bytes-in-None.ensures.value
    ∙ sym (one_is_few c.args.most c.args.names.now some)
    ∙ ap (are_few c.args.most) (sym names)
