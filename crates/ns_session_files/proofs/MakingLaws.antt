-- Applications that are made one after another.
use Rattle.std.proofs.Common.{◌≡◌, ℕ, zero, suc, ◌+◌, ◌≤◌, ◌-◌, ◌&&◌, List, [], ◌∷◌, ◌++◌, length, map, take, drop, refl, ap, sym, subst, ◌∙◌, arith, Bool, true, false, Option, None, Result, Ok, Err, IfOk, IfErr, IsUtf8, nat_le, append_assoc}
use Rattle.std.specs.Prelude.{All, IsErrAnd, get_or}
use Rattle.std.proofs.lemmas.Bool.Decides.{nat_tests}
use Rattle.std.proofs.lemmas.List.Elements.{All-cons, All-head, All-nil, All-tail}
use Rattle.std.proofs.lemmas.List.{length-append, length-map, map-append, take_all}
use Rattle.ns_base.specs.Files.{Files}
use Rattle.ns_base.specs.declared.limits.Limits.{Limits}
use Rattle.ns_facets.specs.declared.row.Grants.{Grants}
use Rattle.ns_code.specs.declared.program.CodeProgram.{CodeProgram}
use Rattle.ns_gen_code.specs.Code.{code_of}
use Rattle.ns_resolved.specs.Classes.{meant}
use Rattle.ns_static_rules.specs.declared.fault.Placed.{Placed}
use Rattle.ns_scope.specs.Whole.{NamesFile}
use Rattle.ns_scope.specs.declared.program.Program.{Program}
use Rattle.ns_static.specs.Check.{fault_of}
use Rattle.ns_tree.specs.PlainOf.{unit_of}
use Rattle.ns_load.specs.Loaded.{Loading, file_names, units}
use Rattle.ns_session.specs.Member.{Application, MemberView, starting}
use Rattle.ns_session.specs.Session.{SessionView, added}
use Rattle.ns_run_words.specs.Application.{Asked, all_name_files, are_few}
use Rattle.ns_run_words.specs.FileName.{is_file_name}
use Rattle.ns_run_words.specs.Named.{OfSomeName, OfSomeTexts}
use Rattle.ns_session_files.specs.Answer.{AreAdmitted, IsCodeOf, IsFaultOfMaking, IsMadeAs, IsWithAll, AddsAll, with_all}
use Rattle.ns_session_files.specs.Making.{Making, Source, all_made, application_of, behind, files_asked, made, made_of, of_least, of_loading, of_source, refused, then_made}
use Rattle.ns_session_files.specs.declared.fault.JointFault.{JointFault}
use Rattle.ns_session_files.specs.declared.fault.JointFault.TheVariants as fault

-- ---- one after another

admitted_both : (one other : List Source) → AreAdmitted one → AreAdmitted other → AreAdmitted (one ++ other)
admitted_both [] other a b = b
admitted_both (source ∷ one) other a b = (a.0, admitted_both one other a.1 b)

all_both : (limits : Limits) (one other : List Source) (old : SessionView) →
    with_all limits other (with_all limits one old) ≡ with_all limits (one ++ other) old
all_both limits one other old =
    let f : Source → Application = application_of limits in
    let members : (old.members ++ map starting (map f one)) ++ map starting (map f other) ≡ old.members ++ map starting (map f (one ++ other)) =
    append_assoc old.members (map starting (map f one)) (map starting (map f other))
    ∙ ap (λ (xs : List MemberView). old.members ++ xs) (sym (map-append starting (map f one) (map f other)))
    ∙ ap (λ (xs : List Application). old.members ++ map starting xs) (sym (map-append f one other))
    in
    ap (λ (xs : List MemberView). record old { members = xs }) members

-- a refusal is the first
fault_first : (one other : Making) (why : JointFault) → IsFaultOfMaking one why → IsFaultOfMaking (then_made one other) why
fault_first one other fault.Unread h = tt
fault_first one other (fault.Unloaded names cause file) h = ap (λ m. then_made m other) h
fault_first one other (fault.Unchecked names place cause) h = ap (λ m. then_made m other) h
fault_first one other (fault.TooLarge kind) h = ap (λ m. then_made m other) h
fault_first one other fault.Memory h = tt

fault_next : (sources : List Source) (other : Making) (why : JointFault) → IsFaultOfMaking other why →
    IsFaultOfMaking (behind sources other) why
fault_next sources other fault.Unread h = tt
fault_next sources other (fault.Unloaded names cause file) h = ap (behind sources) h
fault_next sources other (fault.Unchecked names place cause) h = ap (behind sources) h
fault_next sources other (fault.TooLarge kind) h = ap (behind sources) h
fault_next sources other fault.Memory h = tt

all_next : (limits : Limits) (sources : List Source) (other : Making) (old mid new : SessionView) →
    (mid ≡ with_all limits sources old) × AreAdmitted sources → IsWithAll limits other mid new →
    IsWithAll limits (behind sources other) old new
all_next limits sources (made more) old mid new (is, a) (next, b) =
    (next ∙ ap (with_all limits more) is ∙ all_both limits sources more old, admitted_both sources more a b)
all_next limits sources (refused why) old mid new h k = absurd k

then_makes : (limits : Limits) (one other : Making) (old mid new : SessionView) (result : Result (Unit {0}) JointFault) →
    IsWithAll limits one old mid → AddsAll limits other mid new result → AddsAll limits (then_made one other) old new result
then_makes limits (made sources) other old mid new (Ok _) h k = all_next limits sources other old mid new h k
then_makes limits (made sources) other old mid new (Err why) h k = fault_next sources other why k
then_makes limits (refused why) other old mid new result h k = absurd h

-- ---- texts of one application before those of the others

taken : {A : Type 0} (xs ys : List A) → take (length xs) (xs ++ ys) ≡ xs
taken [] ys = refl
taken (x ∷ xs) ys = ap (λ (zs : List _). x ∷ zs) (taken xs ys)

left : {A : Type 0} (xs ys : List A) → drop (length xs) (xs ++ ys) ≡ ys
left [] ys = refl
left (x ∷ xs) ys = left xs ys

apart : (lib : Bool) (asked : Asked) (more : List Asked) (one others : List (Option (List ℕ))) → length one ≡ length asked.names
    → all_made lib (asked ∷ more) (one ++ others) ≡ then_made (made_of lib asked one) (all_made lib more others)
apart lib asked more one others e =
    ap (λ n. then_made (made_of lib asked (take n (one ++ others))) (all_made lib more (drop n (one ++ others)))) (sym e)
    ∙ ap (λ (t : List (Option (List ℕ))). then_made (made_of lib asked t) (all_made lib more (drop (length one) (one ++ others)))) (taken one others)
    ∙ ap (λ (t : List (Option (List ℕ))). then_made (made_of lib asked one) (all_made lib more t)) (left one others)

module _ (limits : Limits) (lib : Bool) (asked : Asked) (more : List Asked) (old mid new : SessionView) where
  -- An application was made, and then the others.
  pub next_texts : (result : Result (Unit {0}) JointFault) → OfSomeTexts asked.names (λ texts. AddsAll limits (made_of lib asked texts) old mid (Ok tt)) → OfSomeTexts (files_asked more) (λ texts. AddsAll limits (all_made lib more texts) mid new result)
      → OfSomeTexts (files_asked (asked ∷ more)) (λ texts. AddsAll limits (all_made lib (asked ∷ more) texts) old new result)
  next_texts result (one, n, h) (others, m, k) = (
    one ++ others,
    length-append one others ∙ omega (arith, n, m, length-append asked.names (files_asked more)),
    subst (λ making. AddsAll limits making old new result) (sym (apart lib asked more one others n)) (then_makes limits (made_of lib asked one) (all_made lib more others) old mid new result h k),
  )

  pub next_told : (files : Files) (result : Result (Unit {0}) JointFault) → AddsAll limits (made_of lib asked (map files asked.names)) old mid (Ok tt) → AddsAll limits (all_made lib more (map files (files_asked more))) mid new result
      → AddsAll limits (all_made lib (asked ∷ more) (map files (files_asked (asked ∷ more)))) old new result
  next_told files result h k =
      subst (λ (t : List (Option (List ℕ))). AddsAll limits (all_made lib (asked ∷ more) t) old new result) (sym (map-append files asked.names (files_asked more)))
      (subst (λ making. AddsAll limits making old new result) (sym (apart lib asked more (map files asked.names) (map files (files_asked more)) (length-map asked.names files)))
      (then_makes limits (made_of lib asked (map files asked.names)) (all_made lib more (map files (files_asked more))) old mid new result h k))

  -- An application was refused.
  pub first_texts : (why : JointFault) → OfSomeTexts asked.names (λ texts. IsFaultOfMaking (made_of lib asked texts) why) → OfSomeTexts (files_asked (asked ∷ more)) (λ texts. IsFaultOfMaking (all_made lib (asked ∷ more) texts) why)
  first_texts why (one, n, h) =
      let others : OfSomeTexts (files_asked more) (λ texts. Unit {0}) = empty (files_asked more) in (
        one ++ others.0,
        length-append one others.0 ∙ omega (arith, n, others.1, length-append asked.names (files_asked more)),
        subst (λ making. IsFaultOfMaking making why) (sym (apart lib asked more one others.0 n)) (fault_first (made_of lib asked one) (all_made lib more others.0) why h),
      )
    where
      empty : (names : List (List ℕ)) → OfSomeTexts names (λ texts. Unit {0})
      empty [] = ([], refl, tt)
      empty (name ∷ names) = let t : OfSomeTexts names (λ texts. Unit {0}) = empty names in (None ∷ t.0, omega (arith, t.1), tt)

-- The first of words, and the others.
pub cons_of : {A : Type 0} (xs : List A) (x : A) → 1 ≤ length xs → x ≡ get_or xs 0 x → xs ≡ x ∷ take (length xs - 1) (drop 1 xs)
cons_of [] x l e = absurd (omega (arith, l))
cons_of (y ∷ xs) x l e =
    let all : take (length (y ∷ xs) - 1) xs ≡ xs = take_all (length (y ∷ xs) - 1) xs (omega arith) in
    ap (λ (z : _). z ∷ xs) (sym e) ∙ ap (λ (zs : List _). x ∷ zs) (sym all)

-- ---- names

pub some_front : (names more : List (List ℕ)) (P : List ℕ → Type 0) → OfSomeName names P → OfSomeName (names ++ more) P
some_front [] more P (k, s) = absurd s
some_front (name ∷ names) more P (zero, s) = (zero, s)
some_front (name ∷ names) more P (suc k, s) = let r : OfSomeName (names ++ more) P = some_front names more P (k, s) in (suc r.0, r.1)

pub some_back : (names more : List (List ℕ)) (P : List ℕ → Type 0) → OfSomeName more P → OfSomeName (names ++ more) P
some_back [] more P s = s
some_back (name ∷ names) more P s = let r : OfSomeName (names ++ more) P = some_back names more P s in (suc r.0, r.1)

-- ---- one application

pub memory_texts :
    (grants : Grants) (names : List (List ℕ)) (making : List (Option (List ℕ)) → Making) (result : Result CodeProgram JointFault) →
    IsErrAnd result (λ e. e ≡ fault.Memory) → OfSomeTexts names (λ texts. IsMadeAs grants (making texts) result)
memory_texts grants names making (Ok code) h = absurd h
memory_texts grants names making (Err why) h =
    let t : OfSomeTexts names (λ texts. Unit {0}) = empty names in (t.0, t.1, subst (λ e. IsFaultOfMaking (making t.0) e) (sym h) tt)
  where
    empty : (names : List (List ℕ)) → OfSomeTexts names (λ texts. Unit {0})
    empty [] = ([], refl, tt)
    empty (name ∷ names) = let t : OfSomeTexts names (λ texts. Unit {0}) = empty names in (None ∷ t.0, omega (arith, t.1), tt)

-- a program without static faults
pub program_made : (names : List (List ℕ)) (grants : Grants) (program checked : Program) (result : Result CodeProgram JointFault) →
    checked ≡ program → fault_of program ≡ None
    → IsMadeAs grants (of_source (record { meant = meant checked; grants = grants })) result → IsMadeAs grants (of_least names grants program.files (map unit_of program.units) program.marks (fault_of program)) result
program_made names grants program checked result is none h =
    subst (λ (least : Option Placed). IsMadeAs grants (of_least names grants program.files (map unit_of program.units) program.marks least) result) (sym none)
    (subst (λ (each : Program). IsMadeAs grants (of_source (record { meant = meant each; grants = grants })) result) is h)

-- a program that was loaded
pub loading_made :
    (own names : List (List ℕ)) (grants : Grants) (lib : Bool) (loading : Loading) (program : Program) (result : Result CodeProgram JointFault) →
    names ≡ own → program.files ≡ file_names names lib → loading ≡ units (map unit_of program.units) program.marks
    → IsMadeAs grants (of_least own grants program.files (map unit_of program.units) program.marks (fault_of program)) result → IsMadeAs grants (of_loading names grants lib loading) result
loading_made own names grants lib loading program result same files is h =
    subst (λ (l : Loading). IsMadeAs grants (of_loading names grants lib l) result) (sym is)
    (subst (λ (f : List (List ℕ)). IsMadeAs grants (of_least names grants f (map unit_of program.units) program.marks (fault_of program)) result) files
    (subst (λ (n : List (List ℕ)). IsMadeAs grants (of_least n grants program.files (map unit_of program.units) program.marks (fault_of program)) result) (sym same) h))

-- Names that are few are names of files.
pub all_named : (names : List (List ℕ)) → all_name_files names ≡ true → All IsUtf8 names → All NamesFile names
all_named [] e u = All-nil NamesFile
all_named (name ∷ names) e u =
    All-cons NamesFile name names (named name (All-head IsUtf8 name names u) (first (is_file_name name) e)) (all_named names (rest (is_file_name name) e) (All-tail IsUtf8 name names u))
  where
    first : (q : Bool) → (q && all_name_files names) ≡ true → q ≡ true
    first true e = refl
    first false e = e

    rest : (q : Bool) → (q && all_name_files names) ≡ true → all_name_files names ≡ true
    rest true e = e
    rest false e = absurd (cc (e))

    named : (name : List ℕ) → IsUtf8 name → is_file_name name ≡ true → NamesFile name
    named [] u e = absurd (cc (e))
    named (b ∷ bs) u e = (u, (λ h. cc (h)), grind (arith, nat_tests, e))

pub few_named : (most : ℕ) (names : List (List ℕ)) → are_few most names ≡ true → all_name_files names ≡ true
few_named most names e = second (nat_le (length names) most) e
  where
    second : (q : Bool) → (q && all_name_files names) ≡ true → all_name_files names ≡ true
    second true e = e
    second false e = absurd (cc (e))

-- An application that was made is added.
pub one_makes :
    (limits : Limits) (grants given : Grants) (making : Making) (code : CodeProgram) (old new : SessionView) (result : Result (Unit {0}) JointFault) →
    IsCodeOf grants making code → given ≡ grants
    → IfOk result (λ done. new ≡ added (record { code = code; grants = given; limits = limits }) old) → IfErr result (λ why. why ≡ fault.Memory) → AddsAll limits making old new result
one_makes limits grants given (made []) code old new result h g a m = absurd h
one_makes limits grants given (made (source ∷ [])) code old new (Ok done) h g a m =
    let is : record { code = code; grants = given; limits = limits } ≡ application_of limits source =
    ap (λ (c : CodeProgram). record { code = c; grants = given; limits = limits }) h.0
    ∙ ap (λ (k : Grants). record { code = code_of source.meant; grants = k; limits = limits }) (g ∙ sym h.1)
    in (a ∙ ap (λ (application : Application). added application old) is, (h.2, tt))
one_makes limits grants given (made (source ∷ [])) code old new (Err why) h g a m =
    subst (λ e. IsFaultOfMaking (made (source ∷ [])) e) (sym m) tt
one_makes limits grants given (made (source ∷ next ∷ more)) code old new result h g a m = absurd h
one_makes limits grants given (refused why) code old new result h g a m = absurd h
