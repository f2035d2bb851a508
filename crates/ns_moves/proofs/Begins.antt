-- A new machine is in a valid state, and so is an idle one with a send of the host.
use Rattle.std.proofs.Common.{◌≡◌, ℕ, suc, ◌+◌, List, [], ◌∷◌, ◌++◌, length, map, take, drop, reverse, All, refl, sym, ap, ◌∙◌, subst, arith}
use Rattle.std.proofs.Common.{append_assoc, Option, Some, None, Bool, true, false, cond}
use Rattle.std.specs.Prelude.{nat_le, slice_get}
use Rattle.std.specs.List.{list_all}
use Rattle.std.specs.Option.{ForSome}
use Rattle.std.proofs.Math.Seq.{take-append_seam, drop-append_seam}
use Rattle.ns_base.specs.declared.selector.Sel.{Sel}
use Rattle.ns_code.specs.declared.program.CodeProgram.{CodeProgram}
use Rattle.ns_code.specs.declared.class.ClassCode.{ClassCode}
use Rattle.ns_verify.specs.Verify.{IsSound}
use Rattle.ns_code.specs.Soundness.{has_sound_classes, are_parents_earlier}
use Rattle.ns_world.specs.declared.value.Value.{Value}
use Rattle.ns_world.specs.declared.value.Value.TheVariants.{Nil, Ref}
use Rattle.ns_world.specs.declared.ending.Ending.{Ending}
use Rattle.ns_world.specs.declared.ending.Ending.TheVariants.{Done, Error, Limit}
use Rattle.ns_world.specs.declared.cell.FacetKind.{FacetKind}
use Rattle.ns_world.specs.Cell.{Cell, ArrayCell, TextCell, FacetCell, cell_size}
use Rattle.ns_world.specs.Heap.{Heap, heap_size, cell_number}
use Rattle.ns_world.specs.Lawful.{IsLiveValue, HasEnclosing}
use Rattle.ns_world.specs.laws.Charging.{empty_is_lawful}
use Rattle.ns_facets.specs.declared.row.Grants.{Grants}
use Rattle.ns_moves.specs.Control.{Progress, After, Gives, Halts}
use Rattle.ns_moves.specs.Start.{facet_if, facets_of, top_if, tops_of, standing_cells, numbers_from, size_of_cells, start_cells, nothing_done, start_made}
use Rattle.ns_moves.specs.Sends.{site_at}
use Rattle.ns_moves.specs.Lawful.{FitsSelector}
use Rattle.ns_moves.specs.laws.Sites.{site_fits}
use Rattle.ns_moves.specs.State.{Sending, Start, First, Second, Hosted, State, Unbegun, Going, Pends, Ended, Stuck, progress_of}
use Rattle.ns_moves.specs.Starts.{unbegun}
use Rattle.ns_moves.specs.Valid.{BeginsWith, WorldIsValid, fitting, array_behind, is_no_facet, blocks_have_homes, EndIsValid, Valid}
use Rattle.ns_moves.specs.Beginning.{NewIsValid, MayBegin, HostKeepsValid}
use Rattle.ns_moves.proofs.WorldCells.{both_of, first_of, second_of}
use Rattle.ns_moves.proofs.BeginsCells.{IsClean, MayStart, made_all, AllMayStart, may_start_on, last_of, MadeAll, all_made_all, sizes_add}
use Rattle.ns_moves.proofs.BeginsCells.{made_size, last_at, behind_texts, texts_live}

-- ---- the cells of a start may be made

facet_may : (code : CodeProgram) (granted : Bool) (kind : FacetKind) (heap : Heap) → AllMayStart code heap (facet_if granted kind)
facet_may code true kind heap = (record { superclass = refl; made = tt; holds = tt; homes = λ h. h }, tt)
facet_may code false kind heap = tt

one_facet : (code : CodeProgram) (kind : FacetKind) (heap : Heap) → MayStart code heap (FacetCell kind)
one_facet code kind heap = record { superclass = refl; made = tt; holds = tt; homes = λ h. h }

facets_may : (code : CodeProgram) (grants : Grants) (heap : Heap) → AllMayStart code heap (facets_of grants)
facets_may code grants heap = (
  one_facet code _ heap,
  (
    one_facet code _ _,
    may_start_on code _ (facet_if grants.console _) _ (facet_may code grants.console _ _)
        (may_start_on code _ (facet_if grants.mirrors _) _ (facet_may code grants.mirrors _ _)
        (may_start_on code _ (facet_if grants.kernel _) (facet_if grants.board _) (facet_may code grants.kernel _ _) (facet_may code grants.board _ _))),
  ),
)

top_may : (code : CodeProgram) (decl : ℕ) (class : ClassCode) (heap : Heap) → slice_get code.classes decl ≡ Some class
    → AllMayStart code heap (top_if class.outer decl)
top_may code decl class heap e = tested class.outer refl
  where
    enclosing : class.outer ≡ None → ForSome (slice_get code.classes decl) (λ (c : ClassCode). HasEnclosing heap code c.outer Nil Nil)
    enclosing n = λ c f.
        let both : Some class ≡ Some c = sym e ∙ f in
        let same : class ≡ c = cc in
        subst (λ (c : ClassCode). HasEnclosing heap code c.outer Nil Nil) same (subst (λ o. HasEnclosing heap code o Nil Nil) (sym n) (refl, refl))

    tested : (o : Option ℕ) → class.outer ≡ o → AllMayStart code heap (top_if o decl)
    tested None n = (record { superclass = refl; made = ((rw e refl, enclosing n), refl, omega arith); holds = tt; homes = λ h. h }, tt)
    tested (Some outer) n = tt

tops_may : (code : CodeProgram) (decl : ℕ) (classes : List ClassCode) (heap : Heap)
    → ((k : ℕ) (c : ClassCode) → slice_get classes k ≡ Some c → slice_get code.classes (decl + k) ≡ Some c) → AllMayStart code heap (tops_of decl classes)
tops_may code decl [] heap there = tt
tops_may code decl (class ∷ classes) heap there =
    let zeroth : decl + 0 ≡ decl = omega arith in
    may_start_on code heap (top_if class.outer decl) (tops_of (decl + 1) classes)
    (top_may code decl class heap (subst (λ n. slice_get code.classes n ≡ Some class) zeroth (there 0 class refl)))
    (tops_may code (decl + 1) classes (made_all (top_if class.outer decl) heap)
    (λ k c e. let one : decl + suc k ≡ decl + 1 + k = omega arith in subst (λ n. slice_get code.classes n ≡ Some c) one (there (suc k) c e)))

standing_may : (code : CodeProgram) (grants : Grants) → AllMayStart code [] (standing_cells code grants)
standing_may code grants =
    may_start_on code [] (facets_of grants) (tops_of 0 code.classes) (facets_may code grants [])
    (tops_may code 0 code.classes (made_all (facets_of grants) []) (λ k c e. let zeroth : k ≡ 0 + k = omega arith in
    subst (λ n. slice_get code.classes n ≡ Some c) zeroth e))

texts_may : (code : CodeProgram) (texts : List (List ℕ)) (heap : Heap) → AllMayStart code heap (map TextCell texts)
texts_may code [] heap = tt
texts_may code (text ∷ texts) heap =
    (record { superclass = refl; made = tt; holds = tt; homes = λ h. h }, texts_may code texts (TextCell text ∷ heap))

-- the texts of the arguments and their array
abbrev behind_standing : CodeProgram → Grants → List (List ℕ) → List Cell
behind_standing code grants arguments =
    map TextCell arguments ++ ArrayCell (map Ref (numbers_from (size_of_cells (standing_cells code grants)) (map TextCell arguments))) ∷ []

start_may : (code : CodeProgram) (grants : Grants) (arguments : List (List ℕ)) → AllMayStart code [] (start_cells code grants arguments)
start_may code grants arguments =
    let standing : List Cell = standing_cells code grants in
    let before : Heap = made_all standing [] in
    let size : heap_size before ≡ size_of_cells standing = omega (arith, made_size standing []) in
    let live = subst (λ n. All (IsLiveValue (made_all (map TextCell arguments) before) code) (map Ref (numbers_from n (map TextCell arguments)))) size
    (texts_live code arguments before) in
    may_start_on code [] standing (behind_standing code grants arguments) (standing_may code grants)
    (may_start_on code before (map TextCell arguments) _ (texts_may code arguments before)
    (record { superclass = refl; made = tt; holds = live; homes = λ h. h }, tt))

no_facet_behind : (texts : List (List ℕ)) (items : List Value) → list_all is_no_facet (map TextCell texts ++ ArrayCell items ∷ []) ≡ true
no_facet_behind [] items = refl
no_facet_behind (text ∷ texts) items = no_facet_behind texts items

-- ---- a start that doesn't fit

none_fits : (room used : ℕ) (cells : List Cell) → list_all is_no_facet cells ≡ true → list_all is_no_facet (fitting room used cells) ≡ true
none_fits room used [] e = refl
none_fits room used (cell ∷ cells) e =
    tested (nat_le (used + cell_size cell) room) (none_fits room (used + cell_size cell) cells (second_of (is_no_facet cell) (list_all is_no_facet cells) e))
  where
    tested : (b : Bool) → list_all is_no_facet (fitting room (used + cell_size cell) cells) ≡ true
        → list_all is_no_facet (cond b (cell ∷ fitting room (used + cell_size cell) cells) []) ≡ true
    tested true f = both_of (is_no_facet cell) _ (first_of (is_no_facet cell) (list_all is_no_facet cells) e) f
    tested false f = refl

-- what fits begins with what fits of the first ones, and then there is no facet
record Fronts (room used : ℕ) (first second : List Cell) : Type 0 where
  start : take (length (fitting room used first)) (fitting room used (first ++ second)) ≡ fitting room used first
  others : list_all is_no_facet (drop (length (fitting room used first)) (fitting room used (first ++ second))) ≡ true

fronts : (room used : ℕ) (first second : List Cell) → list_all is_no_facet second ≡ true → Fronts room used first second
fronts room used [] second e = record { start = refl; others = none_fits room used second e }
fronts room used (cell ∷ first) second e =
    let below = fronts room (used + cell_size cell) first second e in
    tested (nat_le (used + cell_size cell) room) below.start below.others
  where
    inner : List Cell
    inner = fitting room (used + cell_size cell) first

    whole : List Cell
    whole = fitting room (used + cell_size cell) (first ++ second)

    split : (b : Bool) → take (length inner) whole ≡ inner → take (length (cond b (cell ∷ inner) [])) (cond b (cell ∷ whole) []) ≡ cond b (cell ∷ inner) []
    split true s = ap (λ cells. cell ∷ cells) s
    split false s = refl

    rest : (b : Bool) → list_all is_no_facet (drop (length inner) whole) ≡ true
        → list_all is_no_facet (drop (length (cond b (cell ∷ inner) [])) (cond b (cell ∷ whole) [])) ≡ true
    rest true o = o
    rest false o = refl

    tested : (b : Bool) → take (length inner) whole ≡ inner → list_all is_no_facet (drop (length inner) whole) ≡ true → Fronts room used (cell ∷ first) second
    tested b s o = record { start = split (nat_le (used + cell_size cell) room) s; others = rest (nat_le (used + cell_size cell) room) o }

-- ---- the first state

module _ (code : CodeProgram) (grants : Grants) where
  clean_world : (first : List Cell) (q : Progress) → IsSound code → IsClean code q → BeginsWith first q.world.cells → WorldIsValid code first q
  clean_world first q sound clean begins = record {
    sound = sound;
    lawful = clean.lawful;
    begins = begins;
    homes = subst (λ n. blocks_have_homes code n q.world.cells ≡ true) (sym clean.begun) clean.homes;
    begun = omega (arith, clean.begun);
  }

  unbegun_valid : (room : ℕ) (arguments : List (List ℕ)) (after : After) → IsSound code
      → MadeAll code room [] (start_cells code grants arguments) Nil after → Valid code grants (unbegun after)
  unbegun_valid room arguments (Gives v q) sound m =
      let standing : List Cell = standing_cells code grants in
      let more : List Cell = behind_standing code grants arguments in
      let texts : List Cell = map TextCell arguments in
      let front : take (length standing) (reverse q.world.cells) ≡ standing = ap (take (length standing)) m.cells_are ∙ take-append_seam standing more in
      let rest : drop (length standing) (reverse q.world.cells) ≡ more = ap (drop (length standing)) m.cells_are ∙ drop-append_seam standing more in
      let none : list_all is_no_facet (drop (length standing) (reverse q.world.cells)) ≡ true = ap (list_all is_no_facet) rest ∙ no_facet_behind arguments _ in
      let same : last_of Nil 0 (start_cells code grants arguments) ≡ Ref (0 + size_of_cells (standing ++ texts))
      = ap (last_of Nil 0) (sym (append_assoc standing texts _)) ∙ last_at Nil 0 (standing ++ texts) _ in
      let number : cell_number v ≡ size_of_cells standing + size_of_cells texts
      = ap cell_number (m.last_is ∙ same) ∙ omega (arith, sizes_add standing texts) in (
        clean_world standing q sound m.clean (record { start = front; others = none }),
        ap (array_behind (size_of_cells standing)) rest ∙ (behind_texts (size_of_cells standing) arguments _ ∙ ap (λ n. Some n) (sym number)),
        m.clean.depth,
      )
  unbegun_valid room arguments (Halts ending q) sound m =
      let standing : List Cell = standing_cells code grants in
      let more : List Cell = behind_standing code grants arguments in
      let f = fronts room 0 standing more (no_facet_behind arguments _) in
      let first : List Cell = fitting room 0 standing in
      let begins : BeginsWith first q.world.cells = record {
        start = ap (take (length first)) m.cells_are ∙ f.start;
        others = ap (λ cells. list_all is_no_facet (drop (length first) cells)) m.cells_are ∙ f.others;
      } in
      let fits : WorldIsValid code (fitting q.world.limits.cells 0 standing) q
      = subst (λ n. WorldIsValid code (fitting n 0 standing) q) (sym m.room_is) (clean_world first q sound m.clean begins) in
      subst (λ (e : Ending). EndIsValid code grants e Start q) (sym m.ending_is) fits

  pub new_valid : (IsSound code → has_sound_classes code ≡ true) → (IsSound code → are_parents_earlier 0 code.bodies ≡ true) → NewIsValid code grants
  new_valid classes parents limits arguments sound fits range =
      unbegun_valid limits.cells arguments (start_made code grants arguments limits) sound
      (all_made_all code (start_cells code grants arguments) Nil (nothing_done limits)
      (record {
        lawful = empty_is_lawful limits code range fits (parents sound) (classes sound);
        homes = refl;
        begun = refl;
        depth = refl;
      }) (start_may code grants arguments))

  -- ---- a send of the host

  hosted : (receiver : Value) (sel : Sel) (arguments : List Value) (p : Progress) → WorldIsValid code (standing_cells code grants) p
      → p.world.depth ≡ 0 → (s : State) → MayBegin code receiver sel arguments s → progress_of s ≡ p
      → Valid code grants (Pends Hosted (Sending receiver sel arguments (site_at p.world.cells None receiver sel)) [] p)
  hosted receiver sel arguments p w d s may e =
      let live : IsLiveValue p.world.cells code receiver = subst (λ (q : Progress). IsLiveValue q.world.cells code receiver) e may.live in
      let fits : FitsSelector p.world.cells code sel arguments
      = subst (λ (q : Progress). FitsSelector q.world.cells code sel arguments) e may.fits in (
        record { world = w; some = refl; arguments = tt; depth = d; homes = refl },
        (
          refl,
          record { live = live; few = may.few },
          fits,
          site_fits code receiver sel None p w.lawful fits.selector (λ place none. absurd (cc)),
        ),
        tt,
      )

  pub host_valid : HostKeepsValid code grants
  host_valid receiver sel arguments (Unbegun array p) v may = hosted receiver sel arguments p v.0 v.2 (Unbegun array p) may refl
  host_valid receiver sel arguments (Ended (Done value) Start p) v may = absurd v
  host_valid receiver sel arguments (Ended (Done value) (First array) p) v may = absurd v
  host_valid receiver sel arguments (Ended (Done value) Second p) v may = hosted receiver sel arguments p v.0 v.1.1 (Ended (Done value) Second p) may refl
  host_valid receiver sel arguments (Ended (Done value) Hosted p) v may = hosted receiver sel arguments p v.0 v.1.1 (Ended (Done value) Hosted p) may refl
  host_valid receiver sel arguments (Ended (Error error) phase p) v may = let e = may.idle in absurd (cc)
  host_valid receiver sel arguments (Ended (Limit limit) phase p) v may = let e = may.idle in absurd (cc)
  host_valid receiver sel arguments (Going phase frames p) v may = let e = may.idle in absurd (cc)
  host_valid receiver sel arguments (Pends phase pending frames p) v may = let e = may.idle in absurd (cc)
  host_valid receiver sel arguments (Stuck p) v may = absurd v
