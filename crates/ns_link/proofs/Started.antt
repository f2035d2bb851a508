-- From its start the machine comes to the end of the program's run.
use Rattle.std.specs.Prelude.{Bool, true, false}
use Rattle.std.proofs.Common.{◌≡◌, ℕ, List, [], ◌∷◌, refl, sym, subst, Option, Some, None}
use Rattle.ns_base.specs.declared.limits.Limits.{Limits}
use Rattle.ns_base.specs.declared.place.Place.{Place as SourcePlace}
use Rattle.ns_code.specs.declared.program.CodeProgram.{CodeProgram}
use Rattle.ns_code.specs.declared.own.Own.TheVariants.{PackageUsing}
use Rattle.ns_world.specs.declared.value.Value.{Value}
use Rattle.ns_world.specs.declared.value.Value.TheVariants.{Ref, Nil}
use Rattle.ns_world.specs.declared.ending.LimitKind.TheVariants.{Cells}
use Rattle.ns_world.specs.Cell.{Cell}
use Rattle.ns_world.specs.Heap.{heap_size, cell_number}
use Rattle.ns_world.specs.World.{World, made}
use Rattle.ns_facets.specs.declared.row.Grants.{Grants}
use Rattle.ns_moves.specs.Control.{Progress, in_world, After, Gives, Halts, charged}
use Rattle.ns_moves.specs.Sends.{site_at, own_sel}
use Rattle.ns_moves.specs.Start.{start_cells, nothing_done, all_made, start_made, manifest, first_class}
use Rattle.ns_resolved.specs.Program.{Meant}
use Rattle.ns_model.specs.Laws.{EndsByItself, ReturnsGoHome, RunsEnd}
use Rattle.ns_model.specs.Whole.{opened_after, opening_place, ran}
use Rattle.ns_gen_code.specs.Code.{code_of}
use Rattle.ns_moves.specs.Steps as steps
use Rattle.ns_moves.specs.State.{Sending, Start, First, State, Pends}
use Rattle.ns_moves.specs.Starts.{unbegun, started}
use Rattle.ns_link.specs.Stated.{EndsAs, HasFirst, begins}
use Rattle.ns_link.proofs.Whole.{whole}
use Rattle.ns_link.proofs.Opening.{opening_same}

-- what was made last has a number
abbrev HasNumber : After → Type 0
HasNumber (Gives value progress) = value ≡ Ref (cell_number value)
HasNumber (Halts ending progress) = Unit {0}

in_charged : (o : Option World) (progress : Progress) (go : Progress → After) → ((next : Progress) → HasNumber (go next))
    → HasNumber (charged Halts Cells o progress go)
in_charged (Some world) progress go goes = goes (in_world progress world)
in_charged None progress go goes = tt

all_numbered : (cells : List Cell) (last : Value) (progress : Progress) → last ≡ Ref (cell_number last) →
    HasNumber (all_made cells last progress)
all_numbered [] last progress e = e
all_numbered (cell ∷ cells) last progress e =
    in_charged (made progress.world cell) progress (all_made cells (Ref (heap_size progress.world.cells)))
    (λ next. all_numbered cells (Ref (heap_size progress.world.cells)) next refl)

abbrev has_some : List Cell → Bool
has_some [] = false
has_some (cell ∷ cells) = true

some_numbered : (cells : List Cell) (progress : Progress) → has_some cells ≡ true → HasNumber (all_made cells Nil progress)
some_numbered [] progress e = absurd (cc)
some_numbered (cell ∷ cells) progress e =
    in_charged (made progress.world cell) progress (all_made cells (Ref (heap_size progress.world.cells)))
    (λ next. all_numbered cells (Ref (heap_size progress.world.cells)) next refl)

module _ (meant : Meant) (home : ReturnsGoHome meant (code_of meant)) where
  abbrev code : CodeProgram
  code = code_of meant

  -- the first opening send, with its place
  abbrev waiting_at : Option SourcePlace → ℕ → Progress → State
  waiting_at place number progress =
      let receiver = first_class progress.world.cells in
      let sel = own_sel code PackageUsing in
      Pends (First number) (Sending receiver sel (manifest ∷ []) (site_at progress.world.cells place receiver sel)) [] progress

  from_start : (after : After) → steps.opening_place code ≡ opening_place meant → HasNumber after → EndsByItself meant code after
      → EndsAs code (started code (unbegun after)) (opened_after meant code after)
  from_start (Halts ending progress) same numbered ends = record { count = 0; phase = Start; is = refl }
  from_start (Gives array progress) same numbered ends =
      let number = cell_number array in
      let goal = λ (value : Value). EndsByItself meant code (Gives value progress) → EndsAs code (waiting_at (steps.opening_place code) number progress)
      (opened_after meant code (Gives value progress)) in
      subst goal (sym numbered) (λ ends.
      subst (λ place. EndsAs code (waiting_at place number progress) (opened_after meant code (Gives (Ref number) progress))) (sym same)
      (whole meant home number progress same ends)) ends

pub runs_over_code : (meant : Meant) → ReturnsGoHome meant (code_of meant) → RunsEnd meant (code_of meant) → HasFirst meant →
    (grants : Grants) (arguments : List (List ℕ)) (limits : Limits)
    → EndsAs (code_of meant) (begins meant grants arguments limits) (ran meant (code_of meant) grants arguments limits)
runs_over_code meant home end first grants arguments limits =
    let code = code_of meant in
    from_start meant home (start_made code grants arguments limits) (opening_same meant first.class first.init first.is first.does)
    (some_numbered (start_cells code grants arguments) (nothing_done limits) refl)
    (end grants arguments limits)
