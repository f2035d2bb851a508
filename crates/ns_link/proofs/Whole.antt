-- The machine does what the whole program means.
use Rattle.std.proofs.Common.{◌≡◌, ℕ, List, [], ◌∷◌, refl, subst}
use Rattle.ns_code.specs.declared.program.CodeProgram.{CodeProgram}
use Rattle.ns_code.specs.declared.own.Own.{Own}
use Rattle.ns_code.specs.declared.own.Own.TheVariants.{PackageUsing, MainArgs}
use Rattle.ns_world.specs.declared.value.Value.{Value}
use Rattle.ns_world.specs.declared.value.Value.TheVariants.{Ref}
use Rattle.ns_moves.specs.Control.{Progress}
use Rattle.ns_moves.specs.Sends.{sent_plain, site_at, own_sel}
use Rattle.ns_resolved.specs.Program.{Meant}
use Rattle.ns_model.specs.Outcome.{Completion, Yields, Returns, Ends, Spent, bind}
use Rattle.ns_model.specs.Laws.{IsEnough, GoesHome, ReturnsGoHome}
use Rattle.ns_model.specs.Run.{fuel_of}
use Rattle.ns_moves.specs.Start.{manifest, platform, first_class}
use Rattle.ns_model.specs.Whole.{opening, opened, opening_place, concluded}
use Rattle.ns_gen_code.specs.Code.{code_of}
use Rattle.ns_moves.specs.Steps as steps
use Rattle.ns_moves.specs.State.{Sending, Phase, First, Second, State, Pends}
use Rattle.ns_moves.specs.Returns.{delivered}
use Rattle.ns_moves.specs.Arrivals.{arrived}
use Rattle.ns_link.specs.Stated.{EndsAs}
use Rattle.ns_link.proofs.Lands.{Reaches, step, Lands, first}
use Rattle.ns_link.proofs.RunOk.{run_ok}
use Rattle.ns_link.proofs.Coded.{coded}

module _ (meant : Meant) (home : ReturnsGoHome meant (code_of meant)) where
  abbrev code : CodeProgram
  code = code_of meant

  -- a send that opens the run, and what waits for it
  abbrev waits : Phase → Value → Own → List Value → Progress → State
  waits phase receiver own values p =
      Pends phase (Sending receiver (own_sel code own) values (site_at p.world.cells (opening_place meant) receiver (own_sel code own))) [] p

  opening_ok : (phase : Phase) (receiver : Value) (own : Own) (values : List Value) (p : Progress)
      → Lands code phase (waits phase receiver own values p) (λ v _ p. delivered code phase v [] p) [] (opening meant code receiver own values p)
  opening_ok phase receiver own values p =
      let c = sent_plain code receiver (own_sel code own) values (opening_place meant) p in
      first code phase _ (arrived code phase c []) (λ v _ p. delivered code phase v [] p) [] _ (step code _ _ refl)
      (run_ok meant code phase (coded meant) (fuel_of p) c [])

  opening_home : (receiver : Value) (own : Own) (values : List Value) (p : Progress) → GoesHome [] (opening meant code receiver own values p)
  opening_home receiver own values p = home (fuel_of p) (sent_plain code receiver (own_sel code own) values (opening_place meant) p) []

  second_ok : (start : Progress) (s : State) (o : Completion Value) → Lands code Second s (λ v _ p. delivered code Second v [] p) [] o → GoesHome [] o
      → IsEnough o → EndsAs code s (concluded start o)
  second_ok start s (Yields v ls p) r g e = record { count = r.count; phase = Second; is = r.is }
  second_ok start s (Returns h v p) r g e = absurd (cc)
  second_ok start s (Ends ending p) r g e = record { count = r.count; phase = Second; is = r.is }
  second_ok start s Spent r g e = absurd e

  first_ok : (n : ℕ) (start : Progress) (s : State) (o : Completion Value) → steps.opening_place code ≡ opening_place meant
      → Lands code (First n) s (λ v _ p. delivered code (First n) v [] p) [] o → GoesHome [] o
      → IsEnough (bind o (λ v ls p. opening meant code v MainArgs (platform ∷ Ref n ∷ []) p))
      → EndsAs code s (concluded start (bind o (λ v ls p. opening meant code v MainArgs (platform ∷ Ref n ∷ []) p)))
  first_ok n start s (Yields v ls p) same r g e =
      let values = platform ∷ Ref n ∷ [] in
      let there : Reaches code s (waits Second v MainArgs values p) = subst
      (λ place.
      Reaches code s (Pends Second (Sending v (own_sel code MainArgs) values (site_at p.world.cells place v (own_sel code MainArgs))) [] p)) same r in
      let o = opening meant code v MainArgs values p in
      second_ok start s o (first code Second s (waits Second v MainArgs values p) (λ v _ p.
      delivered code Second v [] p) [] o there (opening_ok Second v MainArgs values p)) (opening_home v MainArgs values p) e
  first_ok n start s (Returns h v p) same r g e = absurd (cc)
  first_ok n start s (Ends ending p) same r g e = record { count = r.count; phase = First n; is = r.is }
  first_ok n start s Spent same r g e = absurd e

  -- the machine ends as the program's run does
  pub whole : (n : ℕ) (p : Progress) → steps.opening_place code ≡ opening_place meant → IsEnough (opened meant code (Ref n) p)
      → EndsAs code (waits (First n) (first_class p.world.cells) PackageUsing (manifest ∷ []) p) (concluded p (opened meant code (Ref n) p))
  whole n p same e =
      let receiver = first_class p.world.cells in
      first_ok n p _ (opening meant code receiver PackageUsing (manifest ∷ []) p) same (opening_ok (First n) receiver PackageUsing (manifest ∷ []) p)
      (opening_home receiver PackageUsing (manifest ∷ []) p) e
