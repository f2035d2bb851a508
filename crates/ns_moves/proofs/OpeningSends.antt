-- The opening sends can be made.
use Rattle.std.proofs.Common.{◌≡◌, ℕ, ◌+◌, ◌<◌, ◌≤◌, List, [], ◌∷◌, length, All, refl, sym, ◌∙◌, subst, arith, Option, Some, None, Bool, true, false, cond, eqb}
use Rattle.std.specs.Prelude.{slice_get}
use Rattle.std.specs.Option.{ForSome, option_map_or}
use Rattle.std.proofs.lemmas.List.Elements.{All-cons, All-head, All-tail, All-nil}
use Rattle.std.proofs.lemmas.Option.{slice_get_within, get_or_from_slice_get}
use Rattle.ns_base.specs.declared.place.Place.{Place as SourcePlace}
use Rattle.ns_code.specs.declared.program.CodeProgram.{CodeProgram}
use Rattle.ns_code.specs.declared.body.BodyCode.{BodyCode}
use Rattle.ns_code.specs.declared.instruction.Instr.{Instr}
use Rattle.ns_code.specs.declared.instruction.Instr.TheVariants as i
use Rattle.ns_code.specs.declared.own.Own.{Own}
use Rattle.ns_code.specs.declared.own.Own.TheVariants.{PackageUsing, MainArgs}
use Rattle.ns_code.specs.Own.{own_text}
use Rattle.ns_code.specs.Selector.{text_arity}
use Rattle.ns_code.specs.Fits.{Fits, BodyFits, PlaceFits}
use Rattle.ns_world.specs.declared.value.Value.{Value}
use Rattle.ns_world.specs.declared.value.Value.TheVariants.{Ref}
use Rattle.ns_world.specs.Lawful.{IsLiveValue}
use Rattle.ns_facets.specs.declared.row.Grants.{Grants}
use Rattle.ns_moves.specs.Control.{Progress}
use Rattle.ns_moves.specs.Bodies.{initialiser_of}
use Rattle.ns_moves.specs.Start.{standing_cells, manifest, platform, first_class}
use Rattle.ns_moves.specs.Sends.{own_sel}
use Rattle.ns_moves.specs.Lawful.{FitsSelector}
use Rattle.ns_moves.specs.laws.Sites.{site_fits}
use Rattle.ns_moves.specs.laws.OwnSelectors.{own_is, own_arity}
use Rattle.ns_moves.specs.State.{Unbegun, Going, Pends, Ended, Stuck}
use Rattle.ns_moves.specs.Steps.{place_in, placed, super_place, super_place_or, opening_place}
use Rattle.ns_moves.specs.Returns.{opening}
use Rattle.ns_moves.specs.Valid.{WorldIsValid, PendingIsValid}
use Rattle.ns_moves.specs.Beginning.{StartKeepsValid, SecondIsValid}
use Rattle.ns_moves.proofs.OpeningCells.{manifest_live, platform_live, array_live, first_class_live}

-- ---- the place of the opening sends is in a file of the code

module _ (code : CodeProgram) (fits : Fits code) where
  abbrev InFile : Option SourcePlace → Type 0
  InFile o = ForSome o (λ (place : SourcePlace). place.file < length code.files)

  nowhere : InFile None
  nowhere = λ place e. absurd (cc)

  place_fits : (body : BodyCode) (entries : List (ℕ × SourcePlace)) (number : ℕ) → All (PlaceFits code body) entries → InFile (place_in entries number)
  place_fits body [] number all = nowhere
  place_fits body (entry ∷ entries) number all =
      tested (eqb entry.0 number) (place_fits body entries number (All-tail (PlaceFits code body) entry entries all))
    where
      tested : (b : Bool) → InFile (place_in entries number) → InFile (cond b (Some entry.1) (place_in entries number))
      tested true rest = λ place e.
          let same : entry.1 ≡ place = cc in
          subst (λ (place : SourcePlace). place.file < length code.files) same (All-head (PlaceFits code body) entry entries all).file
      tested false rest = rest

  super_fits : (body : BodyCode) → All (PlaceFits code body) body.places → (number : ℕ) (instrs : List Instr)
      → InFile (super_place (placed body.places number instrs))
  super_fits body all number [] = nowhere
  super_fits body all number (instr ∷ instrs) =
      either instr (place_fits body body.places number all) (super_fits body all (number + 1) instrs)
    where
      either : (instr : Instr) → InFile (place_in body.places number) → InFile (super_place (placed body.places (number + 1) instrs))
          → InFile (super_place_or instr (place_in body.places number) (super_place (placed body.places (number + 1) instrs)))
      either (i.InitSuper argc) now rest = now
      either i.PushNil now rest = rest
      either i.PushTrue now rest = rest
      either i.PushFalse now rest = rest
      either (i.PushInt number) now rest = rest
      either (i.PushSym sel) now rest = rest
      either (i.PushText text) now rest = rest
      either i.PushSelf now rest = rest
      either (i.PushOuter level) now rest = rest
      either (i.PushLocal hops index) now rest = rest
      either (i.StoreLocal hops index) now rest = rest
      either (i.PushBlock body) now rest = rest
      either (i.MakeArray count) now rest = rest
      either i.Pop now rest = rest
      either (i.Pick number) now rest = rest
      either (i.Send sel argc) now rest = rest
      either (i.SendInner sel argc) now rest = rest
      either (i.SendPrivate level sel argc) now rest = rest
      either (i.SendSuper sel argc) now rest = rest
      either (i.StoreSlot slot) now rest = rest
      either i.Return now rest = rest
      either i.ReturnSelf now rest = rest
      either i.ReturnHome now rest = rest
      either (i.Jump target) now rest = rest
      either (i.JumpFalse target) now rest = rest
      either (i.JumpTrue target) now rest = rest

  opening_fits : InFile (opening_place code)
  opening_fits = found (slice_get code.bodies (initialiser_of code 0)) refl
    where
      found : (o : Option BodyCode) → slice_get code.bodies (initialiser_of code 0) ≡ o
          → InFile (super_place (option_map_or (λ (b : BodyCode). placed b.places 0 b.instrs) o ((i.ReturnSelf, None) ∷ [])))
      found (Some body) e = super_fits body (all_bodies body e) 0 body.instrs
        where
          all_bodies : (body : BodyCode) → slice_get code.bodies (initialiser_of code 0) ≡ Some body → All (PlaceFits code body) body.places
          all_bodies body e =
              let within = slice_get_within code.bodies (initialiser_of code 0) body e in
              let has : BodyFits code body = subst (BodyFits code) (get_or_from_slice_get code.bodies (initialiser_of code 0) body body e)
              (fits.bodies (initialiser_of code 0) body within) in
              has.places
      found None e = nowhere

-- ---- the opening sends

module _ (code : CodeProgram) (grants : Grants) where
  opening_valid : (receiver : Value) (own : Own) (arguments : List Value) (p : Progress) → WorldIsValid code (standing_cells code grants) p
      → IsLiveValue p.world.cells code receiver → length arguments ≡ text_arity (own_text own) → length arguments ≤ 255
      → All (IsLiveValue p.world.cells code) arguments → PendingIsValid code p.world.cells (opening code receiver (own_sel code own) arguments p) []
  opening_valid receiver own arguments p w live count few all =
      let fits : FitsSelector p.world.cells code (own_sel code own) arguments
      = record { selector = own_is code own; arity = count ∙ sym (own_arity code own); live = all } in (
        refl,
        record { live = live; few = few },
        fits,
        site_fits code receiver (own_sel code own) (opening_place code) p w.lawful fits.selector (opening_fits code w.lawful.fits),
      )

  pub second_valid : SecondIsValid code grants
  second_valid arguments v p w has live =
      let all : All (IsLiveValue p.world.cells code) (platform ∷ Ref arguments ∷ []) =
      All-cons (IsLiveValue p.world.cells code) platform (Ref arguments ∷ []) (platform_live code grants p.world.cells w.begins)
      (All-cons (IsLiveValue p.world.cells code) (Ref arguments) [] (array_live code grants arguments p.world.cells w.begins has)
      (All-nil (IsLiveValue p.world.cells code))) in
      opening_valid v MainArgs (platform ∷ Ref arguments ∷ []) p w live refl (omega arith) all

  pub started_valid : StartKeepsValid code grants
  started_valid (Unbegun arguments p) (w, has, depth) =
      let all : All (IsLiveValue p.world.cells code) (manifest ∷ []) =
      All-cons (IsLiveValue p.world.cells code) manifest [] (manifest_live code grants p.world.cells w.begins) (All-nil (IsLiveValue p.world.cells code)) in (
        record { world = w; some = refl; arguments = has; depth = depth; homes = refl },
        opening_valid (first_class p.world.cells) PackageUsing (manifest ∷ []) p w (first_class_live code p.world.cells) refl (omega arith) all,
        tt,
      )
  started_valid (Going phase frames p) v = v
  started_valid (Pends phase pending frames p) v = v
  started_valid (Ended ending phase p) v = v
  started_valid (Stuck p) v = v
