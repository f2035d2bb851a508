-- A good frame of a clause is one that a run can have.
use Rattle.std.proofs.Common.{◌≡◌, ⊎_elim, ℕ, suc, List, [], ◌∷◌, slice_get, refl, ap, sym, ◌∙◌, subst, arith, Option, Some, None, Bool, true, false, ◌&&◌}
use Rattle.std.proofs.lemmas.Bool.{and_parts, eqb-true, or_cases}
use Rattle.std.specs.Prelude.{◌==◌}
use Rattle.std.specs.Option.{option_map_or}
use Rattle.std.specs.List.{list_any}
use Rattle.ns_code.specs.declared.program.CodeProgram.{CodeProgram}
use Rattle.ns_code.specs.declared.class.ClassCode.{ClassCode}
use Rattle.ns_code.specs.declared.class.NestedCode.{NestedCode}
use Rattle.ns_code.specs.declared.body.BodyCode.{BodyCode}
use Rattle.ns_code.specs.Soundness.{clause_kind}
use Rattle.ns_world.specs.declared.value.Value.{Value}
use Rattle.ns_world.specs.declared.value.Value.TheVariants.{Ref}
use Rattle.ns_world.specs.Heap.{Heap}
use Rattle.ns_world.specs.Layout.{declaration_of}
use Rattle.ns_world.specs.Lawful.{FitsBody, IsLawful}
use Rattle.ns_find.specs.Belonging.{HasNested}
use Rattle.ns_moves.specs.Bodies.{clause_of, no_home}
use Rattle.ns_moves.specs.Control.{Progress, FromClause}
use Rattle.ns_moves.specs.State.{Loud}
use Rattle.ns_moves.specs.ValidFrames.{Awaited, FrameIsValid}
use Rattle.ns_frozen.specs.declared.frame.FrameKind.TheVariants as kinds
use Rattle.ns_frozen.specs.declared.frame.FrozenFrame.{FrozenFrame}
use Rattle.ns_frozen.specs.Thawing.{is_super_at, frame_thawed}
use Rattle.ns_frozen.specs.Live.{is_ref, fits_body}
use Rattle.ns_frozen.specs.Frames.{Above, has_nested, is_number, ends_well, is_running, is_running_kind}
use Rattle.ns_frozen.proofs.Clauses.{clause_side}
use Rattle.ns_frozen.proofs.FrameHolds.{Given}
use Rattle.ns_frozen.proofs.Holds.{ref_holds, body_holds}
use Rattle.ns_frozen.proofs.RunningHolds.{running_holds}
use Rattle.ns_frozen.proofs.Stood.{is_waiting}

-- ---- nested classes

-- a class of that number among nested ones stands at some place
nested_any : (class : ℕ) (list : List NestedCode) → list_any (λ (one : NestedCode). one.class == class) list ≡ true → (place : ℕ) × (one : NestedCode) × (slice_get list place ≡ Some one) × (one.class ≡ class)
nested_any class [] e = absurd (cc)
nested_any class (first ∷ more) e =
    ⊎_elim
    (λ f. (0, first, refl, eqb-true first.class class f))
    (λ f. let c = nested_any class more f in (suc c.0, c.1, c.2, c.3))
    (or_cases (first.class == class) (list_any (λ (one : NestedCode). one.class == class) more) e)

-- a clause's class is a nested one of the holder's declaration
nested_holds : (heap : Heap) (code : CodeProgram) (holder class : ℕ) → has_nested code (declaration_of heap holder) class ≡ true → HasNested heap code holder class
nested_holds heap code holder class e = found (slice_get code.classes (declaration_of heap holder)) refl e
  where
    found : (o : Option ClassCode) → slice_get code.classes (declaration_of heap holder) ≡ o
        → option_map_or (λ (declared : ClassCode). list_any (λ (nested : NestedCode). nested.class == class) declared.nested) o false ≡ true → HasNested heap code holder class
    found None is e = absurd (cc)
    found (Some declared) is e =
        let n = nested_any class declared.nested e in
        record { class = declared; class_is = is; place = n.0; nested = n.1; nested_is = n.2; decl_is = n.3 }

number_holds : (number : ℕ) (o : Option ℕ) → is_number number o ≡ true → o ≡ Some number
number_holds number None e = absurd (cc)
number_holds number (Some other) e = ap Some (sym (eqb-true number other e))

-- ---- clauses

module _ (code : CodeProgram) (progress : Progress) (lawful : IsLawful progress.world code) where
  abbrev heap : Heap
  heap = progress.world.cells

  -- the body of a good frame, which its self and its holder fit
  body_fits : (least : ℕ) (above : Above) (frame : FrozenFrame) (sort number : ℕ) → is_running_kind code heap progress.begun least above frame sort number ≡ true
      → (body : BodyCode) × (slice_get code.bodies number ≡ Some body) × FitsBody heap code body frame.receiver frame.holder
  body_fits least above frame sort number e =
      found (slice_get code.bodies number) refl ((and_parts (option_map_or (λ (b : BodyCode). b.kind == sort && is_running code heap above frame number b) (slice_get code.bodies number) false) _ e).0)
    where
      found : (o : Option BodyCode) → slice_get code.bodies number ≡ o → option_map_or (λ (b : BodyCode). b.kind == sort && is_running code heap above frame number b) o false ≡ true
          → (body : BodyCode) × (slice_get code.bodies number ≡ Some body) × FitsBody heap code body frame.receiver frame.holder
      found None is e = absurd (cc)
      found (Some body) is e =
          let running = (and_parts (body.kind == sort) (is_running code heap above frame number body) e).1 in
          (body, is, body_holds code heap body frame.receiver frame.holder ((and_parts (fits_body code heap body frame.receiver frame.holder) _ running).0))

  -- A good frame of a clause is one that a run can have: its object and holder are the frame's own, and its class has that clause.
  pub clause_holds : (least : ℕ) (awaited : Awaited) (above : Above) (part : Bool) (frame : FrozenFrame) (body object holder class : ℕ) → frame.kind ≡ kinds.Clause body object holder class
      → Given (is_super_at code body frame.instr) awaited above → is_running_kind code heap progress.begun least above frame clause_kind body ≡ true
      → FrameIsValid code progress awaited (frame_thawed code part (is_waiting awaited) (kinds.Clause body object holder class) frame)
  clause_holds least awaited above part frame body object holder class k g e =
      let ends : ends_well code heap progress.begun least frame (kinds.Clause body object holder class) ≡ true =
      ap (ends_well code heap progress.begun least frame) (sym k) ∙ (and_parts _ (ends_well code heap progress.begun least frame frame.kind) e).1 in
      let a = and_parts (is_ref object frame.receiver && frame.holder == holder) _ ends in
      let b = and_parts (is_ref object frame.receiver) (frame.holder == holder) a.0 in
      let c = and_parts (is_number body (clause_of code class)) _ a.1 in
      let d = and_parts (has_nested code (declaration_of heap holder) class) (frame.home == no_home) c.1 in
      let self_is : frame.receiver ≡ Ref object = ref_holds object frame.receiver b.0 in
      let holder_is : frame.holder ≡ holder = eqb-true frame.holder holder b.1 in
      let clause_is : clause_of code class ≡ Some body = number_holds body (clause_of code class) c.0 in
      let f = body_fits least above frame clause_kind body e in
      let side = clause_side code class body f.0 lawful.classes clause_is f.1 in
      let fits : FitsBody heap code f.0 (Ref object) holder =
      subst (λ (self : Value). FitsBody heap code f.0 self holder) self_is (subst (λ (n : ℕ). FitsBody heap code f.0 frame.receiver n) holder_is f.2) in
      running_holds code progress lawful least clause_kind body awaited above (Loud (FromClause object holder class)) frame g e refl
      (record { object_has = fits.2 side; holder_is = fits.0; nested = nested_holds heap code holder class d.0 }, self_is, holder_is, clause_is)
      (λ q. absurd (omega (arith, q))) d.1
