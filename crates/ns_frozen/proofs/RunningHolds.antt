-- A good frame is one that a run can have.
use Rattle.std.proofs.Common.{◌≡◌, ℕ, zero, suc, ◌+◌, ◌≤◌, length, reverse, refl, ap, sym, ◌∙◌, subst, arith, Option, Some, None, IsSome, Bool, true, false, ◌&&◌}
use Rattle.std.proofs.lemmas.Bool.{and_parts, eqb-true}
use Rattle.std.proofs.lemmas.List.{length-reverse}
use Rattle.std.proofs.lemmas.Option.{same_Some}
use Rattle.std.specs.Prelude.{slice_get, is_some, ◌==◌}
use Rattle.std.specs.Option.{option_map_or}
use Rattle.ns_code.specs.declared.program.CodeProgram.{CodeProgram}
use Rattle.ns_code.specs.declared.body.BodyCode.{BodyCode}
use Rattle.ns_code.specs.Soundness.{initialiser_kind, clause_kind}
use Rattle.ns_world.specs.declared.value.Value.{Value}
use Rattle.ns_world.specs.declared.value.Value.TheVariants.{Nil, True, False, Int, Sym, Kernel, Ref}
use Rattle.ns_world.specs.Cell.{Cell, ObjectCell, ClassCell, BlockCell, EnvironmentCell, ArrayCell, TextCell, FacetCell, MirrorCell, MessageCell}
use Rattle.ns_world.specs.Heap.{Heap, find_cell, is_class}
use Rattle.ns_world.specs.Starts.{is_receiver_cell}
use Rattle.ns_world.specs.Lawful.{IsLiveValue, class_of_object, HasHolder, FitsBody, IsLawful}
use Rattle.ns_moves.specs.Control.{Progress, Activation}
use Rattle.ns_moves.specs.Fitting.{kind_of, environment_body, locals_beside}
use Rattle.ns_moves.specs.Steps.{steps_from}
use Rattle.ns_moves.specs.State.{Leaving}
use Rattle.ns_moves.specs.ValidFrames.{Awaited, next_number, ends_kind, has_home_of, FitsLeaving, Stands, RunningIsValid}
use Rattle.ns_frozen.specs.declared.frame.FrozenFrame.{FrozenFrame}
use Rattle.ns_frozen.specs.Thawing.{is_super_at, rest_thawed}
use Rattle.ns_frozen.specs.Live.{are_live, fits_body, fits_environment}
use Rattle.ns_frozen.specs.Frames.{Above, is_site, stands_at, is_running, is_running_kind}
use Rattle.ns_frozen.proofs.CellTests.{side_of}
use Rattle.ns_frozen.proofs.FrameHolds.{Given, next_free, next_waiting, stands_hold}
use Rattle.ns_frozen.proofs.FrameTests.{turned_live}
use Rattle.ns_frozen.proofs.Framed.{stands_within}
use Rattle.ns_frozen.proofs.Holds.{environment_holds, body_holds}
use Rattle.ns_frozen.proofs.Stood.{is_waiting}
use Rattle.ns_frozen.proofs.Tests.{lives_hold, site_holds}

module _ (code : CodeProgram) (progress : Progress) (lawful : IsLawful progress.world code) where
  abbrev heap : Heap
  heap = progress.world.cells

  -- ---- selves

  object_live : (o : Option Cell) → IsSome (class_of_object o) → (is_some o ≡ true) × (is_receiver_cell o ≡ true)
  object_live (Some (ObjectCell class entries)) e = (refl, refl)
  object_live None e = absurd (cc)
  object_live (Some (ClassCell decl base encl holder over)) e = absurd (cc)
  object_live (Some (BlockCell body env home receiver holder)) e = absurd (cc)
  object_live (Some (EnvironmentCell parent locals)) e = absurd (cc)
  object_live (Some (ArrayCell items)) e = absurd (cc)
  object_live (Some (TextCell bytes)) e = absurd (cc)
  object_live (Some (FacetCell kind)) e = absurd (cc)
  object_live (Some (MirrorCell mirrored)) e = absurd (cc)
  object_live (Some (MessageCell sel args)) e = absurd (cc)

  class_live : (o : Option Cell) → is_class o ≡ true → (is_some o ≡ true) × (is_receiver_cell o ≡ true)
  class_live (Some (ClassCell decl base encl holder over)) e = (refl, refl)
  class_live None e = absurd (cc)
  class_live (Some (ObjectCell class entries)) e = absurd (cc)
  class_live (Some (BlockCell body env home receiver holder)) e = absurd (cc)
  class_live (Some (EnvironmentCell parent locals)) e = absurd (cc)
  class_live (Some (ArrayCell items)) e = absurd (cc)
  class_live (Some (TextCell bytes)) e = absurd (cc)
  class_live (Some (FacetCell kind)) e = absurd (cc)
  class_live (Some (MirrorCell mirrored)) e = absurd (cc)
  class_live (Some (MessageCell sel args)) e = absurd (cc)

  -- a self that fits a body is live
  self_live : (body : BodyCode) (self : Value) (holder : ℕ) → body.side ≤ 1 → FitsBody heap code body self holder → IsLiveValue heap code self
  self_live body (Ref at) holder side f = by body.side refl
    where
      by : (n : ℕ) → body.side ≡ n → (is_some (find_cell heap at) ≡ true) × (is_receiver_cell (find_cell heap at) ≡ true)
      by zero e = object_live (find_cell heap at) ((f.2 e).1)
      by (suc n) e = class_live (find_cell heap at) ((f.3 (omega (arith, e, side))).0)
  self_live body Nil holder side f = absurd f
  self_live body True holder side f = absurd f
  self_live body False holder side f = absurd f
  self_live body (Int number) holder side f = absurd f
  self_live body (Sym sel) holder side f = absurd f
  self_live body (Kernel class) holder side f = absurd f

  -- ---- bodies

  -- what is left of a body is its rest from the next instruction on
  rest_inside : (number : ℕ) (body : BodyCode) (is : slice_get code.bodies number ≡ Some body) (waits : Bool) (instr : ℕ) → suc instr ≤ length body.instrs
      → rest_thawed code waits number instr ≡ steps_from code number (next_number code number (rest_thawed code waits number instr))
  rest_inside number body is false instr w = ap (steps_from code number) (sym (next_free code number body is instr (omega (arith, w))))
  rest_inside number body is true instr w = ap (steps_from code number) (omega (arith, next_waiting code number body is instr w))

  -- A good frame of a body, whose end and home are those of its kind, is one that a run can have.
  pub running_holds : (least sort number : ℕ) (awaited : Awaited) (above : Above) (leaving : Leaving) (frame : FrozenFrame) → Given (is_super_at code number frame.instr) awaited above
      → is_running_kind code heap progress.begun least above frame sort number ≡ true → ends_kind leaving sort ≡ true
      → FitsLeaving heap code leaving (record { self = frame.receiver; holder = frame.holder; body = number; home = frame.home; env = frame.env; site = frame.site })
      → (sort ≡ initialiser_kind → HasHolder heap frame.receiver frame.holder) → has_home_of code progress.begun sort number frame.home ≡ true
      → RunningIsValid code progress awaited leaving (record { self = frame.receiver; holder = frame.holder; body = number; home = frame.home; env = frame.env; site = frame.site })
      frame.locals (rest_thawed code (is_waiting awaited) number frame.instr) (reverse frame.operands)
  running_holds least sort number awaited above leaving frame g e k l o h =
      found (slice_get code.bodies number) refl ((and_parts (option_map_or (λ (b : BodyCode). b.kind == sort && is_running code heap above frame number b) (slice_get code.bodies number) false) _ e).0)
    where
      activation : Activation
      activation = record { self = frame.receiver; holder = frame.holder; body = number; home = frame.home; env = frame.env; site = frame.site }

      found : (body : Option BodyCode) → slice_get code.bodies number ≡ body → option_map_or (λ (b : BodyCode). b.kind == sort && is_running code heap above frame number b) body false ≡ true
          → RunningIsValid code progress awaited leaving activation frame.locals (rest_thawed code (is_waiting awaited) number frame.instr) (reverse frame.operands)
      found None is e = absurd (cc)
      found (Some body) is e =
          let a = and_parts (body.kind == sort) (is_running code heap above frame number body) e in
          let b = and_parts (fits_body code heap body frame.receiver frame.holder) _ a.1 in
          let c = and_parts (stands_at body above frame.instr (length frame.operands)) _ b.1 in
          let d = and_parts (fits_environment (number + 1) code heap (environment_body code number) frame.env) _ c.1 in
          let i = and_parts (length frame.locals == locals_beside code number) _ d.1 in
          let j = and_parts (are_live code heap frame.locals) _ i.1 in
          let m = and_parts (are_live code heap frame.operands) (is_site code frame.site) j.1 in
          let fits : FitsBody heap code body frame.receiver frame.holder = body_holds code heap body frame.receiver frame.holder b.0 in
          let kind : kind_of code number ≡ sort = ap (λ o. option_map_or (λ (x : BodyCode). x.kind) o clause_kind) is ∙ eqb-true body.kind sort a.0 in
          let same : (other : BodyCode) → slice_get code.bodies number ≡ Some other → body ≡ other = λ other q. same_Some body other (sym is ∙ q) in
          let stands = stands_hold code number body is awaited above frame.instr (length frame.operands) g c.0 in
          let within : suc frame.instr ≤ length body.instrs = stands_within body above frame.instr (length frame.operands) c.0 in
          record {
            fits = record {
              live = self_live body frame.receiver frame.holder (side_of code progress.world lawful number body is) fits;
              there = ap is_some is;
              fits = λ other q. subst (λ (x : BodyCode). FitsBody heap code x frame.receiver frame.holder) (same other q) fits;
            };
            object = λ q. o (sym kind ∙ q);
            kind = ap (ends_kind leaving) kind ∙ k;
            leaves = l;
            inside = rest_inside number body is (is_waiting awaited) frame.instr within;
            stands = λ other q. subst (λ (x : BodyCode). Stands x awaited (next_number code number (rest_thawed code (is_waiting awaited) number frame.instr)) (length (reverse frame.operands))) (same other q)
                (subst (λ n. Stands body awaited (next_number code number (rest_thawed code (is_waiting awaited) number frame.instr)) n) (sym (length-reverse frame.operands)) stands);
            environment = environment_holds heap code (number + 1) (environment_body code number) frame.env d.0;
            beside = eqb-true (length frame.locals) (locals_beside code number) i.0;
            live_locals = lives_hold heap code frame.locals j.0;
            live_stack = lives_hold heap code (reverse frame.operands) (turned_live heap code frame.operands m.0);
            home = ap (λ s. has_home_of code progress.begun s number frame.home) kind ∙ h;
            named = site_holds code frame.site m.1;
          }
