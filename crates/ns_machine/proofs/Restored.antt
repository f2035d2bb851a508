-- A machine whose run was put back is one.
use Rattle.std.proofs.Common.{◌≡◌, ℕ, zero, suc, ◌<◌, ◌≤◌, List, [], ◌∷◌, ◌++◌, length, take, drop, refl, ap, sym, ◌∙◌, subst, arith, slice_get}
use Rattle.std.proofs.lemmas.List.{take-append-drop, take-append-le, take_all, length-append, length-drop}
use Rattle.ns_base.specs.declared.limits.Limits.{Limits}
use Rattle.ns_base.specs.Limits.{InRange}
use Rattle.ns_base.specs.declared.place.Place.{Place as SourcePlace}
use Rattle.ns_code.specs.declared.program.CodeProgram.{CodeProgram}
use Rattle.ns_facets.specs.declared.row.Grants.{Grants}
use Rattle.ns_moves.specs.Control.{Progress}
use Rattle.ns_moves.specs.State.{world_of}
use Rattle.ns_moves.specs.Valid.{Valid}
use Rattle.ns_machine_plan.specs.declared.plan.Plan.{Plan}
use Rattle.ns_machine_plan.specs.Steps.{places_of}
use Rattle.ns_frozen.specs.declared.frozen.Frozen.{Frozen}
use Rattle.ns_frozen.specs.Thawing.{thawed}
use Rattle.ns_machine_core.specs.declared.own.OwnSends.{OwnSends}
use Rattle.ns_machine_core.specs.declared.state.Core.{Core}
use Rattle.ns_machine_core.specs.Own.{AreOwn}
use Rattle.ns_machine_core.specs.Standing.{HasRooms}
use Rattle.ns_machine_thaw.specs.declared.thawed.Thawed.{Thawed}
use Rattle.ns_machine_thaw.specs.declared.thawed.Thawed.TheVariants as to
use Rattle.ns_machine_thaw.specs.Thawed.{thawed_shown, StandThawed, KeepsMemory, IsThawed}
use Rattle.ns_machine.specs.declared.stage.Stage.{Stage}
use Rattle.ns_machine.specs.Machine.{stage_shown, StandIn, IsMachine}
use Rattle.ns_machine.specs.Places.{BeginsWithPlaces, HasPlaces}
use Rattle.ns_machine.specs.Restored.{stage_of}
use Rattle.ns_machine.proofs.Fresh.{none_right}
use Rattle.ns_machine.proofs.Standing.{stage_progress, stage_lawful}

-- ---- where it stands

pub stage_is : (code : CodeProgram) (core : Core) (t : Thawed) → stage_shown code core (stage_of t) ≡ thawed_shown code core t
stage_is code core (to.Unbegun arguments) = refl
stage_is code core (to.Begun next) = refl

stand_is : (code : CodeProgram) (core : Core) (t : Thawed) → StandThawed code core t → StandIn code core (stage_of t)
stand_is code core (to.Unbegun arguments) stand = stand
stand_is code core (to.Begun next) stand = stand

-- ---- its places

same_front : {A : Type 0} (n : ℕ) (xs ys : List A) → n ≤ length xs → n ≤ length ys → ((k : ℕ) → k < n → slice_get xs k ≡ slice_get ys k) → take n xs ≡ take n ys
same_front zero xs ys one other same = refl
same_front (suc n) [] ys one other same = absurd (omega (arith, one))
same_front (suc n) xs [] one other same = absurd (omega (arith, other))
same_front (suc n) (x ∷ xs) (y ∷ ys) one other same =
    let first : slice_get (x ∷ xs) 0 ≡ slice_get (y ∷ ys) 0 = same 0 (omega arith) in
    let head : x ≡ y = cc in
    let rest = same_front n xs ys (omega (arith, one)) (omega (arith, other)) (λ k less. same (suc k) (omega (arith, less))) in
    cc

pub places_back : (code : CodeProgram) (depth : ℕ) (old new : List SourcePlace) → length new ≡ length old
    → ((k : ℕ) → k < length (places_of code) → slice_get new k ≡ slice_get old k) → HasPlaces code depth old → HasPlaces code depth new
places_back code depth old new count below has =
    let first = length (places_of code) in
    let is = has.begins.is in
    let all = ap length is in
    let both = length-append (places_of code) has.begins.more in
    let front : take first new ≡ places_of code =
    same_front first new old (omega (arith, count, all, both)) (omega (arith, all, both)) below
    ∙ (ap (take first) is ∙ (take-append-le first (places_of code) has.begins.more (omega arith) ∙ take_all first (places_of code) (omega arith))) in
    let again : new ≡ places_of code ++ drop first new = sym (take-append-drop first new) ∙ ap (λ (xs : List SourcePlace). xs ++ drop first new) front in
    let left = length-drop first new in
    let many = has.many in
    record {
      begins = record {
        more = drop first new;
        is = again;
        few = let same = ap length again in let few = has.begins.few in let old_size = ap length is in omega (arith, same, few, count, old_size);
      };
      many = omega (arith, left, count, all, both, many);
    }

-- those of the code are kept
pub front_kept : (code : CodeProgram) (old new : Core) (first : ℕ) → first ≡ length (places_of code) → HasPlaces code old.run.world.world.limits.depth old.places
    → KeepsMemory first old new → BeginsWithPlaces code new.places
front_kept code old new first is has stays =
    (places_back code old.run.world.world.limits.depth old.places new.places stays.count
    (subst (λ (n : ℕ). (k : ℕ) → k < n → slice_get new.places k ≡ slice_get old.places k) is stays.below) has).begins

-- its limits are in their ranges
pub limits_range : (code : CodeProgram) (grants : Grants) (core : Core) (at : Stage) (frozen : Frozen) → Valid code grants (stage_shown code core at)
    → frozen.limits ≡ (world_of (stage_shown code core at)).limits → InRange frozen.limits
limits_range code grants core at frozen valid same =
    subst InRange (sym (same ∙ ap (λ (p : Progress). p.world.limits) (stage_progress code core at))) (stage_lawful code grants core at valid).within.limits

-- ---- the machine

pub restored_machine : (code : CodeProgram) (grants : Grants) (plan : Plan) (old new : Core) (own before : OwnSends) (at : Stage) (frozen : Frozen) (first : ℕ) (t : Thawed)
    → first ≡ length (places_of code) → IsMachine code grants plan old before at → Valid code frozen.grants (thawed code frozen) → IsThawed code first frozen old new t
    → AreOwn code new.places own → IsMachine code frozen.grants plan new own (stage_of t)
restored_machine code grants plan old new own before at frozen first t is_first is valid back own_is = record {
  valid = subst (Valid code frozen.grants) (sym (stage_is code new t ∙ back.state)) valid;
  rooms = rooms;
  stand = stand_is code new t back.stand;
  kept = none_right new.run.world.world.cells code new.run.memo back.memo;
  prepared = is.prepared;
  places =
      subst (λ (l : Limits). HasPlaces code l.depth new.places) (sym back.stays.world.limits)
      (places_back code old.run.world.world.limits.depth old.places new.places back.stays.count
      (subst (λ (n : ℕ). (k : ℕ) → k < n → slice_get new.places k ≡ slice_get old.places k) is_first back.stays.below) is.places);
  sends = own_is;
}
  where
    rooms : HasRooms code new
    rooms =
        let limits = back.stays.world.limits in
        let cells = ap (λ (l : Limits). l.cells) limits in
        let out = ap (λ (l : Limits). l.out) limits in
        let depth = ap (λ (l : Limits). l.depth) limits in
        record {
          cells = let had = is.rooms.cells in let room = back.stays.world.room.0 in omega (arith, had, room, cells);
          out = let had = is.rooms.out in let room = back.stays.world.room.1 in omega (arith, had, room, out);
          frames = let had = is.rooms.frames in let room = back.stays.frames in omega (arith, had, room, depth);
          values = rw (depth, back.stays.values) is.rooms.values;
          evaluations = let had = is.rooms.evaluations in let room = back.stays.arguments in omega (arith, had, room);
          sends = let had = is.rooms.sends in let room = back.stays.arguments in omega (arith, had, room);
        }
