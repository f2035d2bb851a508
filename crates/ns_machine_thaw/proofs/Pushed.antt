-- Values are put on the operands one after another.
use Rattle.std.proofs.Common.{◌≡◌, ℕ, ◌+◌, ◌<◌, ◌≤◌, List, [], ◌∷◌, ◌++◌, length, refl, ap, sym, ◌∙◌, arith, append-nil, append_assoc, length-set}
use Rattle.std.proofs.lemmas.List.{length-append, reverse-append}
use Rattle.ns_world.specs.declared.value.Value.{Value}
use Rattle.ns_machine_frames.specs.declared.registers.Registers.{Registers}
use Rattle.ns_machine_frames.specs.declared.stack.Stack.{Stack}
use Rattle.ns_machine_frames.specs.Row.{FrameRow}
use Rattle.ns_machine_frames.specs.Standing.{Stood, Runs, Loops, pushed, pushed_all}
use Rattle.ns_machine_frames.specs.Stack.{in_use, stood, with_top, IsLaid, KeepsRoom, put_at}

none_pushed : (stands : List Stood) → stands ≡ pushed_all [] stands
none_pushed [] = refl
none_pushed (Runs frame locals stack ∷ stands) = refl
none_pushed (Loops frame ∷ stands) = refl

one_more : (values : List Value) (value : Value) (stands : List Stood) → pushed value (pushed_all values stands) ≡ pushed_all (values ++ value ∷ []) stands
one_more values value [] = refl
one_more values value (Runs frame locals stack ∷ stands) =
    ap (λ (front : List Value). Runs frame locals (front ++ stack) ∷ stands) (sym (reverse-append values (value ∷ [])))
one_more values value (Loops frame ∷ stands) = refl

-- So many values have been put on the operands.
pub record Pushed (values : List Value) (old : Stack) (at : Registers) (new : Stack) (above : Registers) : Type 0 where
  pub stood : stood new above ≡ pushed_all values (stood old at)
  pub used : in_use new above ≡ in_use old at ++ values
  pub laid : IsLaid new above
  pub frames : new.frames ≡ old.frames
  pub values_room : new.values.room ≡ old.values.room
  pub filled : length new.values.items ≡ length old.values.items
  pub registers : above ≡ with_top (at.top + length values) at

pub pushing_starts : (stack : Stack) (at : Registers) → IsLaid stack at → Pushed [] stack at stack at
pushing_starts stack at laid = record {
  stood = none_pushed (stood stack at);
  used = sym (append-nil (in_use stack at));
  laid = laid;
  frames = refl;
  values_room = refl;
  filled = refl;
  registers = ap (λ (n : ℕ). with_top n at) (omega arith);
}

-- there is room for one more
pub room_for_next : (values : List Value) (old new : Stack) (at above : Registers) (more : ℕ) → length values < more → at.top + more ≤ length old.values.items
    → Pushed values old at new above → above.top < length new.values.items
room_for_next values old new at above more left room is =
    let top = ap (λ (r : Registers). r.top) is.registers in
    let filled = is.filled in
    omega (arith, left, room, top, filled)

pub pushing_goes_on : (values : List Value) (value : Value) (old new after : Stack) (at above last : Registers) → Pushed values old at new above
    → stood after last ≡ pushed value (stood new above) → in_use after last ≡ in_use new above ++ value ∷ [] → IsLaid after last
    → after ≡ put_at above.top value new → last ≡ with_top (above.top + 1) above → Pushed (values ++ value ∷ []) old at after last
pushing_goes_on values value old new after at above last is stands used laid write top = record {
  stood = stands ∙ (ap (pushed value) is.stood ∙ one_more values value (stood old at));
  used = used ∙ (ap (λ (front : List Value). front ++ value ∷ []) is.used ∙ append_assoc (in_use old at) values (value ∷ []));
  laid = laid;
  frames = ap (λ (s : Stack). s.frames) write ∙ is.frames;
  values_room = ap (λ (s : Stack). s.values.room) write ∙ is.values_room;
  filled = ap (λ (s : Stack). length s.values.items) write ∙ (length-set new.values.items above.top value ∙ is.filled);
  registers =
      top
      ∙ (ap (λ (r : Registers). with_top (r.top + 1) r) is.registers
      ∙ ap (λ (n : ℕ). with_top n at) (omega (arith, length-append values (value ∷ []))));
}

-- there is as much room as there was
pub pushing_keeps : (values : List Value) (old new : Stack) (at above : Registers) → Pushed values old at new above → KeepsRoom old new
pushing_keeps values old new at above is = record {
  values = is.values_room;
  frames = ap (λ (row : FrameRow). row.room) is.frames;
  filled = let same = is.filled in omega (arith, same);
}
