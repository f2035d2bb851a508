-- A good frame of a method of the kernel is one that a run can have.
use Rattle.std.proofs.Common.{◌≡◌, ℕ, refl, subst, Option, Some, None, true, false, ◌&&◌}
use Rattle.std.proofs.lemmas.Bool.{and_parts}
use Rattle.std.proofs.lemmas.Option.{same_Some}
use Rattle.std.specs.Option.{option_map_or, ForSome}
use Rattle.ns_code.specs.declared.program.CodeProgram.{CodeProgram}
use Rattle.ns_world.specs.declared.value.Value.{Value}
use Rattle.ns_world.specs.Heap.{Heap}
use Rattle.ns_world.specs.Lawful.{IsLiveValue}
use Rattle.ns_world.specs.declared.kernel_parts.KMethod.{KMethod}
use Rattle.ns_kcode.specs.declared.state.KState.{KState}
use Rattle.ns_moves.specs.Blocks.{has_arguments}
use Rattle.ns_moves.specs.Fitting.{belongs_to, counts_fit}
use Rattle.ns_moves.specs.ValidFrames.{Awaited, Nothing, SendValue, BlockValue, PartEnd, waits_for, LoopingIsValid}
use Rattle.ns_frozen.specs.declared.frame.FrameKind.TheVariants as kinds
use Rattle.ns_frozen.specs.declared.frame.FrozenFrame.{FrozenFrame}
use Rattle.ns_frozen.specs.Live.{is_live}
use Rattle.ns_frozen.specs.Frames.{Above, is_under_block, is_site, is_state, is_looping, is_good_frame}
use Rattle.ns_frozen.proofs.FrameHolds.{Given}
use Rattle.ns_frozen.proofs.Tests.{live_holds, site_holds}

-- it awaits a block alone, where a send's value isn't awaited of a block
block_awaited : (awaited : Awaited) (above : Above) → Given false awaited above → is_under_block above ≡ true → (awaited ≡ SendValue → is_under_block above ≡ false) → waits_for awaited ≡ true
block_awaited Nothing above g u sent = refl
block_awaited SendValue above g u sent = absurd (cc (u, sent refl))
block_awaited BlockValue above g u sent = refl
block_awaited PartEnd above g u sent = absurd (cc (g.1))

last_holds : (code : CodeProgram) (heap : Heap) (last : Option Value) → option_map_or (is_live code heap) last true ≡ true → ForSome last (λ (value : Value). IsLiveValue heap code value)
last_holds code heap None e = λ value o. absurd (cc (o))
last_holds code heap (Some one) e = λ value o. subst (λ (v : Value). IsLiveValue heap code v) (same_Some one value o) (live_holds heap code one e)

-- A good frame of a method of the kernel is one that a run can have.
pub looping_holds : (code : CodeProgram) (heap : Heap) (homes least : ℕ) (awaited : Awaited) (above : Above) (frame : FrozenFrame) (method : KMethod) (state : KState) → Given false awaited above
    → is_good_frame code heap homes least above frame (kinds.Kernel method state) ≡ true → (awaited ≡ SendValue → is_under_block above ≡ false) → LoopingIsValid heap code awaited method state frame.site
looping_holds code heap homes least awaited above frame method state g e sent =
    let a = and_parts (is_state code heap method state && is_looping frame state) (is_under_block above && is_site code frame.site) e in
    let b = and_parts (is_state code heap method state) (is_looping frame state) a.0 in
    let c = and_parts (is_under_block above) (is_site code frame.site) a.1 in
    let d = and_parts (is_live code heap state.receiver) _ b.0 in
    let f = and_parts (is_live code heap state.first) _ d.1 in
    let h = and_parts (is_live code heap state.second) _ f.1 in
    let i = and_parts (option_map_or (is_live code heap) state.last true) _ h.1 in
    let j = and_parts (belongs_to heap state.receiver method) _ i.1 in
    let k = and_parts (has_arguments heap method state.first state.second) (counts_fit heap state method) j.1 in
    record {
      live = record {
        receiver = live_holds heap code state.receiver d.0;
        first = live_holds heap code state.first f.0;
        second = live_holds heap code state.second h.0;
        last = last_holds code heap state.last i.0;
      };
      receiver = j.0;
      arguments = k.0;
      counts = k.1;
      waits = block_awaited awaited above g c.0 sent;
      named = site_holds code frame.site c.1;
    }
