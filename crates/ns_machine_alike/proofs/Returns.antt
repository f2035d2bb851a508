-- Values go on to paired frames, and return to the same homes.
use Rattle.std.proofs.Common.{◌≡◌, ℕ, ◌<◌, ◌≤◌, List, [], ◌∷◌, true, cond, refl, ap, ◌∙◌, arith}
use Rattle.std.specs.Prelude.{nat_lt, ◌==◌}
use Rattle.std.proofs.lemmas.Bool.{eqb-true, eq-eqb, ltb-true}
use Rattle.ns_code.specs.declared.program.CodeProgram.{CodeProgram}
use Rattle.ns_world.specs.declared.value.Value.{Value}
use Rattle.ns_world.specs.declared.ending.Kind.TheVariants.{DeadReturn}
use Rattle.ns_world.specs.laws.Chains.{both_of}
use Rattle.ns_moves.specs.Site.{error}
use Rattle.ns_moves.specs.Control.{Progress, Activation, FromMethod, FromBody, FromClause, After, Gives, Halts, frame_left}
use Rattle.ns_moves.specs.Bodies.{no_home}
use Rattle.ns_moves.specs.Classes.{body_ended}
use Rattle.ns_moves.specs.State.{Leaving, Loud, Silent, Frame, Running, Looping, Hosted, Ended}
use Rattle.ns_moves.specs.Returns.{delivered, settled, returned, ends_at, is_home, has_home, unwound, returned_home}
use Rattle.ns_moves.specs.ValidFrames.{homes_fall}
use Rattle.ns_machine_alike.specs.Paired.{IsPairing, BeganAlike, HomePaired, Began, EndedBefore, Homeless, Paired, Abreast, ActivationPaired, AfterPaired, LeavingPaired, LeavingHome, FramePaired, FramesPaired, StatePaired}
use Rattle.ns_machine_alike.proofs.Values.{cond_so}
use Rattle.ns_machine_alike.proofs.Charging.{same_bool, left_abreast}
use Rattle.ns_machine_alike.proofs.Actions.{same_error, body_ended_paired}
use Rattle.ns_machine_alike.proofs.Blocks.{taken_paired}

-- ---- homes

-- the home of a method is a number of activations
abbrev pub SmallHome : Leaving → ℕ → Type 0
SmallHome (Loud FromMethod) home = home < no_home
SmallHome (Loud FromBody) home = Unit {0}
SmallHome (Loud (FromClause object holder class)) home = Unit {0}
SmallHome Silent home = Unit {0}

abbrev pub SmallHomes : List Frame → Type 0
SmallHomes [] = Unit {0}
SmallHomes (Running leaving activation locals rest stack ∷ frames) = SmallHome leaving activation.home × SmallHomes frames
SmallHomes (Looping method state site ∷ frames) = SmallHomes frames

pub small_homes : (bound : ℕ) (frames : List Frame) → bound ≤ no_home → homes_fall bound frames ≡ true → SmallHomes frames
small_homes bound [] small e = tt
small_homes bound (Running (Loud FromMethod) activation locals rest stack ∷ frames) small e =
    let parts = both_of (nat_lt activation.home bound) (homes_fall activation.home frames) e in
    let less = ltb-true activation.home bound parts.0 in (omega (arith, less, small), small_homes activation.home frames (omega (arith, less, small)) parts.1)
small_homes bound (Running (Loud FromBody) activation locals rest stack ∷ frames) small e = (tt, small_homes bound frames small e)
small_homes bound (Running (Loud (FromClause object holder class)) activation locals rest stack ∷ frames) small e =
    (tt, small_homes bound frames small e)
small_homes bound (Running Silent activation locals rest stack ∷ frames) small e = (tt, small_homes bound frames small e)
small_homes bound (Looping method state site ∷ frames) small e = small_homes bound frames small e

-- homes that are paired are the homes of methods in both, or in neither
same_home : (own other mine yours home partner : ℕ) → BeganAlike own other mine yours → HomePaired own other home partner → mine < no_home →
    yours < no_home → (mine == home) ≡ (yours == partner)
same_home own other mine yours home partner b (Began c) small small' =
    same_bool (mine == home) (yours == partner) (λ t. eq-eqb yours partner (let e = eqb-true mine home t in omega (arith, e, b.one, b.two, c.one, c.two)))
    (λ t. eq-eqb mine home (let e = eqb-true yours partner t in omega (arith, e, b.one, b.two, c.one, c.two)))
same_home own other mine yours home partner b (EndedBefore h k) small small' =
    same_bool (mine == home) (yours == partner) (λ t. absurd (let e = eqb-true mine home t in omega (arith, e, b.one, h))) (λ t. absurd (let e = eqb-true yours partner t in omega (arith, e, b.two, k)))
same_home own other mine yours home partner b (Homeless h k) small small' =
    same_bool (mine == home) (yours == partner) (λ t. absurd (let e = eqb-true mine home t in omega (arith, e, h, small))) (λ t. absurd (let e = eqb-true yours partner t in omega (arith, e, k, small')))

module _ (Pair : ℕ → ℕ → Type 0) (first second : Progress) (pairing : IsPairing Pair first.world second.world) where
  module _ (code : CodeProgram) where
    -- ---- where values go

    delivered_paired : (value value' : Value) (frames frames' : List Frame) (one two : Progress) → Abreast Pair first second one two → Paired Pair value value' → FramesPaired Pair first second frames frames'
        → StatePaired Pair first second (delivered code Hosted value frames one) (delivered code Hosted value' frames' two)
    delivered_paired value value' [] [] one two a v all = (v, tt, a)
    delivered_paired value value' (Running leaving activation locals rest stack ∷ frames) (Running leaving' activation' locals' rest' stack' ∷ frames') one two a v all = (tt, ((all.0.0, all.0.1, all.0.2, all.0.3, all.0.4, (v, all.0.5)), all.1), a)
    delivered_paired value value' (Looping method state site ∷ frames) (Looping method' state' site' ∷ frames') one two a v all = (tt, ((all.0.0, taken_paired Pair first second pairing state state' value value' all.0.1 v, all.0.2), all.1), a)
    delivered_paired value value' [] (frame' ∷ frames') one two a v all = absurd all
    delivered_paired value value' (Running leaving activation locals rest stack ∷ frames) [] one two a v all = absurd all
    delivered_paired value value' (Looping method state site ∷ frames) [] one two a v all = absurd all
    delivered_paired value value' (Running leaving activation locals rest stack ∷ frames) (Looping method' state' site' ∷ frames') one two a v all = absurd all.0
    delivered_paired value value' (Looping method state site ∷ frames) (Running leaving' activation' locals' rest' stack' ∷ frames') one two a v all = absurd all.0

    pub settled_paired : (after after' : After) (frames frames' : List Frame) → AfterPaired Pair first second after after' → FramesPaired Pair first second frames frames' → StatePaired Pair first second (settled code Hosted after frames) (settled code Hosted after' frames')
    settled_paired (Gives value one) (Gives value' two) frames frames' a all = delivered_paired value value' frames frames' one two a.1 a.0 all
    settled_paired (Halts ending one) (Halts ending' two) frames frames' a all = (a.0, tt, a.1)
    settled_paired (Gives value one) (Halts ending' two) frames frames' a all = absurd a
    settled_paired (Halts ending one) (Gives value' two) frames frames' a all = absurd a

    pub returned_paired : (leaving leaving' : Leaving) (activation activation' : Activation) (value value' : Value) (frames frames' : List Frame) (one two : Progress) → Abreast Pair first second one two → LeavingPaired Pair first second leaving leaving'
        → ActivationPaired Pair first second activation activation' → Paired Pair value value' → FramesPaired Pair first second frames frames'
        → StatePaired Pair first second (returned code Hosted leaving activation value frames one) (returned code Hosted leaving' activation' value' frames' two)
    returned_paired (Loud exit) (Loud exit') activation activation' value value' frames frames' one two a l p v all =
        settled_paired (body_ended code exit activation value one) (body_ended code exit' activation' value' two) frames frames' (body_ended_paired Pair first second pairing code exit exit' activation activation' value value' one two a l p v) all
    returned_paired Silent Silent activation activation' value value' frames frames' one two a l p v all = (tt, all, left_abreast Pair first second pairing one two a)
    returned_paired (Loud exit) Silent activation activation' value value' frames frames' one two a l p v all = absurd l
    returned_paired Silent (Loud exit') activation activation' value value' frames frames' one two a l p v all = absurd l

    -- ---- returns from a home

    ends_same : (leaving leaving' : Leaving) (own own' home home' : ℕ) → LeavingPaired Pair first second leaving leaving' → LeavingHome Pair first second leaving own own' → SmallHome leaving own → SmallHome leaving' own'
        → HomePaired first.begun second.begun home home' → ends_at leaving own home ≡ ends_at leaving' own' home'
    ends_same (Loud FromMethod) (Loud FromMethod) own own' home home' l b small small' h = same_home first.begun second.begun own own' home home' b h small small'
    ends_same (Loud FromBody) (Loud FromBody) own own' home home' l b small small' h = refl
    ends_same (Loud (FromClause object holder class)) (Loud (FromClause object' holder' class')) own own' home home' l b small small' h = refl
    ends_same Silent Silent own own' home home' l b small small' h = refl
    ends_same (Loud FromMethod) (Loud FromBody) own own' home home' l b small small' h = absurd l
    ends_same (Loud FromMethod) (Loud (FromClause object' holder' class')) own own' home home' l b small small' h = absurd l
    ends_same (Loud FromMethod) Silent own own' home home' l b small small' h = absurd l
    ends_same (Loud FromBody) (Loud FromMethod) own own' home home' l b small small' h = absurd l
    ends_same (Loud FromBody) (Loud (FromClause object' holder' class')) own own' home home' l b small small' h = absurd l
    ends_same (Loud FromBody) Silent own own' home home' l b small small' h = absurd l
    ends_same (Loud (FromClause object holder class)) (Loud FromMethod) own own' home home' l b small small' h = absurd l
    ends_same (Loud (FromClause object holder class)) (Loud FromBody) own own' home home' l b small small' h = absurd l
    ends_same (Loud (FromClause object holder class)) Silent own own' home home' l b small small' h = absurd l
    ends_same Silent (Loud exit) own own' home home' l b small small' h = absurd l

    -- a frame and its partner, and the others below
    is_home_same : (frame frame' : Frame) (frames frames' : List Frame) (home home' : ℕ) → FramePaired Pair first second frame frame' → SmallHomes (frame ∷ frames) → SmallHomes (frame' ∷ frames') → HomePaired first.begun second.begun home home'
        → is_home home frame ≡ is_home home' frame'
    is_home_same (Running leaving activation locals rest stack) (Running leaving' activation' locals' rest' stack') frames frames' home home' f small small' h =
        ends_same leaving leaving' activation.home activation'.home home home' f.0 f.1 small.0 small'.0 h
    is_home_same (Looping method state site) (Looping method' state' site') frames frames' home home' f small small' h = refl
    is_home_same (Running leaving activation locals rest stack) (Looping method' state' site') frames frames' home home' f small small' h = absurd f
    is_home_same (Looping method state site) (Running leaving' activation' locals' rest' stack') frames frames' home home' f small small' h = absurd f

    small_rest : (frame : Frame) (frames : List Frame) → SmallHomes (frame ∷ frames) → SmallHomes frames
    small_rest (Running leaving activation locals rest stack) frames small = small.1
    small_rest (Looping method state site) frames small = small

    has_home_same : (frames frames' : List Frame) (home home' : ℕ) → FramesPaired Pair first second frames frames' → SmallHomes frames → SmallHomes frames' → HomePaired first.begun second.begun home home' → has_home home frames ≡ has_home home' frames'
    has_home_same [] [] home home' all small small' h = refl
    has_home_same (frame ∷ frames) (frame' ∷ frames') home home' all small small' h =
        let here = is_home_same frame frame' frames frames' home home' all.0 small small' h in
        let rest = has_home_same frames frames' home home' all.1 (small_rest frame frames small) (small_rest frame' frames' small') h in
        ap (λ b. cond b true (has_home home frames)) here ∙ ap (λ c. cond (is_home home' frame') true c) rest
    has_home_same [] (frame' ∷ frames') home home' all small small' h = absurd all
    has_home_same (frame ∷ frames) [] home home' all small small' h = absurd all

    unwound_paired : (home home' : ℕ) (value value' : Value) (frames frames' : List Frame) (one two : Progress) → Abreast Pair first second one two → Paired Pair value value' → FramesPaired Pair first second frames frames' → SmallHomes frames → SmallHomes frames'
        → HomePaired first.begun second.begun home home' → StatePaired Pair first second (unwound code Hosted home value frames one) (unwound code Hosted home' value' frames' two)
    unwound_paired home home' value value' [] [] one two a v all small small' h = a
    unwound_paired home home' value value' (frame ∷ frames) (frame' ∷ frames') one two a v all small small' h =
        cond_so (StatePaired Pair first second) (is_home home frame) (is_home home' frame') (delivered code Hosted value frames (frame_left one)) (unwound code Hosted home value frames (frame_left one))
        (delivered code Hosted value' frames' (frame_left two)) (unwound code Hosted home' value' frames' (frame_left two)) (is_home_same frame frame' frames frames' home home' all.0 small small' h)
        (λ t. delivered_paired value value' frames frames' (frame_left one) (frame_left two) (left_abreast Pair first second pairing one two a) v all.1)
        (λ t. unwound_paired home home' value value' frames frames' (frame_left one) (frame_left two) (left_abreast Pair first second pairing one two a) v all.1 (small_rest frame frames small) (small_rest frame' frames' small') h)
    unwound_paired home home' value value' [] (frame' ∷ frames') one two a v all small small' h = absurd all
    unwound_paired home home' value value' (frame ∷ frames) [] one two a v all small small' h = absurd all

    pub returned_home_paired : (activation activation' : Activation) (value value' : Value) (frames frames' : List Frame) (one two : Progress) → Abreast Pair first second one two → ActivationPaired Pair first second activation activation' → Paired Pair value value'
        → FramesPaired Pair first second frames frames' → SmallHomes frames → SmallHomes frames' → StatePaired Pair first second (returned_home code Hosted activation value frames one) (returned_home code Hosted activation' value' frames' two)
    returned_home_paired activation activation' value value' frames frames' one two a p v all small small' =
        cond_so (StatePaired Pair first second) (has_home activation.home frames) (has_home activation'.home frames') (unwound code Hosted activation.home value frames one) (Ended (error DeadReturn activation.site) Hosted one)
        (unwound code Hosted activation'.home value' frames' two) (Ended (error DeadReturn activation'.site) Hosted two) (has_home_same frames frames' activation.home activation'.home all small small' p.home)
        (λ t. unwound_paired activation.home activation'.home value value' frames frames' one two a v all small small' p.home) (λ t. (same_error Pair DeadReturn activation.site activation'.site p.site, tt, a))
