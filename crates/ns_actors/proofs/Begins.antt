-- A letter that its code names can be sent to the behaviour of an actor that has answered.
use Rattle.std.proofs.Common.{◌≡◌, ◌<◌, ◌≤◌, ℕ, suc, ◌+◌, ◌-◌, List, [], ◌∷◌, refl, sym, ap, ◌∙◌, arith, Bool, true, false, length, IsSome, nat_lt, if◌then◌else◌, ◌||◌, ◌&&◌, not, bytes_eq}
use Rattle.std.specs.List.{list_any, slice_index_or}
use Rattle.std.specs.Option.{ForSome}
use Rattle.std.proofs.lemmas.Slice.Eq.{bytes_eq-Decides}
use Rattle.std.proofs.lemmas.Bool.{lt-ltb}
use Rattle.std.proofs.lemmas.List.Elements.{All-nil, All-cons}
use Rattle.ns_code.specs.declared.program.CodeProgram.{CodeProgram}
use Rattle.ns_code.specs.Own.{own_texts}
use Rattle.ns_code.specs.Selector.{has_name, name_number, own_text_at, selector_text, text_arity}
use Rattle.ns_facets.specs.Board.{value_of}
use Rattle.ns_facets.specs.declared.board.Plain.{Plain}
use Rattle.ns_facets.specs.declared.board.Plain.TheVariants as plain
use Rattle.ns_moves.specs.Beginning.{MayBegin}
use Rattle.ns_moves.specs.State.{State, Unbegun, Going, Pends, Ended, Stuck, ending_of, is_idle, world_of}
use Rattle.ns_world.specs.Heap.{Heap}
use Rattle.ns_world.specs.Lawful.{IsLiveValue}
use Rattle.ns_world.specs.declared.ending.Ending.{Ending}
use Rattle.ns_world.specs.declared.ending.Ending.TheVariants.{Done, Error, Limit}
use Rattle.ns_world.specs.declared.value.Value.{Value}
use Rattle.ns_machine.specs.Asking.{named}
use Rattle.ns_actors.specs.declared.letter.Letter.{Letter}
use Rattle.ns_actors.specs.Actor.{ActorView}
use Rattle.ns_actors.specs.Stated.{HasAnswered}

-- ---- the number of a name

pub record NameIs (names : List (List ℕ)) (text : List ℕ) (first other : ℕ) : Type 0 where
  pub from : first ≤ name_number names first text other
  pub within : name_number names first text other < first + length names
  pub is : slice_index_or names (name_number names first text other - first) [] ≡ text

name_is : (names : List (List ℕ)) (text : List ℕ) (first other : ℕ) → list_any (bytes_eq text) names ≡ true → NameIs names text first other
name_is [] text first other e = absurd (cc (e))
name_is (name ∷ names) text first other e = by (bytes_eq name text) refl (name_is names text (first + 1) other)
  where
    rest_has : bytes_eq name text ≡ false → (b : Bool) → bytes_eq text name ≡ b → (b || list_any (bytes_eq text) names) ≡ true → list_any (bytes_eq text) names ≡ true
    rest_has differ true f h =
        let same : bytes_eq name text ≡ true = (bytes_eq-Decides name text).1 (sym ((bytes_eq-Decides text name).0 f)) in
        let both : false ≡ true = sym differ ∙ same in absurd (cc)
    rest_has differ false f h = h

    by : (b : Bool) → bytes_eq name text ≡ b → (list_any (bytes_eq text) names ≡ true → NameIs names text (first + 1) other) → NameIs (name ∷ names) text first other
    by true f rest =
        let is : name_number (name ∷ names) first text other ≡ first = ap (λ (b : Bool). if b then first else name_number names (first + 1) text other) f in
        let none : first - first ≡ 0 = omega arith in
        let one : length (name ∷ names) ≡ length names + 1 = omega arith in
        record {
          from = omega (arith, is);
          within = omega (arith, is, one);
          is = ap (λ n. slice_index_or (name ∷ names) (n - first) []) is ∙ (ap (λ n. slice_index_or (name ∷ names) n []) none ∙ (bytes_eq-Decides name text).0 f);
        }
    by false f rest =
        let is : name_number (name ∷ names) first text other ≡ name_number names (first + 1) text other
        = ap (λ (b : Bool). if b then first else name_number names (first + 1) text other) f in
        let next = rest (rest_has f (bytes_eq text name) refl e) in
        let from = next.from in
        let within = next.within in
        let one : length (name ∷ names) ≡ length names + 1 = omega arith in
        let place : name_number names (first + 1) text other - first ≡ suc (name_number names (first + 1) text other - (first + 1)) = omega (arith, from) in
        record {
          from = omega (arith, is, from);
          within = omega (arith, is, within, one);
          is = ap (λ n. slice_index_or (name ∷ names) (n - first) []) is ∙ (ap (λ n. slice_index_or (name ∷ names) n []) place ∙ next.is);
        }

-- ---- what a letter asks for

plain_lives : (heap : Heap) (code : CodeProgram) (arg : Plain) → IsLiveValue heap code (value_of arg)
plain_lives heap code plain.Nil = (tt, refl)
plain_lives heap code plain.True = (tt, refl)
plain_lives heap code plain.False = (tt, refl)
plain_lives heap code (plain.Int number) = (tt, refl)

answered_idle : (state : State) → ForSome (ending_of state) (λ ending. (value : Value) × (ending ≡ Done value)) → IsSome (ending_of state) → is_idle state ≡ true
answered_idle (Unbegun arguments p) done some = refl
answered_idle (Going phase frames p) done some = absurd (cc (some))
answered_idle (Pends phase pending frames p) done some = absurd (cc (some))
answered_idle (Stuck p) done some = absurd (cc (some))
answered_idle (Ended ending phase p) done some = by ending (done ending refl)
  where
    by : (ending : Ending) → (value : Value) × (ending ≡ Done value) → is_idle (Ended ending phase p) ≡ true
    by (Done v) (value, e) = refl
    by (Error error) (value, e) = absurd (cc (e))
    by (Limit limit) (value, e) = absurd (cc (e))

pub may_begin : (behaviour : Value) (letter : Letter) (actor : ActorView) → HasAnswered actor → IsLiveValue (world_of actor.state).cells actor.application.code behaviour
    → has_name actor.application.code letter.sel ≡ true → text_arity letter.sel ≡ 1
    → MayBegin actor.application.code behaviour (named actor.application.code letter.sel) (value_of letter.arg ∷ []) actor.state
may_begin behaviour letter actor (done, some) live named_it one =
    let code = actor.application.code in
    let number = name_number code.names 0 letter.sel (length code.names) in
    let name = name_is code.names letter.sel 0 (length code.names) named_it in
    let less = name.within in
    let within : number < length code.names = omega (arith, less) in
    let below : nat_lt number (length code.names) ≡ true = lt-ltb number (length code.names) within in
    let none : number - 0 ≡ number = omega arith in
    let text : selector_text code number ≡ letter.sel
    = ap (λ (b : Bool). if b then slice_index_or code.names number [] else own_text_at (number - length code.names)) below
    ∙ (ap (λ n. slice_index_or code.names n []) (sym none) ∙ name.is) in
    record {
      idle = answered_idle actor.state done some;
      live = live;
      fits = record {
        selector = ap (λ (b : Bool). b || (nat_lt (number - length code.names) (length own_texts) && not (has_name code (own_text_at (number - length code.names))))) below;
        arity = sym (ap text_arity text ∙ one);
        live = All-cons (IsLiveValue (world_of actor.state).cells code) (value_of letter.arg) [] (plain_lives (world_of actor.state).cells code letter.arg)
            (All-nil (IsLiveValue (world_of actor.state).cells code));
      };
      few = omega arith;
    }
