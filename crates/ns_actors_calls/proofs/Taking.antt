-- The next letter, which an actor that is kept takes.
use Rattle.std.proofs.Common.{◌≡◌, ◌<◌, ◌≤◌, ℕ, ◌+◌, List, [], ◌∷◌, refl, sym, ap, ◌∙◌, subst, arith, Option, Some, Bool, true, false, slice_get, get_or, length, IsSome}
use Rattle.std.specs.Option.{ForSome}
use Rattle.std.specs.Cmp.Lexicographic.{nat_list_eq_equiv}
use Rattle.std.proofs.lemmas.List.Elements.{All-nil, All-cons}
use Rattle.std.proofs.lemmas.Map.Views.{Contains-from_any, list_any-from_Contains}
use Rattle.std.proofs.lemmas.Option.{get_or_from_slice_get, same_Some, slice_get_past, slice_get_read, slice_get_within}
use Rattle.std.proofs.lemmas.Slice.Eq.{bytes_eq-Decides}
use Rattle.ns_base.specs.declared.selector.Sel.{Sel}
use Rattle.ns_code.specs.declared.program.CodeProgram.{CodeProgram}
use Rattle.ns_code.specs.Selector.{has_name, text_arity}
use Rattle.ns_facets.specs.Board.{value_of}
use Rattle.ns_facets.specs.declared.board.Plain.{Plain}
use Rattle.ns_facets.specs.declared.board.Plain.TheVariants as plain
use Rattle.ns_world.specs.Heap.{Heap}
use Rattle.ns_world.specs.Lawful.{IsLiveValue}
use Rattle.ns_world.specs.declared.ending.Ending.{Ending}
use Rattle.ns_world.specs.declared.ending.Ending.TheVariants.{Done, Error, Limit}
use Rattle.ns_world.specs.declared.value.Value.{Value}
use Rattle.ns_machine.specs.Asking.{HasSelector, MayAsk, named}
use Rattle.ns_machine.specs.Machine.{MachineView}
use Rattle.ns_moves.specs.Starts.{begun}
use Rattle.ns_moves.specs.State.{State, Unbegun, Going, Pends, Ended, Stuck, ending_of, is_idle, world_of}
use Rattle.ns_actors.specs.declared.letter.Letter.{Letter}
use Rattle.ns_actors.specs.declared.turn.ActorTurn.TheVariants as turn
use Rattle.ns_actors.specs.Actor.{ActorView, Stage, Between}
use Rattle.ns_actors.specs.Stated.{IsActor, LetterIsGood, StandsAt}
use Rattle.ns_actors.specs.Turn.{answering, next_taken, run_on, taken_by}
use Rattle.ns_actors_calls.specs.declared.actor.Actor.{Actor}
use Rattle.ns_actors_calls.specs.declared.stage.Standing.TheVariants as standing
use Rattle.ns_actors_calls.specs.Shown.{shown}
use Rattle.ns_actors_calls.specs.Steps.{MayBeSent, MayTake, TakesLetter, TakesNext, begun_with, taken_so}
use Rattle.ns_actors_calls.proofs.Lists.{there_is}

-- ---- the next letter

pub waits : (behaviour : Value) (k steps count : ℕ) (actor : ActorView) → length actor.box ≤ actor.taken
    → answering turn.Waiting actor ≡ next_taken (slice_get actor.box actor.taken) behaviour k steps count actor
waits behaviour k steps count actor past =
    ap (λ (o : Option Letter). next_taken o behaviour k steps count actor) (sym (slice_get_past actor.box actor.taken past))

answered_idle : (state : State) → ForSome (ending_of state) (λ ending. (value : Value) × (ending ≡ Done value)) → IsSome (ending_of state)
    → is_idle state ≡ true
answered_idle (Unbegun arguments p) done some = refl
answered_idle (Going phase frames p) done some = absurd (cc (some))
answered_idle (Pends phase pending frames p) done some = absurd (cc (some))
answered_idle (Stuck p) done some = absurd (cc (some))
answered_idle (Ended ending phase p) done some = by ending (done ending refl)
  where
    by : (ending : Ending) → (value : Value) × (ending ≡ Done value) → is_idle (Ended ending phase p) ≡ true
    by (Done v) (value, e) = refl
    by (Error error) (value, e) = absurd (cc (e))
    by (Limit limit) (value, e) = absurd (cc (e))

pub may_take : (k count : ℕ) (actor : ActorView) (behaviour : Value) → IsActor k count actor → actor.stage ≡ Between behaviour → MayTake behaviour actor
may_take k count actor behaviour is e letter got =
    let at : StandsAt (Between behaviour) k count actor = subst (λ (s : Stage). StandsAt s k count actor) e is.stage in
    let good : LetterIsGood count letter
    = subst (LetterIsGood count) (get_or_from_slice_get actor.box actor.taken letter letter got)
    (is.box actor.taken letter (slice_get_within actor.box actor.taken letter got)) in
    record { idle = answered_idle actor.state (at.1.0) (at.1.1); live = (at.0).live; one = good.one }

pub takes_known : (behaviour : Value) (k steps count : ℕ) (old new : ActorView) (result : Bool) → old.taken < length old.box → TakesNext behaviour result old new → result ≡ true
    → run_on k steps count new ≡ next_taken (slice_get old.box old.taken) behaviour k steps count old
takes_known behaviour k steps count old new result within takes e =
    let there = there_is old.box old.taken within in
    let letter = there.element in
    let has = takes letter there.is in
    let known : has_name old.application.code letter.sel ≡ true = sym has.named_is ∙ e in
    ap (λ (actor : ActorView). run_on k steps count actor) (has.new_is ∙ ap (λ (b : Bool). taken_so b behaviour letter old) e)
    ∙ (ap (λ (b : Bool). taken_by b behaviour letter k steps count old) (sym known)
    ∙ ap (λ (o : Option Letter). next_taken o behaviour k steps count old) (sym there.is))

pub takes_unknown : (behaviour : Value) (k steps count : ℕ) (old new : ActorView) (result : Bool) → old.taken < length old.box → TakesNext behaviour result old new → result ≡ false
    → answering turn.Unknown new ≡ next_taken (slice_get old.box old.taken) behaviour k steps count old
takes_unknown behaviour k steps count old new result within takes e =
    let there = there_is old.box old.taken within in
    let letter = there.element in
    let has = takes letter there.is in
    let unknown : has_name old.application.code letter.sel ≡ false = sym has.named_is ∙ e in
    ap (λ (actor : ActorView). answering turn.Unknown actor) (has.new_is ∙ ap (λ (b : Bool). taken_so b behaviour letter old) e)
    ∙ (ap (λ (b : Bool). taken_by b behaviour letter k steps count old) (sym unknown)
    ∙ ap (λ (o : Option Letter). next_taken o behaviour k steps count old) (sym there.is))

-- the letter that is read is there
pub next_got : (all items : List Letter) (taken : ℕ) (letter : Letter) → items ≡ all → taken < length all → letter ≡ get_or items taken letter
    → slice_get all taken ≡ Some letter
next_got all items taken letter e within is =
    slice_get_read all (length all) taken letter refl within (is ∙ ap (λ (letters : List Letter). get_or letters taken letter) e)

-- a letter that was taken is the next one
pub take_next : (behaviour : Value) (named : Bool) (letter : Letter) (old new : ActorView) → slice_get old.box old.taken ≡ Some letter
    → named ≡ has_name old.application.code letter.sel → new ≡ taken_so named behaviour letter old → TakesNext behaviour named old new
take_next behaviour named letter old new got named_is new_is other there =
    subst (TakesLetter behaviour named old new) (same_Some letter other (sym got ∙ there)) (record { named_is = named_is; new_is = new_is })

-- ---- an actor that is kept

-- its machine has begun the send
pub takes_named : (actor : Actor) (behaviour : Value) (letter : Letter) (machine : MachineView) → machine ≡ begun_with behaviour letter actor.machine
    → shown (record actor { machine = machine; standing = standing.Sending behaviour; taken = actor.taken + 1 }) ≡ taken_so true behaviour letter (shown actor)
takes_named actor behaviour letter machine e =
    ap (λ (m : MachineView). shown (record actor { machine = m; standing = standing.Sending behaviour; taken = actor.taken + 1 })) e

-- or is as it was
pub takes_other : (actor : Actor) (behaviour : Value) (letter : Letter) (machine : MachineView) → machine ≡ actor.machine
    → shown (record actor { machine = machine; taken = actor.taken + 1 }) ≡ taken_so false behaviour letter (shown actor)
takes_other actor behaviour letter machine e =
    ap (λ (m : MachineView). shown (record actor { machine = m; taken = actor.taken + 1 })) e

-- ---- what may be asked

pub asked_known : (code : CodeProgram) (text : List ℕ) → HasSelector code text 1 → has_name code text ≡ true
asked_known code text has = list_any-from_Contains nat_list_eq_equiv text code.names has.has_name

pub known_asked : (code : CodeProgram) (text : List ℕ) → has_name code text ≡ true → text_arity text ≡ 1 → HasSelector code text 1
known_asked code text known one = record {
  has_name = Contains-from_any (λ x y. (bytes_eq-Decides x y).0) text code.names known;
  arity = one;
  few = omega arith;
}

plain_lives : (heap : Heap) (code : CodeProgram) (arg : Plain) → IsLiveValue heap code (value_of arg)
plain_lives heap code plain.Nil = (tt, refl)
plain_lives heap code plain.True = (tt, refl)
plain_lives heap code plain.False = (tt, refl)
plain_lives heap code (plain.Int number) = (tt, refl)

pub may_ask : (behaviour : Value) (letter : Letter) (code : CodeProgram) (state : State) → MayBeSent behaviour letter code state
    → has_name code letter.sel ≡ true → MayAsk code state behaviour letter.sel (value_of letter.arg ∷ [])
may_ask behaviour letter code state may known =
    let cells = (world_of state).cells in
    record {
      idle = may.idle;
      live = may.live;
      all_live = All-cons (IsLiveValue cells code) (value_of letter.arg) [] (plain_lives cells code letter.arg) (All-nil (IsLiveValue cells code));
      selector = known_asked code letter.sel known may.one;
    }

-- a test that doesn't hold
pub not_true : (b : Bool) → (b ≡ true → ⊥) → false ≡ b
not_true true n = absurd (n refl)
not_true false n = refl

-- a letter that may be sent, and isn't asked for, is one that the code doesn't name
pub not_named : (behaviour : Value) (letter : Letter) (code : CodeProgram) (state : State) (text : List ℕ) (argument : Value) → text ≡ letter.sel
    → argument ≡ value_of letter.arg → MayBeSent behaviour letter code state → (MayAsk code state behaviour text (argument ∷ []) → ⊥)
    → false ≡ has_name code letter.sel
not_named behaviour letter code state text argument texts arguments may none =
    not_true (has_name code letter.sel)
    (λ known. none (subst (λ (t : List ℕ). MayAsk code state behaviour t (argument ∷ [])) (sym texts)
    (subst (λ (a : Value). MayAsk code state behaviour letter.sel (a ∷ [])) (sym arguments) (may_ask behaviour letter code state may known))))

-- one that is asked for has a name, and its send has begun
pub is_named : (behaviour : Value) (letter : Letter) (code : CodeProgram) (state : State) (text : List ℕ) (argument : Value) → text ≡ letter.sel
    → MayAsk code state behaviour text (argument ∷ []) → true ≡ has_name code letter.sel
is_named behaviour letter code state text argument texts may =
    subst (λ (t : List ℕ). true ≡ has_name code t) texts (sym (asked_known code text may.selector))

pub begun_is : (behaviour : Value) (letter : Letter) (machine new : MachineView) (sel : Sel) (text : List ℕ) (argument : Value) → text ≡ letter.sel
    → argument ≡ value_of letter.arg → sel ≡ named machine.code text
    → new ≡ record machine { state = begun behaviour sel (argument ∷ []) machine.state } → new ≡ begun_with behaviour letter machine
begun_is behaviour letter machine new sel text argument texts arguments sels e =
    e
    ∙ (ap (λ (s : Sel). record machine { state = begun behaviour s (argument ∷ []) machine.state })
    (sels ∙ ap (λ (t : List ℕ). named machine.code t) texts)
    ∙ ap (λ (a : Value). record machine { state = begun behaviour (named machine.code letter.sel) (a ∷ []) machine.state }) arguments)
