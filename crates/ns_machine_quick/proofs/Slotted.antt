-- Slots that a send reads or writes.
use Rattle.std.proofs.Common.{◌≡◌, ℕ, ◌<◌, List, [], ◌∷◌, length, ap, sym, ◌∙◌, refl, subst, arith, Ok, Some}
use Rattle.ns_code.specs.declared.program.CodeProgram.{CodeProgram}
use Rattle.ns_world.specs.declared.value.Value.{Value}
use Rattle.ns_world.specs.declared.value.Value.TheVariants as value
use Rattle.ns_world.specs.declared.value.Value.TheVariants.{Ref}
use Rattle.ns_world.specs.Heap.{Heap, words_at, open_words_at, word_of_object}
use Rattle.ns_world.specs.Lawful.{IsLawful, HasHolder}
use Rattle.ns_world.specs.World.{World, WorldView, stepped, stored}
use Rattle.ns_find.specs.declared.found.Found.{Found}
use Rattle.ns_find.specs.declared.found.Found.TheVariants.{Getter, Setter}
use Rattle.ns_find.specs.Belonging.{IsSlotOf}
use Rattle.ns_kdata.specs.Arguments.{argument}
use Rattle.ns_moves.specs.Control.{Activation, gives, in_world}
use Rattle.ns_moves.specs.Sends.{Target, answered_by, first_of, found_at, receiver_of}
use Rattle.ns_moves.specs.Suits.{Suits}
use Rattle.ns_moves.specs.Arrivals.{arrived}
use Rattle.ns_machine_frames.specs.declared.frame.KeptSite.{KeptSite}
use Rattle.ns_machine_frames.specs.declared.registers.Registers.{Registers}
use Rattle.ns_machine_frames.specs.Stack.{stood, with_top}
use Rattle.ns_machine_frames.specs.View.{site_shown, frames_shown}
use Rattle.ns_machine_core.specs.declared.state.Core.{Core}
use Rattle.ns_machine_core.specs.declared.state.Next.{Next}
use Rattle.ns_machine_core.specs.declared.state.Next.TheVariants.{On}
use Rattle.ns_machine_core.specs.Doing.{IsSettled}
use Rattle.ns_machine_core.specs.Shown.{phase_shown, progress_in}
use Rattle.ns_machine_core.specs.Straight.{StaysOnTop}
use Rattle.ns_machine_core.specs.laws.Charged.{step_is, given_on_top}
use Rattle.ns_machine_core.specs.laws.Straight.{slot_charges_none}
use Rattle.ns_machine_core.specs.laws.Worlds.{in_other}
use Rattle.ns_machine_sends.specs.declared.sent.Sent.{Sent}
use Rattle.ns_machine_sends.specs.Going.{arguments_in}
use Rattle.ns_machine_sends.specs.Sending.{CanSend, looked_up, Sends}
use Rattle.ns_machine_quick.specs.Opening.{got_at, set_at}

-- ---- the word

abbrev SlotsInside : Type 0
SlotsInside =
    (world : World) (code : CodeProgram) (at holder word : ℕ) → IsLawful world code → HasHolder world.cells (Ref at) holder → IsSlotOf world.cells code holder word
    → word < length (open_words_at world.cells at)

abbrev AllOpen : Type 0
AllOpen = (world : World) (at holder : ℕ) → HasHolder world.cells (Ref at) holder → open_words_at world.cells at ≡ words_at world.cells at

pub setter_there : SlotsInside → (world : World) (code : CodeProgram) (receiver : Value) (holder word : ℕ) → IsLawful world code
    → HasHolder world.cells receiver holder → IsSlotOf world.cells code holder word → (at : ℕ) → receiver ≡ Ref at → word < length (open_words_at world.cells at)
setter_there inside world code receiver holder word lawful has slot at ref =
    inside world code at holder word lawful (subst (λ v. HasHolder world.cells v holder) ref has) slot

pub getter_there : SlotsInside → AllOpen → (world : World) (code : CodeProgram) (receiver : Value) (holder word : ℕ) → IsLawful world code
    → HasHolder world.cells receiver holder → IsSlotOf world.cells code holder word → (at : ℕ) → receiver ≡ Ref at → word < length (words_at world.cells at)
getter_there inside all world code receiver holder word lawful has slot at ref =
    let there = setter_there inside world code receiver holder word lawful has slot at ref in
    omega (arith, there, ap length (all world at holder (subst (λ v. HasHolder world.cells v holder) ref has)))

-- ---- what the send came to

-- what was found suits its receiver once the step is charged
pub suits_later : (code : CodeProgram) (core : Core) (sent : Sent) (receiver : Value) (found : Found) (activation : Activation) (target : Target) (world : WorldView)
    → stepped core.run.world.world ≡ Some world.world
    → Suits core.run.world.world.cells code (receiver_of core.run.world.world.cells activation target)
    (found_at core.run.world.world.cells code activation target sent.site.sel.0)
    → found_at core.run.world.world.cells code activation target sent.site.sel.0 ≡ found → receiver_of core.run.world.world.cells activation target ≡ receiver
    → Suits world.world.cells code receiver found
suits_later code core sent receiver found activation target world e suits finds to =
    subst (λ (h : Heap). Suits h code receiver found) (sym (ap (λ (w : World). w.cells) (step_is core.run.world.world world.world e)))
    (subst (λ (f : Found). Suits core.run.world.world.cells code receiver f) finds
    (subst (λ (v : Value). Suits core.run.world.world.cells code v (found_at core.run.world.world.cells code activation target sent.site.sel.0)) to suits))

-- a send that found a getter or a setter
getter_found : (code : CodeProgram) (core : Core) (at : Registers) (sent : Sent) (receiver : Value) (holder word : ℕ) (activation : Activation) (target : Target)
    → found_at core.run.world.world.cells code activation target sent.site.sel.0 ≡ Getter holder word → receiver_of core.run.world.world.cells activation target ≡ receiver
    → looked_up code core at sent activation target ≡ got_at core receiver word
getter_found code core at sent receiver holder word activation target finds to =
    ap (λ (f : Found). answered_by code f sent.site.sel (receiver_of core.run.world.world.cells activation target) (arguments_in core at sent)
    (site_shown core.places sent.site) (progress_in core)) finds
    ∙ ap (λ (r : Value). got_at core r word) to

setter_found : (code : CodeProgram) (core : Core) (at : Registers) (sent : Sent) (receiver : Value) (holder word : ℕ) (activation : Activation) (target : Target)
    → found_at core.run.world.world.cells code activation target sent.site.sel.0 ≡ Setter holder word → receiver_of core.run.world.world.cells activation target ≡ receiver
    → looked_up code core at sent activation target ≡ set_at core at sent receiver word
setter_found code core at sent receiver holder word activation target finds to =
    ap (λ (f : Found). answered_by code f sent.site.sel (receiver_of core.run.world.world.cells activation target) (arguments_in core at sent)
    (site_shown core.places sent.site) (progress_in core)) finds
    ∙ ap (λ (r : Value). set_at core at sent r word) to

-- and so it does once its step is charged
pub getter_later : (code : CodeProgram) (core : Core) (at : Registers) (sent : Sent) (receiver : Value) (holder word : ℕ) (activation : Activation) (target : Target)
    (world : WorldView) → stepped core.run.world.world ≡ Some world.world
    → found_at core.run.world.world.cells code activation target sent.site.sel.0 ≡ Getter holder word → receiver_of core.run.world.world.cells activation target ≡ receiver
    → looked_up code (in_other core world) at sent activation target ≡ got_at (in_other core world) receiver word
getter_later code core at sent receiver holder word activation target world e finds to =
    getter_found code (in_other core world) at sent receiver holder word activation target (rw cells finds) (rw cells to)
  where
    cells : world.world.cells ≡ core.run.world.world.cells
    cells = ap (λ (w : World). w.cells) (step_is core.run.world.world world.world e)

pub setter_later : (code : CodeProgram) (core : Core) (at : Registers) (sent : Sent) (receiver : Value) (holder word : ℕ) (activation : Activation) (target : Target)
    (world : WorldView) → stepped core.run.world.world ≡ Some world.world
    → found_at core.run.world.world.cells code activation target sent.site.sel.0 ≡ Setter holder word → receiver_of core.run.world.world.cells activation target ≡ receiver
    → looked_up code (in_other core world) at sent activation target ≡ set_at (in_other core world) at sent receiver word
setter_later code core at sent receiver holder word activation target world e finds to =
    setter_found code (in_other core world) at sent receiver holder word activation target (rw cells finds) (rw cells to)
  where
    cells : world.world.cells ≡ core.run.world.world.cells
    cells = ap (λ (w : World). w.cells) (step_is core.run.world.world world.world e)

-- ---- the send

pub getter_sends : (code : CodeProgram) (core new : Core) (at : Registers) (sent : Sent) (receiver : Value) (word : ℕ) (v : Value) (next : Next)
    → CanSend code core at sent receiver → v ≡ word_of_object core.run.world.world.cells receiver word
    → IsSettled code core (with_top sent.floor at) sent.site (Ok v) new next → Sends code core at sent.floor (got_at core receiver word) new next
getter_sends code core new at sent receiver word v next can same is = record {
  state = is.state
      ∙ ap (λ (w : Value). arrived code (phase_shown core.phase) (gives w (progress_in core)) (frames_shown code core.places (stood core.stack (with_top sent.floor at)))) same;
  stand = is.stand;
  stays = is.stays;
  kept = rw is.run can.kept;
}

first_is : (values : List Value) → argument values 0 ≡ first_of values
first_is [] = refl
first_is (one ∷ values) = refl

pub stored_limits : (world : World) (receiver : Value) (word : ℕ) (v : Value) → (stored world receiver word v).limits ≡ world.limits
stored_limits world (Ref at) word v = refl
stored_limits world value.Nil word v = refl
stored_limits world value.True word v = refl
stored_limits world value.False word v = refl
stored_limits world (value.Int number) word v = refl
stored_limits world (value.Sym sel) word v = refl
stored_limits world (value.Kernel class) word v = refl

-- the machine in the world with that word stored
abbrev pub with_stored : Core → Value → ℕ → Value → Core
with_stored core receiver word v =
    record core { run = record core.run { world = record core.run.world { world = stored core.run.world.world receiver word v } } }

pub setter_sends : (code : CodeProgram) (core new : Core) (at : Registers) (sent : Sent) (receiver : Value) (word : ℕ) (v : Value) (values : List Value)
    (next : Next) → CanSend code core at sent receiver → values ≡ arguments_in core at sent → v ≡ argument values 0
    → IsSettled code (with_stored core receiver word v) (with_top sent.floor at) sent.site (Ok receiver) new next
    → Sends code core at sent.floor (set_at core at sent receiver word) new next
setter_sends code core new at sent receiver word v values next can all same is = record {
  state = is.state
      ∙ ap (λ (w : Value). arrived code (phase_shown core.phase) (gives receiver (in_world (progress_in core) (stored core.run.world.world receiver word w)))
      (frames_shown code core.places (stood core.stack (with_top sent.floor at)))) (same ∙ (first_is values ∙ ap first_of all));
  stand = is.stand;
  stays = record {
    world = record { limits = is.stays.world.limits ∙ stored_limits core.run.world.world receiver word v; room = is.stays.world.room };
    values = is.stays.values;
    frames = is.stays.frames;
    places = is.stays.places;
    arguments = is.stays.arguments;
  };
  kept = rw is.run can.kept;
}

-- ---- the body that runs

-- A word that is given leaves it on top, with the step charged that the send has,
pub got_on_top : (code : CodeProgram) (core new : Core) (at to : Registers) (floor : ℕ) (receiver : Value) (word : ℕ) (world : WorldView)
    → stepped core.run.world.world ≡ Some world.world
    → Sends code (in_other core world) at floor (got_at (in_other core world) receiver word) new (On to) → StaysOnTop 1 core new
got_on_top code core new at to floor receiver word world e is =
    given_on_top code 1 core new (with_top floor at) to (word_of_object world.world.cells receiver word) (progress_in (in_other core world))
    (ap (λ (w : World). w.steps) (step_is core.run.world.world world.world e)) is.state

-- so does one that is stored,
pub set_on_top : (code : CodeProgram) (core new : Core) (at to : Registers) (sent : Sent) (receiver : Value) (word : ℕ) (world : WorldView)
    → stepped core.run.world.world ≡ Some world.world
    → Sends code (in_other core world) at sent.floor (set_at (in_other core world) at sent receiver word) new (On to) → StaysOnTop 1 core new
set_on_top code core new at to sent receiver word world e is =
    given_on_top code 1 core new (with_top sent.floor at) to receiver
    (in_world (progress_in (in_other core world)) (stored world.world receiver word (first_of (arguments_in core at sent))))
    (slot_charges_none world.world receiver word (first_of (arguments_in core at sent))
    ∙ ap (λ (w : World). w.steps) (step_is core.run.world.world world.world e)) is.state

-- and what is stored and then given charges none by itself.
pub stored_on_top : (code : CodeProgram) (core new : Core) (at to : Registers) (site : KeptSite) (receiver : Value) (word : ℕ) (v value : Value)
    → IsSettled code (with_stored core receiver word v) at site (Ok value) new (On to) → StaysOnTop 0 core new
stored_on_top code core new at to site receiver word v value is =
    given_on_top code 0 core new at to value (progress_in (with_stored core receiver word v))
    (let same = slot_charges_none core.run.world.world receiver word v in omega (arith, same)) is.state
