-- What a run stands at is put back as a whole.
use Rattle.std.proofs.Common.{◌≡◌, ℕ, ◌+◌, ◌<◌, ◌≤◌, List, length, refl, ap, sym, ◌∙◌, subst, arith, slice_get, Option, Some, None, Bool, true, false}
use Rattle.std.proofs.lemmas.Option.{slice_get_within, same_Some}
use Rattle.std.specs.Option.{is_some}
use Rattle.ns_base.specs.declared.place.Place.{Place as SourcePlace}
use Rattle.ns_code.specs.declared.program.CodeProgram.{CodeProgram}
use Rattle.ns_moves.specs.declared.site.Site.{Site}
use Rattle.ns_moves.specs.declared.run.Run.{Run}
use Rattle.ns_moves.specs.State as run
use Rattle.ns_moves.specs.State.{State, Pends}
use Rattle.ns_frozen.specs.declared.frame.FrozenFrame.{FrozenFrame}
use Rattle.ns_frozen.specs.declared.frozen.Frozen.{Frozen}
use Rattle.ns_frozen.specs.declared.pending.Pending.{Pending}
use Rattle.ns_frozen.specs.Thawing.{heap_thawed, arguments_in, phase_thawed, pending_thawed, frames_thawed, going_thawed, state_at}
use Rattle.ns_machine_frames.specs.declared.registers.Registers.{Registers}
use Rattle.ns_machine_frames.specs.declared.stack.Stack.{Stack}
use Rattle.ns_machine_frames.specs.Stack.{stood}
use Rattle.ns_machine_frames.specs.View.{frames_shown}
use Rattle.ns_machine_plan.specs.Steps.{no_place}
use Rattle.ns_machine_core.specs.declared.state.Core.{Core}
use Rattle.ns_machine_core.specs.declared.state.Next.{Next}
use Rattle.ns_machine_core.specs.Shown.{phase_shown, progress_in}
use Rattle.ns_machine_thaw.specs.declared.thawed.Thawed.{Thawed}
use Rattle.ns_machine_thaw.specs.declared.thawed.Thawed.TheVariants as to
use Rattle.ns_machine_thaw.specs.Frames.{SiteIsPlaced, SiteIsWritten, SitesAreWritten, FramesArePut}
use Rattle.ns_machine_thaw.specs.Waiting.{site_of, WaitsAlone, PendingWaits}
use Rattle.ns_machine_thaw.specs.Thawed.{thawed_shown, StandThawed, StandingIsPut, PendingIsWritten}
use Rattle.ns_machine_thaw.proofs.Placed.{stays_placed}

-- ---- the site of what is pending

pub some_written : (number : ℕ) (one : Pending) (site : Site) (old new : List SourcePlace) → site ≡ site_of one → SiteIsWritten number site old new
    → PendingIsWritten number (Some one) old new
some_written number one site old new is write = record {
  placed = λ other e.
      subst (λ (s : Site). SiteIsPlaced new number s) (is ∙ ap site_of (same_Some one other e)) write.placed;
  others = write.others;
  count = write.count;
}

pub none_written : (number : ℕ) (places : List SourcePlace) → PendingIsWritten number None places places
none_written number places = record { placed = λ other e. absurd (cc); others = λ k other. refl; count = refl }

-- ---- the sites of all

-- the sites of frames keep their places where that of what is pending is written behind them
pub sites_stay : (first : ℕ) (frames : List FrozenFrame) (pending : Option Pending) (old middle new : List SourcePlace) → length old ≤ no_place
    → first + length frames < length old → SitesAreWritten first frames old middle → PendingIsWritten (first + length frames) pending middle new
    → SitesAreWritten first frames old new
sites_stay first frames pending old middle new few there sites own = record {
  placed = λ k frame at.
      let count = sites.count in
      let within = slice_get_within frames k frame at in
      stays_placed middle new (first + k) (first + length frames) frame.site (omega (arith, few, count)) (omega (arith, there, count)) own.others
      (λ e. omega (arith, e, within)) (sites.placed k frame at);
  below = λ k less. own.others k (λ e. omega (arith, e, less)) ∙ sites.below k less;
  count = own.count ∙ sites.count;
}

-- ---- all together

module _ (code : CodeProgram) (first : ℕ) (frozen : Frozen) (old : Core) (places : List SourcePlace) (stack : Stack) (at : Registers)
    (sites : SitesAreWritten first frozen.frames old.places places) (put : FramesArePut code first (is_some frozen.pending) frozen.frames old.stack stack at)
    (phase : phase_shown old.phase ≡ phase_thawed (arguments_in code frozen.grants (heap_thawed code frozen.cells)) frozen.phase)
  where
    abbrev arguments : ℕ
    arguments = arguments_in code frozen.grants (heap_thawed code frozen.cells)

    -- the machine with these
    abbrev pub standing : Core
    standing = record old { places = places; stack = stack }

    shown_is : (waits : Bool) → is_some frozen.pending ≡ waits → frames_shown code places (stood stack at) ≡ frames_thawed code waits frozen.frames
    shown_is waits is = put.shown places sites.placed ∙ ap (λ (b : Bool). frames_thawed code b frozen.frames) is

    pub pending_put : (pending : Pending) (new : Core) (next : Next) → frozen.pending ≡ Some pending → PendingWaits code standing at pending new next → WaitsAlone standing new
        → StandingIsPut code first frozen old new (to.Begun next)
    pending_put pending new next is waits alone = record {
      state =
          waits.state
          ∙ (ap (λ (p : run.Phase). Pends p (pending_thawed pending) (frames_shown code places (stood stack at)) (progress_in old)) phase
          ∙ (ap (λ (all : List run.Frame). Pends (phase_thawed arguments frozen.phase) (pending_thawed pending) all (progress_in old)) (shown_is true (ap is_some is))
          ∙ ap (λ (o : Option Pending). state_at code frozen (progress_in old) arguments o None) (sym is)));
      stand = waits.stand;
      run = alone.run;
      stays = record {
        world = record { limits = ap (λ (r : Run). r.world.world.limits) alone.run; room = (ap (λ (r : Run). r.world.cell_room) alone.run, ap (λ (r : Run). r.world.out_room) alone.run) };
        values = ap (λ (s : Stack). s.values.room) alone.stack ∙ put.room.values;
        frames = ap (λ (s : Stack). s.frames.room) alone.stack ∙ put.room.frames;
        arguments = alone.room;
        count = ap length alone.places ∙ sites.count;
        below = λ k less. ap (λ (all : List SourcePlace). slice_get all k) alone.places ∙ sites.below k less;
      };
    }

    pub going_put : (result : Thawed) → frozen.pending ≡ None
        → thawed_shown code standing result ≡ going_thawed (phase_shown old.phase) (frames_shown code places (stood stack at)) (progress_in old) arguments
        → StandThawed code standing result → StandingIsPut code first frozen old standing result
    going_put result is state stand = record {
      state =
          state
          ∙ (ap (λ (p : run.Phase). going_thawed p (frames_shown code places (stood stack at)) (progress_in old) arguments) phase
          ∙ (ap (λ (all : List run.Frame). going_thawed (phase_thawed arguments frozen.phase) all (progress_in old) arguments) (shown_is false (ap is_some is))
          ∙ ap (λ (o : Option Pending). state_at code frozen (progress_in old) arguments o None) (sym is)));
      stand = stand;
      run = refl;
      stays = record {
        world = record { limits = refl; room = (refl, refl) };
        values = put.room.values;
        frames = put.room.frames;
        arguments = refl;
        count = sites.count;
        below = sites.below;
      };
    }
