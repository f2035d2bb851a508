-- A value that is live at a valid state stays live.
use Rattle.std.proofs.Common.{◌≡◌, List, refl, sym, subst, inl, inr, Bool, true, false, if◌then◌else◌}
use Rattle.ns_base.specs.declared.selector.Sel.{Sel}
use Rattle.ns_code.specs.declared.program.CodeProgram.{CodeProgram}
use Rattle.ns_facets.specs.declared.row.Grants.{Grants}
use Rattle.ns_world.specs.declared.value.Value.{Value}
use Rattle.ns_world.specs.World.{World}
use Rattle.ns_world.specs.Later.{Lasts}
use Rattle.ns_world.specs.Lawful.{IsLiveValue}
use Rattle.ns_moves.specs.State.{State, Unbegun, Going, Pends, Ended, Stuck, world_of, is_idle}
use Rattle.ns_moves.specs.Move.{moves}
use Rattle.ns_moves.specs.MovesOnward.{MovesGoOnward}
use Rattle.ns_moves.specs.Starts.{started, begun}
use Rattle.ns_moves.specs.laws.Worlds.{valid_lawful}
use Rattle.ns_moves.specs.Standing.{MovesKeepValid}
use Rattle.ns_moves.specs.Beginning.{HostKeepsValid}
use Rattle.ns_moves.specs.Living.{KeepsLive, MovesKeepLive, TurnsKeepLive, RunsKeepLive, SendsKeepLive}

-- what lives lasts
abbrev pub ValuesLast : Type 0
ValuesLast = (value : Value) → Lasts (λ heap code. IsLiveValue heap code value)

pub moves_live : (code : CodeProgram) (grants : Grants) → ValuesLast → MovesGoOnward code → MovesKeepValid code grants →
    MovesKeepLive code grants
moves_live code grants last onward keeps count state valid value live =
    last value code (world_of state) (world_of (moves code count state))
    (record {
      before = valid_lawful code grants state valid;
      after = valid_lawful code grants (moves code count state) (keeps count state valid);
      later = (onward count state).later;
    })
    live

pub turns_live : (code : CodeProgram) (grants : Grants) → MovesKeepLive code grants → TurnsKeepLive code grants
turns_live code grants live steps old new valid (inl turned) = subst (KeepsLive code old) turned.is (live turned.count old valid)
turns_live code grants live steps old new valid (inr turned) = subst (KeepsLive code old) turned.is (live turned.count old valid)

-- a start and a send of the host change no world
started_world : (code : CodeProgram) (state : State) → world_of (started code state) ≡ world_of state
started_world code (Unbegun arguments progress) = refl
started_world code (Going phase frames progress) = refl
started_world code (Pends phase pending frames progress) = refl
started_world code (Ended ending phase progress) = refl
started_world code (Stuck progress) = refl

begun_world : (receiver : Value) (sel : Sel) (arguments : List Value) (idle : State) →
    world_of (begun receiver sel arguments idle) ≡ world_of idle
begun_world receiver sel arguments idle = either (is_idle idle) _ refl
  where
    either : (b : Bool) (waits : State) → world_of waits ≡ world_of idle → world_of (if b then waits else idle) ≡ world_of idle
    either true waits same = same
    either false waits same = refl

-- what is live at the same world as before is live
from_before : (code : CodeProgram) (old begins new : State) → world_of begins ≡ world_of old → KeepsLive code begins new →
    KeepsLive code old new
from_before code old begins new same keeps value live =
    keeps value (subst (λ (world : World). IsLiveValue world.cells code value) (sym same) live)

pub runs_live : (code : CodeProgram) (grants : Grants) → MovesKeepLive code grants → RunsKeepLive code grants
runs_live code grants live count state valid =
    from_before code state (started code state) (moves code count (started code state)) (started_world code state)
    (live count (started code state) valid)

pub sends_live : (code : CodeProgram) (grants : Grants) → HostKeepsValid code grants → MovesKeepLive code grants → SendsKeepLive code grants
sends_live code grants begins live receiver sel arguments count idle valid may =
    from_before code idle (begun receiver sel arguments idle) (moves code count (begun receiver sel arguments idle))
    (begun_world receiver sel arguments idle)
    (live count (begun receiver sel arguments idle) (begins receiver sel arguments idle valid may))
