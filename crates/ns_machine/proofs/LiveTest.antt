-- The test whether a value is live decides it.
use Rattle.std.proofs.Common.{◌≡◌, List, refl, Option, Some, None, IsSome, IsTrue, All, Decides, true}
use Rattle.std.proofs.lemmas.List.Elements.{All-weaker}
use Rattle.std.proofs.lemmas.List.Sums.{AllPass-from_list_all, list_all-from_AllPass}
use Rattle.std.specs.List.{list_all}
use Rattle.ns_code.specs.declared.program.CodeProgram.{CodeProgram}
use Rattle.ns_world.specs.declared.value.Value.{Value}
use Rattle.ns_world.specs.declared.value.Value.TheVariants.{Nil, True, False, Int, Sym, Kernel, Ref}
use Rattle.ns_world.specs.Cell.{Cell}
use Rattle.ns_world.specs.Heap.{Heap, find_cell}
use Rattle.ns_world.specs.Starts.{is_receiver_cell}
use Rattle.ns_world.specs.Lawful.{IsLiveValue}
use Rattle.ns_machine.specs.Living.{is_live_value}

receiver_there : (o : Option Cell) → IsTrue (is_receiver_cell o) → IsSome o
receiver_there None is = absurd (cc)
receiver_there (Some cell) is = refl

pub live_told : (heap : Heap) (code : CodeProgram) (value : Value) → Decides (is_live_value heap code value) (IsLiveValue heap code value)
live_told heap code Nil = (λ is. (tt, refl), λ live. refl)
live_told heap code True = (λ is. (tt, refl), λ live. refl)
live_told heap code False = (λ is. (tt, refl), λ live. refl)
live_told heap code (Int number) = (λ is. (tt, refl), λ live. refl)
live_told heap code (Sym sel) = (λ is. (is, refl), λ live. live.0)
live_told heap code (Kernel class) = (λ is. (tt, refl), λ live. refl)
live_told heap code (Ref at) = (λ is. (receiver_there (find_cell heap at) is, is), λ live. live.1)

-- and so it does of many
pub all_told : (heap : Heap) (code : CodeProgram) (values : List Value)
    → Decides (list_all (is_live_value heap code) values) (All (IsLiveValue heap code) values)
all_told heap code values = (
  λ is. All-weaker (λ v. is_live_value heap code v ≡ true) (IsLiveValue heap code) (λ v. (live_told heap code v).0) values
      (AllPass-from_list_all (is_live_value heap code) values is),
  λ live. list_all-from_AllPass (is_live_value heap code) values
      (All-weaker (IsLiveValue heap code) (λ v. is_live_value heap code v ≡ true) (λ v. (live_told heap code v).1) values live),
)
