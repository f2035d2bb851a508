-- What the lines of a body use.
use Rattle.std.specs.Prelude.{◌≡◌, ℕ, ◌<◌, List, [], ◌∷◌, Bool, true, false, ◌==◌, ◌||◌}
use Rattle.ns_code.specs.declared.instruction.Instr.{Instr}
use Rattle.ns_code.specs.declared.instruction.Instr.TheVariants as i
use Rattle.ns_code.specs.Soundness.{block_kind, initialiser_kind, clause_kind}
use Rattle.ns_resolved.specs.Uses.{Use, a_local, a_level, a_private, a_block, a_message, a_start, a_slot, a_return_home, an_integer, an_array}
use Rattle.ns_gen_code.specs.Code.{CodeLine, Way, does, symbol, sends, starts, plain, inner, private_at, super}

-- Each use of a body of this kind has this property, and its literal texts have numbers below that count.
module _ (Has : Use → Type 0) (texts : ℕ) (kind : ℕ) where
  -- of an instruction that names no selector and no place; one that names any stands in no such line, nor does a jump
  abbrev pub InstrHas : Instr → Type 0
  InstrHas i.PushNil = Unit {0}
  InstrHas i.PushTrue = Unit {0}
  InstrHas i.PushFalse = Unit {0}
  InstrHas (i.PushInt n) = Has (an_integer n)
  InstrHas (i.PushSym sel) = ⊥
  InstrHas (i.PushText text) = text < texts
  InstrHas i.PushSelf = Unit {0}
  InstrHas (i.PushOuter level) = Has (a_level level)
  InstrHas (i.PushLocal hops index) = Has (a_local hops index)
  InstrHas (i.StoreLocal hops index) = Has (a_local hops index)
  InstrHas (i.PushBlock block) = Has (a_block block)
  InstrHas (i.MakeArray count) = Has (an_array count)
  InstrHas i.Pop = Unit {0}
  InstrHas (i.Pick k) = k < 2
  InstrHas (i.Send sel count) = ⊥
  InstrHas (i.SendInner sel count) = ⊥
  InstrHas (i.SendPrivate level sel count) = ⊥
  InstrHas (i.SendSuper sel count) = ⊥
  InstrHas (i.InitSuper count) = ⊥
  InstrHas (i.StoreSlot slot) = Has (a_slot slot) × (kind ≡ initialiser_kind)
  InstrHas i.Return = (kind == initialiser_kind) ≡ false
  InstrHas i.ReturnSelf = (kind == clause_kind || kind == block_kind) ≡ false
  InstrHas i.ReturnHome = Has a_return_home × (kind ≡ block_kind)
  InstrHas (i.Jump at) = ⊥
  InstrHas (i.JumpFalse at) = ⊥
  InstrHas (i.JumpTrue at) = ⊥

  -- what a send names beside its message
  abbrev pub WayHas : Way → List ℕ → Type 0
  WayHas plain selector = Unit {0}
  WayHas inner selector = Unit {0}
  WayHas (private_at level) selector = Has (a_private level selector)
  WayHas super selector = Unit {0}

  -- of lines, before which a superclass part has begun or not; it begins once, in an initialiser
  abbrev pub LinesHave : Bool → List CodeLine → Type 0
  LinesHave started [] = Unit {0}
  LinesHave started (does instr ∷ lines) = InstrHas instr × LinesHave started lines
  LinesHave started (symbol name ∷ lines) = LinesHave started lines
  LinesHave started (sends way sent count ∷ lines) = WayHas way sent.selector × Has (a_message sent.selector count) × LinesHave started lines
  LinesHave started (starts place count ∷ lines) = (started ≡ false) × (kind ≡ initialiser_kind) × Has (a_start count) × LinesHave true lines
