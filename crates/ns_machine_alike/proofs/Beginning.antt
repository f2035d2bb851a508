-- A host may make the send also in a machine that is alike.
use Rattle.std.proofs.Common.{◌≡◌, ℕ, suc, List, [], ◌∷◌, length, Some, true, refl, sym, ap, ◌∙◌, subst, arith}
use Rattle.std.specs.Prelude.{Contains, is_some, IsTrue, All}
use Rattle.std.proofs.lemmas.List.Elements.{All-nil, All-cons}
use Rattle.ns_base.specs.declared.selector.Sel.{Sel}
use Rattle.ns_code.specs.declared.program.CodeProgram.{CodeProgram}
use Rattle.ns_world.specs.declared.value.Value.{Value}
use Rattle.ns_world.specs.declared.value.Value.TheVariants.{Nil, True, False, Int, Sym, Kernel, Ref}
use Rattle.ns_world.specs.Cell.{Cell, ObjectCell, ClassCell, BlockCell, EnvironmentCell, ArrayCell, TextCell, FacetCell, MirrorCell, MessageCell}
use Rattle.ns_world.specs.Heap.{find_cell}
use Rattle.ns_world.specs.Reach.{IsInReach, all_referred}
use Rattle.ns_world.specs.Starts.{is_receiver_cell}
use Rattle.ns_world.specs.World.{World}
use Rattle.ns_world.specs.Lawful.{IsLiveValue}
use Rattle.ns_world.specs.Alike.{Renaming, AlikeValue, AlikeValues, AlikeCell, Alike}
use Rattle.ns_machine_reach.specs.Within.{In, AllIn}
use Rattle.ns_machine_reach.specs.Reached.{InReach}
use Rattle.ns_moves.specs.State.{State, is_idle, world_of}
use Rattle.ns_moves.specs.Beginning.{MayBegin}
use Rattle.ns_machine_alike.proofs.There.{roots_reached}
use Rattle.ns_machine_reach.specs.laws.Holding.{all_in_from}

-- of two alike cells each may receive a send, or neither
receiver_alike : (pairs : Renaming) (one two : Cell) → AlikeCell pairs one two → is_receiver_cell (Some one) ≡ true →
    is_receiver_cell (Some two) ≡ true
receiver_alike pairs (ObjectCell class entries) (ObjectCell class' entries') c e = refl
receiver_alike pairs (ClassCell decl base encl holder over) (ClassCell decl' base' encl' holder' over') c e = refl
receiver_alike pairs (BlockCell body env home receiver holder) (BlockCell body' env' home' receiver' holder') c e = refl
receiver_alike pairs (EnvironmentCell parent locals) (EnvironmentCell parent' locals') c e = absurd (cc (e))
receiver_alike pairs (ArrayCell items) (ArrayCell items') c e = refl
receiver_alike pairs (TextCell bytes) (TextCell bytes') c e = refl
receiver_alike pairs (FacetCell kind) (FacetCell kind') c e = refl
receiver_alike pairs (MirrorCell mirrored) (MirrorCell mirrored') c e = refl
receiver_alike pairs (MessageCell sel args) (MessageCell sel' args') c e = refl
receiver_alike pairs one two c e = absurd c

module _ (pairs : Renaming) (code : CodeProgram) (one two : World) (roots others : List Value) (alike : Alike pairs one two roots others) where
  -- the partner of a live root is live
  partner_lives : (n m : ℕ) → Contains pairs (n, m) → IsInReach one.cells (all_referred roots) n → is_receiver_cell (find_cell one.cells n) ≡ true → IsLiveValue two.cells code (Ref m)
  partner_lives n m c r e =
      let a = alike.cells n m c r in
      let is : is_receiver_cell (Some a.one) ≡ true = ap is_receiver_cell (sym a.one_is) ∙ e in
      (ap is_some a.two_is, ap is_receiver_cell a.two_is ∙ receiver_alike pairs a.one a.two a.cells is)

  live_too : (value other : Value) → AlikeValue pairs value other → In (InReach one.cells (all_referred roots)) value → IsLiveValue one.cells code value → IsLiveValue two.cells code other
  live_too (Ref n) (Ref m) c i l = partner_lives n m c (i l.0) l.1
  live_too (Ref n) other c i l = absurd c
  live_too Nil other c i l = subst (IsLiveValue two.cells code) c (tt, refl)
  live_too True other c i l = subst (IsLiveValue two.cells code) c (tt, refl)
  live_too False other c i l = subst (IsLiveValue two.cells code) c (tt, refl)
  live_too (Int number) other c i l = subst (IsLiveValue two.cells code) c (tt, refl)
  live_too (Sym sel) other c i l = subst (IsLiveValue two.cells code) c (l.0, refl)
  live_too (Kernel class) other c i l = subst (IsLiveValue two.cells code) c (tt, refl)

  all_live_too : (values partners : List Value) → AlikeValues pairs values partners → AllIn (InReach one.cells (all_referred roots)) values → All (IsLiveValue one.cells code) values → All (IsLiveValue two.cells code) partners
  all_live_too [] [] c i l = All-nil (IsLiveValue two.cells code)
  all_live_too (value ∷ values) (other ∷ partners) c i l =
      All-cons (IsLiveValue two.cells code) other partners (live_too value other c.0 i.0 (l 0 value (omega arith))) (all_live_too values partners c.1 i.1 (λ k d inside. l (suc k) d (omega (arith, inside))))
  all_live_too [] (other ∷ partners) c i l = absurd c
  all_live_too (value ∷ values) [] c i l = absurd c

same_count : (pairs : Renaming) (values partners : List Value) → AlikeValues pairs values partners → length values ≡ length partners
same_count pairs [] [] c = refl
same_count pairs (value ∷ values) (other ∷ partners) c = omega (arith, same_count pairs values partners c.1)
same_count pairs [] (other ∷ partners) c = absurd c
same_count pairs (value ∷ values) [] c = absurd c

-- A host may make the alike send of an idle machine.
pub may_begin_too :
    (code : CodeProgram) (pairs : Renaming) (receiver other : Value) (sel : Sel) (arguments others : List Value) (first second : State) →
    MayBegin code receiver sel arguments first → IsTrue (is_idle second)
    → Alike pairs (world_of first) (world_of second) (receiver ∷ arguments) (other ∷ others) → MayBegin code other sel others second
may_begin_too code pairs receiver other sel arguments others first second may idle alike =
    let reached = all_in_from (InReach (world_of first).cells (all_referred (receiver ∷ arguments))) (receiver ∷ arguments) (roots_reached (world_of first).cells (all_referred (receiver ∷ arguments))) in
    let count = same_count pairs arguments others alike.roots.1 in
    record {
      idle = idle;
      live = live_too pairs code (world_of first) (world_of second) (receiver ∷ arguments) (other ∷ others) alike receiver other alike.roots.0 reached.0 may.live;
      fits = record {
        selector = may.fits.selector;
        arity = sym count ∙ may.fits.arity;
        live = all_live_too pairs code (world_of first) (world_of second) (receiver ∷ arguments) (other ∷ others) alike arguments others alike.roots.1
            reached.1 may.fits.live;
      };
      few = omega (arith, count, may.few);
    }
