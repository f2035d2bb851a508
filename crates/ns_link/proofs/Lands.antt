-- The machine reaches where an outcome says.
use Rattle.std.proofs.Common.{◌≡◌, ℕ, zero, suc, List, refl, ap, ◌∙◌}
use Rattle.ns_code.specs.declared.program.CodeProgram.{CodeProgram}
use Rattle.ns_world.specs.declared.value.Value.{Value}
use Rattle.ns_moves.specs.Control.{Progress, After, Gives, Halts}
use Rattle.ns_model.specs.Outcome.{Completion, Yields, Returns, Ends, Spent, bind, settled}
use Rattle.ns_moves.specs.State.{Frame, Phase, State, Ended}
use Rattle.ns_moves.specs.Returns.{unwound, delivered, settled as machine_settled}
use Rattle.ns_moves.specs.Move.{move, moves}

module _ (code : CodeProgram) where
  pub record Reaches (s s' : State) : Type 0 where
    pub count : ℕ
    pub is : moves code count s ≡ s'

  pub here : (s : State) → Reaches s s
  here s = record { count = zero; is = refl }

  -- by one move
  pub step : (s s' : State) → move code s ≡ s' → Reaches s s'
  step s s' e = record { count = suc zero; is = e }

  more : (j k : ℕ) (s s' s'' : State) → moves code j s ≡ s' → moves code k s' ≡ s'' → Reaches s s''
  more zero k s s' s'' e f = record { count = k; is = ap (moves code k) e ∙ f }
  more (suc j) k s s' s'' e f = let r = more j k (move code s) s' s'' e f in record { count = suc r.count; is = r.is }

  pub join : (s s' s'' : State) → Reaches s s' → Reaches s' s'' → Reaches s s''
  join s s' s'' r q = more r.count q.count s s' s'' r.is q.is

module _ (code : CodeProgram) (phase : Phase) where
  -- a value is where it should be, a return goes down the frames, and an end is the machine's
  abbrev pub Lands : {A : Type 0} → State → (A → List Value → Progress → State) → List Frame → Completion A → Type 0
  Lands s good fs (Yields v ls p) = Reaches code s (good v ls p)
  Lands s good fs (Returns h v p) = Reaches code s (unwound code phase h v fs p)
  Lands s good fs (Ends e p) = Reaches code s (Ended e phase p)
  Lands s good fs Spent = Unit {0}

  pub first : {A : Type 0} (s s' : State) (good : A → List Value → Progress → State) (fs : List Frame) (o : Completion A) → Reaches code s s'
      → Lands s' good fs o → Lands s good fs o
  first s s' good fs (Yields v ls p) r l = join code s s' _ r l
  first s s' good fs (Returns h v p) r l = join code s s' _ r l
  first s s' good fs (Ends e p) r l = join code s s' _ r l
  first s s' good fs Spent r l = tt

  pub seq : {A B : Type 0} (s : State) (good : A → List Value → Progress → State) (good' : B → List Value → Progress → State) (fs : List Frame)
      (o : Completion A) (k : A → List Value → Progress → Completion B) → Lands s good fs o
      → ((v : A) (ls : List Value) (p : Progress) → Lands (good v ls p) good' fs (k v ls p)) → Lands s good' fs (bind o k)
  seq s good good' fs (Yields v ls p) k l m = first s (good v ls p) good' fs (k v ls p) l (m v ls p)
  seq s good good' fs (Returns h v p) k l m = l
  seq s good good' fs (Ends e p) k l m = l
  seq s good good' fs Spent k l m = tt

  -- a fact on the value alone
  abbrev pub OnVal : {A : Type 0} → (A → Type 0) → Completion A → Type 0
  OnVal P (Yields v ls p) = P v
  OnVal P (Returns h v p) = Unit {0}
  OnVal P (Ends e p) = Unit {0}
  OnVal P Spent = Unit {0}

  pub on_bind : {A B : Type 0} (P : A → Type 0) (Q : B → Type 0) (o : Completion A) (k : A → List Value → Progress → Completion B) → OnVal P o
      → ((v : A) (ls : List Value) (p : Progress) → P v → OnVal Q (k v ls p)) → OnVal Q (bind o k)
  on_bind P Q (Yields v ls p) k h m = m v ls p h
  on_bind P Q (Returns h' v p) k h m = tt
  on_bind P Q (Ends e p) k h m = tt
  on_bind P Q Spent k h m = tt

  pub on_any : {A : Type 0} (o : Completion A) → OnVal (λ _. Unit {0}) o
  on_any (Yields v ls p) = tt
  on_any (Returns h v p) = tt
  on_any (Ends e p) = tt
  on_any Spent = tt

  pub seq_with : {A B : Type 0} (P : A → Type 0) (s : State) (good : A → List Value → Progress → State) (good' : B → List Value → Progress → State)
      (fs : List Frame) (o : Completion A) (k : A → List Value → Progress → Completion B) → OnVal P o → Lands s good fs o
      → ((v : A) (ls : List Value) (p : Progress) → P v → Lands (good v ls p) good' fs (k v ls p)) → Lands s good' fs (bind o k)
  seq_with P s good good' fs (Yields v ls p) k h l m = first s (good v ls p) good' fs (k v ls p) l (m v ls p h)
  seq_with P s good good' fs (Returns h' v p) k h l m = l
  seq_with P s good good' fs (Ends e p) k h l m = l
  seq_with P s good good' fs Spent k h l m = tt

  -- the same outcome, a little further
  pub then_on : {A : Type 0} (s : State) (good good' : A → List Value → Progress → State) (fs : List Frame) (o : Completion A) → Lands s good fs o
      → ((v : A) (ls : List Value) (p : Progress) → Reaches code (good v ls p) (good' v ls p)) → Lands s good' fs o
  then_on s good good' fs (Yields v ls p) l m = join code s (good v ls p) _ l (m v ls p)
  then_on s good good' fs (Returns h v p) l m = l
  then_on s good good' fs (Ends e p) l m = l
  then_on s good good' fs Spent l m = tt

  -- an action's answer
  pub gives : (s : State) (fs : List Frame) (ls : List Value) (y : After) → Reaches code s (machine_settled code phase y fs)
      → Lands s (λ v _ p. delivered code phase v fs p) fs (settled ls y)
  gives s fs ls (Gives v p) r = r
  gives s fs ls (Halts e p) r = r
