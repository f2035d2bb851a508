-- The actions of a method, one after another, are its row.
use Rattle.std.proofs.Common.{◌≡◌, refl, ap, ◌∙◌, subst, zero-add, ℕ, zero, suc, ◌+◌, ◌<◌, ◌^◌, ℤ, pos, negsuc, ◌+ℤ◌, Option, Some, None, Bool, true, false, arith}
use Rattle.std.specs.Prelude.{FitsSigned, int_lt, int_le, if◌then◌else◌}
use Rattle.std.specs.Int.{w64, saturate_signed}
use Rattle.std.proofs.Math.Path.{fun_ext}
use Rattle.std.proofs.lemmas.Int.{ints}
use Rattle.std.proofs.lemmas.Grind.{common_steps}
use Rattle.ns_world.specs.declared.value.Value.{Value}
use Rattle.ns_world.specs.declared.value.Value.TheVariants.{Nil, True, False, Int, Sym, Kernel, Ref}
use Rattle.ns_world.specs.declared.kernel_parts.KMethod.TheVariants as method
use Rattle.ns_kcode.specs.declared.state.KState.{KState}
use Rattle.ns_kcode.specs.declared.state.KAction.{KAction}
use Rattle.ns_kcode.specs.declared.state.KAction.TheVariants.{Evaluate, Answer}
use Rattle.ns_kcode.specs.Next.{has_turn, to_do_next}
use Rattle.ns_kcode.specs.Rows.{Host, beginning, answered, double, and_row, or_row, if_true_row, if_false_row, choice_row, turn, on_true, while_true_row, on_false, while_false_row, to_do_row, times_row, do_row, acted, actions}

module _ {W O : Type 0} (host : Host W O) where
  -- The actions of `and:`, one after another, are its row.
  pub and_is : (n : ℕ) (receiver block c : Value) (z : ℤ) (w : W) → actions host method.And (suc (suc n)) (beginning receiver block c z) w ≡ and_row host receiver block w
  and_is n receiver block c z w = grind (arith, common_steps)

  -- The actions of `or:`, one after another, are its row.
  pub or_is : (n : ℕ) (receiver block c : Value) (z : ℤ) (w : W) → actions host method.Or (suc (suc n)) (beginning receiver block c z) w ≡ or_row host receiver block w
  or_is n receiver block c z w = grind (arith, common_steps)

  -- The actions of `ifTrue:`, one after another, are its row.
  pub if_true_is : (n : ℕ) (receiver block c : Value) (z : ℤ) (w : W) → actions host method.IfTrue (suc (suc n)) (beginning receiver block c z) w ≡ if_true_row host receiver block w
  if_true_is n receiver block c z w = grind (arith, common_steps)

  -- The actions of `ifFalse:`, one after another, are its row.
  pub if_false_is : (n : ℕ) (receiver block c : Value) (z : ℤ) (w : W) → actions host method.IfFalse (suc (suc n)) (beginning receiver block c z) w ≡ if_false_row host receiver block w
  if_false_is n receiver block c z w = grind (arith, common_steps)

  -- The actions of `ifTrue:ifFalse:`, one after another, are the row of a choice.
  pub choice_is : (n : ℕ) (receiver a b : Value) (z : ℤ) (w : W) → actions host method.IfTrueIfFalse (suc (suc n)) (beginning receiver a b z) w ≡ choice_row host receiver a b w
  choice_is n receiver a b z w = grind (arith, common_steps)

  -- The actions of `ifFalse:ifTrue:` are the row of a choice with its blocks exchanged.
  pub exchanged_is : (n : ℕ) (receiver a b : Value) (z : ℤ) (w : W) → actions host method.IfFalseIfTrue (suc (suc n)) (beginning receiver a b z) w ≡ choice_row host receiver b a w
  exchanged_is n receiver a b z w = grind (arith, common_steps)

  -- a while loop's state before its receiver is evaluated, and after
  abbrev before : Value → Value → Value → ℤ → Option Value → KState
  before r b c z last = record { receiver = r; first = b; second = c; size = z; count = pos 0; last = last }

  abbrev after : Value → Value → Value → ℤ → Value → KState
  after r b c z value = record { receiver = r; first = b; second = c; size = z; count = pos 1; last = Some value }

  true_tested : (n : ℕ) (r b c : Value) (z : ℤ) (value : Value) (w : W) → ((last : Option Value) (w : W) → actions host method.WhileTrue (double n) (before r b c z last) w ≡ while_true_row host n r b w) → actions host method.WhileTrue (suc (double n)) (after r b c z value) w ≡ on_true host value w (turn host b None w (λ w. while_true_row host n r b w))
  true_tested n r b c z True w ih = ap (host.begins_turn w) (fun_ext (λ (w : W). ap (host.evaluates b None w) (fun_ext (λ (u : Value). fun_ext (λ (w : W). ih (Some u) w)))))
  true_tested n r b c z False w ih = refl
  true_tested n r b c z Nil w ih = refl
  true_tested n r b c z (Int x) w ih = refl
  true_tested n r b c z (Sym x) w ih = refl
  true_tested n r b c z (Kernel x) w ih = refl
  true_tested n r b c z (Ref x) w ih = refl

  while_true_from : (n : ℕ) (r b c : Value) (z : ℤ) (last : Option Value) (w : W) → actions host method.WhileTrue (double n) (before r b c z last) w ≡ while_true_row host n r b w
  while_true_from zero r b c z last w = refl
  while_true_from (suc n) r b c z last w = ap (host.evaluates r None w) (fun_ext (λ (v : Value). fun_ext (λ (w : W). true_tested n r b c z v w (λ last w. while_true_from n r b c z last w))))

  -- The actions of `whileTrue:`, one after another, are its row.
  pub while_true_is : (n : ℕ) (r b c : Value) (z : ℤ) (w : W) → actions host method.WhileTrue (double n) (beginning r b c z) w ≡ while_true_row host n r b w
  while_true_is n r b c z w = while_true_from n r b c z None w

  false_tested : (n : ℕ) (r b c : Value) (z : ℤ) (value : Value) (w : W) → ((last : Option Value) (w : W) → actions host method.WhileFalse (double n) (before r b c z last) w ≡ while_false_row host n r b w) → actions host method.WhileFalse (suc (double n)) (after r b c z value) w ≡ on_false host value w (turn host b None w (λ w. while_false_row host n r b w))
  false_tested n r b c z False w ih = ap (host.begins_turn w) (fun_ext (λ (w : W). ap (host.evaluates b None w) (fun_ext (λ (u : Value). fun_ext (λ (w : W). ih (Some u) w)))))
  false_tested n r b c z True w ih = refl
  false_tested n r b c z Nil w ih = refl
  false_tested n r b c z (Int x) w ih = refl
  false_tested n r b c z (Sym x) w ih = refl
  false_tested n r b c z (Kernel x) w ih = refl
  false_tested n r b c z (Ref x) w ih = refl

  while_false_from : (n : ℕ) (r b c : Value) (z : ℤ) (last : Option Value) (w : W) → actions host method.WhileFalse (double n) (before r b c z last) w ≡ while_false_row host n r b w
  while_false_from zero r b c z last w = refl
  while_false_from (suc n) r b c z last w = ap (host.evaluates r None w) (fun_ext (λ (v : Value). fun_ext (λ (w : W). false_tested n r b c z v w (λ last w. while_false_from n r b c z last w))))

  -- The actions of `whileFalse:`, one after another, are its row.
  pub while_false_is : (n : ℕ) (r b c : Value) (z : ℤ) (w : W) → actions host method.WhileFalse (double n) (beginning r b c z) w ≡ while_false_row host n r b w
  while_false_is n r b c z w = while_false_from n r b c z None w

  -- a state in which so many turns have begun
  abbrev begun : Value → Value → Value → ℤ → ℤ → Option Value → KState
  begun r b c z count last = record { receiver = r; first = b; second = c; size = z; count = count; last = last }

  times_from : (n left count : ℕ) (b c : Value) (z : ℤ) (last : Option Value) (w : W) → actions host method.TimesRepeat n (begun (Int (pos (count + left))) b c z (pos count) last) w ≡ times_row host n left (Int (pos (count + left))) b w
  times_from zero left count b c z last w = refl
  times_from (suc n) zero count b c z last w =
      let done : int_lt (pos count) (pos (count + 0)) ≡ false = grind (arith, ints) in
      rw done refl
  times_from (suc n) (suc left) count b c z last w =
      let more : int_lt (pos count) (pos (count + suc left)) ≡ true = grind (arith, ints) in
      let e : count + suc left ≡ (count + 1) + left = omega arith in
      rw more (rw e (ap (host.begins_turn w) (fun_ext (λ (w : W). ap (host.evaluates b None w) (fun_ext (λ (u : Value). fun_ext (λ (w : W). times_from n left (count + 1) b c z (Some u) w)))))))

  -- The actions of `timesRepeat:`, one after another, are its row.
  pub times_is : (n times : ℕ) (b c : Value) (z : ℤ) (w : W) → actions host method.TimesRepeat n (beginning (Int (pos times)) b c z) w ≡ times_row host n times (Int (pos times)) b w
  times_is n times b c z w = subst (λ (k : ℕ). actions host method.TimesRepeat n (beginning (Int (pos k)) b c z) w ≡ times_row host n times (Int (pos k)) b w) (zero-add times) (times_from n times 0 b c z None w)

  -- Less than zero times is no time.
  pub no_times : (n m : ℕ) (b c : Value) (z : ℤ) (w : W) → actions host method.TimesRepeat n (beginning (Int (negsuc m)) b c z) w ≡ times_row host n 0 (Int (negsuc m)) b w
  no_times zero m b c z w = refl
  no_times (suc n) m b c z w = refl

  do_from : (n left count : ℕ) (r b c : Value) (last : Option Value) (w : W) → actions host method.Do n (begun r b c (pos (count + left)) (pos count) last) w ≡ do_row host n count left r b w
  do_from zero left count r b c last w = refl
  do_from (suc n) zero count r b c last w =
      let done : int_lt (pos count) (pos (count + 0)) ≡ false = grind (arith, ints) in
      rw done refl
  do_from (suc n) (suc left) count r b c last w =
      let more : int_lt (pos count) (pos (count + suc left)) ≡ true = grind (arith, ints) in
      let e : count + suc left ≡ (count + 1) + left = omega arith in
      rw more (rw e (ap (host.begins_turn w) (fun_ext (λ (w : W). ap (host.evaluates b (Some (host.element r (pos count) w)) w) (fun_ext (λ (u : Value). fun_ext (λ (w : W). do_from n left (count + 1) r b c (Some u) w)))))))

  -- The actions of `do:`, one after another, are its row.
  pub do_is : (n size : ℕ) (r b c : Value) (w : W) → actions host method.Do n (beginning r b c (pos size)) w ≡ do_row host n 0 size r b w
  do_is n size r b c w = subst (λ (k : ℕ). actions host method.Do n (beginning r b c (pos k)) w ≡ do_row host n 0 size r b w) (zero-add size) (do_from n size 0 r b c None w)

  -- one more turn has begun
  counted : (count n : ℕ) → count + suc n < 2 ^ 63 → saturate_signed w64 (pos count +ℤ pos 1) ≡ pos (count + 1)
  counted count n h = grind (arith, ints)

  -- no number from an Integer on is below all Integers
  within : (start : ℤ) (count : ℕ) (end : ℤ) → FitsSigned w64 start → has_turn (start +ℤ pos count) end ≡ int_le (start +ℤ pos count) end
  within start count end h = grind (arith, ints)

  to_do_turn : (t : Bool) (b v : Value) (arg : Option Value) (count : ℤ) (state : KState) (w : W) (go : KState → W → O) (row : W → O) → ((u : Value) (w : W) → go (answered state count u) w ≡ row w) → acted host (if t then Evaluate b arg true count else Answer v) state w go ≡ (if t then turn host b arg w row else host.answers v w)
  to_do_turn true b v arg count state w go row same = ap (host.begins_turn w) (fun_ext (λ (w : W). ap (host.evaluates b arg w) (fun_ext (λ (u : Value). fun_ext (λ (w : W). same u w)))))
  to_do_turn false b v arg count state w go row same = refl

  to_do_action : (n count : ℕ) (start end : ℤ) (b : Value) → FitsSigned w64 start → count + suc n < 2 ^ 63 → to_do_next (Int start) (Int end) b (pos count) ≡ (if int_le (start +ℤ pos count) end then Evaluate b (Some (Int (start +ℤ pos count))) true (pos (count + 1)) else Answer (Int start))
  to_do_action n count start end b fits h =
      let in_range = within start count end fits in
      let next_count = counted count n h in
      rw (in_range, next_count) refl

  to_do_from : (n count : ℕ) (start end : ℤ) (b : Value) (z : ℤ) (last : Option Value) (w : W) → FitsSigned w64 start → count + n < 2 ^ 63 → actions host method.ToDo n (begun (Int start) (Int end) b z (pos count) last) w ≡ to_do_row host n start (start +ℤ pos count) end b w
  to_do_from zero count start end b z last w fits h = refl
  to_do_from (suc n) count start end b z last w fits h =
      let state = begun (Int start) (Int end) b z (pos count) last in
      let go : KState → W → O = λ (s : KState). λ (w : W). actions host method.ToDo n s w in
      let row : W → O = λ (w : W). to_do_row host n start ((start +ℤ pos count) +ℤ pos 1) end b w in
      let e : start +ℤ pos (count + 1) ≡ (start +ℤ pos count) +ℤ pos 1 = omega (arith, ints) in
      let same : (u : Value) (w : W) → go (answered state (pos (count + 1)) u) w ≡ row w = λ (u : Value). λ (w : W). to_do_from n (count + 1) start end b z (Some u) w fits (omega arith) ∙ ap (λ (k : ℤ). to_do_row host n start k end b w) e in
      ap (λ (a : KAction). acted host a state w go) (to_do_action n count start end b fits h) ∙ to_do_turn (int_le (start +ℤ pos count) end) b (Int start) (Some (Int (start +ℤ pos count))) (pos (count + 1)) state w go row same

  -- The actions of `to:do:`, one after another, are its row.
  pub to_do_is : (n : ℕ) (start end : ℤ) (b : Value) (z : ℤ) (w : W) → FitsSigned w64 start → n < 2 ^ 63 → actions host method.ToDo n (beginning (Int start) (Int end) b z) w ≡ to_do_row host n start start end b w
  to_do_is n start end b z w fits h =
      let e : start +ℤ pos 0 ≡ start = omega (arith, ints) in
      to_do_from n 0 start end b z None w fits (omega arith) ∙ ap (λ (k : ℤ). to_do_row host n start k end b w) e
