-- The public methods of a list, one after another.
use Rattle.std.proofs.Common.{◌≡◌, ℕ, ◌+◌, ◌<◌, ◌≤◌, List, [], ◌∷◌, ◌++◌, length, drop, get_or, refl, ap, sym, ◌∙◌, arith, Bool, true, false, cond, eqb, length-append}
use Rattle.std.proofs.lemmas.List.{drop_more}
use Rattle.ns_code.specs.declared.class.MethodCode.{MethodCode}
use Rattle.ns_world.specs.declared.value.Value.TheVariants.{Sym}
use Rattle.ns_world.specs.Heap.{open_words_at}
use Rattle.ns_world.specs.World.{WorldView}
use Rattle.ns_mirror.specs.Arrays.{listed}
use Rattle.ns_mirror.specs.Selectors.{public_selectors}
use Rattle.ns_mirror.proofs.Listing.{listed_append, listed_sizes}

next_selectors : (method : MethodCode) (methods : List MethodCode) →
    public_selectors (method ∷ methods) ≡ public_selectors (method ∷ []) ++ public_selectors methods
next_selectors method methods = tested (eqb method.access 0)
  where
    tested : (b : Bool) → cond b (Sym method.sel ∷ public_selectors methods) (public_selectors methods) ≡ cond b (Sym method.sel ∷ []) [] ++ public_selectors methods
    tested true = refl
    tested false = refl

-- one method of what is left
pub public_step : (methods : List MethodCode) (i : ℕ) (d : MethodCode) → i < length methods →
    public_selectors (drop i methods) ≡ public_selectors (get_or methods i d ∷ []) ++ public_selectors (drop (i + 1) methods)
public_step methods i d h = ap public_selectors (drop_more methods i d h) ∙ next_selectors (get_or methods i d) (drop (i + 1) methods)

pub public_step_size : (methods : List MethodCode) (i : ℕ) (d : MethodCode) → i < length methods →
    length (public_selectors (drop i methods)) ≡ length (public_selectors (get_or methods i d ∷ [])) + length (public_selectors (drop (i + 1) methods))
public_step_size methods i d h =
    ap length (public_step methods i d h) ∙ length-append (public_selectors (get_or methods i d ∷ [])) (public_selectors (drop (i + 1) methods))

one_size : (method : MethodCode) → length (public_selectors (method ∷ [])) ≤ 1
one_size method = tested (eqb method.access 0)
  where
    tested : (b : Bool) → length (cond b (Sym method.sel ∷ []) []) ≤ 1
    tested true = omega arith
    tested false = omega arith

-- there are no more of them than methods
pub public_few : (methods : List MethodCode) → length (public_selectors methods) ≤ length methods
public_few [] = omega arith
public_few (method ∷ methods) =
    omega (arith, ap length (next_selectors method methods), length-append (public_selectors (method ∷ [])) (public_selectors methods), one_size method, public_few methods)

-- one method more is written
pub put_step : (initial view new : WorldView) (to at next i : ℕ) (methods : List MethodCode) (d : MethodCode) → i < length methods →
    listed view to at (public_selectors (drop i methods)) ≡ listed initial to 0 (public_selectors methods) →
    new ≡ listed view to at (public_selectors (get_or methods i d ∷ [])) → next ≡ at + length (public_selectors (get_or methods i d ∷ [])) →
    listed new to next (public_selectors (drop (i + 1) methods)) ≡ listed initial to 0 (public_selectors methods)
put_step initial view new to at next i methods d h e wrote place =
    let here = public_selectors (get_or methods i d ∷ []) in
    let rest = public_selectors (drop (i + 1) methods) in
    ap (λ v. listed v to next rest) wrote
    ∙ (ap (λ n. listed (listed view to at here) to n rest) place
    ∙ (listed_append view to at here rest
    ∙ (ap (listed view to at) (sym (public_step methods i d h)) ∙ e)))

pub put_count : (at next i total : ℕ) (methods : List MethodCode) (d : MethodCode) → i < length methods →
    at + length (public_selectors (drop i methods)) ≡ total → next ≡ at + length (public_selectors (get_or methods i d ∷ [])) →
    next + length (public_selectors (drop (i + 1) methods)) ≡ total
put_count at next i total methods d h e place = omega (arith, e, place, public_step_size methods i d h)

pub put_size : (view new : WorldView) (to at i size : ℕ) (methods : List MethodCode) (d : MethodCode) →
    new ≡ listed view to at (public_selectors (get_or methods i d ∷ [])) → length (open_words_at view.world.cells to) ≡ size →
    length (open_words_at new.world.cells to) ≡ size
put_size view new to at i size methods d wrote e =
    ap (λ (v : WorldView). length (open_words_at v.world.cells to)) wrote ∙ (listed_sizes view to at to (public_selectors (get_or methods i d ∷ [])) ∙ e)
