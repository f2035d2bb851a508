-- A block that is made has the home of the code that makes it, as its body asks for.
use Rattle.std.proofs.Common.{◌≡◌, ℕ, ◌+◌, List, [], ◌∷◌, ◌++◌, length, get_or, refl, ap, sym, ◌∙◌, subst, arith, Some, None, Bool, true, false, cond, slice_get}
use Rattle.std.specs.Prelude.{nat_lt, ◌==◌}
use Rattle.std.specs.Option.{option_map_or, option_and_then}
use Rattle.std.proofs.lemmas.Bool.{lt-ltb, eqb-true}
use Rattle.std.proofs.lemmas.List.{length-append}
use Rattle.std.proofs.lemmas.Option.{get_or_from_slice_get, slice_get-get_or, slice_get_within}
use Rattle.ns_code.specs.declared.program.CodeProgram.{CodeProgram}
use Rattle.ns_code.specs.declared.body.BodyCode.{BodyCode}
use Rattle.ns_code.specs.Soundness.{method_kind, block_kind, clause_kind}
use Rattle.ns_verify.specs.Verify.{IsSound}
use Rattle.ns_verify.specs.Chains.{around, home_kind, home_kinds_from, home_kinds}
use Rattle.ns_verify.specs.Places.{home_of}
use Rattle.ns_verify.specs.Uses.{HasBlock, StandsInside}
use Rattle.ns_moves.specs.Bodies.{no_home}
use Rattle.ns_moves.specs.ValidFrames.{is_in_method, has_block_home, has_home_of}
use Rattle.ns_moves.specs.Fitting.{kind_of}
use Rattle.ns_moves.proofs.FramesKnown.{Known}

-- ---- the kinds of homes

kinds_length : (before : List ℕ) (bodies : List BodyCode) → length (home_kinds_from before bodies) ≡ length before + length bodies
kinds_length before [] = omega arith
kinds_length before (body ∷ bodies) =
    let ih = kinds_length (before ++ home_kind before body ∷ []) bodies in
    let more = length-append before (home_kind before body ∷ []) in
    omega (arith, ih, more)

-- the kind of the outermost body, whatever stands for a missing one
home_is : (code : CodeProgram) (number : ℕ) (body : BodyCode) → slice_get code.bodies number ≡ Some body →
    get_or (home_kinds code) number clause_kind ≡ home_of code number body
home_is code number body e =
    let inside = slice_get_within code.bodies number body e in
    let many = kinds_length [] code.bodies in
    get_or_from_slice_get (home_kinds code) number (home_of code number body) clause_kind
    (slice_get-get_or (home_kinds code) number body.kind (omega (arith, inside, many)))

module _ (known : Known) (code : CodeProgram) (sound : IsSound code) (number : ℕ) (body : BodyCode) (there : slice_get code.bodies number ≡ Some body) where
  -- a block is in a method where the body is in which it stands
  block_in_method : (block : ℕ) → HasBlock code number block → is_in_method code block ≡ is_in_method code number
  block_in_method block (inner, inner_is, kind, parent) = inside ((known.sound.stands code block inner sound inner_is).block kind)
    where
      inside : StandsInside code block inner → is_in_method code block ≡ is_in_method code number
      inside (outer, holder, is, below, holder_is, class, side, env) =
          let both : Some number ≡ Some outer = sym parent ∙ is in
          let same : number ≡ outer = cc in
          let under : nat_lt number block ≡ true = lt-ltb number block (omega (arith, below, same)) in
          let out : around block inner ≡ Some number =
          ap (λ k. cond (k == block_kind) (option_and_then (λ parent. cond (nat_lt parent block) (Some parent) None) inner.parent) None) kind
          ∙ (ap (option_and_then (λ parent. cond (nat_lt parent block) (Some parent) None)) parent ∙ ap (λ b. cond b (Some number) None) under) in
          ap (λ k. k == method_kind)
          (home_is code block inner inner_is ∙ (known.homes.inside code block number inner body inner_is out there ∙ sym (home_is code number body there)))

  -- the outermost body is its own
  own_method : (body.kind == block_kind) ≡ false → is_in_method code number ≡ (body.kind == method_kind)
  own_method is =
      let none : around number body ≡ None =
      ap (λ b. cond b (option_and_then (λ parent. cond (nat_lt parent number) (Some parent) None) body.parent) None) is in
      ap (λ k. k == method_kind) (home_is code number body there ∙ known.homes.outermost code number body there none)

  -- so with its home
  from_home : (m c d : Bool) (home begun : ℕ) → (d ≡ false → m ≡ c)
      → cond c (nat_lt home begun) (cond d (cond m (nat_lt home begun) (home == no_home)) (home == no_home)) ≡ true → (c ≡ true → d ≡ false)
      → cond m (nat_lt home begun) (home == no_home) ≡ true
  from_home m true d home begun own has apart = ap (λ m. cond m (nat_lt home begun) (home == no_home)) (own (apart refl)) ∙ has
  from_home m false true home begun own has apart = has
  from_home m false false home begun own has apart = ap (λ m. cond m (nat_lt home begun) (home == no_home)) (own refl) ∙ has

  pub block_home_there : (block home begun : ℕ) → HasBlock code number block → has_home_of code begun (kind_of code number) number home ≡ true
      → has_block_home code begun block home ≡ true
  block_home_there block home begun has is =
      let kind : kind_of code number ≡ body.kind = ap (λ o. option_map_or (λ (b : BodyCode). b.kind) o clause_kind) there in
      let own = subst (λ k. has_home_of code begun k number home ≡ true) kind is in
      ap (λ m. cond m (nat_lt home begun) (home == no_home)) (block_in_method block has)
      ∙ from_home (is_in_method code number) (body.kind == method_kind) (body.kind == block_kind) home begun own_method own
      (λ m. ap (λ k. k == block_kind) (eqb-true body.kind method_kind m))
