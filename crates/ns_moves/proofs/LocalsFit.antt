-- Each local that running code names stands beside it or in an environment, and is live.
use Rattle.std.proofs.Common.{◌≡◌, ℕ, zero, suc, ◌+◌, ◌-◌, List, [], get_or, refl, ap, sym, ◌∙◌, subst, arith, All, Option, Some, None, Bool, true, false, cond, slice_get}
use Rattle.std.specs.Prelude.{IsSome}
use Rattle.std.specs.Option.{option_map_or, option_and_then}
use Rattle.ns_code.specs.declared.program.CodeProgram.{CodeProgram}
use Rattle.ns_code.specs.declared.body.BodyCode.{BodyCode}
use Rattle.ns_world.specs.declared.value.Value.{Value}
use Rattle.ns_world.specs.declared.value.Value.TheVariants.{Nil, True, False, Int, Sym, Kernel, Ref}
use Rattle.ns_world.specs.declared.cell.NewCell.TheVariants as new
use Rattle.ns_world.specs.Cell.{Cell, ObjectCell, ClassCell, BlockCell, EnvironmentCell, ArrayCell, TextCell, FacetCell, MirrorCell, MessageCell, shape_of, cell_words}
use Rattle.ns_world.specs.Heap.{Heap, find_cell, shape_at, word_at, cell_number}
use Rattle.ns_world.specs.World.{World}
use Rattle.ns_world.specs.Lawful.{IsLawful, IsLiveValue, FitsEnvironment, environment_in, is_environment, parent_of}
use Rattle.ns_kdata.specs.laws.LivingItems.{get_live}
use Rattle.ns_moves.specs.Control.{Activation}
use Rattle.ns_moves.specs.Bodies.{has_environment, environment_out, environment_at, parent_in, is_beside, local_at}
use Rattle.ns_moves.specs.Lawful.{body_out, FitsLocal}
use Rattle.ns_moves.specs.Fitting.{FitsOwnEnvironment}

-- ---- one body further out

-- the cell of an environment
environment_cell : (o : Option Cell) → IsSome (environment_in o) →
    (parent : Value) × (locals : List Value) × (o ≡ Some (EnvironmentCell parent locals))
environment_cell (Some (EnvironmentCell parent locals)) some = (parent, locals, refl)
environment_cell None some = absurd (cc)
environment_cell (Some (ObjectCell class entries)) some = absurd (cc)
environment_cell (Some (ClassCell decl base encl holder over)) some = absurd (cc)
environment_cell (Some (BlockCell body env home receiver holder)) some = absurd (cc)
environment_cell (Some (ArrayCell items)) some = absurd (cc)
environment_cell (Some (TextCell bytes)) some = absurd (cc)
environment_cell (Some (FacetCell kind)) some = absurd (cc)
environment_cell (Some (MirrorCell mirrored)) some = absurd (cc)
environment_cell (Some (MessageCell sel args)) some = absurd (cc)

module _ (heap : Heap) (code : CodeProgram) where
  -- An environment fits a body.
  abbrev Fitting : ℕ → Value → Type 0
  Fitting body env = (depth : ℕ) × FitsEnvironment depth heap code (Some body) env

  -- it is one
  fitting_is : (depth body : ℕ) (env : Value) → FitsEnvironment depth heap code (Some body) env → is_environment (find_cell heap (cell_number env)) ≡ true
  fitting_is zero body env fits = absurd fits
  fitting_is (suc depth) body (Ref at) fits = let cell = environment_cell (find_cell heap at) fits.1 in ap is_environment cell.2
  fitting_is (suc depth) body Nil fits = absurd fits
  fitting_is (suc depth) body True fits = absurd fits
  fitting_is (suc depth) body False fits = absurd fits
  fitting_is (suc depth) body (Int number) fits = absurd fits
  fitting_is (suc depth) body (Sym sel) fits = absurd fits
  fitting_is (suc depth) body (Kernel class) fits = absurd fits

  out_there : (depth body out at : ℕ) (parent : Value) (locals : List Value) (b : BodyCode) → find_cell heap at ≡ Some (EnvironmentCell parent locals) → slice_get code.bodies body ≡ Some b
      → FitsEnvironment (suc depth) heap code (Some body) (Ref at) → parent_of code body ≡ Some out → Fitting out (parent_in (shape_at heap at))
  out_there depth body out at parent locals b cell there fits next =
      let own : b.parent ≡ Some out = sym (ap (λ o. option_map_or (λ (b : BodyCode). b.parent) o None) there) ∙ next in
      let shown : parent_in (shape_at heap at) ≡ parent = ap (λ o. parent_in (option_map_or shape_of o (new.Mirror Nil))) cell in (
        depth,
        subst (λ v. FitsEnvironment depth heap code (Some out) v) (sym shown)
            (subst (λ o. FitsEnvironment depth heap code o parent) own (fits.0 (parent, locals) (ap environment_in cell) b there).1),
      )

  further : (depth body out : ℕ) (env : Value) → FitsEnvironment depth heap code (Some body) env → parent_of code body ≡ Some out → Fitting out (parent_in (shape_at heap (cell_number env)))
  further zero body out env fits next = absurd fits
  further (suc depth) body out (Ref at) fits next =
      let cell = environment_cell (find_cell heap at) fits.1 in
      body_there (slice_get code.bodies body) refl fits.2 (λ b there. out_there depth body out at cell.0 cell.1 b cell.2 there fits next)
    where
      body_there : (o : Option BodyCode) → slice_get code.bodies body ≡ o → IsSome o → ((b : BodyCode) → slice_get code.bodies body ≡ Some b → Fitting out (parent_in (shape_at heap at)))
          → Fitting out (parent_in (shape_at heap at))
      body_there (Some b) e some goes = goes b e
      body_there None e some goes = absurd (cc)
  further (suc depth) body out Nil fits next = absurd fits
  further (suc depth) body out True fits next = absurd fits
  further (suc depth) body out False fits next = absurd fits
  further (suc depth) body out (Int number) fits next = absurd fits
  further (suc depth) body out (Sym sel) fits next = absurd fits
  further (suc depth) body out (Kernel class) fits next = absurd fits

  -- the environment so many bodies out fits the body there
  outwards : (hops start out : ℕ) (env : Value) → Fitting start env → body_out code start hops ≡ Some out → Fitting out (environment_out heap env hops)
  outwards zero start out env fits is = let same : start ≡ out = cc in subst (λ body. Fitting body env) same fits
  outwards (suc hops) start out env fits is = mid (body_out code start hops) is (λ between there. outwards hops start between env fits there) refl
    where
      mid : (o : Option ℕ) → option_and_then (parent_of code) o ≡ Some out → ((between : ℕ) → body_out code start hops ≡ Some between → Fitting between (environment_out heap env hops))
          → body_out code start hops ≡ o → Fitting out (environment_out heap env (suc hops))
      mid (Some between) next goes e = let f = goes between e in further f.0 between out (environment_out heap env hops) f.1 next
      mid None next goes e = absurd (cc)

-- the way out begins with the parent
begins_out : (code : CodeProgram) (body hops : ℕ) →
    body_out code body (suc hops) ≡ option_and_then (λ parent. body_out code parent hops) (parent_of code body)
begins_out code body zero = found (parent_of code body)
  where
    found : (o : Option ℕ) → o ≡ option_and_then (λ parent. Some parent) o
    found (Some parent) = refl
    found None = refl
begins_out code body (suc hops) = ap (option_and_then (parent_of code)) (begins_out code body hops) ∙ found (parent_of code body)
  where
    found : (o : Option ℕ) → option_and_then (parent_of code) (option_and_then (λ parent. body_out code parent hops) o) ≡ option_and_then (λ parent. body_out code parent (suc hops)) o
    found (Some parent) = refl
    found None = refl

-- ---- locals

module _ (heap : Heap) (code : CodeProgram) (activation : Activation) where
  -- the environment so many out is one
  stands_out : (hops start : ℕ) (depth : ℕ) → FitsEnvironment depth heap code (Some start) activation.env → IsSome (body_out code start hops) → is_environment (find_cell heap (cell_number (environment_out heap activation.env hops))) ≡ true
  stands_out hops start depth fits there = found (body_out code start hops) refl there
    where
      found : (o : Option ℕ) → body_out code start hops ≡ o → IsSome o → is_environment (find_cell heap (cell_number (environment_out heap activation.env hops))) ≡ true
      found (Some out) e some = let f = outwards heap code hops start out activation.env (depth, fits) e in fitting_is heap code f.0 out (environment_out heap activation.env hops) f.1
      found None e some = absurd (cc)

  -- from the body around
  stands_around : (hops : ℕ) (parent : Option ℕ) (depth : ℕ) → FitsEnvironment depth heap code parent activation.env → IsSome (option_and_then (λ around. body_out code around hops) parent)
      → is_environment (find_cell heap (cell_number (environment_out heap activation.env hops))) ≡ true
  stands_around hops (Some around) depth fits there = stands_out hops around depth fits there
  stands_around hops None depth fits there = absurd (cc)

  abbrev Stands : ℕ → Type 0
  Stands hops = is_environment (find_cell heap (cell_number (environment_out heap activation.env hops))) ≡ true

  own_stands : (b : Bool) → FitsEnvironment (activation.body + 1) heap code (cond b (Some activation.body) (parent_of code activation.body)) activation.env → cond b false true ≡ false → Stands (cond b 0 (0 - 1))
  own_stands true fits beside = fitting_is heap code (activation.body + 1) activation.body activation.env fits
  own_stands false fits beside = absurd (cc)

  outer_stands : (hops : ℕ) (b : Bool) → FitsEnvironment (activation.body + 1) heap code (cond b (Some activation.body) (parent_of code activation.body)) activation.env → IsSome (body_out code activation.body (suc hops)) → Stands (cond b (suc hops) (suc hops - 1))
  outer_stands hops true fits there = stands_out (suc hops) activation.body (activation.body + 1) fits there
  outer_stands hops false fits there =
      let same : hops ≡ suc hops - 1 = omega arith in
      subst Stands same (stands_around hops (parent_of code activation.body) (activation.body + 1) fits (subst (λ o. IsSome o) (begins_out code activation.body hops) there))

  pub local_stands : (hops : ℕ) → FitsOwnEnvironment heap code activation → IsSome (body_out code activation.body hops) → FitsLocal heap code activation hops
  local_stands zero fits there = λ beside. own_stands (has_environment code activation.body) fits beside
  local_stands (suc hops) fits there = λ beside. outer_stands hops (has_environment code activation.body) fits there

-- a word of an environment is live
environment_word : (world : World) (code : CodeProgram) (at word : ℕ) → IsLawful world code →
    is_environment (find_cell world.cells at) ≡ true → IsLiveValue world.cells code (word_at world.cells at word)
environment_word world code at word lawful is = found (find_cell world.cells at) refl is
  where
    found : (o : Option Cell) → find_cell world.cells at ≡ o → is_environment o ≡ true → IsLiveValue world.cells code (get_or (option_map_or cell_words o []) word Nil)
    found (Some (EnvironmentCell parent locals)) e is = get_live (IsLiveValue world.cells code) locals word (lawful.cells at (EnvironmentCell parent locals) e).1 (tt, refl)
    found None e is = absurd (cc)
    found (Some (ObjectCell class entries)) e is = absurd (cc)
    found (Some (ClassCell decl base encl holder over)) e is = absurd (cc)
    found (Some (BlockCell body env home receiver holder)) e is = absurd (cc)
    found (Some (ArrayCell items)) e is = absurd (cc)
    found (Some (TextCell bytes)) e is = absurd (cc)
    found (Some (FacetCell kind)) e is = absurd (cc)
    found (Some (MirrorCell shown)) e is = absurd (cc)
    found (Some (MessageCell sel args)) e is = absurd (cc)

pub local_live : (world : World) (code : CodeProgram) (activation : Activation) (locals : List Value) (hops place : ℕ) →
    IsLawful world code → FitsLocal world.cells code activation hops → All (IsLiveValue world.cells code) locals
    → IsLiveValue world.cells code (local_at world.cells code activation locals hops place)
local_live world code activation locals hops place lawful fits all = tested (is_beside code activation hops) refl
  where
    at : ℕ
    at = environment_at world.cells code activation hops

    tested : (b : Bool) → is_beside code activation hops ≡ b → IsLiveValue world.cells code (cond b (get_or locals place Nil) (word_at world.cells at place))
    tested true e = get_live (IsLiveValue world.cells code) locals place all (tt, refl)
    tested false e = environment_word world code at place lawful (fits e)
