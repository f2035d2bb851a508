-- The environments around running code, and the locals in them.
use Rattle.std.proofs.Common.{◌≡◌, ℕ, zero, suc, ◌+◌, ◌-◌, ◌≤◌, ◌<◌, ◌⊎◌, inl, inr, List, [], length, refl, ap, sym, ◌∙◌, subst, arith, Option, Some, None, Bool, true, false, cond, slice_get}
use Rattle.std.proofs.lemmas.Bool.Decides.{leb_tells}
use Rattle.std.specs.Prelude.{IsSome, leb}
use Rattle.std.specs.Option.{option_map_or, option_and_then}
use Rattle.ns_code.specs.declared.program.CodeProgram.{CodeProgram}
use Rattle.ns_code.specs.declared.body.BodyCode.{BodyCode}
use Rattle.ns_world.specs.declared.value.Value.{Value}
use Rattle.ns_world.specs.declared.value.Value.TheVariants.{Nil, True, False, Int, Sym, Kernel, Ref}
use Rattle.ns_world.specs.declared.cell.NewCell.TheVariants as new
use Rattle.ns_world.specs.Cell.{Cell, ObjectCell, ClassCell, BlockCell, EnvironmentCell, ArrayCell, TextCell, FacetCell, MirrorCell, MessageCell, shape_of, cell_words}
use Rattle.ns_world.specs.Heap.{Heap, find_cell, shape_at, words_at, cell_number}
use Rattle.ns_world.specs.Lawful.{FitsEnvironment, environment_in, is_environment, parent_of}
use Rattle.ns_verify.specs.Chains.{body_around, body_at}
use Rattle.ns_verify.specs.Uses.{HasLocal as NamesLocal}
use Rattle.ns_moves.specs.Control.{Activation}
use Rattle.ns_moves.specs.Bodies.{has_environment, locals_of, environment_out, parent_in, is_beside}
use Rattle.ns_moves.specs.Fitting.{environment_body, locals_beside}
use Rattle.ns_moves.specs.laws.Levels.{around_is}
use Rattle.ns_moves.specs.Locals.{HasEnvironments, LocalIsReadable}

-- ---- one environment

-- the cell of an environment
environment_cell : (o : Option Cell) → IsSome (environment_in o) →
    (parent : Value) × (locals : List Value) × (o ≡ Some (EnvironmentCell parent locals))
environment_cell (Some (EnvironmentCell parent locals)) some = (parent, locals, refl)
environment_cell None some = absurd (cc)
environment_cell (Some (ObjectCell class entries)) some = absurd (cc)
environment_cell (Some (ClassCell decl base encl holder over)) some = absurd (cc)
environment_cell (Some (BlockCell body env home receiver holder)) some = absurd (cc)
environment_cell (Some (ArrayCell items)) some = absurd (cc)
environment_cell (Some (TextCell bytes)) some = absurd (cc)
environment_cell (Some (FacetCell kind)) some = absurd (cc)
environment_cell (Some (MirrorCell mirrored)) some = absurd (cc)
environment_cell (Some (MessageCell sel args)) some = absurd (cc)

-- An environment fits a body.
abbrev Fitting : Heap → CodeProgram → ℕ → Value → Type 0
Fitting heap code body env = (depth : ℕ) × FitsEnvironment depth heap code (Some body) env

-- What is known of one that does: it has as many locals, and the one around it fits the body around.
record Known (heap : Heap) (code : CodeProgram) (body : ℕ) (env : Value) : Type 0 where
  is : is_environment (find_cell heap (cell_number env)) ≡ true
  words : (b : BodyCode) → slice_get code.bodies body ≡ Some b → length (words_at heap (cell_number env)) ≡ b.locals
  outer : (out : ℕ) → parent_of code body ≡ Some out → Fitting heap code out (parent_in (shape_at heap (cell_number env)))

module _ (heap : Heap) (code : CodeProgram) where
  known_at : (depth body at : ℕ) → FitsEnvironment (suc depth) heap code (Some body) (Ref at) → Known heap code body (Ref at)
  known_at depth body at fits =
      let cell = environment_cell (find_cell heap at) fits.1 in
      let parent : Value = cell.0 in
      let shown : parent_in (shape_at heap at) ≡ parent = ap (λ o. parent_in (option_map_or shape_of o (new.Mirror Nil))) cell.2 in
      record {
        is = ap is_environment cell.2;
        words = λ b there. ap (λ o. length (option_map_or cell_words o [])) cell.2 ∙ (fits.0 (parent, cell.1) (ap environment_in cell.2) b there).0;
        outer = λ out next. by_body (slice_get code.bodies body) refl fits.2 out next
            (λ b there own. (
              depth,
              subst (λ v. FitsEnvironment depth heap code (Some out) v) (sym shown)
                  (subst (λ o. FitsEnvironment depth heap code o parent) own (fits.0 (parent, cell.1) (ap environment_in cell.2) b there).1),
            ));
      }
    where
      by_body : (o : Option BodyCode) → slice_get code.bodies body ≡ o → IsSome o → (out : ℕ) → parent_of code body ≡ Some out
          → ((b : BodyCode) → slice_get code.bodies body ≡ Some b → b.parent ≡ Some out → Fitting heap code out (parent_in (shape_at heap at)))
          → Fitting heap code out (parent_in (shape_at heap at))
      by_body (Some b) e some out next goes = goes b e (sym (ap (λ o. option_map_or (λ (b : BodyCode). b.parent) o None) e) ∙ next)
      by_body None e some out next goes = absurd (cc)

  known_of : (depth body : ℕ) (env : Value) → FitsEnvironment depth heap code (Some body) env → Known heap code body env
  known_of zero body env fits = absurd fits
  known_of (suc depth) body (Ref at) fits = known_at depth body at fits
  known_of (suc depth) body Nil fits = absurd fits
  known_of (suc depth) body True fits = absurd fits
  known_of (suc depth) body False fits = absurd fits
  known_of (suc depth) body (Int number) fits = absurd fits
  known_of (suc depth) body (Sym sel) fits = absurd fits
  known_of (suc depth) body (Kernel class) fits = absurd fits

-- ---- the way out

-- a way out over bodies, of which the first has an environment that fits it
module _ (heap : Heap) (code : CodeProgram) (env : Value) (way : ℕ → Option ℕ) (steps : (k : ℕ) → way (suc k) ≡ option_and_then (body_around code) (way k))
    (first : (out : ℕ) → way 0 ≡ Some out → Fitting heap code out env) where
  -- so has each of them
  out_known : (hops out : ℕ) → way hops ≡ Some out → Known heap code out (environment_out heap env hops)
  out_known zero out is = let f = first out is in known_of heap code f.0 out env f.1
  out_known (suc hops) out is = mid (way hops) refl (sym (steps hops) ∙ is) (out_known hops)
    where
      mid : (o : Option ℕ) → way hops ≡ o → option_and_then (body_around code) o ≡ Some out
          → ((between : ℕ) → way hops ≡ Some between → Known heap code between (environment_out heap env hops))
          → Known heap code out (environment_out heap env (suc hops))
      mid (Some between) e next goes =
          let f = (goes between e).outer out (around_is code between out next) in
          known_of heap code f.0 out (environment_out heap env (suc hops)) f.1
      mid None e next goes = absurd (cc)

  -- and the environments up to one are there
  all_there : (hops out : ℕ) → way hops ≡ Some out → HasEnvironments heap env hops
  all_there zero out is = λ k within.
      let none : 0 ≡ k = omega (arith, within) in
      subst (λ k. is_environment (find_cell heap (cell_number (environment_out heap env k))) ≡ true) none (out_known 0 out is).is
  all_there (suc hops) out is = λ k within. mid (way hops) refl (sym (steps hops) ∙ is) (all_there hops) k within (leb_tells k hops)
    where
      Stands : ℕ → Type 0
      Stands k = is_environment (find_cell heap (cell_number (environment_out heap env k))) ≡ true

      mid : (o : Option ℕ) → way hops ≡ o → option_and_then (body_around code) o ≡ Some out
          → ((between : ℕ) → way hops ≡ Some between → HasEnvironments heap env hops)
          → (k : ℕ) → k ≤ suc hops → ((leb k hops ≡ true) × (k ≤ hops)) ⊎ ((leb k hops ≡ false) × (hops < k)) → Stands k
      mid (Some between) e next goes k within (inl low) = goes between e k low.1
      mid (Some between) e next goes k within (inr high) =
          let more = high.1 in
          let last : suc hops ≡ k = omega (arith, within, more) in
          subst Stands last (out_known (suc hops) out is).is
      mid None e next goes k within which = absurd (cc)

-- ---- a local that code names

module _ (heap : Heap) (code : CodeProgram) (activation : Activation) (index : ℕ) where
  -- it is in an environment so many out
  abbrev StandsOut : ℕ → Type 0
  StandsOut hops = HasEnvironments heap activation.env hops × (index < length (words_at heap (cell_number (environment_out heap activation.env hops))))

  out_on : (way : ℕ → Option ℕ) → ((k : ℕ) → way (suc k) ≡ option_and_then (body_around code) (way k))
      → ((out : ℕ) → way 0 ≡ Some out → Fitting heap code out activation.env) → (hops out : ℕ) → way hops ≡ Some out → (b : BodyCode)
      → slice_get code.bodies out ≡ Some b → index < b.locals → StandsOut hops
  out_on way steps first hops out is b there small =
      let words = (out_known heap code activation.env way steps first hops out is).words b there in
      (all_there heap code activation.env way steps first hops out is, omega (arith, words, small))

  -- of a body with an environment of its own, and of one without
  own_out : (hops : ℕ) → FitsEnvironment (activation.body + 1) heap code (Some activation.body) activation.env → NamesLocal code activation.body hops index
      → StandsOut hops
  own_out hops fits (out, holder, is, there, small) =
      out_on (λ k. body_at code k activation.body) (λ k. refl)
      (λ out e. let same : activation.body ≡ out = cc in subst (λ body. Fitting heap code body activation.env) same (activation.body + 1, fits))
      hops out is holder there small

  around_out : (hops : ℕ) → FitsEnvironment (activation.body + 1) heap code (parent_of code activation.body) activation.env
      → NamesLocal code activation.body (suc hops) index → StandsOut hops
  around_out hops fits (out, holder, is, there, small) =
      out_on (λ k. body_at code (suc k) activation.body) (λ k. refl)
      (λ out e. (activation.body + 1, subst (λ o. FitsEnvironment (activation.body + 1) heap code o activation.env) (around_is code activation.body out e) fits))
      hops out is holder there small

  -- one of the body itself, and one further out
  own_away : (own : Bool) → FitsEnvironment (activation.body + 1) heap code (cond own (Some activation.body) (parent_of code activation.body)) activation.env
      → cond own false true ≡ false → NamesLocal code activation.body 0 index → StandsOut (cond own 0 (0 - 1))
  own_away true fits away named = own_out 0 fits named
  own_away false fits away named = absurd (cc)

  outer_away : (hops : ℕ) (own : Bool)
      → FitsEnvironment (activation.body + 1) heap code (cond own (Some activation.body) (parent_of code activation.body)) activation.env
      → NamesLocal code activation.body (suc hops) index → StandsOut (cond own (suc hops) (suc hops - 1))
  outer_away hops true fits named = own_out (suc hops) fits named
  outer_away hops false fits named = let same : hops ≡ suc hops - 1 = omega arith in subst StandsOut same (around_out hops fits named)

  away : (hops : ℕ) → FitsEnvironment (activation.body + 1) heap code (environment_body code activation.body) activation.env
      → NamesLocal code activation.body hops index → is_beside code activation hops ≡ false → StandsOut (cond (has_environment code activation.body) hops (hops - 1))
  away zero fits named beside = own_away (has_environment code activation.body) fits beside named
  away (suc hops) fits named beside = outer_away hops (has_environment code activation.body) fits named

  pub local_outside : (hops : ℕ) → FitsEnvironment (activation.body + 1) heap code (environment_body code activation.body) activation.env
      → NamesLocal code activation.body hops index → LocalIsReadable heap code activation hops index
  local_outside hops fits named = record { way = λ beside. (away hops fits named beside).0; inside = λ beside. (away hops fits named beside).1 }

-- one of a body without an environment is among those beside it
pub local_beside : (code : CodeProgram) (activation : Activation) (hops index : ℕ) (locals : List Value) →
    length locals ≡ locals_beside code activation.body
    → NamesLocal code activation.body hops index → is_beside code activation hops ≡ true → index < length locals
local_beside code activation zero index locals many (out, holder, is, there, small) beside =
    let same : activation.body ≡ out = cc in
    let count : locals_of code activation.body ≡ holder.locals =
    ap (locals_of code) same ∙ ap (λ o. option_map_or (λ (b : BodyCode). b.locals) o 0) there in
    tested (has_environment code activation.body) count many beside
  where
    tested : (own : Bool) → locals_of code activation.body ≡ holder.locals → length locals ≡ cond own 0 (locals_of code activation.body)
        → cond own false true ≡ true → index < length locals
    tested true count many beside = absurd (cc)
    tested false count many beside = omega (arith, count, many, small)
local_beside code activation (suc hops) index locals many named beside = absurd (cc)
