-- Small programs run.
use Rattle.std.proofs.Common.{◌≡◌, ℕ, List, [], ◌∷◌, ◌++◌, refl, Some, None, true, false}
use Rattle.std.specs.Prelude.{codes, pos}
use Rattle.std.specs.Fmt.{digits}
use Rattle.ns_base.specs.declared.limits.Limits.{Limits}
use Rattle.ns_base.specs.declared.place.Place.{Place}
use Rattle.ns_base.specs.declared.status.Status.TheVariants as status
use Rattle.ns_tree.specs.declared.tree.Access.TheVariants as access
use Rattle.ns_scope.specs.declared.scope.CodeSide.TheVariants as side
use Rattle.ns_facets.specs.declared.row.Grants.{Grants}
use Rattle.ns_resolved.specs.Program as m
use Rattle.ns_model.specs.Whole.{meaning_of_run}

at : ℕ → Place
at col = record { file = 0; line = 2; col = col }

none : Grants
none = record { console = false; kernel = false; mirrors = false; board = false }

abbrev limits : ℕ → ℕ → Limits
limits steps depth = record { steps = steps; cells = 100; depth = depth; out = 10 }

abbrev initialiser : m.Body
initialiser = record {
  side = side.Instance;
  class = 0;
  parent = None;
  params = 1;
  locals = codes "m" ∷ [];
  environment = false;
  does = m.as_initialiser (record { place = record { file = 0; line = 1; col = 7 }; arguments = m.no_nodes; slots = []; expressions = [] });
}

abbrev body : List m.Step → m.Body
body steps =
    record { side = side.Instance; class = 0; parent = None; params = 2; locals = codes "p" ∷ codes "a" ∷ []; environment = true; does = m.as_method [] steps }

abbrev block : List m.Step → m.Body
block steps = record { side = side.Instance; class = 0; parent = Some 1; params = 1; locals = codes "x" ∷ []; environment = false; does = m.as_block [] steps }

-- class T packageUsing: m = () (public main: p args: a = (..))
abbrev program : List m.Step → List m.Step → m.Meant
program steps inside = record {
  files = codes "T.ns" ∷ [];
  classes = record {
    name =
        codes "T";
    outer = None;
    factory = codes "packageUsing:";
    params = 1;
    clause = None;
    initialiser = 0;
    super_selector = codes "new";
    slots = [];
    nested = [];
    methods = record { selector = codes "main:args:"; access = access.Public; body = 1 } ∷ [];
    side_methods = [];
  } ∷ [];
  bodies = initialiser ∷ body steps ∷ block inside ∷ [];
}

-- ^7
abbrev seven : m.Meant
seven = program (m.return (m.integer (pos 7)) ∷ []) []

-- [:x | ^x] value: 3. ^0
abbrev early : m.Meant
early = program
    (m.evaluate (m.send (m.block 2) (record { selector = codes "value:"; place = at 40 })
    (m.more_nodes (m.integer (pos 3)) m.no_nodes))
    ∷ m.return (m.integer (pos 0)) ∷ [])
    (m.return (m.local 0 0) ∷ [])

seven_line : (meaning_of_run seven [] none (limits 2 1)).line ≡ codes "=> 7" ++ 10 ∷ []
unfolding none digits
seven_line = refl

seven_status : (meaning_of_run seven [] none (limits 2 1)).status ≡ status.Done
unfolding none digits
seven_status = refl

seven_short : (meaning_of_run seven [] none (limits 1 1)).line ≡ codes "limit: steps" ++ 10 ∷ []
unfolding none digits
seven_short = refl

early_line : (meaning_of_run early [] none (limits 10 10)).line ≡ codes "=> 3" ++ 10 ∷ []
unfolding none at digits
early_line = refl

early_steps : (meaning_of_run early [] none (limits 10 10)).counters.steps ≡ 4
unfolding none at digits
early_steps = refl

early_deep : (meaning_of_run early [] none (limits 10 1)).line ≡ codes "limit: depth" ++ 10 ∷ []
unfolding none at digits
early_deep = refl
