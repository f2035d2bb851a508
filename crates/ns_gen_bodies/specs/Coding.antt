-- What is generated of a program: its names and literal texts, and of its bodies, where these are kept, those that fit and what of one is
-- too large.
use Rattle.std.specs.Prelude.{ℕ, List, [], ◌∷◌, ◌++◌, Bool, true, false, Option, Some, None}
use Rattle.ns_code.specs.declared.body.BodyCode.{BodyCode}
use Rattle.ns_resolved.specs.Program as m
use Rattle.ns_resolved.specs.Tables.{body_head}
use Rattle.ns_gen_code.specs.Code.{with_code}
use Rattle.ns_gen_code.specs.declared.size.SizeKind.{SizeKind}
use Rattle.ns_gen_code.specs.declared.size.SizeKind.TheVariants as s
use Rattle.ns_gen_draft.specs.Drafts.{Written}
use Rattle.ns_gen_bodies.specs.Stepping.{with_body}
use Rattle.ns_gen_bodies.specs.Finishing.{finished}
use Rattle.ns_gen_bodies.specs.declared.finish.Finished.{Finished}
use Rattle.ns_gen_bodies.specs.declared.finish.Finished.TheVariants.{Fits, TooLarge}

pub record Coded : Type 0 where
  pub names : List (List ℕ)
  pub texts : List (List ℕ)
  pub keeps : Bool
  pub bodies : List BodyCode
  pub fault : Option SizeKind

-- what was generated, with the tables of what was written
abbrev pub coded_of : Written → Bool → List BodyCode → Option SizeKind → Coded
coded_of written keeps bodies fault = record { names = written.names; texts = written.texts; keeps = keeps; bodies = bodies; fault = fault }

-- of two that are too large: too many instructions are told before too great a height
abbrev pub graver : Option SizeKind → SizeKind → SizeKind
graver None kind = kind
graver (Some s.Code) kind = s.Code
graver (Some s.Height) kind = kind
graver (Some s.Names) kind = kind
graver (Some s.Bodies) kind = kind

-- with a further body, or what of it is too large
abbrev pub with_finished : Finished → Coded → Coded
with_finished (Fits code) before = record before { bodies = before.bodies ++ code ∷ [] }
with_finished (TooLarge kind) before = record before { fault = Some (graver before.fault kind) }

-- the same, where bodies are kept
abbrev pub with_kept : Bool → Finished → Coded → Coded
with_kept false result before = before
with_kept true result before = with_finished result before

-- with a body whose lines were written behind what was generated
abbrev pub with_lines_of : BodyCode → Written → Coded → Coded
with_lines_of head lines before =
    with_kept before.keeps (finished (with_code lines.names head lines.lines)) (record before { names = lines.names; texts = lines.texts })

-- the tables so far, with a body begun
abbrev pub begun : Coded → Written
begun before = record { names = before.names; texts = before.texts; lines = [] }

-- with a body of this head that does this
abbrev pub with_headed : BodyCode → m.Does → Coded → Coded
with_headed head does before = with_lines_of head (with_body does (begun before)) before

-- with a body
abbrev pub with_one : m.Body → Coded → Coded
with_one body before = with_headed (body_head body) body.does before

-- with bodies, in order
abbrev pub with_bodies : List m.Body → Coded → Coded
with_bodies [] before = before
with_bodies (body ∷ bodies) before = with_bodies bodies (with_one body before)
