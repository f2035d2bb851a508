-- What the laws say of the rows of mirrors.
use Rattle.ns_code.specs.declared.program.CodeProgram.{CodeProgram}
use Rattle.ns_world.specs.declared.value.Value.{Value}
use Rattle.ns_world.specs.World.{World}
use Rattle.ns_world.specs.Lawful.{IsLawful, IsLiveValue}
use Rattle.ns_world.specs.declared.kernel_parts.MirrorRow.{MirrorRow}
use Rattle.ns_mirror.specs.Mirror.{row_outcome}
use Rattle.ns_mirror.specs.Living.{ReflectsLive}
use Rattle.ns_mirror.specs.Lawful.{ReflectsLawful}

-- A row in a lawful world answers, or is to send, what is live, where its values are.
abbrev pub MirrorsAreLive : Type 0
MirrorsAreLive =
    (world : World) (code : CodeProgram) (row : MirrorRow) (value first second : Value) → IsLawful world code
    → IsLiveValue world.cells code value → IsLiveValue world.cells code first → IsLiveValue world.cells code second
    → ReflectsLive code (row_outcome world code row value first second)

-- It leaves a lawful world, where its arguments are live.
abbrev pub MirrorsKeepLawful : Type 0
MirrorsKeepLawful =
    (world : World) (code : CodeProgram) (row : MirrorRow) (value first second : Value) → IsLawful world code
    → IsLiveValue world.cells code first → IsLiveValue world.cells code second
    → ReflectsLawful code (row_outcome world code row value first second)
