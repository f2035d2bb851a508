-- What holds of a result that is a refusal.
use Rattle.std.specs.Prelude.{Result, Ok, Err}
use Rattle.std.specs.Result.{OnErr}

-- what holds anyway
pub also_refused : {T E P : Type 0} (r : Result T E) → P → OnErr r P
also_refused (Ok x) p = tt
also_refused (Err e) p = p
