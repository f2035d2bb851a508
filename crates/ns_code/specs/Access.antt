-- The access of a member, by its number.
use Rattle.std.specs.Prelude.{ℕ}

abbrev pub public_access : ℕ
public_access = 0

abbrev pub protected_access : ℕ
protected_access = 1

abbrev pub private_access : ℕ
private_access = 2
