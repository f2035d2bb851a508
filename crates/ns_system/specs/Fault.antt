-- The line that the program writes of a fault (this profile).
use Rattle.std.specs.Prelude.{ℕ, zero, suc, List, [], ◌∷◌, ◌++◌, codes, Option, Some, None}
use Rattle.ns_base.specs.declared.status.Status.{Status}
use Rattle.ns_base.specs.declared.status.Status.TheVariants.{Done, ProgramError, Refused, Limit, ReadFault, WriteFault, Memory}

-- what is said of a file that can't be read, by its name where that was kept
abbrev pub unread_line : Option (List ℕ) → List ℕ
unread_line (Some name) = codes "nspk: " ++ name ++ codes ": can't be read" ++ 10 ∷ []
unread_line None = codes "nspk: a file can't be read" ++ 10 ∷ []

-- what is said of a file that can't be stored, by its name where that was kept
abbrev pub unstored_line : Option (List ℕ) → List ℕ
unstored_line (Some name) = codes "nspk: " ++ name ++ codes ": can't be stored" ++ 10 ∷ []
unstored_line None = codes "nspk: a file can't be stored" ++ 10 ∷ []

-- what is said where something can't be written, by how many stores failed and how many puts to standard output: of the file,
-- where a store failed, or else of the stream
abbrev pub unwritten_line : (unstored : Option (List ℕ)) → (stores puts : ℕ) → List ℕ
unwritten_line unstored zero zero = codes "nspk: standard error can't be written" ++ 10 ∷ []
unwritten_line unstored zero (suc puts) = codes "nspk: standard output can't be written" ++ 10 ∷ []
unwritten_line unstored (suc stores) puts = unstored_line unstored

-- What is said of a command, over what the files and the streams tell, by the status with which it ended: one line where it wasn't
-- carried out, and else none.
abbrev pub fault_line : (unread unstored : Option (List ℕ)) → (stores puts : ℕ) → Status → Option (List ℕ)
fault_line unread unstored stores puts Done = None
fault_line unread unstored stores puts ProgramError = None
fault_line unread unstored stores puts Refused = None
fault_line unread unstored stores puts Limit = None
fault_line unread unstored stores puts ReadFault = Some (unread_line unread)
fault_line unread unstored stores puts WriteFault = Some (unwritten_line unstored stores puts)
fault_line unread unstored stores puts Memory = Some (codes "nspk: no memory" ++ 10 ∷ [])
