-- What is said of reports by the laws about them.
use Rattle.std.specs.Prelude.{◌≡◌}
use Rattle.ns_json.specs.Json.{Value, value_text}
use Rattle.ns_json.specs.Report.{json_of}
use Rattle.ns_json.specs.declared.saying.Saying.{Saying}

-- Two values of one text are the same value.
abbrev pub ValuesAreToldApart : Type 0
ValuesAreToldApart = (a b : Value) → value_text a ≡ value_text b → a ≡ b

-- Two reports of one text are the same report.
abbrev pub ReportsAreToldApart : Type 0
ReportsAreToldApart = (a b : Saying) → json_of a ≡ json_of b → a ≡ b
