-- The text of a sheet, from its values.
use Rattle.std.specs.Prelude.{ℕ, List, [], ◌∷◌, ◌++◌, decimal}
use Rattle.std.specs.Fmt.{signed_decimal}
use Rattle.terms.specs.declared.role.Role.{Role}
use Rattle.terms.specs.declared.role.Role.TheVariants.{Initiator, Responder}
use Rattle.texts.specs.Writing.{hex_text}
use Rattle.params.specs.declared.values.Values.{Values}
use Rattle.params.specs.Columns.{names}
use Rattle.params.specs.Lines.{role_column}

-- the number that a role has in a sheet: the only one that its column takes
abbrev pub role_number : Role → ℕ
role_number role = (role_column role).range.low

-- values one behind another, with a space, 32, between them
abbrev pub identifiers_text : Values → List ℕ
identifiers_text v =
    hex_text v.own.first ++ (32 ∷ (hex_text v.own.second ++ (32 ∷ (hex_text v.far.first ++ (32 ∷ hex_text v.far.second)))))

abbrev pub ages_text : Values → List ℕ
ages_text v =
    decimal v.version ++ (32 ∷ (decimal v.period.0 ++ (32 ∷ (decimal v.window ++ (32 ∷ (signed_decimal v.mmin ++ (32 ∷ decimal v.mmax)))))))

abbrev pub limits_text : Values → List ℕ
limits_text v =
    decimal v.ask.0 ++ (32 ∷ (decimal v.wait.0 ++ (32 ∷ (decimal v.setup.0 ++ (32 ∷ (decimal v.longest ++ (32 ∷ decimal v.ec.0)))))))

abbrev pub line_text : Role → Values → List ℕ
line_text role v = decimal (role_number role) ++ (32 ∷ (identifiers_text v ++ (32 ∷ (ages_text v ++ (32 ∷ limits_text v)))))

-- the names, the initiator's line and the responder's, each with a line feed, 10, behind it
abbrev pub sheet_text : Values × Values → List ℕ
sheet_text both = names ++ (10 ∷ (line_text Initiator both.0 ++ (10 ∷ (line_text Responder both.1 ++ (10 ∷ [])))))
