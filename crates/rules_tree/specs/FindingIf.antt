-- What is found where something holds.
use Rattle.std.specs.Prelude.{List, [], ◌∷◌, Bool, true, false}
use Rattle.rule_sites.specs.Finding.{Finding}

abbrev pub finding_if : Bool → Finding → List Finding
finding_if true f = f ∷ []
finding_if false f = []
