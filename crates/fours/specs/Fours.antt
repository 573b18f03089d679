-- Four elements that were read, as a list.
use Rattle.std.specs.Prelude.{List, [], ◌∷◌}
use Rattle.fours.specs.declared.Four.{Four}

abbrev pub four_of : {A : Type 0} → Four A → List A
four_of f = f.w ∷ f.x ∷ f.y ∷ f.z ∷ []
