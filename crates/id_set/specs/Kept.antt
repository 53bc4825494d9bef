-- What a set keeps, as the list of its ids.
use Rattle.std.specs.Prelude.{ℕ, List, [], ◌∷◌}
use Rattle.id_set.specs.declared.set.Ids.{Ids}
use Rattle.id_set.specs.declared.set.Ids.TheVariants.{Nobody, One, Many}

abbrev pub ids_of : Ids → List ℕ
ids_of Nobody = []
ids_of (One id) = id ∷ []
ids_of (Many ids) = ids.value.items
