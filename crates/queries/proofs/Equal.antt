-- What the equality of queries, values and places says.
use Rattle.std.proofs.Common.{◌≡◌, ◌↔◌, true, rules}
use Rattle.queries.specs.contracts.key.KeyPartialEq.TheImpl as of_keys
use Rattle.queries.specs.contracts.place.PlacePartialEq.TheImpl as of_places
use Rattle.queries.specs.contracts.value.ValuePartialEq.TheImpl as of_values
use Rattle.queries.specs.declared.key.Key.{Key}
use Rattle.queries.specs.declared.place.Place.{Place}
use Rattle.queries.specs.declared.value.Value.{Value}
use Rattle.queries.specs.Sheet.{same_place}

pub keys_alike : (a b : Key) → ((of_keys.eq-value).it a b ≡ true) ↔ (a ≡ b)
keys_alike a b = search rules

pub values_alike : (a b : Value) → ((of_values.eq-value).it a b ≡ true) ↔ (a ≡ b)
values_alike a b = search rules

pub places_alike : (a b : Place) → (of_places.eq-value).it a b ≡ same_place a b
places_alike a b = search rules
