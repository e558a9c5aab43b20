use Rattle.outer_products.proofs.AtPlaces.{products_at_places}
use Rattle.outer_products.proofs.laws.products_are_at_their_places.Goals as goal

pub returns : goal.returns
returns c = products_at_places
