use Rattle.outer_products.proofs.AtPlaces.{products_keep_tiles}
use Rattle.outer_products.proofs.laws.products_keep_tiles.Goals as goal

pub returns : goal.returns
returns c = products_keep_tiles
