-- Where the words of the routines and of a tail stand, as a caller names them.
-- Source: AAPCS64, the ZA lazy saving scheme.
use Rattle.lazy_saving.specs.Dormant.{Places}
use Rattle.za_routines.specs.declared.places.RoutinePlaces.{RoutinePlaces}

abbrev pub places_of : RoutinePlaces → Places
places_of p = record { disable = p.disable; restore = p.restore; tail = p.tail }
