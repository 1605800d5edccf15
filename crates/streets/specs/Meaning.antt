-- The street and the leg that the code's structs stand for.
use Rattle.streets.specs.Streets.{Street, Leg, joining}
use Rattle.streets.specs.declared.street.Street.{Street as StreetStruct}
use Rattle.streets.specs.declared.leg.Leg.{Leg as LegStruct}

abbrev pub as_street : StreetStruct → Street
as_street s = joining s.one s.other s.long

abbrev pub as_leg : LegStruct → Leg
as_leg l = record { along = l.along; back = l.back }
