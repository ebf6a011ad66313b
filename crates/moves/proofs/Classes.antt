-- All classes, one by one.
use Rattle.moves.specs.declared.sets.Class.{Class}
use Rattle.moves.specs.declared.sets.Class.TheVariants.{White, Black, Crowned, Straight, Slanted, Horsed, Foot}

pub by_class : (P : Class → Type 0) → P White → P Black → P Crowned → P Straight → P Slanted → P Horsed → P Foot → (class : Class) → P class
by_class P white black crowned straight slanted horsed foot White = white
by_class P white black crowned straight slanted horsed foot Black = black
by_class P white black crowned straight slanted horsed foot Crowned = crowned
by_class P white black crowned straight slanted horsed foot Straight = straight
by_class P white black crowned straight slanted horsed foot Slanted = slanted
by_class P white black crowned straight slanted horsed foot Horsed = horsed
by_class P white black crowned straight slanted horsed foot Foot = foot
