-- The room for strings, whether or not one did not fit.
use Rattle.std.specs.Prelude.{Ok, Err, Result}
use Rattle.pool.specs.declared.fresh.Room.{Room}

-- what is left, or was left when a string did not fit
abbrev pub left_of : Result Room Room → Room
left_of (Ok r) = r
left_of (Err r) = r
