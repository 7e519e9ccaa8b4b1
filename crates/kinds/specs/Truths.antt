-- What a condition may turn out to be.
-- Assumes nothing: these are definitions.
use Rattle.std.specs.Prelude.{Bool, true, false, Option, Some, None}

-- whether a condition may fail, and whether it may hold
abbrev pub may_fail : Option Bool → Bool
may_fail (Some false) = true
may_fail (Some true) = false
may_fail None = true

abbrev pub may_hold : Option Bool → Bool
may_hold (Some false) = false
may_hold (Some true) = true
may_hold None = true
