-- One of two.
use Rattle.std.specs.Prelude.{Bool, true, false}
use Rattle.std.specs.Prelude.{Option, None, Some}

-- a where it is there, else b
abbrev pub or_else : {A : Type 0} → Option A → Option A → Option A
or_else (Some a) b = Some a
or_else None b = b

-- what is there, else b
abbrev pub value_or : {A : Type 0} → Option A → A → A
value_or (Some a) b = a
value_or None b = b

-- a where the test holds
abbrev pub when_so : {A : Type 0} → Bool → A → Option A
when_so true a = Some a
when_so false a = None
