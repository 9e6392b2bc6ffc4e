-- The bases that phrases speak of, by the rules' letters.
use Rattle.std.specs.Prelude.{ℕ, Option, Some, None}
use Rattle.std.proofs.Math.Option.{Option as Maybe, none, some}
use Rattle.rules.specs.Units.{Base as Kind, plain, keys, r_d, r_h, r_o, r_b, base_of}
use Rattle.hint_phrases.specs.declared.catalogue.Base.{Base}
use Rattle.hint_phrases.specs.declared.catalogue.Base.TheVariants.{Decimal, Hexadecimal, Octal, Binary, Keyed}

-- what the rules call a base
abbrev pub base : Kind → Base
base (plain r_d) = Decimal
base (plain r_h) = Hexadecimal
base (plain r_o) = Octal
base (plain r_b) = Binary
base keys = Keyed

-- and what they say of a letter that may be none
abbrev pub found : Maybe Kind → Option Base
found none = None
found (some b) = Some (base b)

-- the base that a letter names
abbrev pub named : ℕ → Option Base
named c = found (base_of c)
