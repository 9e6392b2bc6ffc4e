-- What of the scan's state readiness needs: string and comment, in five spots. `proofs/SpotLaws` shows that they go with the scan's own states.
use Rattle.std.specs.Prelude.{ℕ, Bool, true, false, cond, ◌&&◌, List, [], ◌∷◌, eqb}
use Rattle.laws.specs.Lists.{is_nil}
use Rattle.rules.specs.Characters.{byte}
use Rattle.rules.specs.Tokens.{State, idle, in_word, in_plus, one_amp, two_amp, slash, comment, star, in_str, quote}
use Rattle.keeper.specs.declared.Spot.{Spot}
use Rattle.keeper.specs.declared.Spot.TheVariants.{Outside, Slashed, InComment, Starred, InString}

-- the spot of a state
abbrev pub spot_of : State → Spot
spot_of idle = Outside
spot_of (in_word p w) = Outside
spot_of (in_plus p w q) = Outside
spot_of (one_amp p) = Outside
spot_of (two_amp p) = Outside
spot_of (slash p) = Slashed
spot_of (comment p) = InComment
spot_of (star p) = Starred
spot_of (in_str p w) = InString
spot_of (quote p w) = Outside

-- behind a byte outside string and comment
abbrev pub opened : ℕ → Spot
opened c = cond (eqb c (byte "/")) Slashed (cond (eqb c (byte "\"")) InString Outside)

-- behind a byte
abbrev pub turned : Spot → ℕ → Spot
turned Outside c = opened c
turned Slashed c = cond (eqb c (byte "*")) InComment (opened c)
turned InComment c = cond (eqb c (byte "*")) Starred InComment
turned Starred c = cond (eqb c (byte "/")) Outside (cond (eqb c (byte "*")) Starred InComment)
turned InString c = cond (eqb c (byte "\"")) Outside InString

-- outside string and comment
abbrev pub is_outside : Spot → Bool
is_outside Outside = true
is_outside Slashed = true
is_outside InComment = false
is_outside Starred = false
is_outside InString = false

-- the byte c, at the spot s, is a `;` outside string and comment
abbrev pub ends_here : Spot → ℕ → Bool
ends_here s c = is_outside s && eqb c (byte ";")

-- `ready_from` of the rules, by spots
unfoldable pub ends_from : Spot → List ℕ → Bool
ends_from s [] = false
ends_from s (c ∷ cs) = elim (ends_here s c) [ true ↦ is_nil cs | false ↦ ends_from (turned s c) cs ]
