-- What a row says of a well-formed record: its offsets written, compared, and the fields that stand at one of them; and what a call writes before it fills a row.
use Rattle.std.specs.Prelude.{◌≡◌, Bool, false, List, ℕ, ◌+◌, ◌≤◌, eqb, ltb, length, get_or}
use Rattle.laws.specs.Cases.{pick}
use Rattle.laws.specs.Over.{over}
use Rattle.rules.specs.Refusals.{Res, ok, map_r}
use Rattle.rules.specs.Commands.{Place, Command}
use Rattle.rules.specs.Records.{place_fields, bytes_of, encode}
use Rattle.rules.specs.WellFormed.{record_of}
use Rattle.rules.specs.Indexes.{offsets, agreeing}
use Rattle.rules.specs.Answers.{Answer, indexed, Promise}
use Rattle.rules.proofs.RowPoints.{StandsAt}

-- the bytes are a command's record
pub record WellFormed (rec : List ℕ) : Type 0 where
  pub tree : Command
  pub is : record_of rec ≡ ok tree

-- and a row of so many slots has one for each of its places
pub record Indexable (rec : List ℕ) (slots : ℕ) : Type 0 where
  pub tree : Command
  pub is : record_of rec ≡ ok tree
  pub room : length (offsets tree) ≤ slots

-- the offsets stand in the row's first slots; "slots beyond the places keep their numbers"
abbrev pub Fills : List ℕ → List ℕ → List ℕ → Type 0
Fills rec old new = (c : Command) → record_of rec ≡ ok c → new ≡ over (offsets c) old

-- the row has a slot i, and that is the offset
unfoldable pub is_right : List ℕ → ℕ → ℕ → Bool
is_right row i at = pick (ltb i (length row)) (eqb (get_or row i 0) at) false

-- how many slots from the first on are right
abbrev pub Agrees : List ℕ → List ℕ → ℕ → Type 0
Agrees rec row r = (c : Command) → record_of rec ≡ ok c → r ≡ agreeing (offsets c) row

-- the fields of some place stand there
pub record HasPlace (rec : List ℕ) (at : ℕ) : Type 0 where
  pub p : Place
  pub there : StandsAt p rec at

-- and end there
abbrev pub EndsAt : List ℕ → ℕ → ℕ → Type 0
EndsAt rec at r = (p : Place) → StandsAt p rec at → r ≡ at + length (bytes_of (place_fields p))

-- the record of what a call found, where it has room and so many slots are enough for its places
abbrev pub Recorded : Res Command → ℕ → List ℕ → Answer → List ℕ → Type 0
Recorded found slots old r new = Promise (map_r encode (indexed (length old) slots found)) old r new
