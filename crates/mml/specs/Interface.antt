-- The C interface: a result as one number, "number * 2^32 + value", and its promise, again two equations.
use Rattle.std.specs.Prelude.{ℕ, ◌+◌, ◌*◌, ◌^◌, ◌≡◌, List, length}
use Rattle.rules.specs.declared.Keeper.{Keeper}
use Rattle.rules.specs.Refusals.{Res, ok, bad, map_r}
use Rattle.rules.specs.Commands.{Command}
use Rattle.rules.specs.Records.{encode}
use Rattle.rules.specs.Indexes.{offsets}
use Rattle.rules.specs.Answers.{Answer, buffered, number_of, value_of}
use Rattle.rules.specs.Keeping.{ready, held, flag, pressing, after_key}
use Rattle.mml.specs.declared.Numbered.{Numbered}

-- number 0: the value is the bytes written (count: the number of orders; member: 0, or 1 and the position; place: the length of its fields; a key: 1 if the line is ready, else 0); else the
-- value is the place
abbrev pub packed : Answer → ℕ
packed a = number_of a * 2 ^ 32 + value_of a

-- the same of a result, by the number that it is refused with
abbrev pub returned : Res ℕ → ℕ
returned (ok v) = v
returned (bad n p) = n * 2 ^ 32 + p

pub record Packs (result : Res (List ℕ)) (old : List ℕ) (r : ℕ) (new : List ℕ) : Type 0 where
  pub answers : r ≡ returned (map_r length result)
  pub holds : new ≡ buffered result old

-- a call that fills a row: the number, every byte of the buffer and every slot of the row
pub record PacksRow (result : Res Command) (old row : List ℕ) (r : ℕ) (new filled : List ℕ) : Type 0 where
  pub answers : r ≡ returned (map_r (λ c. length (encode c)) result)
  pub holds : new ≡ buffered (map_r encode result) old
  pub fills : filled ≡ buffered (map_r offsets result) row

-- a call that writes nothing
abbrev pub PacksNumber : Res ℕ → ℕ → Type 0
PacksNumber result r = r ≡ returned result

-- what a key gives: whether the line is ready
abbrev pub pressed : Keeper → ℕ → Res ℕ
pressed k c = map_r (λ n. flag (ready (held n))) (pressing k c)

-- a key: the number, and every byte of the keeper
pub record PacksKey (old : Keeper) (key : ℕ) (r : ℕ) (new : Keeper) : Type 0 where
  pub answers : r ≡ returned (pressed old key)
  pub holds : new ≡ (after_key old key).keeper

-- the same by value
abbrev pub numbered : Keeper → ℕ → Numbered
numbered k c = record { keeper = (after_key k c).keeper; answer = returned (pressed k c) }
