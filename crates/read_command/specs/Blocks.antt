-- What the code above a place answers: the rule's result, with a tally in place of the tree.
use Rattle.std.specs.Prelude.{ℕ, ◌+◌, ◌*◌, ◌≡◌, Bool, true, false, Option, Some, None, Result, Ok, Err, List, [], ◌∷◌, leb, length}
use Rattle.rules.specs.Commands.{Command, place_count, split}
use Rattle.rules.specs.Indexes.{offsets}
use Rattle.rules.specs.Orders.{count}
use Rattle.rules.specs.Reading.{Placed, placed, PlacedBlock, placed_block, kind_of}
use Rattle.rules.specs.Records.{encode}
use Rattle.rules.specs.Refusals.{Res, ok, bad, too_many_orders, most_orders}
use Rattle.rules.specs.Tokens.{comma}
use Rattle.token_table.specs.declared.Token.{Token as Entry}
use Rattle.token_table.specs.Table.{tokens_in}
use Rattle.token_table.specs.Parts.{capped}
use Rattle.read_place.specs.Places.{place_size}
use Rattle.rules.specs.declared.Refusal.{Refusal}
use Rattle.rules.specs.Reasons.{refusal}
use Rattle.read_command.specs.declared.Tally.{Tally}
use Rattle.read_command.specs.declared.Checked.{Checked}

-- ---- the tally

-- the product with one place more, m or n, by whether n fits, and where a product first did not fit
abbrev pub product_with : Option ℕ → Bool → ℕ → ℕ → ℕ
product_with (Some q) fits m n = m
product_with None true m n = n
product_with None false m n = m

abbrev pub over_with : Option ℕ → Bool → ℕ → Option ℕ
over_with (Some q) fits p = Some q
over_with None true p = None
over_with None false p = Some p

-- one place more: its number of arguments, its value's place, its bytes. A product that has passed the limit is not carried on
abbrev pub counted : Tally → ℕ → ℕ → ℕ → Tally
counted t a p z =
    let fits = leb (t.product * a) most_orders in
    record {
      places = t.places + 1;
      bytes = capped (t.bytes + z);
      product = product_with t.over fits t.product (t.product * a);
      over = over_with t.over fits p;
    }

-- a block's own field more
abbrev pub opened : Tally → Tally
opened t = record { places = t.places; bytes = capped (t.bytes + 4); product = t.product; over = t.over }

abbrev pub tally_places : Tally → List Placed → Tally
tally_places t [] = t
tally_places t (placed p x ∷ xs) = tally_places (counted t (place_count x) p (capped (place_size x))) xs

abbrev pub tally_blocks : Tally → List PlacedBlock → Tally
tally_blocks t [] = t
tally_blocks t (placed_block k xs ∷ bs) = tally_blocks (tally_places (opened t) xs) bs

-- ---- answers

abbrev pub places_read : Tally → Res (List Placed) → Result Tally Refusal
places_read t (ok xs) = Ok (tally_places t xs)
places_read t (bad n p) = Err (refusal n p)

abbrev pub block_read : Tally → Res PlacedBlock → Result Tally Refusal
block_read t (ok (placed_block k xs)) = Ok (tally_places (opened t) xs)
block_read t (bad n p) = Err (refusal n p)

abbrev pub blocks_read : Tally → Res (List PlacedBlock) → Result Tally Refusal
blocks_read t (ok bs) = Ok (tally_blocks t bs)
blocks_read t (bad n p) = Err (refusal n p)

-- 16 at the end
abbrev pub ended : Option ℕ → Checked → Result Checked Refusal
ended (Some p) x = Err (refusal too_many_orders p)
ended None x = Ok x

abbrev pub tally_read : Tally → Result Checked Refusal
tally_read t = ended t.over (record { bytes = t.bytes; orders = t.product; places = t.places })

abbrev pub command_read : Res Command → Result Checked Refusal
command_read (ok c) = Ok (record { bytes = capped (length (encode c)); orders = count c; places = length (offsets c) })
command_read (bad n p) = Err (refusal n p)

-- the block's kind, whatever the contents are
abbrev pub HasKind : List Entry → Bool → Type 0
HasKind ts r = (cs : List ℕ) (e : ℕ) → r ≡ kind_of (split comma e (tokens_in cs ts))
