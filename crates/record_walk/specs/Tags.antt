-- Document 01, "Tagged fields": the tags as the code has them, each with its number.
use Rattle.std.specs.Prelude.{List, [], ◌∷◌, ℕ, get_or, Option, Some, None}
use Rattle.rules.specs.Records.{code_tag, block_tag, place_tag, name_tag, single_tag, range_tag, numeral_tag, keyed_tag, identifier_tag, symbolic_tag, string_tag, count_tag}
use Rattle.rules.specs.Listing.{length_tag}
use Rattle.record_walk.specs.declared.Tag.{Tag}
use Rattle.record_walk.specs.declared.Tag.TheVariants.{Code, Block, Place, Name, Single, Range, Numeral, Keyed, Identifier, Symbolic, String, Count, OrderLength}

abbrev pub number : Tag → ℕ
number Code = code_tag
number Block = block_tag
number Place = place_tag
number Name = name_tag
number Single = single_tag
number Range = range_tag
number Numeral = numeral_tag
number Keyed = keyed_tag
number Identifier = identifier_tag
number Symbolic = symbolic_tag
number String = string_tag
number Count = count_tag
number OrderLength = length_tag

-- which tag a number is, from 0 on; above the last none
abbrev pub tags : List (Option Tag)
tags =
    None
    ∷ Some Code ∷ Some Block ∷ Some Place ∷ Some Name ∷ Some Single ∷ Some Range ∷ Some Numeral ∷ Some Keyed ∷ Some Identifier ∷ Some Symbolic ∷ Some String
    ∷ Some Count ∷ None ∷ Some OrderLength ∷ []

abbrev pub tag_named : ℕ → Option Tag
tag_named n = get_or tags n None
