-- Names on the token table: a name's key, the names of the places that tokens hold, and what is known of a block's names before a place.
use Rattle.std.specs.Prelude.{ℕ, ◌<◌, ◌≡◌, Bool, true, List, [], ◌∷◌, ◌++◌, length, take}
use Rattle.laws.specs.Lists.{any}
use Rattle.rules.specs.Commands.{Name, same_name}
use Rattle.rules.specs.Tokens.{comma, equals, sep_code}
use Rattle.token_table.specs.declared.Token.{Token as Entry}
use Rattle.token_table.specs.Table.{kind_in}
use Rattle.token_table.specs.Parts.{before, words_in}
use Rattle.marks.specs.Marks.{key_of, keys_marked}
use Rattle.marks.specs.declared.Marks.{Marks}

-- the key of a name's pieces, behind pieces whose key is s
unfoldable pub name_key : ℕ → Name → ℕ
name_key s [] = s
name_key s (w ∷ ws) = name_key (key_of s w) ws

-- the pieces of the name of a place with these tokens: what stands before its `=`
abbrev pub name_in : List ℕ → List Entry → Name
name_in cs ts = words_in true cs (take (before (sep_code equals) ts) ts)

-- the tokens of named places, each ended by a `,`, and the names of these places
pub data NamesOf (cs : List ℕ) : List Entry → List Name → Type 0 where
  none : NamesOf cs [] []
  more : (p : List Entry) (c : Entry) {ts : List Entry} {ns : List Name} → before (sep_code equals) p < length p → before (sep_code comma) p ≡ length p → kind_in c ≡ sep_code comma
      → NamesOf cs ts ns → NamesOf cs (p ++ (c ∷ ts)) (name_in cs p ∷ ns)

-- whether the name stands among those of the places
abbrev pub Stands : List ℕ → List Entry → Name → Bool → Type 0
Stands cs ts nm r = (ns : List Name) → NamesOf cs ts ns → r ≡ any (same_name nm) ns

-- the names ns stand in the block before a place, whatever their order: the tokens before it hold them, and they are marked
pub record Known (cs : List ℕ) (ts : List Entry) (m : Marks) (ns : List Name) : Type 0 where
  pub names : List Name
  pub are : NamesOf cs ts names
  pub same : (nm : Name) → any (same_name nm) ns ≡ any (same_name nm) names
  pub marks : keys_marked (name_key 0) m ns ≡ true

-- whether the name, whose key is k, is one of the known
abbrev pub IsTwice : List ℕ → List Entry → Marks → ℕ → Name → Bool → Type 0
IsTwice cs ts m k nm r = (ns : List Name) → Known cs ts m ns → k ≡ name_key 0 nm → r ≡ any (same_name nm) ns
