-- The class of a byte, by what it begins, the numbers of the classes, and the classes of the bytes 0 to 127 as a table.
use Rattle.std.specs.Prelude.{ℕ, cond, List, [], ◌∷◌, eqb}
use Rattle.rules.specs.Characters.{byte, is_word_char, is_effector, is_permitted}
use Rattle.rules.specs.Tokens.{dash, comma, colon, equals, semi, sep_code}
use Rattle.chars.specs.declared.Class.{Class}
use Rattle.chars.specs.declared.Class.TheVariants.{NotPermitted, Word, Plus, Ampersand, Effector, Dash, Comma, Colon, Equals, Semicolon, Slash, Mark, Other}

-- a byte that is not permitted
abbrev pub no_class : ℕ
no_class = 0

-- a character of words other than `+`
abbrev pub word_class : ℕ
word_class = 1

abbrev pub plus_class : ℕ
plus_class = 2

abbrev pub amp_class : ℕ
amp_class = 3

abbrev pub effector_class : ℕ
effector_class = 4

abbrev pub slash_class : ℕ
slash_class = 10

-- a quotation mark
abbrev pub mark_class : ℕ
mark_class = 11

-- a byte that stands only in strings and comments
abbrev pub other_class : ℕ
other_class = 12

-- a separator of one byte has its number among the separators, 5 to 9
unfoldable pub class_of : ℕ → ℕ
class_of c =
    cond (is_word_char c) word_class
    (cond (eqb c (byte "+")) plus_class
    (cond (eqb c (byte "&")) amp_class
    (cond (eqb c (byte "-")) (sep_code dash)
    (cond (eqb c (byte ",")) (sep_code comma)
    (cond (eqb c (byte ":")) (sep_code colon)
    (cond (eqb c (byte "=")) (sep_code equals)
    (cond (eqb c (byte ";")) (sep_code semi)
    (cond (eqb c (byte "/")) slash_class
    (cond (eqb c (byte "\"")) mark_class (cond (is_effector c) effector_class (cond (is_permitted c) other_class no_class)))))))))))

-- the number of a class as the code has it
abbrev pub number : Class → ℕ
number NotPermitted = no_class
number Word = word_class
number Plus = plus_class
number Ampersand = amp_class
number Effector = effector_class
number Dash = sep_code dash
number Comma = sep_code comma
number Colon = sep_code colon
number Equals = sep_code equals
number Semicolon = sep_code semi
number Slash = slash_class
number Mark = mark_class
number Other = other_class

-- "The classes of bytes 0 to 127 are one constant table."
unfoldable pub table : List Class
table =
    NotPermitted ∷ NotPermitted ∷ NotPermitted ∷ NotPermitted ∷ NotPermitted ∷ NotPermitted ∷ NotPermitted ∷ NotPermitted ∷
    NotPermitted ∷ Effector ∷ Effector ∷ Effector ∷ Effector ∷ Effector ∷ NotPermitted ∷ NotPermitted ∷
    NotPermitted ∷ NotPermitted ∷ NotPermitted ∷ NotPermitted ∷ NotPermitted ∷ NotPermitted ∷ NotPermitted ∷ NotPermitted ∷
    NotPermitted ∷ NotPermitted ∷ NotPermitted ∷ NotPermitted ∷ NotPermitted ∷ NotPermitted ∷ NotPermitted ∷ NotPermitted ∷
    Effector ∷ Other ∷ Mark ∷ Word ∷ Other ∷ Word ∷ Ampersand ∷ Word ∷
    Other ∷ Other ∷ Word ∷ Plus ∷ Comma ∷ Dash ∷ Word ∷ Slash ∷
    Word ∷ Word ∷ Word ∷ Word ∷ Word ∷ Word ∷ Word ∷ Word ∷
    Word ∷ Word ∷ Colon ∷ Semicolon ∷ Other ∷ Equals ∷ Other ∷ Other ∷
    Other ∷ Word ∷ Word ∷ Word ∷ Word ∷ Word ∷ Word ∷ Word ∷
    Word ∷ Word ∷ Word ∷ Word ∷ Word ∷ Word ∷ Word ∷ Word ∷
    Word ∷ Word ∷ Word ∷ Word ∷ Word ∷ Word ∷ Word ∷ Word ∷
    Word ∷ Word ∷ Word ∷ Other ∷ Other ∷ Other ∷ Other ∷ Other ∷
    Other ∷ Word ∷ Word ∷ Word ∷ Word ∷ Word ∷ Word ∷ Word ∷
    Word ∷ Word ∷ Word ∷ Word ∷ Word ∷ Word ∷ Word ∷ Word ∷
    Word ∷ Word ∷ Word ∷ Word ∷ Word ∷ Word ∷ Word ∷ Word ∷
    Word ∷ Word ∷ Word ∷ Other ∷ Other ∷ Other ∷ Other ∷ NotPermitted ∷ []
