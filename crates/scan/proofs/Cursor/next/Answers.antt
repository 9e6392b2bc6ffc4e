-- `Cursor/next` meets its contract: the class of the first byte says what the automaton begins.
use borrow.Author.Rules.{rules}
use mathlib.Core.Path.{refl}
use Rattle.scan.proofs.TokenLaws.{starts_word, starts_dash, starts_comma, starts_colon, starts_equals, starts_semicolon, starts_string, starts_amp, starts_plus_lem, starts_none}
use Rattle.scan.proofs.Cursor.next.Goals as goal

pub returns-in-Word : goal.returns-in-Word
returns-in-Word c = search (rules, starts_word)

pub returns-in-Dash : goal.returns-in-Dash
returns-in-Dash c = search (rules, starts_dash)

pub returns-in-Comma : goal.returns-in-Comma
returns-in-Comma c = search (rules, starts_comma)

pub returns-in-Colon : goal.returns-in-Colon
returns-in-Colon c = search (rules, starts_colon)

pub returns-in-Equals : goal.returns-in-Equals
returns-in-Equals c = search (rules, starts_equals)

pub returns-in-Semicolon : goal.returns-in-Semicolon
returns-in-Semicolon c = search (rules, starts_semicolon)

pub string_token-requires : goal.string_token-requires
string_token-requires c = search (rules, starts_string)

pub amp_token-requires : goal.amp_token-requires
amp_token-requires c = search (rules, starts_amp)

pub returns-in-Ampersand : goal.returns-in-Ampersand
returns-in-Ampersand c = c.amp_token.ensures c.args.out.now

pub plus_token-requires : goal.plus_token-requires
plus_token-requires c = search (rules, starts_plus_lem)

pub returns-in_default : goal.returns-in_default
returns-in_default c =
    let n = c.in_default in
    starts_none c.requires.0 c.args.class refl n.not-Word n.not-Dash n.not-Comma n.not-Colon n.not-Equals n.not-Semicolon n.not-Mark n.not-Ampersand n.not-Plus
