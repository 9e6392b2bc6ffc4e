-- The passes over a value as the code answers them, and what it is to be a value without fault.
use Rattle.std.specs.Prelude.{ℕ, ◌≡◌, cond, List, [], ◌∷◌, Result, Ok, Err, leb, eqb, get_or}
use Rattle.rules.specs.Groups.{read_value, elements, groups_of, collect}
use Rattle.rules.specs.Refusals.{ok, too_many_orders, most_arguments}
use Rattle.rules.specs.declared.Refusal.{Refusal}
use Rattle.rules.specs.Reasons.{refusal}
use Rattle.rules.specs.Commands.{Element}
use Rattle.rules.specs.Units.{Base, letter}
use Rattle.read_joins.specs.Joins.{joins_in, no_token}
use Rattle.units.specs.Words.{Answer, refused_with, unit_under}
use Rattle.token_table.specs.Table.{kind_in, place_in, content_in, tokens_in, word_kind, Verdict}
use Rattle.token_table.specs.declared.Token.{Token as Entry}
use Rattle.read_elements.specs.Walk.{value_answer}
use Rattle.read_elements.specs.declared.Value.{Value}

-- 12 and 13 for a word, for a token, and for all tokens of a value: where units and separators alternate the words are units
abbrev pub word_verdict : ℕ → Answer → Verdict
word_verdict p (Ok u) = Ok tt
word_verdict p (Err f) = Err (refused_with f p)

unfoldable pub unit_verdict : ℕ → List ℕ → Entry → Verdict
unit_verdict b cs t = cond (eqb (kind_in t) word_kind) (word_verdict (place_in t) (unit_under b (content_in cs t))) (Ok tt)

-- the first verdict that refuses
abbrev pub or_next : Verdict → Verdict → Verdict
or_next (Ok u) v = v
or_next (Err r) v = Err r

unfoldable pub units_verdict : ℕ → List ℕ → List Entry → Verdict
units_verdict b cs [] = Ok tt
units_verdict b cs (t ∷ ts) = or_next (unit_verdict b cs t) (units_verdict b cs ts)

abbrev pub on_verdict : Verdict → Result Value Refusal → Result Value Refusal
on_verdict (Ok u) v = v
on_verdict (Err r) v = Err r

-- 16, at the value's first token
abbrev pub limited : ℕ → Result Value Refusal → Result Value Refusal
limited p (Ok v) = cond (leb v.args most_arguments) (Ok v) (Err (refusal too_many_orders p))
limited p (Err r) = Err r

-- 12 to 16
unfoldable pub grouped_answer : ℕ → List ℕ → List Entry → Result Value Refusal
grouped_answer b cs ts = on_verdict (units_verdict b cs ts) (limited (place_in (get_or ts 0 no_token)) (value_answer (elements (groups_of (collect (joins_in b cs ts))))))

-- under the letter of a base the answer is the rule's
abbrev pub Reads : List Entry → List ℕ → ℕ → ℕ → Result Value Refusal → Type 0
Reads ts cs l e r = (b : Base) → l ≡ letter b → r ≡ value_answer (read_value b (tokens_in cs ts) e)

-- a value without fault: under the base of this letter the rules read it, whatever the place of the separator that ends it
pub record Faultless (ts : List Entry) (cs : List ℕ) (l : ℕ) : Type 0 where
  pub base : Base
  pub own : l ≡ letter base
  pub end : ℕ
  pub es : List Element
  pub is : read_value base (tokens_in cs ts) end ≡ ok es
