-- The reader accepts exactly what the grammar derives: text to tokens and tokens to tree, each both ways.
use Prim.Native.Nat.{ℕ, ◌+◌, ◌≤◌}
use mathlib.Core.Path.{◌≡◌, refl, sym, ap, ◌∙◌, subst}
use mathlib.Core.List.{List, [], ◌∷◌, map}
use native.Mathlib.Omega.{arith}
use lib.ListN.{length, length-map}
use Rattle.rules.specs.Commands.{Command, cut_at}
use Rattle.rules.specs.Reading.{read_cut, read_letters, read}
use Rattle.rules.specs.Refusals.{ok, bad}
use Rattle.rules.specs.Tokens.{Token, at, semi, lex_of, pos_of}
use Rattle.rules.specs.Units.{letter}
use Rattle.rules.proofs.ReadSteps.{command_read_lem}
use Rattle.rules.proofs.ResultLaws.{ok_inj, ok≢bad}
use Rattle.rules.proofs.RoundTrip.{bases_back}
use Rattle.rules.proofs.ValueBack.{toks}
use Rattle.grammar.specs.Grammar.{Follows}
use Rattle.grammar.proofs.CommandExact.{derives_sound, derives_complete, bases_sound}
use Rattle.grammar.proofs.TextSound.{spells_sound}
use Rattle.grammar.proofs.TextComplete.{Scanned, spells_complete}

pub sound : (letters text : List ℕ) (c : Command) → read letters text ≡ ok c → Follows letters text c
sound ls cs c h =
    let r = command_read_lem ls cs c h in
    let b : (map letter r.bs ≡ ls) × (0 ≤ 32 → 0 + length ls ≤ 32) = bases_sound 0 ls r.bs r.bases in
    record {
      bases = r.bs;
      are = b.0;
      few = omega (arith, b.1 (omega arith));
      tokens = map lex_of r.ts;
      spelled = spells_sound cs r.ts r.tokens;
      derived = derives_sound r.bs (length cs) r.ts c r.cut;
    }

-- tokens are their lexemes at their places
toks_are : (ts : List Token) → toks (map pos_of ts) (map lex_of ts) ≡ ts
toks_are [] = refl
toks_are (at p x ∷ ts) = ap (λ l. at p x ∷ l) (toks_are ts)

pub complete : (letters text : List ℕ) (c : Command) → Follows letters text c → read letters text ≡ ok c
unfolding read
complete ls cs c f =
    let n : 0 + length f.bases ≤ 32 = omega (arith, f.few, ap length f.are, length-map f.bases letter) in
    let b : read_letters 0 ls ≡ ok f.bases = subst (λ z. read_letters 0 z ≡ ok f.bases) f.are (bases_back f.bases 0 n) in
    let s : Scanned cs f.tokens = spells_complete cs f.tokens f.spelled in
    let t : toks (map pos_of s.tokens) f.tokens ≡ s.tokens = ap (toks (map pos_of s.tokens)) (sym s.are) ∙ toks_are s.tokens in
    let d : read_cut f.bases (length cs) (cut_at semi s.tokens) ≡ ok c =
    subst (λ z. read_cut f.bases (length cs) (cut_at semi z) ≡ ok c) t (derives_complete f.bases (length cs) f.tokens c (map pos_of s.tokens) f.derived) in
    rw (b, s.got) d

-- so a text has one tree at most
pub unique : (letters text : List ℕ) (c d : Command) → Follows letters text c → Follows letters text d → c ≡ d
unique ls cs c d f g = ok_inj (sym (complete ls cs c f) ∙ complete ls cs d g)

pub exact : (letters text : List ℕ) (c : Command) → (read letters text ≡ ok c → Follows letters text c) × (Follows letters text c → read letters text ≡ ok c)
exact ls cs c = (sound ls cs c, complete ls cs c)

-- a text that is refused has none
pub refused : (letters text : List ℕ) (n p : ℕ) (c : Command) → read letters text ≡ bad n p → Follows letters text c → ⊥
refused ls cs n p c h f = ok≢bad (sym h ∙ complete ls cs c f)
