-- The reader's answer is the rule's: each step refuses as the rule does, and a record is written only where the rule reads a command that fits.
use mir.Syntax.{w32}
use mir.Val.{Fits}
use Prim.Native.Nat.{ℕ, ◌≤◌, ◌<◌, ◌^◌}
use mathlib.Core.Path.{◌≡◌, refl, sym, ap, ◌∙◌, subst}
use mathlib.Core.Bool.{true}
use mathlib.Core.List.{List}
use native.Mathlib.Omega.{arith}
use borrow.Author.Tests.{le-leb, lt-leb}
use lib.ListN.{length, take}
use Rattle.std.proofs.Common.{Result, Ok, Err}
use Rattle.rules.specs.declared.Refusal.{Refusal}
use Rattle.rules.specs.declared.Reason.{Reason}
use Rattle.rules.specs.Reasons.{number, refusal}
use Rattle.rules.proofs.ReasonBack.{reason_back}
use Rattle.rules.specs.Answers.{Answer, reading, reading_row, Reads, ReadsRow}
use Rattle.rules.specs.Commands.{Command, cut_at}
use Rattle.rules.specs.Indexes.{offsets}
use Rattle.rules.specs.Orders.{count}
use Rattle.rules.specs.Reading.{read_cut, read_letters, read}
use Rattle.rules.specs.Records.{encode}
use Rattle.rules.specs.Refusals.{Res, ok, bad, most_places}
use Rattle.rules.specs.WellFormed.{well_formed}
use Rattle.rules.specs.Tokens.{semi, scan, idle, run, first_off}
use Rattle.rules.proofs.ReadSound.{cut_ok, cut_wf, read_wf}
use Rattle.rules.proofs.RecordBound.{record_bound}
use Rattle.rules.proofs.RefusalPlaces.{Comes, Whatever, Before, bind_comes, comes_bad, off_comes, run_comes}
use Rattle.rules.proofs.ResultLaws.{by_res}
use Rattle.rules.proofs.RowPoints.{offsets_most}
use Rattle.rules.proofs.ScanSound.{scan_ok}
use Rattle.token_table.specs.declared.Token.{Token as Entry}
use Rattle.token_table.specs.Table.{tokens_in, Verdict, verdict}
use Rattle.read_bases.specs.Bases.{bases_in}
use Rattle.read_bases.proofs.BaseLaws.{letters_are}
use Rattle.token_table.specs.Parts.{capped}
use Rattle.token_table.proofs.WordLaws.{cap_small}
use Rattle.token_table.proofs.AltLaws.{verdict_ok, verdict_bad}
use Rattle.read_command.specs.Blocks.{command_read}
use Rattle.read_command.specs.declared.Checked.{Checked}
use Rattle.command_fields.specs.Recorder.{CommandFits, PutCommand}
use Rattle.scan.specs.declared.Filled.{Filled}
use Rattle.scan.specs.Along.{RefusedBy}
use Rattle.scan.specs.Filled.{Holds, IsFilled}
use Rattle.index.specs.Rows.{Indexable, Fills, Recorded}
use Rattle.index.proofs.CallLaws.{no_room_lem, no_slots_lem, both_fit, without_row, row_refused as refused-row, row_cut as cut-row, row_fits as fits-row, row_done as done-row}
use Rattle.reader.specs.Reader.{TokensOf, command_of, Records, RecordsText, ReadsFor}

-- ---- results

refused : (slots : ℕ) (old : List ℕ) (r : Res Command) (n p : ℕ) {z : Refusal} → r ≡ bad n p → z ≡ refusal n p → Recorded r slots old (Err z) old
refused slots old r n p e q = rw (e, q) (record { answers = refl; holds = refl })

-- ---- from tokens

module _ (ts : List Entry) (cs ls : List ℕ) (n slots : ℕ) (old : List ℕ) where
  pub tokens_refused : (z : Refusal) {x : Result Checked Refusal} → x ≡ command_read (read_cut (bases_in ls) n (cut_at semi (tokens_in cs ts))) → x ≡ Err z
      → Records ts cs ls n slots old (Err z) old
  tokens_refused z q h =
      let r = read_cut (bases_in ls) n (cut_at semi (tokens_in cs ts)) in
      by_res r
      (λ c y. let u : Err z ≡ command_read (ok c) = sym h ∙ q ∙ ap command_read y in absurd cc)
      (λ k o y. let u : Err z ≡ Err (refusal k o) = sym h ∙ q ∙ ap command_read y in
      let i : z ≡ refusal k o = cc in refused slots old r k o y i)

  -- a command that is right, the bytes of its record, the number of its orders and that of its places
  record IsRight (z o s : ℕ) : Type 0 where
    c : Command
    is : read_cut (bases_in ls) n (cut_at semi (tokens_in cs ts)) ≡ ok c
    size : z ≡ length (encode c)
    counted : o ≡ count c
    places : s ≡ length (offsets c)
    few : s ≤ 32

  module _ (v : Checked) {x : Result Checked Refusal} (w : TokensOf ts cs) (q : x ≡ command_read (read_cut (bases_in ls) n (cut_at semi (tokens_in cs ts)))) (h : x ≡ Ok v) where
    right : IsRight v.bytes v.orders v.places
    right =
        let t = tokens_in cs ts in
        by_res (read_cut (bases_in ls) n (cut_at semi t))
        (λ c y.
        let u : Ok v ≡ command_read (ok c) = sym h ∙ q ∙ ap command_read y in
        let i : v ≡ record { bytes = capped (length (encode c)); orders = count c; places = length (offsets c) } = cc in
        let well : well_formed c ≡ true = cut_wf (bases_in ls) n (cut_at semi t) c (cut_ok semi t (scan_ok w.text t w.is)) y in
        let k = record_bound c well in
        record {
          c = c;
          is = y;
          size = ap (λ (s : Checked). s.bytes) i ∙ cap_small (length (encode c)) (omega arith);
          counted = ap (λ (s : Checked). s.orders) i;
          places = ap (λ (s : Checked). s.places) i;
          few = omega (arith, offsets_most c well, ap (λ (s : Checked). s.places) i);
        })
        (λ k p y. let u : Ok v ≡ Err (refusal k p) = sym h ∙ q ∙ ap command_read y in absurd cc)

    -- 17
    pub tokens_short : {z : Refusal} → length old < v.bytes → z ≡ refusal 17 v.bytes → Records ts cs ls n slots old (Err z) old
    tokens_short s g = rw (g, right.is) (no_room_lem right.c slots old right.size s)

    pub tokens_slots : Fits w32 v.places
    tokens_slots = omega (arith, right.few)

    module _ (s : v.bytes ≤ length old) where
      room : length (encode right.c) ≤ length old
      room = omega (arith, right.size)

      -- 17 of the row
      pub tokens_few : {z : Refusal} → slots < v.places → z ≡ refusal 17 v.places → Records ts cs ls n slots old (Err z) old
      tokens_few k g = rw (g, right.is) (no_slots_lem right.c slots old room right.places k)

      pub tokens_fit : CommandFits ts cs ls v.orders (length old)
      tokens_fit = record { end = n; c = right.c; is = right.is; counted = right.counted; fits = room }

      pub tokens_done : {r : ℕ} {new : List ℕ} → v.places ≤ slots → PutCommand ts cs ls r old new → Records ts cs ls n slots old (Ok r) new
      tokens_done k p =
          let u = p n right.c right.is in
          rw right.is (both_fit right.c slots old room (omega (arith, right.places)) u.0 u.1)

    pub tokens_answer : {r : ℕ} {new : List ℕ} → PutCommand ts cs ls r old new → v.bytes < 2 ^ 32 → Fits w32 r
    tokens_answer p g = omega (arith, (p n right.c right.is).0, right.size)

-- ---- from the text

pub text_long : (s ls : List ℕ) (slots : ℕ) (old : List ℕ) {z : Refusal} → 1024 < length s → z ≡ refusal 2 1024 → RecordsText s ls slots old (Err z) old
unfolding scan
text_long s ls slots old h q = refused slots old (command_of ls (length s) (scan s)) 2 1024 (rw (lt-leb (length s) 1024 h, scan)) q

-- what the filler said
module _ (s : List ℕ) (ts : List Entry) (cs : List ℕ) {x : Result Filled Refusal} (f : IsFilled (scan s) ts cs x) where
  pub text_refused : (z : Refusal) → x ≡ Err z → (ls : List ℕ) (slots : ℕ) (old : List ℕ) → RecordsText s ls slots old (Err z) old
  text_refused z e ls slots old =
      let g : RefusedBy (scan s) z = subst (IsFilled (scan s) ts cs) e f in
      refused slots old (command_of ls (length s) (scan s)) (number z.reason) z.place (rw g)
      (ap (λ (r : Reason). record { reason = r; place = z.place }) (sym (reason_back z.reason)))

  module _ (v : Filled) (e : x ≡ Ok v) where
    its_tokens : Holds (scan s) ts cs v.tokens v.bytes
    its_tokens = subst (IsFilled (scan s) ts cs) e f

    pub filled_table : v.tokens ≤ length ts
    filled_table = its_tokens.table

    pub filled_tokens : TokensOf (take v.tokens ts) cs
    filled_tokens = record { text = s; is = its_tokens.is }

    pub text_filled : (ls : List ℕ) (slots : ℕ) (old : List ℕ) {r : Answer} {new : List ℕ} → Records (take v.tokens ts) cs ls (length s) slots old r new
        → RecordsText s ls slots old r new
    text_filled ls slots old p = rw its_tokens.is p

-- ---- the whole

pub read_refused : (s ls : List ℕ) (slots : ℕ) (old : List ℕ) (z : Refusal) {v : Verdict} → v ≡ verdict (read_letters 0 ls) → v ≡ Err z → ReadsFor s ls slots old (Err z) old
unfolding read
read_refused s ls slots old z q h = verdict_bad (read_letters 0 ls) z (sym q ∙ h) (λ n p a e. refused slots old (read ls s) n p (rw a) e)

pub read_text : (s ls : List ℕ) (slots : ℕ) (old : List ℕ) {v : Verdict} {r : Answer} {new : List ℕ} → v ≡ verdict (read_letters 0 ls) → v ≡ Ok tt → RecordsText s ls slots old r new
    → ReadsFor s ls slots old r new
unfolding read
read_text s ls slots old {v} {r} {new} q h p =
    verdict_ok (read_letters 0 ls) (sym q ∙ h)
    (λ bs a.
    let e : read ls s ≡ command_of ls (length s) (scan s) = rw (a, letters_are 0 ls bs a) in
    subst (λ (x : Res Command). Recorded x slots old r new) (sym e) p)

pub read_plain : (s ls old : List ℕ) {r : Answer} {new : List ℕ} → ReadsFor s ls most_places old r new → Reads s ls old r new
unfolding reading
read_plain s ls old p = without_row (read ls s) old (read_wf ls s) p

-- ---- with a row

module _ (s ls old row : List ℕ) {r : Answer} {new : List ℕ} (q : ReadsFor s ls (length row) old r new) where
  pub row_refused : {z : Refusal} → r ≡ Err z → ReadsRow s ls old row (Err z) new row
  unfolding reading_row
  row_refused e = refused-row (read ls s) old row q e

  module _ {n : ℕ} (e : r ≡ Ok n) where
    pub row_cut : n ≤ length new
    row_cut = cut-row (read ls s) old row q e

    pub row_fits : Indexable (take n new) (length row)
    row_fits = fits-row (read ls s) old row q e (read_wf ls s)

    pub row_done : {filled : List ℕ} → Fills (take n new) row filled → ReadsRow s ls old row (Ok n) new filled
    unfolding reading_row
    row_done f = done-row (read ls s) old row q e (read_wf ls s) f
