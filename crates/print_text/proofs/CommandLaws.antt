-- The places that are done and those that are left make the text of the record, block by block.
use Prim.Native.Nat.{◌+◌, ◌-◌, ◌<◌, ◌≤◌, ℕ}
use lib.ListN.{drop, length, length-drop, take}
use lib.Seq.{sets-eq, take_at}
use mathlib.Core.Bool.{Bool, false, false≢true, true}
use mathlib.Core.List.{List, [], ◌++◌, ◌∷◌, append_assoc, map}
use mathlib.Core.Option.{Option, none, some}
use mathlib.Core.Path.{◌∙◌, ◌≡◌, ap, refl, subst, sym}
use native.Mathlib.Nat.{zero-add}
use native.Mathlib.Omega.{arith}
use Rattle.laws.specs.Cases.{and_l, and_r}
use Rattle.laws.specs.Lists.{all}
use Rattle.laws.specs.Over.{over}
use Rattle.rules.proofs.CommandBack.{c_blocks, c_code}
use Rattle.rules.proofs.EncodeDecode.{body_is}
use Rattle.rules.proofs.FieldLaws.{bytes_append, bytes_cons}
use Rattle.rules.proofs.Names.{block_places}
use Rattle.rules.proofs.RecordBound.{body_size}
use Rattle.rules.proofs.TextBound.{text_bound}
use Rattle.rules.specs.Characters.{byte}
use Rattle.rules.specs.Commands.{Block, Command, Place, block, command, place}
use Rattle.rules.specs.Printing.{block_lex, joined_lex, more_lex, place_lex, print, render, word_lex}
use Rattle.rules.specs.Records.{Field, block_fields, bytes_of, code_tag, many, name_tag, place_fields}
use Rattle.rules.specs.Refusals.{Res, bad, more_of_code, ok}
use Rattle.rules.specs.Tokens.{Lex, colon, comma, dash, semi, sep}
use Rattle.rules.specs.Units.{is_identifier}
use Rattle.rules.specs.WellFormed.{is_ok, body_of, well_formed_body, wf_block, wf_place}
use Rattle.print_unit.proofs.ChainLaws.{both_put, fits_first, fits_next}
use Rattle.print_unit.specs.Ways.{Way, Fits, Puts, measured, written}
use Rattle.print_value.proofs.ElementLaws.{render_append}
use Rattle.print_value.specs.declared.Put.{Put}
use Rattle.record_walk.proofs.RunLaws.{drop_behind, stands_inside}
use Rattle.record_walk.specs.Fronts.{tag_of}
use Rattle.print_text.proofs.PieceLaws.{piece_bytes}
use Rattle.print_text.proofs.PlaceLaws.{pieces_short}
use Rattle.print_text.specs.Places.{IsPieces, IsPlace, PiecesFit, PlaceFits, PutPieces, PutPlace, opening, piece_fields, pieces_text, place_text}
use Rattle.print_text.specs.Texts.{text_of}

-- the parts of a conjunction
ruleset parts = (and_l, and_r)

-- ---- what is left of a command

-- the text of the places behind the first of a block, and of the blocks with the `;`
abbrev pub places_text : List Place → List ℕ
places_text ps = render (more_lex comma (map place_lex ps))

abbrev pub blocks_text : List Block → List ℕ
blocks_text bs = render (more_lex colon (map block_lex bs) ++ (sep semi ∷ []))

abbrev pub places_bytes : List Place → List ℕ
places_bytes ps = bytes_of (many place_fields ps)

abbrev pub blocks_bytes : List Block → List ℕ
blocks_bytes bs = bytes_of (many block_fields bs)

places_step : (p : Place) (ps : List Place) (bs : List Block) → places_text (p ∷ ps) ++ blocks_text bs ≡ place_text none p ++ (places_text ps ++ blocks_text bs)
unfolding place_text
places_step p ps bs =
    ap (λ (x : List ℕ). byte "," ∷ (x ++ blocks_text bs)) (render_append (place_lex p) (more_lex comma (map place_lex ps)))
    ∙ append_assoc (byte "," ∷ render (place_lex p)) (places_text ps) (blocks_text bs)

blocks_step : (k : Bool) (p : Place) (ps : List Place) (bs : List Block) → blocks_text (block k (p ∷ ps) ∷ bs) ≡ place_text (some k) p ++ (places_text ps ++ blocks_text bs)
unfolding place_text
blocks_step k p ps bs =
    let B : List Lex = place_lex p ++ more_lex comma (map place_lex ps) in
    ap (λ (x : List ℕ). byte ":" ∷ x)
    (ap render (append_assoc B (more_lex colon (map block_lex bs)) (sep semi ∷ []))
    ∙ render_append B (more_lex colon (map block_lex bs) ++ (sep semi ∷ []))
    ∙ rw (render_append (place_lex p) (more_lex comma (map place_lex ps)), append_assoc (render (place_lex p)) (places_text ps) (blocks_text bs)))

-- from `at` on stand the places ps of a block and the blocks bs; what is done has the text `done`
pub record Placing (rec : List ℕ) (at : ℕ) (done : List ℕ) : Type 0 where
  pub named : Bool
  pub ps : List Place
  pub bs : List Block
  pub total : text_of rec ≡ done ++ (places_text ps ++ blocks_text bs)
  pub is : drop at rec ≡ places_bytes ps ++ blocks_bytes bs
  pub places : all (wf_place named) ps ≡ true
  pub blocks : all wf_block bs ≡ true
  pub inside : at ≤ length rec

low_block : (bs : List Block) → (tag_of (blocks_bytes bs) < name_tag) × (tag_of (blocks_bytes bs) ≡ code_tag → ⊥)
low_block [] = (omega arith, λ e. omega arith)
low_block (block k ps ∷ bs) = (omega arith, λ e. omega arith)

low_place : (ps : List Place) (bs : List Block) → tag_of (places_bytes ps ++ blocks_bytes bs) < name_tag
low_place [] bs = (low_block bs).0
low_place (place b nm v ∷ ps) bs = omega arith

-- ---- the next place

record NextPlace (rec : List ℕ) (at : ℕ) (done : List ℕ) : Type 0 where
  o : Option Bool
  named : Bool
  p : Place
  rest : List ℕ
  has : IsPlace rec at o named p rest
  more : Placing rec (at + length (bytes_of (opening o ++ place_fields p))) (done ++ place_text o p)

some_bytes : (o : Option Bool) (p : Place) → 1 ≤ length (bytes_of (opening o ++ place_fields p))
some_bytes none (place b nm v) = omega arith
some_bytes (some k) (place b nm v) = omega arith

go_on : {rec : List ℕ} {at : ℕ} {done : List ℕ} (o : Option Bool) (named : Bool) (p : Place) (ps : List Place) (bs : List Block)
    → text_of rec ≡ done ++ (place_text o p ++ (places_text ps ++ blocks_text bs)) → drop at rec ≡ bytes_of (opening o ++ place_fields p) ++ (places_bytes ps ++ blocks_bytes bs)
    → all (wf_place named) (p ∷ ps) ≡ true → all wf_block bs ≡ true → at ≤ length rec → NextPlace rec at done
go_on {rec} {at} {done} o named p ps bs t e g h k =
    let F : List ℕ = bytes_of (opening o ++ place_fields p) in
    let R : List ℕ = places_bytes ps ++ blocks_bytes bs in
    let T : List ℕ = place_text o p in
    let M : List ℕ = places_text ps ++ blocks_text bs in
    record {
      o = o;
      named = named;
      p = p;
      rest = R;
      has = record { is = e; good = search parts; ends = low_place ps bs; inside = k };
      more = record {
        named = named;
        ps = ps;
        bs = bs;
        total = t ∙ sym (append_assoc done T M);
        is = drop_behind rec at F R e;
        places = search parts;
        blocks = h;
        inside = stands_inside rec at F R e k;
      };
    }

next_place : {rec : List ℕ} {at : ℕ} {done : List ℕ} (named : Bool) (ps : List Place) (bs : List Block)
    → text_of rec ≡ done ++ (places_text ps ++ blocks_text bs) → drop at rec ≡ places_bytes ps ++ blocks_bytes bs
    → all (wf_place named) ps ≡ true → all wf_block bs ≡ true → at < length rec → NextPlace rec at done
next_place {rec} {at} named [] [] t e g h k = absurd (omega (arith, length-drop at rec, ap length e))
next_place named [] (block kd [] ∷ bs) t e g h k = absurd (false≢true h)
next_place {rec} {at} {done} named [] (block kd (p ∷ ps) ∷ bs) t e g h k =
    let H : List Field = opening (some kd) in
    let z : blocks_bytes (block kd (p ∷ ps) ∷ bs) ≡ bytes_of (H ++ place_fields p) ++ (places_bytes ps ++ blocks_bytes bs) =
    bytes_append (H ++ many place_fields (p ∷ ps)) (many block_fields bs)
    ∙ ap (λ (x : List ℕ). (bytes_of H ++ x) ++ blocks_bytes bs) (bytes_append (place_fields p) (many place_fields ps))
    ∙ ap (λ (x : List ℕ). bytes_of H ++ x) (append_assoc (bytes_of (place_fields p)) (places_bytes ps) (blocks_bytes bs)) in
    go_on (some kd) kd p ps bs (t ∙ ap (λ (x : List ℕ). done ++ x) (blocks_step kd p ps bs)) (e ∙ z)
    (block_places kd (p ∷ ps) (search parts)) (search parts) (omega arith)
next_place {rec} {at} {done} named (p ∷ ps) bs t e g h k =
    go_on none named p ps bs (t ∙ ap (λ (x : List ℕ). done ++ x) (places_step p ps bs)) (e ∙ bytes_cons place_fields p ps (blocks_bytes bs)) g h (omega arith)

module _ {rec : List ℕ} {at : ℕ} {done : List ℕ} (g : Placing rec at done) where
  end_of : (ps : List Place) (bs : List Block) → drop at rec ≡ places_bytes ps ++ blocks_bytes bs → length rec ≤ at → places_text ps ++ blocks_text bs ≡ byte ";" ∷ []
  end_of [] [] e k = refl
  end_of [] (block kd ps ∷ bs) e k = absurd (omega (arith, length-drop at rec, ap length e))
  end_of (place b nm v ∷ ps) bs e k = absurd (omega (arith, length-drop at rec, ap length e))

  all_done : length rec ≤ at → text_of rec ≡ done ++ (byte ";" ∷ [])
  all_done k = g.total ∙ ap (λ (x : List ℕ). done ++ x) (end_of g.ps g.bs g.is k)

-- ---- the code

record Start (rec : List ℕ) : Type 0 where
  w : List ℕ
  ws : List (List ℕ)
  rest : List ℕ
  has : IsPieces rec 0 code_tag w ws rest
  few : length (text_of rec) ≤ 458752
  placing : Placing rec (0 + length (piece_bytes code_tag (w ∷ ws))) (pieces_text w ws)

start_of : (rec : List ℕ) (r : Res Command) → body_of rec ≡ r → is_ok r ≡ true → Start rec
unfolding text_of pieces_text
start_of rec (bad n p) r h = absurd (false≢true h)
start_of rec (ok (command [] bs)) r h = absurd (false≢true (body_is rec (command [] bs) r).well)
start_of rec (ok (command (w ∷ ws) bs)) r h =
    let c : Command = command (w ∷ ws) bs in
    let i = body_is rec c r in
    let text : text_of rec ≡ print c = rw (r, text_of) in
    let P : List ℕ = piece_bytes code_tag (w ∷ ws) in
    let d : rec ≡ P ++ blocks_bytes bs = sym i.bytes ∙ bytes_append (piece_fields code_tag (w ∷ ws)) (many block_fields bs) in
    let J : List Lex = joined_lex dash (map word_lex (w ∷ ws)) in
    let B : List Lex = more_lex colon (map block_lex bs) in
    let t : text_of rec ≡ render J ++ blocks_text bs =
    text ∙ ap render (append_assoc J B (sep semi ∷ [])) ∙ render_append J (B ++ (sep semi ∷ [])) in
    record {
      w = w;
      ws = ws;
      rest = blocks_bytes bs;
      has = record {
        is = d;
        good = pieces_short is_identifier more_of_code (w ∷ ws) (c_code (w ∷ ws) bs i.well);
        ends = (low_block bs).1;
        inside = omega arith;
      };
      few = omega (arith, ap length text, text_bound c i.well, body_size c i.well);
      placing = record {
        named = false;
        ps = [];
        bs = bs;
        total = t;
        is = drop_behind rec 0 P (blocks_bytes bs) d;
        places = refl;
        blocks = c_blocks (w ∷ ws) bs i.well;
        inside = stands_inside rec 0 P (blocks_bytes bs) d (omega arith);
      };
    }

start_at : (rec : List ℕ) → well_formed_body rec ≡ true → Start rec
start_at rec h = start_of rec (body_of rec) refl h

-- ---- the loop

-- the code is put at `mid`, k characters; put so far is `done`
pub record Counting (way : Way) (rec mid : List ℕ) (k : ℕ) (out : List ℕ) (d : Put) : Type 0 where
  done : List ℕ
  placing : Placing rec d.next done
  put : (old : List ℕ) → Puts way (take k (text_of rec)) 0 old k mid → Puts way done 0 old d.end out

module _ {way : Way} {rec old mid out : List ℕ} {k : ℕ} {d : Put} (f : Fits way (text_of rec) 0 old) (c : Puts way (take k (text_of rec)) 0 old k mid)
    (m : Counting way rec mid k out d) where
  module _ (h : length rec ≤ d.next) where
    pub last_fits : Fits way (byte ";" ∷ []) d.end out
    last_fits = fits_next m.done (byte ";" ∷ []) (rw (all_done m.placing h) at f) (m.put old c)

    pub all_put : {r : ℕ} {new : List ℕ} → Puts way (byte ";" ∷ []) d.end out r new → Puts way (text_of rec) 0 old r new
    all_put x = rw (all_done m.placing h) (both_put m.done (byte ";" ∷ []) (m.put old c) x)

  module _ (h : d.next < length rec) where
    pub place_fits : PlaceFits way rec d out
    place_fits =
        let g = m.placing in
        let x = next_place g.named g.ps g.bs g.total g.is g.places g.blocks h in
        let T : List ℕ = place_text x.o x.p in
        let R : List ℕ = places_text x.more.ps ++ blocks_text x.more.bs in
        record { o = x.o; named = x.named; p = x.p; rest = x.rest; has = x.has; fits = fits_next m.done T (fits_first (m.done ++ T) R (rw x.more.total at f)) (m.put old c) }

module _ {way : Way} {rec mid out new : List ℕ} {k : ℕ} {d r : Put} (m : Counting way rec mid k out d) (h : d.next < length rec) (l : PutPlace way rec d out r new) where
  next : NextPlace rec d.next m.done
  next = let g = m.placing in next_place g.named g.ps g.bs g.total g.is g.places g.blocks h

  pub place_on : length rec - r.next < length rec - d.next
  place_on = let x = next in omega (arith, (l x.o x.named x.p x.rest x.has).behind, some_bytes x.o x.p)

  pub counting_more : Counting way rec mid k new r
  counting_more =
      let x = next in
      let p = l x.o x.named x.p x.rest x.has in
      record { done = m.done ++ place_text x.o x.p; placing = subst (λ (n : ℕ). Placing rec n (m.done ++ place_text x.o x.p)) (sym p.behind) x.more; put = λ old c. both_put m.done (place_text x.o x.p) (m.put old c) p.put }

module _ {way : Way} {rec : List ℕ} (good : well_formed_body rec ≡ true) where
  pub code_fits : {old : List ℕ} → Fits way (text_of rec) 0 old → PiecesFit way rec (record { end = 0; next = 0 }) code_tag old
  code_fits f =
      let g = start_at rec good in
      let x = g.placing in
      record { w = g.w; ws = g.ws; rest = g.rest; has = g.has; fits = fits_first (pieces_text g.w g.ws) (places_text x.ps ++ blocks_text x.bs) (rw x.total at f) }

  module _ {old mid : List ℕ} {r : Put} (l : PutPieces way rec (record { end = 0; next = 0 }) code_tag old r mid) where
    code_is : take r.end (text_of rec) ≡ pieces_text (start_at rec good).w (start_at rec good).ws
    code_is =
        let g = start_at rec good in
        let x = g.placing in
        rw x.total (take_at (pieces_text g.w g.ws) (places_text x.ps ++ blocks_text x.bs) r.end (omega (arith, (l g.w g.ws g.rest g.has).put.end)))

    pub code_put : Puts way (take r.end (text_of rec)) 0 old r.end mid
    code_put = let g = start_at rec good in rw code_is (l g.w g.ws g.rest g.has).put

    pub counting_code : Counting way rec mid r.end mid r
    counting_code =
        let g = start_at rec good in
        record { done = pieces_text g.w g.ws; placing = subst (λ (n : ℕ). Placing rec n (pieces_text g.w g.ws)) (sym (l g.w g.ws g.rest g.has).behind) g.placing; put = λ old c. rw code_is at c }

-- ---- what the public calls promise

-- a text has 32 bits' room to be measured in
pub text_measured : (rec old : List ℕ) → well_formed_body rec ≡ true → Fits measured (text_of rec) 0 old
text_measured rec old good = record { room = omega (arith, (start_at rec good).few) }

pub text_written : (t old : List ℕ) {r : ℕ} {new : List ℕ} → length t ≤ length old → Puts written t 0 old r new → (r ≡ length t) × (new ≡ over t old)
text_written t old h x = (omega (arith, x.end), x.is ∙ sets-eq t old 0 (omega arith) ∙ rw (zero-add (length t)) refl)
