-- The printed text is never longer than the command that was read: each pass of the reader keeps a weight, and the printer writes no more than the last.
use Prim.Native.Nat.{ℕ, suc, ◌+◌, ◌-◌, ◌≤◌}
use mathlib.Core.Path.{◌≡◌, ap, ◌∙◌}
use mathlib.Core.Bool.{Bool}
use mathlib.Core.List.{List, [], ◌∷◌, ◌++◌, map}
use native.Mathlib.Omega.{arith}
use lib.ListN.{length, length-append}
use Rattle.rules.specs.Commands.{Name, place_name, Command, Seg, seg, split, Cut, cut, uncut, cut_at, is_piece}
use Rattle.rules.specs.Printing.{lex_text, render, value_lex, more_lex, joined_lex, word_lex, name_lex, place_lex, block_lex, command_lex, print}
use Rattle.rules.specs.Reading.{Placed, unplaced, read_places, kind_of, PlacedBlock, read_block, block_size, read_blocks, block_of, read_segs, read_cut, read}
use Rattle.rules.specs.Refusals.{ok}
use Rattle.rules.specs.Tokens.{Sep, dash, comma, colon, equals, semi, Lex, word, sep, Token, idle}
use Rattle.rules.specs.Units.{Base, is_identifier}
use Rattle.rules.proofs.ReadSteps.{Splits, last_seg, end_seg, in_seg, splits, Cuts, no_cut, cut_here, cut_later, cuts, scan_read, value_parts_lem, MoreRead, pieces_end, dashed, PiecesRead, pieced, pieces_read, KindRead, omitted, positional, named, place_read, places_read_lem, block_read, blocks_read_lem, segs_read, command_read_lem}
use Rattle.rules.proofs.ResultLaws.{ok_inj, ok≢bad}
use Rattle.rules.proofs.ScanLength.{text_len, run_length_lem}
use Rattle.rules.proofs.ValueLength.{sl_pos, value_len}

abbrev pub rl : List Lex → ℕ
rl xs = length (render xs)

pub rl_append : (xs ys : List Lex) → rl (xs ++ ys) ≡ rl xs + rl ys
rl_append [] ys = omega arith
rl_append (x ∷ xs) ys =
    length-append (lex_text x) (render (xs ++ ys)) ∙ ap (λ n. length (lex_text x) + n) (rl_append xs ys)
    ∙ omega (arith, length-append (lex_text x) (render xs))

pub rl_cons : (x : Lex) (xs : List Lex) → rl (x ∷ xs) ≡ length (lex_text x) + rl xs
rl_cons x xs = length-append (lex_text x) (render xs)

-- ---- cutting

abbrev pub sum_s : List Seg → ℕ
sum_s [] = 0
sum_s (seg ts e ∷ ss) = suc (text_len ts) + sum_s ss

abbrev pub w_cut : Cut → ℕ
w_cut (cut a p b) = text_len a + suc (text_len b)
w_cut uncut = 0

pub split_len : {s : Sep} {e : ℕ} {ts : List Token} {ss : List Seg} → Splits s e ts ss → sum_s ss ≤ suc (text_len ts)
split_len last_seg = omega arith
split_len {s} (end_seg r) = omega (arith, split_len r, sl_pos s)
split_len (in_seg r) = omega (arith, split_len r)

pub cut_len : {s : Sep} {ts : List Token} {c : Cut} → Cuts s ts c → w_cut c ≤ text_len ts
cut_len no_cut = omega arith
cut_len {s} cut_here = omega (arith, sl_pos s)
cut_len (cut_later r) = omega (arith, cut_len r)

-- ---- pieces

more_len : {g : List ℕ → Bool} {left : ℕ} {ts : List Token} {ws : List (List ℕ)} → MoreRead g left ts ws → rl (more_lex dash (map word_lex ws)) ≤ text_len ts
more_len pieces_end = omega arith
more_len (dashed {w = w} {ws = ws} h m) = omega (arith, rl_cons (word w) (more_lex dash (map word_lex ws)), more_len m)

pieces_len : {f g : List ℕ → Bool} {left : ℕ} {ts : List Token} {ws : List (List ℕ)} → PiecesRead f g left ts ws
    → (rl (joined_lex dash (map word_lex ws)) ≤ text_len ts) × (rl (name_lex ws) ≤ suc (text_len ts))
pieces_len (pieced {w = w} {ws = ws} h m) =
    let more : List Lex = more_lex dash (map word_lex ws) in
    let c : rl (word w ∷ more) ≡ length w + rl more = rl_cons (word w) more in
    (omega (arith, more_len m), omega (arith, more_len m, rl_append (word w ∷ more) (sep equals ∷ [])))

-- ---- places

pub kind_len : {b : Base} {ns : List Name} {k : Bool} {ts : List Token} {e : ℕ} {x : Placed} → KindRead b ns k ts e x → rl (place_lex (unplaced x)) ≤ text_len ts
kind_len omitted = omega arith
kind_len {b} (positional {t = t} {ts = ts} {e = e} {v = v} c) = value_len b (value_parts_lem b (t ∷ ts) e v c)
kind_len {b} (named {ts = ts} {nm = nm} {us = us} {q = q} {e = e} i n) =
    rw (← n.is) (omega (
      arith,
      rl_append (name_lex n.name) (value_lex b n.v),
      (pieces_len (pieces_read 10 q is_piece is_identifier 3 nm n.name n.pieced)).1,
      value_len b (value_parts_lem b us e n.v n.value),
      rw i at (cut_len (cuts equals ts)),
    ))

pub places_len : (k : Bool) (bs : List Base) (n : ℕ) (ns : List Name) (ss : List Seg) (xs : List Placed) → read_places k bs n ns ss ≡ ok xs
    → rl (more_lex comma (map place_lex (map unplaced xs))) ≤ sum_s ss
places_len k bs n ns [] xs h = rw (← (ok_inj h)) (omega arith)
places_len k bs n ns (seg ts e ∷ ss) xs h =
    let r = places_read_lem k bs n ns (seg ts e) ss xs h in
    rw (← r.is) (omega (
      arith,
      rl_append (place_lex (unplaced r.x)) (more_lex comma (map place_lex (map unplaced r.more))),
      kind_len (place_read k bs n ns ts e r.x r.here).how,
      places_len k bs (suc n) (place_name (unplaced r.x) ∷ ns) ss r.more r.behind,
    ))

pub joined_len : (xs : List (List Lex)) → rl (joined_lex comma xs) ≤ rl (more_lex comma xs) - 1
joined_len [] = omega arith
joined_len (x ∷ xs) = omega arith

pub block_len : (bs : List Base) (n : ℕ) (ts : List Token) (e : ℕ) (x : PlacedBlock) → read_block bs n (split comma e ts) ≡ ok x → rl (block_lex (block_of x)) ≤ text_len ts
block_len bs n ts e x h =
    let ss : List Seg = split comma e ts in
    let r = block_read bs n ss x h in
    rw (← r.is) (omega (arith, joined_len (map place_lex (map unplaced r.xs)), places_len (kind_of ss) bs n [] ss r.xs r.places, split_len (splits comma e ts)))

pub blocks_len : (bs : List Base) (m n q : ℕ) (ss : List Seg) (xs : List PlacedBlock) → read_blocks bs m n q ss ≡ ok xs
    → rl (more_lex colon (map block_lex (map block_of xs))) ≤ sum_s ss
blocks_len bs m n q [] xs h = rw (← (ok_inj h)) (omega arith)
blocks_len bs m n q (seg ts e ∷ ss) xs h =
    let r = blocks_read_lem bs m n q ts e ss xs h in
    rw (← r.is) (omega (
      arith,
      rl_append (block_lex (block_of r.x)) (more_lex colon (map block_lex (map block_of r.more))),
      block_len bs n ts e r.x r.here,
      blocks_len bs (suc m) (n + block_size r.x) e ss r.more r.behind,
    ))

-- ---- the command

pub segs_len : (bs : List Base) (ss : List Seg) (c : Command) → read_segs bs ss ≡ ok c → rl (command_lex c) ≤ sum_s ss
segs_len bs [] c h = ok≢bad h
segs_len bs (seg ts e ∷ ss) c h =
    let r = segs_read bs ts e ss c h in
    let N : List Lex = joined_lex dash (map word_lex r.code) in
    let M : List Lex = more_lex colon (map block_lex (map block_of r.xs)) in
    rw (← r.is) (omega (
      arith,
      rl_append (N ++ M) (sep semi ∷ []),
      rl_append N M,
      (pieces_len (pieces_read 8 e is_identifier is_identifier 2 ts r.code r.pieced)).0,
      blocks_len bs 0 0 e ss r.xs r.blocks,
    ))

pub cut_command_len : (bs : List Base) (n : ℕ) (t : Cut) (c : Command) → read_cut bs n t ≡ ok c → rl (command_lex c) ≤ w_cut t
cut_command_len bs n uncut c h = ok≢bad h
cut_command_len bs n (cut ts p []) c h = omega (arith, segs_len bs (split colon p ts) c h, split_len (splits colon p ts))
cut_command_len bs n (cut ts p (u ∷ us)) c h = ok≢bad h

-- the printed text is never longer than the command that gave it
pub never_longer : (ls cs : List ℕ) (c : Command) → read ls cs ≡ ok c → length (print c) ≤ length cs
never_longer ls cs c h =
    let r = command_read_lem ls cs c h in
    omega (arith, cut_command_len r.bs (length cs) (cut_at semi r.ts) c r.cut, cut_len (cuts semi r.ts), run_length_lem cs idle 0 r.ts (scan_read cs r.ts r.tokens).runs)

-- a command that is read has at most 1,024 bytes
pub read_most : (ls cs : List ℕ) (c : Command) → read ls cs ≡ ok c → length cs ≤ 1024
read_most ls cs c h = let r = command_read_lem ls cs c h in (scan_read cs r.ts r.tokens).few
