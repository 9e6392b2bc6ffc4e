-- The whole command: the code before the first `:`, the blocks behind it, and what the tally comes to; 6 and 7 by where the first `;` stands.
use Prim.Native.Nat.{ℕ, ◌+◌, ◌-◌, ◌≤◌, ◌<◌}
use mathlib.Core.Path.{◌≡◌, refl, sym, ap, ◌∙◌}
use mathlib.Core.Bool.{true, false}
use mathlib.Core.List.{List, [], ◌∷◌, map}
use native.Mathlib.Omega.{arith}
use lib.ListN.{length, get_or, take, drop, drop_of_length-le}
use Rattle.laws.specs.Cases.{by_bool}
use Rattle.rules.specs.Commands.{command, place_count, split, cut_at, pieces}
use Rattle.rules.specs.Indexes.{offsets}
use Rattle.rules.specs.Orders.{count}
use Rattle.rules.specs.Reading.{Placed, placed, PlacedBlock, placed_block, block_of, read_blocks, running_blocks, read_segs, read_cut}
use Rattle.rules.specs.Records.{field, head_size, encode, many, block_fields}
use Rattle.rules.specs.Refusals.{ok, bad, ◌>>=◌}
use Rattle.rules.specs.Tokens.{colon, semi}
use Rattle.rules.specs.Units.{Base, is_identifier}
use Rattle.rules.proofs.CommandBack.{count_all}
use Rattle.rules.proofs.ReadSound.{running_b_is}
use Rattle.rules.proofs.ResultLaws.{by_res}
use Rattle.rules.proofs.RowPoints.{offsets_many}
use Rattle.std.proofs.Common.{Option, Some, None, Result, Ok, Err}
use Rattle.rules.specs.declared.Refusal.{Refusal}
use Rattle.rules.specs.Reasons.{refusal}
use Rattle.token_table.specs.declared.Token.{Token as Entry}
use Rattle.token_table.specs.Table.{place_in, tokens_in, Verdict}
use Rattle.token_table.proofs.KindLaws.{no_token, next_token}
use Rattle.read_pieces.specs.Pieces.{pieces_at}
use Rattle.token_table.specs.Parts.{before, place_or, parts_from, words_in, words_size, capped}
use Rattle.token_table.proofs.FindLaws.{parts_all, parts_next, cut_at_lem, cut_none}
use Rattle.token_table.proofs.WordLaws.{pieces_words, words_bytes, cap_cap, cap_most, cap_small}
use Rattle.token_table.proofs.AltLaws.{verdict_ok, verdict_bad}
use Rattle.read_place.specs.Places.{place_size}
use Rattle.read_place.proofs.PlaceLaws.{bytes_length, cap_right}
use Rattle.read_command.specs.Blocks.{counted, opened, tally_places, tally_blocks, blocks_read, ended, tally_read, command_read}
use Rattle.read_command.specs.declared.Tally.{Tally}
use Rattle.read_command.specs.declared.Checked.{Checked}
use Rattle.read_command.proofs.TallyLaws.{places_blocks, orders_by, orders_of, orders_blocks, bytes_blocks, blocks_size}

-- ---- the tally of a whole command

small_places : (t : Tally) (xs : List Placed) → t.bytes ≤ 4294967295 → (tally_places t xs).bytes ≤ 4294967295
small_places t [] h = h
small_places t (placed p x ∷ xs) h =
    small_places (counted t (place_count x) p (capped (place_size x))) xs (cap_most (t.bytes + capped (place_size x)) refl)

small_blocks : (t : Tally) (bs : List PlacedBlock) → t.bytes ≤ 4294967295 → (tally_blocks t bs).bytes ≤ 4294967295
small_blocks t [] h = h
small_blocks t (placed_block k xs ∷ bs) h = small_blocks (tally_places (opened t) xs) bs (small_places (opened t) xs (cap_most (t.bytes + 4) refl))

-- nothing counted yet, behind z bytes of the head and the code
abbrev pub begun : ℕ → Tally
begun z = record { places = 0; bytes = z; product = 1; over = None }

code_size : (c : List (List ℕ)) (xs : List PlacedBlock) → length (encode (command c (map block_of xs))) ≡ head_size + words_size c + blocks_size xs
code_size c xs = rw (bytes_length (map (λ w. field 1 w) c) (many block_fields (map block_of xs)), words_bytes 1 c) (omega arith)

-- the running product over all blocks is the number of orders
orders_are : (c : List (List ℕ)) (xs : List PlacedBlock) (n : ℕ) → running_blocks 1 xs ≡ ok n → n ≡ count (command c (map block_of xs))
orders_are c xs n h =
    let bs = map block_of xs in
    omega (arith, (running_b_is 1 xs n (omega arith) h).0, count_all bs)

-- one offset for each place
places_are : (c : List (List ℕ)) (xs : List PlacedBlock) (z : ℕ) → (tally_blocks (begun z) xs).places ≡ length (offsets (command c (map block_of xs)))
places_are c xs z = omega (arith, places_blocks (begun z) xs, offsets_many c (map block_of xs))

tally_end : (c : List (List ℕ)) (xs : List PlacedBlock) (z : ℕ) → z ≡ capped (head_size + words_size c)
    → tally_read (tally_blocks (begun z) xs) ≡ command_read (running_blocks 1 xs >>= λ _. ok (command c (map block_of xs)))
tally_end c xs z h = go t.over (orders_blocks (begun z) xs)
  where
    t : Tally
    t = tally_blocks (begun z) xs

    bytes_are : t.bytes ≡ capped (length (encode (command c (map block_of xs))))
    bytes_are =
        sym (cap_small t.bytes (small_blocks (begun z) xs (cap_most (head_size + words_size c) h))) ∙ bytes_blocks (begun z) xs
        ∙ rw (h, cap_cap (head_size + words_size c) (blocks_size xs), code_size c xs)

    go : (o : Option ℕ) → orders_by o t.product ≡ running_blocks 1 xs
        → ended o (record { bytes = t.bytes; orders = t.product; places = t.places }) ≡ command_read (running_blocks 1 xs >>= λ _. ok (command c (map block_of xs)))
    go (Some p) q = rw (← q)
    go None q = rw (← q, bytes_are, orders_are c xs t.product (sym q), places_are c xs z)

-- ---- the code and the blocks

module _ (bs : List Base) (ts : List Entry) (cs : List ℕ) (e : ℕ) where
  pub segments_wrong : (z : Refusal) {k o : ℕ} {v : Verdict} → k ≡ 0 + before 7 (drop 0 ts) → o ≡ place_or (drop k ts) e → v ≡ pieces_at 8 false false 2 true cs (take k ts) o → v ≡ Err z
      → Err z ≡ command_read (read_segs bs (split colon e (tokens_in cs ts)))
  unfolding pieces_at
  segments_wrong z {k} {o} f g i j =
      let w : k - 0 ≡ k = omega arith in
      verdict_bad (pieces 8 is_identifier is_identifier 2 true (tokens_in cs (take k ts)) o) z (sym i ∙ j)
      (λ n p a b. rw (← parts_all colon e cs ts, parts_next colon e cs ts 0 (omega arith) f g, w, a, b))

  -- the code and the blocks behind it, as the tally comes to them
  segments_are : {k o y z : ℕ} {v : Verdict} → k ≡ 0 + before 7 (drop 0 ts) → o ≡ place_or (drop k ts) e → v ≡ pieces_at 8 false false 2 true cs (take k ts) o → v ≡ Ok tt
      → y ≡ capped (words_size (words_in true cs (take k ts))) → z ≡ capped (head_size + y)
      → {C : Type 0} → ((n p : ℕ) → read_blocks bs 0 0 o (parts_from colon e cs ts (k + 1)) ≡ bad n p → command_read (read_segs bs (split colon e (tokens_in cs ts))) ≡ Err (refusal n p) → C)
      → ((xs : List PlacedBlock) → read_blocks bs 0 0 o (parts_from colon e cs ts (k + 1)) ≡ ok xs
      → command_read (read_segs bs (split colon e (tokens_in cs ts))) ≡ tally_read (tally_blocks (begun z) xs) → C) → C
  unfolding pieces_at
  segments_are {k} {o} {y} {z} f g i j l d wrong right =
      let w : k - 0 ≡ k = omega arith in
      verdict_ok (pieces 8 is_identifier is_identifier 2 true (tokens_in cs (take k ts)) o) (sym i ∙ j)
      (λ c a.
      let u : y ≡ capped (words_size c) = rw (pieces_words cs (take k ts) true 8 is_identifier is_identifier 2 o c a) l in
      let q : z ≡ capped (head_size + words_size c) = rw (d, u) (cap_right head_size (words_size c)) in
      by_res (read_blocks bs 0 0 o (parts_from colon e cs ts (k + 1)))
      (λ xs b. right xs b (rw (← parts_all colon e cs ts, parts_next colon e cs ts 0 (omega arith) f g, w, a, b) (sym (tally_end c xs z q))))
      (λ n p b. wrong n p b (rw (← parts_all colon e cs ts, parts_next colon e cs ts 0 (omega arith) f g, w, a, b))))

  module _ {k o y z : ℕ} {v : Verdict} {x : Result Tally Refusal} (f : k ≡ 0 + before 7 (drop 0 ts)) (g : o ≡ place_or (drop k ts) e)
      (i : v ≡ pieces_at 8 false false 2 true cs (take k ts) o) (j : v ≡ Ok tt) (l : y ≡ capped (words_size (words_in true cs (take k ts)))) (d : z ≡ capped (head_size + y))
      (m : x ≡ blocks_read (begun z) (read_blocks bs 0 0 o (parts_from colon e cs ts (k + 1)))) where
    pub segments_stop : (n : Refusal) → x ≡ Err n → Err n ≡ command_read (read_segs bs (split colon e (tokens_in cs ts)))
    segments_stop n q =
        segments_are f g i j l d
        (λ n' p b s. let r : Err n ≡ Err (refusal n' p) = sym q ∙ m ∙ ap (blocks_read (begun z)) b in
        let w : n ≡ refusal n' p = cc in ap Err w ∙ sym s)
        (λ xs b s. let r : Err n ≡ Ok (tally_blocks (begun z) xs) = sym q ∙ m ∙ ap (blocks_read (begun z)) b in absurd cc)

    pub segments_fine : (t : Tally) {r : Result Checked Refusal} → x ≡ Ok t → r ≡ tally_read t → r ≡ command_read (read_segs bs (split colon e (tokens_in cs ts)))
    segments_fine t q n =
        segments_are f g i j l d
        (λ n' p b s. let r : Ok t ≡ Err (refusal n' p) = sym q ∙ m ∙ ap (blocks_read (begun z)) b in absurd cc)
        (λ xs b s. let r : Ok t ≡ Ok (tally_blocks (begun z) xs) = sym q ∙ m ∙ ap (blocks_read (begun z)) b in
        let w : t ≡ tally_blocks (begun z) xs = cc in n ∙ ap tally_read w ∙ sym s)

-- ---- 6, 7

module _ (bs : List Base) (ts : List Entry) (cs : List ℕ) (n : ℕ) where
  pub command_open : {k : ℕ} {z : Refusal} → k ≡ 0 + before 9 (drop 0 ts) → length ts ≤ k → z ≡ refusal 6 n → Err z ≡ command_read (read_cut bs n (cut_at semi (tokens_in cs ts)))
  command_open f h q = rw (q, cut_none semi cs ts f h)

  pub command_more : {k p : ℕ} {z : Refusal} → k ≡ 0 + before 9 (drop 0 ts) → k + 1 < length ts → p ≡ place_in (get_or ts (k + 1) no_token) → z ≡ refusal 7 p
      → Err z ≡ command_read (read_cut bs n (cut_at semi (tokens_in cs ts)))
  command_more {k} f h g q = rw (q, cut_at_lem semi cs ts f (omega arith), next_token ts (k + 1) h, g)

  pub command_whole : {k p : ℕ} {r : Result Checked Refusal} → k ≡ 0 + before 9 (drop 0 ts) → k < length ts → length ts ≤ k + 1 → p ≡ place_in (get_or ts k no_token)
      → r ≡ command_read (read_segs bs (split colon p (tokens_in cs (take k ts)))) → r ≡ command_read (read_cut bs n (cut_at semi (tokens_in cs ts)))
  command_whole {k} f h l g q = q ∙ rw (cut_at_lem semi cs ts f h, drop_of_length-le ts l, g)
