-- An order's text is not longer than its record's: the order keeps one argument of each value, and that argument's units all stand in the value's
-- text (leading units in the last element that was printed in full, the last unit in its own element, a range's term below its upper end).
use Prim.Native.Nat.{ℕ, zero, suc, ◌+◌, ◌*◌, ◌-◌, ◌/◌, ◌%◌, ◌≤◌, ◌<◌}
use mathlib.Core.Path.{◌≡◌, refl, ap, ◌∙◌}
use mathlib.Core.Bool.{Bool, true, false}
use mathlib.Core.List.{List, [], ◌∷◌, ◌++◌, map}
use native.Mathlib.Nat.{mod-lt, le-div_iff_mul-le, div-mul-le_self, le_trans}
use native.Mathlib.Omega.{arith}
use lib.Dec.{ltb}
use lib.ListN.{length, length-append}
use borrow.Author.Tests.{ltb-true, ltb-false, le-ltb}
use Rattle.laws.specs.Cases.{by_bool, conjuncts}
use Rattle.laws.specs.Lists.{all}
use Rattle.rules.specs.Tokens.{Sep, dash, comma, colon, semi, Lex, sep}
use Rattle.rules.specs.Units.{Radix, Base, plain, same_base, radix_letter, size, num}
use Rattle.rules.specs.Commands.{Element, single, range, Place, place, Block, block, Command, command, leading, last_unit, terms, sum, value_count}
use Rattle.rules.specs.WellFormed.{well_formed, wf_block, wf_place, wf_value, wf_range}
use Rattle.rules.specs.Printing.{digits, prefixed, tail_links, full_links, later_links, rest_links, is_short, value_lex, more_lex, joined_lex, word_lex, name_lex, place_lex, block_lex, print}
use Rattle.rules.specs.Orders.{term_at, argument_at, value_at, place_at, back, block_at, order_at}
use Rattle.rules.proofs.CommandBack.{c_blocks}
use Rattle.rules.proofs.Counts.{count_pos}
use Rattle.rules.proofs.DecodeEncode.{place_value_lem}
use Rattle.rules.proofs.DirectIsList.{range_ends, ranges_fine}
use Rattle.rules.proofs.Names.{block_places}
use Rattle.rules.proofs.NeverLonger.{rl, rl_append, rl_cons}
use Rattle.rules.proofs.Progression.{term_le}
use Rattle.rules.proofs.UnitBack.{digits_low, digits_high, size_pos}
use Rattle.rules.proofs.UnitLength.{lx}
use Rattle.rules.proofs.ValueBack.{same_items, v_all}
use Rattle.rules.proofs.ValueLength.{w_lead, w_l, w_l_append, links_len, full_links_lem}

-- ---- a smaller number has no more digits

pub digits_some : (k b n : ℕ) → 1 ≤ length (digits (suc k) b n)
digits_some k b n =
    by_bool (ltb n b)
    (λ y. rw (digits_low k b n y) (omega arith))
    (λ y. rw (digits_high k b n y, length-append) (omega arith))

pub digits_fewer : (k b m n : ℕ) → 0 < b → m ≤ n → length (digits k b m) ≤ length (digits k b n)
unfolding digits
digits_fewer zero b m n p h = omega arith
digits_fewer (suc k) b m n p h =
    by_bool (ltb m b)
    (λ y. rw (digits_low k b m y) (digits_some k b n))
    (λ y.
    let z : ltb n b ≡ false = le-ltb n b (omega (arith, ltb-false m b y)) in
    rw (digits_high k b m y, digits_high k b n z, length-append, length-append)
    (omega (arith, digits_fewer k b (m / b) (n / b) p ((le-div_iff_mul-le p).1 (le_trans (div-mul-le_self m b) h)))))

pub prefixed_fewer : (t : Bool) (l : ℕ) (u w : List ℕ) → length u ≤ length w → length (prefixed t l u) ≤ length (prefixed t l w)
prefixed_fewer true l u w h = h
prefixed_fewer false l u w h = omega arith

pub number_fewer : (b : Base) (r : Radix) (m n : ℕ) → m ≤ n → lx b (num r 0 m) ≤ lx b (num r 0 n)
number_fewer b r m n h =
    prefixed_fewer (same_base b (plain r)) (radix_letter r) (digits 32 (size r) m) (digits 32 (size r) n) (digits_fewer 32 (size r) m n (size_pos r) h)

-- ---- a value: one argument's units

module _ (b : Base) where
  -- an argument's text, but for what joins it
  abbrev pub weight : Element → ℕ
  weight e = w_lead b (leading e) + lx b (last_unit e)

  pub term_fits : (e : Element) (k : ℕ) → wf_range b e ≡ true → k < terms e → weight (term_at e k) ≤ weight e + w_l b (tail_links e)
  term_fits (single l u) k h hk = omega arith
  term_fits (range l r lo up inc) k h hk =
      let e : (lo ≤ up) × (1 ≤ inc) = range_ends b l r lo up inc h in
      omega (arith, number_fewer b r (lo + k * inc) up (term_le lo up inc k e.0 hk))

  pub short_or_full : (e e' : Element) → weight e' + w_l b (tail_links e') ≤ w_lead b (leading e) + w_l b (later_links (is_short e e') e')
  short_or_full e e' =
      by_bool (is_short e e')
      (λ y.
      let same : leading e ≡ leading e' = same_items (leading e) (leading e') (search conjuncts) in
      let w : w_lead b (leading e) ≡ w_lead b (leading e') = ap (w_lead b) same in
      rw y (omega arith))
      (λ y. rw y (omega (arith, full_links_lem b e')))

  pub argument_fits : (e : Element) (es : List Element) (k : ℕ) → all (wf_range b) (e ∷ es) ≡ true → k < sum (map terms (e ∷ es))
      → weight (argument_at e es k) ≤ weight e + w_l b (tail_links e) + w_l b (rest_links e es)
  argument_fits e [] k h hk = omega (arith, term_fits e k (search conjuncts) (omega arith))
  argument_fits e (e' ∷ es) k h hk =
      let more : w_l b (rest_links e (e' ∷ es)) ≡ w_l b (later_links (is_short e e') e') + w_l b (rest_links e' es)
      = w_l_append b (later_links (is_short e e') e') (rest_links e' es) in
      by_bool (ltb k (terms e))
      (λ y. rw (y, argument_at) (omega (arith, term_fits e k (search conjuncts) (ltb-true k (terms e) y))))
      (λ y.
      let le : terms e ≤ k = ltb-false k (terms e) y in
      rw (y, argument_at)
      (omega (
        arith,
        argument_fits e' es (k - terms e) (search conjuncts) (omega arith),
        short_or_full e e',
      )))

  -- the length of a value's text
  pub value_text : (e : Element) (es : List Element) → suc (rl (value_lex b (e ∷ es))) ≡ weight e + 1 + w_l b (tail_links e) + w_l b (rest_links e es)
  value_text e es =
      links_len b (full_links e ++ rest_links e es) ∙ w_l_append b (full_links e) (rest_links e es) ∙ omega (arith, full_links_lem b e)

  pub no_tail : (e : Element) (k : ℕ) → w_l b (tail_links (term_at e k)) ≡ 0
  no_tail (single l u) k = refl
  no_tail (range l r lo up inc) k = refl

  pub is_argument_lem : (e : Element) (es : List Element) (k : ℕ) → w_l b (tail_links (argument_at e es k)) ≡ 0
  is_argument_lem e [] k = no_tail e k
  is_argument_lem e (e' ∷ es) k =
      by_bool (ltb k (terms e))
      (λ y. rw (y, argument_at) (no_tail e k))
      (λ y. rw (y, argument_at) (is_argument_lem e' es (k - terms e)))

  pub value_fits : (v : List Element) (k : ℕ) → wf_value b v ≡ true → k < value_count v → rl (value_lex b (value_at v k)) ≤ rl (value_lex b v)
  value_fits [] k h hk = omega arith
  value_fits (e ∷ es) k h hk =
      let a : Element = argument_at e es k in
      omega (
        arith,
        value_text a [],
        is_argument_lem e es k,
        value_text e es,
        argument_fits e es k (ranges_fine b (length (leading e)) (e ∷ es) (v_all b e es h)) hk,
      )

-- ---- places, blocks, the command

pub place_fits : (t : Bool) (p : Place) (k : ℕ) → wf_place t p ≡ true → rl (place_lex (place_at p k).0) ≤ rl (place_lex p)
place_fits t (place b nm v) k h =
    let i : ℕ = k % value_count v in
    omega (
      arith,
      rl_append (name_lex nm) (value_lex b (value_at v i)),
      rl_append (name_lex nm) (value_lex b v),
      value_fits b v i (place_value_lem t b nm v h) (mod-lt k (count_pos v)),
    )

module _ {A : Type 0} (f : A → ℕ → A × ℕ) (lex : A → List Lex) (good : A → Bool)
    (fits : (a : A) (k : ℕ) → good a ≡ true → rl (lex (f a k).0) ≤ rl (lex a)) (s : Sep) where
  pub more_fits : (as' : List A) (k : ℕ) → all good as' ≡ true → rl (more_lex s (map lex (back f as' k).0)) ≤ rl (more_lex s (map lex as'))
  more_fits [] k h = omega arith
  more_fits (a ∷ as') k h =
      let q : ℕ = (back f as' k).1 in
      let r : List A = (back f as' k).0 in
      omega (
        arith,
        rl_append (sep s ∷ lex (f a q).0) (more_lex s (map lex r)),
        rl_append (sep s ∷ lex a) (more_lex s (map lex as')),
        rl_append (sep s ∷ []) (lex (f a q).0),
        rl_append (sep s ∷ []) (lex a),
        fits a q (search conjuncts),
        more_fits as' k (search conjuncts),
      )

  pub joined_fits : (as' : List A) (k : ℕ) → all good as' ≡ true → rl (joined_lex s (map lex (back f as' k).0)) ≤ rl (joined_lex s (map lex as'))
  joined_fits [] k h = omega arith
  joined_fits (a ∷ as') k h =
      let r : List A = (back f (a ∷ as') k).0 in
      omega (arith, rl_cons (sep s) (joined_lex s (map lex r)), rl_cons (sep s) (joined_lex s (map lex (a ∷ as'))), more_fits (a ∷ as') k h)

pub block_fits : (b : Block) (k : ℕ) → wf_block b ≡ true → rl (block_lex (block_at b k).0) ≤ rl (block_lex b)
block_fits (block t ps) k h = joined_fits place_at place_lex (wf_place t) (place_fits t) comma ps k (block_places t ps h)

pub order_fits : (c : Command) (k : ℕ) → well_formed c ≡ true → length (print (order_at c k)) ≤ length (print c)
order_fits (command c bs) k h =
    let N : List Lex = joined_lex dash (map word_lex c) in
    let M : List Lex = more_lex colon (map block_lex bs) in
    let M' : List Lex = more_lex colon (map block_lex (back block_at bs k).0) in
    omega (
      arith,
      rl_append (N ++ M) (sep semi ∷ []),
      rl_append N M,
      rl_append (N ++ M') (sep semi ∷ []),
      rl_append N M',
      more_fits block_at block_lex wf_block block_fits colon bs k (c_blocks c bs h),
    )
