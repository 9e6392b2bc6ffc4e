-- A value's printed text is no longer than the tokens it was read from: joins, groups and links have weights that no pass increases.
use Prim.Native.Nat.{ℕ, suc, ◌+◌, ◌-◌, ◌≤◌}
use mathlib.Core.Path.{◌≡◌, refl, sym, ap, ◌∙◌}
use mathlib.Core.Bool.{Bool, true, false, false≢true}
use mathlib.Core.List.{List, [], ◌∷◌, ◌++◌}
use native.Mathlib.Omega.{arith}
use lib.Dec.{eqb, leb}
use lib.ListN.{length, length-append}
use borrow.Author.Tests.{leb-true, not-true}
use Rattle.rules.specs.Records.{unit_field, field_bytes}
use Rattle.laws.specs.Cases.{conjuncts}
use Rattle.laws.specs.Lists.{is_nil, eq_l_refl}
use Rattle.rules.specs.Commands.{Element, leading, last_unit}
use Rattle.rules.specs.Groups.{Join, join, Want, unit_after, joiner, Group, group, Collected, collected, collect_one, begins, collect, Arg, arg}
use Rattle.rules.specs.Printing.{same_units, lex_text, sep_text, render, unit_lex, Link, link, first_unit, dash_links, inc_links, tail_links, full_links, is_short, later_links, rest_links, links_lex, value_lex}
use Rattle.rules.specs.Tokens.{Sep, Token}
use Rattle.rules.specs.Units.{Radix, Base, Unit, num}
use Rattle.rules.proofs.ReadSteps.{every_sep, JoinsRead, joins_end, separator, unit, Full, last, joined, strip, Tail, alone, up_to, up_by, LaterRead, short, full, LatersRead, laters_end, more, ValueParts, value_parts}
use Rattle.rules.proofs.ScanLength.{text_len}
use Rattle.rules.proofs.UnitLength.{lx, unit_length}

abbrev pub sl : Sep → ℕ
sl s = length (sep_text s)

module _ (b : Base) where
  abbrev pub w_l : List Link → ℕ
  w_l [] = 0
  w_l (link s i ∷ ls) = sl s + lx b i + w_l ls

  abbrev pub w_is : List (Join Unit) → ℕ
  w_is js = w_l (strip js)

  abbrev pub w_g : Group → ℕ
  w_g (group s q p i js) = sl s + lx b i + w_is js

  abbrev pub w_gs : List Group → ℕ
  w_gs [] = 0
  w_gs (g ∷ gs) = w_g g + w_gs gs

  abbrev pub w_c : Collected → ℕ
  w_c (collected pre gs) = w_is pre + w_gs gs

  abbrev pub w_lead : List Unit → ℕ
  w_lead [] = 0
  w_lead (i ∷ l) = suc (lx b i) + w_lead l

  abbrev pub w_a : Arg → ℕ
  w_a (arg l u r) = w_lead l + lx b u + w_is r

  pub w_l_append : (xs ys : List Link) → w_l (xs ++ ys) ≡ w_l xs + w_l ys
  w_l_append [] ys = omega arith
  w_l_append (link s i ∷ xs) ys = rw (w_l_append xs ys) (omega arith)

  pub links_len : (ls : List Link) → length (render (links_lex b ls)) ≡ w_l ls
  links_len [] = refl
  links_len (link s i ∷ ls) =
      length-append (sep_text s) (lex_text (unit_lex b i) ++ render (links_lex b ls))
      ∙ ap (λ n. sl s + n) (length-append (lex_text (unit_lex b i)) (render (links_lex b ls)) ∙ ap (λ n. lx b i + n) (links_len ls)) ∙ omega arith

  -- ---- the passes

  abbrev pub extra : Want → ℕ
  extra (unit_after s q) = sl s
  extra joiner = 0

  pub joins_len : {w : Want} {ts : List Token} {is : List (Join Unit)} → JoinsRead b w ts is → w_is is ≤ extra w + text_len ts
  joins_len joins_end = omega arith
  joins_len (separator f r) = omega (arith, joins_len r)
  joins_len (unit u r) = omega (arith, unit_length u, joins_len r)

  pub collect1_len : (t : Bool) (s : Sep) (q p : ℕ) (i : Unit) (c : Collected) → w_c (collect_one t (join s q p i) c) ≡ sl s + lx b i + w_c c
  collect1_len true s q p i (collected pre gs) = omega arith
  collect1_len false s q p i (collected pre gs) = omega arith

  pub collect_len : (js : List (Join Unit)) → w_c (collect js) ≡ w_is js
  collect_len [] = refl
  collect_len (join s q p i ∷ js) = collect1_len (begins s) s q p i (collect js) ∙ ap (λ n. sl s + lx b i + n) (collect_len js)

  pub full_len : {i : Unit} {js : List (Join Unit)} {a : Arg} → Full i js a → w_a a ≤ lx b i + w_is js
  full_len last = omega arith
  full_len (joined f) = omega (arith, full_len f)

pub sl_pos : (s : Sep) → 1 ≤ sl s
sl_pos s = leb-true 1 (sl s) (every_sep (λ s. leb 1 (sl s)) refl s)

pub same_items_refl : (l : List Unit) → same_units l l ≡ true
same_items_refl [] = refl
same_items_refl (i ∷ l) = rw (eq_l_refl (field_bytes (unit_field i)), same_items_refl l)

pub lead_pos : (b : Base) (l : List Unit) → is_nil l ≡ false → 1 ≤ w_lead b l
lead_pos b [] h = absurd (false≢true (sym h))
lead_pos b (i ∷ l) h = omega arith

module _ (b : Base) where
  -- what follows the last unit of an element that was read, printed
  pub record Up (l : List Unit) (u : Unit) (ls : List Link) (e : Element) : Type 0 where
    pub leads : leading e ≡ l
    pub lasts : last_unit e ≡ u
    pub tails : w_l b (tail_links e) ≤ w_l b ls

  inc_short : (r : Radix) (k : ℕ) (t : Bool) → w_l b (inc_links r k t) ≤ 2 + lx b (num r 0 k)
  inc_short r k true = omega arith
  inc_short r k false = omega arith

  pub tail_len : {l : List Unit} {u : Unit} {ls : List Link} {e : Element} → Tail l u ls e → Up l u ls e
  tail_len alone = record { leads = refl; lasts = refl; tails = omega arith }
  tail_len (up_to h) = record { leads = refl; lasts = refl; tails = omega arith }
  tail_len (up_by {r = r} {inc = inc} h k) = record { leads = refl; lasts = refl; tails = omega (arith, inc_short r inc (eqb inc 1)) }

  pub dash_len : (l : List Unit) (u : Unit) → lx b (first_unit l u) + w_l b (dash_links l u) ≡ w_lead b l + lx b u
  dash_len [] u = omega arith
  dash_len (i ∷ l) u = omega (arith, dash_len l u)

  pub full_links_lem : (e : Element) → w_l b (full_links e) ≡ 1 + w_lead b (leading e) + lx b (last_unit e) + w_l b (tail_links e)
  full_links_lem e = omega (arith, w_l_append b (dash_links (leading e) (last_unit e)) (tail_links e), dash_len (leading e) (last_unit e))

  -- an argument in full with what follows it
  pub argument_len : {i u : Unit} {js r : List (Join Unit)} {l : List Unit} {e : Element} → Full i js (arg l u r) → Tail l u (strip r) e
      → w_lead b (leading e) + lx b (last_unit e) + w_l b (tail_links e) ≤ lx b i + w_is b js
  argument_len f d =
      let w = tail_len d in
      rw (w.leads, w.lasts) (omega (arith, w.tails, full_len b f))

  pub later_len : (e₀ : Element) {g : Group} {e : Element} → LaterRead (leading e₀) g e → w_l b (later_links (is_short e₀ e) e) ≤ w_g b g
  later_len e₀ (short {i = i} {js = js} {e = e} z d) =
      let w : Up (leading e₀) i (strip js) e = tail_len d in
      let sh : is_short e₀ e ≡ true = rw (w.leads, z, same_items_refl (leading e₀)) in
      rw (sh, w.lasts) (omega (arith, w.tails))
  later_len e₀ (full {s = s} {i = i} {js = js} {e = e} y f q d) =
      let l : List Unit = leading e in
      omega (arith, sl_pos s, either (is_short e₀ e) (λ t. not-true (is_nil l) (search conjuncts)))
    where
      either : (t : Bool) → (t ≡ true → is_nil (leading e) ≡ false) → w_l b (later_links t e) ≤ 1 + (lx b i + w_is b js)
      either true has = omega (arith, argument_len f d, lead_pos b (leading e) (has refl))
      either false has = omega (arith, argument_len f d, full_links_lem e)

  pub laters_len : {n : ℕ} (e₀ : Element) {l : List Unit} {gs : List Group} {es : List Element} → l ≡ leading e₀ → LatersRead n l gs es
      → w_l b (rest_links e₀ es) ≤ w_gs b gs
  laters_len e₀ q laters_end = omega arith
  laters_len e₀ q (more {e = e} {es = es} hn r m) =
      omega (arith, w_l_append b (later_links (is_short e₀ e) e) (rest_links e es), later_len e₀ (rw q at r), laters_len e refl m)

  abbrev pub v_l : List Element → ℕ
  v_l [] = 0
  v_l (e ∷ es) = w_l b (full_links e ++ rest_links e es)

  pub printed : (v : List Element) → length (render (value_lex b v)) ≤ v_l v - 1
  printed [] = omega arith
  printed (e ∷ es) = omega (arith, links_len b (full_links e ++ rest_links e es))

  pub value_len : {ts : List Token} {v : List Element} → ValueParts b ts v → length (render (value_lex b v)) ≤ text_len ts
  value_len (value_parts {is = is} {e = e} {es = es} u j o f hl d m hc) =
      omega (
        arith,
        printed (e ∷ es),
        w_l_append b (full_links e) (rest_links e es),
        full_links_lem e,
        argument_len f d,
        laters_len e refl m,
        rw o at (collect_len b is),
        joins_len b j,
        unit_length u,
      )
