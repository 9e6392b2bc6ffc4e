-- A value that the reader accepts is well formed: collecting and grouping keep well-formed units, and each group rule passed is one of `wf_element`'s.
use Prim.Native.Nat.{ℕ, suc, ◌+◌, ◌≤◌}
use mathlib.Core.Path.{◌≡◌, refl, sym, ap, subst}
use mathlib.Core.Bool.{Bool, true, false, ◌&&◌}
use mathlib.Core.List.{List, [], ◌∷◌}
use native.Mathlib.Omega.{arith}
use lib.Dec.{leb}
use lib.ListN.{length}
use borrow.Author.Tests.{le-leb, eq-eqb}
use Rattle.laws.specs.Cases.{and_l, conjuncts}
use Rattle.laws.specs.Lists.{all}
use Rattle.rules.specs.Commands.{Element, leading, last_unit, value_count}
use Rattle.rules.specs.Groups.{Join, join, Want, Group, group, Collected, collected, collect_one, begins, collect, Arg, arg}
use Rattle.rules.specs.Tokens.{Sep, Token, at}
use Rattle.rules.specs.Units.{Base, plain, Unit, num, allowed}
use Rattle.rules.specs.Printing.{Link, link}
use Rattle.rules.specs.WellFormed.{wf_unit, wf_range, wf_element, wf_value}
use Rattle.rules.proofs.ReadSteps.{JoinsRead, joins_end, separator, unit, Full, last, joined, strip, Tail, alone, up_to, up_by, tail_lead, LaterRead, short, full, LatersRead, laters_end, more, ValueParts, value_parts}
use Rattle.rules.proofs.ScanBack.{ok_lex}
use Rattle.rules.proofs.UnitSound.{unit_wf}
use Rattle.rules.proofs.ValueBack.{ok_length, ok_lead}

abbrev pub ok_token : Token → Bool
ok_token (at p x) = ok_lex x

-- the units of links are well formed
abbrev pub ok_links : Base → List Link → Bool
ok_links b [] = true
ok_links b (link s i ∷ ls) = wf_unit b i && ok_links b ls

pub joins_wf : {b : Base} {w : Want} {ts : List Token} {is : List (Join Unit)} → JoinsRead b w ts is → all ok_token ts ≡ true → ok_links b (strip is) ≡ true
joins_wf joins_end h = refl
joins_wf (separator f r) h = joins_wf r h
joins_wf (unit {x = x} {ts = ts} u r) h = rw (unit_wf u (search conjuncts), joins_wf r (search conjuncts))

-- ---- groups hold well-formed units

abbrev pub ok_g : Base → Group → Bool
ok_g b (group s q p i js) = wf_unit b i && ok_links b (strip js)

abbrev pub ok_c : Base → Collected → Bool
ok_c b (collected pre gs) = ok_links b (strip pre) && all (ok_g b) gs

pub collect_ok1 : (b : Base) (t : Bool) (s : Sep) (q p : ℕ) (i : Unit) (c : Collected) → wf_unit b i ≡ true → ok_c b c ≡ true → ok_c b (collect_one t (join s q p i) c) ≡ true
collect_ok1 b true s q p i (collected pre gs) h k = rw h k
collect_ok1 b false s q p i (collected pre gs) h k = rw h k

pub collect_ok : (b : Base) (js : List (Join Unit)) → ok_links b (strip js) ≡ true → ok_c b (collect js) ≡ true
collect_ok b [] h = refl
collect_ok b (join s q p i ∷ js) h = collect_ok1 b (begins s) s q p i (collect js) (search conjuncts) (collect_ok b js (search conjuncts))

-- ---- an element

-- what an element that was read is
pub record ElemWf (b : Base) (l : List Unit) (e : Element) : Type 0 where
  pub leads : leading e ≡ l
  pub lasts : wf_unit b (last_unit e) ≡ true
  pub ranges : wf_range b e ≡ true

module _ (b : Base) where
  abbrev pub ok_arg : Arg → Bool
  ok_arg (arg l u r) = all (wf_unit b) l && wf_unit b u && ok_links b (strip r)

  pub full_ok : {i : Unit} {js : List (Join Unit)} {a : Arg} → Full i js a → wf_unit b i ≡ true → ok_links b (strip js) ≡ true → ok_arg a ≡ true
  full_ok last h k = rw h k
  full_ok (joined {j = j} {js = js} f) h k = rw h (full_ok f (search conjuncts) (search conjuncts))

  pub tail_wf : {l : List Unit} {u : Unit} {ls : List Link} {e : Element} → Tail l u ls e → wf_unit b u ≡ true → ok_links b ls ≡ true → ElemWf b l e
  tail_wf alone hu hj = record { leads = refl; lasts = hu; ranges = refl }
  tail_wf (up_to {r = r} {lo = lo} {up = up} h) hu hj =
      let hup : wf_unit b (num r 0 up) ≡ true = and_l (wf_unit b (num r 0 up)) true hj in
      let one : wf_unit b (num r 0 1) ≡ true = rw (and_l (allowed b (plain r) && true) (leb up 4294967295) hup) in
      record { leads = refl; lasts = hu; ranges = rw (hup, one, le-leb lo up h) }
  tail_wf (up_by {r = r} {lo = lo} {up = up} {inc = inc} h k) hu hj =
      let wu : wf_unit b (num r 0 up) ≡ true = search conjuncts in
      let wi : wf_unit b (num r 0 inc) ≡ true = search conjuncts in
      record { leads = refl; lasts = hu; ranges = rw (wu, wi, le-leb lo up h, le-leb 1 inc k) }

  pub elem_ok : (n : ℕ) (l : List Unit) (e : Element) → length l ≡ n → all (wf_unit b) l ≡ true → ElemWf b l e → wf_element b n e ≡ true
  elem_ok n l e hn hl w = rw (w.leads, w.lasts, w.ranges, hl, eq-eqb (length l) n hn)

  pub argument_wf : {i u : Unit} {js r : List (Join Unit)} {l : List Unit} {e : Element} (n : ℕ) → Full i js (arg l u r) → Tail l u (strip r) e → wf_unit b i ≡ true
      → ok_links b (strip js) ≡ true → length l ≡ n → wf_element b n e ≡ true
  argument_wf {u = u} {r = r} {l = l} {e = e} n f d hi hj q =
      let ok' : all (wf_unit b) l && wf_unit b u && ok_links b (strip r) ≡ true = full_ok f hi hj in
      elem_ok n l e q (search conjuncts) (tail_wf d (search conjuncts) (search conjuncts))

  -- ---- the elements

  pub later_wf : {l₀ : List Unit} {g : Group} {e : Element} → LaterRead l₀ g e → all (wf_unit b) l₀ ≡ true → ok_g b g ≡ true → wf_element b (length l₀) e ≡ true
  later_wf {l₀} (short {i = i} {js = js} {e = e} z d) hl hg =
      elem_ok (length l₀) l₀ e refl hl (tail_wf d (search conjuncts) (search conjuncts))
  later_wf {l₀} (full {i = i} {js = js} y f q d) hl hg =
      argument_wf (length l₀) f d (search conjuncts) (search conjuncts) q

  pub record LatersWf (m n : ℕ) (es : List Element) : Type 0 where
    pub fine : all (wf_element b m) es ≡ true
    pub few : n ≤ 65 → n + length es ≤ 65

  pub laters_wf : {n : ℕ} {l₀ : List Unit} {gs : List Group} {es : List Element} → LatersRead n l₀ gs es → all (wf_unit b) l₀ ≡ true → all (ok_g b) gs ≡ true
      → LatersWf (length l₀) n es
  laters_wf laters_end hl hg = record { fine = refl; few = λ k. omega arith }
  laters_wf {l₀ = l₀} (more {g = g} {gs = gs} {e = e} {es = es} hn r m) hl hg =
      let eo : wf_element b (length l₀) e ≡ true = later_wf r hl (search conjuncts) in
      let ih : LatersWf (length (leading e)) _ es = laters_wf m (ok_lead b (length l₀) e eo) (search conjuncts) in
      let fe : all (wf_element b (length l₀)) es ≡ true = subst (λ z. all (wf_element b z) es ≡ true) (ok_length b (length l₀) e eo) ih.fine in
      record { fine = rw (eo, fe); few = λ k. omega (arith, ih.few (omega arith)) }

  pub value_wf : {ts : List Token} {v : List Element} → ValueParts b ts v → all ok_token ts ≡ true → wf_value b v ≡ true
  value_wf (value_parts {x = x} {i = i} {ts = ts} {is = is} {js = js} {gs = gs} {l = l} {e = e} {es = es} u j o f hl d m hc) ht =
      let ks : Bool = ok_links b (strip js) in
      let hg : ks && all (ok_g b) gs ≡ true = rw o at (collect_ok b is (joins_wf j (search conjuncts))) in
      let hi : wf_unit b i ≡ true = unit_wf u (search conjuncts) in
      let ll : leading e ≡ l = tail_lead d in
      let eo : wf_element b (length (leading e)) e ≡ true = argument_wf (length (leading e)) f d hi (search conjuncts) (ap length (sym ll)) in
      let ls : LatersWf (length (leading e)) 2 es = laters_wf m (ok_lead b (length (leading e)) e eo) (search conjuncts) in
      let h3 : length (leading e) ≤ 3 = rw ll hl in
      rw (le-leb (length (leading e)) 3 h3, eo, ls.fine, le-leb (suc (length es)) 64 (omega (arith, ls.few (omega arith))), le-leb (value_count (e ∷ es)) 4096 hc)
