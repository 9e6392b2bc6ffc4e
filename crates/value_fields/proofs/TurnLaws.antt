-- A walk over the elements of a value without fault: what the code finds at each turn is the rules' next element, with its bytes.
use Prim.Native.Nat.{ℕ, ◌+◌, ◌-◌, ◌*◌, ◌^◌, ◌≤◌, ◌<◌}
use mathlib.Core.Path.{◌≡◌, refl, sym, ◌∙◌, ap}
use mathlib.Core.Bool.{cond}
use mathlib.Core.List.{List, [], ◌∷◌, ◌++◌, append-nil}
use native.Mathlib.Omega.{arith}
use lib.Dec.{eqb}
use lib.ListN.{length}
use Rattle.rules.specs.Commands.{Element, single, range}
use Rattle.rules.specs.Groups.{read_value}
use Rattle.rules.specs.Records.{field, field_bytes, bytes_of, element_fields, many}
use Rattle.rules.specs.Refusals.{ok}
use Rattle.rules.specs.Tokens.{sep_code, amp_}
use Rattle.rules.specs.Units.{Base, letter}
use Rattle.rules.proofs.FieldLaws.{bytes_append, many_append}
use Rattle.rules.proofs.ResultLaws.{ok_inj}
use Rattle.token_table.specs.Table.{tokens_in}
use Rattle.read_joins.specs.Joins.{joins_in, kind_at, unit_at, next_at, count, sep_kind}
use Rattle.read_joins.specs.Answers.{element_answer, next_of, ArgEnd}
use Rattle.read_elements.specs.Shapes.{Later}
use Rattle.read_joins.specs.declared.Shape.{Shape}
use Rattle.read_joins.specs.declared.Shape.TheVariants.{Single}
use Rattle.read_joins.proofs.JoinLaws.{joins_length, kind_is}
use Rattle.std.proofs.Common.{Result, Ok}
use Rattle.std.specs.Prelude.{IsOk}
use Rattle.rules.specs.declared.Refusal.{Refusal}
use Rattle.token_table.specs.declared.Token.{Token as Entry}
use Rattle.read_elements.proofs.WalkLaws.{one_element, answer_next, next_from}
use Rattle.read_elements.proofs.StandLaws.{front_at, last_at}
use Rattle.read_elements.proofs.EachLaws.{Between, between_none, between_end, turn, turn_answer}
use Rattle.read_value.specs.Passes.{Faultless}
use Rattle.read_value.proofs.FaultlessLaws.{sound}
use Rattle.value_fields.specs.Measure.{bytes_at, bytes_from, element_bytes}
use Rattle.value_fields.proofs.BytesLaws.{element_is}

-- ---- the bytes of elements

abbrev pub value_bytes : List Element → List ℕ
value_bytes es = bytes_of (many element_fields es)

pub value_append : (xs ys : List Element) → value_bytes (xs ++ ys) ≡ value_bytes xs ++ value_bytes ys
value_append xs ys = ap bytes_of (many_append element_fields xs ys) ∙ bytes_append (many element_fields xs) (many element_fields ys)

pub value_snoc : (xs : List Element) (e : Element) → value_bytes (xs ++ (e ∷ [])) ≡ value_bytes xs ++ bytes_of (element_fields e)
value_snoc xs e = value_append xs (e ∷ []) ∙ ap (λ x. value_bytes xs ++ bytes_of x) (append-nil (element_fields e))

-- ---- the turns

answer_ok : (n : ℕ) (e : Element) {r : Result Shape Refusal} → r ≡ element_answer n (ok e) → IsOk r
answer_ok n (single l u) q = rw q
answer_ok n (range l r lo up inc) q = rw q

-- the element met at n: the code's answer x for it, where the next one begins, where its leading units and its last unit stand
pub record Met (l : ℕ) (cs : List ℕ) (ts : List Entry) (k : ℕ) (done : List Element) (n : ℕ) (x : Shape) (nx f la : ℕ) : Type 0 where
  pub el : Element
  pub bytes : element_bytes l cs ts x f k la ≡ bytes_of (element_fields el)
  pub then : Between (joins_in l cs ts) k (done ++ (el ∷ [])) nx f
  pub few : length done < 64
  pub on : n < nx
  pub front : f + k ≤ count ts
  pub last : la < count ts

module _ (l : ℕ) (cs : List ℕ) (ts : List Entry) where
  -- the only element of a value of one unit
  pub one_bytes : length ts ≡ 1 → (b : Base) (e : ℕ) (es : List Element) → l ≡ letter b → read_value b (tokens_in cs ts) e ≡ ok es
      → value_bytes es ≡ field_bytes (field 5 []) ++ bytes_at l cs ts 0
  unfolding element_bytes bytes_from
  one_bytes h b e es own g =
      let s = sound b ts cs e es g in
      let x = single [] (unit_at (joins_in l cs ts) 0) in
      let z : es ≡ x ∷ [] = ok_inj (sym (rw own s.groups) ∙ one_element l cs ts h) in
      rw z (value_snoc [] x ∙ sym (element_is b l own ts cs es s (Single 0) x 0 0 0 0 refl refl refl (omega arith) (omega arith)))

  pub met_none : (v : Faultless ts cs l) {q : ℕ} → ArgEnd ts 1 q → Between (joins_in l cs ts) (q - 1) [] 0 0
  met_none v a =
      let s = sound v.base ts cs v.end v.es v.is in
      between_none l cs ts v.es s.some (rw v.own s.groups) a

  module _ {k : ℕ} {done : List Element} {n f : ℕ} (w : Between (joins_in l cs ts) k done n f) {m : ℕ} (c : m ≡ count ts) where
    -- nothing is left
    pub met_all : m ≤ n → (b : Base) (e : ℕ) (es : List Element) → l ≡ letter b → read_value b (tokens_in cs ts) e ≡ ok es → done ≡ es
    met_all h b e es own g =
        let d = between_end (joins_in l cs ts) w (omega (arith, joins_length l cs ts)) in
        ok_inj (sym d ∙ rw own (sound b ts cs e es g).groups)

    -- the last unit's index fits
    pub last_small : n < m → length ts * 8 < 2 ^ 63 → n + k < 18446744073709551616
    last_small h g = omega (arith, w.short)

    -- the element is one
    pub met_fine : (v : Faultless ts cs l) → n < m → {r : Result Shape Refusal} → Later (joins_in l cs ts) k n r → IsOk r
    met_fine v h y =
        let t = turn (joins_in l cs ts) w (omega (arith, joins_length l cs ts)) in
        answer_ok (next_at (joins_in l cs ts) (n + 1)) t.el (turn_answer (joins_in l cs ts) t y)

    module _ {r : Result Shape Refusal} {x : Shape} {kd f' la : ℕ} (v : Faultless ts cs l) (h : n < m) (y : Later (joins_in l cs ts) k n r) (u : r ≡ Ok x) (ek : kd ≡ sep_kind ts n)
        (ef : f' ≡ cond (eqb kd (sep_code amp_)) f n) (ea : la ≡ cond (eqb kd (sep_code amp_)) n (n + k)) where
      pub met : Met l cs ts k done n x (next_of x) f' la
      met =
          let js = joins_in l cs ts in
          let t = turn js w (omega (arith, joins_length l cs ts)) in
          let st = t.stands in
          let a : Ok x ≡ element_answer (next_at js (n + 1)) (ok t.el) = sym u ∙ turn_answer js t y in
          let kn : kind_at js n ≡ kd = kind_is l cs ts n ∙ sym ek in
          let zf : front_at js f n ≡ f' = rw (kn, ef) in
          let zl : last_at js k n ≡ la = rw (kn, ea) in
          let zn : next_at js (n + 1) ≡ next_of x = sym (answer_next (next_at js (n + 1)) t.el a) in
          let hf : f' + k ≤ count ts = omega (arith, st.front_inside, joins_length l cs ts) in
          let hl : la < count ts = omega (arith, st.last_inside, joins_length l cs ts) in
          record {
            el = t.el;
            bytes = element_is v.base l v.own ts cs v.es (sound v.base ts cs v.end v.es v.is) x t.el (next_at js (n + 1)) f' k la a
                (rw (← zf) st.leads) (rw (← zl) st.last) hf hl;
            then = rw (← zf, ← zn) t.then;
            few = t.few;
            on = omega (arith, next_from js (n + 1));
            front = hf;
            last = hl;
          }

      pub met_front : f' + k ≤ count ts
      met_front = met.front

      pub met_last : la < count ts
      met_last = met.last

      pub met_less : {nx : ℕ} → nx ≡ next_of x → count ts - nx < count ts - n
      met_less q = omega (arith, met.on, q)
