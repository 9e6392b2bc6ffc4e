-- M-100: no beginning of a line that keys made is ready but the line itself, since a key to a ready line starts an empty one; so of such a line the last byte alone tells, and what
-- the reader accepts can be typed key by key.
use Prim.Native.Nat.{ℕ, zero, suc, ◌+◌, ◌-◌, ◌≤◌, ◌<◌}
use mathlib.Core.Path.{◌≡◌, refl, sym, ap, subst, ◌∙◌}
use mathlib.Core.Bool.{Bool, true, false, false≢true}
use mathlib.Core.List.{List, [], ◌∷◌, ◌++◌, append-nil}
use native.Mathlib.Omega.{arith}
use lib.Dec.{eqb, ltb}
use lib.ListN.{length, take, length-append, length-take}
use lib.Seq.{append_snoc, take-take, take-append-le, take-append_seam}
use borrow.Author.Tests.{lt-ltb, ltb-true, ltb-false, eqb-true}
use Rattle.laws.specs.Cases.{by_bool, and_l, and_r, conjuncts}
use Rattle.laws.specs.Lists.{all, is_nil}
use Rattle.rules.specs.Refusals.{ok}
use Rattle.rules.specs.Characters.{is_permitted}
use Rattle.rules.specs.Tokens.{State, idle, step}
use Rattle.rules.specs.Commands.{Command}
use Rattle.rules.specs.Reading.{read}
use Rattle.rules.specs.Keeping.{state_of, ends_line, ready_from, ready, line, press, line_press, line_after}
use Rattle.rules.proofs.ReadyLine.{Begins, accepted_begins}
use Rattle.rules.proofs.ReadSteps.{scan_read, command_read_lem}

-- ---- no proper beginning is ready

abbrev Clear : List ℕ → Type 0
Clear l = (n : ℕ) → n < length l → ready (take n l) ≡ false

clear_nil : Clear []
clear_nil n h = absurd (omega arith)

-- a beginning of such a line is such a line
clear_take : (m : ℕ) (l : List ℕ) → Clear l → Clear (take m l)
clear_take m l h n k =
    let e : length (take m l) ≡ _ = length-take m l in
    rw (take-take n m l (omega (arith, e))) (h n (omega (arith, e)))

-- one byte more, where the line is not ready itself
clear_more : (l : List ℕ) (c : ℕ) → Clear l → ready l ≡ false → Clear (l ++ c ∷ [])
clear_more l c h r n k =
    by_bool (ltb n (length l))
    (λ y. rw (take-append-le n l (c ∷ []) (omega (arith, ltb-true n (length l) y))) (h n (ltb-true n (length l) y)))
    (λ y.
    let e : n ≡ length l = omega (arith, ltb-false n (length l) y, length-append l (c ∷ [])) in
    rw (e, take-append_seam l (c ∷ [])) r)

-- the line that a key finds
clear_line : (bs : List ℕ) → Clear bs → Clear (line bs)
clear_line bs h = by_bool (ready bs) (λ y. rw y clear_nil) (λ y. rw y h)

line_unready : (bs : List ℕ) → ready (line bs) ≡ false
unfolding ready
line_unready bs = by_bool (ready bs) (λ y. rw y) (λ y. rw y y)

clear_press : (bs : List ℕ) (c : ℕ) → Clear bs → Clear (line_press bs c)
unfolding press
clear_press bs c h =
    let l : List ℕ = line bs in
    by_bool (eqb c 8)
    (λ y. rw y (clear_take (length l - 1) l (clear_line bs h)))
    (λ y.
    by_bool (eqb c 24)
    (λ z. rw (y, z) clear_nil)
    (λ z. by_bool (ltb (length l) 1024) (λ w. rw (y, z, w) (clear_more l c (clear_line bs h) (line_unready bs))) (λ w. rw (y, z, w) h)))

clear_keys : (cs bs : List ℕ) → Clear bs → Clear (line_after bs cs)
clear_keys [] bs h = h
clear_keys (c ∷ cs) bs h = clear_keys cs (line_press bs c) (clear_press bs c h)

-- ---- the last byte alone tells

-- from a state, the bytes from place p on: the last one is a `;` outside string and comment
abbrev pub last_from : State → ℕ → List ℕ → Bool
last_from s p [] = false
last_from s p (c ∷ []) = ends_line s c
last_from s p (c ∷ d ∷ cs) = last_from (state_of (step s p c)) (suc p) (d ∷ cs)

abbrev pub last_ends : List ℕ → Bool
last_ends bs = last_from idle 0 bs

one_ready : (s : State) (p c : ℕ) → ready_from s p (c ∷ []) ≡ ends_line s c
one_ready s p c = by_bool (ends_line s c) (λ y. rw (y, ready_from)) (λ y. rw (y, ready_from))

last_tells : (l : List ℕ) (s : State) (p : ℕ) → ((n : ℕ) → n < length l → ready_from s p (take n l) ≡ false) → ready_from s p l ≡ last_from s p l
last_tells [] s p h = refl
last_tells (c ∷ []) s p h = one_ready s p c
last_tells (c ∷ d ∷ cs) s p h =
    let y : ends_line s c ≡ false = sym (one_ready s p c) ∙ h 1 (omega arith) in
    rw (y, ready_from)
    (last_tells (d ∷ cs) (state_of (step s p c)) (suc p) (λ n k. let w : ready_from s p (c ∷ take n (d ∷ cs)) ≡ false = h (suc n) (omega arith) in rw (y, ready_from) at w))

-- after every run of keys from an empty line
pub ready_last : (keys : List ℕ) → ready (line_after [] keys) ≡ last_ends (line_after [] keys)
unfolding ready
ready_last keys = last_tells (line_after [] keys) idle 0 (clear_keys keys [] clear_nil)

-- ---- what is typed

nil_length : {C : Type 0} (l : List ℕ) → is_nil l ≡ true → 0 < length l → C
nil_length [] h k = absurd (omega arith)
nil_length (c ∷ cs) h k = absurd (false≢true h)

before_ready : (l : List ℕ) (s : State) (p n : ℕ) → ready_from s p l ≡ true → n < length l → ready_from s p (take n l) ≡ false
before_ready [] s p n r h = absurd (false≢true r)
before_ready (c ∷ cs) s p zero r h = refl
before_ready (c ∷ cs) s p (suc n) r h =
    by_bool (ends_line s c)
    (λ y. nil_length cs (rw (y, ready_from) at r) (omega arith))
    (λ y. rw (y, ready_from) (before_ready cs (state_of (step s p c)) (suc p) n (rw (y, ready_from) at r) (omega arith)))

clear_ready : (l : List ℕ) → ready l ≡ true → Clear l
unfolding ready
clear_ready l r n h = before_ready l idle 0 n r h

permitted_no : (c n : ℕ) → is_permitted n ≡ false → is_permitted c ≡ true → eqb c n ≡ false
permitted_no c n k h = by_bool (eqb c n) (λ y. absurd (false≢true (sym k ∙ subst (λ m. is_permitted m ≡ true) (eqb-true c n y) h))) (λ y. y)

-- permitted bytes behind a line of which no proper beginning is ready are held one by one
typed : (cs bs : List ℕ) → Clear (bs ++ cs) → length (bs ++ cs) ≤ 1024 → all is_permitted cs ≡ true → line_after bs cs ≡ bs ++ cs
unfolding press
typed [] bs h few ok' = sym (append-nil bs)
typed (c ∷ cs) bs h few ok' =
    let long : length (bs ++ (c ∷ cs)) ≡ length bs + suc (length cs) = length-append bs (c ∷ cs) in
    let r : ready bs ≡ false = rw (take-append_seam bs (c ∷ cs)) at (h (length bs) (omega (arith, long))) in
    let good : is_permitted c ≡ true = and_l (is_permitted c) (all is_permitted cs) ok' in
    let e : line_press bs c ≡ bs ++ c ∷ [] = rw (permitted_no c 8 refl good, permitted_no c 24 refl good, r, lt-ltb (length bs) 1024 (omega (arith, long))) in
    let whole : bs ++ (c ∷ []) ++ cs ≡ bs ++ (c ∷ cs) = append_snoc bs c cs in
    ap (λ l. line_after l cs) e
    ∙ typed cs (bs ++ c ∷ []) (subst Clear (sym whole) h) (rw whole few) (search conjuncts)
    ∙ whole

-- the bytes of a text that are typed: they are held as they are, and make the line ready
pub record Typed (text : List ℕ) : Type 0 where
  pub long : ℕ
  pub held : line_after [] (take long text) ≡ take long text
  pub is : ready (take long text) ≡ true

all_take : (f : ℕ → Bool) (n : ℕ) (l : List ℕ) → all f l ≡ true → all f (take n l) ≡ true
all_take f zero l h = refl
all_take f (suc n) [] h = refl
all_take f (suc n) (c ∷ cs) h = rw (and_l (f c) (all f cs) h) (all_take f n cs (and_r (f c) (all f cs) h))

-- what the reader accepts can be typed
pub accepted_typed : (letters text : List ℕ) (c : Command) → read letters text ≡ ok c → Typed text
unfolding ready
accepted_typed letters text c h =
    let b : Begins idle 0 text = accepted_begins letters text c h in
    let t : List ℕ = take b.long text in
    let r = command_read_lem letters text c h in
    let s = scan_read text r.ts r.tokens in
    let few : length t ≤ 1024 = omega (arith, length-take b.long text, s.few) in
    record {
      long = b.long;
      held = typed t [] (clear_ready t b.is) few (all_take is_permitted b.long text s.permitted);
      is = b.is;
    }
