-- Leading units of equal number are the same exactly where the bytes begin the same, since a field tells its own length.
use Prim.Native.Nat.{◌%◌, ◌+◌, ◌-◌, ◌/◌, ◌<◌, ℕ}
use borrow.Author.Tests.{eq-eqb, eqb-true, le-ltb, lt-ltb, ne_eqb}
use lib.Dec.{eqb, ltb}
use lib.ListN.{drop, length, length-drop}
use lib.Seq.{length-take-le}
use mathlib.Core.Bool.{◌&&◌, not, true}
use mathlib.Core.List.{List, [], ◌++◌, ◌∷◌, append_assoc}
use mathlib.Core.Path.{◌∙◌, ◌≡◌, ap, refl, sym}
use native.Mathlib.Omega.{arith}
use Rattle.laws.specs.Cases.{and_r, by_bool}
use Rattle.laws.specs.Lists.{eq_l, is_nil}
use Rattle.rules.proofs.ValueBack.{same_items}
use Rattle.rules.specs.Commands.{Element, leading}
use Rattle.rules.specs.Printing.{is_short, same_units}
use Rattle.rules.specs.Records.{Field, field, field_bytes, unit_field}
use Rattle.rules.specs.Units.{Unit}
use Rattle.print_value.proofs.BeginLaws.{begins_none}
use Rattle.print_value.specs.Begins.{begins}
use Rattle.print_value.specs.Values.{Behind, short_at, unit_bytes}

begins_append : (a b x y : List ℕ) → length a ≡ length b → begins (b ++ y) (a ++ x) ≡ eq_l a b && begins y x
begins_append [] [] x y h = refl
begins_append [] (d ∷ b) x y h = absurd (omega arith)
begins_append (c ∷ a) [] x y h = absurd (omega arith)
begins_append (c ∷ a) (d ∷ b) x y h = by_bool (eqb c d) (λ e. rw e (begins_append a b x y (omega arith))) (λ e. rw e)

begins_field : (f g : Field) (x y : List ℕ) → begins (field_bytes g ++ y) (field_bytes f ++ x) ≡ eq_l (field_bytes f) (field_bytes g) && begins y x
begins_field (field t w) (field u v) x y =
    by_bool (eqb t u)
    (λ e. by_bool (eqb (length w / 256) (length v / 256))
    (λ h. by_bool (eqb (length w % 256) (length v % 256))
    (λ l. rw (e, h, l) (begins_append w v x y (long (eqb-true (length w / 256) (length v / 256) h) (eqb-true (length w % 256) (length v % 256) l))))
    (λ l. rw (e, h, l)))
    (λ h. rw (e, h)))
    (λ e. rw e)
  where
    long : length w / 256 ≡ length v / 256 → length w % 256 ≡ length v % 256 → length w ≡ length v
    long p q = omega arith

begins_units : (k l : List Unit) (rest : List ℕ) → length k ≡ length l → begins (unit_bytes l ++ rest) (unit_bytes k) ≡ same_units k l
begins_units [] [] rest h = begins_none rest
begins_units [] (j ∷ l) rest h = absurd (omega arith)
begins_units (i ∷ k) [] rest h = absurd (omega arith)
begins_units (i ∷ k) (j ∷ l) rest h =
    ap (λ (r : List ℕ). begins r (unit_bytes (i ∷ k))) (append_assoc (field_bytes (unit_field j)) (unit_bytes l) rest)
    ∙ begins_field (unit_field i) (unit_field j) (unit_bytes k) (unit_bytes l ++ rest)
    ∙ rw (begins_units k l rest (omega arith))

field_some : (f : Field) (x : List ℕ) → 0 < length (field_bytes f ++ x)
field_some (field t w) x = omega arith

-- units stand between two places, or none
pub none_between : (l : List Unit) (at last : ℕ) → last ≡ at + length (unit_bytes l) → eqb at last ≡ is_nil l
none_between [] at last e = eq-eqb at last (omega arith)
none_between (i ∷ l) at last e = ne_eqb at last (λ z. omega (arith, field_some (unit_field i) (unit_bytes l)))

pub some_between : (l : List Unit) (at last : ℕ) → last ≡ at + length (unit_bytes l) → ltb at last ≡ not (is_nil l)
some_between [] at last e = le-ltb at last (omega arith)
some_between (i ∷ l) at last e = lt-ltb at last (omega (arith, field_some (unit_field i) (unit_bytes l)))

same_length : (k l : List Unit) → length k ≡ length l → is_nil k ≡ is_nil l
same_length [] [] h = refl
same_length [] (j ∷ l) h = absurd (omega arith)
same_length (i ∷ k) [] h = absurd (omega arith)
same_length (i ∷ k) (j ∷ l) h = refl

module _ {rec : List ℕ} {from at lead until : ℕ} {e₀ e : Element} (s : Behind rec from at lead until e₀ e) where
  pub span : until - lead ≡ length (unit_bytes (leading e₀))
  span = sym (length-take-le (until - lead) (drop lead rec) (omega (arith, s.low, s.high, length-drop lead rec))) ∙ ap length s.bytes

  simple : eqb lead until ≡ is_nil (leading e)
  simple = none_between (leading e₀) lead until (omega (arith, span, s.low)) ∙ same_length (leading e₀) (leading e) s.many

  -- the test of the bytes is the rules' test
  pub short_is : (first : ℕ) (rest : List ℕ) → drop first rec ≡ unit_bytes (leading e) ++ rest → short_at rec first lead until ≡ is_short e₀ e
  unfolding short_at
  short_is first rest d = rw (simple, d, s.bytes, begins_units (leading e₀) (leading e) rest s.many)

pub short_same : (e₀ e : Element) → is_short e₀ e ≡ true → leading e₀ ≡ leading e
short_same e₀ e h = same_items (leading e₀) (leading e) (search (and_r))
