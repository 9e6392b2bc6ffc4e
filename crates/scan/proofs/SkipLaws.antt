-- Format effectors change none of the five states between and inside words and separators, since each tests for them and stays.
use Prim.Native.Nat.{ℕ, ◌+◌, ◌<◌, ◌≤◌}
use mathlib.Core.Path.{◌≡◌, refl, sym, ap, ◌∙◌}
use mathlib.Core.Bool.{Bool, true, false, not}
use mathlib.Core.List.{List}
use native.Mathlib.Omega.{arith}
use lib.Dec.{eqb}
use lib.ListN.{length, get_or, get_or-eq_default}
use borrow.Author.Tests.{eqb-true}
use Rattle.rules.specs.Characters.{byte, is_word_char, is_effector}
use Rattle.rules.specs.Tokens.{State, idle, in_word, in_plus, one_amp, two_amp}
use denote.Enum.Bare.{sameb, differs_true, differs_false}
use Rattle.chars.specs.contracts.Class.{the_type}
use Rattle.chars.specs.declared.Class.{Class}
use Rattle.chars.specs.declared.Class.TheVariants.{Effector}
use Rattle.chars.specs.Classes.{class_of, number, effector_class}
use Rattle.chars.proofs.ClassLaws.{other_class_of, effector_yes, effector_no, is_word, is_effector_lem, is_plus, is_amp, is_dash, is_comma, is_colon, is_equals, is_semi, is_slash, is_mark}
use Rattle.scan.specs.Along.{run_at, Skips, Skipped}
use Rattle.scan.proofs.RunLaws.{stayed}

module _ (c : ℕ) (e : is_effector c ≡ true) where
  its_class : class_of c ≡ effector_class
  its_class = eqb-true (class_of c) effector_class (sym (is_effector_lem c) ∙ e)

  not_word : is_word_char c ≡ false
  not_word = is_word c ∙ rw its_class

  not_plus : eqb c (byte "+") ≡ false
  not_plus = is_plus c ∙ rw its_class

  not_amp : eqb c (byte "&") ≡ false
  not_amp = is_amp c ∙ rw its_class

  not_dash : eqb c (byte "-") ≡ false
  not_dash = is_dash c ∙ rw its_class

-- ---- the states that they leave

pub skips_idle : Skips idle
skips_idle p c e =
    rw (not_word c e, not_plus c e, not_amp c e, not_dash c e, is_comma c, is_colon c, is_equals c, is_semi c, is_slash c, is_mark c, e, its_class c e)

pub skips_word : (q : ℕ) (w : List ℕ) → Skips (in_word q w)
skips_word q w p c e = rw (not_word c e, not_plus c e, e)

pub skips_plus : (q : ℕ) (w : List ℕ) (r : ℕ) → Skips (in_plus q w r)
skips_plus q w r p c e = rw (not_word c e, not_plus c e, e)

pub skips_one : (q : ℕ) → Skips (one_amp q)
skips_one q p c e = rw (not_amp c e, not_dash c e, e)

pub skips_two : (q : ℕ) → Skips (two_amp q)
skips_two q p c e = rw (not_dash c e, e)

-- the loop's invariant: from i to r the automaton met format effectors only
pub record Skipping (s : List ℕ) (i r : ℕ) : Type 0 where
  pub reads : (st : State) → Skips st → run_at st s i ≡ run_at st s r
  pub past : i ≤ r
  pub inside : r ≤ length s

-- ---- the turns

pub skip_none : (s : List ℕ) (i : ℕ) → i ≤ length s → Skipping s i i
skip_none s i h = record { reads = λ st f. refl; past = omega arith; inside = h }

module _ (s : List ℕ) (i₀ i : ℕ) (v : Skipping s i₀ i) where
  -- b: is the byte no format effector?
  pub skip_more : {b : Bool} (k : Class) → i < length s → number k ≡ class_of (get_or s i 0) → b ≡ not (sameb the_type k Effector) → b ≡ false → Skipping s i₀ (i + 1)
  skip_more {b} k h e d f =
      let t : k ≡ Effector = differs_false the_type tt k Effector (sym d ∙ f) in
      record {
        reads = λ st f. v.reads st f ∙ stayed st st s i h (f i (get_or s i 0) (effector_yes (get_or s i 0) e (ap number t)));
        past = omega (arith, v.past);
        inside = omega arith;
      }

  pub skip_stop : {b : Bool} (k : Class) → number k ≡ class_of (get_or s i 0) → b ≡ not (sameb the_type k Effector) → b ≡ true → Skipped s i₀ i
  skip_stop {b} k e d f =
      let n : k ≡ Effector → ⊥ = differs_true the_type k Effector (sym d ∙ f) in
      record { reads = v.reads; stops = effector_no (get_or s i 0) e (other_class_of n); past = v.past; inside = v.inside }

  pub skip_end : length s ≤ i → Skipped s i₀ (length s)
  skip_end h =
      let e : i ≡ length s = omega (arith, v.inside) in
      let stops : is_effector (get_or s i 0) ≡ false = ap is_effector (get_or-eq_default s 0 h) in
      rw (← e) (record { reads = v.reads; stops = stops; past = v.past; inside = v.inside })
