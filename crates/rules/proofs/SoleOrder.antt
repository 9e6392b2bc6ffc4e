-- An order has itself as its sole order: one argument's list is itself, and a product of one-member lists has one member.
use Prim.Native.Nat.{ℕ, ◌-◌, ◌%◌}
use mathlib.Core.Path.{◌≡◌, refl}
use mathlib.Core.List.{List, [], ◌∷◌, map}
use lib.Dec.{ltb}
use Rattle.laws.specs.Cases.{by_bool}
use Rattle.rules.specs.Commands.{Element, single, range, Place, place, Block, block, Command, command, terms, value_count}
use Rattle.rules.specs.Orders.{product, term_at, arguments, value_orders, place_orders, block_orders, orders, argument_at, value_at, place_at, back, block_at, order_at}

pub term_sole : (e : Element) (k : ℕ) → arguments (term_at e k) ≡ term_at e k ∷ []
term_sole (single l u) k = refl
term_sole (range l r lo up inc) k = refl

pub arg_sole : (e : Element) (es : List Element) (k : ℕ) → arguments (argument_at e es k) ≡ argument_at e es k ∷ []
arg_sole e [] k = term_sole e k
arg_sole e (e' ∷ es) k =
    by_bool (ltb k (terms e)) (λ y. rw (y, argument_at) (term_sole e k)) (λ y. rw (y, argument_at) (arg_sole e' es (k - terms e)))

pub value_sole : (v : List Element) (k : ℕ) → value_orders (value_at v k) ≡ value_at v k ∷ []
value_sole [] k = refl
value_sole (e ∷ es) k = rw (arg_sole e es k)

pub place_sole : (p : Place) (k : ℕ) → place_orders (place_at p k).0 ≡ (place_at p k).0 ∷ []
place_sole (place b nm v) k = rw (value_sole v (k % value_count v))

module _ {A : Type 0} (f : A → ℕ → A × ℕ) (ord : A → List A) (sole : (a : A) (k : ℕ) → ord (f a k).0 ≡ (f a k).0 ∷ []) where
  pub back_sole : (xs : List A) (k : ℕ) → product (map ord (back f xs k).0) ≡ (back f xs k).0 ∷ []
  back_sole [] k = refl
  back_sole (a ∷ xs) k = rw (sole a (back f xs k).1, back_sole xs k)

pub block_sole : (b : Block) (k : ℕ) → block_orders (block_at b k).0 ≡ (block_at b k).0 ∷ []
block_sole (block t ps) k = rw (back_sole place_at place_orders place_sole ps k)

pub order_sole : (c : Command) (k : ℕ) → orders (order_at c k) ≡ order_at c k ∷ []
order_sole (command c bs) k = rw (back_sole block_at block_orders block_sole bs k)
