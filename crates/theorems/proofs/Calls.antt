-- The calls, from the theorems on trees: a call's result is opened step by step, each refusal excluded by its premise.
use Prim.Native.Nat.{ℕ, ◌≤◌, ◌<◌}
use mathlib.Core.Path.{◌≡◌, refl, sym, ap, ◌∙◌, subst}
use mathlib.Core.Bool.{true}
use mathlib.Core.List.{List, [], ◌∷◌, map}
use mathlib.Core.Option.{some}
use native.Mathlib.Omega.{arith}
use native.Mathlib.Nat.{le_trans}
use lib.Dec.{leb, ltb}
use lib.ListN.{length, get_or}
use borrow.Author.Tests.{le-leb, leb-true, lt-leb, lt-ltb, ltb-true, le-ltb}
use Rattle.laws.specs.Cases.{by_bool}
use Rattle.rules.specs.Refusals.{Res, ok, bad, map_r, most_text, too_long, no_room, no_such_order}
use Rattle.rules.specs.Commands.{Command}
use Rattle.rules.specs.Reading.{read}
use Rattle.rules.specs.Records.{encode, count_in}
use Rattle.rules.specs.WellFormed.{well_formed, record_of}
use Rattle.rules.specs.Printing.{print}
use Rattle.rules.specs.Orders.{orders, order_at, count}
use Rattle.rules.specs.Listing.{list_bytes, pieces_of}
use Rattle.rules.specs.Answers.{fitted, reading, printing, order_of, ordering, listing}
use Rattle.rules.proofs.CountIsField.{counted, order_count, order_one}
use Rattle.rules.proofs.DirectIsList.{count_is, direct_is}
use Rattle.rules.proofs.EncodeDecode.{IsRecord, record_is, record_of_lem}
use Rattle.rules.proofs.NeverLonger.{never_longer, read_most}
use Rattle.rules.proofs.OrderFits.{order_fits}
use Rattle.rules.proofs.OrderWellFormed.{order_wf}
use Rattle.rules.proofs.PiecesAreOrders.{list_back, piece_count, piece_at}
use Rattle.rules.proofs.ReadSound.{read_wf}
use Rattle.rules.proofs.ResultLaws.{ok_inj, bad_same, ok≢bad, bind_ok, map_ok, guard_ok}
use Rattle.rules.proofs.RoundTrip.{read_print}
use Rattle.rules.proofs.SoleOrder.{order_sole}
use Rattle.grammar.proofs.Exact.{sound, complete}
use Rattle.theorems.specs.Demands.{Accepted, Accepts, ReadWithoutRoom, RefusedForRoomAlone, Printable, PrintsGivenRoom, PrintWithoutRoom, PrintThenRead, ReadThenPrint, Past, Ordered, OrdersGivenRoom, OrderCarriesOne, OrdersAreListed, SoleOrderOnBytes, ListThenOrder}

-- ---- reading and printing

-- what fits was to be written, and has room
fitted_is : {C : Type 0} (old : List ℕ) (r : Res (List ℕ)) (w : List ℕ) → fitted old r ≡ ok w → (r ≡ ok w → length w ≤ length old → C) → C
fitted_is old r w h k =
    bind_ok r _ w h
    (λ v a q.
    guard_ok (leb (length v) (length old)) no_room (length v) (λ _. ok v) w q
    (λ t e.
    let same : v ≡ w = ok_inj e in
    k (a ∙ e) (subst (λ x. length x ≤ length old) same (leb-true (length v) (length old) t))))

-- and back, of bytes that are known to be others
fitted_as : (old x w : List ℕ) → x ≡ w → length w ≤ length old → fitted old (ok x) ≡ ok w
fitted_as old x w e h = rw e (rw (le-leb (length w) (length old) h))

pub accepts : Accepts
unfolding reading
accepts letters text old r = (there, back)
  where
    there : reading text letters old ≡ ok r → Accepted letters text old r
    there h =
        fitted_is old (map_r encode (read letters text)) r h
        (λ a room.
        map_ok encode (read letters text) r a (λ c q e. record { tree = c; follows = sound letters text c q; bytes = e; room = room }))

    back : Accepted letters text old r → reading text letters old ≡ ok r
    back x = rw (complete letters text x.tree x.follows) (fitted_as old (encode x.tree) r x.bytes x.room)

pub read_without_room : ReadWithoutRoom
unfolding reading
read_without_room letters text old c f h = rw (complete letters text c f, lt-leb (length (encode c)) (length old) h)

pub refused_for_room_alone : RefusedForRoomAlone
unfolding reading
refused_for_room_alone letters text old c n p f h =
    by_bool (leb (length (encode c)) (length old))
    (λ y. let done : reading text letters old ≡ ok (encode c) = rw (complete letters text c f, y) in ok≢bad (sym h ∙ done))
    (λ y. let refused : reading text letters old ≡ bad no_room (length (encode c)) = rw (complete letters text c f, y) in bad_same (sym h ∙ refused))

pub prints_given_room : PrintsGivenRoom
unfolding printing
prints_given_room r old text = (there, back)
  where
    there : printing r old ≡ ok text → Printable r old text
    there h =
        fitted_is old _ text h
        (λ a room.
        bind_ok (record_of r) _ text a
        (λ c q k.
        guard_ok (leb (length (print c)) most_text) too_long most_text (λ _. ok (print c)) text k
        (λ t e.
        let same : print c ≡ text = ok_inj e in
        record { tree = c; is = q; prints = same; few = subst (λ x. length x ≤ most_text) same (leb-true (length (print c)) most_text t); room = room })))

    back : Printable r old text → printing r old ≡ ok text
    back x = rw (x.is, x.prints, le-leb (length text) most_text x.few, le-leb (length text) (length old) x.room)

pub print_without_room : PrintWithoutRoom
unfolding printing
print_without_room r old c h few short = rw (h, le-leb (length (print c)) most_text few, lt-leb (length (print c)) (length old) short)

pub print_then_read : PrintThenRead
unfolding reading
print_then_read r text old new c h p room =
    let is : IsRecord r c = record_is r c h in
    let y : Printable r old text = (prints_given_room r old text).0 p in
    let text_is : text ≡ print c = sym y.prints ∙ ap print (ok_inj (sym y.is ∙ h)) in
    let few : length (print c) ≤ most_text = subst (λ x. length x ≤ most_text) text_is y.few in
    rw (text_is, read_print c is.well few) (fitted_as new (encode c) r is.bytes room)

pub read_then_print : ReadThenPrint
unfolding reading printing
read_then_print text letters old new r c p h room =
    fitted_is old (map_r encode (read letters text)) r p
    (λ q _.
    map_ok encode (read letters text) r q
    (λ d a e.
    let is : record_of r ≡ ok d = subst (λ x. record_of x ≡ ok d) e (record_of_lem d (read_wf letters text d a)) in
    let same : c ≡ d = ok_inj (sym h ∙ is) in
    let long : length (print c) ≤ length text = subst (λ x. length (print x) ≤ length text) (sym same) (never_longer letters text d a) in
    let few : length (print c) ≤ most_text = le_trans long (read_most letters text d a) in
    (rw (h, le-leb (length (print c)) most_text few, le-leb (length (print c)) (length new) (le_trans long room)), long)))

-- ---- orders

pub past : Past
unfolding ordering
past r old c k h le =
    let long : length (orders c) ≡ count c = count_is c (record_is r c h).well in
    rw (h, long) (rw (le-ltb k (count c) (rw long at le)))

pub orders_given_room : OrdersGivenRoom
unfolding ordering
orders_given_room r k old o = (there, back)
  where
    there : ordering r k old ≡ ok o → Ordered r k old o
    there h =
        fitted_is old (map_r encode (order_of r k)) o h
        (λ a room.
        map_ok encode (order_of r k) o a
        (λ d z is.
        bind_ok (record_of r) _ d z
        (λ c q e.
        guard_ok (ltb k (count c)) no_such_order (count c) (λ _. ok (order_at c k)) d e
        (λ t same. record { tree = c; is = q; below = ltb-true k (count c) t; bytes = ap encode (ok_inj same) ∙ is; room = room }))))

    back : Ordered r k old o → ordering r k old ≡ ok o
    back x = rw (x.is, lt-ltb k (count x.tree) x.below) (fitted_as old (encode (order_at x.tree k)) o x.bytes x.room)

pub order_carries_one : OrderCarriesOne
order_carries_one r old o k h =
    let x : Ordered r k old o = (orders_given_room r k old o).0 h in
    ap count_in (sym x.bytes) ∙ order_one x.tree k (record_is r x.tree x.is).well

pub orders_are_listed : OrdersAreListed
unfolding ordering
orders_are_listed r old c d k h lt room =
    let well : well_formed c ≡ true = (record_is r c h).well in
    let long : length (orders c) ≡ count c = count_is c well in
    let below : k < count c = rw long at lt in
    let same : get_or (orders c) k d ≡ order_at c k = direct_is c k d well below in
    let fits : length (encode (order_at c k)) ≤ length old = rw same at room in
    (counted r c h ∙ ap ok (sym long), rw (h, lt-ltb k (count c) below, same, le-leb (length (encode (order_at c k))) (length old) fits))

pub sole_order_on_bytes : SoleOrderOnBytes
unfolding reading ordering
sole_order_on_bytes r o t old new also k h p room =
    let x : Ordered r k old o = (orders_given_room r k old o).0 h in
    let y : Printable r new t = (prints_given_room r new t).0 p in
    let c : Command = x.tree in
    let d : Command = order_at c k in
    let well : well_formed d ≡ true = order_wf c k (record_is r c x.is).well in
    let is : record_of o ≡ ok d = subst (λ z. record_of z ≡ ok d) x.bytes (record_of_lem d well) in
    let same : y.tree ≡ c = ok_inj (sym y.is ∙ x.is) in
    let long : length (print c) ≡ length t = ap (λ z. length (print z)) (sym same) ∙ ap length y.prints in
    let fits : length (print d) ≤ length t = omega (arith, order_fits c k (record_is r c x.is).well, long) in
    let few : length (print d) ≤ most_text = le_trans fits y.few in
    let one : orders d ≡ d ∷ [] = order_sole c k in
    let counts : count d ≡ 1 = order_count c k (record_is r c x.is).well in
    let first : order_at d 0 ≡ d = sym (direct_is d 0 d well (omega (arith, counts))) ∙ ap (λ l. get_or l 0 d) one in
    record {
      tree = d;
      is = is;
      text = print d;
      printed = (prints_given_room o new (print d)).1 (record { tree = d; is = is; prints = refl; few = few; room = le_trans fits y.room });
      read_back = rw (read_print d well few) (fitted_as also (encode d) o x.bytes room);
      counted = counted o d is ∙ ap ok counts;
      only = rw (is, counts, first) (fitted_as also (encode d) o x.bytes room);
    }

-- ---- the list

pub list_then_order : ListThenOrder
unfolding listing
list_then_order r old bytes h =
    fitted_is old (map_r list_bytes (record_of r)) bytes h
    (λ a _.
    map_ok list_bytes (record_of r) bytes a
    (λ c q e.
    let ws : List (List ℕ) = map encode (orders c) in
    let well : well_formed c ≡ true = (record_is r c q).well in
    let many : length ws ≡ count c = piece_count c well in
    record {
      pieces = ws;
      are = e;
      read_again = subst (λ x. pieces_of x ≡ some ws) e (list_back c);
      many = counted r c q ∙ ap ok (sym many);
      each = λ k room lt fits.
          let below : k < count c = rw many at lt in
          (orders_given_room r k room (get_or ws k [])).1 (record { tree = c; is = q; below = below; bytes = sym (piece_at c k well below); room = fits });
    }))
