-- The refusals' numbers as the code has them: each number of the tables as a reason, and a refusal as reason and place.
use Rattle.std.specs.Prelude.{ℕ, cond, eqb}
use Rattle.rules.specs.declared.Reason.{Reason}
use Rattle.rules.specs.declared.Reason.TheVariants.{WrongLetter, TooLong, NotPermitted, Unclosed, NoToken, NoEnd, AfterEnd, WrongCode, KindDiffers, WrongName, WrongShape, Unreadable, TooBig, GroupBroken, TooMany, TooManyOrders, NoRoom, NotWellFormed, NoSuchOrder, NoKey, NameTwice, NoSuchPlace, WrongArgument, WrongRow}
use Rattle.rules.specs.declared.Refusal.{Refusal}
use Rattle.rules.specs.Refusals.{wrong_letter, too_long, not_permitted, unclosed, no_token, no_end, after_end, wrong_code, kind_differs, wrong_name, wrong_shape, unreadable, too_big, group_broken, too_many, too_many_orders, no_room, not_well_formed, no_such_order, no_key, name_twice, no_such_place, wrong_argument, wrong_row}

-- the number that the tables give a reason
abbrev pub number : Reason → ℕ
number WrongLetter = wrong_letter
number TooLong = too_long
number NotPermitted = not_permitted
number Unclosed = unclosed
number NoToken = no_token
number NoEnd = no_end
number AfterEnd = after_end
number WrongCode = wrong_code
number KindDiffers = kind_differs
number WrongName = wrong_name
number WrongShape = wrong_shape
number Unreadable = unreadable
number TooBig = too_big
number GroupBroken = group_broken
number TooMany = too_many
number TooManyOrders = too_many_orders
number NoRoom = no_room
number NotWellFormed = not_well_formed
number NoSuchOrder = no_such_order
number NoKey = no_key
number NameTwice = name_twice
number NoSuchPlace = no_such_place
number WrongArgument = wrong_argument
number WrongRow = wrong_row

-- the reason that has the number; every refusal's number is one of the tables (`FromTheList`)
abbrev pub reason_of : ℕ → Reason
reason_of n =
    cond (eqb n wrong_letter) WrongLetter (
    cond (eqb n too_long) TooLong (
    cond (eqb n not_permitted) NotPermitted (
    cond (eqb n unclosed) Unclosed (
    cond (eqb n no_token) NoToken (
    cond (eqb n no_end) NoEnd (
    cond (eqb n after_end) AfterEnd (
    cond (eqb n wrong_code) WrongCode (
    cond (eqb n kind_differs) KindDiffers (
    cond (eqb n wrong_name) WrongName (
    cond (eqb n wrong_shape) WrongShape (
    cond (eqb n unreadable) Unreadable (
    cond (eqb n too_big) TooBig (
    cond (eqb n group_broken) GroupBroken (
    cond (eqb n too_many) TooMany (
    cond (eqb n too_many_orders) TooManyOrders (
    cond (eqb n no_room) NoRoom (
    cond (eqb n not_well_formed) NotWellFormed (
    cond (eqb n no_such_order) NoSuchOrder (
    cond (eqb n no_key) NoKey (
    cond (eqb n name_twice) NameTwice (
    cond (eqb n no_such_place) NoSuchPlace (
    cond (eqb n wrong_argument) WrongArgument (
    WrongRow)))))))))))))))))))))))

abbrev pub refusal : ℕ → ℕ → Refusal
refusal n p = record { reason = reason_of n; place = p }
