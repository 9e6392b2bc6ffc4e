-- A reason is the one that its number has.
use mathlib.Core.Path.{◌≡◌, refl}
use Rattle.rules.specs.declared.Reason.{Reason}
use Rattle.rules.specs.declared.Reason.TheVariants.{WrongLetter, TooLong, NotPermitted, Unclosed, NoToken, NoEnd, AfterEnd, WrongCode, KindDiffers, WrongName, WrongShape, Unreadable, TooBig, GroupBroken, TooMany, TooManyOrders, NoRoom, NotWellFormed, NoSuchOrder, NoKey, NameTwice, NoSuchPlace, WrongArgument, WrongRow}
use Rattle.rules.specs.Reasons.{number, reason_of}

pub reason_back : (x : Reason) → reason_of (number x) ≡ x
reason_back WrongLetter = refl
reason_back TooLong = refl
reason_back NotPermitted = refl
reason_back Unclosed = refl
reason_back NoToken = refl
reason_back NoEnd = refl
reason_back AfterEnd = refl
reason_back WrongCode = refl
reason_back KindDiffers = refl
reason_back WrongName = refl
reason_back WrongShape = refl
reason_back Unreadable = refl
reason_back TooBig = refl
reason_back GroupBroken = refl
reason_back TooMany = refl
reason_back TooManyOrders = refl
reason_back NoRoom = refl
reason_back NotWellFormed = refl
reason_back NoSuchOrder = refl
reason_back NoKey = refl
reason_back NameTwice = refl
reason_back NoSuchPlace = refl
reason_back WrongArgument = refl
reason_back WrongRow = refl
