-- What became of the lines, and what is told of it (README.md, the table of the status).
use Rattle.std.specs.Prelude.{cond, ltb, Result, Ok, Err}
use Rattle.console_words.specs.declared.Status.{Status}
use Rattle.console_words.specs.declared.Status.TheVariants.{Served as AllServed, Refused as OneRefused, Failed}
use Rattle.console_words.specs.Told.{told}
use Rattle.console_replies.specs.declared.Outcome.{Outcome}
use Rattle.console_replies.specs.declared.Outcome.TheVariants.{Served, Refused}
use Rattle.console_replies.specs.declared.Failure.{Failure}

-- 0, 1 or 3
abbrev pub status_of : Result Outcome Failure → Status
status_of (Ok Served) = AllServed
status_of (Ok Refused) = OneRefused
status_of (Err e) = Failed

-- the worse of two: the one with the greater digit
abbrev pub worst : Outcome → Outcome → Outcome
worst past more = cond (ltb (told (status_of (Ok past))) (told (status_of (Ok more)))) more past
