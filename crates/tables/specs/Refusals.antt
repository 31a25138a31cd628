-- Of the code: the refusals, by the names of docs/refusals.txt, and their numbers. Assumes nothing.
use Rattle.std.specs.Prelude.{Result, Ok, Err, ℕ}
use Rattle.tables.specs.declared.refusal.Refusal.{Refusal}
use Rattle.tables.specs.declared.refusal.Refusal.TheVariants.{AnswerTooShort, BadList, BadNamedProcess, CeilingTooHigh}
use Rattle.tables.specs.declared.refusal.Refusal.TheVariants.{ChannelOutOfOrder, CountOutOfRange, MarksTooShort}
use Rattle.tables.specs.declared.refusal.Refusal.TheVariants.{MessagePassedOver, MessageToItsSender, NamedStateTooHigh}
use Rattle.tables.specs.declared.refusal.Refusal.TheVariants.{ProcessesOutOfRange, ReceiptNumberTooHigh}
use Rattle.tables.specs.declared.refusal.Refusal.TheVariants.{ScratchTooShort, SendNumberTooHigh, SendToItself}
use Rattle.tables.specs.declared.refusal.Refusal.TheVariants.{TableFull}
use Rattle.tables.specs.declared.refusal.Refusal.TheVariants.{TableTooShort, TooManyMessages, TooManySets, UnequalLists}
use Rattle.tables.specs.declared.refusal.Refusal.TheVariants.{UnknownProcess, UnknownProcessInMessage}
use Rattle.tables.specs.declared.refusal.Refusal.TheVariants.{UnknownProcessInSet, WrongCeilingCount, WrongLength}

-- The number of a refusal.
abbrev pub refusal_number : Refusal → ℕ
refusal_number TableTooShort = 1
refusal_number ProcessesOutOfRange = 2
refusal_number TooManyMessages = 3
refusal_number WrongLength = 4
refusal_number CountOutOfRange = 5
refusal_number UnknownProcessInMessage = 6
refusal_number MessageToItsSender = 7
refusal_number SendNumberTooHigh = 8
refusal_number ReceiptNumberTooHigh = 9
refusal_number ChannelOutOfOrder = 23
refusal_number UnknownProcess = 10
refusal_number SendToItself = 11
refusal_number TooManySets = 25
refusal_number UnknownProcessInSet = 12
refusal_number WrongCeilingCount = 17
refusal_number CeilingTooHigh = 18
refusal_number UnequalLists = 20
refusal_number BadNamedProcess = 21
refusal_number NamedStateTooHigh = 22
refusal_number BadList = 13
refusal_number MessagePassedOver = 24
refusal_number TableFull = 14
refusal_number MarksTooShort = 19
refusal_number ScratchTooShort = 15
refusal_number AnswerTooShort = 16

-- The number of a result's refusal; 0 where there is none.
abbrev pub refusal_in : {T : Type 0} → Result T Refusal → ℕ
refusal_in (Ok value) = 0
refusal_in (Err refusal) = refusal_number refusal
