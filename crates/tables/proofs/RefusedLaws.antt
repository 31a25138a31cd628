-- Refusals and their numbers.
--     numbered, refused_some, refusal_few    a refusal has one of the numbers to 25, and not 0; a result's number
--     passed_on    a call that passes on what another one refused
-- Assumes nothing.
use Prim.Native.Nat.{ℕ, ◌<◌, ◌≤◌}
use lib.Dec.{lit<, lit≤}
use mathlib.Core.Path.{◌≡◌}
use native.Mathlib.Omega.{arith}
use Rattle.std.proofs.Common.{Err, Ok, Result}
use Rattle.std.proofs.lemmas.Result.{err_from_is_err_and}
use Rattle.std.specs.Result.{IsErrAnd}
use Rattle.tables.specs.Refusals.{refusal_in, refusal_number}
use Rattle.tables.specs.declared.refusal.Refusal.{Refusal}
use Rattle.tables.specs.declared.refusal.Refusal.TheVariants.{AnswerTooShort, BadList, BadNamedProcess, CeilingTooHigh, ChannelOutOfOrder}
use Rattle.tables.specs.declared.refusal.Refusal.TheVariants.{CountOutOfRange, MarksTooShort, MessagePassedOver, MessageToItsSender}
use Rattle.tables.specs.declared.refusal.Refusal.TheVariants.{NamedStateTooHigh, ProcessesOutOfRange, ReceiptNumberTooHigh, ScratchTooShort}
use Rattle.tables.specs.declared.refusal.Refusal.TheVariants.{SendNumberTooHigh, SendToItself, TableFull, TableTooShort, TooManyMessages, TooManySets}
use Rattle.tables.specs.declared.refusal.Refusal.TheVariants.{UnequalLists, UnknownProcess, UnknownProcessInMessage, UnknownProcessInSet}
use Rattle.tables.specs.declared.refusal.Refusal.TheVariants.{WrongCeilingCount, WrongLength}

pub numbered : (refusal : Refusal) → (0 < refusal_number refusal) × (refusal_number refusal ≤ 25)
numbered TableTooShort = (lit< tt, lit≤ tt)
numbered ProcessesOutOfRange = (lit< tt, lit≤ tt)
numbered TooManyMessages = (lit< tt, lit≤ tt)
numbered WrongLength = (lit< tt, lit≤ tt)
numbered CountOutOfRange = (lit< tt, lit≤ tt)
numbered UnknownProcessInMessage = (lit< tt, lit≤ tt)
numbered MessageToItsSender = (lit< tt, lit≤ tt)
numbered SendNumberTooHigh = (lit< tt, lit≤ tt)
numbered ReceiptNumberTooHigh = (lit< tt, lit≤ tt)
numbered ChannelOutOfOrder = (lit< tt, lit≤ tt)
numbered UnknownProcess = (lit< tt, lit≤ tt)
numbered SendToItself = (lit< tt, lit≤ tt)
numbered TooManySets = (lit< tt, lit≤ tt)
numbered UnknownProcessInSet = (lit< tt, lit≤ tt)
numbered WrongCeilingCount = (lit< tt, lit≤ tt)
numbered CeilingTooHigh = (lit< tt, lit≤ tt)
numbered UnequalLists = (lit< tt, lit≤ tt)
numbered BadNamedProcess = (lit< tt, lit≤ tt)
numbered NamedStateTooHigh = (lit< tt, lit≤ tt)
numbered BadList = (lit< tt, lit≤ tt)
numbered MessagePassedOver = (lit< tt, lit≤ tt)
numbered TableFull = (lit< tt, lit≤ tt)
numbered MarksTooShort = (lit< tt, lit≤ tt)
numbered ScratchTooShort = (lit< tt, lit≤ tt)
numbered AnswerTooShort = (lit< tt, lit≤ tt)

pub refused_some : (refusal : Refusal) → refusal_number refusal ≡ 0 → ⊥
refused_some refusal e = omega (arith, numbered refusal)

pub refusal_few : {T : Type 0} (outcome : Result T Refusal) → refusal_in outcome ≤ 25
refusal_few (Ok value) = lit≤ tt
refusal_few (Err refusal) = (numbered refusal).1

pub passed_on : {T : Type 0} (outcome : Result T Refusal) (refusal : Refusal) {n : ℕ} → IsErrAnd outcome (λ e. e ≡ refusal)
    → refusal_number refusal ≡ n → refusal_in outcome ≡ n
passed_on outcome refusal told number =
    let p = err_from_is_err_and outcome told in
    rw (p.1, p.2) number
