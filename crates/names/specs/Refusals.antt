-- The number and the words of each refusal. Assumes nothing.
use Rattle.std.specs.Prelude.{ℕ, List, codes}
use Rattle.names.specs.declared.refusal.Refusal.{Refusal}
use Rattle.names.specs.declared.refusal.Refusal.TheVariants.{OutsideLimit, OutOfRange, OutOfOrder, Misplaced, BadLink, BadReference, BadName, NoSuchSymbol, NotInRoot, NoFreeRecord, CounterLimit, SearchTooLong, NotRepairable, Unrepaired, BufferTooShort}

-- the number that a user is told
abbrev pub number_of : Refusal → ℕ
number_of OutsideLimit = 1
number_of OutOfRange = 2
number_of OutOfOrder = 3
number_of Misplaced = 4
number_of BadLink = 5
number_of BadReference = 6
number_of BadName = 7
number_of NoSuchSymbol = 8
number_of NotInRoot = 9
number_of NoFreeRecord = 10
number_of CounterLimit = 11
number_of SearchTooLong = 12
number_of NotRepairable = 13
number_of Unrepaired = 14
number_of BufferTooShort = 15

-- the words that a user is told
abbrev pub words_of : Refusal → List ℕ
words_of OutsideLimit = codes "outside a limit, or too little memory"
words_of OutOfRange = codes "a number or the format is out of range"
words_of OutOfOrder = codes "modules, chunk numbers or scopes out of order"
words_of Misplaced = codes "two bindings of one name, or a misplaced scope or symbol"
words_of BadLink = codes "a link or alias that leads nowhere or does not belong there"
words_of BadReference = codes "a reference or unresolved name that is bound otherwise"
words_of BadName = codes "a name that is empty or over 100 bytes"
words_of NoSuchSymbol = codes "no such symbol"
words_of NotInRoot = codes "the canonical symbol is not in a root scope"
words_of NoFreeRecord = codes "no free record"
words_of CounterLimit = codes "a number would pass 9999"
words_of SearchTooLong = codes "more than 4096 probes would be needed"
words_of NotRepairable = codes "not a module of the chunk, or repaired already"
words_of Unrepaired = codes "a module is not repaired"
words_of BufferTooShort = codes "the buffer is too short"
