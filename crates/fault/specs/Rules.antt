-- What each rule is: its number, the layer that refuses, and the party that can mend it. Every promise about a refusal rests on this table.
use Rattle.std.specs.Prelude.{ℕ}
use Rattle.fault.specs.declared.rules.Rule.{Rule}
use Rattle.fault.specs.declared.rules.Rule.TheVariants.{TextTooLong, BufferTooSmall, NoToken, TokenTooLarge, CannotFollow, TooDeep, TooMuchCode}
use Rattle.fault.specs.declared.rules.Rule.TheVariants.{RepeatedName, NameNotFound, OperandMismatch, StatementMismatch, TooMany}
use Rattle.fault.specs.declared.rules.Rule.TheVariants.{OutOfRange, ZeroDivisor, NoCellsLeft, StoreNotEmpty, Disorder}
use Rattle.fault.specs.declared.rules.Rule.TheVariants.{WrongHeading, WrongRow, WrongCell, TooManyRows, TooManyStrings}
use Rattle.fault.specs.declared.rules.Rule.TheVariants.{NotGoing, NotWaiting, NothingDue, TooManyTables, WidthOutside, NoSuchPlace}
use Rattle.fault.specs.declared.rules.Layer.{Layer}
use Rattle.fault.specs.declared.rules.Layer.TheVariants.{Host, Scan, Grammar, Schema, Size, Machine, Store, Heading, Row, Cell, Supply}
use Rattle.fault.specs.declared.rules.Party.{Party}
use Rattle.fault.specs.declared.rules.Party.TheVariants as party

pub record Facts : Type 0 where
  pub number : ℕ
  pub layer : Layer
  pub party : Party

abbrev is : ℕ → Layer → Party → Facts
is n l p = record { number = n; layer = l; party = p }

abbrev pub facts : Rule → Facts
facts TextTooLong = is 1 Host party.Host
facts BufferTooSmall = is 2 Host party.Host
facts NoToken = is 11 Scan party.Writer
facts TokenTooLarge = is 12 Scan party.Writer
facts CannotFollow = is 21 Grammar party.Writer
facts TooDeep = is 22 Grammar party.Writer
facts TooMuchCode = is 23 Size party.Writer
facts RepeatedName = is 31 Schema party.Writer
facts NameNotFound = is 32 Schema party.Writer
facts OperandMismatch = is 33 Schema party.Writer
facts StatementMismatch = is 34 Schema party.Writer
facts TooMany = is 35 Schema party.Writer
facts OutOfRange = is 41 Machine party.Run
facts ZeroDivisor = is 42 Machine party.Run
facts NoCellsLeft = is 43 Store party.Run
facts StoreNotEmpty = is 44 Host party.Host
facts Disorder = is 45 Machine party.Host
facts WrongHeading = is 52 Heading party.Supplier
facts WrongRow = is 52 Row party.Supplier
facts WrongCell = is 52 Cell party.Supplier
facts TooManyRows = is 53 Supply party.Supplier
facts TooManyStrings = is 54 Supply party.Supplier
facts NotGoing = is 61 Host party.Host
facts NotWaiting = is 62 Host party.Host
facts NothingDue = is 63 Host party.Host
facts TooManyTables = is 71 Store party.Host
facts WidthOutside = is 72 Store party.Host
facts NoSuchPlace = is 73 Store party.Host

abbrev pub number_of : Rule → ℕ
number_of r = (facts r).number

abbrev pub layer_of : Rule → Layer
layer_of r = (facts r).layer

abbrev pub party_of : Rule → Party
party_of r = (facts r).party
