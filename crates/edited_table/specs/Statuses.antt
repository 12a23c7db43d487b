-- The status codes that C sees.
use Rattle.std.specs.Prelude.{ℕ}
use Rattle.edited_table.specs.declared.status.Status.{Status}
use Rattle.edited_table.specs.declared.status.Status.TheVariants as status

abbrev pub status_code : Status → ℕ
status_code status.Done = 0
status_code status.NoMemory = 1
status_code status.NoRoom = 2
status_code status.Closed = 3
status_code status.AlreadyOpen = 4
status_code status.BadOptions = 5
status_code status.NoSuchFile = 16
status_code status.FileTooLong = 17
status_code status.ReadFailed = 18
status_code status.DeckFull = 19
status_code status.BadName = 20
status_code status.BadDefinition = 21
status_code status.BadTable = 22
status_code status.BadKey = 23
status_code status.NoSuchDefinition = 24
status_code status.NothingToUndo = 25
status_code status.NothingToRedo = 26
status_code status.SyntaxError = 32
status_code status.NumeralTooLong = 33
status_code status.NestedTooDeep = 34
status_code status.UnknownUnit = 35
status_code status.RefusedFunction = 36
status_code status.Cycle = 37
status_code status.Overflow = 38
status_code status.DivisionByZero = 39
status_code status.NoExactRoot = 40
status_code status.UnlikeSum = 41
status_code status.ExponentNotNumber = 42
status_code status.ExponentRange = 43
status_code status.NotInDomain = 44
status_code status.NotInRange = 45
status_code status.WrongArgument = 46
status_code status.WrongResult = 47
status_code status.NoInverse = 48
status_code status.OutsideTable = 49
status_code status.ArgumentNeeded = 50
status_code status.CallsTooDeep = 51
status_code status.ListUnitNotPositive = 52
status_code status.ConformabilityError = 53
status_code status.CellError = 54
