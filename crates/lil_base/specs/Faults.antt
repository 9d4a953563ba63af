-- The faults of source texts: their numbers and names.
use Rattle.std.specs.Prelude.{ℕ, None, Some, List, [], ◌==◌, if◌then◌else◌, codes}
use Rattle.lil_base.specs.declared.fault.{Place.Place, SourceFault.SourceFault, FaultKind.FaultKind}
use Rattle.lil_base.specs.declared.fault.FaultKind.TheVariants.{BadChar, OpenComment, OpenString, BadNumber, NumberTooLarge, NameTooLong, Syntax, EndName, TooNested, Unknown, Twice, NotExported, WrongKind, ExitOutside, ReturnKind, ForVariable, Operands, Assign, ArgCount, VarArgument, NotCallable, NotArray, NotRecord, NotPointer, NoField, SetBase, ResultType, ProcValue, LabelTwice, Opaque, ConstRange, NotConst, ConstArith, EmptyRange, ExprDeep, DataTooLong, TooManyProcs, TooManyImports, TextTooLong, NoSymbol, KeyConflict, SelfImport, NoDefinition, NotConform, NotImplemented, ReservedModule, FileName, SymDamaged, BookFull, UnitKind, NotBuilt}

abbrev pub fault_number : FaultKind → ℕ
fault_number BadChar = 1
fault_number OpenComment = 2
fault_number OpenString = 3
fault_number BadNumber = 4
fault_number NumberTooLarge = 5
fault_number NameTooLong = 6
fault_number Syntax = 10
fault_number EndName = 11
fault_number TooNested = 12
fault_number Unknown = 20
fault_number Twice = 21
fault_number NotExported = 22
fault_number WrongKind = 24
fault_number ExitOutside = 25
fault_number ReturnKind = 26
fault_number ForVariable = 27
fault_number Operands = 30
fault_number Assign = 31
fault_number ArgCount = 32
fault_number VarArgument = 33
fault_number NotCallable = 34
fault_number NotArray = 35
fault_number NotRecord = 36
fault_number NotPointer = 37
fault_number NoField = 38
fault_number SetBase = 39
fault_number ResultType = 40
fault_number ProcValue = 41
fault_number LabelTwice = 42
fault_number Opaque = 43
fault_number ConstRange = 50
fault_number NotConst = 51
fault_number ConstArith = 52
fault_number EmptyRange = 53
fault_number ExprDeep = 60
fault_number DataTooLong = 61
fault_number TooManyProcs = 62
fault_number TooManyImports = 63
fault_number TextTooLong = 65
fault_number NoSymbol = 70
fault_number KeyConflict = 71
fault_number SelfImport = 72
fault_number NoDefinition = 73
fault_number NotConform = 74
fault_number NotImplemented = 75
fault_number ReservedModule = 76
fault_number FileName = 77
fault_number SymDamaged = 78
fault_number BookFull = 79
fault_number UnitKind = 80
fault_number NotBuilt = 90

-- the fault of a number at a place, about no name and with no values
abbrev pub fault : ℕ → Place → SourceFault
fault n p = record { number = n; place = p; about = None; first = 0; second = 0 }

-- the fault of a number at a place, about a module or another file of the volume
abbrev pub fault_about : ℕ → Place → List ℕ → SourceFault
fault_about n p name = record { number = n; place = p; about = Some name; first = 0; second = 0 }

-- 71 KeyConflict, about a module, with the two keys
abbrev pub key_conflict : Place → List ℕ → ℕ → ℕ → SourceFault
key_conflict p name first second = record { number = 71; place = p; about = Some name; first = first; second = second }

-- 64 CodeTooLong, with the number of bytes
abbrev pub code_too_long : Place → ℕ → SourceFault
code_too_long p bytes = record { number = 64; place = p; about = None; first = bytes; second = 0 }

-- the name of the fault of a number, where there is one
abbrev pub fault_name : ℕ → List ℕ
fault_name n =
    if n == 1 then codes "BadChar"
    else (if n == 2 then codes "OpenComment"
    else (if n == 3 then codes "OpenString"
    else (if n == 4 then codes "BadNumber"
    else (if n == 5 then codes "NumberTooLarge"
    else (if n == 6 then codes "NameTooLong"
    else (if n == 10 then codes "Syntax"
    else (if n == 11 then codes "EndName"
    else (if n == 12 then codes "TooNested"
    else (if n == 20 then codes "Unknown"
    else (if n == 21 then codes "Twice"
    else (if n == 22 then codes "NotExported"
    else (if n == 24 then codes "WrongKind"
    else (if n == 25 then codes "ExitOutside"
    else (if n == 26 then codes "ReturnKind"
    else (if n == 27 then codes "ForVariable"
    else (if n == 30 then codes "Operands"
    else (if n == 31 then codes "Assign"
    else (if n == 32 then codes "ArgCount"
    else (if n == 33 then codes "VarArgument"
    else (if n == 34 then codes "NotCallable"
    else (if n == 35 then codes "NotArray"
    else (if n == 36 then codes "NotRecord"
    else (if n == 37 then codes "NotPointer"
    else (if n == 38 then codes "NoField"
    else (if n == 39 then codes "SetBase"
    else (if n == 40 then codes "ResultType"
    else (if n == 41 then codes "ProcValue"
    else (if n == 42 then codes "LabelTwice"
    else (if n == 43 then codes "Opaque"
    else (if n == 50 then codes "ConstRange"
    else (if n == 51 then codes "NotConst"
    else (if n == 52 then codes "ConstArith"
    else (if n == 53 then codes "EmptyRange"
    else (if n == 60 then codes "ExprDeep"
    else (if n == 61 then codes "DataTooLong"
    else (if n == 62 then codes "TooManyProcs"
    else (if n == 63 then codes "TooManyImports"
    else (if n == 64 then codes "CodeTooLong"
    else (if n == 65 then codes "TextTooLong"
    else (if n == 70 then codes "NoSymbol"
    else (if n == 71 then codes "KeyConflict"
    else (if n == 72 then codes "SelfImport"
    else (if n == 73 then codes "NoDefinition"
    else (if n == 74 then codes "NotConform"
    else (if n == 75 then codes "NotImplemented"
    else (if n == 76 then codes "ReservedModule"
    else (if n == 77 then codes "FileName"
    else (if n == 78 then codes "SymDamaged"
    else (if n == 79 then codes "BookFull"
    else (if n == 80 then codes "UnitKind"
    else (if n == 90 then codes "NotBuilt"
    else [])))))))))))))))))))))))))))))))))))))))))))))))))))
