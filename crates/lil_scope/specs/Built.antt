-- Whose names may stand in a program that runs.
use Rattle.std.specs.Prelude.{◌==◌, Bool, true, false, not}
use Rattle.lil_types.specs.Types.{process}
use Rattle.lil_declared.specs.declared.standard.Resident.{Resident}
use Rattle.lil_declared.specs.declared.standard.Resident.TheVariants as r
use Rattle.lil_scope.specs.declared.thing.Thing.{Thing}
use Rattle.lil_scope.specs.declared.thing.Thing.TheVariants as t

abbrev pub resident_built : Resident → Bool
resident_built r.Write = true
resident_built r.WriteString = true
resident_built r.WriteLn = true
resident_built r.WriteCard = true
resident_built r.WriteInt = true
resident_built r.WriteOct = true
resident_built r.WriteHex = true
resident_built r.Allocate = true
resident_built r.Deallocate = true
resident_built r.Read = false
resident_built r.NewProcess = false
resident_built r.Transfer = false
resident_built r.Lookup = false
resident_built r.CloseFile = false
resident_built r.Reset = false
resident_built r.ReadChar = false
resident_built r.WriteChar = false
resident_built r.Call = false
resident_built r.OpenChannel = false
resident_built r.PutWord = false
resident_built r.GetWord = false
resident_built r.CloseChannel = false

-- types but PROCESS, and what is built of the other things. Variables and procedures of modules that aren't resident aren't
abbrev pub built : Thing → Bool
built (t.Type n) = not (n == process)
built (t.Resident x n) = resident_built x
built (t.ExternalVariable v) = false
built (t.ExternalProcedure p) = false
built _ = true
