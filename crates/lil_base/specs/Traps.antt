-- Which trap an operation without result gives.
use Rattle.lil_base.specs.declared.fault.{ArithFault.ArithFault, TrapKind.TrapKind}
use Rattle.lil_base.specs.declared.fault.ArithFault.TheVariants as a
use Rattle.lil_base.specs.declared.fault.TrapKind.TheVariants as t

abbrev pub arith_trap : ArithFault → TrapKind
arith_trap a.Overflow = t.Overflow
arith_trap a.DivZero = t.Divisor
