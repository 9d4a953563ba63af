-- Where parts stand: behind their start, and within the code.
use Rattle.std.proofs.Common.{ℕ, Bool, false, ◌+◌, ◌<◌, ◌≤◌, List, [], ◌∷◌, length, Option, arith}
use Rattle.lil_resolved.specs.Resolved.{Expression, Constant, Taken, One, Two, Short, Apply, With, WithSpan, Invoke, High, Routine, InvokeValue, Argument, Arguments, NoMore, Also, ByValue, OfPlace, OfAll, OfArray, OfText, OfOpened, Spelled, Statement, Statements, kind_of}
use Rattle.lil_resolved.specs.Sizes.{argument_words}
use Rattle.lil_asm.specs.{declared.instr.Instr.{Instr, TheVariants.{Liw, Lag, Dup, Spn, Rst}}, Decoding.decoded_stands}
use Rattle.lil_table.specs.{Lengths.{instrs_long, place_long, expression_long, statement_long, body_long}, Rows.{Layout, IsAt, InstrsAt, one_code, two_code, test_code, function_code, access_of, address_code, ExpressionAt, ArgumentAt, ArgumentsAt, StatementAt, BodyAt, short_code, second_code}}

pub instr_order : (code : List ℕ) (p : ℕ) (i : Instr) (q : ℕ) → IsAt code p i q → (p < q) × (q ≤ length code)
instr_order code p i q h =
    let s = decoded_stands code p (i, q) h in
    (s.later, s.within)

pub instrs_order : (code : List ℕ) (is : List Instr) (p q : ℕ) → InstrsAt code is p q → p ≤ length code → (p ≤ q) × (q ≤ length code)
instrs_order code [] p q h inside = (omega (arith, h), omega (arith, h, inside))
instrs_order code (i ∷ is) p q h inside =
    let one = instr_order code p i h.0 h.1 in
    let more = instrs_order code is h.0 q h.2 one.1 in
    (omega (arith, one.0, more.0), more.1)

-- an operand, and an instruction that stands behind it
behind : (code : List ℕ) (p middle : ℕ) (i : Instr) (q : ℕ) → (p < middle) × (middle ≤ length code) → IsAt code middle i q → (p < q) × (q ≤ length code)
behind code p middle i q first h =
    let one = instr_order code middle i q h in
    (omega (arith, first.0, one.0), one.1)

pub expression_stands : (l : Layout) (code : List ℕ) (e : Expression) (p q : ℕ) → ExpressionAt l code e p q → (p < q) × (q ≤ length code)
expression_stands l code (Constant k v) p q h = instr_order code p _ q h.load
expression_stands l code (Taken d k) p q h =
    let one = instr_order code h.found _ q h.load in
    (omega (arith, place_long l code d p h.found h.here, one.0), one.1)
expression_stands l code (One o k a) p q h =
    let first = expression_stands l code a p h.middle h.first in
    let by = instrs_order code (one_code o k) h.middle q h.by first.1 in
    (omega (arith, first.0, by.0), by.1)
expression_stands l code (Two o k a b) p q h =
    let first = expression_stands l code a p h.middle h.first in
    let second = expression_stands l code b h.middle h.last h.second in
    let by = instrs_order code (two_code o k) h.last q h.by second.1 in
    (omega (arith, first.0, second.0, by.0), by.1)
expression_stands l code (Short d a b) p q h =
    let first = behind code p h.middle (short_code d (l.target q)) h.start (expression_stands l code a p h.middle h.first) h.test in
    let second = expression_stands l code b h.start q h.second in
    (omega (arith, first.0, second.0), second.1)
expression_stands l code (Apply f a) p q h =
    let first = expression_stands l code a p h.middle h.first in
    let by = instrs_order code (function_code f (kind_of a)) h.middle q h.by first.1 in
    (omega (arith, first.0, by.0), by.1)
expression_stands l code (With s k a) p q h =
    let first = expression_stands l code s p h.start h.first in
    let value = expression_stands l code a h.start h.middle h.value in
    let test = instrs_order code (test_code k (kind_of a)) h.middle h.tested h.test value.1 in
    let by = instrs_order code (Dup ∷ Spn ∷ []) h.tested q h.by test.1 in
    (omega (arith, first.0, value.0, test.0, by.0), by.1)
expression_stands l code (WithSpan s k a b) p q h =
    let first = expression_stands l code s p h.start h.first in
    let value = expression_stands l code a h.start h.middle h.value in
    let test = instrs_order code (test_code k (kind_of a)) h.middle h.tested h.test value.1 in
    let more = expression_stands l code b h.tested h.last h.last_value in
    let last = instrs_order code (test_code k (kind_of b)) h.last h.end h.last_test more.1 in
    let by = instr_order code h.end Spn q h.by in
    (omega (arith, first.0, value.0, test.0, more.0, last.0, by.0), by.1)
expression_stands l code (Invoke x n k given) p q h =
    let last = instr_order code h.end (Rst 1) q h.restore in
    (omega (arith, expression_long l code (Invoke x n k given) p q h), last.1)
expression_stands l code (High n x) p q h = instr_order code p _ q h.load
expression_stands l code (Routine x n) p q h = instr_order code p _ q h.load
expression_stands l code (InvokeValue e k given) p q h =
    let last = instr_order code h.end (Rst 1) q h.restore in
    (omega (arith, expression_long l code (InvokeValue e k given) p q h), last.1)

-- the place where an expression begins lies within the code
pub expression_within : (l : Layout) (code : List ℕ) (e : Expression) (p q : ℕ) → ExpressionAt l code e p q → p < length code
expression_within l code e p q h =
    let s = expression_stands l code e p q h in
    omega (arith, s.0, s.1)

pub instr_within : (code : List ℕ) (p : ℕ) (i : Instr) (q : ℕ) → IsAt code p i q → p < length code
instr_within code p i q h =
    let s = instr_order code p i q h in
    omega (arith, s.0, s.1)

-- so does that where instructions begin, if there are any
pub instrs_within : (code : List ℕ) (is : List Instr) (p q : ℕ) → 0 < length is → InstrsAt code is p q → p < length code
instrs_within code [] p q some h = absurd (omega (arith, some))
instrs_within code (i ∷ is) p q some h = instr_within code p i h.0 h.1

-- and that where an argument begins, and where arguments do, where what follows them does
pub argument_within : (l : Layout) (code : List ℕ) (calls : Bool) (n : ℕ) (a : Argument) (p q : ℕ) → ArgumentAt l code calls n a p q → q < length code → p < length code
argument_within l code calls n (ByValue k e) p q h inside = expression_within l code e p h.middle h.value.value
argument_within l code calls n (OfPlace d) p q h inside = omega (arith, place_long l code d p h.found h.here, instrs_long code (address_code (access_of l d)) h.found q h.address, inside)
argument_within l code calls n (OfAll d) p q h inside = omega (arith, place_long l code d p h.found h.here, instrs_long code (address_code (access_of l d)) h.found q h.address, inside)
argument_within l code calls n (OfArray copied d high) p q h inside =
    omega (arith, place_long l code d p h.found h.here, instrs_long code (address_code (access_of l d)) h.found h.start h.address, instrs_long code (second_code calls (Liw high)) h.start q h.by, inside)
argument_within l code calls n (OfText cs) p q h inside = instr_within code p (Lag h.offset) h.start h.address
argument_within l code calls n (OfOpened copied i x) p q h inside = instr_within code p _ h.start h.first
argument_within l code calls n (Spelled cs count) p q h inside = instr_within code p (Lag h.offset) h.start h.address

pub arguments_within : (l : Layout) (code : List ℕ) (n : ℕ) (given : Arguments) (p q : ℕ) → ArgumentsAt l code n given p q → q < length code → p < length code
arguments_within l code n NoMore p q h inside = omega (arith, h, inside)
arguments_within l code n (Also a given) p q h inside = argument_within l code false n a p h.middle h.here (arguments_within l code (argument_words a + n) given h.middle q h.then inside)

-- so do those where a statement and statements begin
pub statement_within : (l : Layout) (code : List ℕ) (n : ℕ) (exit : Option ℕ) (s : Statement) (p q : ℕ) → StatementAt l code n exit s p q → q < length code → p < length code
statement_within l code n exit s p q h inside = omega (arith, statement_long l code n exit s p q h, inside)

pub body_within : (l : Layout) (code : List ℕ) (n : ℕ) (exit : Option ℕ) (b : Statements) (p q : ℕ) → BodyAt l code n exit b p q → q < length code → p < length code
body_within l code n exit b p q h inside = omega (arith, body_long l code n exit b p q h, inside)
