-- How many bytes a translation has, however places in jumps, words of frames and numbers of entries are written.
use Rattle.std.proofs.Common.{◌≡◌, ℕ, zero, suc, ◌+◌, ◌-◌, ◌*◌, ◌≤◌, Bool, true, false, cond, if◌then◌else◌, List, [], ◌∷◌, ◌++◌, Option, Some, None, length, take, refl, ap, ◌∙◌, arith}
use Rattle.lil_base.specs.{Words.{Whole, Cardinal, Integer, word_of}, declared.operator.{OneOp.OneOp, TwoOp.{TwoOp, TheVariants.{Equal, Unequal, Less, AtMost, Greater, AtLeast, In, Plus, Minus, Times, Slash, Or, And}}}, Requests.request_number}
use Rattle.lil_base.specs.declared.operator.OneOp.TheVariants as one
use Rattle.lil_resolved.specs.Kinds.{Kind, OfWhole, OfCharacter, OfSet, OfPointer, OfProcedure, base_of, compared_as, covers, shared, outside_turns, Shape, Absent, Word, Blank, Join, Row, Address, Opened, words, all_words, shape_at}
use Rattle.lil_resolved.specs.Resolved.{Named, OfModule, OfLevel, Designator, Variable, Handed, Along, Held, Field, Element, Follow, Function, Abs, Cap, Chr, Odd, Ord, Val, Expression, Constant, Taken, One, Two, Short, Apply, With, WithSpan, Invoke, High, Routine, InvokeValue, Argument, ByValue, OfPlace, OfAll, OfArray, OfText, OfOpened, Spelled, Arguments, NoMore, Also, Label, Statement, Assign, Copy, Text, Change, Member, New, Allocate, Request, If, Case, While, Repeat, Loop, Exit, Halt, Return, Answer, Call, CallValue, For, Inside, Statements, Empty, Then, Arms, NoElse, Else, Arm, Procedure, Resolved, kind_of, counted_as, shape_of}
use Rattle.lil_resolved.specs.Sizes.{statement_words, body_words, arms_words, frame_words, argument_words, argument_size, zeros_size, pushed_size, handed_size, one_size, two_size, test_size, function_size, Form, Direct, Outward, variable_form, Exact, Beyond, field_form, form_of, address_size, load_size, ready_size, store_size, again_size, under_size, place_size, target_size, size, arguments_size, allocate_size, statement_size, body_size, arms_size, leave_size, copy_size, copies_size, framed_size, procedures_size, code_size}
use Rattle.lil_resolved.specs.Sound.{takes_two}
use Rattle.lil_asm.specs.{declared.instr.Instr.{Instr, TheVariants.{Liw, Lag, Dup, Drp, Nlt, Llw, Slw, Swp, Rgc, Lsi, Spn, Sav, Rst, Mrk, Mrf, Psh, Psm, Cll, Clf, Sbc, Jor, Ent, Ixo, Rtn, Jmp, Jpf, Cas, Fri, Frn, Trp, Alc, Svc}}, Bytes.bytes_of, Decoding.decoded_stands, Stretches.stretch}
use Rattle.lil_table.specs.Rows.{Layout, Span, given_words, framed, in_procedure, holding, ArgumentAt, GivenAt, ZerosAt, ValueCallRow, IsAt, InstrsAt, one_code, whole_code, two_code, range_code, test_code, function_code, Access, InData, InFrame, access_at, OnTop, Behind, further, access_of, address_code, load_code, ready_code, readied, held, store_code, again_code, under_code, change_operator, change_code, member_code, allocate_code, short_code, loop_place, loop_sign, ValueRow, TargetRow, EntriesAt, AlignAt, PlaceAt, ExpressionAt, ArgumentsAt, StatementAt, BodyAt, ArmsAt, leave_code, frame_code, second_code, text_words, copy_code, copies_code, FramedRow, ProceduresAt, TranslatesBy}

-- the bytes of an instruction, and of several
abbrev pub instr_size : Instr → ℕ
instr_size i = length (bytes_of i)

abbrev pub instrs_size : List Instr → ℕ
instrs_size [] = 0
instrs_size (i ∷ is) = instr_size i + instrs_size is

-- ---- the instructions of an operation
instrs_both : (is js : List Instr) → instrs_size (is ++ js) ≡ instrs_size is + instrs_size js
instrs_both [] js = omega arith
instrs_both (i ∷ is) js = omega (arith, instrs_both is js)

one_sized : (o : OneOp) (k : Kind) → instrs_size (one_code o k) ≡ one_size o
one_sized one.Plus k = refl
one_sized one.Minus k = refl
one_sized one.Not k = refl

-- an operator that takes a kind has code for it
two_sized : (o : TwoOp) (k : Kind) → takes_two o k ≡ true → instrs_size (two_code o k) ≡ two_size o
two_sized In k h = refl
two_sized Or k h = cc
two_sized And k h = cc
two_sized Equal OfSet h = refl
two_sized Unequal OfSet h = refl
two_sized AtMost OfSet h = refl
two_sized AtLeast OfSet h = refl
two_sized Plus OfSet h = refl
two_sized Minus OfSet h = refl
two_sized Times OfSet h = refl
two_sized Slash OfSet h = refl
two_sized o OfSet h = cc
two_sized Slash (OfWhole t) h = cc
two_sized o (OfWhole Cardinal) h = refl
two_sized o (OfWhole Integer) h = refl
two_sized Equal (OfPointer to) h = refl
two_sized Unequal (OfPointer to) h = refl
two_sized o (OfPointer to) h = cc
two_sized o (OfProcedure n) h = cc
two_sized Equal k h = refl
two_sized Unequal k h = refl
two_sized Less k h = refl
two_sized AtMost k h = refl
two_sized Greater k h = refl
two_sized AtLeast k h = refl
two_sized o k h = cc

member_sized : (out : Bool) → instr_size (member_code out) ≡ 1
member_sized false = refl
member_sized true = refl

allocate_sized : (back : Bool) → instrs_size (allocate_code back) ≡ allocate_size back
allocate_sized false = refl
allocate_sized true = refl

short_sized : (d : Bool) (to : ℕ) → instr_size (short_code d to) ≡ 3
short_sized true to = refl
short_sized false to = refl

test_sized : (k j : Kind) → instrs_size (test_code k j) ≡ test_size k j
test_sized k j = by (covers k j) (compared_as j)
  where
    by : (b : Bool) (t : Whole) → instrs_size (cond b [] (range_code t (shared k j) ∷ [])) ≡ (if b then 0 else 5)
    by true t = refl
    by false Cardinal = refl
    by false Integer = refl

function_sized : (f : Function) (k : Kind) → instrs_size (function_code f k) ≡ function_size f k
function_sized (Abs Cardinal) k = refl
function_sized (Abs Integer) k = refl
function_sized Cap k = refl
function_sized Chr k = test_sized OfCharacter k
function_sized Odd k = refl
function_sized Ord k = test_sized (OfWhole Cardinal) k
function_sized (Val j) k = test_sized j k

-- ---- how code has a place
abbrev access_form : Access → Form
access_form (InData o) = Direct
access_form (InFrame zero o) = Direct
access_form (InFrame (suc n) o) = Outward
access_form OnTop = Exact
access_form (Behind o) = Beyond

further_formed : (n : ℕ) (a : Access) → access_form (further n a) ≡ field_form (access_form a)
further_formed n (InData o) = refl
further_formed n (InFrame zero o) = refl
further_formed n (InFrame (suc i) o) = refl
further_formed n OnTop = refl
further_formed n (Behind o) = refl

formed : (l : Layout) (d : Designator) → access_form (access_of l d) ≡ form_of d
formed l (Variable (OfModule x)) = refl
formed l (Variable (OfLevel zero x)) = refl
formed l (Variable (OfLevel (suc n) x)) = refl
formed l (Handed n x) = refl
formed l (Along n x e) = refl
formed l (Held w) = refl
formed l (Field d i) = further_formed _ (access_of l d) ∙ ap field_form (formed l d)
formed l (Element d k e) = refl
formed l (Follow d n) = refl

address_sized : (a : Access) → instrs_size (address_code a) ≡ address_size (access_form a)
address_sized (InData o) = refl
address_sized (InFrame zero o) = refl
address_sized (InFrame (suc n) o) = refl
address_sized OnTop = refl
address_sized (Behind o) = refl

load_sized : (a : Access) → instr_size (load_code a) ≡ load_size (access_form a)
load_sized (InData o) = refl
load_sized (InFrame zero o) = refl
load_sized (InFrame (suc n) o) = refl
load_sized OnTop = refl
load_sized (Behind o) = refl

ready_sized : (a : Access) → instrs_size (ready_code a) ≡ ready_size (access_form a)
ready_sized (InData o) = refl
ready_sized (InFrame zero o) = refl
ready_sized (InFrame (suc n) o) = refl
ready_sized OnTop = refl
ready_sized (Behind o) = refl

store_sized : (a : Access) → instr_size (store_code (readied a)) ≡ store_size (access_form a)
store_sized (InData o) = refl
store_sized (InFrame zero o) = refl
store_sized (InFrame (suc n) o) = refl
store_sized OnTop = refl
store_sized (Behind o) = refl

-- the store to a variable
stored_sized : (v : Named) (o : ℕ) → instr_size (store_code (access_at v o)) ≡ store_size (variable_form v)
stored_sized (OfModule x) o = refl
stored_sized (OfLevel zero x) o = refl
stored_sized (OfLevel (suc n) x) o = refl

-- the load of the address that a VAR parameter holds
handed_sized : (n x o : ℕ) → instr_size (load_code (access_at (OfLevel n x) o)) ≡ handed_size n
handed_sized zero x o = refl
handed_sized (suc n) x o = refl

-- the load of a word of an open array
frame_sized : (n o : ℕ) → instr_size (frame_code n o) ≡ handed_size n
frame_sized zero o = refl
frame_sized (suc n) o = refl

-- the second word of an open array, and the instruction that pushes the first one
abbrev pushes_size : Bool → ℕ
pushes_size false = 0
pushes_size true = 1

-- those that push the first word of an argument of two
abbrev plain_pushes : Bool → Argument → ℕ
plain_pushes calls (ByValue k e) = 0
plain_pushes calls (OfPlace d) = 0
plain_pushes calls (OfAll d) = 0
plain_pushes calls (OfArray copied d high) = pushes_size calls
plain_pushes calls (OfText cs) = pushes_size calls
plain_pushes calls (OfOpened copied n x) = pushes_size calls
plain_pushes calls (Spelled cs count) = 0

no_pushes : (a : Argument) → plain_pushes false a ≡ 0
no_pushes (ByValue k e) = refl
no_pushes (OfPlace d) = refl
no_pushes (OfAll d) = refl
no_pushes (OfArray copied d high) = refl
no_pushes (OfText cs) = refl
no_pushes (OfOpened copied n x) = refl
no_pushes (Spelled cs count) = refl

second_sized : (calls : Bool) (i : Instr) → instrs_size (second_code calls i) ≡ pushes_size calls + instr_size i
second_sized false i = omega arith
second_sized true i = omega arith

again_sized : (a : Access) → instrs_size (again_code (readied a)) ≡ again_size (access_form a)
again_sized (InData o) = refl
again_sized (InFrame zero o) = refl
again_sized (InFrame (suc n) o) = refl
again_sized OnTop = refl
again_sized (Behind o) = refl

under_sized : (a : Access) → instrs_size (under_code (readied a)) ≡ under_size (access_form a)
under_sized (InData o) = refl
under_sized (InFrame zero o) = refl
under_sized (InFrame (suc n) o) = refl
under_sized OnTop = refl
under_sized (Behind o) = refl

change_sized : (down : Bool) (k : Kind) (a : Access) → instrs_size (change_code down k (readied a)) ≡ under_size (access_form a) + 1 + test_size k (OfWhole (counted_as k)) + store_size (access_form a)
change_sized down k a =
    omega (
      arith,
      instrs_both (under_code (readied a) ++ whole_code (change_operator down) (counted_as k) ++ test_code k (OfWhole (counted_as k))) (store_code (readied a) ∷ []),
      instrs_both (under_code (readied a) ++ whole_code (change_operator down) (counted_as k)) (test_code k (OfWhole (counted_as k))),
      instrs_both (under_code (readied a)) (whole_code (change_operator down) (counted_as k)),
      under_sized a,
      by down (counted_as k),
      test_sized k (OfWhole (counted_as k)),
      store_sized a,
    )
  where
    by : (down : Bool) (t : Whole) → instrs_size (whole_code (change_operator down) t) ≡ 1
    by false Cardinal = refl
    by false Integer = refl
    by true Cardinal = refl
    by true Integer = refl

-- ---- where they end
pub instr_long : (code : List ℕ) (p : ℕ) (i : Instr) (q : ℕ) → IsAt code p i q → q ≡ p + instr_size i
instr_long code p i q h = (decoded_stands code p (i, q) h).long

pub instrs_long : (code : List ℕ) (is : List Instr) (p q : ℕ) → InstrsAt code is p q → q ≡ p + instrs_size is
instrs_long code [] p q h = omega (arith, h)
instrs_long code (i ∷ is) p q h = omega (arith, instr_long code p i h.0 h.1, instrs_long code is h.0 q h.2)

test_long : (code : List ℕ) (k j : Kind) (p q : ℕ) → InstrsAt code (test_code k j) p q → q ≡ p + test_size k j
test_long code k j p q h = omega (arith, instrs_long code (test_code k j) p q h, test_sized k j)

zeros_long : (l : Layout) (code : List ℕ) (z p q : ℕ) → ZerosAt l code z p q → q ≡ p + zeros_size z
zeros_long l code zero p q h = omega (arith, h)
zeros_long l code (suc z) p q h =
    omega (arith, instr_long code p (Liw (suc z)) h.turn h.load, instrs_long code (Liw 0 ∷ Psh ∷ Liw 1 ∷ Sbc ∷ []) h.turn h.end h.by, instr_long code h.end (Jor (l.target h.turn)) q h.back)

-- a call behind the value that is called
value_call_long : (l : Layout) (code : List ℕ) (j : Kind) (result : Option Kind) (given : Arguments) (pushes : Span) (p q n : ℕ) (h : ValueCallRow l code j result given pushes p q) → h.middle ≡ h.start + n → q ≡ p + (4 + n)
value_call_long l code j result given pushes p q n h long = omega (arith, instr_long code p Mrf h.start h.mark, long, instr_long code h.middle (Clf (framed (given_words l.scope given))) q h.call)

mutual
  pub place_long : (l : Layout) (code : List ℕ) (d : Designator) (p q : ℕ) → PlaceAt l code d p q → q ≡ p + place_size d
  place_long l code (Variable v) p q h = omega (arith, h.stays)
  place_long l code (Handed n x) p q h = omega (arith, instr_long code p (load_code (access_at (OfLevel n x) h.offset)) q h.load, handed_sized n x h.offset)
  place_long l code (Along n x e) p q h =
      omega (
        arith,
        instrs_long code (frame_code n h.opened.offset ∷ frame_code n (h.opened.offset + 1) ∷ []) p h.start h.load,
        frame_sized n h.opened.offset,
        frame_sized n (h.opened.offset + 1),
        expression_long l code e h.start h.middle h.value,
        test_long code (OfWhole Cardinal) (kind_of e) h.middle h.tested h.test,
        instr_long code h.tested (Ixo (words h.opened.element)) q h.by,
      )
  place_long l code (Held w) p q h = instr_long code p _ q h.load
  place_long l code (Field d i) p q h = place_long l code d p q h.here
  place_long l code (Element d k e) p q h =
      omega (
        arith,
        place_long l code d p h.found h.here,
        instrs_long code (address_code (access_of l d)) h.found h.start h.address,
        address_sized (access_of l d),
        ap address_size (formed l d),
        expression_long l code e h.start h.middle h.value,
        test_long code k (kind_of e) h.middle h.tested h.test,
        instr_long code h.tested _ q h.by,
      )
  place_long l code (Follow d n) p q h =
      omega (
        arith,
        place_long l code d p h.found h.here,
        instr_long code h.found (load_code (access_of l d)) h.loaded h.load,
        load_sized (access_of l d),
        ap load_size (formed l d),
        instr_long code h.loaded Nlt q h.test,
      )

  pub expression_long : (l : Layout) (code : List ℕ) (e : Expression) (p q : ℕ) → ExpressionAt l code e p q → q ≡ p + size e
  expression_long l code (Constant k v) p q h = instr_long code p _ q h.load
  expression_long l code (Taken d k) p q h =
      omega (arith, place_long l code d p h.found h.here, instr_long code h.found (load_code (access_of l d)) q h.load, load_sized (access_of l d), ap load_size (formed l d))
  expression_long l code (One o k a) p q h =
      omega (arith, expression_long l code a p h.middle h.first, instrs_long code (one_code o k) h.middle q h.by, one_sized o k)
  expression_long l code (Two o k a b) p q h =
      omega (arith, expression_long l code a p h.middle h.first, expression_long l code b h.middle h.last h.second, instrs_long code (two_code o k) h.last q h.by, two_sized o k h.takes)
  expression_long l code (Short d a b) p q h =
      omega (arith, expression_long l code a p h.middle h.first, instr_long code h.middle (short_code d (l.target q)) h.start h.test, short_sized d (l.target q), expression_long l code b h.start q h.second)
  expression_long l code (Apply f a) p q h =
      omega (arith, expression_long l code a p h.middle h.first, instrs_long code (function_code f (kind_of a)) h.middle q h.by, function_sized f (kind_of a))
  expression_long l code (With s k a) p q h =
      omega (arith, expression_long l code s p h.start h.first, expression_long l code a h.start h.middle h.value, test_long code k (kind_of a) h.middle h.tested h.test, instrs_long code (Dup ∷ Spn ∷ []) h.tested q h.by)
  expression_long l code (WithSpan s k a b) p q h =
      omega (
        arith,
        expression_long l code s p h.start h.first,
        expression_long l code a h.start h.middle h.value,
        test_long code k (kind_of a) h.middle h.tested h.test,
        expression_long l code b h.tested h.last h.last_value,
        test_long code k (kind_of b) h.last h.end h.last_test,
        instr_long code h.end Spn q h.by,
      )
  expression_long l code (Invoke x n k given) p q h =
      omega (
        arith,
        instr_long code p Sav h.saved h.save,
        instr_long code h.saved (Mrk n) h.its.start h.its.mark,
        given_long l code given h.its.start h.its.middle h.its.arguments,
        instr_long code h.its.middle (Cll x (framed (given_words l.scope given))) h.end h.its.call,
        instr_long code h.end (Rst 1) q h.restore,
      )
  expression_long l code (High n x) p q h = omega (arith, instr_long code p (frame_code n (h.opened.offset + 1)) q h.load, frame_sized n (h.opened.offset + 1))
  expression_long l code (Routine x n) p q h = instr_long code p _ q h.load
  expression_long l code (InvokeValue e k given) p q h =
      omega (
        arith,
        instr_long code p Sav h.saved h.save,
        expression_long l code e h.saved h.its.start h.its.value.value,
        value_call_long l code (kind_of e) (Some k) given (GivenAt l code given) h.its.start h.end (pushed_size given) h.its.call (given_long l code given h.its.call.start h.its.call.middle h.its.call.arguments),
        instr_long code h.end (Rst 1) q h.restore,
      )

  argument_long : (l : Layout) (code : List ℕ) (calls : Bool) (n : ℕ) (a : Argument) (p q : ℕ) → ArgumentAt l code calls n a p q → q ≡ p + (plain_pushes calls a + argument_size a)
  argument_long l code calls n (ByValue k e) p q h = omega (arith, expression_long l code e p h.middle h.value.value, test_long code k (kind_of e) h.middle q h.test)
  argument_long l code calls n (OfPlace d) p q h = omega (arith, place_long l code d p h.found h.here, instrs_long code (address_code (access_of l d)) h.found q h.address, address_sized (access_of l d), ap address_size (formed l d))
  argument_long l code calls n (OfAll d) p q h = omega (arith, place_long l code d p h.found h.here, instrs_long code (address_code (access_of l d)) h.found q h.address, address_sized (access_of l d), ap address_size (formed l d))
  argument_long l code calls n (OfArray copied d high) p q h =
      omega (arith, place_long l code d p h.found h.here, instrs_long code (address_code (access_of l d)) h.found h.start h.address, address_sized (access_of l d), ap address_size (formed l d), instrs_long code (second_code calls (Liw high)) h.start q h.by, second_sized calls (Liw high))
  argument_long l code calls n (OfText cs) p q h =
      omega (arith, instr_long code p (Lag h.offset) h.start h.address, instrs_long code (second_code calls (Liw (text_words cs - 1))) h.start q h.by, second_sized calls (Liw (text_words cs - 1)))
  argument_long l code calls n (OfOpened copied i x) p q h =
      omega (
        arith,
        instr_long code p (frame_code i h.opened.offset) h.start h.first,
        frame_sized i h.opened.offset,
        frame_sized i (h.opened.offset + 1),
        instrs_long code (second_code calls (frame_code i (h.opened.offset + 1))) h.start q h.by,
        second_sized calls (frame_code i (h.opened.offset + 1)),
      )
  argument_long l code calls n (Spelled cs count) p q h =
      omega (arith, instr_long code p (Lag h.offset) h.start h.address, instr_long code h.start (Psm (length cs)) h.last h.push, zeros_long l code (count - length cs) h.last q h.fill)

  -- those of a call, each with the instruction that pushes it
  given_long : (l : Layout) (code : List ℕ) (given : Arguments) (p q : ℕ) → GivenAt l code given p q → q ≡ p + pushed_size given
  given_long l code NoMore p q h = omega (arith, h)
  given_long l code (Also (ByValue k e) given) p q h = omega (arith, argument_long l code true 0 (ByValue k e) p h.here.middle h.here.here, instr_long code h.here.middle Psh h.middle h.here.push, given_long l code given h.middle q h.then)
  given_long l code (Also (OfPlace d) given) p q h = omega (arith, argument_long l code true 0 (OfPlace d) p h.here.middle h.here.here, instr_long code h.here.middle Psh h.middle h.here.push, given_long l code given h.middle q h.then)
  given_long l code (Also (OfAll d) given) p q h = omega (arith, argument_long l code true 0 (OfAll d) p h.here.middle h.here.here, instr_long code h.here.middle (Psm (words (shape_of l.scope d))) h.middle h.here.push, given_long l code given h.middle q h.then)
  given_long l code (Also (OfArray copied d high) given) p q h = omega (arith, argument_long l code true 0 (OfArray copied d high) p h.here.middle h.here.here, instr_long code h.here.middle Psh h.middle h.here.push, given_long l code given h.middle q h.then)
  given_long l code (Also (OfText cs) given) p q h = omega (arith, argument_long l code true 0 (OfText cs) p h.here.middle h.here.here, instr_long code h.here.middle Psh h.middle h.here.push, given_long l code given h.middle q h.then)
  given_long l code (Also (OfOpened copied n x) given) p q h = omega (arith, argument_long l code true 0 (OfOpened copied n x) p h.here.middle h.here.here, instr_long code h.here.middle Psh h.middle h.here.push, given_long l code given h.middle q h.then)
  given_long l code (Also (Spelled cs count) given) p q h = omega (arith, argument_long l code true 0 (Spelled cs count) p h.middle h.here, given_long l code given h.middle q h.then)

-- a place and its address
addressed_long : (l : Layout) (code : List ℕ) (d : Designator) (p found q : ℕ) → PlaceAt l code d p found → InstrsAt code (address_code (access_of l d)) found q → q ≡ p + (place_size d + address_size (form_of d))
addressed_long l code d p found q h i =
    omega (arith, place_long l code d p found h, instrs_long code (address_code (access_of l d)) found q i, address_sized (access_of l d), ap address_size (formed l d))

value_long : (l : Layout) (code : List ℕ) (n : ℕ) (e : Expression) (k : Kind) (p q : ℕ) → ValueRow l code n e k p q → q ≡ p + (size e + test_size k (kind_of e))
value_long l code n e k p q h = omega (arith, expression_long l code e p h.middle h.value.value, test_long code k (kind_of e) h.middle q h.test)

target_long : (l : Layout) (code : List ℕ) (d : Designator) (k : Kind) (p q : ℕ) → TargetRow l code d k p q → q ≡ p + target_size d
target_long l code d k p q h =
    omega (arith, place_long l code d p h.found h.here, instrs_long code (ready_code (access_of l d)) h.found q h.ready, ready_sized (access_of l d), ap ready_size (formed l d))

arguments_long : (l : Layout) (code : List ℕ) (n : ℕ) (given : Arguments) (p q : ℕ) → ArgumentsAt l code n given p q → q ≡ p + arguments_size given
arguments_long l code n NoMore p q h = omega (arith, h)
arguments_long l code n (Also a given) p q h = omega (arith, argument_long l code false n a p h.middle h.here, no_pushes a, arguments_long l code (argument_words a + n) given h.middle q h.then)

align_long : (l : Layout) (code : List ℕ) (same turns : Bool) (p start q : ℕ) → AlignAt l code same turns p start q → start ≡ p + (if same then 0 else (if turns then 7 else 15))
align_long l code true turns p start q h = omega (arith, h)
align_long l code false true p start q h = instrs_long code (Swp ∷ Rgc 0 32767 ∷ Swp ∷ []) p start h
align_long l code false false p start q h =
    omega (arith, instrs_long code (Swp ∷ Dup ∷ Liw 0 ∷ Lsi ∷ []) p h.tested h.look, instr_long code h.tested (Jpf (l.target h.other)) h.skip h.jump, instrs_long code (Drp ∷ Drp ∷ []) h.skip h.dropped h.drop, instr_long code h.dropped (Jmp (l.target q)) h.other h.leave, instr_long code h.other Swp start h.back)

-- the entries of an arm's labels, and those that are left
entries_end : (code : List ℕ) (k : Kind) (labels : List Label) (to : ℕ) (rest : ℕ → ℕ → Type 0) (t w : ℕ) → EntriesAt code k labels to rest t w → (u : ℕ) × (v : ℕ) × (w ≡ length labels + v) × rest u v
entries_end code k [] to rest t w h = (t, w, omega arith, h)
entries_end code k (label ∷ labels) to rest t zero h = absurd h
entries_end code k (label ∷ labels) to rest t (suc w) h =
    let left = entries_end code k labels to rest (t + 6) w h.1 in
    (left.0, left.1, omega (arith, left.2), left.3)

mutual
  pub statement_long : (l : Layout) (code : List ℕ) (n : ℕ) (exit : Option ℕ) (s : Statement) (p q : ℕ) → StatementAt l code n exit s p q → q ≡ p + statement_size s
  statement_long l code n exit (Assign d k e) p q h =
      let a = access_of l d in
      omega (arith, target_long l code d k p h.start h.target, value_long l code (held (readied a)) e k h.start h.middle h.value, instr_long code h.middle (store_code (readied a)) q h.store, store_sized a, ap store_size (formed l d))
  statement_long l code n exit (Copy d from) p q h =
      omega (
        arith,
        addressed_long l code d p h.found h.start h.here h.address,
        addressed_long l code from h.start h.middle h.last h.source h.source_address,
        instr_long code h.last _ q h.by,
      )
  statement_long l code n exit (Text d cs) p q h =
      omega (arith, addressed_long l code d p h.found h.start h.here h.address, instr_long code h.start (Lag h.offset) h.last h.source, instr_long code h.last _ q h.by)
  statement_long l code n exit (Change down d k e) p q h =
      let a = access_of l d in
      omega (
        arith,
        target_long l code d k p h.start h.target,
        instrs_long code (again_code (readied a)) h.start h.kept h.again,
        again_sized a,
        ap again_size (formed l d),
        expression_long l code e h.kept h.middle h.value.value,
        instrs_long code (change_code down k (readied a)) h.middle q h.by,
        change_sized down k a,
        ap under_size (formed l d),
        ap store_size (formed l d),
      )
  statement_long l code n exit (Member out d k e) p q h =
      omega (
        arith,
        addressed_long l code d p h.found h.start h.here h.address,
        value_long l code 1 e k h.start h.middle h.value,
        instr_long code h.middle (member_code out) q h.by,
        member_sized out,
      )
  statement_long l code n exit (New d k) p q h =
      omega (arith, addressed_long l code d p h.found h.start h.here h.address, instrs_long code (Liw (words (shape_at l.scope.targets k)) ∷ Alc ∷ []) h.start q h.by)
  statement_long l code n exit (Allocate back d e) p q h =
      omega (
        arith,
        addressed_long l code d p h.found h.start h.here h.address,
        value_long l code 1 e (OfWhole Cardinal) h.start h.middle h.value,
        instrs_long code (allocate_code back) h.middle q h.by,
        allocate_sized back,
      )
  statement_long l code n exit (Request r given) p q h = omega (arith, arguments_long l code 0 given p h.middle h.arguments, instr_long code h.middle (Svc (request_number r)) q h.by)
  statement_long l code n exit (If c a b) p q h =
      omega (arith, expression_long l code c p h.middle h.condition.value, instr_long code h.middle (Jpf (l.target h.other)) h.start h.jump, body_long l code n exit a h.start h.end h.chosen, instr_long code h.end (Jmp (l.target q)) h.other h.skip, body_long l code n exit b h.other q h.otherwise)
  statement_long l code n exit (Case e arms) p q h =
      omega (
        arith,
        expression_long l code e p h.middle h.value.value,
        instr_long code h.middle (Jmp (l.target h.choices)) h.exit h.dispatch,
        instr_long code h.exit (Jmp (l.target q)) h.start h.leave,
        arms_long l code n exit (kind_of e) arms h.exit h.other h.choices h.start h.entries h.count h.bodies,
        instr_long code h.choices (Cas (l.target h.count) (l.target h.other)) h.entries h.choice,
        h.whole,
      )
  statement_long l code n exit (While c body) p q h =
      omega (arith, expression_long l code c p h.middle h.condition.value, instr_long code h.middle (Jpf (l.target q)) h.start h.jump, body_long l code n exit body h.start h.end h.here, instr_long code h.end (Jmp (l.target p)) q h.back)
  statement_long l code n exit (Repeat body c) p q h =
      omega (arith, body_long l code n exit body p h.end h.here, expression_long l code c h.end h.middle h.condition.value, instr_long code h.middle (Jpf (l.target p)) q h.back)
  statement_long l code n exit (Loop body) p q h = omega (arith, body_long l code n (Some (l.target q)) body p h.end h.here, instr_long code h.end (Jmp (l.target p)) q h.back)
  statement_long l code n exit Exit p q h = instr_long code p (Jmp h.to) q h.jump
  statement_long l code n exit Halt p q h = instr_long code p (Trp 9) q h
  statement_long l code n exit Return p q h = instr_long code p Rtn q h.1
  statement_long l code n exit (Answer k e) p q h = omega (arith, value_long l code 0 e k p h.middle h.value, instr_long code h.middle Rtn q h.leave)
  statement_long l code n exit (Call x i given) p q h =
      omega (arith, instr_long code p (Mrk i) h.start h.mark, given_long l code given h.start h.middle h.arguments, instr_long code h.middle (Cll x (framed (given_words l.scope given))) q h.call)
  statement_long l code n exit (CallValue e given) p q h = omega (arith, expression_long l code e p h.start h.value.value, value_call_long l code (kind_of e) None given (GivenAt l code given) h.start q (pushed_size given) h.call (given_long l code given h.call.start h.call.middle h.call.arguments))
  statement_long l code n exit (For x k a b step body) p q h =
      let t = h.turns in
      let r = t.round in
      omega (
        arith,
        expression_long l code a p h.middle h.first.value,
        expression_long l code b h.middle h.last h.limit.value,
        align_long l code (covers (base_of k) (kind_of a)) (outside_turns (compared_as (base_of k)) step) h.last t.aligned q t.align,
        instr_long code t.aligned (Liw (word_of step)) t.stepped t.load,
        instr_long code t.stepped (Fri (framed (loop_place n)) (loop_sign (compared_as (base_of k))) (l.target q)) t.turn t.enter,
        instr_long code t.turn (Llw (framed (loop_place n))) r.loaded r.load,
        test_long code k (base_of k) r.loaded r.tested r.test,
        instr_long code r.tested (store_code (access_at x r.known.offset)) r.start r.store,
        stored_sized x r.known.offset,
        body_long l code (3 + n) exit body r.start r.end r.here,
        instr_long code r.end (Frn (framed (loop_place n)) (l.target t.turn)) q r.next,
      )
  statement_long l code n exit (Inside d body) p q h =
      omega (
        arith,
        addressed_long l code d p h.found h.start h.here h.address,
        instr_long code h.start (Slw (framed (loop_place n))) h.kept h.keep,
        body_long (holding l (shape_of l.scope d) (framed (loop_place n))) code (suc n) exit body h.kept q h.within,
      )

  pub body_long : (l : Layout) (code : List ℕ) (n : ℕ) (exit : Option ℕ) (ss : Statements) (p q : ℕ) → BodyAt l code n exit ss p q → q ≡ p + body_size ss
  body_long l code n exit Empty p q h = omega (arith, h)
  body_long l code n exit (Then s ss) p q h = omega (arith, statement_long l code n exit s p h.middle h.here, body_long l code n exit ss h.middle q h.then)

  -- the bodies of arms, and as many bytes as their entries have
  arms_long : (l : Layout) (code : List ℕ) (n : ℕ) (exit : Option ℕ) (k : Kind) (arms : Arms) (leave other table p t w : ℕ) → ArmsAt l code n exit k arms leave other table p t w → table + 6 * w ≡ p + arms_size arms
  arms_long l code n exit k NoElse leave other table p t w h = omega (arith, instr_long code p (Trp 7) table h.trap, h.none)
  arms_long l code n exit k (Else body) leave other table p t w h = omega (arith, body_long l code n exit body p h.end h.here, instr_long code h.end (Jmp (l.target leave)) table h.leave, h.none)
  arms_long l code n exit k (Arm labels body rest) leave other table p t w h =
      let left = entries_end code k labels (l.target p) (ArmsAt l code n exit k rest leave other table h.gap) t w h.entries in
      omega (arith, body_long l code n exit body p h.end h.here, instr_long code h.end (Jmp (l.target leave)) h.gap h.leave, left.2, arms_long l code n exit k rest leave other table h.gap left.0 left.1 left.3)

leave_sized : (result : Option Kind) → instr_size (leave_code result) ≡ leave_size result
leave_sized None = refl
leave_sized (Some k) = refl

copy_sized : (o : ℕ) (t : Shape) → instrs_size (copy_code o t) ≡ copy_size t
copy_sized o Absent = refl
copy_sized o (Word k) = refl
copy_sized o Blank = refl
copy_sized o (Join a b) = refl
copy_sized o (Row n t) = refl
copy_sized o (Address t) = refl
copy_sized o (Opened false t) = refl
copy_sized o (Opened true t) = refl

copies_sized : (o : ℕ) (ts : List Shape) → instrs_size (copies_code o ts) ≡ copies_size ts
copies_sized o [] = refl
copies_sized o (t ∷ ts) = omega (arith, instrs_both (copy_code o t) (copies_code (o + words t) ts), copy_sized o t, copies_sized (o + words t) ts)

pub framed_long : (l : Layout) (code : List ℕ) (result : Option Kind) (locals parameters : List Shape) (ss : Statements) (p q : ℕ) → FramedRow l code result locals parameters ss p q → q ≡ p + framed_size result parameters ss
framed_long l code result locals parameters ss p q h =
    omega (arith, instr_long code p (Ent (framed (frame_words locals ss))) h.begun h.enter, instrs_long code (copies_code 4 parameters) h.begun h.start h.copies, copies_sized 4 parameters, body_long l code (all_words locals) None ss h.start h.end h.body, instr_long code h.end (leave_code result) q h.leave, leave_sized result)

pub procedures_long : (l : Layout) (code : List ℕ) (n : ℕ) (ps : List Procedure) (es : List ℕ) (p q : ℕ) → ProceduresAt l code n ps es p q → q ≡ p + procedures_size ps
procedures_long l code n [] [] p q h = omega (arith, h)
procedures_long l code n (its ∷ ps) (e ∷ es) p q h = omega (arith, framed_long (in_procedure l n its) (stretch p h.1.middle code) its.result its.locals (take its.parameters its.locals) its.body p h.1.middle h.1.here, procedures_long l code (suc n) ps es h.1.middle q h.1.then)
procedures_long l code n [] (e ∷ es) p q h = absurd h
procedures_long l code n (its ∷ ps) [] p q h = absurd h

-- any translation of a module has as many bytes as its size says
pub module_long : (l : Layout) (m : Resolved) (entries code : List ℕ) → TranslatesBy l m entries code → length code ≡ code_size m
module_long l m entries code h = omega (arith, framed_long l (stretch 0 h.middle code) None [] [] m.body 0 h.middle h.body, procedures_long l code 1 m.procedures entries h.middle (length code) h.procedures)

-- ---- a frame has no more words than its code has bytes
mutual
  statement_small : (s : Statement) → statement_words s ≤ statement_size s
  statement_small (If c a b) = omega (arith, body_small a, body_small b)
  statement_small (Case e arms) = omega (arith, arms_small arms)
  statement_small (While c body) = omega (arith, body_small body)
  statement_small (Repeat body c) = omega (arith, body_small body)
  statement_small (Loop body) = omega (arith, body_small body)
  statement_small (For d k a b step body) = omega (arith, body_small body)
  statement_small (Inside d body) = omega (arith, body_small body)
  statement_small _ = omega arith

  pub body_small : (b : Statements) → body_words b ≤ body_size b
  body_small Empty = omega arith
  body_small (Then s ss) = omega (arith, statement_small s, body_small ss)

  arms_small : (a : Arms) → arms_words a ≤ arms_size a
  arms_small NoElse = omega arith
  arms_small (Else body) = omega (arith, body_small body)
  arms_small (Arm labels body rest) = omega (arith, body_small body, arms_small rest)
