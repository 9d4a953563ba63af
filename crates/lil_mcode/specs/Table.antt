-- The machine: its state, and what each instruction does to it.
use Rattle.std.specs.Prelude.{ℕ, zero, suc, List, [], ◌∷◌, Bool, Option, None, slice_get, ◌+◌, ◌-◌, ◌*◌, ◌/◌, ◌%◌, ℤ, true, not, length, ◌++◌, reverse, take, drop, Some, Result, Ok, Err, ◌&&◌, nat_lt, nat_le, ◌==◌, if◌then◌else◌, slice_index, slice_set, is_some, option_map, int_lt}
use Rattle.lil_base.specs.{Words.{Whole, Cardinal, Integer, sum, difference, product, quotient, remainder, negation, absolute, between, number_of, word_of}, declared.fault.{ArithFault.ArithFault, TrapKind.TrapKind}, Sets.{has, union, minus, meet, apart, span, is_within}, Traps.arith_trap, Requests.{request_with, takes_array}}
use Rattle.lil_base.specs.declared.fault.TrapKind.TheVariants as trap
use Rattle.lil_base.specs.declared.fault.LimitKind.TheVariants as limit
use Rattle.lil_asm.specs.declared.instr.Instr.{Instr}
use Rattle.lil_asm.specs.declared.instr.Instr.TheVariants.{Liw, Lib, Dup, Drp, Swp, Lis, Llw, Llb, Slw, Slb, Lgw, Lgb, Sgw, Sgb, Lew, Sew, Lnw, Snw, Lal, Lag, Lae, Lan, Ldi, Sti, Ldf, Adf, Mov, Mvz, Nlt, Ixc, Ixo, Rgc, Rgi, Cap, Adc, Sbc, Mlc, Dvc, Mdc, Adi, Sbi, Mli, Dvi, Mdi, Ngi, Abi, Uni, Dif, Its, Sym, Sin, Spn, Icl, Ecl, Sle, Not, Equ, Neq, Lsc, Lec, Lsi, Lei, Sav, Mrk, Mrf, Psh, Psm, Cll, Clx, Clf, Ent, Cpy, Rtn, Rst, Jmp, Jpf, Jan, Jor, Jms, Jfs, Cas, Fri, Frn, Trp, Alc, Svc}
use Rattle.lil_asm.specs.{Requests.request_words, Bytes.decoded}
use Rattle.lil_mcode.specs.{declared.machine.Event.{Event, TheVariants.{Went, Request, LevelEnded, Trap, Limit, BadCode}}, Control.{above, chosen, loop_type, loop_words, turns, after_first}}
use Rattle.lil_base.specs.declared.request.Request as request
use Rattle.lil_frames.specs.Words.{spliced, cleared, moved}

-- ---- the state of the machine, without its count of steps

-- A module that is loaded. The first of its procedures is the body, which has no name; each has its entry in the code.
-- Its data frame has so many words from the base on.
pub record Module : Type 0 where
  pub name : List ℕ
  pub procedures : List (ℕ × Option (List ℕ))
  pub code : List ℕ
  pub base : ℕ
  pub words : ℕ

-- the registers of a stack of frames: the running frame with its module's number, the first free word, the base and the limit, and the
-- bodies that are to run behind the one at hand
pub record StackRegisters : Type 0 where
  pub running : ℕ
  pub frame : ℕ
  pub top : ℕ
  pub base : ℕ
  pub limit : ℕ
  pub bodies : List ℕ

-- what is kept of a coroutine that doesn't run: where it goes on, with no word on the expression stack
pub record Kept : Type 0 where
  pub place : ℕ
  pub stack : StackRegisters

pub record State : Type 0 where
  -- the k-th has number k, from 1
  pub modules : List Module
  -- the number of the running module, and the place of the next instruction in its code
  pub running : ℕ
  pub place : ℕ
  -- the expression stack, its top first
  pub stack : List ℕ
  pub store : List ℕ
  -- The running frame, the first free word of the stack of frames, its base and its limit. That of the main stack is the first of the two
  -- words below the lowest block, or 65,535.
  pub frame : ℕ
  pub top : ℕ
  pub base : ℕ
  pub limit : ℕ
  -- the bodies of the level that are to run behind the one at hand
  pub bodies : List ℕ
  -- whether the first body has its mark
  pub marked : Bool
  -- the coroutines of the highest level that don't run, and for each level below it the one that began the next
  pub parked : List Kept
  pub waiting : List Kept

-- the registers of the stack that runs
abbrev pub stack_of : State → StackRegisters
stack_of s = record { running = s.running; frame = s.frame; top = s.top; base = s.base; limit = s.limit; bodies = s.bodies }

-- the module with this number
abbrev pub module_at : List Module → ℕ → Option Module
module_at modules zero = None
module_at modules (suc k) = slice_get modules k

-- the entry of the body of a module
abbrev pub first_entry : List (ℕ × Option (List ℕ)) → ℕ
first_entry [] = 0
first_entry (p ∷ ps) = p.0

abbrev pub body_entry : Module → ℕ
body_entry m = first_entry m.procedures

-- the same but for the place and the expression stack
abbrev pub going : State → ℕ → List ℕ → State
going s q stack = record s { place = q; stack = stack }

abbrev pub bad : State → Event × State
bad s = (BadCode, s)

-- one more word on the expression stack, which has 16 words at most
abbrev pub push_row : ℕ → ℕ → State → Event × State
push_row w q s = if nat_lt (length s.stack) 16 then (Went, going s q (w ∷ s.stack)) else bad s

-- a row that looks at the topmost word x, with the words below it
abbrev pub on_one : State → List ℕ → (ℕ → List ℕ → Event × State) → Event × State
on_one s [] f = bad s
on_one s (x ∷ rest) f = f x rest

-- the result of an operator in place of its two words, or its trap
abbrev pub result_row : State → ℕ → List ℕ → Result ℤ ArithFault → Event × State
result_row s q rest (Ok z) = (Went, going s q (word_of z ∷ rest))
result_row s q rest (Err e) = (Trap (arith_trap e), s)

-- a row that looks at the two topmost words, x below y, with the words below them
abbrev pub on_two : State → List ℕ → (ℕ → ℕ → List ℕ → Event × State) → Event × State
on_two s [] f = bad s
on_two s (y ∷ []) f = bad s
on_two s (y ∷ x ∷ rest) f = f x y rest

-- a row that looks at the three topmost words, x below y below z
abbrev pub on_three : State → List ℕ → (ℕ → ℕ → ℕ → List ℕ → Event × State) → Event × State
on_three s [] f = bad s
on_three s (z ∷ []) f = bad s
on_three s (z ∷ y ∷ []) f = bad s
on_three s (z ∷ y ∷ x ∷ rest) f = f x y z rest

-- an operator of a type on two words
abbrev pub operator_row : (Whole → ℤ → ℤ → Result ℤ ArithFault) → Whole → ℕ → State → ℕ → ℕ → List ℕ → Event × State
operator_row f t q s x y rest = result_row s q rest (f t (number_of t x) (number_of t y))

abbrev pub two_row : (Whole → ℤ → ℤ → Result ℤ ArithFault) → Whole → ℕ → State → List ℕ → Event × State
two_row f t q s stack = on_two s stack (operator_row f t q s)

-- an operator on one INTEGER
abbrev pub sign_row : (Whole → ℤ → Result ℤ ArithFault) → ℕ → State → ℕ → List ℕ → Event × State
sign_row f q s x rest = result_row s q rest (f Integer (number_of Integer x))

-- the word of a truth value
abbrev pub truth : Bool → ℕ
truth b = if b then 1 else 0

-- what the comparisons ask of two words
abbrev pub equal : ℕ → ℕ → Bool
equal x y = x == y

abbrev pub unequal : ℕ → ℕ → Bool
unequal x y = not (x == y)

abbrev pub less : Whole → ℕ → ℕ → Bool
less t x y = int_lt (number_of t x) (number_of t y)

abbrev pub at_most : Whole → ℕ → ℕ → Bool
at_most t x y = not (int_lt (number_of t y) (number_of t x))

-- the word of a comparison in place of its two words
abbrev pub truth_row : (ℕ → ℕ → Bool) → ℕ → State → ℕ → ℕ → List ℕ → Event × State
truth_row f q s x y rest = (Went, going s q (truth (f x y) ∷ rest))

abbrev pub compare_row : (ℕ → ℕ → Bool) → ℕ → State → List ℕ → Event × State
compare_row f q s stack = on_two s stack (truth_row f q s)

-- another word in place of the topmost one
abbrev pub change_row : (ℕ → ℕ) → ℕ → State → ℕ → List ℕ → Event × State
change_row f q s x rest = (Went, going s q (f x ∷ rest))

-- the code of a capital for that of a small letter, all others as they are
abbrev pub capital : ℕ → ℕ
capital x = if nat_le 97 x && nat_le x 122 then x - 32 else x

abbrev pub denied : ℕ → ℕ
denied x = truth (x == 0)

abbrev pub double_row : ℕ → State → ℕ → List ℕ → Event × State
double_row q s x rest = push_row x q s

abbrev pub drop_row : ℕ → State → ℕ → List ℕ → Event × State
drop_row q s x rest = (Went, going s q rest)

abbrev pub swap_row : ℕ → State → ℕ → ℕ → List ℕ → Event × State
swap_row q s x y rest = (Went, going s q (x ∷ y ∷ rest))

-- a word of the store
abbrev pub load_row : ℕ → ℕ → State → Event × State
load_row a q s = if nat_lt a 65536 then push_row (slice_index s.store a) q s else bad s

abbrev pub store_row : ℕ → ℕ → State → ℕ → List ℕ → Event × State
store_row a q s x rest = if nat_lt a 65536 then (Went, record s { place = q; stack = rest; store = slice_set s.store a x }) else bad s

-- an address
abbrev pub address_row : ℕ → ℕ → State → Event × State
address_row a q s = if nat_lt a 65536 then push_row a q s else bad s

-- where the data of a module begin, if it is loaded
abbrev pub its_base : Module → ℕ
its_base m = m.base

abbrev pub base_at : List Module → ℕ → Option ℕ
base_at modules n = option_map its_base (module_at modules n)

-- a row at the word so many words behind a base
abbrev pub based_row : Option ℕ → ℕ → State → (ℕ → Event × State) → Event × State
based_row None w s f = bad s
based_row (Some base) w s f = f (base + w)

-- an address in place of so many words with these below
abbrev pub place_row : ℕ → ℕ → State → List ℕ → Event × State
place_row a q s rest = if nat_lt a 65536 then (Went, going s q (a ∷ rest)) else bad s

abbrev pub further_row : ℕ → ℕ → State → ℕ → List ℕ → Event × State
further_row w q s a rest = place_row (a + w) q s rest

-- the word so many words behind an address
abbrev pub fetch_row : ℕ → ℕ → State → ℕ → List ℕ → Event × State
fetch_row w q s a rest = if nat_lt (a + w) 65536 then (Went, going s q (slice_index s.store (a + w) ∷ rest)) else bad s

abbrev pub put_row : ℕ → State → ℕ → ℕ → List ℕ → Event × State
put_row q s a x rest = if nat_lt a 65536 then (Went, record s { place = q; stack = rest; store = slice_set s.store a x }) else bad s

-- so many words from one address, as they were, and zeros behind them, go to another
abbrev pub move_row : ℕ → ℕ → ℕ → State → ℕ → ℕ → List ℕ → Event × State
move_row w z q s to from rest =
    if nat_le (from + w) 65536 && nat_le (to + (w + z)) 65536
    then (Went, record s { place = q; stack = rest; store = spliced s.store to (moved s.store from w z) })
    else bad s

-- a pointer that isn't NIL
abbrev pub nil_row : ℕ → State → ℕ → List ℕ → Event × State
nil_row q s a rest = if a == 0 then (Trap trap.Nil, s) else (Went, going s q s.stack)

-- the address of an element, by its index
abbrev pub element_row : ℕ → ℕ → ℕ → State → ℕ → ℕ → List ℕ → Event × State
element_row low w q s a i rest = place_row (a + above low i * w) q s rest

abbrev pub open_row : ℕ → ℕ → State → ℕ → ℕ → ℕ → List ℕ → Event × State
open_row w q s a high i rest = if nat_lt high i then (Trap trap.Range, s) else place_row (a + i * w) q s rest

-- a word in place of two
abbrev pub join_row : (ℕ → ℕ → ℕ) → ℕ → State → ℕ → ℕ → List ℕ → Event × State
join_row f q s x y rest = (Went, going s q (f x y ∷ rest))

-- whether a number is in a set, which stands above it
abbrev pub is_member : ℕ → ℕ → Bool
is_member x t = has t x

abbrev pub one_more : ℕ → ℕ → ℕ
one_more t x = union t (span x x)

abbrev pub one_less : ℕ → ℕ → ℕ
one_less t x = minus t (span x x)

-- a set with all numbers of a range
abbrev pub range_set_row : ℕ → State → ℕ → ℕ → ℕ → List ℕ → Event × State
range_set_row q s t low high rest = if nat_le low high && nat_lt 15 high then bad s else (Went, going s q (union t (span low high) ∷ rest))

-- a set of the store with a number more or less
abbrev pub member_row : (ℕ → ℕ → ℕ) → ℕ → State → ℕ → ℕ → List ℕ → Event × State
member_row f q s a x rest = if nat_lt 15 x then bad s else put_row q s a (f (slice_index s.store a) x) rest

-- the topmost word lies in a range of a type, its ends included
abbrev pub range_row : Whole → ℕ → ℕ → ℕ → State → ℕ → List ℕ → Event × State
range_row t low high q s x rest =
    if between (number_of t low) (number_of t x) (number_of t high) then (Went, going s q s.stack) else (Trap trap.Range, s)

-- A jump to place t of the running module's code, in a state r where all that isn't the place is as the row makes it.
abbrev pub jump : Module → ℕ → State → State → Event × State
jump m t s r = if nat_lt t (length m.code) then (Went, record r { place = t }) else bad s

-- a jump where the topmost word is 0; the word goes
abbrev pub false_row : Module → ℕ → ℕ → State → ℕ → List ℕ → Event × State
false_row m t q s x rest = if x == 0 then jump m t s (record s { stack = rest }) else (Went, going s q rest)

-- a jump where the topmost word is 0, which then stays; else it goes
abbrev pub and_row : Module → ℕ → ℕ → State → ℕ → List ℕ → Event × State
and_row m t q s x rest = if x == 0 then jump m t s s else (Went, going s q rest)

-- a jump where the topmost word isn't 0, which then stays; else it goes
abbrev pub or_row : Module → ℕ → ℕ → State → ℕ → List ℕ → Event × State
or_row m t q s x rest = if x == 0 then (Went, going s q rest) else jump m t s s

-- CASE: the topmost word goes, and the place is that of the first entry whose range has it, else the other one
abbrev pub chosen_row : Module → State → List ℕ → Option ℕ → Event × State
chosen_row m s rest None = bad s
chosen_row m s rest (Some t) = jump m t s (record s { stack = rest })

abbrev pub case_row : Module → ℕ → ℕ → ℕ → State → ℕ → List ℕ → Event × State
case_row m n other q s x rest = chosen_row m s rest (chosen m.code n q x other)

-- a loop that begins: with its three words, where there is a turn, else at the place behind it
abbrev pub begun_row : Module → ℕ → ℕ → ℕ → State → ℕ → ℕ → List ℕ → Option ℕ → Event × State
begun_row m at t q s a k rest None = jump m t s (record s { stack = rest })
begun_row m at t q s a k rest (Some n) =
    if nat_lt (at + 2) 65536 then (Went, record s { place = q; stack = rest; store = loop_words s.store at a n k }) else bad s

abbrev pub loop_row : Module → ℕ → ℕ → ℕ → ℕ → State → ℕ → ℕ → ℕ → List ℕ → Event × State
loop_row m at f t q s a b k rest =
    if nat_lt f 2 && not (k == 0)
    then begun_row m at t q s a k rest (after_first (turns (number_of (loop_type f) a) (number_of (loop_type f) b) (number_of Integer k)))
    else bad s

-- a loop's next turn, where one is left
abbrev pub turn_row : Module → ℕ → ℕ → ℕ → State → ℕ → ℕ → ℕ → Event × State
turn_row m at t q s x n k =
    if n == 0 then (Went, going s q s.stack)
    else (if nat_lt (at + 2) 65536 then jump m t s (record s { store = slice_set (slice_set s.store (at + 1) (n - 1)) at ((x + k) % 65536) }) else bad s)

abbrev pub again_row : Module → ℕ → ℕ → ℕ → State → Event × State
again_row m at t q s =
    if nat_lt (at + 1) 65536
    then turn_row m at t q s (slice_index s.store at) (slice_index s.store (at + 1)) (slice_index s.store (at + 2))
    else bad s

-- the traps that an instruction calls by their numbers
abbrev pub called_trap : ℕ → Option TrapKind
called_trap k = if k == 7 then Some trap.Case else (if k == 8 then Some trap.Function else (if k == 9 then Some trap.Halted else None))

abbrev pub trap_row : State → Option TrapKind → Event × State
trap_row s None = bad s
trap_row s (Some k) = (Trap k, s)

-- ---- calls
-- the frame so many static links out
abbrev pub frame_out : List ℕ → ℕ → ℕ → ℕ
frame_out store frame zero = frame
frame_out store frame (suc n) = slice_index store (frame_out store frame n)

-- the first word of a mark: the frame in which the called procedure was declared, or 0 for one of the module
abbrev pub link_word : ℕ → State → ℕ
link_word zero s = 0
link_word (suc n) s = frame_out s.store s.frame n

-- the stack of frames has n words more, in a store to which they have come
abbrev pub longer_row : ℕ → List ℕ → ℕ → List ℕ → State → Event × State
longer_row n store q rest s =
    if nat_lt s.limit (s.top + n) then (Limit limit.Stack, s)
    else (Went, record s { place = q; stack = rest; top = s.top + n; store = store })

-- words go to the stack of frames
abbrev pub stacked_row : List ℕ → ℕ → List ℕ → State → Event × State
stacked_row ws q rest s = longer_row (length ws) (spliced s.store s.top ws) q rest s

abbrev pub mark_row : ℕ → ℕ → State → Event × State
mark_row n q s = stacked_row (link_word n s ∷ 0 ∷ 0 ∷ 0 ∷ []) q s.stack s

-- the entry of a procedure of a module
abbrev pub its_entry : ℕ × Option (List ℕ) → ℕ
its_entry p = p.0

abbrev pub entry_in : Option Module → ℕ → Option ℕ
entry_in None p = None
entry_in (Some m) p = option_map its_entry (slice_get m.procedures p)

-- a procedure value has the number of a module, and below it that of a procedure
abbrev pub entry_of_value : List Module → ℕ → Option ℕ
entry_of_value modules v = entry_in (module_at modules (v / 256)) (v % 256)

-- a mark for the call of a procedure value
abbrev pub value_mark_row : ℕ → State → ℕ → List ℕ → Event × State
value_mark_row q s v rest =
    if v == 0 then (Trap trap.NoProcedure, s)
    else (if is_some (entry_of_value s.modules v) then stacked_row (0 ∷ 0 ∷ 0 ∷ v ∷ []) q rest s else bad s)

-- a frame of a module's procedure begins at a word; its mark says where the return goes on
abbrev pub called_row : ℕ → ℕ → ℕ → State → Option ℕ → Event × State
called_row n at q s None = bad s
called_row n at q s (Some e) = (Went, record s { running = n; place = e; frame = at; store = spliced s.store (at + 1) (s.frame ∷ q ∷ s.running ∷ []) })

abbrev pub call_row : ℕ → ℕ → ℕ → ℕ → State → Event × State
call_row n p a q s =
    if nat_le (s.frame + 8 + a) s.top && (length s.stack == 0)
    then called_row n (s.top - a - 4) q s (entry_in (module_at s.modules n) p)
    else bad s

-- a call of the procedure whose value stands in the mark
abbrev pub value_call_row : ℕ → ℕ → State → ℕ → Event × State
value_call_row a q s v = call_row (v / 256) (v % 256) a q s

-- a word goes to the stack of frames
abbrev pub word_row : ℕ → State → ℕ → List ℕ → Event × State
word_row q s x rest = stacked_row (x ∷ []) q rest s

-- so many words from an address go to the stack of frames
abbrev pub words_row : ℕ → ℕ → State → ℕ → List ℕ → Event × State
words_row w q s from rest =
    if nat_le (from + w) 65536 then longer_row w (spliced s.store s.top (moved s.store from w 0)) q rest s else bad s

-- the same, and where they now stand comes to a place
abbrev pub copied_row : ℕ → ℕ → ℕ → State → ℕ → Event × State
copied_row at n q s from =
    if nat_le (from + n) 65536 then longer_row n (slice_set (spliced s.store s.top (moved s.store from n 0)) at s.top) q s.stack s else bad s

-- an array whose address stands at a place, and behind it the number of its last element, with elements of so many words
abbrev pub array_row : ℕ → ℕ → ℕ → State → Event × State
array_row at w q s =
    if nat_lt (at + 1) 65536
    then copied_row at ((slice_index s.store (at + 1) + 1) * w) q s (slice_index s.store at)
    else bad s

-- the words of the expression stack, the lowest first, and their number go to the stack of frames
abbrev pub save_row : ℕ → State → Event × State
save_row q s = stacked_row (reverse s.stack ++ length s.stack ∷ []) q [] s

-- k words that were saved come back below r others
abbrev pub restored_row : ℕ → ℕ → State → ℕ → Event × State
restored_row r q s k =
    if length s.stack == r && (nat_le (k + r) 16 && nat_le (s.frame + 5 + k) s.top)
    then (Went, record s { place = q; stack = s.stack ++ reverse (take k (drop (s.top - 1 - k) s.store)); top = s.top - 1 - k })
    else bad s

abbrev pub restore_row : ℕ → ℕ → State → Event × State
restore_row r q s = restored_row r q s (slice_index s.store (s.top - 1))

abbrev pub enter_row : ℕ → ℕ → State → Event × State
enter_row w q s =
    if nat_lt (s.frame + w) s.top then bad s
    else (if nat_lt s.limit (s.frame + w) then (Limit limit.Stack, s)
    else (Went, record s { place = q; top = s.frame + w; store = cleared s.store s.top (s.frame + w) }))

-- the body of a module begins, with a mark at the base whose fourth word is the module's number
abbrev pub begun_body : State → ℕ → Module → List ℕ → State
begun_body s b m bodies =
    record s {
      running = b;
      place = body_entry m;
      stack = [];
      store = spliced s.store s.base (0 ∷ 0 ∷ 0 ∷ b ∷ []);
      frame = s.base;
      top = s.base + 4;
      bodies = bodies;
    }

abbrev pub body_row : State → ℕ → List ℕ → Option Module → Event × State
body_row s b bodies None = bad s
body_row s b bodies (Some m) = if nat_lt s.limit (s.base + 4) then (Limit limit.Stack, s) else (Went, begun_body s b m bodies)

-- at the end of a body the next one begins, or the level ends
abbrev pub end_row : State → List ℕ → Event × State
end_row s [] = (LevelEnded, s)
end_row s (b ∷ bodies) = body_row s b bodies (module_at s.modules b)

-- a return to the frame, the place and the module that the mark names
abbrev pub return_row : State → ℕ → ℕ → ℕ → Event × State
return_row s frame place module' =
    if nat_lt (s.frame + 3) 65536 && (nat_le s.base frame && (nat_le (frame + 4) s.frame && is_some (module_at s.modules module')))
    then (Went, record s { top = s.frame; frame = frame; place = place; running = module' }) else bad s

abbrev pub leave_row : State → Event × State
leave_row s =
    if s.frame == s.base then end_row s s.bodies
    else return_row s (slice_index s.store (s.frame + 1)) (slice_index s.store (s.frame + 2)) (slice_index s.store (s.frame + 3))

-- the array of WriteString lies in the store: its address, and above it the number of its last element
abbrev pub array_lies : request.Request → List ℕ → Bool
array_lies r (high ∷ address ∷ rest) = if takes_array r then nat_le (address + high) 65535 else true
array_lies r _ = true

-- a block of so many words is taken below the limit, with two more below it; its words become zero, and then its address goes to a place
abbrev pub take_row : ℕ → State → ℕ → ℕ → List ℕ → Event × State
take_row q s a n rest =
    if nat_lt a 65536
    then (if nat_lt (s.limit - s.top) (n + 2) then (Limit limit.Store, s)
    else (Went, record s { place = q; stack = rest; limit = s.limit - (n + 2); store = slice_set (cleared s.store (s.limit - n) s.limit) a (s.limit - n) }))
    else bad s

-- a request; a number that none has is bad code
abbrev pub request_row : ℕ → State → Option request.Request → Event × State
request_row q s None = bad s
request_row q s (Some r) = if nat_le (request_words r) (length s.stack) && array_lies r s.stack then (Request r, going s q s.stack) else bad s

-- the row of an instruction of module m, where q is the place behind it
abbrev pub act : Instr → ℕ → Module → State → Event × State
act (Liw w) q m s = push_row w q s
act (Lib b) q m s = push_row b q s
act Dup q m s = on_one s s.stack (double_row q s)
act Drp q m s = on_one s s.stack (drop_row q s)
act Swp q m s = on_two s s.stack (swap_row q s)
act (Lis b) q m s = push_row b q s
act (Llw w) q m s = load_row (s.frame + w) q s
act (Llb b) q m s = load_row (s.frame + b) q s
act (Slw w) q m s = on_one s s.stack (store_row (s.frame + w) q s)
act (Slb b) q m s = on_one s s.stack (store_row (s.frame + b) q s)
act (Lgw w) q m s = load_row (m.base + w) q s
act (Lgb b) q m s = load_row (m.base + b) q s
act (Sgw w) q m s = on_one s s.stack (store_row (m.base + w) q s)
act (Sgb b) q m s = on_one s s.stack (store_row (m.base + b) q s)
act (Lew n w) q m s = based_row (base_at s.modules n) w s (λ a. load_row a q s)
act (Sew n w) q m s = based_row (base_at s.modules n) w s (λ a. on_one s s.stack (store_row a q s))
act (Lnw n w) q m s = load_row (frame_out s.store s.frame n + w) q s
act (Snw n w) q m s = on_one s s.stack (store_row (frame_out s.store s.frame n + w) q s)
act (Lal w) q m s = address_row (s.frame + w) q s
act (Lag w) q m s = address_row (m.base + w) q s
act (Lae n w) q m s = based_row (base_at s.modules n) w s (λ a. address_row a q s)
act (Lan n w) q m s = address_row (frame_out s.store s.frame n + w) q s
act Ldi q m s = on_one s s.stack (fetch_row 0 q s)
act Sti q m s = on_two s s.stack (put_row q s)
act (Ldf w) q m s = on_one s s.stack (fetch_row w q s)
act (Adf w) q m s = on_one s s.stack (further_row w q s)
act (Mov w) q m s = on_two s s.stack (move_row w 0 q s)
act (Mvz w z) q m s = on_two s s.stack (move_row w z q s)
act Nlt q m s = on_one s s.stack (nil_row q s)
act (Ixc low w) q m s = on_two s s.stack (element_row low w q s)
act (Ixo w) q m s = on_three s s.stack (open_row w q s)
act (Rgc low high) q m s = on_one s s.stack (range_row Cardinal low high q s)
act (Rgi low high) q m s = on_one s s.stack (range_row Integer low high q s)
act Cap q m s = on_one s s.stack (change_row capital q s)
act Adc q m s = two_row sum Cardinal q s s.stack
act Sbc q m s = two_row difference Cardinal q s s.stack
act Mlc q m s = two_row product Cardinal q s s.stack
act Dvc q m s = two_row quotient Cardinal q s s.stack
act Mdc q m s = two_row remainder Cardinal q s s.stack
act Adi q m s = two_row sum Integer q s s.stack
act Sbi q m s = two_row difference Integer q s s.stack
act Mli q m s = two_row product Integer q s s.stack
act Dvi q m s = two_row quotient Integer q s s.stack
act Mdi q m s = two_row remainder Integer q s s.stack
act Ngi q m s = on_one s s.stack (sign_row negation q s)
act Abi q m s = on_one s s.stack (sign_row absolute q s)
act Uni q m s = on_two s s.stack (join_row union q s)
act Dif q m s = on_two s s.stack (join_row minus q s)
act Its q m s = on_two s s.stack (join_row meet q s)
act Sym q m s = on_two s s.stack (join_row apart q s)
act Sin q m s = compare_row is_member q s s.stack
act Spn q m s = on_three s s.stack (range_set_row q s)
act Icl q m s = on_two s s.stack (member_row one_more q s)
act Ecl q m s = on_two s s.stack (member_row one_less q s)
act Sle q m s = compare_row is_within q s s.stack
act Not q m s = on_one s s.stack (change_row denied q s)
act Equ q m s = compare_row equal q s s.stack
act Neq q m s = compare_row unequal q s s.stack
act Lsc q m s = compare_row (less Cardinal) q s s.stack
act Lec q m s = compare_row (at_most Cardinal) q s s.stack
act Lsi q m s = compare_row (less Integer) q s s.stack
act Lei q m s = compare_row (at_most Integer) q s s.stack
act Sav q m s = save_row q s
act (Mrk n) q m s = mark_row n q s
act Mrf q m s = on_one s s.stack (value_mark_row q s)
act Psh q m s = on_one s s.stack (word_row q s)
act (Psm w) q m s = on_one s s.stack (words_row w q s)
act (Cll p a) q m s = call_row s.running p a q s
act (Clx n p a) q m s = call_row n p a q s
act (Clf a) q m s = value_call_row a q s (slice_index s.store (s.top - a - 1))
act (Ent w) q m s = enter_row w q s
act (Cpy o w) q m s = array_row (s.frame + o) w q s
act Rtn q m s = leave_row s
act (Rst r) q m s = restore_row r q s
act (Jmp t) q m s = jump m t s s
act (Jpf t) q m s = on_one s s.stack (false_row m t q s)
act (Jan t) q m s = on_one s s.stack (and_row m t q s)
act (Jor t) q m s = on_one s s.stack (or_row m t q s)
act (Jms b) q m s = jump m (q + b) s s
act (Jfs b) q m s = on_one s s.stack (false_row m (q + b) q s)
act (Cas n t) q m s = on_one s s.stack (case_row m n t q s)
act (Fri o f t) q m s = on_three s s.stack (loop_row m (s.frame + o) f t q s)
act (Frn o t) q m s = again_row m (s.frame + o) t q s
act (Trp k) q m s = trap_row s (called_trap k)
act Alc q m s = on_two s s.stack (take_row q s)
act (Svc r) q m s = request_row q s (request_with r)
-- those of coroutines, NPR and TRF, aren't built yet
act _ q m s = bad s

abbrev pub performed : State → Module → Option (Instr × ℕ) → Event × State
performed s m None = bad s
performed s m (Some d) = act d.0 d.1 m s

abbrev pub fetched : State → Option Module → Event × State
fetched s None = bad s
fetched s (Some m) = performed s m (decoded m.code s.place)

-- One step: the row of the instruction at the place. Where the first body's mark didn't fit, the step is that limit.
abbrev pub mstep : State → Event × State
mstep s = if s.marked then fetched s (module_at s.modules s.running) else (Limit limit.Stack, s)
