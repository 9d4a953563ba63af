-- The code of values with their tests, of requests and of calls.
use Rattle.std.proofs.Common.{◌≡◌, ℕ, ◌+◌, ◌≤◌, Bool, ◌||◌, List, [], ◌∷◌, ◌++◌, length, Option, None, refl, ap, ◌∙◌, subst, arith, append-nil}
use Rattle.std.specs.List.{flat_map}
use Rattle.lil_resolved.specs.{declared.resolved.{RArgument.RArgument}, Kinds.{Kind, same_pointer, same_procedures, all_words, Scope}, Resolved.{Expression, ByValue, OfPlace, OfAll, OfArray, OfText, OfOpened, Spelled, Arguments, NoMore, Also, Request, Answer, Call, CallValue, kind_of}, Views.{argument_of, arguments_of}, Sound.{IsSoundWhole, IsSoundValue, IsSoundStored, AreSoundArguments, AreServed, parameters_given, request_parameters}, Sizes.{argument_words, arguments_strings}}
use Rattle.lil_base.specs.Requests.{request_number}
use Rattle.lil_base.specs.declared.request.Request as request
use Rattle.lil_asm.specs.{declared.instr.Instr.TheVariants.{Svc, Rtn}, Requests.request_words}
use Rattle.lil_table.specs.Rows.{WholeRow, ArgumentsAt, arguments_words}
use Rattle.lil_labels.specs.{Drafts.{Draft, Final, Adds, Emits, Doing, Each}, Emitting.{emits_then, emits_as, adds_as}}
use Rattle.lil_expr.specs.{Strings.emits_end, Generating.{Value, Stored, argument_part}, Calling.{Called, ValueCalled}, Callees.valued_emitted}
use Rattle.lil_stmt.specs.Generating.{Stated, ArgumentPart}
use Rattle.lil_stmt.proofs.Strings.{arguments_parts}

-- a value that stands alone
pub whole : (x : Final) (n : ℕ) (e : Expression) (k : Kind) (p q : ℕ) → n ≤ 3 → IsSoundWhole x.layout.scope e k → Value e x p q → WholeRow x.layout x.code n e k p q
whole x n e k p q low sound t = record { typed = sound.kind; shallow = omega (arith, sound.shallow, low); value = t sound.sound }

-- a value of a kind may be stored at a place of it
pub stored : (ts : Scope) (e : Expression) (k : Kind) → IsSoundValue ts e k → IsSoundStored ts e k
stored ts e k sound =
    record { stores = ap (λ (b : Bool). b || (same_pointer k (kind_of e) || same_procedures k (kind_of e))) sound.takes; whole = sound.whole }

pub answer_emitted : {us : List ℕ} (k : Kind) (e : Expression) (n : ℕ) (exit : Option ℕ) (a b c : Draft) → Adds us a b (Stored e k) → Emits b c (Doing (λ w. Rtn)) → Adds us a c (Stated n exit (Answer k e))
answer_emitted k e n exit a b c value leave =
    emits_as a c _ (Stated n exit (Answer k e))
    (λ x t many taken sound room. record { middle = length b.bytes; result = sound.0; value = t.0 0 sound.1 (omega arith); leave = t.1 })
    (emits_end a b c _ _ value leave)

-- ---- requests
arguments_at : (n : ℕ) (given : List RArgument) (x : Final) (p q : ℕ) → Each ArgumentPart given x p q → AreSoundArguments x.layout.scope (arguments_of given) → n + arguments_words (arguments_of given) ≤ 4 → ArgumentsAt x.layout x.code n (arguments_of given) p q
arguments_at n [] x p q h sound low = h
arguments_at n (g ∷ given) x p q h sound low =
    record { middle = h.0; here = h.1 n sound.0 (omega (arith, low)); then = arguments_at (argument_words (argument_of g) + n) given x h.0 q h.2 sound.1 (omega (arith, low)) }

-- parameters of requests hold as many words as their arguments are
parameters_long : (ts : Scope) (given : Arguments) → AreServed given → all_words (parameters_given ts given) ≡ arguments_words given
parameters_long ts NoMore h = refl
parameters_long ts (Also (ByValue k e) given) h = omega (arith, parameters_long ts given h.1)
parameters_long ts (Also (OfPlace d) given) h = absurd h.0
parameters_long ts (Also (OfAll d) given) h = absurd h.0
parameters_long ts (Also (OfArray copied d high) given) h = omega (arith, parameters_long ts given h.1)
parameters_long ts (Also (OfText cs) given) h = omega (arith, parameters_long ts given h.1)
parameters_long ts (Also (OfOpened copied n i) given) h = omega (arith, parameters_long ts given h.1)
parameters_long ts (Also (Spelled cs count) given) h = absurd h.0

-- a request takes as many words as its parameters are
request_long : (r : request.Request) → (request_words r ≡ all_words (request_parameters r)) × (request_words r ≤ 4)
request_long r = grind arith

request_known : (ts : Scope) (r : request.Request) (given : Arguments) → AreServed given → request_parameters r ≡ parameters_given ts given → (request_words r ≡ arguments_words given) × (arguments_words given ≤ 4)
request_known ts r given served known =
    let words = request_long r in
    let long : request_words r ≡ arguments_words given = words.0 ∙ ap all_words known ∙ parameters_long ts given served in
    (long, omega (arith, long, words.1))

pub request_emitted : (r : request.Request) (number : ℕ) (given : List RArgument) (n : ℕ) (exit : Option ℕ) (a b c : Draft) → number ≡ request_number r → Adds (flat_map argument_part given) a b (Each ArgumentPart given) → Emits b c (Doing (λ w. Svc number))
    → Adds (arguments_strings (arguments_of given)) a c (Stated n exit (Request r (arguments_of given)))
request_emitted r number given n exit a b c is arguments by =
    let called = subst (λ (number : ℕ). Emits b c (Doing (λ w. Svc number))) is by in
    adds_as a c _ (append-nil (flat_map argument_part given) ∙ arguments_parts given)
    (emits_as a c _ (Stated n exit (Request r (arguments_of given)))
    (λ x t many taken sound room.
    let known = request_known x.layout.scope r (arguments_of given) sound.1 sound.0.takes in
    record { middle = length b.bytes; takes = sound.0.takes; served = sound.1; words = known.0; arguments = arguments_at 0 given x _ _ t.0 sound.0.sound (omega (arith, known.1)); by = t.1 })
    (emits_then a b c _ _ arguments called))

-- ---- calls
pub call_stated : {us : List ℕ} (p levels n : ℕ) (given : Arguments) (exit : Option ℕ) (a b : Draft) → Adds us a b (Called p levels given) → Adds us a b (Stated n exit (Call p levels given))
call_stated p levels n given exit a b = emits_as a b _ (Stated n exit (Call p levels given)) (λ x t many taken sound room. t None sound.0 sound.1 sound.2.takes sound.2.sound)

pub call_value_emitted : {us vs : List ℕ} (e : Expression) (given : Arguments) (n : ℕ) (exit : Option ℕ) (a b c : Draft) → Adds us a b (Value e)
    → Adds vs b c (ValueCalled given) → Adds (us ++ vs) a c (Stated n exit (CallValue e given))
call_value_emitted e given n exit a b c value call =
    emits_as a c _ (Stated n exit (CallValue e given)) (λ x t many taken sound room. t None sound.0 sound.1 sound.2)
    (valued_emitted e given a b c value call)
