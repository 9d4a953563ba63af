-- The code of calls, argument by argument.
use Rattle.std.proofs.Common.{◌≡◌, ℕ, ◌+◌, ◌-◌, ◌%◌, ◌<◌, min, Bool, true, List, [], ◌∷◌, ◌++◌, length, take, get_or, Some, ◌⊎◌, inl, inr, refl, sym, ap, ◌∙◌, subst, arith, append-nil, append_assoc}
use Rattle.lil_resolved.specs.declared.resolved.RArgument.TheVariants as r
use Rattle.lil_resolved.specs.{declared.resolved.{RArgument.RArgument, RExpr.RExpr, RKind.RKind, ROpening.ROpening, RPlace.RPlace}, Kinds.{Kind, Scope, words}, Resolved.{Expression, Invoke, InvokeValue, Argument, ByValue, OfPlace, OfAll, OfArray, OfText, OfOpened, Spelled, Arguments}, Views.{argument_of, arguments_of, expression_of, place_of, kind_view, is_copied, by_value_is, of_place_is, of_array_is, of_text_is, of_opened_is, spelled_is}, Sizes.{words_of, argument_words, argument_strings, arguments_strings}, Sound.{IsSoundArgument, AreSoundArguments}}
use Rattle.lil_asm.specs.declared.instr.Instr.TheVariants.{Lag, Liw, Mrk, Mrf, Psh, Cll, Clf, Sav, Rst}
use Rattle.lil_table.specs.Rows.{IsAt, InstrsAt, ArgumentAt, PushedAt, given_words, second_code, text_words}
use Rattle.lil_labels.specs.{Drafts.{Draft, Final, Adds, Emits, Saying, Doing, DoingAll}, Emitting.{emits_then, emits_as, adds_as, take_next}}
use Rattle.lil_expr.specs.{Strings.emits_end, Generating.{Value}, Calling.{Argued, PushedOne, Pushed, GivenAll, Given, Called, ValueCalled, Valued, Saved}}

-- ---- the words of an argument
pub text_argued : (calls : Bool) (cs : List ℕ) (offset high : ℕ) (a b c d : Draft) → high ≡ (length cs - 1) % 65536 → Adds (words_of cs) a b (Saying cs offset) → Emits b c (Doing (λ word. Lag offset)) → Emits c d (DoingAll (second_code calls (Liw high)))
    → Adds (words_of cs) a d (Argued calls (OfText cs))
text_argued calls cs offset high a b c d is text first second =
    emits_as a d _ (Argued calls (OfText cs))
    (λ x t n sound low.
    let lies = t.0.1 sound in
    let last_is : high ≡ text_words cs - 1 = omega (arith, is, lies.inside, x.room) in
    record {
      offset = offset;
      start = length c.bytes;
      room = omega (arith, low);
      text = lies;
      address = subst (λ (p : ℕ). IsAt x.code p (Lag offset) (length c.bytes)) (sym t.0.0) t.1.0;
      by = subst (λ (h : ℕ). InstrsAt x.code (second_code calls (Liw h)) (length c.bytes) (length d.bytes)) last_is t.1.1;
    })
    (emits_end a b d _ _ text (emits_then b c d _ _ first second))

-- ---- one argument that goes to a frame
-- one that goes there by its words
abbrev IsWords : Argument → Type 0
IsWords (ByValue k e) = Unit {0}
IsWords (OfPlace d) = Unit {0}
IsWords (OfAll d) = ⊥
IsWords (OfArray copied d high) = Unit {0}
IsWords (OfText cs) = Unit {0}
IsWords (OfOpened copied n i) = Unit {0}
IsWords (Spelled cs count) = ⊥

words_at : (a : Argument) (x : Final) (p m q : ℕ) → IsWords a → Argued true a x p m → IsAt x.code m Psh q → Pushed (argument_words a) a x p q
words_at (ByValue k e) x p m q words here push sound = record { row = record { middle = m; here = here 0 sound (omega arith); push = push }; words = refl }
words_at (OfPlace d) x p m q words here push sound = record { row = record { middle = m; here = here 0 sound (omega arith); push = push }; words = refl }
words_at (OfAll d) x p m q words here push sound = absurd words
words_at (OfArray copied d high) x p m q words here push sound = record { row = record { middle = m; here = here 0 sound (omega arith); push = push }; words = refl }
words_at (OfText cs) x p m q words here push sound = record { row = record { middle = m; here = here 0 sound (omega arith); push = push }; words = refl }
words_at (OfOpened copied n i) x p m q words here push sound = record { row = record { middle = m; here = here 0 sound (omega arith); push = push }; words = refl }
words_at (Spelled cs count) x p m q words here push sound = absurd words

words_pushed : {us : List ℕ} (g h : Argument) (a b c : Draft) → g ≡ h → IsWords h → Adds us a b (Argued true g) → Emits b c (Doing (λ w. Psh)) → Adds us a c (Pushed (argument_words h) g)
words_pushed {us = us} g h a b c is words argued by =
    subst (λ (g : Argument). Adds us a c (Pushed (argument_words h) g)) (sym is)
    (emits_as a c _ (Pushed (argument_words h) h) (λ x t. words_at h x (length a.bytes) (length b.bytes) (length c.bytes) words t.0 t.1) (emits_end a b c _ _ (subst (λ (g : Argument). Adds us a b (Argued true g)) is argued) by))

pub word_pushed : {us : List ℕ} (g : RArgument) (a b c : Draft) → ((k : RKind) × (e : RExpr) × g ≡ r.Value k e) ⊎ ((p : RPlace) × g ≡ r.Place p) → Adds us a b (Argued true (argument_of g)) → Emits b c (Doing (λ w. Psh)) → Adds us a c (Pushed 1 (argument_of g))
word_pushed g a b c (inl v) argued by = words_pushed (argument_of g) (ByValue (kind_view v.0) (expression_of v.1)) a b c (ap argument_of v.2 ∙ by_value_is v.0 v.1) tt argued by
word_pushed g a b c (inr v) argued by = words_pushed (argument_of g) (OfPlace (place_of v.0)) a b c (ap argument_of v.1 ∙ of_place_is v.0) tt argued by

pub pair_pushed : {us : List ℕ} (g : RArgument) (a b c : Draft) → ((o : ROpening) × (p : RPlace) × (high : ℕ) × g ≡ r.Array o p high) ⊎ (((cs : List ℕ) × g ≡ r.Text cs) ⊎ ((o : ROpening) × (n : ℕ) × (i : ℕ) × g ≡ r.Opened o n i))
    → Adds us a b (Argued true (argument_of g)) → Emits b c (Doing (λ w. Psh)) → Adds us a c (Pushed 2 (argument_of g))
pair_pushed g a b c (inl v) argued by = words_pushed (argument_of g) (OfArray (is_copied v.0) (place_of v.1) v.2) a b c (ap argument_of v.3 ∙ of_array_is v.0 v.1 v.2) tt argued by
pair_pushed g a b c (inr (inl v)) argued by = words_pushed (argument_of g) (OfText v.0) a b c (ap argument_of v.1 ∙ of_text_is v.0) tt argued by
pair_pushed g a b c (inr (inr v)) argued by = words_pushed (argument_of g) (OfOpened (is_copied v.0) v.1 v.2) a b c (ap argument_of v.3 ∙ of_opened_is v.0 v.1 v.2) tt argued by

-- a string for an array by value
pub spelled_pushed : {us : List ℕ} (g : RArgument) (cs : List ℕ) (count : ℕ) (a b : Draft) → g ≡ r.Spelled cs count
    → Adds us a b (Argued true (argument_of g)) → Adds us a b (Pushed count (argument_of g))
spelled_pushed {us = us} g cs count a b is argued =
    let same = ap argument_of is ∙ spelled_is cs count in
    let string = subst (λ (g : Argument). Adds us a b (Argued true g)) same argued in
    subst (λ (g : Argument). Adds us a b (Pushed count g)) (sym same)
    (emits_as a b _ (Pushed count (Spelled cs count)) (λ x t sound. record { row = t 0 sound (omega arith); words = omega arith }) string)

-- ---- all arguments
-- what stands before the next one
sound_parts : (ts : Scope) (xs : List RArgument) (y : RArgument) → AreSoundArguments ts (arguments_of (xs ++ y ∷ [])) → AreSoundArguments ts (arguments_of xs) × IsSoundArgument ts (argument_of y)
sound_parts ts [] y sound = (tt, sound.0)
sound_parts ts (g ∷ xs) y sound = let rest = sound_parts ts xs y sound.1 in ((sound.0, rest.0), rest.1)

given_more : (xs : List RArgument) (y : RArgument) (x : Final) (p m q v w : ℕ) → GivenAll v (arguments_of xs) x p m → PushedOne w (argument_of y) x m q → GivenAll (min (v + w) 65535) (arguments_of (xs ++ y ∷ [])) x p q
given_more [] y x p m q v w h t = record {
  row = record { middle = q; here = subst (λ (p : ℕ). PushedAt x.layout x.code (argument_of y) (ArgumentAt x.layout x.code true 0 (argument_of y)) p q) (sym h.row) t.row; then = refl };
  words = omega (arith, h.words, t.words);
}
given_more (g ∷ xs) y x p m q v w h t =
    let long = given_words x.layout.scope (arguments_of xs) in
    let rest = given_more xs y x h.row.middle m q (min 65535 long) w (record { row = h.row.then; words = refl }) t in
    record {
      row = record { middle = h.row.middle; here = h.row.here; then = rest.row };
      words = omega (arith, h.words, t.words, rest.words);
    }

strings_more : (xs : List RArgument) (y : RArgument) → arguments_strings (arguments_of xs) ++ argument_strings (argument_of y) ≡ arguments_strings (arguments_of (xs ++ y ∷ []))
strings_more [] y = sym (append-nil (argument_strings (argument_of y)))
strings_more (g ∷ xs) y =
    let first = argument_strings (argument_of g) in
    append_assoc first (arguments_strings (arguments_of xs)) (argument_strings (argument_of y)) ∙ ap (λ (ws : List ℕ). first ++ ws) (strings_more xs y)

pub given_next : (given : List RArgument) (i : ℕ) (y : RArgument) (v w u : ℕ) (a b c : Draft) → i < length given → y ≡ get_or given i y → u ≡ min (v + w) 65535
    → Adds (arguments_strings (arguments_of (take i given))) a b (Given v (arguments_of (take i given))) → Adds (argument_strings (argument_of y)) b c (Pushed w (argument_of y))
    → Adds (arguments_strings (arguments_of (take (i + 1) given))) a c (Given u (arguments_of (take (i + 1) given)))
given_next given i y v w u a b c inside is sum so_far next =
    subst (λ (gs : List RArgument). Adds (arguments_strings (arguments_of gs)) a c (Given u (arguments_of gs))) (sym (take_next given i y inside is))
    (adds_as a c _ (strings_more (take i given) y)
    (emits_as a c _ (Given u (arguments_of (take i given ++ y ∷ [])))
    (λ x t sound.
    let both = sound_parts x.layout.scope (take i given) y sound in
    subst (λ (n : ℕ). GivenAll n (arguments_of (take i given ++ y ∷ [])) x (length a.bytes) (length c.bytes)) (sym sum)
    (given_more (take i given) y x (length a.bytes) (length b.bytes) (length c.bytes) v w (t.0 both.0) (t.1 both.1)))
    (emits_then a b c _ _ so_far next)))

-- ---- a call
pub call_emitted : {us : List ℕ} (p levels words : ℕ) (given : Arguments) (a b c d : Draft) → Emits a b (Doing (λ w. Mrk levels)) → Adds us b c (Given words given) → Emits c d (Doing (λ w. Cll p words)) → Adds us a d (Called p levels given)
call_emitted p levels words given a b c d mark arguments call =
    emits_as a d _ (Called p levels given)
    (λ x t result may returns takes sound.
    let all = t.1.0 sound in
    record {
      may = may;
      returns = returns;
      takes = takes;
      start = length b.bytes;
      middle = length c.bytes;
      mark = t.0;
      arguments = all.row;
      call = subst (λ (w : ℕ). IsAt x.code (length c.bytes) (Cll p w) (length d.bytes)) all.words t.1.1;
    })
    (emits_then a b d _ _ mark (emits_end b c d _ _ arguments call))

pub value_call_emitted : {us : List ℕ} (words : ℕ) (given : Arguments) (a b c d : Draft) → Emits a b (Doing (λ w. Mrf))
    → Adds us b c (Given words given) → Emits c d (Doing (λ w. Clf words)) → Adds us a d (ValueCalled given)
value_call_emitted words given a b c d mark arguments call =
    emits_as a d _ (ValueCalled given)
    (λ x t e result callee sound.
    let all = t.1.0 sound in
    record {
      number = callee.number;
      kind = callee.kind;
      known = callee.known;
      start = length b.bytes;
      middle = length c.bytes;
      mark = t.0;
      arguments = all.row;
      call = subst (λ (w : ℕ). IsAt x.code (length c.bytes) (Clf w) (length d.bytes)) all.words t.1.1;
    })
    (emits_then a b d _ _ mark (emits_end b c d _ _ arguments call))

-- ---- a call of a function
pub invoke_saved : {us : List ℕ} (p levels : ℕ) (k : Kind) (given : Arguments) (a b : Draft) → Adds us a b (Called p levels given)
    → Adds us a b (Saved (Invoke p levels k given))
invoke_saved p levels k given a b =
    emits_as a b _ (Saved (Invoke p levels k given))
    (λ x t before behind save restore sound. record {
      saved = length a.bytes;
      end = length b.bytes;
      save = save;
      its = t (Some k) sound.0 sound.1 sound.2 sound.3;
      restore = restore;
    })

pub invoke_value_saved : {us : List ℕ} (e : Expression) (k : Kind) (given : Arguments) (a b : Draft) → Adds us a b (Valued e given)
    → Adds us a b (Saved (InvokeValue e k given))
invoke_value_saved e k given a b =
    emits_as a b _ (Saved (InvokeValue e k given))
    (λ x t before behind save restore sound. record {
      saved = length a.bytes;
      end = length b.bytes;
      save = save;
      its = t (Some k) sound.0 sound.1 sound.2;
      restore = restore;
    })

pub saved_emitted : {us : List ℕ} (e : Expression) (a b c d : Draft) → Emits a b (Doing (λ w. Sav)) → Adds us b c (Saved e)
    → Emits c d (Doing (λ w. Rst 1)) → Adds us a d (Value e)
saved_emitted e a b c d save call restore =
    emits_as a d _ (Value e) (λ x t. t.1.0 (length a.bytes) (length d.bytes) t.0 t.1.1)
    (emits_then a b d _ _ save (emits_end b c d _ _ call restore))
