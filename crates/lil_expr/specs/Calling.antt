-- What the code means that the generator of calls adds.
use Rattle.std.specs.Prelude.{◌≡◌, ℕ, ◌+◌, ◌≤◌, min, Bool, true, Option}
use Rattle.lil_resolved.specs.{Kinds.{words, MayCall, result_of, parameters_of, procedure_by, Kind}, Resolved.{Designator, Expression, Argument, OfAll, Arguments, kind_of}, Sizes.argument_words, Sound.{IsSoundExpression, IsSoundArgument, AreSoundArguments, IsSoundCallee, parameter_of, parameters_given}}
use Rattle.lil_asm.specs.declared.instr.Instr.TheVariants.{Sav, Rst}
use Rattle.lil_table.specs.Rows.{IsAt, ArgumentAt, PushedAt, ZerosAt, ExpressionAt, GivenAt, given_words, CallRow, ValueCallRow, ValuedRow}
use Rattle.lil_labels.specs.Drafts.{Final, Meaning}
use Rattle.lil_expr.specs.Generating.{Value}

-- a sound argument of a call or a request has its code, where with its own words and those of others below it there are up to 4
abbrev pub Argued : (calls : Bool) → Argument → Meaning
Argued calls a x p q = (n : ℕ) → IsSoundArgument x.layout.scope a → n + argument_words a ≤ 4 → ArgumentAt x.layout x.code calls n a p q

-- one of those of a call, which takes so many words in the frame
pub record PushedOne (w : ℕ) (a : Argument) (x : Final) (p q : ℕ) : Type 0 where
  pub row : PushedAt x.layout x.code a (ArgumentAt x.layout x.code true 0 a) p q
  pub words : w ≡ words (parameter_of x.layout.scope a)

abbrev pub Pushed : ℕ → Argument → Meaning
Pushed w a x p q = IsSoundArgument x.layout.scope a → PushedOne w a x p q

-- all that lies at a place
abbrev pub Blocked : ℕ → Designator → Meaning
Blocked w d x p q = Pushed w (OfAll d) x p q

-- so many zeros
abbrev pub Zeroed : ℕ → Meaning
Zeroed n x p q = ZerosAt x.layout x.code n p q

-- all of those of a call, and the words that they take there, up to 65,535
pub record GivenAll (w : ℕ) (given : Arguments) (x : Final) (p q : ℕ) : Type 0 where
  pub row : GivenAt x.layout x.code given p q
  pub words : w ≡ min 65535 (given_words x.layout.scope given)

abbrev pub Given : ℕ → Arguments → Meaning
Given w given x p q = AreSoundArguments x.layout.scope given → GivenAll w given x p q

-- a sound call of what returns nothing, or a value of a kind
abbrev pub Called : (p n : ℕ) → Arguments → Meaning
Called p n given x start end =
    (result : Option Kind) → MayCall x.layout.scope p n → result_of (procedure_by x.layout.scope.procedures p) ≡ result → parameters_of (procedure_by x.layout.scope.procedures p) ≡ parameters_given x.layout.scope given
    → AreSoundArguments x.layout.scope given → CallRow x.layout x.code p n result given (GivenAt x.layout x.code given) start end

-- a sound call of the procedure that is a value, behind the value, and with it
abbrev pub ValueCalled : Arguments → Meaning
ValueCalled given x start end =
    (e : Expression) (result : Option Kind) → IsSoundCallee x.layout.scope e (parameters_given x.layout.scope given) result
    → AreSoundArguments x.layout.scope given → ValueCallRow x.layout x.code (kind_of e) result given (GivenAt x.layout x.code given) start end

abbrev pub Valued : Expression → Arguments → Meaning
Valued e given x start end =
    (result : Option Kind) → IsSoundCallee x.layout.scope e (parameters_given x.layout.scope given) result → IsSoundExpression x.layout.scope e
    → AreSoundArguments x.layout.scope given → ValuedRow x.layout x.code e result given (ExpressionAt x.layout x.code e) (GivenAt x.layout x.code given) start end

-- a call of a function, which has its code where SAV stands before it and RST behind it
abbrev pub Saved : Expression → Meaning
Saved e x start end = (before behind : ℕ) → IsAt x.code before Sav start → IsAt x.code end (Rst 1) behind → Value e x before behind
