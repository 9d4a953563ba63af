-- What the code means that the generator of statements adds.
use Rattle.std.specs.Prelude.{◌≡◌, ℕ, ◌+◌, ◌%◌, ◌≤◌, min, pos, negsuc, ◌≤ℤ◌, Bool, false, List, [], ◌∷◌, ◌++◌, length, Option, Some, None}
use Rattle.std.specs.Option.{is_some, option_map}
use Rattle.lil_base.specs.Words.{word_of}
use Rattle.lil_resolved.specs.{declared.resolved.{RArgument.RArgument, RStmt.RStmt, RGuard.RGuard, RArm.RArm, RLabel.RLabel}, Kinds.{Kind}, Resolved.{Designator, Label, Statement, Statements}, Views.{argument_of, expression_of, statement_of, guard_of, statements_of, label_of}, Sizes.{expression_strings, statement_strings, body_strings, statement_words, body_words}}
use Rattle.lil_resolved.specs.Sound.{IsSoundTarget, IsSoundStatement, IsSoundBody}
use Rattle.lil_asm.specs.declared.instr.Instr.TheVariants.{Jmp, Trp}
use Rattle.lil_table.specs.Rows.{IsAt, InstrsAt, Access, access_of, ready_code, readied, TargetRow, LeaveRow, AlignAt, StatementAt, BodyAt, loop_place}
use Rattle.lil_expr.specs.Calling.{Argued}
use Rattle.lil_labels.specs.Drafts.{Draft, Final, Meaning, Adds, Each, EntryAt, ChoiceAt}

-- one of the arguments of a request
abbrev pub ArgumentPart : RArgument → Meaning
ArgumentPart g x p q = Argued false (argument_of g) x p q

-- what makes a place ready for a store, and how code then has it
abbrev pub Readied : Access → Access → Meaning
Readied a b x p q = InstrsAt x.code (ready_code a) p q × (b ≡ readied a)

pub record TargetAt (d : Designator) (a : Access) (k : Kind) (x : Final) (p q : ℕ) : Type 0 where
  pub row : TargetRow x.layout x.code d k p q
  pub access : a ≡ readied (access_of x.layout d)

-- a sound place that is stored to has its code, and is then ready
abbrev pub Targeted : Designator → Access → Meaning
Targeted d a x p q = (k : Kind) → IsSoundTarget x.layout.scope d k → TargetAt d a k x p q

-- Where the variables, and the FORs and WITHs around it take n words of the frame, which are these up to 65,535, a sound statement has its
-- code where the frame has room for its own. An EXIT leads to a label.
abbrev pub Stated : ℕ → Option ℕ → Statement → Meaning
Stated cut exit s x p q =
    (n : ℕ) → min 65535 n ≡ cut → IsSoundStatement x.layout.scope (is_some exit) s → loop_place n + statement_words s ≤ x.layout.frame → StatementAt x.layout x.code n (option_map x.word exit) s p q

-- the code of a statement, and the words of its strings
abbrev pub Says : Draft → Draft → ℕ → Option ℕ → Statement → Type 0
Says a b n exit s = Adds (statement_strings s) a b (Stated n exit s)

-- as Stated, of statements
abbrev pub Body : ℕ → Option ℕ → Statements → Meaning
Body cut exit ss x p q = (n : ℕ) → min 65535 n ≡ cut → IsSoundBody x.layout.scope (is_some exit) ss → loop_place n + body_words ss ≤ x.layout.frame → BodyAt x.layout x.code n (option_map x.word exit) ss p q

-- a statement of a body, and the words of its strings
abbrev pub StatementPart : ℕ → Option ℕ → RStmt → Meaning
StatementPart n exit s x p q = Body n exit (statement_of s) x p q

abbrev pub statement_part : RStmt → List ℕ
statement_part s = body_strings (statement_of s)

-- a guard before whatever statements end at a label, and the words of its strings
abbrev pub GuardPart : ℕ → Option ℕ → ℕ → RGuard → Meaning
GuardPart n exit end g x p q = (rest : Statements) (r : ℕ) → x.word end ≡ x.layout.target r → Body n exit rest x q r → Body n exit (guard_of g rest) x p r

abbrev pub guard_part : RGuard → List ℕ
guard_part g = expression_strings (expression_of g.condition) ++ body_strings (statements_of g.body)

-- in a FOR that ends at a label, what leaves it where its start isn't a number of both types of whole numbers
abbrev pub Leaving : ℕ → Meaning
Leaving end x p q = (r : ℕ) → x.word end ≡ x.layout.target r → LeaveRow x.layout x.code p q r

-- what brings a start to its limit's type, by whether that is its own and whether another start has turns
abbrev pub Aligning : (same turns : Bool) → ℕ → Meaning
Aligning same turns end x p q = (r : ℕ) → x.word end ≡ x.layout.target r → AlignAt x.layout x.code same turns p q r

abbrev pub paired : List RArm → List ℕ → List (RArm × ℕ)
paired [] ls = []
paired (a ∷ arms) [] = []
paired (a ∷ arms) (l ∷ ls) = (a, l) ∷ paired arms ls

-- the statements of an arm, with a label for their place, and a jump to another label
pub record ArmAt (n : ℕ) (exit : Option ℕ) (leave label : ℕ) (ss : Statements) (x : Final) (p q : ℕ) : Type 0 where
  pub end : ℕ
  pub named : x.word label ≡ x.layout.target p
  pub here : Body n exit ss x p end
  pub jump : IsAt x.code end (Jmp (x.word leave)) q

abbrev pub ArmPart : ℕ → Option ℕ → ℕ → ℕ → Statements → Meaning
ArmPart n exit leave label ss x p q = ArmAt n exit leave label ss x p q

abbrev pub ArmBody : ℕ → Option ℕ → ℕ → RArm × ℕ → Meaning
ArmBody n exit leave a x p q = ArmAt n exit leave a.1 (statements_of a.0.body) x p q

abbrev pub arm_part : RArm → List ℕ
arm_part a = body_strings (statements_of a.body)

-- the trap for values with no arm, with a label for its place
abbrev pub Trapping : ℕ → Meaning
Trapping label x p q = (x.word label ≡ x.layout.target p) × IsAt x.code p (Trp 7) q

-- what stands behind ELSE, or that trap, with a label for its place
abbrev pub ElsePart : ℕ → Option ℕ → ℕ → ℕ → Option (List RStmt) → Meaning
ElsePart n exit leave label None x p q = Trapping label x p q
ElsePart n exit leave label (Some ss) x p q = ArmAt n exit leave label (statements_of ss) x p q

-- both ends of a label have words
pub record HasWords (label : Label) : Type 0 where
  pub low : (negsuc 32767 ≤ℤ label.low) × (label.low ≤ℤ pos 65535)
  pub high : (negsuc 32767 ≤ℤ label.high) × (label.high ≤ℤ pos 65535)

-- the entry of a label whose ends have words, with the place of its arm
abbrev pub LabelEntry : ℕ → RLabel → Meaning
LabelEntry arm r x p q = HasWords (label_of r) → EntryAt x.code (word_of r.low) (word_of r.high) (x.word arm) p q

abbrev pub ArmLabels : RArm × ℕ → Meaning
ArmLabels a x p q = Each (LabelEntry a.1) a.0.labels x p q

abbrev pub entries : List RArm → ℕ
entries [] = 0
entries (a ∷ arms) = length a.labels + entries arms

-- the instruction that chooses an arm, with the number of entries cut to 16 bits, and its table
pub record TableAt (arms : List RArm) (labels : List ℕ) (other : ℕ) (x : Final) (p q : ℕ) : Type 0 where
  pub start : ℕ
  pub choice : ChoiceAt x.code (entries arms % 65536) (x.word other) p start
  pub table : Each ArmLabels (paired arms labels) x start q

abbrev pub ChoiceOf : List RArm → List ℕ → ℕ → Meaning
ChoiceOf arms labels other x p q = TableAt arms labels other x p q
