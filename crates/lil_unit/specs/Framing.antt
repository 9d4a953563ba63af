-- What the code means that the generator of modules adds.
use Rattle.std.specs.Prelude.{◌≡◌, ℕ, suc, ◌%◌, List, [], ◌∷◌, ◌++◌, take, Option, Some, None}
use Rattle.lil_resolved.specs.{declared.{resolved.{RDeclared.RDeclared, RPassing.{RPassing, TheVariants.{ByValue, ByPlace, Open}}, ROpening.TheVariants.{Copied, Lent}}, shapes.RShape.RShape}, Kinds.{Kind, Shape, words, all_words, shape_at}, Views.shapes_of, Resolved.{Statements, Procedure, Resolved}, Sizes.frame_words}
use Rattle.lil_asm.specs.declared.instr.Instr.{Instr, TheVariants.{Ent, Cpy}}
use Rattle.lil_asm.specs.Stretches.{stretch}
use Rattle.lil_table.specs.Rows.{framed, leave_code, copies_code, IsAt, InstrsAt}
use Rattle.lil_labels.specs.{Tables.Tables, Drafts.{Final, Meaning}}
use Rattle.lil_stmt.specs.Generating.{Body}

-- the instruction that copies a variable of a procedure, where it is an open array by value
abbrev pub copy_passed : RPassing → (offset size : ℕ) → List Instr
copy_passed ByValue offset size = []
copy_passed ByPlace offset size = []
copy_passed (Open Lent) offset size = []
copy_passed (Open Copied) offset size = Cpy offset size ∷ []

abbrev pub copy_declared : List RShape → RDeclared → List Instr
copy_declared ts v = copy_passed v.passing v.offset (words (shape_at (shapes_of ts) v.shape))

abbrev pub copies_declared : List RShape → List RDeclared → List Instr
copies_declared ts [] = []
copies_declared ts (v ∷ vs) = copy_declared ts v ++ copies_declared ts vs

-- what copies those of these variables
abbrev pub Copying : List RDeclared → Meaning
Copying vs x p q = InstrsAt x.code (copies_declared x.tables.shapes vs) p q

-- the words of variables up to 65,535, and the copies of the first of them, which are parameters
pub record AreFramed (ts : List RShape) (size : ℕ) (vs : List RDeclared) (n : ℕ) (locals parameters : List Shape) : Type 0 where
  pub words : size ≡ framed (all_words locals)
  pub copies : copies_declared ts (take n vs) ≡ copies_code 4 parameters

-- Statements with such variables, of which the first are parameters, and the instructions that enter and leave what returns nothing, or a value
-- of a kind: ENT has the words of their frame, and the parameters that are open arrays by value are copied.
pub record FramedAt (result : Option Kind) (locals parameters : List Shape) (ss : Statements) (x : Final) (p q : ℕ) : Type 0 where
  pub begun : ℕ
  pub start : ℕ
  pub end : ℕ
  pub enter : IsAt x.code p (Ent (framed (frame_words locals ss))) begun
  pub copies : InstrsAt x.code (copies_code 4 parameters) begun start
  pub body : Body (framed (all_words locals)) None ss x start end
  pub leave : IsAt x.code end (leave_code result) q

abbrev pub Framed : Option Kind → (locals parameters : List Shape) → Statements → Meaning
Framed result locals parameters ss x p q = FramedAt result locals parameters ss x p q

-- the tables in a procedure, by its number from 0 on, or in the body
abbrev pub tables_in : Option ℕ → Tables → Tables
tables_in own ts = record ts { own = own }

-- a stretch of a final code by itself, in a procedure or in the body, whatever names reach there, and however many words its frame has
pub record IsStretch (own : Option ℕ) (x : Final) (p q : ℕ) (y : Final) : Type 0 where
  pub tables : y.tables ≡ tables_in own x.tables
  pub strings : y.layout.strings ≡ x.layout.strings
  pub target : y.layout.target ≡ x.layout.target
  pub numbers : y.layout.numbers ≡ x.layout.numbers
  pub word : y.word ≡ x.word
  pub from : y.from ≡ p
  pub code : y.code ≡ stretch p q x.code

-- a body or a procedure stands by itself
abbrev pub Apart : Option ℕ → Meaning → Meaning
Apart own T x p q = (y : Final) → IsStretch own x p q y → T y p q

-- procedures from this number on, one behind another, and where each begins, cut to 16 bits
abbrev pub EachFramed : ℕ → List Procedure → List ℕ → Meaning
EachFramed i [] [] x p q = p ≡ q
EachFramed i (its ∷ ps) (e ∷ es) x p q = (m : ℕ) × (e ≡ p % 65536) × Apart (Some i) (Framed its.result its.locals (take its.parameters its.locals) its.body) x p m × EachFramed (suc i) ps es x m q
EachFramed i _ _ x p q = ⊥

-- the body of a module, and its procedures behind it
abbrev pub AllFramed : Resolved → List ℕ → Meaning
AllFramed m entries x p q = (r : ℕ) × Apart None (Framed None [] [] m.body) x p r × EachFramed 0 m.procedures entries x r q
