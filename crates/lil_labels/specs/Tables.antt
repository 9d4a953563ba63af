-- The tables of a module: where its variables lie, what its shapes have, and to what its pointers point; and the records of the WITHs around.
use Rattle.std.specs.{Option.option_map, Prelude.{◌≡◌, ℕ, suc, ◌+◌, ◌-◌, ◌*◌, ◌≤◌, min, List, [], ◌∷◌, length, Option, Some, None, option_and_then, map, slice_get, nat_lt, if◌then◌else◌}, List.All}
use Rattle.lil_resolved.specs.{declared.{resolved.{RDeclared.RDeclared, RHeading.RHeading}, shapes.{RField.RField, RElements.RElements, RShape.RShape}}, Kinds.{Outline, Shape, words, shape_at, procedure_by}, Resolved.{Named, OfModule, OfLevel}, Views.{kind_view, AreMeasured, IsMeasuredHeading, offset_of, shape_declared, locals_of, shapes_of}}
use Rattle.lil_resolved.specs.declared.shapes.RShape.TheVariants as r
use Rattle.lil_table.specs.Rows.{Layout}
use Rattle.lil_labels.specs.declared.buffer.HeldRecord.{HeldRecord}

-- the shapes, the numbers of those to which pointer types point, the variables and how many words they take, the procedures, the number of the
-- one at hand from 0 on, and the records of the WITHs around, the innermost first
pub record Tables : Type 0 where
  pub shapes : List RShape
  pub targets : List ℕ
  pub variables : List RDeclared
  pub words : ℕ
  pub procedures : List RHeading
  pub own : Option ℕ
  pub held : List HeldRecord

-- the procedure at hand and those around it by their numbers, the innermost first
abbrev pub chain_from : ℕ → Option RHeading → List ℕ
chain_from i None = []
chain_from i (Some p) = suc i ∷ p.around

abbrev pub chain_of : List RHeading → Option ℕ → List ℕ
chain_of ps None = []
chain_of ps (Some i) = chain_from i (slice_get ps i)

-- the heading of the procedure so many levels out of the one at hand
abbrev pub heading_out : List RHeading → Option ℕ → ℕ → Option RHeading
heading_out ps own n = option_and_then (procedure_by ps) (slice_get (chain_of ps own) n)

abbrev pub locals_in : Option RHeading → List RDeclared
locals_in None = []
locals_in (Some p) = p.locals

-- a variable, if there is one
abbrev pub declared_at : Tables → Named → Option RDeclared
declared_at t (OfModule x) = slice_get t.variables x
declared_at t (OfLevel n x) = slice_get (locals_in (heading_out t.procedures t.own n)) x

-- what names elsewhere need of a procedure
abbrev pub outline_with : List RShape → RHeading → Outline
outline_with ts h = record { around = h.around; locals = locals_of ts h; parameters = h.parameters; result = option_map kind_view h.result }

-- where a variable lies, and the number of its shape; zeros where there is none
abbrev pub variable_by : Option RDeclared → RField
variable_by None = record { offset = 0; shape = 0 }
variable_by (Some v) = record { offset = v.offset; shape = v.shape }

-- the same of a field
abbrev pub field_by : Option RField → RField
field_by None = record { offset = 0; shape = 0 }
field_by (Some f) = f

-- the same of a part of a shape by its number: a field, or an element
abbrev pub part_in : RShape → ℕ → RField
part_in r.Absent i = record { offset = 0; shape = 0 }
part_in (r.Word k) i = record { offset = 0; shape = 0 }
part_in (r.Fields fs) i = field_by (slice_get fs i)
part_in (r.Elements e) i = record { offset = min (i * e.words) 65535; shape = e.shape }

abbrev pub part_by : Option RShape → ℕ → RField
part_by None i = record { offset = 0; shape = 0 }
part_by (Some t) i = part_in t i

-- what the elements of a shape are; zeros where it has none
abbrev pub elements_in : RShape → RElements
elements_in r.Absent = record { count = 0; words = 0; shape = 0 }
elements_in (r.Word k) = record { count = 0; words = 0; shape = 0 }
elements_in (r.Fields fs) = record { count = 0; words = 0; shape = 0 }
elements_in (r.Elements e) = e

abbrev pub elements_by : Option RShape → RElements
elements_by None = record { count = 0; words = 0; shape = 0 }
elements_by (Some t) = elements_in t

-- the last field of a shape
abbrev pub last_in : RShape → Option RField
last_in r.Absent = None
last_in (r.Word k) = None
last_in (r.Fields fs) = slice_get fs (length fs - 1)
last_in (r.Elements e) = None

abbrev pub last_by : Option RShape → Option RField
last_by None = None
last_by (Some t) = last_in t

-- a field whose shape has a number below another
abbrev pub below : ℕ → Option RField → Option RField
below n None = None
below n (Some f) = if nat_lt f.shape n then Some f else None

-- the words of a shape without fields, up to 65535
abbrev pub plain_words : RShape → ℕ
plain_words r.Absent = 0
plain_words (r.Word k) = 1
plain_words (r.Fields fs) = 0
plain_words (r.Elements e) = min (e.count * e.words) 65535

abbrev pub plain_words_by : Option RShape → ℕ
plain_words_by None = 0
plain_words_by (Some t) = plain_words t

-- the number of the shape to which a pointer type points; 0 where there is none
abbrev pub target_by : Option ℕ → ℕ
target_by None = 0
target_by (Some n) = n

-- the word of the frame that has a record's address, and the number of its shape; zeros where there is none
abbrev pub held_by : Option HeldRecord → HeldRecord
held_by None = record { word = 0; shape = 0 }
held_by (Some h) = h

abbrev pub word_held : HeldRecord → ℕ
word_held h = h.word

abbrev pub shape_held : List RShape → HeldRecord → Shape
shape_held ts h = shape_at (shapes_of ts) h.shape

-- The shapes are measured, what pointers point to, the variables, the procedures and the records of the WITHs around are those of a layout, and
-- each variable lies in 32,000 words.
pub record Describe (t : Tables) (l : Layout) : Type 0 where
  pub measured : AreMeasured [] t.shapes
  pub targets : l.scope.targets ≡ map (shape_at (shapes_of t.shapes)) t.targets
  pub shapes : l.scope.variables ≡ map (shape_declared t.shapes) t.variables
  pub offsets : l.offsets ≡ map offset_of t.variables
  pub within : (x : ℕ) (v : RDeclared) → slice_get t.variables x ≡ Some v → v.offset + words (shape_declared t.shapes v) ≤ 32000
  pub words : l.words ≡ t.words
  pub procedures : l.scope.procedures ≡ map (outline_with t.shapes) t.procedures
  pub chain : l.scope.chain ≡ chain_of t.procedures t.own
  pub each : All (IsMeasuredHeading t.shapes) t.procedures
  pub held : l.held ≡ map word_held t.held
  pub held_shapes : l.scope.held ≡ map (shape_held t.shapes) t.held
