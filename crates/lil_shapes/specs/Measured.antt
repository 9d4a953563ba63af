-- What shapes and variables that are made say, and that their words are counted.
use Rattle.std.specs.Prelude.{◌≡◌, ℕ, ◌+◌, ◌≤◌, min, nat_le, List, [], map, Option, Some, None, if◌then◌else◌}
use Rattle.lil_declared.specs.declared.declared.RVar.{RVar}
use Rattle.lil_resolved.specs.{Kinds.{Shape, words, is_there, all_words, offsets_from}, Views.{shapes_of, shape_with, shape_declared, name_of, offset_of, IsMeasuredShape, AreMeasured}, declared.resolved.RPassing.{RPassing, TheVariants.{ByValue, ByPlace, Open}}}
use Rattle.lil_shapes.specs.{declared.{laying.Laid.Laid, shapes.{Made.Made, Shaped.Shaped}}, Shaping.{all_some, lying}}

-- how many words a shape takes, if it is there
abbrev pub size_of : Shape → Option ℕ
size_of s = if is_there s then Some (words s) else None

abbrev pub words_by : Option ℕ → ℕ
words_by None = 0
words_by (Some n) = n

-- where what comes behind so many words begins, if at most 32,000 are taken
abbrev pub behind : ℕ → ℕ → Option ℕ
behind n w = if nat_le (n + w) 32000 then Some (n + w) else None

-- ---- shapes
abbrev pub shapes_in : Shaped → List Shape
shapes_in s = shapes_of s.shapes

abbrev pub shape_made : Shaped → Made → Shape
shape_made s x = shape_with (shapes_in s) x.shape

pub record IsShaped (s : Shaped) : Type 0 where
  pub measured : AreMeasured [] s.shapes
  pub sizes : s.sizes ≡ map size_of (shapes_in s)

-- the next one
pub record IsMade (s : Shaped) (x : Made) : Type 0 where
  pub measured : IsMeasuredShape (shapes_in s) x.shape
  pub few : words (shape_made s x) ≤ 32000
  pub size : x.size ≡ size_of (shape_made s x)

-- ---- variables
-- how many words a variable takes, where so many lie in it or where it leads to
abbrev pub words_held : RPassing → ℕ → ℕ
words_held ByValue n = n
words_held ByPlace n = 1
words_held (Open o) n = 2

abbrev pub variable_name : RVar → List ℕ
variable_name v = v.name

abbrev pub shapes_laid : Shaped → Laid → List Shape
shapes_laid s l = map (shape_declared s.shapes) l.variables

-- variables lie one behind another from a word on, as far as words are counted: up to 65,535
pub record IsLaidFrom (first : ℕ) (s : Shaped) (vs : List RVar) (l : Laid) : Type 0 where
  pub shapes : all_some (map (lying (shapes_in s)) vs) ≡ Some (shapes_laid s l)
  pub names : map name_of l.variables ≡ map variable_name vs
  pub offsets : map offset_of l.variables ≡ map (min 65535) (offsets_from first (shapes_laid s l))
  pub words : l.words ≡ min 65535 (all_words (shapes_laid s l))

-- those of a module, all of whose words are counted
pub record IsLaid (s : Shaped) (vs : List RVar) (l : Laid) : Type 0 where
  pub shapes : all_some (map (lying (shapes_in s)) vs) ≡ Some (shapes_laid s l)
  pub names : map name_of l.variables ≡ map variable_name vs
  pub offsets : map offset_of l.variables ≡ offsets_from 0 (shapes_laid s l)
  pub words : l.words ≡ all_words (shapes_laid s l)
  pub few : l.words ≤ 32000
