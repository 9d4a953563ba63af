-- What is declared before a unit's imports: the standard names, in a block around the unit's own.
use Rattle.std.specs.Prelude.{ℕ, List, [], ◌∷◌, ◌++◌, map, None, codes}
use Rattle.lil_base.specs.declared.fault.Place.{Place}
use Rattle.lil_types.specs.Types.{boolean}
use Rattle.lil_declared.specs.declared.standard.Standard.TheVariants as s
use Rattle.lil_scope.specs.declared.thing.Kind.TheVariants as k
use Rattle.lil_scope.specs.{declared.{thing.{Entry.Entry, Thing.Thing}, env.Env.Env}, Names.{entry, bound_at}}
use Rattle.lil_scope.specs.declared.thing.Thing.TheVariants as t

abbrev pub Block : Type 0
Block = List (List ℕ × Entry)

-- names that stand in no text have a place all the same
abbrev pub text_start : Place
text_start = record { line = 1; column = 1; offset = 0 }

abbrev pub known : Thing → Entry
known t = entry t text_start

abbrev pub Things : Type 0
Things = List (List ℕ × Thing)

abbrev pub standard_types : Things
standard_types =
    (codes "INTEGER", t.Type 0)
    ∷ (codes "CARDINAL", t.Type 1)
    ∷ (codes "BOOLEAN", t.Type 2)
    ∷ (codes "CHAR", t.Type 3)
    ∷ (codes "BITSET", t.Type 4)
    ∷ (codes "PROC", t.Type 5)
    ∷ []

abbrev pub standard_constants : Things
standard_constants =
    (codes "TRUE", t.Constant (k.Scalar boolean 1))
    ∷ (codes "FALSE", t.Constant (k.Scalar boolean 0))
    ∷ (codes "NIL", t.Nil)
    ∷ []

abbrev pub standard_functions : Things
standard_functions =
    (codes "ABS", t.Standard s.Abs)
    ∷ (codes "CAP", t.Standard s.Cap)
    ∷ (codes "CHR", t.Standard s.Chr)
    ∷ (codes "HIGH", t.Standard s.High)
    ∷ (codes "MAX", t.Standard s.Max)
    ∷ (codes "MIN", t.Standard s.Min)
    ∷ (codes "ODD", t.Standard s.Odd)
    ∷ (codes "ORD", t.Standard s.Ord)
    ∷ (codes "VAL", t.Standard s.Val)
    ∷ []

abbrev pub standard_procedures : Things
standard_procedures =
    (codes "DEC", t.Standard s.Dec)
    ∷ (codes "EXCL", t.Standard s.Excl)
    ∷ (codes "HALT", t.Standard s.Halt)
    ∷ (codes "INC", t.Standard s.Inc)
    ∷ (codes "INCL", t.Standard s.Incl)
    ∷ (codes "NEW", t.Standard s.New)
    ∷ (codes "DISPOSE", t.Standard s.Dispose)
    ∷ []

abbrev pub standard_things : Things
standard_things = standard_types ++ standard_constants ++ standard_functions ++ standard_procedures

abbrev pub standard_names : Block
standard_names = map (λ e. (e.0, known e.1)) standard_things

-- one name more in block 0
unfoldable pub put : List Block → List ℕ → Thing → List Block
put bs n t = bound_at bs 0 n (known t)

abbrev pub puts : List Block → Things → List Block
puts bs [] = bs
puts bs (e ∷ es) = puts (put bs e.0 e.1) es

-- block 0 has the standard names, and block 1, the unit's own, is at hand and has none yet
unfoldable pub start : Env
start = record {
  scopes = record { blocks = standard_names ∷ [] ∷ []; outer = 0 ∷ []; inner = 1 };
  types = [];
  texts = [];
  variables = [];
  procedures = [];
  locals = [];
  waits = [];
  coming = [];
  withs = [];
  procedure = None;
  awaited = 0;
}
