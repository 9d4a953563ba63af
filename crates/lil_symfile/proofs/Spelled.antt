-- What is written is the spelling, and what fits is short enough to be written.
use Rattle.std.proofs.Common.{◌≡◌, ℕ, ◌<◌, List, [], ◌∷◌, ◌++◌, length, refl, ap}
use Rattle.std.specs.Prelude.{codes}
use Rattle.std.specs.List.{flat_map, All}
use Rattle.std.proofs.lemmas.List.Elements.{All-from_recursion}
use Rattle.lil_base.specs.Fields.{bytes16, bytes32}
use Rattle.lil_format.specs.declared.name.Wanted.{Wanted}
use Rattle.lil_format.specs.Reading.{u2}
use Rattle.lil_format.specs.Format.{each_fits, each_spelled, Fits, spelling}
use Rattle.lil_format.specs.Names.{name, name_but, wanted}
use Rattle.lil_format.specs.Turns.{list_spelled}
use Rattle.lil_symfile.specs.declared.tree.{Field.{Field}, Parameter.{Parameter}, SymType.{SymType}, SymName.{SymName}, SymbolFile.{SymbolFile}}
use Rattle.lil_symfile.specs.declared.kinds.Kind.{Kind}
use Rattle.lil_symfile.specs.declared.tree.Form.{Form, TheVariants.{Enumeration, Subrange, Array, Record, Set, Pointer, Procedure, Opaque}}
use Rattle.lil_symfile.specs.declared.tree.Class.{Class}
use Rattle.lil_symfile.specs.declared.tree.Class.TheVariants as class
use Rattle.lil_symfile.specs.Kinds.{kinds}
use Rattle.lil_symfile.specs.Laws.{each_all}
use Rattle.lil_symfile.specs.Symbol as spec
use Rattle.lil_symfile.specs.Symbol.{rest, rests, sort, field, fields, flags, parameter, parameters, answer, constants, enumeration, lower, upper, subrange, array, record_form, set_form, pointer, procedure, form, sym_type, types, whole, scalar, chars, type_name, variable, routine, class_of, shown, sym_name, names, symbol_file}
use Rattle.lil_symfile.specs.Written.{rests_bytes, constants_bytes, field_bytes, fields_bytes, parameter_bytes, parameters_bytes, form_bytes, type_bytes, types_bytes, class_bytes, name_bytes, names_bytes, file_bytes, short_field, short_fields, short_parameter, short_parameters, short_form, short_type, short_class, short_name, IsShort}

-- ---- lists whose parts are spelled alike, whatever stands before
each_flat : {A : Type 0} (S : List A → A → List ℕ) (spell : A → List ℕ) → ((done : List A) (a : A) → S done a ≡ spell a)
    → (done xs : List A) → each_spelled S done xs ≡ flat_map spell xs
each_flat S spell e done [] = refl
each_flat S spell e done (x ∷ xs) = (λ j. e done x j ++ each_flat S spell e (done ++ x ∷ []) xs j)

each_short : {A : Type 0} (F : List A → A → Type 0) (short : A → Type 0) → ((done : List A) (a : A) → F done a → short a)
    → (xs : List A) → each_fits F [] xs → All short xs
each_short F short e xs h = All-from_recursion short xs (each_all F short e [] xs h)

counted : {A : Type 0} (xs : List A) {s r : List ℕ} → s ≡ r → bytes16 (length xs) ++ s ≡ bytes16 (length xs) ++ r
counted xs e = ap (λ (r : List ℕ). bytes16 (length xs) ++ r) e

rests_is : (ws : List Wanted) → spelling rests ws ≡ rests_bytes ws
unfolding rests rest wanted name name_but spelling
rests_is ws = ap (λ (r : List ℕ). length ws ∷ r) (each_flat (λ done. spelling (rest (spec.rest_names done))) _ (λ done w. refl) [] ws)

constants_is : (ns : List (List ℕ)) → spelling constants ns ≡ constants_bytes ns
unfolding constants
constants_is ns = list_spelled u2 spec.at_least_one name ns

fields_is : (ks : List Kind) (fs : List Field) → spelling (fields ks) fs ≡ fields_bytes fs
unfolding fields field name name_but sort spelling
fields_is ks fs = counted fs (each_flat (λ done. spelling (field ks (spec.field_names done))) field_bytes (λ done f. refl) [] fs)

parameters_is : (ks : List Kind) (ps : List Parameter) → spelling (parameters ks) ps ≡ parameters_bytes ps
unfolding parameters parameter flags sort spelling
parameters_is ks ps = ap (λ (r : List ℕ). length ps ∷ r) (each_flat (λ done. spelling (parameter ks)) parameter_bytes (λ done p. refl) [] ps)

form_is : (count : ℕ) (ks : List Kind) (f : Form) → spelling (form count ks) f ≡ form_bytes f
unfolding form enumeration subrange lower upper array record_form set_form pointer procedure sort answer spelling
form_is count ks (Enumeration ns) = ap (λ (r : List ℕ). 1 ∷ r) (constants_is ns)
form_is count ks (Subrange base low high) = refl
form_is count ks (Array index element) = refl
form_is count ks (Record fs) = ap (λ (r : List ℕ). 4 ∷ r) (fields_is ks fs)
form_is count ks (Set base) = refl
form_is count ks (Pointer target) = refl
form_is count ks (Procedure ps a) = ap (λ (r : List ℕ). 7 ∷ (r ++ bytes16 (spec.answer_code a))) (parameters_is ks ps)
form_is count ks Opaque = refl

type_is : (rested count : ℕ) (ks : List Kind) (t : SymType) → spelling (sym_type rested count ks) t ≡ type_bytes t
unfolding sym_type spelling
type_is rested count ks t = ap (λ (r : List ℕ). t.origin ∷ (bytes16 t.number ++ r)) (form_is count ks t.form)

types_is : (rested : ℕ) (ts : List SymType) → spelling (types rested) ts ≡ types_bytes ts
unfolding types spelling
types_is rested ts = counted ts (each_flat (λ done. spelling (sym_type rested (length ts) (kinds done))) type_bytes (λ done t. type_is rested (length ts) (kinds done) t) [] ts)

class_is : (ks : List Kind) (c : Class) → spelling (class_of ks) c ≡ class_bytes c
unfolding class_of whole scalar chars type_name variable routine sort spelling
class_is ks (class.Whole value) = refl
class_is ks (class.Scalar n word) = refl
class_is ks (class.Chars t) = refl
class_is ks (class.Sort n) = refl
class_is ks (class.Variable n offset) = refl
class_is ks (class.Procedure n place) = refl

name_is : (ks : List Kind) (ns : List (List ℕ)) (x : SymName) → spelling (sym_name ks ns) x ≡ name_bytes x
unfolding sym_name shown name name_but spelling
name_is ks ns x = ap (λ (r : List ℕ). spec.shown_code x.shown ∷ (spelling name x.name ++ r)) (class_is ks x.class)

names_is : (ks : List Kind) (xs : List SymName) → spelling (names ks) xs ≡ names_bytes xs
unfolding names spelling
names_is ks xs = counted xs (each_flat (λ done. spelling (sym_name ks (spec.declared_names done))) name_bytes (λ done x. name_is ks (spec.declared_names done) x) [] xs)

pub file_is : (f : SymbolFile) → spelling symbol_file f ≡ file_bytes f
unfolding symbol_file spelling
file_is f = λ j.
    codes "LSYM" ++ 1 ∷ (spelling name f.name ++ (bytes32 f.key.0
    ++ (rests_is f.rests j ++ (types_is (length f.rests) f.types j ++ names_is (kinds f.types) f.names j))))

-- ---- what fits is short
field_short : (ks : List Kind) (ns : List (List ℕ)) (f : Field) → Fits (field ks ns) f → short_field f
unfolding field sort Fits
field_short ks ns f h = h.1.1.1

parameter_short : (ks : List Kind) (p : Parameter) → Fits (parameter ks) p → short_parameter p
unfolding parameter sort Fits
parameter_short ks p h = h.1.1.1

fields_short : (ks : List Kind) (fs : List Field) → Fits (fields ks) fs → (length fs < 65536) × short_fields fs
unfolding fields Fits
fields_short ks fs h = (h.1, each_short (λ done. Fits (field ks (spec.field_names done))) short_field (λ done f g. field_short ks (spec.field_names done) f g) fs h.2)

parameters_short : (ks : List Kind) (ps : List Parameter) → Fits (parameters ks) ps → (length ps < 256) × short_parameters ps
unfolding parameters Fits
parameters_short ks ps h = (h.1, each_short (λ done. Fits (parameter ks)) short_parameter (λ done p g. parameter_short ks p g) ps h.2)

form_short : (count : ℕ) (ks : List Kind) (f : Form) → Fits (form count ks) f → short_form f
unfolding form enumeration constants subrange lower upper array record_form set_form pointer procedure sort answer Fits
form_short count ks (Enumeration ns) h = h.2.1.1
form_short count ks (Subrange base low high) h = (h.2.1.0.1, h.2.1.1.0.1, h.2.1.1.1.1)
form_short count ks (Array index element) h = (h.2.1.0.1, h.2.1.1.1)
form_short count ks (Record fs) h = fields_short ks fs h.2.1
form_short count ks (Set base) h = h.2.1.1
form_short count ks (Pointer target) h = h.2.1.1
form_short count ks (Procedure ps a) h = let p = parameters_short ks ps h.2.1.0 in (p.0, p.1, h.2.1.1.1)
form_short count ks Opaque h = tt

type_short : (rested count : ℕ) (ks : List Kind) (t : SymType) → Fits (sym_type rested count ks) t → short_type t
unfolding sym_type Fits
type_short rested count ks t h = (h.1.0.1, h.1.1.0.1, form_short count ks t.form h.1.1.1)

class_short : (ks : List Kind) (c : Class) → Fits (class_of ks) c → short_class c
unfolding class_of scalar chars type_name variable routine sort Fits
class_short ks (class.Whole value) h = tt
class_short ks (class.Scalar n word) h = h.2.1.0.1
class_short ks (class.Chars t) h = h.2.1.1
class_short ks (class.Sort n) h = h.2.1.1
class_short ks (class.Variable n offset) h = (h.2.1.0.1, h.2.1.1.1)
class_short ks (class.Procedure n place) h = (h.2.1.0.1, h.2.1.1.1)

name_short : (ks : List Kind) (ns : List (List ℕ)) (x : SymName) → Fits (sym_name ks ns) x → short_name x
unfolding sym_name Fits
name_short ks ns x h = class_short ks x.class h.1.1.1

pub file_short : (f : SymbolFile) → Fits symbol_file f → IsShort f
unfolding symbol_file rests types names Fits
file_short f h =
    let parts = h.1.1.1 in
    let count : ℕ = length f.rests in
    let many : ℕ = length f.types in
    let all : List Kind = kinds f.types in
    let seen : List SymName → List (List ℕ) = spec.declared_names in
    record {
      rests = parts.0.1;
      types = parts.1.0.1;
      each_type = each_short (λ done. Fits (sym_type count many (kinds done))) short_type (λ done t g. type_short count many (kinds done) t g) f.types parts.1.0.2;
      names = parts.1.1.1;
      each_name = each_short (λ done. Fits (sym_name all (seen done))) short_name (λ done x g. name_short all (seen done) x g) f.names parts.1.1.2;
    }
