-- Types by their numbers: what each one is, when a table of them is sound, and which go together.
use Rattle.std.specs.Prelude.{◌≡◌, ℕ, ◌+◌, ◌*◌, ◌-◌, ◌==◌, nat_lt, min, ℤ, pos, negsuc, int_lt, true, false, not, ◌+ℤ◌, ◌-ℤ◌, Bool, ◌&&◌, ◌||◌, List, [], ◌∷◌, ◌++◌, length, slice_get, slice_set, Option, Some, None, if◌then◌else◌, ⊤}
use Rattle.lil_types.specs.declared.table.{Span.Span, Facts.Facts, Field.Field, TypeForm.{TypeForm, TheVariants.{Enumeration, Subrange, Array, Record, SetOf, Pointer, Procedure, Opaque}}, TypeEntry.TypeEntry}

abbrev pub Table : Type 0
Table = List TypeEntry

-- ---- the standard types
abbrev pub integer : ℕ
integer = 0

abbrev pub cardinal : ℕ
cardinal = 1

abbrev pub boolean : ℕ
boolean = 2

abbrev pub char : ℕ
char = 3

abbrev pub bit_set : ℕ
bit_set = 4

abbrev pub proc : ℕ
proc = 5

abbrev pub address : ℕ
address = 6

abbrev pub process : ℕ
process = 7

abbrev pub span : ℤ → ℤ → Span
span low high = record { low = low; high = high }

abbrev pub facts : ℕ → ℕ → Option Span → Facts
facts base words s = record { base = base; words = words; span = s }

abbrev pub standard : ℕ → Option Facts
standard n =
    if n == 0 then Some (facts 0 1 (Some (span (negsuc 32767) (pos 32767))))
    else (if n == 1 then Some (facts 1 1 (Some (span (pos 0) (pos 65535))))
    else (if n == 2 then Some (facts 2 1 (Some (span (pos 0) (pos 1))))
    else (if n == 3 then Some (facts 3 1 (Some (span (pos 0) (pos 255))))
    else (if nat_lt n 8 then Some (facts n 1 None) else None))))

-- ---- numbers of a table
abbrev pub entry : Table → ℕ → Option TypeEntry
entry t n = if nat_lt n 16 then None else slice_get t (n - 16)

abbrev pub facts_in : Option Facts → Option TypeEntry → Option Facts
facts_in (Some f) e = Some f
facts_in None (Some e) = Some e.facts
facts_in None None = None

-- what is known of the type of a number, None where the table has no such number
abbrev pub known : Table → ℕ → Option Facts
known t n = facts_in (standard n) (entry t n)

-- ---- the facts of a form, from those of its parts
abbrev pub nat_of : ℤ → ℕ
nat_of (pos n) = n
nat_of (negsuc n) = 0

-- how many values
abbrev pub values : Span → ℕ
values s = nat_of ((s.high -ℤ s.low) +ℤ pos 1)

-- a number is in both
abbrev pub meets : Span → Span → Bool
meets s u = not (int_lt s.high u.low) && not (int_lt u.high s.low)

abbrev pub plain : ℕ → Facts
plain n = facts n 1 None

-- numbers of constants end at 65535, whatever their count
abbrev pub enumeration_facts : ℕ → ℕ → Facts
enumeration_facts n count = facts n 1 (Some (span (pos 0) (pos (min count 65536) -ℤ pos 1)))

abbrev pub subrange_facts : Option Facts → Span → Option Facts
subrange_facts (Some f) s = Some (facts f.base 1 (Some s))
subrange_facts None s = None

abbrev pub array_of_span : ℕ → Option Span → Facts → Option Facts
array_of_span n (Some s) e = Some (facts n (values s * e.words) None)
array_of_span n None e = None

abbrev pub array_facts : ℕ → Option Facts → Option Facts → Option Facts
array_facts n (Some i) (Some e) = array_of_span n i.span e
array_facts n _ _ = None

abbrev pub sum_of : Option Facts → Option ℕ → Option ℕ
sum_of (Some f) (Some n) = Some (f.words + n)
sum_of _ _ = None

abbrev pub fields_words : Table → List Field → Option ℕ
fields_words t [] = Some 0
fields_words t (x ∷ xs) = sum_of (known t x.sort) (fields_words t xs)

abbrev pub record_facts : ℕ → Option ℕ → Option Facts
record_facts n None = None
record_facts n (Some words) = Some (facts n words None)

-- None where a part has no such number, or an index isn't ordinal
abbrev pub facts_of : Table → ℕ → TypeForm → Option Facts
facts_of t n (Enumeration xs) = Some (enumeration_facts n (length xs))
facts_of t n (Subrange b s) = subrange_facts (known t b) s
facts_of t n (Array i e) = array_facts n (known t i) (known t e)
facts_of t n (Record xs) = record_facts n (fields_words t xs)
facts_of t n (SetOf b) = Some (plain n)
facts_of t n (Pointer p) = Some (plain n)
facts_of t n (Procedure xs r) = Some (plain n)
facts_of t n (Opaque o) = Some (plain n)

-- each type has the facts that its form has over the types before it
abbrev pub IsSoundFrom : Table → ℕ → List TypeEntry → Type 0
IsSoundFrom t n [] = ⊤
IsSoundFrom t n (e ∷ es) = (facts_of t n e.form ≡ Some e.facts) × IsSoundFrom (t ++ e ∷ []) (n + 1) es

abbrev pub IsSound : Table → Type 0
IsSound t = IsSoundFrom [] 16 t

-- ---- a pointer type whose target is known later
abbrev pub is_pointer : TypeForm → Bool
is_pointer (Pointer m) = true
is_pointer _ = false

abbrev pub aimed_by : Option TypeEntry → Table → ℕ → ℕ → Table
aimed_by None t at target = t
aimed_by (Some e) t at target = if is_pointer e.form then slice_set t at (record e { form = Pointer target }) else t

-- the table where a pointer points to another type
abbrev pub aimed : Table → ℕ → ℕ → Table
aimed t n target = if nat_lt n 16 then t else aimed_by (slice_get t (n - 16)) t (n - 16) target

-- ---- an opaque type that is another in its implementation: which, is told once
abbrev pub is_untold : TypeForm → Bool
is_untold (Opaque None) = true
is_untold _ = false

abbrev pub is_form_in : (TypeForm → Bool) → Option TypeEntry → Bool
is_form_in test None = false
is_form_in test (Some e) = test e.form

abbrev pub is_untold_type : Table → ℕ → Bool
is_untold_type t n = is_form_in is_untold (entry t n)

abbrev pub is_pointer_type : Table → ℕ → Bool
is_pointer_type t n = is_form_in is_pointer (entry t n)

abbrev pub revealed_by : Option TypeEntry → Table → ℕ → ℕ → Table
revealed_by None t at other = t
revealed_by (Some e) t at other = if is_untold e.form then slice_set t at (record e { form = Opaque (Some other) }) else t

-- the table where an opaque type is another one
abbrev pub revealed : Table → ℕ → ℕ → Table
revealed t n other = if nat_lt n 16 then t else revealed_by (slice_get t (n - 16)) t (n - 16) other

-- ---- which types go together
abbrev pub other_of : ℕ → TypeForm → ℕ
other_of n (Opaque (Some m)) = m
other_of n _ = n

abbrev pub meant_by : ℕ → Option TypeEntry → ℕ
meant_by n None = n
meant_by n (Some e) = other_of n e.form

-- the type that a number means: that of its implementation, where it is an opaque type that has one
abbrev pub meant : Table → ℕ → ℕ
meant t n = meant_by n (entry t n)

abbrev pub base_by : ℕ → Option Facts → ℕ
base_by n None = n
base_by n (Some f) = f.base

-- the type below all subranges
abbrev pub base : Table → ℕ → ℕ
base t n = base_by (meant t n) (known t (meant t n))

abbrev pub same : Table → ℕ → ℕ → Bool
same t a b = meant t a == meant t b

abbrev pub compatible : Table → ℕ → ℕ → Bool
compatible t a b = base t a == base t b

abbrev pub is_whole : Table → ℕ → Bool
is_whole t a = nat_lt (base t a) 2

-- whether a value of type b can be assigned to type a, as far as types alone say it
abbrev pub assignable : Table → ℕ → ℕ → Bool
assignable t a b = compatible t a b || (is_whole t a && is_whole t b)

abbrev pub words_by : Option Facts → ℕ
words_by None = 0
words_by (Some f) = f.words

abbrev pub words : Table → ℕ → ℕ
words t a = words_by (known t a)
