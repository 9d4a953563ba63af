-- The kinds of the types of a module, what may be in sets, and the parts of types.
use Rattle.std.specs.Prelude.{ℕ, Bool, true, false, slice_get, Option, Some, None, ◌==◌, pos, if◌then◌else◌, nat_le, length}
use Rattle.std.specs.Option.{option_map}
use Rattle.lil_types.specs.{Types.{Table, entry, cardinal, bit_set, base, char, integer, boolean, proc, address}, declared.table.{Field.Field, TypeForm.{TypeForm, TheVariants.{Array, Record, SetOf, Enumeration, Subrange, Pointer, Procedure}}, TypeEntry.TypeEntry, Span.Span}}
use Rattle.lil_shapes.specs.declared.{composites.ArrayParts.ArrayParts, members.Members.Members}
use Rattle.lil_resolved.specs.declared.resolved.RBase.TheVariants as b
use Rattle.lil_resolved.specs.{declared.resolved.{RKind.RKind, RBase.RBase, RRange.RRange}, Kinds.numbers, Views.kind_view}

-- ---- the parts of types: the fields of records, and the indexes and elements of arrays

abbrev pub field_sort : Field → ℕ
field_sort x = x.sort

abbrev pub field_in : ℕ → TypeForm → Option ℕ
field_in i (Record xs) = option_map field_sort (slice_get xs i)
field_in i _ = None

abbrev pub field_by : ℕ → Option TypeEntry → Option ℕ
field_by i None = None
field_by i (Some e) = field_in i e.form

-- the type of a record's field, by its number
abbrev pub field_at : Table → ℕ → ℕ → Option ℕ
field_at t s i = field_by i (entry t s)

abbrev pub array_in : TypeForm → Option ArrayParts
array_in (Array i e) = Some (record { index = i; element = e })
array_in _ = None

abbrev pub array_by : Option TypeEntry → Option ArrayParts
array_by None = None
array_by (Some e) = array_in e.form

-- the types of an array's indexes and elements
abbrev pub array_at : Table → ℕ → Option ArrayParts
array_at t s = array_by (entry t s)

abbrev pub element_sort : ArrayParts → ℕ
element_sort a = a.element

abbrev pub is_composite : TypeForm → Bool
is_composite (Array i e) = true
is_composite (Record xs) = true
is_composite _ = false

abbrev pub composite_by : Option TypeEntry → Bool
composite_by None = false
composite_by (Some e) = is_composite e.form

-- whether a type is an array or a record
abbrev pub composite_at : Table → ℕ → Bool
composite_at t s = composite_by (entry t s)

-- ---- base types
abbrev pub standard : ℕ → Option RBase
standard s =
    if s == integer then Some b.Integer
    else (if s == cardinal then Some b.Cardinal
    else (if s == boolean then Some b.Truth
    else (if s == char then Some b.Character
    else (if s == bit_set then Some b.Set
    else (if s == address then Some b.Address
    else (if s == proc then Some (b.Procedure s) else None))))))

-- constants whose numbers are words
abbrev pub enumerated : ℕ → Option RBase
enumerated n = if nat_le n 65535 then Some (b.Enumeration n) else None

abbrev pub base_form : ℕ → TypeForm → Option RBase
base_form s (Enumeration xs) = enumerated (length xs)
base_form s (SetOf n) = Some b.Set
base_form s (Pointer n) = Some (b.Pointer s)
base_form s (Procedure ps r) = Some (b.Procedure s)
base_form s _ = None

abbrev pub base_by : ℕ → Option TypeEntry → Option RBase
base_by s None = standard s
base_by s (Some e) = base_form s e.form

-- what the values of a base type are: INTEGER, CARDINAL, BOOLEAN, CHAR, an enumeration, sets, pointers, addresses, or procedures
abbrev pub base_at : Table → ℕ → Option RBase
base_at t s = base_by s (entry t s)

-- ---- the types of variables
abbrev pub plain : RBase → RKind
plain k = record { base = k; range = None }

abbrev pub range_of : Span → RRange
range_of s = record { low = s.low; high = s.high }

abbrev pub kind_form : RBase → TypeForm → Option RKind
kind_form k (Enumeration xs) = Some (plain k)
kind_form k (SetOf n) = Some (plain k)
kind_form k (Pointer n) = Some (plain k)
kind_form k (Procedure ps r) = Some (plain k)
kind_form k (Subrange n s) = Some (record { base = k; range = Some (range_of s) })
kind_form k _ = None

abbrev pub kind_by : RBase → Option TypeEntry → Option RKind
kind_by k None = Some (plain k)
kind_by k (Some e) = kind_form k e.form

abbrev pub kind_over : Option RBase → Option TypeEntry → Option RKind
kind_over None e = None
kind_over (Some k) e = kind_by k e

-- the kind of a type's variables: a base type, or a subrange of one
abbrev pub kind_at : Table → ℕ → Option RKind
kind_at t s = kind_over (base_at t (base t s)) (entry t s)

-- ---- how many elements arrays have

abbrev pub numbers_of : RKind → ℕ
numbers_of k = numbers (kind_view k)

abbrev pub elements_in : Table → Option ArrayParts → Option ℕ
elements_in t None = None
elements_in t (Some parts) = option_map numbers_of (kind_at t parts.index)

-- an array of a type, None for any other type
abbrev pub elements_at : Table → ℕ → Option ℕ
elements_at t s = elements_in t (array_at t s)

-- ---- what may be in a set: numbers of a kind, and their base type

abbrev pub members_with : ℕ → RKind → Members
members_with s k = record { kind = k; sort = s }

-- the numbers from 0 to 15 as CARDINALs
abbrev pub bits : RKind
bits = record { base = b.Cardinal; range = Some (record { low = pos 0; high = pos 15 }) }

abbrev pub members_in : Table → TypeForm → Option Members
members_in t (SetOf n) = option_map (members_with (base t n)) (kind_at t n)
members_in t _ = None

abbrev pub members_by : Table → Option TypeEntry → Option Members
members_by t None = None
members_by t (Some e) = members_in t e.form

-- what may be in the sets of a type, None for a type of other values
abbrev pub members_at : Table → ℕ → Option Members
members_at t s = if s == bit_set then Some (members_with cardinal bits) else members_by t (entry t s)
