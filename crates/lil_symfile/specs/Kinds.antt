-- What the rules of a symbol file ask of the types before: a kind for each.
use Rattle.std.specs.Prelude.{ℕ, ◌-◌, min, ◌==◌, nat_lt, ℤ, pos, negsuc, ◌-ℤ◌, int_lt, Bool, true, false, not, ◌&&◌, List, [], ◌∷◌, ◌++◌, length, slice_get, Option, Some, None, if◌then◌else◌}
use Rattle.lil_symfile.specs.declared.tree.Form.{Form, TheVariants.{Enumeration, Subrange, Array, Record, Set, Pointer, Procedure, Opaque}}
use Rattle.lil_symfile.specs.declared.tree.SymType.{SymType}
use Rattle.lil_symfile.specs.declared.kinds.Kind.{Kind}
use Rattle.lil_symfile.specs.declared.kinds.Kind.TheVariants as kind
use Rattle.lil_symfile.specs.declared.kinds.Rule.{Rule}
use Rattle.lil_symfile.specs.declared.kinds.Rule.TheVariants as rule

-- INTEGER, CARDINAL, BOOLEAN, CHAR, BITSET, PROC, and then ADDRESS and PROCESS
abbrev pub standard : ℕ → Option Kind
standard n =
    if n == 0 then Some (kind.Ordinal true (negsuc 32767) (pos 32767))
    else (if n == 1 then Some (kind.Ordinal false (pos 0) (pos 65535))
    else (if n == 2 then Some (kind.Ordinal false (pos 0) (pos 1))
    else (if n == 3 then Some (kind.Ordinal false (pos 0) (pos 255))
    else (if n == 4 then Some kind.Set
    else (if n == 5 then Some kind.Procedure
    else (if nat_lt n 8 then Some kind.Other else None))))))

-- the kind of the type of a number, None where none has it
abbrev pub kind_at : List Kind → ℕ → Option Kind
kind_at ks n = if nat_lt n 16 then standard n else slice_get ks (n - 16)

-- a subrange counts with a sign where its last base does
abbrev pub is_signed : Option Kind → Bool
is_signed (Some (kind.Ordinal s l h)) = s
is_signed (Some kind.Set) = false
is_signed (Some kind.Procedure) = false
is_signed (Some kind.Other) = false
is_signed None = false

-- an enumeration of a file has fewer than 65,536 names
abbrev pub kind_of : List Kind → Form → Kind
kind_of ks (Enumeration names) = kind.Ordinal false (pos 0) (pos (min (length names) 65536) -ℤ pos 1)
kind_of ks (Subrange base lower upper) = kind.Ordinal (is_signed (kind_at ks base)) lower upper
kind_of ks (Array index element) = kind.Other
kind_of ks (Record fields) = kind.Other
kind_of ks (Set base) = kind.Set
kind_of ks (Pointer target) = kind.Other
kind_of ks (Procedure parameters answer) = kind.Procedure
kind_of ks Opaque = kind.Other

abbrev pub kinds_from : List Kind → List SymType → List Kind
kinds_from ks [] = ks
kinds_from ks (t ∷ ts) = kinds_from (ks ++ kind_of ks t.form ∷ []) ts

-- the kinds of types, each by those before it
abbrev pub kinds : List SymType → List Kind
kinds ts = kinds_from [] ts

abbrev pub in_word : ℤ → ℤ → Bool
in_word low high = not (int_lt low (pos 0)) && not (int_lt (pos 15) high)

abbrev pub keeps : Rule → Kind → Bool
keeps rule.Any k = true
keeps rule.Ordinal (kind.Ordinal s l h) = true
keeps rule.Ordinal kind.Set = false
keeps rule.Ordinal kind.Procedure = false
keeps rule.Ordinal kind.Other = false
keeps rule.Small (kind.Ordinal s l h) = in_word l h
keeps rule.Small kind.Set = false
keeps rule.Small kind.Procedure = false
keeps rule.Small kind.Other = false
keeps rule.Scalar (kind.Ordinal s l h) = true
keeps rule.Scalar kind.Set = true
keeps rule.Scalar kind.Procedure = false
keeps rule.Scalar kind.Other = false
keeps rule.Procedure (kind.Ordinal s l h) = false
keeps rule.Procedure kind.Set = false
keeps rule.Procedure kind.Procedure = true
keeps rule.Procedure kind.Other = false

-- there is such a type, and it keeps the rule
abbrev pub some_keeps : Rule → Option Kind → Bool
some_keeps r None = false
some_keeps r (Some k) = keeps r k

abbrev pub names_type : List Kind → Rule → ℕ → Bool
names_type ks r n = some_keeps r (kind_at ks n)
