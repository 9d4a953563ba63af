-- What an object needs to have a spelling.
use Rattle.std.proofs.Common.{◌≡◌, ℕ, suc, ◌+◌, ◌-◌, ◌<◌, ◌≤◌, true, List, [], ◌∷◌, ◌++◌, length, Option, Some, None, refl, sym, ap, subst, ◌∙◌, arith}
use Rattle.std.proofs.Math.Seq.{get_or-append_seam}
use Rattle.std.proofs.lemmas.Bool.{and_from, eq-eqb, ne_eqb, le-leb, lt-ltb, ltb-true}
use Rattle.std.proofs.lemmas.List.{length_push}
use Rattle.std.proofs.lemmas.List.Elements.{All-weaker, recursion_from_All}
use Rattle.std.proofs.lemmas.Option.{slice_get_read, slice_get_within}
use Rattle.std.specs.Prelude.{⊤, ◌↔◌, max, not, slice_get, slice_index, IsSomeAnd}
use Rattle.std.specs.List.{All, AllByRecursion}
use Rattle.std.specs.List.Sorted.{IsStrictlyIncreasing}
use Rattle.lil_base.specs.Names.{is_name}
use Rattle.lil_format.specs.FieldLaws.{such_kept}
use Rattle.lil_format.specs.Reading.{u1, u2, u4}
use Rattle.lil_format.specs.Format.{any, number_such, each_fits, Fits}
use Rattle.lil_format.specs.Turns.{list_fits_from}
use Rattle.lil_format.specs.Names.{wanted, name_fits}
use Rattle.lil_object.specs.declared.object.{ProcedureEntry.{ProcedureEntry}, DataString.{DataString}, Contents.{Contents}, Object.{Object}}
use Rattle.lil_object.specs.declared.object.ObjectKind.{ObjectKind, TheVariants.{Program, Implementation}}
use Rattle.lil_object.specs.Object.{kind, key_fits, few_imports, imports, few_words, head, no_name, some_name, procedure, above_entries, code, last_of, is_above, names_module, fixup_fits, fixups, string, strings, source_text, procedures, contents, object}

-- the body stands first, and has no name; each other procedure has one
abbrev pub is_named : ProcedureEntry → Type 0
is_named p = IsSomeAnd p.name (λ t. is_name t ≡ true)

abbrev pub has_body : List ProcedureEntry → Type 0
has_body [] = ⊥
has_body (p ∷ ps) = (p.name ≡ None) × All is_named ps

-- the code has a byte at this place, which is an import's number, or 0 for the module itself
abbrev pub is_fixed : Object → ℕ → Type 0
is_fixed o place = IsSomeAnd (slice_get o.contents.code place) (λ b. b ≤ length o.head.imports)

-- the words of a string lie in the data; an empty one has a word too
abbrev pub lies_within : ℕ → DataString → Type 0
lies_within words s = s.offset + max (length s.text) 1 ≤ words

-- the rules of the format
pub record KeepsRules (o : Object) : Type 0 where
  pub name : is_name o.head.name ≡ true
  pub key : o.head.key.0 < 4294967296
  pub program : (o.head.kind ≡ Program) ↔ (o.head.key.0 ≡ 0)
  pub imports : length o.head.imports ≤ 60
  pub each_import : All (Fits wanted) o.head.imports
  pub data_words : o.head.data_words ≤ 32000
  pub procedures : length o.contents.procedures ≤ 251
  pub body : has_body o.contents.procedures
  pub code : length o.contents.code ≤ 32767
  pub entries : All (λ p. p.entry < length o.contents.code) o.contents.procedures
  pub rising : IsStrictlyIncreasing o.contents.fixups
  pub fixups : All (is_fixed o) o.contents.fixups
  pub strings : length o.contents.strings < 65536
  pub each_string : All (lies_within o.head.data_words) o.contents.strings
  pub text : length o.contents.text ≤ 262144

-- ---- the head
kind_fits : (k : ObjectKind) → Fits kind k
unfolding kind Fits
kind_fits Program = (refl, omega arith)
kind_fits Implementation = (refl, omega arith)

apart : Implementation ≡ Program → ⊥
apart e = cc

key_true : (k : ObjectKind) (n : ℕ) → (k ≡ Program) ↔ (n ≡ 0) → key_fits k n ≡ true
key_true Program n h = eq-eqb n 0 (h.0 refl)
key_true Implementation n h = ap not (ne_eqb n 0 (λ e. apart (h.1 e)))

head_fits : (o : Object) → KeepsRules o → Fits head o.head
unfolding head imports Fits
head_fits o h =
    let k : ObjectKind = o.head.kind in
    let n : ℕ = o.head.key.0 in
    let key : Fits (number_such u4 (key_fits k)) n = (such_kept (key_fits k) n (key_true k n h.program), h.key) in
    let each = recursion_from_All (Fits wanted) o.head.imports h.each_import in
    let ws : Fits imports o.head.imports = list_fits_from u1 few_imports wanted o.head.imports (le-leb _ 60 h.imports) (omega (arith, h.imports)) each in
    let words : Fits (number_such u2 few_words) o.head.data_words = (such_kept few_words o.head.data_words (le-leb _ 32000 h.data_words), omega (arith, h.data_words)) in
    (refl, (kind_fits k, (name_fits o.head.name h.name, (key, (ws, words)))))

-- ---- procedures, whose entries are below n, and code of n bytes
named_fits : (o : Option (List ℕ)) → IsSomeAnd o (λ t. is_name t ≡ true) → Fits some_name o
unfolding some_name Fits
named_fits None h = absurd h
named_fits (Some t) h = (refl, name_fits t h)

abbrev below : ℕ → ProcedureEntry → Type 0
below n p = p.entry < n

behind_body : (n : ℕ) → n ≤ 32767 → (q : ProcedureEntry) (done ps : List ProcedureEntry) → AllByRecursion is_named ps → AllByRecursion (below n) ps
    → each_fits (λ d. Fits (procedure d)) (q ∷ done) ps
unfolding procedure Fits
behind_body n small q done [] h e = tt
behind_body n small q done (p ∷ ps) h e = ((refl, ((refl, omega (arith, small, e.0)), named_fits p.name h.0)), behind_body n small q (done ++ p ∷ []) ps h.1 e.1)

procedures_fit : (n : ℕ) → n ≤ 32767 → (ps : List ProcedureEntry) → length ps ≤ 251 → has_body ps → AllByRecursion (below n) ps → Fits procedures ps
unfolding procedures procedure no_name Fits
procedures_fit n small [] l h e = absurd h
procedures_fit n small (p ∷ ps) l h e =
    let others = behind_body n small p [] ps (recursion_from_All is_named ps h.1) e.1 in
    (and_from _ _ (le-leb 1 _ (omega arith)) (le-leb _ 251 l), omega (arith, l), ((refl, ((refl, omega (arith, small, e.0)), h.0)), others))

some_code : (n : ℕ) (ps : List ProcedureEntry) → has_body ps → AllByRecursion (below n) ps → 1 ≤ n
some_code n [] h e = absurd h
some_code n (p ∷ ps) h e = omega (arith, e.0)

above_all : (n : ℕ) (ps : List ProcedureEntry) → AllByRecursion (below n) ps → above_entries ps n ≡ true
above_all n [] e = refl
above_all n (p ∷ ps) e = and_from _ _ (lt-ltb p.entry n e.0) (above_all n ps e.1)

code_fits : (ps : List ProcedureEntry) (bytes : List ℕ) → length bytes ≤ 32767 → has_body ps → AllByRecursion (below (length bytes)) ps → Fits (code ps) bytes
unfolding code Fits
code_fits ps bytes small h e =
    let n : ℕ = length bytes in
    (and_from _ _ (le-leb 1 n (some_code n ps h e)) (and_from _ _ (le-leb n 32767 small) (above_all n ps e)), omega (arith, small), refl)

-- ---- fixups, each above the last before
abbrev rises : Option ℕ → List ℕ → Type 0
rises before [] = ⊤
rises before (p ∷ ps) = (is_above before p ≡ true) × rises (Some p) ps

next : (k : ℕ) → suc k + 1 ≡ suc (k + 1)
next k = omega arith

rises_from : (before : Option ℕ) (p : ℕ) (ps : List ℕ) → is_above before p ≡ true → IsStrictlyIncreasing (p ∷ ps) → rises before (p ∷ ps)
rises_from before p [] h up = (h, tt)
rises_from before p (q ∷ qs) h up =
    let behind : IsStrictlyIncreasing (q ∷ qs) = λ k l. subst (λ n. slice_index (q ∷ qs) k < slice_index (p ∷ q ∷ qs) n) (next k) (up (suc k) (omega (arith, l))) in
    (h, rises_from (Some p) q qs (lt-ltb p q (up 0 (omega arith))) behind)

last_pushed : (done : List ℕ) (p : ℕ) → last_of (done ++ p ∷ []) ≡ Some p
last_pushed done p =
    let size : length (done ++ p ∷ []) ≡ length done + 1 = length_push done p in
    let last : length (done ++ p ∷ []) - 1 ≡ length done = omega (arith, size) in
    ap (slice_get (done ++ p ∷ [])) last ∙ slice_get_read (done ++ p ∷ []) _ (length done) p refl (omega (arith, size)) (sym (get_or-append_seam done p [] p))

module _ (imported : ℕ) (bytes : List ℕ) (small : length bytes ≤ 32767) where
  abbrev fixed : ℕ → Type 0
  fixed place = IsSomeAnd (slice_get bytes place) (λ b. b ≤ imported)

  names : (o : Option ℕ) → IsSomeAnd o (λ b. b ≤ imported) → names_module imported o ≡ true
  names None h = absurd h
  names (Some b) h = le-leb b imported h

  within : (place : ℕ) (o : Option ℕ) → slice_get bytes place ≡ o → IsSomeAnd o (λ b. b ≤ imported) → place < length bytes
  within place None e h = absurd h
  within place (Some b) e h = slice_get_within bytes place b e

  each_fixup : (before : Option ℕ) (done ps : List ℕ) → last_of done ≡ before → rises before ps → AllByRecursion fixed ps
      → each_fits (λ d. Fits (number_such u2 (fixup_fits imported bytes d))) done ps
  unfolding Fits
  each_fixup before done [] e r h = tt
  each_fixup before done (p ∷ ps) e r h =
      let fits = and_from _ _ (ap (λ b. is_above b p) e ∙ r.0) (names (slice_get bytes p) h.0) in
      let short : p < 65536 = omega (arith, small, within p (slice_get bytes p) refl h.0) in
      ((such_kept (fixup_fits imported bytes done) p fits, short), each_fixup (Some p) (done ++ p ∷ []) ps (last_pushed done p) r.1 h.1)

  -- so there are fewer of them than bytes
  fewer : (p : ℕ) (ps : List ℕ) → p < length bytes → rises (Some p) ps → AllByRecursion fixed ps → length ps + p < length bytes
  fewer p [] l r h = omega (arith, l)
  fewer p (q ∷ qs) l r h = omega (arith, fewer q qs (within q (slice_get bytes q) refl h.0) r.1 h.1, ltb-true p q r.0)

  fixups_fit : (ps : List ℕ) → IsStrictlyIncreasing ps → AllByRecursion fixed ps → Fits (fixups imported bytes) ps
  unfolding fixups Fits
  fixups_fit [] up h = (refl, omega arith, tt)
  fixups_fit (p ∷ ps) up h =
      let r = rises_from None p ps refl up in
      (refl, omega (arith, small, fewer p ps (within p (slice_get bytes p) refl h.0) r.1 h.1), each_fixup None [] (p ∷ ps) refl r h)

-- ---- strings
string_fits : (words : ℕ) → words ≤ 32000 → (s : DataString) → lies_within words s → Fits (string words) s
unfolding string Fits
string_fits words small s h = (refl, ((refl, omega (arith, small, h)), (le-leb _ words h, omega (arith, small, h), refl)))

strings_fit : (words : ℕ) → words ≤ 32000 → (ss : List DataString) → length ss < 65536 → All (lies_within words) ss → Fits (strings words) ss
unfolding strings
strings_fit words small ss l h =
    let each = All-weaker (lies_within words) (Fits (string words)) (string_fits words small) ss h in
    list_fits_from u2 any (string words) ss refl l (recursion_from_All (Fits (string words)) ss each)

-- ---- what keeps the rules has a spelling
contents_fits : (o : Object) → KeepsRules o → Fits (contents o.head) o.contents
unfolding contents source_text Fits
contents_fits o h =
    let c : Contents = o.contents in
    let entries = recursion_from_All (below (length c.code)) c.procedures h.entries in
    let ps : Fits procedures c.procedures = procedures_fit (length c.code) h.code c.procedures h.procedures h.body entries in
    let bytes : Fits (code c.procedures) c.code = code_fits c.procedures c.code h.code h.body entries in
    let fixed = recursion_from_All (is_fixed o) c.fixups h.fixups in
    let places : Fits (fixups (length o.head.imports) c.code) c.fixups = fixups_fit (length o.head.imports) c.code h.code c.fixups h.rising fixed in
    let ss : Fits (strings o.head.data_words) c.strings = strings_fit o.head.data_words h.data_words c.strings h.strings h.each_string in
    let t : Fits source_text c.text = (le-leb _ 262144 h.text, omega (arith, h.text), refl) in
    (refl, (ps, (bytes, (places, (ss, t)))))

pub object_fits : (o : Object) → KeepsRules o → Fits object o
unfolding object Fits
object_fits o h = (refl, (head_fits o h, contents_fits o h))
