-- What is written of lists is their spelling, and lists that fit are short enough to be written.
use Rattle.std.proofs.Common.{◌≡◌, ℕ, ◌<◌, List, [], ◌∷◌, ◌++◌, length, refl, sym, ap}
use Rattle.std.specs.List.{flat_map, All}
use Rattle.std.proofs.lemmas.List.Elements.{All-from_recursion, All-weaker}
use Rattle.lil_base.specs.Fields.{bytes16, bytes32}
use Rattle.lil_format.specs.declared.name.Wanted.{Wanted}
use Rattle.lil_format.specs.Reading.{u1, u2}
use Rattle.lil_format.specs.Format.{any, each_fits, each_spelled, Fits, spelling}
use Rattle.lil_format.specs.Names.{wanted}
use Rattle.lil_format.specs.Turns.{spelled_flat, list_spelled, list_fits}
use Rattle.lil_object.specs.declared.object.{ProcedureEntry.{ProcedureEntry}, DataString.{DataString}, Head.{Head}, Contents.{Contents}}
use Rattle.lil_object.specs.Object.{few_imports, imports, no_name, some_name, procedure, procedures, code, fixups, string, strings, source_text, contents}
use Rattle.lil_object.specs.Written.{name_bytes, procedure_bytes, procedures_bytes, fixups_bytes, strings_bytes, contents_bytes, short_string, IsShort}

-- ---- imports
pub imports_spelled : (ws : List Wanted) → spelling imports ws ≡ length ws ∷ flat_map (spelling wanted) ws
unfolding imports
imports_spelled ws = list_spelled u1 few_imports wanted ws

pub imports_fit : (ws : List Wanted) → Fits imports ws → length ws < 256
unfolding imports
imports_fit ws h = (list_fits u1 few_imports wanted ws h).0

-- ---- procedures: of those that fit the first has no name, and each other one has
procedure_spelled : (done : List ProcedureEntry) (p : ProcedureEntry) → Fits (procedure done) p → spelling (procedure done) p ≡ procedure_bytes p
unfolding procedure no_name some_name Fits spelling
procedure_spelled [] p h = ap (λ o. bytes16 p.entry ++ name_bytes o) (sym h.1.1)
procedure_spelled (q ∷ qs) p h = ap (λ o. bytes16 p.entry ++ name_bytes o) h.1.1.0

each_procedure : (done ps : List ProcedureEntry) → each_fits (λ d. Fits (procedure d)) done ps
    → each_spelled (λ d. spelling (procedure d)) done ps ≡ flat_map procedure_bytes ps
each_procedure done [] h = refl
each_procedure done (p ∷ ps) h = λ j. procedure_spelled done p h.0 j ++ each_procedure (done ++ p ∷ []) ps h.1 j

procedures_spelled : (ps : List ProcedureEntry) → Fits procedures ps → spelling procedures ps ≡ procedures_bytes ps
unfolding procedures Fits spelling
procedures_spelled ps h = ap (λ (r : List ℕ). length ps ∷ r) (each_procedure [] ps h.2)

-- ---- fixups and strings
fixups_spelled : (imported : ℕ) (bytes places : List ℕ) → spelling (fixups imported bytes) places ≡ fixups_bytes places
unfolding fixups spelling
fixups_spelled imported bytes places = ap (λ (r : List ℕ). bytes16 (length places) ++ r) (spelled_flat bytes16 [] places)

strings_spelled : (words : ℕ) (ss : List DataString) → spelling (strings words) ss ≡ strings_bytes ss
unfolding strings string spelling
strings_spelled words ss = list_spelled u2 any (string words) ss

string_short : (words : ℕ) (s : DataString) → Fits (string words) s → short_string s
unfolding string Fits
string_short words s h = h.1.1.1

strings_short : (words : ℕ) (ss : List DataString) → Fits (strings words) ss → (length ss < 65536) × All short_string ss
unfolding strings
strings_short words ss h =
    let fits = list_fits u2 any (string words) ss h in
    (fits.0, All-weaker (Fits (string words)) short_string (string_short words) ss (All-from_recursion (Fits (string words)) ss fits.1))

-- ---- what stands behind the head
pub contents_spelled : (h : Head) (c : Contents) → Fits (contents h) c → spelling (contents h) c ≡ contents_bytes c
unfolding contents code source_text Fits spelling
contents_spelled h c fits = λ j.
    procedures_spelled c.procedures fits.1.0 j ++ ((bytes16 (length c.code) ++ c.code)
    ++ (fixups_spelled (length h.imports) c.code c.fixups j ++ (strings_spelled h.data_words c.strings j ++ (bytes32 (length c.text) ++ c.text))))

pub contents_short : (h : Head) (c : Contents) → Fits (contents h) c → IsShort c
unfolding contents procedures code fixups source_text Fits
contents_short h c fits =
    let parts = fits.1 in
    let strings = strings_short h.data_words c.strings parts.1.1.1.0 in
    record {
      procedures = parts.0.1;
      code = parts.1.0.1;
      fixups = parts.1.1.0.1;
      strings = strings.0;
      each_string = strings.1;
      text = parts.1.1.1.1.1;
    }
