-- The code of a whole module, settled.
use Rattle.std.proofs.Common.{false, ◌≡◌, ℕ, zero, suc, ◌+◌, ◌%◌, ◌<◌, ◌≤◌, List, [], ◌∷◌, ◌++◌, length, take, get_or, Option, Some, None, refl, sym, ap, ◌∙◌, subst, arith, append-nil, append_assoc}
use Rattle.std.specs.{Prelude.{slice_get, map}, Option.option_map, List.{All, Sorted.IsStrictlyIncreasing}}
use Rattle.std.proofs.lemmas.{Option.{none-some, same_Some, slice_get-map, slice_get_within}, List.{length-map, length-take-le, take_all, get_or-map, map_more}, Simd.map-map}
use Rattle.lil_resolved.specs.{declared.{resolved.{RModule.RModule, RHeading.RHeading, RProcedure.RProcedure, RDeclared.RDeclared, RPassing.{RPassing, TheVariants.{ByValue, ByPlace, Open}}, ROpening.TheVariants.{Copied, Lent}}, shapes.RShape.RShape}, Kinds.{Kind, Shape, Opened, words, all_words, shape_at, offsets_from}, Plain.{IsPlain, plain_at}, Resolved.{Statements, Procedure, Resolved, outline_of, scope_in}, Sizes.{body_words, body_strings, procedures_strings, module_strings, code_size, frame_words}, Views.{kind_view, offset_of, held_by, shape_declared, shapes_of, statements_of, locals_of, heading_of, procedure_of, module_of, IsMeasured, IsMeasuredHeading}, Sound.{IsSoundBody, IsSound}}
use Rattle.lil_asm.specs.{declared.instr.Instr.{Instr, TheVariants.{Ent, Cpy}}, Stretches.{stretch, stretch_long, stretch_short, stretch_has}}
use Rattle.lil_table.specs.{Rows.{framed, leave_code, copy_code, copies_code, loop_place, IsAt, InstrsAt, Layout, StretchRow, ProceduresAt, in_procedure as layout_in, TranslatesBy, TranslatesAs, layout_by, exactly, cut}, Patching.patched, Lengths.{framed_long, procedures_long, module_long}}
use Rattle.lil_labels.specs.{Tables.{Tables, Describe, chain_from, chain_of, outline_with}, Drafts.{Draft, empty, in_procedure, Final, Fits, Meaning, Adds, Emits, Doing, AreFixed, written, places_of, code_of, settled_word, word_in}, Fixing.{as_said, patched_numbers, fixups_rise, names_itself}, Settling.{written_long, code_long}, Emitting.{emits_then, emits_as, adds_as, emits_tied, take_next}}
use Rattle.lil_stmt.specs.Generating.{Body}
use Rattle.lil_unit.specs.Framing.{AreFramed, Copying, copy_passed, copy_declared, copies_declared, Framed, tables_in, IsStretch, Apart, EachFramed, AllFramed}

-- variables that lie one behind another lie in the words of all
lies_within : (ts : List RShape) (vs : List RDeclared) (first x : ℕ) (v : RDeclared) → map offset_of vs ≡ offsets_from first (map (shape_declared ts) vs) → slice_get vs x ≡ Some v
    → v.offset + words (shape_declared ts v) ≤ first + all_words (map (shape_declared ts) vs)
lies_within ts [] first x v h e = absurd (none-some v e)
lies_within ts (w ∷ vs) first zero v h e =
    let here : w.offset ≡ first = cc in
    let same = same_Some w v e in
    omega (arith, here, ap (λ (v : RDeclared). v.offset) same, ap (λ (v : RDeclared). words (shape_declared ts v)) same)
lies_within ts (w ∷ vs) first (suc x) v h e =
    let rest : map offset_of vs ≡ offsets_from (first + words (shape_declared ts w)) (map (shape_declared ts) vs) = cc in
    omega (arith, lies_within ts vs (first + words (shape_declared ts w)) x v rest e)

-- ---- one behind another
pub is_framed : (result : Option Kind) (leave : Instr) (ss : Statements) (cut words : ℕ) (vs : List RDeclared) (n : ℕ) (a b c d e : Draft) → leave ≡ leave_code result → words ≡ framed (loop_place cut + body_words ss)
    → Emits a b (Doing (λ w. Ent words)) → Emits b c (Copying (take n vs)) → Adds (body_strings ss) c d (Body cut None ss) → Emits d e (Doing (λ w. leave))
    → (locals parameters : List Shape) → AreFramed a.tables.shapes cut vs n locals parameters → Adds (body_strings ss) a e (Framed result locals parameters ss)
is_framed result leave ss cut words vs n a b c d e end is enter copies body left locals parameters taken =
    let whole : words ≡ framed (frame_words locals ss) = omega (arith, is, taken.words) in
    adds_as a e (Framed result locals parameters ss) (append-nil (body_strings ss))
    (emits_as a e _ (Framed result locals parameters ss)
    (λ x t.
    let copied = t.1.0 in
    let same : copies_declared x.tables.shapes (take n vs) ≡ copies_code 4 parameters = ap (λ (ts : Tables). copies_declared ts.shapes (take n vs)) (copied.1 ∙ enter.same) ∙ taken.copies in
    record {
      begun = length b.bytes;
      start = length c.bytes;
      end = length d.bytes;
      enter = subst (λ (w : ℕ). IsAt x.code (length a.bytes) (Ent w) (length b.bytes)) whole t.0;
      copies = subst (λ (is : List Instr). InstrsAt x.code is (length b.bytes) (length c.bytes)) same copied.0;
      body = subst (λ (n : ℕ). Body n None ss x (length c.bytes) (length d.bytes)) taken.words t.1.1.0;
      leave = subst (λ (i : Instr). IsAt x.code (length d.bytes) i (length e.bytes)) end t.1.1.1;
    })
    (emits_then a b e _ _ enter (emits_then b c e _ _ (emits_tied b c _ copies) (emits_then c d e _ _ body left))))

-- ---- copies
-- no shape of the tables is an open array
copy_plain : (o : ℕ) (t : Shape) → IsPlain t → copy_code o t ≡ []
copy_plain o (Opened copied u) plain = absurd ((plain u).1 copied refl)
copy_plain o _ plain = refl

copied : (ts : List RShape) (v : RDeclared) (o : ℕ) → v.offset ≡ framed o → copy_declared ts v ≡ copy_code o (shape_declared ts v)
copied ts v o is = by v.passing (shape_at (shapes_of ts) v.shape) (plain_at ts v.shape)
  where
    by : (p : RPassing) (t : Shape) → IsPlain t → copy_passed p v.offset (words t) ≡ copy_code o (held_by p t)
    by ByValue t plain = sym (copy_plain o t plain)
    by ByPlace t plain = refl
    by (Open Lent) t plain = refl
    by (Open Copied) t plain = ap (λ (n : ℕ). Cpy n (words t) ∷ []) is

copies_are : (ts : List RShape) (vs : List RDeclared) (o n : ℕ) → map offset_of vs ≡ map framed (offsets_from o (map (shape_declared ts) vs)) → copies_declared ts (take n vs) ≡ copies_code o (take n (map (shape_declared ts) vs))
copies_are ts vs o zero h = refl
copies_are ts [] o (suc n) h = refl
copies_are ts (v ∷ vs) o (suc n) h =
    let here : v.offset ≡ framed o = cc in
    let rest : map offset_of vs ≡ map framed (offsets_from (o + words (shape_declared ts v)) (map (shape_declared ts) vs)) = cc in
    ap (λ (is : List Instr). is ++ copies_declared ts (take n vs)) (copied ts v o here) ∙ ap (λ (is : List Instr). copy_code o (shape_declared ts v) ++ is) (copies_are ts vs (o + words (shape_declared ts v)) n rest)

-- instructions behind others
instrs_behind : (is js : List Instr) (code : List ℕ) (p q r : ℕ) → InstrsAt code is p q → InstrsAt code js q r → InstrsAt code (is ++ js) p r
instrs_behind [] js code p q r first rest = subst (λ (p : ℕ). InstrsAt code js p r) (sym first) rest
instrs_behind (i ∷ is) js code p q r first rest = (first.0, first.1, instrs_behind is js code first.0 q r first.2 rest)

copies_more : (ts : List RShape) (vs : List RDeclared) (v : RDeclared) → copies_declared ts vs ++ copies_declared ts (v ∷ []) ≡ copies_declared ts (vs ++ v ∷ [])
copies_more ts [] v = refl
copies_more ts (u ∷ vs) v = append_assoc (copy_declared ts u) (copies_declared ts vs) (copies_declared ts (v ∷ [])) ∙ ap (λ (is : List Instr). copy_declared ts u ++ is) (copies_more ts vs v)

-- the copies of one variable more
copies_emitted : (vs : List RDeclared) (v : RDeclared) (a b c : Draft) → Emits a b (Copying vs) → Emits b c (Copying (v ∷ [])) → Emits a c (Copying (vs ++ v ∷ []))
copies_emitted vs v a b c so_far next =
    emits_as a c _ (Copying (vs ++ v ∷ []))
    (λ x t.
    let ts = x.tables.shapes in
    subst (λ (is : List Instr). InstrsAt x.code is (length a.bytes) (length c.bytes)) (copies_more ts vs v)
    (instrs_behind (copies_declared ts vs) (copies_declared ts (v ∷ [])) x.code (length a.bytes) (length b.bytes) (length c.bytes) t.0 t.1))
    (emits_then a b c _ _ so_far next)

-- in a loop over all variables, where the next one is a parameter, and where it isn't
pub parameter_copied : (vs : List RDeclared) (n i : ℕ) (v : RDeclared) (a b c : Draft) → i < length vs → v ≡ get_or vs i v → i < n → Emits a b (Copying (take n (take i vs))) → Emits b c (Copying (v ∷ [])) → Emits a c (Copying (take n (take (i + 1) vs)))
parameter_copied vs n i v a b c inside is low so_far next =
    let before : take n (take i vs) ≡ take i vs = take_all n (take i vs) (omega (arith, length-take-le i vs (omega arith), low)) in
    let after : take n (take (i + 1) vs) ≡ take (i + 1) vs = take_all n (take (i + 1) vs) (omega (arith, length-take-le (i + 1) vs (omega arith), low)) in
    subst (λ (us : List RDeclared). Emits a c (Copying us)) (sym (after ∙ take_next vs i v inside is))
    (copies_emitted (take i vs) v a b c (subst (λ (us : List RDeclared). Emits a b (Copying us)) before so_far) next)

take_less : (vs : List RDeclared) (n i : ℕ) → n ≤ i → take n (take i vs) ≡ take n vs
take_less vs zero i h = refl
take_less vs (suc n) zero h = absurd (omega arith)
take_less [] (suc n) (suc i) h = refl
take_less (v ∷ vs) (suc n) (suc i) h = ap (λ (us : List RDeclared). v ∷ us) (take_less vs n i (omega arith))

pub other_passed : (vs : List RDeclared) (n i : ℕ) (a b : Draft) → n ≤ i → Emits a b (Copying (take n (take i vs))) → Emits a b (Copying (take n (take (i + 1) vs)))
other_passed vs n i a b past = subst (λ (us : List RDeclared). Emits a b (Copying us)) (take_less vs n i past ∙ sym (take_less vs n (i + 1) (omega arith)))

-- a measured heading has the words of its variables, and its copies
heading_framed : (ts : List RShape) (h : RHeading) → IsMeasuredHeading ts h → AreFramed ts h.words h.locals h.parameters (locals_of ts h) (take h.parameters (locals_of ts h))
heading_framed ts h measured = record { words = measured.words; copies = copies_are ts h.locals 4 h.parameters measured.offsets }

-- the same final code in a procedure, or in the body
abbrev entered : Option ℕ → Final → Final
entered own x = record {
  tables = tables_in own x.tables;
  layout = record x.layout { scope = record x.layout.scope { chain = chain_of x.tables.procedures own } };
  described = record {
    measured = x.described.measured;
    targets = x.described.targets;
    shapes = x.described.shapes;
    offsets = x.described.offsets;
    within = x.described.within;
    words = x.described.words;
    procedures = x.described.procedures;
    chain = refl;
    each = x.described.each;
    held = x.described.held;
    held_shapes = x.described.held_shapes;
  };
  room = x.room;
  word = x.word;
  from = x.from;
  code = x.code;
  cuts = x.cuts;
}

-- what was added fits the stretch of the final code that it is
fits_apart : (own : Option ℕ) (a b : Draft) (x y : Final) → length a.bytes ≤ length b.bytes → Fits b (entered own x) → x.from ≤ length a.bytes → IsStretch own x (length a.bytes) (length b.bytes) y → Fits b y
fits_apart own a b x y grows fits low is = record {
  same = is.tables ∙ fits.same;
  more = fits.more;
  strings = is.strings ∙ fits.strings;
  bytes = λ j c above at.
      let here : slice_get (code_of b x.word x.layout.numbers) j ≡ Some c =
      ap (λ (w : ℕ → ℕ). slice_get (code_of b w x.layout.numbers) j) (sym is.word) ∙ ap (λ (ns : ℕ → ℕ). slice_get (code_of b y.word ns) j) (sym is.numbers) ∙ at in
      let inside : j < length b.bytes = omega (arith, slice_get_within (code_of b x.word x.layout.numbers) j c here, code_long b x.word x.layout.numbers) in
      let first : length a.bytes ≤ j = omega (arith, above, is.from) in
      ap (λ (code : List ℕ). slice_get code j) is.code ∙ stretch_has (length a.bytes) (length b.bytes) x.code j first inside ∙ fits.bytes j c (omega (arith, low, first)) here;
  long = omega (arith, ap length is.code, stretch_long (length a.bytes) (length b.bytes) x.code fits.long);
  placed = λ l q at. ap (λ (w : ℕ → ℕ). w l) is.word ∙ fits.placed l q at ∙ ap (λ (t : ℕ → ℕ). t q) (sym is.target);
}

-- what is added in a procedure, or in the body, stands by itself
apart : {words : List ℕ} (own : Option ℕ) (a b : Draft) (T : Meaning) → Adds words (in_procedure own a) b T → Adds words a (in_procedure a.tables.own b) (Apart own T)
apart own a b T t =
    let restored : tables_in a.tables.own b.tables ≡ a.tables = ap (tables_in a.tables.own) t.same in
    let within : (x : Final) → Fits (in_procedure a.tables.own b) x → Fits b (entered own x) = λ x fits. record {
      same = ap (tables_in own) (fits.same ∙ restored) ∙ sym t.same;
      more = fits.more;
      strings = fits.strings;
      bytes = fits.bytes;
      long = fits.long;
      placed = fits.placed;
    } in
    record {
      grows = t.grows;
      same = restored;
      strings = t.strings;
      keeps = t.keeps;
      made = t.made;
      back = λ x fits.
          let earlier = t.back (entered own x) (within x fits) in
          record { same = fits.same ∙ restored; more = earlier.more; strings = earlier.strings; bytes = earlier.bytes; long = earlier.long; placed = earlier.placed };
      meant = λ x fits low y is. t.meant y (fits_apart own a b x y t.grows (within x fits) low is) (omega (arith, is.from));
    }

-- one procedure more
each_one : (i j : ℕ) (ps : List Procedure) (es : List ℕ) (its : Procedure) (x : Final) (p m q : ℕ) → j ≡ i + length ps → EachFramed i ps es x p m → Apart (Some j) (Framed its.result its.locals (take its.parameters its.locals) its.body) x m q → EachFramed i (ps ++ its ∷ []) (es ++ m % 65536 ∷ []) x p q
each_one i j [] [] its x p m q last h t =
    let first : j ≡ i = omega arith in
    subst (λ (n : ℕ). EachFramed i (its ∷ []) (m % 65536 ∷ []) x n q) (sym h) (q, refl, subst (λ (k : ℕ). Apart (Some k) (Framed its.result its.locals (take its.parameters its.locals) its.body) x m q) first t, refl)
each_one i j (a ∷ ps) (e ∷ es) its x p m q last h t = (h.0, h.1, h.2, each_one (suc i) j ps es its x h.0 m q (omega arith) h.3 t)
each_one i j [] (e ∷ es) its x p m q last h t = absurd h
each_one i j (a ∷ ps) [] its x p m q last h t = absurd h

strings_one : (ps : List Procedure) (its : Procedure) → procedures_strings ps ++ body_strings its.body ≡ procedures_strings (ps ++ its ∷ [])
strings_one [] its = sym (append-nil (body_strings its.body))
strings_one (a ∷ ps) its = append_assoc (body_strings a.body) (procedures_strings ps) (body_strings its.body) ∙ ap (λ (ws : List ℕ). body_strings a.body ++ ws) (strings_one ps its)

-- the procedure with this number behind those before it
pub procedure_more : (rs : List RProcedure) (i : ℕ) (r : RProcedure) (es more : List ℕ) (a b c : Draft) → All (IsMeasuredHeading a.tables.shapes) (map heading_of rs) → i < length rs → r ≡ get_or rs i r → more ≡ es ++ length b.bytes % 65536 ∷ []
    → Adds (procedures_strings (map (procedure_of a.tables.shapes) (take i rs))) a (in_procedure a.tables.own b) (EachFramed 0 (map (procedure_of a.tables.shapes) (take i rs)) es)
    → ((locals parameters : List Shape) → AreFramed a.tables.shapes r.heading.words r.heading.locals r.heading.parameters locals parameters
    → Adds (body_strings (statements_of r.body)) (in_procedure (Some i) b) c (Framed (option_map kind_view r.heading.result) locals parameters (statements_of r.body)))
    → Adds (procedures_strings (map (procedure_of a.tables.shapes) (take (i + 1) rs))) a (in_procedure a.tables.own c) (EachFramed 0 (map (procedure_of a.tables.shapes) (take (i + 1) rs)) more)
procedure_more rs i r es more a b c measured inside is entry so_far here =
    let of = procedure_of a.tables.shapes in
    let ps = map of (take i rs) in
    let d = in_procedure a.tables.own c in
    let all : map of (take (i + 1) rs) ≡ ps ++ of r ∷ [] = map_more of rs i r inside ∙ ap (λ (q : RProcedure). ps ++ of q ∷ []) (sym is) in
    let last : i ≡ 0 + length ps = omega (arith, length-map (take i rs) of, length-take-le i rs (omega arith)) in
    let known = subst (IsMeasuredHeading a.tables.shapes) (get_or-map heading_of rs i r r.heading inside ∙ ap heading_of (sym is)) (measured i r.heading (omega (arith, length-map rs heading_of))) in
    subst (λ (qs : List Procedure). Adds (procedures_strings qs) a d (EachFramed 0 qs more)) (sym all)
    (subst (λ (ns : List ℕ). Adds (procedures_strings (ps ++ of r ∷ [])) a d (EachFramed 0 (ps ++ of r ∷ []) ns)) (sym entry)
    (adds_as a d _ (strings_one ps (of r))
    (emits_as a d _ (EachFramed 0 (ps ++ of r ∷ []) (es ++ length b.bytes % 65536 ∷ []))
    (λ x t. each_one 0 i ps es (of r) x (length a.bytes) (length b.bytes) (length c.bytes) last t.0 t.1)
    (emits_then a (in_procedure a.tables.own b) d _ _ so_far (apart (Some i) (in_procedure a.tables.own b) c _ (here (locals_of a.tables.shapes r.heading) (take r.heading.parameters (locals_of a.tables.shapes r.heading)) (heading_framed a.tables.shapes r.heading known)))))))

pub all_framed : (m : Resolved) (entries : List ℕ) (a b c : Draft) → Adds (body_strings m.body) (in_procedure None a) b (Framed None [] [] m.body) → Adds (procedures_strings m.procedures) b (in_procedure b.tables.own c) (EachFramed 0 m.procedures entries)
    → Adds (module_strings m) (in_procedure None a) (in_procedure None c) (AllFramed m entries)
all_framed m entries a b c body procedures =
    let same : b ≡ in_procedure None b = ap (λ (ts : Tables). record b { tables = ts }) body.same ∙ sym (ap (λ (ts : Tables). record b { tables = tables_in None ts }) body.same) in
    let behind = subst (λ (d : Draft). Adds (procedures_strings m.procedures) d (in_procedure d.tables.own c) (EachFramed 0 m.procedures entries)) same procedures in
    emits_as (in_procedure None a) (in_procedure None c) _ (AllFramed m entries) (λ x t. (length b.bytes, t.0, t.1))
    (emits_then (in_procedure None a) (in_procedure None b) (in_procedure None c) _ _ (apart None (in_procedure None a) b _ body) behind)

-- the code of a module, with labels, and where its procedures begin in it
abbrev pub Emitted : RModule → List ℕ → Draft → Type 0
Emitted r entries d = Adds (module_strings (module_of r)) (empty r.shapes r.targets r.variables r.words (map heading_of r.procedures)) (in_procedure None d) (AllFramed (module_of r) entries)

-- ---- settled

module _ (r : RModule) (entries : List ℕ) (d : Draft) (sound : IsSound (module_of r)) (measured : IsMeasured r) (fits : all_words (module_of r).variables + length (module_strings (module_of r)) ≤ 32000)
    (emitted : Emitted r entries d) where
  abbrev m : Resolved
  m = module_of r

  abbrev headings : List RHeading
  headings = map heading_of r.procedures

  abbrev tables : Option ℕ → Tables
  tables own = record { shapes = r.shapes; targets = r.targets; variables = r.variables; words = r.words; procedures = headings; own = own; held = [] }

  -- the layout of statements in a procedure, or in the body
  abbrev laid : (target numbers : ℕ → ℕ) → List ℕ → List Shape → Statements → Layout
  laid target numbers chain locals ss = record (layout_by target numbers d.strings m) { scope = scope_in m chain; frame = frame_words locals ss }

  described : (target numbers : ℕ → ℕ) (own : Option ℕ) (chain : List ℕ) (locals : List Shape) (ss : Statements) → chain ≡ chain_of headings own → Describe (tables own) (laid target numbers chain locals ss)
  described target numbers own chain locals ss is = record {
    measured = measured.shapes;
    targets = refl;
    shapes = refl;
    offsets = sym measured.offsets;
    within = λ x v at. omega (arith, lies_within r.shapes r.variables 0 x v measured.offsets at, fits);
    words = sym measured.words;
    procedures = map-map outline_of (procedure_of r.shapes) r.procedures ∙ sym (map-map (outline_with r.shapes) heading_of r.procedures);
    chain = is;
    each = measured.procedures;
    held = refl;
    held_shapes = refl;
  }

  -- a procedure and those around it
  chain_is : (i : ℕ) (its : Procedure) → slice_get m.procedures i ≡ Some its → suc i ∷ its.around ≡ chain_of headings (Some i)
  chain_is i its at = by (slice_get r.procedures i) (sym (slice_get-map (procedure_of r.shapes) r.procedures i) ∙ at) ∙ sym (ap (chain_from i) (slice_get-map heading_of r.procedures i))
    where
      by : (o : Option RProcedure) → option_map (procedure_of r.shapes) o ≡ Some its → suc i ∷ its.around ≡ chain_from i (option_map heading_of o)
      by None h = absurd (none-some its h)
      by (Some p) h = ap (λ (q : Procedure). suc i ∷ q.around) (sym (same_Some (procedure_of r.shapes p) its h))

  -- the settled code, where modules have these numbers
  abbrev code : (ℕ → ℕ) → List ℕ
  code numbers = code_of d (settled_word d.places) numbers

  long : (numbers : ℕ → ℕ) → length (code numbers) ≡ length d.bytes
  long numbers = code_long d (settled_word d.places) numbers

  pub strings_are : d.strings ≡ module_strings m
  strings_are = emitted.strings

  -- numbers up to that of the bytes are written cut to 16 bits
  abbrev Cuts : (ℕ → ℕ) → Type 0
  Cuts target = (n : ℕ) → n ≤ length d.bytes → target n ≡ n % 65536

  -- a part of the code, and what stands in it
  settled : (target numbers : ℕ → ℕ) (own : Option ℕ) (chain : List ℕ) (locals : List Shape) (ss : Statements) → chain ≡ chain_of headings own → Cuts target → (from : ℕ) (part : List ℕ) → length part ≤ length d.bytes → Final
  settled target numbers own chain locals ss is cuts from part short = record {
    tables = tables own;
    layout = laid target numbers chain locals ss;
    described = described target numbers own chain locals ss is;
    room = omega (arith, fits, ap length strings_are);
    word = settled_word d.places;
    from = from;
    code = part;
    cuts = λ n less. cuts n (omega (arith, less, short));
  }

  -- where each place has its word, the settled code is a translation
  module _ (target numbers : ℕ → ℕ) (cuts : Cuts target) (words : (l q : ℕ) → slice_get d.places l ≡ Some (Some q) → q % 65536 ≡ target q) where
    abbrev final : List ℕ
    final = code numbers

    x : Final
    x = settled target numbers None [] [] m.body refl cuts 0 final (omega (arith, long numbers))

    framed_at : (own : Option ℕ) (chain : List ℕ) (result : Option Kind) (locals parameters : List Shape) (ss : Statements) (p q : ℕ) → chain ≡ chain_of headings own → IsSoundBody (scope_in m chain) false ss → Apart own (Framed result locals parameters ss) x p q
        → StretchRow (laid target numbers chain locals ss) final result locals parameters ss p q
    unfolding settled x
    framed_at own chain result locals parameters ss p q is right t =
        let f = t (settled target numbers own chain locals ss is cuts p (stretch p q final) (omega (arith, stretch_short p q final, long numbers))) (record { tables = refl; strings = refl; target = refl; numbers = refl; word = refl; from = refl; code = refl }) in
        record { begun = f.begun; start = f.start; end = f.end; enter = f.enter; copies = f.copies; body = f.body (all_words locals) refl right (omega arith); leave = f.leave }

    procedures_at : (i : ℕ) (ps : List Procedure) (es : List ℕ) (p q : ℕ) → q ≤ length final → ((k : ℕ) (its : Procedure) → slice_get ps k ≡ Some its → slice_get m.procedures (i + k) ≡ Some its)
        → EachFramed i ps es x p q → ProceduresAt (layout_by target numbers d.strings m) final (suc i) ps es p q
    procedures_at i [] [] p q inside those h = h
    procedures_at i (its ∷ ps) (e ∷ es) p q inside those h =
        let l = layout_by target numbers d.strings m in
        let first : i + 0 ≡ i = omega arith in
        let at = subst (λ (j : ℕ). slice_get m.procedures j ≡ Some its) first (those 0 its refl) in
        let here = framed_at (Some i) (suc i ∷ its.around) its.result its.locals (take its.parameters its.locals) its.body p h.0 (chain_is i its at) (sound.procedures (suc i) its at) h.2 in
        let then = procedures_at (suc i) ps es h.0 q inside (λ k a is. let next : i + suc k ≡ suc i + k = omega arith in subst (λ (j : ℕ). slice_get m.procedures j ≡ Some a) next (those (suc k) a is)) h.3 in
        let before : p ≤ length d.bytes = omega (arith, inside, long numbers, framed_long (layout_in l (suc i) its) (stretch p h.0 final) its.result its.locals (take its.parameters its.locals) its.body p h.0 here, procedures_long l final (suc (suc i)) ps es h.0 q then) in
        (h.1 ∙ sym (cuts p before), record { middle = h.0; here = here; then = then })
    procedures_at i [] (e ∷ es) p q inside those h = absurd h
    procedures_at i (its ∷ ps) [] p q inside those h = absurd h

    settled_translates : TranslatesBy (layout_by target numbers d.strings m) m entries final
    unfolding settled x
    settled_translates =
        let same_long = long numbers in
        let begins : Fits (in_procedure None d) x = record { same = sym emitted.same; more = []; strings = sym (append-nil d.strings); bytes = λ j b low at. at; long = omega (arith, same_long); placed = λ l q h. ap word_in h ∙ words l q h } in
        let t = emitted.meant x begins (omega arith) in
        record {
          middle = t.0;
          body = framed_at None [] None [] [] m.body 0 t.0 refl sound.body t.1;
          procedures = subst (λ (q : ℕ). ProceduresAt (layout_by target numbers d.strings m) final 1 m.procedures entries t.0 q) (sym same_long) (procedures_at 0 m.procedures entries t.0 _ (omega (arith, same_long)) (λ k its at. let same : k ≡ 0 + k = omega arith in subst (λ (j : ℕ). slice_get m.procedures j ≡ Some its) same at) t.2);
        }

  pub settled_long : (numbers : ℕ → ℕ) → length (code numbers) ≡ code_size m
  settled_long numbers = module_long (layout_by cut numbers d.strings m) m entries (code numbers) (settled_translates cut numbers (λ n less. refl) (λ l q h. refl))

  pub draft_long : length d.bytes ≡ code_size m
  draft_long = sym (long as_said) ∙ settled_long as_said

  -- where the code is short, that is with the numbers as they are
  pub exact : length d.bytes ≤ 32767 → ((l q : ℕ) → slice_get d.places l ≡ Some (Some q) → q ≤ length d.bytes) → (numbers : ℕ → ℕ) → TranslatesAs numbers m (module_strings m) entries (code numbers)
  exact short behind numbers =
      subst (λ (strings : List ℕ). TranslatesAs numbers m strings entries (code numbers)) strings_are
      (settled_translates exactly numbers (λ n less. omega (arith, less, short)) (λ l q h. omega (arith, behind l q h, short)))

  -- the code as it is settled, with its fixups
  module _ (made places : List ℕ) (fixed : AreFixed 0 (length d.bytes) d.fixups) (is : made ≡ code as_said) (at : places ≡ places_of d.fixups) where
    abbrev before : List ℕ
    before = written (settled_word d.places) d.bytes d.jumps

    within : AreFixed 0 (length before) d.fixups
    within = subst (λ (n : ℕ). AreFixed 0 n d.fixups) (sym (written_long (settled_word d.places) d.bytes d.jumps)) fixed

    pub patched_code : (numbers : ℕ → ℕ) → patched numbers made places ≡ code numbers
    patched_code numbers = ap (patched numbers made) at ∙ ap (λ (c : List ℕ). patched numbers c (places_of d.fixups)) is ∙ patched_numbers numbers 0 before d.fixups within

    pub places_rise : IsStrictlyIncreasing places
    places_rise = subst IsStrictlyIncreasing (sym at) (fixups_rise 0 (length d.bytes) d.fixups fixed)

    pub names_itself_there : All (λ p. slice_get made p ≡ Some 0) places
    names_itself_there =
        subst (λ (ps : List ℕ). All (λ p. slice_get made p ≡ Some 0) ps) (sym at)
        (subst (λ (c : List ℕ). All (λ p. slice_get c p ≡ Some 0) (places_of d.fixups)) (sym is) (names_itself 0 before d.fixups within))
