-- Laws of what earlier calls leave: a volume without its files has it, other files don't matter, and a compilation keeps it.
use Rattle.std.proofs.Common.{◌≡◌, ◌⊎◌, inl, inr, ℕ, zero, suc, ◌+◌, ◌<◌, ◌≤◌, Bool, true, false, cond, if◌then◌else◌, List, [], ◌∷◌, ◌++◌, length, take, drop, Option, None, Some, Result, Ok, Err, refl, sym, ◌∙◌, ap, subst, arith}
use Rattle.std.specs.Prelude.{codes, slice_get}
use Rattle.std.specs.FinMap.{get, insert, get-insert, slice_cmp-IsAntisymmetric, nat_cmp-IsAntisymmetric}
use Rattle.std.specs.{Ordering.{eq_by_cmp, is_eq, nat_cmp}, declared.cmp.Ordering.{Ordering, TheVariants.{Less, Equal, Greater}}, Cmp.Lexicographic.{slice_cmp, bytes_decides}}
use Rattle.std.proofs.lemmas.{Cmp.{tied_itself, nat_list_cmp_total}, List.{append_cancel_right, length-append}, Option.slice_get_within, Bool.cases_lt}
use Rattle.std.proofs.Math.Seq.{drop-append_seam}
use Rattle.lil_base.specs.{Names.{is_name, book_file, file_of}, declared.{name.FileKind.TheVariants.{Symbols as SymbolsFile}}}
use Rattle.lil_text.specs.{declared.token.Token.Token, Lexical.{HasTokens, whole, longest_text}}
use Rattle.lil_language.specs.{Units.Reads, declared.unit.Unit.Unit as Tree}
use Rattle.lil_volume.specs.Told.{Files, with_writes}
use Rattle.lil_format.specs.{declared.stop.Stop.{TheVariants.{Left as Short, Memory}}, Names.{name, name_long}}
use Rattle.lil_format.specs.Format as format
use Rattle.lil_format.specs.{Format.{Format, shape, ◌▸◌, ◌>>=◌, Fits, reads, spelling, letters_in}, FormatLaws.file_only, Reading.{Outcome, Width, u1, and_then, such, field, ruled, run_of, run_in, number_in, ended, whole as whole_file}}
use Rattle.lil_symfile.specs.{declared.tree.SymbolFile.SymbolFile, Symbol.symbol_file, Laws.rests_fit}
use Rattle.lil_book.specs.{declared.book.{Book.Book, Entry.Entry}, Book.{book, no_entries, entry_with}, Laws.{no_entries_fits, with_entry, with_entry_fits, entry_fits, new_entry, old_entries}}
use Rattle.lil_text.specs.declared.tree.Ident.{Ident}
use Rattle.lil_scope.specs.Names.{same}
use Rattle.lil_interfaces.specs.declared.surface.Interface.{Interface}
use Rattle.lil_iface.specs.{Iface.IsInterface, Known.interface_in}
use Rattle.lil_imports.specs.{declared.gathering.Gathered.Gathered, Stored.{stored as stored_as, of_read}, Ran.Found, Laws.is_there}
use Rattle.lil_imports.specs.Gathering.{modules_of, nothing_gathered, and_stored, Gathers}
use Rattle.lil_imports.specs.declared.stored.Stored.TheVariants as stored
use Rattle.lil_compile.specs.{Compiled.{Compiled, compiled, entry_of, naming, next_key, IsBook, IsImported}, Command.IsWritten, Left.{AreEntries, IsOf, IsSymbols, Left}}

same_some : {A : Type 0} (a b : A) → Some a ≡ Some b → a ≡ b
same_some a b e = cc

-- ---- files after one was written
same_key : (a b : List ℕ) (o : Ordering) → slice_cmp nat_cmp a b ≡ o → is_eq o ≡ true → a ≡ b
same_key a b Equal is tied = slice_cmp-IsAntisymmetric nat_cmp-IsAntisymmetric a b is
same_key a b Less is tied = absurd cc
same_key a b Greater is tied = absurd cc

module _ (m : Files) (k v : List ℕ) where
  put_there : get (insert m k v) k ≡ Some v
  put_there = get-insert nat_list_cmp_total m k v k ∙ ap (λ (o : Ordering). cond (is_eq o) (Some v) (get m k)) (tied_itself nat_list_cmp_total k)

  -- what stands under a name was written there, or stood there before
  found_after : (q : List ℕ) (o : Option (List ℕ)) → get (insert m k v) q ≡ o → ((q ≡ k) × (o ≡ Some v)) ⊎ (get m q ≡ o)
  found_after q o is = by (eq_by_cmp (slice_cmp nat_cmp) q k) refl
    where
      law : get (insert m k v) q ≡ cond (eq_by_cmp (slice_cmp nat_cmp) q k) (Some v) (get m q)
      law = get-insert nat_list_cmp_total m k v q

      by : (b : Bool) → eq_by_cmp (slice_cmp nat_cmp) q k ≡ b → ((q ≡ k) × (o ≡ Some v)) ⊎ (get m q ≡ o)
      by true e = inl (same_key q k (slice_cmp nat_cmp q k) refl e, sym is ∙ (law ∙ ap (λ (b : Bool). cond b (Some v) (get m q)) e))
      by false e = inr (sym (law ∙ ap (λ (b : Bool). cond b (Some v) (get m q)) e) ∙ is)

  put_elsewhere : (q : List ℕ) → (q ≡ k → ⊥) → get (insert m k v) q ≡ get m q
  put_elsewhere q other = elim (found_after q (get (insert m k v) q) refl) [ inl h ↦ absurd (other h.0) | inr h ↦ sym h ]

-- a symbol file isn't the book
not_book : (x : List ℕ) → file_of x SymbolsFile ≡ book_file → ⊥
not_book x e = endings (sym (drop-append_seam x (codes ".SYM")) ∙ (ap (λ (t : List ℕ). drop (length x) t) e ∙ ap (λ (n : ℕ). drop n book_file) six))
  where
    six : length x ≡ 6
    six = let sum : length x + 4 ≡ 10 = sym (length-append x (codes ".SYM")) ∙ ap length e in omega arith

    numbers : ◌≡◌ {A = ℕ} 83 66 → ⊥
    numbers e = omega (arith, e)

    endings : codes ".SYM" ≡ codes ".BOK" → ⊥
    endings e = numbers (same_some 83 66 (ap (λ (t : List ℕ). slice_get t 1) e))

-- ---- books
same_ok : (b c : Book) (r : Result Book ℕ) → r ≡ Ok b → r ≡ Ok c → b ≡ c
same_ok b c r h k = cc

pub one_book : (found : Option (List ℕ)) (b c : Book) → IsBook found b → IsBook found c → b ≡ c
one_book None b c h k = h ∙ sym k
one_book (Some bytes) b c h k = same_ok b c (whole_file bytes (reads book bytes)) (file_only book bytes b h) (file_only book bytes c k)

book_fits : (found : Option (List ℕ)) (b : Book) → IsBook found b → Fits book b
book_fits None b h = subst (Fits book) (sym h) no_entries_fits
book_fits (Some bytes) b h = h.0

short_by : (text : List ℕ) (ts : List Token) → HasTokens text ts → length text ≤ longest_text
short_by text ts (whole short cuts) = short

-- ---- what is read of a format begins with what its first part reads
abbrev got : {A : Type 0} → A × List ℕ → Outcome A
got x = Ok x

same_got : {A : Type 0} (x y : A × List ℕ) → got x ≡ got y → x ≡ y
same_got x y e = cc

behind_letters : {A : Type 0} (front : List ℕ) (f : Format A) (bs : List ℕ) (a : A) (rest : List ℕ) → reads (front ▸ f) bs ≡ got (a, rest) → (mid : List ℕ) × (reads f mid ≡ got (a, rest))
unfolding reads
behind_letters {A = A} front f bs a rest is = by (letters_in front bs) is
  where
    by : (o : Outcome (Unit {0})) → and_then o (λ u. reads f) ≡ got (a, rest) → (mid : List ℕ) × (reads f mid ≡ got (a, rest))
    by (Ok x) h = (x.1, h)
    by (Err stop) h = absurd cc

of_shape : {A B : Type 0} (to : A → B) (back : B → A) (law : (a : A) → back (to a) ≡ a) (f : Format A) (bs : List ℕ) (b : B) (rest : List ℕ) → reads (shape to back law f) bs ≡ got (b, rest)
    → (a : A) × (to a ≡ b) × (reads f bs ≡ got (a, rest))
unfolding reads
of_shape {A = A} to back law f bs b rest is = by (reads f bs) is
  where
    by : (o : Outcome A) → and_then o (λ a rest. Ok (to a, rest)) ≡ got (b, rest) → (a : A) × (to a ≡ b) × (o ≡ got (a, rest))
    by (Ok x) h = let both = same_got (to x.0, x.1) (b, rest) h in (x.0, ap (λ p. p.0) both, ap (λ (more : List ℕ). got (x.0, more)) (ap (λ p. p.1) both))
    by (Err stop) h = absurd cc

first_of : {A B : Type 0} (f : Format A) (g : A → Format B) (bs : List ℕ) (p : A × B) (rest : List ℕ) → reads (f >>= g) bs ≡ got (p, rest) → (mid : List ℕ) × (reads f bs ≡ got (p.0, mid))
unfolding reads
first_of {A = A} {B = B} f g bs p rest is = by (reads f bs) is
  where
    second : (x : A × List ℕ) (o : Outcome B) → and_then o (λ b rest. Ok ((x.0, b), rest)) ≡ got (p, rest) → (mid : List ℕ) × (got x ≡ got (p.0, mid))
    second x (Ok last) h = (x.1, ap (λ (a : A). got (a, x.1)) (ap (λ q. q.0.0) (same_got ((x.0, last.0), last.1) (p, rest) h)))
    second x (Err stop) h = absurd cc

    by : (o : Outcome A) → and_then o (λ a mid. and_then (reads (g a) mid) (λ b rest. Ok ((a, b), rest))) ≡ got (p, rest) → (mid : List ℕ) × (o ≡ got (p.0, mid))
    by (Ok x) h = second x (reads (g x.0) x.1) h
    by (Err stop) h = absurd cc

-- a text that is read keeps its rule
text_right : (w : Width) (long : ℕ → Bool) (ok : List ℕ → Bool) (bs t rest : List ℕ) → reads (format.text w long ok) bs ≡ got (t, rest) → ok t ≡ true
unfolding reads
text_right w long ok bs t rest is = by (number_in w (such long) bs) is
  where
    kept : (here : ℕ) (u more : List ℕ) (b : Bool) → ok u ≡ b → ruled here more (if b then Some u else None) ≡ got (t, rest) → ok t ≡ true
    kept here u more true k h = ap ok (sym (ap (λ p. p.0) (same_got (u, more) (t, rest) h))) ∙ k
    kept here u more false k h = absurd cc

    run : (here : ℕ) (o : Option (List ℕ × List ℕ)) → field (such ok) here o ≡ got (t, rest) → ok t ≡ true
    run here (Some x) h = kept here x.0 x.1 (ok x.0) refl h
    run here None h = absurd cc

    by : (o : Outcome ℕ) → and_then o (λ size. run_in size ok) ≡ got (t, rest) → ok t ≡ true
    by (Ok x) h = run (length x.1) (run_of x.0 x.1) h
    by (Err stop) h = absurd cc

-- ---- symbol files, of which a module's name is known
name_read : (bs : List ℕ) (f : SymbolFile) (rest : List ℕ) → reads symbol_file bs ≡ got (f, rest) → is_name f.name ≡ true
unfolding symbol_file name
name_read bs f rest is =
    let a = behind_letters (codes "LSYM") _ bs f rest is in
    let b = behind_letters (1 ∷ []) _ a.0 f rest a.1 in
    let c = of_shape _ _ _ _ b.0 f rest b.1 in
    let d = first_of _ _ b.0 c.0 rest c.2 in
    subst (λ (g : SymbolFile). is_name g.name ≡ true) c.1 (text_right u1 name_long is_name b.0 c.0.0 d.0 d.1)

file_named : (bs : List ℕ) (f : SymbolFile) (o : Outcome SymbolFile) → reads symbol_file bs ≡ o → whole_file bs o ≡ Ok f → is_name f.name ≡ true
file_named bs f (Ok x) read is = by x.0 x.1 read is
  where
    ended_same : (g : SymbolFile) (r : Result SymbolFile ℕ) → r ≡ Ok g → r ≡ Ok f → g ≡ f
    ended_same g r h e = cc

    by : (g : SymbolFile) (rest : List ℕ) → reads symbol_file bs ≡ got (g, rest) → ended (length bs) g rest ≡ Ok f → is_name f.name ≡ true
    by g [] h e = subst (λ (x : SymbolFile). is_name x.name ≡ true) (ended_same g (Ok g) refl e) (name_read bs g [] h)
    by g (b ∷ more) h e = absurd cc
file_named bs f (Err (Short n)) read is = absurd cc
file_named bs f (Err Memory) read is = absurd cc

name_by : (n : List ℕ) (f : SymbolFile) (b : Bool) → same n f.name ≡ b → (i : Interface) → (if b then stored.There (interface_in f) else stored.Damaged) ≡ stored.There i → n ≡ f.name
name_by n f true h i is = (bytes_decides n f.name).0 h
name_by n f false h i is = absurd cc

read_named : (n bytes : List ℕ) (r : Result SymbolFile ℕ) → whole_file bytes (reads symbol_file bytes) ≡ r → (i : Interface) → of_read n r ≡ stored.There i → is_name n ≡ true
read_named n bytes (Ok f) read i is =
    subst (λ (m : List ℕ). is_name m ≡ true) (sym (name_by n f (same n f.name) refl i is)) (file_named bytes f (reads symbol_file bytes) refl read)
read_named n bytes (Err k) read i is = absurd cc

stored_named : (n : List ℕ) (o : Option (List ℕ)) (i : Interface) → stored_as n o ≡ stored.There i → (bytes : List ℕ) × (o ≡ Some bytes) × (is_name n ≡ true)
stored_named n None i is = absurd cc
stored_named n (Some bytes) i is = (bytes, refl, read_named n bytes (whole_file bytes (reads symbol_file bytes)) refl i is)

-- ---- imports without a fault: each module's symbol file is there
module _ (u : Tree) (P Q : List ℕ → Option (List ℕ) → Type 0) (also : (n : List ℕ) (o : Option (List ℕ)) (k : Interface) → P n o → stored_as n o ≡ stored.There k → Q n o) where
  gathers_there : (g : Gathered) (is : List Ident) (r : Gathered) → Gathers u P g is r → Gathers u Q g is r
  gathers_there g [] r h = h
  gathers_there g (i ∷ is) r (inl h) = inl (h.0, gathers_there g is r h.1)
  gathers_there g (i ∷ is) r (inr (new, (o, p, fine, rest))) =
      let t = is_there u g i (stored_as i.name o) fine in
      inr (new, (o, also i.name o t.0 p t.1, fine, gathers_there (and_stored g (stored_as i.name o)) is r rest))

of_also : (P Q : List ℕ → Option (List ℕ) → Type 0) → ((n : List ℕ) (o : Option (List ℕ)) → P n o → Q n o) → (key : ℕ) (e : Entry) (s : SymbolFile) → IsOf P key e s → IsOf Q key e s
of_also P Q also key e s h = record {
  unit = h.unit;
  read = h.read;
  named = h.named;
  gathered = h.gathered;
  imported = gathers_there h.unit P Q (λ n o k p is. also n o p) nothing_gathered (modules_of h.unit.head.imports) h.gathered h.imported;
  interface = h.interface;
  rests = h.rests;
}

-- ---- one entry more
module _ (es : List Entry) (e : Entry) where
  abbrev more : List Entry
  more = es ++ e ∷ []

  -- what was a symbol file before stays one
  symbols_more : (k : ℕ) → k ≤ length es → (n : List ℕ) (o : Option (List ℕ)) → IsSymbols es k n o → IsSymbols more k n o
  symbols_more zero le n o h = h
  symbols_more (suc k) le n o (inl h) = inl (symbols_more k (omega (arith, le)) n o h)
  symbols_more (suc k) le n o (inr (f, s, there, named, of, is)) =
      inr (f, s, old_entries es e (suc k) le ∙ there, named, of_also (IsSymbols es k) (IsSymbols more k) (symbols_more k (omega (arith, le))) (suc k) f s of, is)

  module _ (s : SymbolFile) (new : IsOf (IsSymbols es (length es)) (suc (length es)) e s) where
    new_more : IsOf (IsSymbols more (length es)) (suc (length es)) e s
    new_more = of_also (IsSymbols es (length es)) (IsSymbols more (length es)) (symbols_more (length es) (omega arith)) (suc (length es)) e s new

    more_entries : AreEntries es → AreEntries more
    more_entries are k f is = by (cases_lt k (length es))
      where
        at_end : k < length more
        at_end = slice_get_within more k f is

        by : (k < length es) ⊎ (length es ≤ k) → (r : SymbolFile) × IsOf (IsSymbols more k) (suc k) f r
        by (inl below) =
            let r = are k f (sym (old_entries es e (suc k) (omega (arith, below))) ∙ is) in
            (r.0, of_also (IsSymbols es k) (IsSymbols more k) (symbols_more k (omega (arith, below))) (suc k) f r.0 r.1)
        by (inr above) =
            let size : length more ≡ length es + 1 = length-append es (e ∷ []) in
            let last : length es ≡ k = omega (arith, above, size, at_end) in
            let same : e ≡ f = same_some e f (sym (new_entry es e) ∙ (ap (λ (n : ℕ). entry_with more (suc n)) last ∙ is)) in
            (s, subst (λ (n : ℕ). IsOf (IsSymbols more n) (suc n) f s) last (subst (λ (g : Entry). IsOf (IsSymbols more (length es)) (suc (length es)) g s) same new_more))

    size_more : length more ≡ suc (length es)
    size_more = let size : length more ≡ length es + 1 = length-append es (e ∷ []) in omega (arith, size)

    kept_symbols : (n : List ℕ) (o : Option (List ℕ)) → IsSymbols es (length es) n o → IsSymbols more (length more) n o
    kept_symbols n o h = subst (λ (k : ℕ). IsSymbols more k n o) (sym size_more) (inl (symbols_more (length es) (omega arith) n o h))

    new_symbols : IsSymbols more (length more) e.name (Some (spelling symbol_file s))
    new_symbols = subst (λ (k : ℕ). IsSymbols more k e.name (Some (spelling symbol_file s))) (sym size_more) (inr (e, s, new_entry es e, refl, new_more, refl))

-- ---- the laws
pub left_empty : (m : Files) → get m book_file ≡ None → ((x : List ℕ) → is_name x ≡ true → get m (file_of x SymbolsFile) ≡ None) → Left m
left_empty m none no_symbols = record {
  book = no_entries;
  there = subst (λ (o : Option (List ℕ)). IsBook o no_entries) (sym none) refl;
  entries = no_entry;
  symbols = λ x bytes named is. absurd (never (sym (no_symbols x named) ∙ is));
}
  where
    never : {bytes : List ℕ} → None ≡ Some bytes → ⊥
    never e = cc

    no_entry : AreEntries []
    no_entry k e is = absurd cc

pub left_other : (m n : Files) → get n book_file ≡ get m book_file → ((x : List ℕ) → is_name x ≡ true → get n (file_of x SymbolsFile) ≡ get m (file_of x SymbolsFile)) → Left m → Left n
left_other m n same_book same_symbols left = record {
  book = left.book;
  there = subst (λ (o : Option (List ℕ)). IsBook o left.book) (sym same_book) left.there;
  entries = left.entries;
  symbols = λ x bytes named is. left.symbols x bytes named (sym (same_symbols x named) ∙ is);
}

module _ (x text : List ℕ) (named : is_name x ≡ true) (m : Files) (left : Left m) (u : Tree) (read : Reads text u) (right : naming x u ≡ None) (b : Book) (there : IsBook (get m book_file) b)
    (g : Gathered) (imported : IsImported (Found (Some m)) u g) (s : SymbolFile) (interface : IsInterface u g.interfaces (next_key b) s) (room : length b.entries < 65535) where
  abbrev entry : Entry
  entry = entry_of x text s

  abbrev booked : Files
  booked = insert m book_file (spelling book (with_entry b entry))

  same_book : left.book ≡ b
  same_book = one_book (get m book_file) left.book b left.there there

  -- what was read as a symbol file is one of the entries'
  of_entries : (n : List ℕ) (o : Option (List ℕ)) (k : Interface) → Found (Some m) n o → stored_as n o ≡ stored.There k → IsSymbols b.entries (length b.entries) n o
  of_entries n o k found is =
      let t = stored_named n o k is in
      subst (λ (p : Option (List ℕ)). IsSymbols b.entries (length b.entries) n p) (sym t.1)
      (subst (λ (c : Book). IsSymbols c.entries (length c.entries) n (Some t.0)) same_book (left.symbols n t.0 t.2 (sym found ∙ t.1)))

  of_entry : IsOf (IsSymbols b.entries (length b.entries)) (suc (length b.entries)) entry s
  of_entry = record {
    unit = u;
    read = read;
    named = right;
    gathered = g;
    imported = gathers_there u (Found (Some m)) (IsSymbols b.entries (length b.entries)) of_entries nothing_gathered (modules_of u.head.imports) g imported;
    interface = subst (λ (n : ℕ). IsInterface u g.interfaces n s) (omega arith) interface;
    rests = refl;
  }

  spelled : Fits book (with_entry b entry)
  spelled =
      let short : length text ≤ 262144 = short_by text read.0 read.1 in
      let rests = rests_fit s interface.spelled in
      with_entry_fits b entry (book_fits (get m book_file) b there) (entry_fits entry named (omega (arith, short)) rests.0 rests.1) room

  left_booked : Left booked
  left_booked = record {
    book = with_entry b entry;
    there = subst (λ (o : Option (List ℕ)). IsBook o (with_entry b entry)) (sym (put_there m book_file (spelling book (with_entry b entry)))) (spelled, refl);
    entries = more_entries b.entries entry s of_entry (subst (λ (c : Book). AreEntries c.entries) same_book left.entries);
    symbols = λ y bytes is_y is.
        kept_symbols b.entries entry s of_entry y (Some bytes) (subst (λ (c : Book). IsSymbols c.entries (length c.entries) y (Some bytes)) same_book
        (left.symbols y bytes is_y (sym (put_elsewhere m book_file (spelling book (with_entry b entry)) (file_of y SymbolsFile) (not_book y)) ∙ is)));
  }

  abbrev all : List Entry
  all = b.entries ++ entry ∷ []

  left_both : Left (insert booked (file_of x SymbolsFile) (spelling symbol_file s))
  unfolding left_booked
  left_both = record {
    book = with_entry b entry;
    there = subst (λ (o : Option (List ℕ)). IsBook o (with_entry b entry)) (sym (put_elsewhere booked (file_of x SymbolsFile) (spelling symbol_file s) book_file (λ e. not_book x (sym e)))) left_booked.there;
    entries = left_booked.entries;
    symbols = λ y bytes is_y is. by y bytes is_y (found_after booked (file_of x SymbolsFile) (spelling symbol_file s) (file_of y SymbolsFile) (Some bytes) is);
  }
    where
      by : (y bytes : List ℕ) → is_name y ≡ true → ((file_of y SymbolsFile ≡ file_of x SymbolsFile) × (Some bytes ≡ Some (spelling symbol_file s))) ⊎ (get booked (file_of y SymbolsFile) ≡ Some bytes)
          → IsSymbols all (length all) y (Some bytes)
      by y bytes is_y (inl h) =
          subst (λ (o : Option (List ℕ)). IsSymbols all (length all) y o) (sym h.1)
          (subst (λ (n : List ℕ). IsSymbols all (length all) n (Some (spelling symbol_file s))) (sym (append_cancel_right y x (codes ".SYM") h.0)) (new_symbols b.entries entry s of_entry))
      by y bytes is_y (inr h) = left_booked.symbols y bytes is_y h

  left_after : (n : Files) (k : ℕ) → Some n ≡ with_writes (Some m) (take k (compiled x text b s).writes) → Left n
  left_after n zero is = subst Left (sym (same_some n m is)) left
  left_after n (suc zero) is = subst Left (sym (same_some n booked is)) left_booked
  left_after n (suc (suc zero)) is = subst Left (sym (same_some n _ is)) left_both
  left_after n (suc (suc (suc k))) is = subst Left (sym (same_some n _ is)) left_both

pub left_written : (x : List ℕ) (m n : Files) → is_name x ≡ true → IsWritten x (Some m) (Some n) → Left m → Left n
left_written x m n named w left =
    let c = w.made.compiled in
    left_after x w.made.text named m left c.unit c.read c.named c.entries (subst (λ (o : Option (List ℕ)). IsBook o c.entries) w.made.book c.there) c.gathered c.imported c.symbols c.interface c.room n w.n
    (w.is ∙ ap (λ (d : Compiled). with_writes (Some m) (take w.n d.writes)) c.is)
